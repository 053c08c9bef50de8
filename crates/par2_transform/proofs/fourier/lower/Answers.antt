use Rattle.par2_transform.proofs.Names.{ℕ, suc, ◌+◌, ◌-◌, ◌*◌, ◌%◌, ◌^◌, ◌<◌, ◌≡◌, sym, subst, ap, ap₂, arith, length, bit_xor, slice_index, mul, sum_ahead, IsRaised, shifted, double_power, lower_next, one_written, one_same}
use Rattle.par2_transform.proofs.fourier.lower.Goals as goal

pub loop-e-preserved : goal.loop-e-preserved
loop-e-preserved c =
    let l = c.loop-e in
    let i = c.args.i in
    let k = c.args.c in
    let start = c.args.start in
    let m = l.e - 1 in
    let half : 1 * 2 ^ i % 18446744073709551616 ≡ 2 ^ i = shifted i (omega arith) in
    let double : 2 ^ suc i ≡ 2 ^ i + 2 ^ i = double_power i in
    let low : m < 2 ^ i = omega arith in
    let now : m + 1 ≡ l.e = omega arith in
    let to = start + 1 * 2 ^ i % 18446744073709551616 + m in
    let size : length l.words ≡ length c.args.words.now = l.auto.words in
    let fits : to < length l.words = omega (arith, c.requires.fits) in
    let before : ℕ → ℕ = slice_index l.words in
    let besides = bit_xor c.mul.result c.sum_ahead.result in
    lower_next i k start m (slice_index c.args.words.now) before _ low (subst (λ n. IsRaised i k start n before (slice_index c.args.words.now)) (sym now) l.invariant)
    (one_same to (start + 2 ^ i + m) besides (bit_xor (mul k (before (start + m))) (sum_ahead i before (start + m))) before _ (ap (λ n. start + n + m) half)
    (ap₂ bit_xor c.mul.ensures c.sum_ahead.ensures) (one_written l.words to besides fits))
