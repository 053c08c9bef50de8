use Rattle.par2_transform.proofs.Common.{◌≡◌, ◌<◌, ◌≤◌, ◌+◌, ◌*◌, ◌^◌, ◌%◌, suc, sym, ap, ◌∙◌, arith, bit_xor, refl, pow-le-pow_right, xor_comm, powers_in}
use Rattle.par2_transform.proofs.Subspaces.{powers_in-lt}
use Rattle.par2_transform.proofs.fourier.powers_in.Goals as goal

pub loop-init : goal.loop-init
unfolding powers_in
loop-init c = refl

pub loop-preserved : goal.loop-preserved
unfolding powers_in
loop-preserved c =
    let n = c.loop.counter in
    let p = powers_in n in
    let small : p < 2 ^ suc n = powers_in-lt n in
    let fits : suc n ≤ 16 = omega arith in
    let bound : 2 ^ suc n ≤ 2 ^ 16 = pow-le-pow_right (let two : 0 < 2 = omega arith in two) fits in
    let kept : p * 2 % 4294967296 ≡ p * 2 = omega arith in
    let next : n + 1 ≡ suc n = omega arith in
    ap (λ x. bit_xor x (x * 2 % 4294967296)) c.loop.invariant ∙ ap (bit_xor p) kept ∙ xor_comm p (p * 2) ∙ sym (ap powers_in next)
