use Rattle.par2_transform.proofs.Names.{suc, ◌+◌, ◌*◌, ◌%◌, ◌^◌, ◌≡◌, ap, ◌∙◌, arith, mul, refl, point, IsRaised, shifted, run_starts, merged_runs, run_at, run_by_at, raised_at, raised_runs, each_then, each_then_two}
use Rattle.par2_transform.proofs.fourier.merge.Goals as goal

pub returns : goal.returns
returns c =
    let i = c.args.i in
    let q = c.args.q in
    let shift = 1 * 2 ^ i % 18446744073709551616 in
    let half : shift ≡ 2 ^ i = shifted i (omega arith) in
    let at = q * 2 * shift in
    let start = q * 2 ^ suc i in
    let is : at ≡ start = ap (λ n. q * 2 * n) half ∙ run_starts i q in
    let x = c.point.result in
    let raised = each_then_two {both = IsRaised i x at 0} c.add_scaled.ensures c.add_lower_ahead.ensures c.add_upper_ahead.ensures
    (λ f g k h first second third. raised_runs i x at f g k h (run_by_at (mul x) at at (at + shift) (at + 2 ^ i) shift (2 ^ i) f g refl (omega (arith, half)) half first) second third) in
    each_then c.add_rows.ensures raised
    (λ f g h first second. merged_runs i (point (2 * q)) start f g h
    (run_at (at + shift) (start + 2 ^ i) at start shift (2 ^ i) f g (omega arith) is half first)
    (raised_at i x (point (2 * q)) at start g h c.point.ensures is second))
