use Rattle.par2_gf16.proofs.Common.{◌≡◌, ◌*◌, ◌%◌, ◌<◌, ◌≤◌, sym, ◌∙◌, arith, and_pow, double_low, double_high, double_product}
use Rattle.par2_gf16.proofs.tables.doubled.Goals as goal

pub returns-then-x-eq0 : goal.returns-then-x-eq0
returns-then-x-eq0 c =
    let x = c.args.x in
    let k : x < 65536 = c.ranges.x.fits in
    let small : x < 32768 = omega (arith, and_pow x 15, c.if-x-eq0.true) in
    (let e : x * 2 % 65536 ≡ x * 2 = omega arith in e) ∙ sym (double_low x small) ∙ double_product x k

pub returns-else-x-eq0 : goal.returns-else-x-eq0
returns-else-x-eq0 c =
    let x = c.args.x in
    let k : x < 65536 = c.ranges.x.fits in
    let large : 32768 ≤ x = omega (arith, and_pow x 15, c.if-x-eq0.false) in
    sym (double_high x large k) ∙ double_product x k
