use Rattle.par2_gf16.proofs.Names.{ap, sym, ◌∙◌, mul, zero-product, product-zero, product_is}
use Rattle.par2_gf16.proofs.tables.Gf.mul.Goals.{then-a-eq0-via-then-a-eq0, then-a-eq0-via-else-a-eq0+then-b-eq0}
use Rattle.par2_gf16.proofs.tables.Gf.mul.Goals as goal

pub returns-then-a-eq0 : goal.returns-then-a-eq0
returns-then-a-eq0 c =
    elim c.then-a-eq0.branch [
      | then-a-eq0-via-then-a-eq0 w ↦ sym (ap (λ x. mul x c.args.b) w.if-a-eq0.true ∙ zero-product c.args.b)
      | then-a-eq0-via-else-a-eq0+then-b-eq0 w ↦ sym (ap (mul c.args.a) w.if-b-eq0.true ∙ product-zero c.args.a)
    ]

pub returns : goal.returns
returns c = c.power.ensures ∙ product_is c.args.a c.args.b c.log.result c.log-2.result c.log.ensures.value c.log-2.ensures.value
