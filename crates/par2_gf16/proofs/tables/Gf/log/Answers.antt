use Rattle.par2_gf16.proofs.Names.{◌≡◌, ◌<◌, get_or, ap, ◌∙◌, arith, sym, subst, pow, get_or_default, log_is}
use Rattle.par2_gf16.proofs.tables.Gf.log.Goals as goal

pub returns : goal.returns
returns c =
    let logs = c.args.self.now.logs.items in
    let are = c.args.self.now.tables.logs_are in
    let e : c.index.result.now ≡ get_or logs c.args.a 0 = c.index.ensures ∙ get_or_default logs c.args.a c.index.result.now 0 (omega (arith, are.count, c.ranges.a.fits)) in
    let is = log_is logs c.args.a are c.requires c.ranges.a.fits in
    record { below = subst (λ n. n < 65535) (sym e) is.0; value = ap (pow 2) e ∙ is.1 }
