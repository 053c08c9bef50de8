use Rattle.par2_gf16.proofs.Names.{◌∙◌, ap, mul, four_doublings}
use Rattle.par2_gf16.proofs.factor.sixteen_times.Goals as goal

pub returns : goal.returns
returns c =
    c.doubled-4.ensures ∙ ap (mul 2) (c.doubled-3.ensures ∙ ap (mul 2) (c.doubled-2.ensures ∙ ap (mul 2) c.doubled.ensures))
    ∙ four_doublings c.args.x c.ranges.x.fits
