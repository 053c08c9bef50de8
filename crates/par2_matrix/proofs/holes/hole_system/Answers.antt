use Rattle.par2_matrix.proofs.Names.{Ok, ap, one_equation_more, ◌∙◌}
use Rattle.par2_matrix.proofs.holes.hole_system.Goals as goal

pub loop-u-preserved : goal.loop-u-preserved
loop-u-preserved c =
    one_equation_more c.args.locator.now c.args.places.now _ _ c.args.units c.loop-u.u c.loop-u.system c.offer.new.self c.loop-u.invariant c.offer.ensures.columns c.offer.ensures.bytes
    (c.deref.ensures.value ∙ c.in_ok-row.ensures) c.in_ok-unit.ensures.unit (c.offer.ensures.kept (c.in_ok-offer.was ∙ ap Ok c.in-Kept.is))
