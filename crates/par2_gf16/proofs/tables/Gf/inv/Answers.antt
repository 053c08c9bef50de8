use Rattle.par2_gf16.proofs.TableLaws.{inverse_is}
use Rattle.par2_gf16.proofs.tables.Gf.inv.Goals as goal

pub returns-else-a-eq0-clause-inverse : goal.returns-else-a-eq0-clause-inverse
returns-else-a-eq0-clause-inverse c =
    rw c.power.ensures (inverse_is c.args.a c.log.result c.log.ensures.below c.ranges.a.fits c.log.ensures.value)
