use Rattle.par2_spec.proofs.Common.{arith}
use Rattle.par2_spec.proofs.Basics.{has_inverse, one_inverse}

pub returns : Rattle.par2_spec.proofs.field_laws.inverses.Goals.returns
returns c = record { some = λ a n h. has_inverse a (omega arith) h; one = one_inverse }
