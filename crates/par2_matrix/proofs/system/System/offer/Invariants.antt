use Rattle.par2_matrix.proofs.Common.{length, count_present, lists_of}
use Rattle.par2_matrix.proofs.system.System.offer.Given as goal

abbrev pub ghost-prepare : goal.ghost-prepare
ghost-prepare a = count_present (lists_of a.rows.now) (length a.rows.now)

abbrev pub ghost-put_in : goal.ghost-put_in
ghost-put_in a = count_present (lists_of a.rows.now) (length a.rows.now)
