use Rattle.par2_slices.proofs.Common.{◌+◌, ◌*◌, IsScannedTo}
use Rattle.par2_slices.proofs.search.Search.search_four.Given as goal

abbrev pub invariant-loop-k : goal.invariant-loop-k
invariant-loop-k g l = IsScannedTo l.scan (l.start + l.k * g.row.LEN) l.self.found.items l.self.left l.self.filter l.self.batch.items
