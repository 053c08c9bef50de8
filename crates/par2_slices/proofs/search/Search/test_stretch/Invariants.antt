use Rattle.par2_slices.proofs.Names.{◌+◌, ◌*◌, IsScannedTo, reached}
use Rattle.par2_slices.proofs.search.Search.test_stretch.Given as goal

abbrev pub invariant-loop-row : goal.invariant-loop-row
invariant-loop-row l = IsScannedTo l.scan (l.start + l.k * l.len + reached l.rows l.row-index) l.self.found.items l.self.left l.self.filter l.self.batch.items
