use Rattle.par2_slices.proofs.Common.{◌-◌, ◌≤◌, length, IsScannedTo}
use Rattle.par2_slices.proofs.search.Search.by_stretches.Given as goal

abbrev pub invariant-loop-self : goal.invariant-loop-self
invariant-loop-self g l = record {
  within : l.offset ≤ length l.scan.bytes.now;
  at : IsScannedTo l.scan l.offset l.self.found.items l.self.left l.self.filter l.self.batch.items;
}

abbrev pub decreases-loop-self : goal.decreases-loop-self
decreases-loop-self g l = length l.scan.bytes.now - l.offset
