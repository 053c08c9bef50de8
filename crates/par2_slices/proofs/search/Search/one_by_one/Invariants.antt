use Rattle.par2_slices.proofs.Common.{◌≡◌, crc_of, IsScannedTo}
use Rattle.par2_slices.proofs.search.Search.one_by_one.Given as goal

abbrev pub invariant-loop-offset : goal.invariant-loop-offset
invariant-loop-offset l = record {
  at : IsScannedTo l.scan l.offset l.self.found.items l.self.left l.self.filter l.self.batch.items;
  value : l.crc ≡ crc_of l.scan l.offset;
}
