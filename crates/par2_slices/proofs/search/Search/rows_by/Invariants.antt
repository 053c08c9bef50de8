use Rattle.par2_slices.proofs.Common.{AreCrcs, AreCandidateRows}
use Rattle.par2_slices.proofs.search.Search.rows_by.Given as goal

abbrev pub invariant-loop-at : goal.invariant-loop-at
invariant-loop-at g l = record {
  are : AreCandidateRows l.scan l.start g.row.LEN l.at l.rows.items;
  crcs : AreCrcs l.scan.rolling.now.size l.scan.bytes.now l.start g.row.LEN l.at l.crcs;
}
