use Rattle.par2_repair.proofs.Common.{◌≡◌, ◌++◌, length, into_iter_items, into_iter_len, writes}
use Rattle.par2_repair.proofs.repair.push_writes.Given as goal

abbrev pub invariant-loop-file : goal.invariant-loop-file
invariant-loop-file l = record {
  left : l.yielded ++ into_iter_items l.file-iterator ≡ into_iter_items l.initial.file-iterator;
  count : into_iter_len l.file-iterator ≡ length (into_iter_items l.file-iterator);
  so_far : l.changes ≡ l.initial.changes ++ writes l.yielded;
}
