use Rattle.par2_create.proofs.Common.{◌≡◌, ◌++◌, length, map, put_change, as_file, into_iter_items, into_iter_len}
use Rattle.par2_create.proofs.create.push_files.Given as goal

abbrev pub invariant-loop-name : goal.invariant-loop-name
invariant-loop-name l = record {
  left : l.yielded ++ into_iter_items l.name-iterator ≡ into_iter_items l.initial.name-iterator;
  count : into_iter_len l.name-iterator ≡ length (into_iter_items l.name-iterator);
  so_far : l.changes ≡ l.initial.changes ++ map (λ file. put_change l.folder.files (as_file file)) l.yielded;
}
