-- The names that answers take from elsewhere and from the lemmas.

pub use Rattle.par2_disk.proofs.Common.{◌∙◌, ◌≡◌, ◌<◌, ◌≤◌, length, get_or, Some, ap, subst, arith, entries, names, bit_and, refl, All-more, and_self, List, ℕ, GivesNoMore, IsWithinThoseNamed, take, sym, [], ◌++◌, drop, vec_len}
pub use Rattle.par2_files.proofs.SortedFiles.{begins_empty, still_there, next_file, is_whole}
pub use Rattle.par2_spec.specs.Prelude.{Contents}
pub use Rattle.par2_disk.proofs.Steps.{apart_second, apart_within, limited, unlimited, within_on, narrower, within_first, within_second}
pub use Rattle.std.proofs.Common.{rules, None}
pub use Rattle.std.proofs.lemmas.List.{take_all, append-nil, take-take, take-append-le}
pub use Rattle.std.proofs.lemmas.Fn.{FoldsTo-push}
pub use Rattle.par2_disk.specs.Runtime.{IsCounted, Adds}
pub use Rattle.std.specs.List.{FoldsTo}
pub use Rattle.std.proofs.KnownBytes.{Consumes-kept, Consumes-trans}
pub use Rattle.std.specs.Io.KnownBytes.{Consumes}
