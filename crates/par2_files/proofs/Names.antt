-- The names that answers take from elsewhere and from the lemmas.

pub use Rattle.par2_files.proofs.Common.{sym, arith, refl, ◌≡◌, false, is_before, ◌-◌, ◌∙◌, [], ◌∷◌, ap, length, drop, subst, length-drop, take_all, HasAbsorbed, HaveAbsorbed, buffers_of, bytes_before, folder_in, At, AreTo, common_steps, ◌++◌, ℕ, Bor, List, map, take, drop-append_seam, take-append_seam, length-append, length-map, map-append, md5, fingerprint, folders_after, taken_are_applicable, group_buffers, change_of, End, IsTrue, get_or, rules, bytes_where, is_below, Midstate, Folder, touches, AreCheckpointsOf, All, inr, ◌⊎◌, false≢true, Split, Beginning, comes_before, inl, ◌<◌, append-nil, entries, files_in, ◌+◌, Bool, true, cond, are_applicable, of_calls, always_returns_same, name_cmp, file_of, fingerprint_input, ReachEach, Some, get_or_default, File, YieldsList-from_map, YieldsList-from_slice, items_from_collect, IfOk-weaker, bytes_of, YieldsList-from_map_by, IsAt}
pub use Rattle.par2_spec.proofs.NameTests.{no_bytes}
pub use Rattle.par2_files.proofs.Lists.{name_parts, is_accepted, reversed_round, IsOnItsWay, refilled}
pub use Rattle.par2_files.proofs.Walks.{behind, moved, absorbed_at, absorbed_behind, as_many, in_range, bytes_more, all_fingerprints, sets_out, sets_out_first, fingerprint_is, digested_more, absorbed_here, arrived, goes_on, next_applicable, parents_then, IsWithin, one_more, settled}
pub use Rattle.par2_files.specs.declared.change.Change.TheVariants.{Remove}
pub use Rattle.par2_files.proofs.SortedFiles.{further, taken_on, files_of, later, searched_files, between, front_further, put_borrowed_at, put_borrowed_in_gap, exchanged, bytes_at, stays_absent, searched_folder, removed}
pub use Rattle.std.proofs.lemmas.Iterator.Consumers.{map_from_collect}
