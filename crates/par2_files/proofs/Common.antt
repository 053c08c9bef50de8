-- The names that proofs of this crate take from elsewhere.

pub use Rattle.std.proofs.Common.{Bool, Bor, Err, IfErr, IfOk, IsTrue, IsUtf8, List, None, Ok, Option, Result, Some, T, [], add-one, ap, append-nil, append_assoc, arith, codes, cond, drop, drop-cons, false, get_or, inl, inr, is_some, length, length-drop, map, map-id, nat_eq, nat_le, not, of_calls, refl, rules, set, subst, suc, sym, take, true, zero, ℕ, ◌&&◌, ◌++◌, ◌+◌, ◌-◌, ◌<◌, ◌==◌, ◌||◌, ◌∙◌, ◌∷◌, ◌≡◌, ◌≤◌, ◌⊎◌}
pub use Rattle.std.proofs.Math.Seq.{drop-append_seam, take-append_seam, take-suc-set}
pub use Rattle.std.proofs.lemmas.Bool.{and_parts, cases_lt, false≢true}
pub use Rattle.std.proofs.lemmas.Fn.{always_returns_same}
pub use Rattle.std.proofs.lemmas.Grind.{common_steps, flat_map-append}
pub use Rattle.std.proofs.lemmas.Iterator.{YieldsList-from_map, YieldsList-from_map_by, YieldsList-from_slice, items_from_collect, items_from_drains}
pub use Rattle.std.proofs.lemmas.List.{drop-map, drop-set-lt, drop-take, drop_all, get_or-map, get_or-take, get_or_default, length-append, length-map, length-take-le, map-append, map-set, reverse-append, take-append-drop, take-map, take-take, take_all, take_more}
pub use Rattle.std.proofs.lemmas.List.Elements.{All-append, All-cons, All-drop, All-from_recursion, All-push, All-set, All-take, recursion_from_All}
pub use Rattle.std.proofs.lemmas.Result.{IfOk-weaker}
pub use Rattle.std.specs.Cmp.Lexicographic.{nat_list_cmp_total}
pub use Rattle.std.specs.FinMap.{IsAntisymmetric, entries, entries-from_sorted, entries-insert, entries_sorted, find, get-empty, get-from_sorted, get-insert, get-remove, get-retain_keys, is_sorted, nat_cmp-IsAntisymmetric, put, same_entries_map, same_map, slice_cmp-IsAntisymmetric}
pub use Rattle.std.specs.FinMap.Entries.{find-where_key, is_sorted-where_key, where_key}
pub use Rattle.std.specs.List.{AllByRecursion, insert, list_any, remove, starts_with, All}
pub use Rattle.std.specs.List.Sorted.{IsBinarySearchResult, IsNonDecreasingBy, IsSearchInRange}
pub use Rattle.std.specs.Ordering.{eq_by_cmp, is_eq, is_gt, is_lt, ord_min, ordering_index, ordering_reverse}
pub use Rattle.std.specs.declared.cmp.Ordering.{Ordering}
pub use Rattle.std.specs.declared.cmp.Ordering.TheVariants.{Equal, Greater, Less}
pub use Rattle.md5.specs.Md5.{md5}
pub use Rattle.par2_md5_lanes.specs.Messages.{HasAbsorbed, message_of, buffers_of}
pub use Rattle.par2_md5_lanes.specs.declared.midstate.Midstate.{Midstate}
pub use Rattle.par2_md5_lanes.specs.declared.tasks.Pending.{Pending}
pub use Rattle.par2_files.specs.Checkpoints.{AbsorbsTo, AreCheckpointsOf, AreTo, HaveAbsorbed, IsFront, IsFurther, ReachEach, bytes_before, bytes_where, files_in, folder_in, comes_before, fingerprint_input, first_name, group_buffers, is_before, is_below, touches, IsAt}
unfoldable pub use Rattle.par2_files.specs.Checkpoints.{later_buffers}
pub use Rattle.par2_files.specs.Folders.{AreFilesOf, AreFolderFiles, IsFile, IsFileAt, IsGapFor, IsSearched, IsSortedByName, file_at, file_of, folder_of, name_cmp, change_of}
pub use Rattle.par2_files.specs.declared.snapshot.Split.{Split}
pub use Rattle.par2_files.specs.declared.snapshot.Split.TheVariants.{At, Beginning, End}
pub use Rattle.par2_spec.proofs.FolderLaws.{taken_are_applicable, takes_first, takes_rest}
pub use Rattle.par2_spec.proofs.ListsLaws.{by_true, cond-not, is_true, map-reverse}
pub use Rattle.par2_spec.specs.Prelude.{Change, FolderState, Remove, Rename, Replace, Write, inverse, is_applicable, state_after, File, Folder, IsFolder, behind_length, bytes_of, has, names}
unfoldable pub use Rattle.par2_spec.specs.Prelude.{are_applicable, change_refusal, effect, folders_after, state_after_all, takes_all, way_back, fingerprint, is_name}
pub use Rattle.std.specs.Prelude.{reverse}
pub use Rattle.std.specs.Str.{bytes_eq}
pub use Rattle.std.proofs.lemmas.Str.{is_utf8-from_IsUtf8}
pub use Rattle.std.specs.Cmp.{tied_itself, eq_by_cmp_equiv, upto}
pub use Rattle.std.proofs.lemmas.List.Sorted.{searchable_from_sorted}
pub use Rattle.par2_files.specs.declared.snapshot.Absorbing.{Absorbing}
pub use Rattle.par2_files.specs.declared.snapshot.Snapshot.{Snapshot}
