-- The names that proofs of this crate take from elsewhere.

pub use Rattle.std.proofs.Common.{Bool, Err, List, None, Option, Result, Some, [], ap, append_assoc, arith, cond, drop, eqb, false, get_or, inl, inr, leb, length, ltb, refl, rules, subst, suc, sym, take, true, zero, ℕ, ◌&&◌, ◌++◌, ◌+◌, ◌-◌, ◌<◌, ◌^◌, ◌∙◌, ◌∷◌, ◌≡◌, ◌≤◌, Ok, map, not, is_some, Bor, ap₂}
pub use Rattle.std.proofs.lemmas.Bool.{and_from, and_parts, eqb-true, le-leb, le-ltb, leb-true, ltb-false, both_ways, false_from_ne_true, false≢true, not-false, not-true}
pub use Rattle.std.proofs.lemmas.List.{append-nil, drop_at, flat_map_more, get_or-map, length-append, length-map, length-take-le, nil_from_length, take-append-drop, take_all, take_at, take_more, drop_more, length-drop, drop_all, drop-map}
pub use Rattle.std.proofs.lemmas.Option.{cond_some, none-some, same_Some}
pub use Rattle.std.proofs.lemmas.Result.{err_from_is_err_and, on_ok_weaker}
pub use Rattle.std.specs.Int.{from_le_bytes, to_le_bytes, w64}
pub use Rattle.std.specs.List.{AllByRecursion, concat, sum_by}
pub use Rattle.std.specs.Prelude.{IfSome, IsTrue, flat_map, if◌then◌else◌, ◌↔◌, ◌⊎◌, reverse, IfOk, unwrap_or}
pub use Rattle.par2_files.specs.Folders.{change_of}
pub use Rattle.par2_journal_format.specs.Journals.{AreCounted, Begins, Continues, Fails, IsRefusal, IsSealed, changes_in, cursor_in, journal_from, journal_of, part_from, two_at, ◌>>=◌, halfway_of}
unfoldable pub use Rattle.par2_journal_format.specs.Journals.{behind_length_at, block_at, change_at, cursor_at, entry_at, front_bytes, halfway_at, heading_at, many_at, name_at, number_at, parts_at}
pub use Rattle.par2_spec.proofs.FilesLaws.{bytes-drop, bytes-take}
pub use Rattle.par2_spec.proofs.ListsLaws.{all-append, all_at, all_from, none_if}
pub use Rattle.par2_spec.specs.Prelude.{AreBytes, Change, HalfwayPart, IsChange, IsCursor, IsDigest, IsEntry, IsFileBytes, IsHalfwayPart, IsJournal, Journal, Remove, Rename, Replace, Spells, Write, behind_length, change_bytes, cursor_bytes, entry_bytes, halfway_bytes, heading, is_name, name_bytes, FolderState, is_applicable, places_taken, state_after_all, Folder, fingerprint, is_valid, has, bytes_of}
unfoldable pub use Rattle.par2_spec.specs.Prelude.{journal_bytes, spelling, are_applicable, effect, effects, folders_after, takes_all, way_back, leads_through, leads}
pub use Rattle.par2_spec.specs.declared.JournalFault.{JournalFault}
pub use Rattle.par2_spec.specs.declared.JournalFault.TheVariants.{FolderChanged, JournalInvalid, Memory}
pub use Rattle.std.proofs.lemmas.Nat.{le_bytes_8, from_le_bytes-to_le_bytes_8}
pub use Rattle.std.proofs.lemmas.List.Concat.{concat_is}
pub use Rattle.md5.specs.Md5.{md5}
pub use Rattle.std.specs.Str.{bytes_eq}
pub use Rattle.std.proofs.lemmas.Slice.Eq.{bytes_eq-Decides}
pub use Rattle.par2_spec.specs.declared.Version.{Version}
pub use Rattle.md5.proofs.StandardFacts.{length-md5}
pub use Rattle.par2_spec.specs.declared.Version.TheVariants.{One, Two}
pub use Rattle.std.proofs.lemmas.List.Sums.{sum_by-cons, sum_by-take-drop, sum_by_more, sum_by_more_le}
pub use Rattle.std.specs.Cmp.Lexicographic.{pointwise, slice_cmp, nat_list_cmp_total}
pub use Rattle.par2_journal_format.specs.Walking.{prints_along, WentForth, OpensAsIs, session_at, AreNamesOf, IsSet, names_in}
pub use Rattle.par2_spec.proofs.FolderLaws.{changes_back, state_all_back, state_files, way_back_taken, written, gone, takes_applicable, leading_walks}
pub use Rattle.par2_spec.proofs.StopLaws.{through_applies}
pub use Rattle.std.proofs.lemmas.List.Sorted.{sum_by-IsPermutation, IsPermutation-reverse}
pub use Rattle.std.proofs.lemmas.Map.Text.{is_eq-slice_cmp, btree_map_updates_str}
pub use Rattle.std.specs.Ordering.{eq_by_cmp, nat_cmp}
pub use Rattle.std.specs.Cmp.{eq_by_cmp_equiv}
