-- The names that answers take from elsewhere and from the lemmas.

pub use Rattle.par2_journal_format.proofs.Common.{err_from_is_err_and, change_of, change_at, ◌≡◌, ◌++◌, ◌∷◌, [], arith, entry_at, journal_of, rules, inr, refl, ◌≤◌, ◌<◌, ◌^◌, ◌∙◌, length, all_from, block_at, get_or, ap, sym, get_or-map, length-map, changes_in, IsChange, change_bytes, take, leb-true, None, Some, journal_from, part_from, subst, append_assoc, flat_map, w64, to_le_bytes, IsEntry, entry_bytes, ◌+◌, drop, false≢true, AreNamesOf, names_in, Folder, bytes_of, on_ok_weaker, List, map, Bor, Change, effects, leads, ap₂, take_all, sum_by, sum_by_more, sum_by_more_le, ◌-◌, true, Bool, pointwise, bytes_eq, not-false, not-true, FolderState, takes_all, are_applicable, takes_applicable, leads_through, IfOk, is_valid, halfway_of, session_at, none_if, reverse, and_parts, leading_walks}
pub use Rattle.par2_journal_format.proofs.Fields.{goes_on, stops, ends, SoFar, wrote_more, AreWritten}
pub use Rattle.par2_journal_format.proofs.Whole.{one_reading, refused, sealed, spells_sealed, too_short, untested, finished}
pub use Rattle.par2_spec.proofs.NameTests.{name_is_short}
unfoldable pub use Rattle.par2_journal_format.proofs.Common.{effect}
pub use Rattle.par2_journal_format.proofs.TriedNames.{IsSoFar, tried, put_in, taken_out}
pub use Rattle.par2_journal_format.proofs.Walks.{goes, goes_not, each_after, places_within, went_forth, settled_as_is, places_before, places_behind, places_counted}
