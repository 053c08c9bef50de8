-- The names that proofs of this crate take from elsewhere.

pub use Rattle.std.proofs.Common.{Bool, Bor, Err, IsTrue, List, Ok, [], ap, append-nil, append_assoc, ap₂, arith, cond, drop, false, get_or, inl, inr, length, map, min, not, refl, rules, string_bytes, subst, suc, sym, take, tests, true, zero, ℕ, ◌%◌, ◌&&◌, ◌++◌, ◌+◌, ◌-◌, ◌<◌, ◌==◌, ◌||◌, ◌∙◌, ◌∷◌, ◌≡◌, ◌≤◌, ◌⊎◌, BTreeMap, IfErr, IfOk, IfSome, None, OnOk, Option, Result, Some, filter, filter_map, flat_map, is_none, is_ok, option_map, replicate, unwrap_or, zip}
pub use Rattle.std.proofs.lemmas.List.{drop-drop, drop-map, drop_all, length-append, length-replicate, length-take, nil_from_length, take-map, take-replicate, take_min}
pub use Rattle.std.proofs.lemmas.List.Elements.{All-head, All-tail, filter_map-append, filter_passes, recursion_from_All}
pub use Rattle.std.proofs.lemmas.List.Folds.{concat-append}
pub use Rattle.std.proofs.lemmas.Slice.Eq.{slice_eq-Decides}
pub use Rattle.std.specs.Vec.Iter.{into_iter_items, into_iter_len}
pub use Rattle.std.specs.Cmp.{Equal-is, eq_by_cmp_equiv}
pub use Rattle.std.proofs.lemmas.Map.Made.{update_all_pairs}
pub use Rattle.std.specs.Map.{update_all}
pub use Rattle.std.proofs.lemmas.Map.Lookups.{exact_bytes}
pub use Rattle.par2_spec.proofs.Common.{and_from, and_parts, both_ways, false_from_ne_true, not-true, or_right, length-map, map-append, take_all, take_more, bytes_eq-Decides, is_at, BTreeSet, contains, nat_list_cmp_total, slice_cmp, AllByRecursion, IsDistinct, concat, cons_option, enumerate_from, list_all, list_any, IsStrictlyIncreasing, eq_by_cmp, nat_cmp, bytes_eq, Change, Remove, Rename, Write, are_applicable, effects, Pair, Purge, Repair, Verify, fault_where, first_fault, then_fault, Folder, bytes_of, has, is_among, is_par_name, LeadsToAfter, now_at, purge_changes, IsRebuilt, IsRepairable, is_repairable, kept_slices, rank, after, by_set, purge_refusal, AreFew, aside, cut_into, files_of_slices, is_par_file, names_without_match, par_files, put_aside, rebuilt, candidates, is_incomplete, lost, matching, incomplete_names, survivors, ParSet, Target, all_pairs, set_of, lists_of, found, set_in, matches, md5}
pub use Rattle.par2_verify.proofs.Common.{YieldsList-from_map, YieldsList-from_slice, YieldsList-from_zip, fact_from_collect, YieldsList-at, YieldsList-from_filter_map, drop_more, map_more, filter_agree, filter_more, IfOk-weaker, err_from_is_err_and, IsFromIterResult, HoldsOwned, Window, buffers_of, set_in_reads, all-filter, all_weaker, map-cond, among-filter, among_some, clash, itself, std_from_distinct, refused_by}
pub use Rattle.par2_files.specs.Folders.{change_of}
pub use Rattle.par2_repair.specs.Repairing.{AreSurvivorsOf, HasItsMd5s, IsDraft, HasAsides, IsAsDescribed, matches_taken, names_there, place_in, removed, renamed, repair_by, writes, undetermined_fault, bytes_written, buffers_written}
pub use Rattle.par2_solve.specs.Rebuilding.{AreEnough, AreRebuilt, IsFaultOf, IsTrueFault, exponents_of, known_alone, known_among, known_of, recovered_of, with_lost_slices}
pub use Rattle.par2_sets.specs.SetReading.{long_aside}
pub use Rattle.par2_slices.specs.Matching.{AreShort, padded_window}
pub use Rattle.par2_spec.proofs.AcceptedCommands.{command_leads}
pub use Rattle.par2_spec.proofs.SearchLaws.{lost_of, repairable-iff}
pub use Rattle.par2_spec.proofs.ListsLaws.{all-append, all-each, filter-map, err_passed}
pub use Rattle.par2_spec.proofs.FolderLaws.{ok_no_err, same_ok}
pub use Rattle.par2_spec.specs.Prelude.{padded}
pub use Rattle.par2_spec.specs.declared.Fault.{Fault}
pub use Rattle.par2_spec.specs.declared.Fault.TheVariants.{Memory, NotComplete, NotRepairable, RepairFailed}
pub use Rattle.par2_repair.specs.declared.repair.Draft.{Draft}
pub use Rattle.par2_spec.specs.Laws.{FilesHaveTheirSize, RebuiltSlicesAgree, TestsSayTheWords}
pub use Rattle.par2_solve.proofs.Rebuilding.{length-filled}
unfoldable pub use Rattle.par2_spec.proofs.Common.{early_refusal, known, changes_of, repair_changes, repair_removals, refusal, repair_refusal, rebuilt_targets}
pub use Rattle.par2_verify.proofs.VerifyParts.{distinct_once, holds, member_among, names_in_pairs}
