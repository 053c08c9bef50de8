-- The names that proofs of this crate take from elsewhere.

pub use Rattle.std.proofs.Common.{Bool, Err, IsTrue, List, None, Ok, Option, Result, Some, T, [], ap, ap₂, arith, cond, drop, eq-eqb, false, flat_map, get_or, inl, inr, length, map, map-id, not, refl, rules, subst, suc, sum_by, sym, take, true, zero, ℕ, ◌&&◌, ◌++◌, ◌+◌, ◌-◌, ◌<◌, ◌==◌, ◌^◌, ◌||◌, ◌∙◌, ◌∷◌, ◌≡◌, ◌≤◌, ◌⊎◌, append-nil, IfErr, tests}
pub use Rattle.std.proofs.lemmas.Bool.{and_from, cases_lt, eqb-true, false_from_ne_true, false≢true, leb-true, lt-ltb, ltb-true, ne_eqb}
pub use Rattle.std.proofs.lemmas.Fn.{filter_same}
pub use Rattle.std.proofs.lemmas.Iterator.{YieldsList, YieldsList-from_map, YieldsList-from_map_by, YieldsList-from_slice, items_from_drains, items_from_collect}
pub use Rattle.std.proofs.lemmas.Iterator.Consumers.{YieldsList-at, YieldsList-from_filter_map, YieldsList-from_filter, YieldsList-from_rest}
pub use Rattle.std.proofs.lemmas.List.{append_assoc, flat_map_more, length-append, length-map, map_more, take_all, take_more, map-append}
pub use Rattle.std.proofs.lemmas.Map.Made.{IsDistinct-from_count, distinct_count-from_IsDistinct, lookup-map_values}
pub use Rattle.std.proofs.lemmas.Map.Text.{is_eq-slice_cmp}
pub use Rattle.std.proofs.lemmas.Result.{IfOk-weaker, err_from_is_err_and}
pub use Rattle.std.specs.Borrow.{Bor}
pub use Rattle.std.specs.Cmp.{IsEquivalence, IsTotalOrder, eq_by_cmp_equiv, nat_cmp_total, on_total}
pub use Rattle.std.specs.Cmp.Lexicographic.{nat_list_cmp_total, nat_list_eq_equiv, slice_cmp, texts_ties}
pub use Rattle.std.specs.FinMap.{FinMap, entries, entries-from_sorted, entries_sorted, get-from_entries, get-from_sorted, is_sorted, nat_cmp-IsAntisymmetric, same_entries_map, same_map}
pub use Rattle.std.specs.List.{AllByRecursion, IsDistinct, cons_option, list_all, list_any, range_with_len}
pub use Rattle.std.specs.List.Sorted.{IsStrictlyIncreasing}
unfoldable pub use Rattle.std.specs.List.Sorted.{IsStrictlySortedBy}
pub use Rattle.std.specs.Map.{keys_of, lookup}
pub use Rattle.std.specs.Ordering.{eq_by_cmp, is_eq, is_lt, nat_cmp, ordering_then}
pub use Rattle.std.specs.Prelude.{IfErr, IfOk, IsErrAnd, IsOk, filter, filter_map, find, if◌then◌else◌, is_some, nat_lt, ok_or, option_and_then, option_map, slice_get, unwrap_or, Vec}
pub use Rattle.std.specs.Set.{distinct_count, is_member, unique_keys}
pub use Rattle.std.specs.Str.{bytes_eq}
pub use Rattle.std.specs.declared.cmp.Ordering.TheVariants.{Equal, Greater, Less}
pub use Rattle.par2_packets.specs.PacketViews.{packet_view, remaining_packets}
pub use Rattle.par2_sets.specs.SetReading.{HoldsOwned, long_aside, HasFirsts, count_cmp, set_exponents, set_recovery, set_view, Returns, are_own, own_files, set_from_packets, set_packets}
pub use Rattle.par2_spec.proofs.ListsLaws.{filter_map-map, among-append, distinct_from_std, distinct_same, same_either_way, std_from_distinct, err_again, where_none, same_name, refused_by}
pub use Rattle.par2_spec.proofs.NameTests.{name_is_short, no_name}
pub use Rattle.par2_spec.proofs.SearchLaws.{distinct_by_length, size_parts, was_some, all_weaker}
pub use Rattle.par2_spec.specs.Prelude.{File, Folder, IsFolder, bytes_of, files, names, distinct, is_among, is_name, is_par_name, numbered, DescBody, IfscBody, MainBody, Packet, RecoveryBody, accepted, read_desc, read_ifsc, read_main, read_recovery, is_par_file, taken_for, IsSound, ParSet, Target, all_some, are_in_profile, description_of, is_slice_size, main_of, packets_with, pairs_of, recovery_of, target_names, target_of, ◌>>=◌, par_files, slice_count, Pair, unless, fault_where}
unfoldable pub use Rattle.par2_spec.specs.Prelude.{aside, read_set, set_of}
pub use Rattle.par2_spec.specs.declared.Fault.{Fault}
pub use Rattle.par2_spec.specs.declared.Fault.TheVariants.{Memory, NameTooLong, NoChecksums, NoDescription, NoPackets, NoMain, BadSet}
pub use Rattle.std.proofs.lemmas.Option.{slice_get_within, get_or_from_slice_get}
pub use Rattle.std.proofs.lemmas.List.Elements.{filter-append, filter_more}
pub use Rattle.std.proofs.Math.Facts.{yes_and}
pub use Rattle.std.proofs.lemmas.Map.Keys.{sorted_from_strictly_increasing, IsStrictlyIncreasing-from_sorted}
pub use Rattle.std.specs.FinMap.Entries.{below_all}
pub use Rattle.std.specs.BTreeMap.{BTreeMap, get, Updates, IsOrdered}
pub use Rattle.std.specs.declared.cmp.Ordering.{Ordering}
pub use Rattle.std.specs.Iterator.{Drains}
pub use Rattle.std.specs.Option.{option_or, option_copied}
pub use Rattle.std.proofs.iter.Yields.{gives_Drains}
pub use Rattle.std.proofs.Math.Logic.{⊎_map}
