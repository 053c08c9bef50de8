-- The names that answers take from elsewhere and from the lemmas.

pub use Rattle.par2_sets.proofs.Common.{◌≡◌, ◌∙◌, ◌<◌, length, length-append, Folder, sym, ap, subst, AllByRecursion, IsStrictlyIncreasing, entries, IsSound, set_exponents, set_recovery, arith, names, among-append, ℕ, ◌≤◌, true, map, rules, Ok, Some, IfOk, is_slice_size, main_of, packet_view, set_view, set_from_packets, size_parts, numbered, ◌==◌, ◌++◌, ◌∷◌, [], inr, ap₂, take_more, take_all, option_map, ok_or, if◌then◌else◌, NoChecksums, count_cmp, get, List, Option, get_or, drop, bytes_eq, MainBody, read_main, IsTrue, is_name, aside, long_aside, ◌+◌, take, sum_by, not, filter, map-id, IfOk-weaker, is_among, target_names, YieldsList-at, YieldsList-from_map, YieldsList-from_slice, ◌&&◌, Bool, on_total, nat_list_cmp_total, texts_ties, distinct, distinct_count, DescBody, YieldsList-from_map_by, items_from_drains, length-map, None, find, filter_map, option_and_then, eq_by_cmp, Bor, read_desc, description_of, NoDescription, slice_cmp, nat_cmp, YieldsList-from_filter_map, filter_map-map, list_any, Target, HoldsOwned, is_eq-slice_cmp, false, accepted, packets_with, are_own, filter_same, is_par_name, append-nil, ◌⊎◌, Fault, inl, Err, Memory, IfscBody, read_ifsc, pairs_of, target_of, all_some, was_some, Returns, taken_for, no_name, err_from_is_err_and, own_files, are_in_profile, ◌>>=◌, Result, refl, ParSet, lookup, lookup-map_values, all_weaker, IfErr, tests, ne_eqb, option_copied, slice_count, Pair, unless, items_from_collect, YieldsList-from_filter, YieldsList-from_rest, Vec, same_name, refused_by, NoMain, BadSet, IsOrdered, NameTooLong, ⊎_map}
pub use Rattle.par2_sets.proofs.Reading.{kept_entries, all_read, item_at, par_files_are, firsts_of, found, same_id, all_some_more, all_some_none, has_own, packets_in, no_more, one_more, kept_more, others_are, keyed, same_count, passed_on, one_missing, at_packets, first_id, first_added, first_stays, entry_of, usable, slices_in, pair_of, first_slices, rising, items_of}
pub use Rattle.par2_spec.proofs.MovesLaws.{has_by_names}
pub use Rattle.par2_sets.proofs.Names.{long_where_err, one_more_aside, one_more_short, distinct_count-map, counted, all_names, first_here, first_later, from_one, long_is_no_name, too_long, first_from}
pub use Rattle.std.proofs.lemmas.Grind.{common_steps}
pub use Rattle.md5.specs.Md5.{md5}
pub use Rattle.std.proofs.lemmas.Iterator.Search.{all_from_yields_List}
pub use Rattle.std.proofs.lemmas.Map.Views.{btree_set_len-from_list}
pub use Rattle.std.proofs.lemmas.Iterator.Adapters.{fact_from_collect}
pub use Rattle.std.specs.BTreeSet.{IsFromIterResult}
pub use Rattle.std.specs.declared.alloc.Global.{Global}
pub use Rattle.par2_packets.specs.declared.scan.Packet.{Packet}
pub use Rattle.par2_files.specs.declared.name.Name.{Name}
