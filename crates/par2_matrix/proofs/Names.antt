-- The names that answers take from elsewhere and from the lemmas.

pub use Rattle.par2_matrix.proofs.Combinations.{each_more}
pub use Rattle.par2_matrix.proofs.Common.{◌∙◌, sym, subst, IsReduced, echelon, lists_of, length-lists_of, ◌<◌, ◌≡◌, ◌≤◌, ◌↔◌, ap, Equations, rank, IsUndetermined, OnlyZeroIsKilled, Bool, true, false, rules, refl, arith, length, IsTheSolution, ◌+◌, ℕ, List, with_items, with_items_is, CutDown, IsIndependent, IsDependent, echelon_of, system_of, ◌*◌, row_sum_empty, inl, inr, AreByteRows, AreClose, AreFactors, AreHoleEquations, AreOrigins, Contains, Dependent, Err, Fits-lt-pow, Global, HoldsRow, IsOriginAt, IsRepairable, IsStrictlyIncreasing, IsTrue, IsUnit, Kept, Ok, Vec, [], all_from, append-nil, ap₂, bit_xor, close_kept, constant, drop, eqb-true, false≢true, filter, full-iff, get_or, get_or-map, get_or-replicate, get_or_default, holes, is_hole, length-drop, length-map, length-set, length_push, list_at, locator, map, map-append, mul, not, plus, pow, quotient, range_with_len, rank-le, run_rank, span, take, times, times_root, value, with_roots, ◌%◌, ◌++◌, ◌-◌, ◌/◌, ◌^◌, ◌∷◌, ◌≢◌}
pub use Rattle.par2_matrix.proofs.Promises.{new_system, rank_view, rank_full, undetermined, the_solution, not_full, cuts, determines, follows}
pub use Rattle.par2_matrix.proofs.Ranks.{Standing, dependent_is_not_kept, eliminated, full_follows, stands_more, stands_still}
pub use Rattle.par2_matrix.proofs.RunInverses.{at_itself, close-iff, close_run, derivative_end, derivative_from, factor_is, first_powers, more_factors, no_run, not_empty, one_less, part_is, quotient_step, quotient_whole, rises_between, rises_to_the_end, root_end, root_step, slices_of, value_at_end, value_from, with_roots_at_end, with_roots_from}
pub use Rattle.par2_matrix.proofs.Systems.{none_reduced, rank_most, IsTaken, offered, clear_step, clear_pass, put_at, place_within, ClearedBelow, pivot_is, room_left, reduce_add, reduce_pass}
pub use Rattle.par2_matrix.proofs.Windows.{are_hole_inverse, found_among, found_place, hole_contained, holes_determine, holes_rise, more_determine, one_equation_more, one_place_more, only_zero_fits, window_holds}
pub use Rattle.par2_matrix.specs.declared.holes.Origin.{Origin}
pub use Rattle.par2_matrix.specs.declared.holes.Origin.TheVariants.{Exponent}
pub use Rattle.std.proofs.lemmas.Iterator.{YieldsList-from_map, YieldsList-from_slice, items_from_collect}
pub use Rattle.std.proofs.lemmas.List.Sorted.{searched}
pub use Rattle.std.proofs.lemmas.Option.{MatchOption-at_some}
pub use Rattle.std.proofs.lemmas.Result.{IfOk-weaker}
