-- Lemmas that several proofs of this crate share.
pub use Rattle.par2_spec.proofs.FolderLaws.{create_leads, gone_first, none_gone, put_in, removals_lead, are_applicable-append, changes_back, effects-append, inverse_taken, inverse_twice, same_folder, state_all_back, state_back, undo_change, undo_changes, undo_is_applicable, way_back-append, way_back_taken, accepted_next, done_of_kept, ok_no_err, redone_of_kept, refused_alike, same_ok, undone_of_kept}
pub use Rattle.par2_spec.proofs.FieldLaws.{xor_middle, constant-injective, constant-lt, constant-nonzero, has_inverse, logarithm, no_zero_divisor, one_inverse, onto_from_injective, power-65535, power-add, power-lt, product-zero, zero-product, product-lt, product-one, product_assoc, product_comm, product_linear_left, product_linear_right, dot_sum, field_sum_one, product_at, xor_off, xor_same}
pub use Rattle.par2_spec.proofs.SearchLaws.{all-filter, all_by_test, intact_found, slice_begins, agrees-iff, all_weaker, counts, counts-iff, independent-iff, kept-iff, killed_vector, none_kept, rebuilt_agrees, rebuilt_is_only, repairable-iff, test_from_all, candidates_there, each_there, fits_of, present_searched, size_parts, size_positive, sized_from_counted, sound_of, found_passes, names_of_pairs, pairs_with, taken_once, taken_was_free}
pub use Rattle.par2_spec.proofs.ListsLaws.{all-append, all-both, all-drop, all-each, all-flat_map, all-flat_map-map, all-map, all-parts, all-passing, all-take, all_at, all_from, all_get, all_unmap, contained_first, contained_later, filter-map, found_one, map-cond, of_contained, AreDistinct, among-append, among-filter, among_some, apart_by_test, clash, distinct-append, distinct-filter, distinct-map, distinct_from_std, distinct_some, image_in, image_of, itself, not_first, other_name, same_either_way, same_name, std_from_distinct, T-parts, by_either, by_test, cond-not, no_place, none_if, same_tests, some_if, byte_at, bytes-spelled, length-spelled, same_buffers, spelled, word-lt, word_of}
