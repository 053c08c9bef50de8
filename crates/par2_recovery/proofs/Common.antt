-- Names from other crates that the proofs of this one use.

pub use Rattle.std.proofs.Common.{List, [], ap, ap₂, arith, drop, get_or, length, map, refl, replicate, rules, subst, sym, take, ℕ, ◌*◌, ◌+◌, ◌<◌, ◌∙◌, ◌≡◌}
pub use Rattle.std.proofs.lemmas.Bool.{false≢true}
pub use Rattle.std.proofs.lemmas.List.{ext_get_or, length-replicate, take_all, with_items_is}
pub use Rattle.std.proofs.lemmas.List.FromFn.{get_or-map-range_with_len, get_or-range_with_len, length-map-range_with_len, length-range_with_len}
pub use Rattle.std.specs.List.{range_with_len}
pub use Rattle.std.specs.Prelude.{◌/◌}
pub use Rattle.par2_solve.specs.BufferContents.{AreBlank, byte_lists}
pub use Rattle.par2_solve.specs.Rebuilding.{AreWritten, AreZeros, output_at}
pub use Rattle.par2_spec.specs.Prelude.{padded, list_at, lists_of, recovery}
pub use Rattle.par2_transform.specs.Rows.{AreWholeBuffers, HaveWords, place_at}
pub use Rattle.par2_transform.specs.declared.outputs.Place.{Place}
