-- Names from elsewhere that the proofs of this crate use.

pub use Rattle.std.proofs.Common.{List, [], ap, arith, length, ltb-true, map, refl, rules, string_bytes, subst, suc, sym, take, zero, ℕ, ◌++◌, ◌-◌, ◌<◌, ◌^◌, ◌∙◌, ◌∷◌, ◌≡◌, ◌≤◌}
pub use Rattle.std.proofs.lemmas.List.{get_or-map, get_or_past, length-map, take_all}
pub use Rattle.par2_output.specs.Printing.{PrinterTookAll, seen}
pub use Rattle.par2_spec.proofs.WritingLaws.{lines_cut, part, step, wrote_less, wrote_then}
pub use Rattle.par2_spec.specs.Prelude.{word_at}
unfoldable pub use Rattle.par2_spec.specs.Prelude.{error_of, failure_line}
pub use Rattle.std.proofs.Math.ListN.{get_or}
