-- Names from elsewhere that the proofs of this crate use.

pub use Rattle.std.proofs.Common.{IsTrue, List, [], ap, arith, below_more, get_or, inl, inr, length, map, refl, replicate, rules, subst, suc, sym, ℕ, ◌*◌, ◌+◌, ◌<◌, ◌∙◌, ◌∷◌, ◌≡◌, ◌≤◌}
pub use Rattle.std.proofs.lemmas.List.{ext_get_or, get_or-replicate, length-map, length-replicate}
pub use Rattle.std.specs.Borrow.{Bor}
pub use Rattle.std.specs.List.{AllAdjacentBelow, AllByRecursion}
pub use Rattle.std.specs.Prelude.{All, IfSome, None, Option, Some}
pub use Rattle.par2_spec.specs.Prelude.{list_at, lists_of}
pub use Rattle.par2_transform.specs.Rows.{place_at}
pub use Rattle.recovery_calls.specs.Outputs.{AreBeside}
