-- The names that answers of this crate take from elsewhere.

pub use Rattle.std.proofs.Common.{Err, List, Ok, inl, inr, map, string_bytes, ◌≡◌, ◌⊎◌}
pub use Rattle.std.proofs.lemmas.Result.{err_from_is_err_and}
pub use Rattle.std.specs.Prelude.{IfErr, None, Option, Result, Some}
pub use Rattle.par2_laws.proofs.RepairAnswers.{answers}
pub use Rattle.par2_repair.specs.Repairing.{HasItsMd5s}
pub use Rattle.par2_spec.proofs.ListsLaws.{err_again, passed}
pub use Rattle.par2_spec.specs.Prelude.{Change, Repair, RestoresFiles, RestoresInputs, after, effects, folder_left, refusal}
pub use Rattle.par2_spec.specs.declared.Fault.{Fault}
pub use Rattle.par2_spec.specs.declared.Fault.TheVariants.{Memory, RepairFailed}
