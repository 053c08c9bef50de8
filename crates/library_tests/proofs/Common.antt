-- Names from elsewhere that the proofs of this crate use.

pub use Rattle.std.proofs.Common.{IsTrue, None, [], length, subst, sym, ℕ, ◌*◌, ◌<◌, ◌∙◌, ◌∷◌, ◌≡◌}
pub use Rattle.par2_files.specs.Folders.{change_of}
pub use Rattle.par2_spec.proofs.FolderLaws.{inverse_taken, state_back, takes_both, takes_none}
pub use Rattle.par2_spec.specs.Prelude.{Change, FolderState, change_refusal, inverse, state_after, takes_all}
