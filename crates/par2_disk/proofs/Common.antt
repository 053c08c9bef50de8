-- The names that proofs of this crate take from elsewhere.

pub use Rattle.std.proofs.Common.{IfErr, List, OnErr, OnOk, Result, Some, [], ap, arith, drop, get_or, inl, inr, length, nat_lt, refl, subst, suc, sym, take, vec_len, zero, ℕ, ◌++◌, ◌+◌, ◌<◌, ◌∙◌, ◌∷◌, ◌≡◌, ◌≤◌, ◌⊎◌}
pub use Rattle.std.proofs.raw_atomic.Walks.{proved}
pub use Rattle.std.specs.FinMap.{entries}
pub use Rattle.std.specs.Int.Bits.{bit_and, and_self, and_zero_r}
pub use Rattle.par2_disk.specs.Stores.{OnlyReads}
pub use Rattle.par2_spec.specs.Prelude.{FolderState, Write, state_after, names, has}
unfoldable pub use Rattle.par2_spec.specs.Prelude.{change_refusal, effect}
pub use Rattle.std.proofs.lemmas.Bool.Decides.{nat_tests}
pub use Rattle.std.specs.Prelude.{false}
pub use Rattle.std.proofs.lemmas.List.Elements.{All-more, All-nil, All-weaker}
pub use Rattle.std.proofs.lemmas.Nat.{and_assoc, and_comm}
pub use Rattle.par2_spec.specs.declared.ChangeFault.{ChangeFault}
pub use Rattle.par2_disk.specs.Runtime.{GivesNoMore, IsWithinThoseNamed}
pub use seplogic.Ra.Ura.{Ura}
pub use mir.Val.{Val, vstruct, vnil}
pub use types.Logic.{Logic}
pub use types.Kit.{Goal, Step, step, Item, ‵, ◌$◌, fjoin, fpack, feq_i}
pub use denote.RattleType.{RattleType, Valss}
pub use denote.Steps.{nothing}
pub use denote.Struct.Struct.{Struct, within}
