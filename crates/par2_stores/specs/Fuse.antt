-- A store that passes its first calls on to another store, and then fails.
use Rattle.std.specs.Prelude.{◌≡◌, ◌⊎◌, ℕ, ◌+◌, ◌<◌, Bool, true, false, List, Result, IsErr, IsErrOf}
use Rattle.par2_spec.specs.Prelude.{Change, Write, Replace, Rename, Remove, Contents, with_change, with_journal}
use Rattle.par2_stores.specs.declared.fuse.BorrowedChange.{BorrowedChange}
use Rattle.par2_stores.specs.declared.fuse.BorrowedChange.TheVariants as borrowed
use Rattle.par2_stores.specs.declared.fuse.Fate.{Fate}
use Rattle.par2_stores.specs.declared.fuse.Fate.TheVariants.{Passes, Works, Fails}
use Rattle.par2_stores.specs.declared.fuse.FuseStore.{FuseStore}
use Rattle.par2_disk.specs.declared.store.ReadFault.{ReadFault}
use Rattle.par2_disk.specs.declared.store.ReadFault.TheVariants.{Store}
use Rattle.par2_disk.specs.declared.store.StoreFault.{StoreFault}
use Rattle.par2_disk.specs.declared.store.Store.{Ghosts as StoreOf}

-- the store that it passes calls on to
abbrev pub inner_store : {S : Type 0} → FuseStore S → S
inner_store store = store.inner

-- the number of calls that it still passes on
abbrev pub calls_left : {S : Type 0} → FuseStore S → ℕ
calls_left store = store.left

-- whether the next call that fails does its work first
abbrev pub does_work : {S : Type 0} → FuseStore S → Bool
does_work store = store.works

-- the number of its own failures, without those of the other store
abbrev pub fuse_failures : {S : Type 0} → FuseStore S → ℕ
fuse_failures store = store.failures.count

-- the number of its writing calls, passed on or not
abbrev pub fuse_writing_calls : {S : Type 0} → FuseStore S → ℕ
fuse_writing_calls store = store.writing_calls.count

-- a borrowed change as a change of the definitions
abbrev pub change_in : BorrowedChange → Change
change_in (borrowed.Write name bytes) = Write name.now bytes.now
change_in (borrowed.Replace name bytes) = Replace name.now bytes.now
change_in (borrowed.Rename from to) = Rename from.now to.now
change_in (borrowed.Remove name) = Remove name.now

-- no calls are left to pass on, and the next one does its work and fails
pub record WorksNext {S : Type 0} (store : FuseStore S) : Type 0 where
  pub left : calls_left store ≡ 0
  pub works : does_work store ≡ true

-- a call was passed on: one fewer is left, and the store itself has not failed
pub record HasPassed {S : Type 0} (old new : FuseStore S) : Type 0 where
  pub left : calls_left new + 1 ≡ calls_left old
  pub works : does_work new ≡ does_work old
  pub failures : fuse_failures new ≡ fuse_failures old

-- a call failed: unless it does its work, the other store stays, and no later call does its work
pub record IsBlown {S : Type 0} (old new : FuseStore S) : Type 0 where
  pub left : calls_left new ≡ 0
  pub works : does_work new ≡ false
  pub failures : fuse_failures new ≡ fuse_failures old + 1
  pub idle : does_work old ≡ false → inner_store new ≡ inner_store old

-- the fate of the next call, by the store before and after it is decided
abbrev pub Becomes : {S : Type 0} → FuseStore S → FuseStore S → Fate → Type 0
Becomes old new Passes = 0 < calls_left old × HasPassed old new
Becomes old new Works = WorksNext old × IsBlown old new
Becomes old new Fails = (calls_left old ≡ 0) × (does_work old ≡ false) × IsBlown old new

-- the ghost state of the fuse store, from that of the store to which it passes calls on
abbrev pub fuse : {S : Type 0} → StoreOf S → StoreOf (FuseStore S)
fuse store = record {
  honest = λ it. store.honest (inner_store it);
  contents = λ it. store.contents (inner_store it);
  crash_states = λ it. store.crash_states (inner_store it);
  failures = λ it. store.failures (inner_store it) + fuse_failures it;
  impossible = λ it. store.impossible (inner_store it);
  writing_calls = fuse_writing_calls;
}

-- a reading call was passed on, or failed
pub record FusesRead {S T : Type 0} (old new : FuseStore S) (result : Result T ReadFault) : Type 0 where
  pub passed : 0 < calls_left old → HasPassed old new
  pub blown : calls_left old ≡ 0 → IsErrOf result Store × IsBlown old new

-- a writing call was passed on, or failed. The first that fails may do its work: then the contents are these, unless
-- the other store fails
pub record Fuses {S : Type 0} (store : StoreOf S) (old new : FuseStore S) (after : Contents) (result : Result (Unit {0}) StoreFault) : Type 0 where
  pub passed : 0 < calls_left old → HasPassed old new
  pub worked : store.honest (inner_store old) → WorksNext old → (store.failures (inner_store old) < store.failures (inner_store new)) ⊎ (store.contents (inner_store new) ≡ after)
  pub blown : calls_left old ≡ 0 → IsErr result × IsBlown old new

-- a writing call makes a change: it was passed on, or failed
abbrev pub FusesChange : {S : Type 0} → StoreOf S → FuseStore S → FuseStore S → Change → Result (Unit {0}) StoreFault → Type 0
FusesChange store old new change result = Fuses store old new (with_change (store.contents (inner_store old)) change) result

-- a writing call writes the journal: it was passed on, or failed
abbrev pub FusesJournal : {S : Type 0} → StoreOf S → FuseStore S → FuseStore S → List ℕ → Result (Unit {0}) StoreFault → Type 0
FusesJournal store old new bytes result = Fuses store old new (with_journal (store.contents (inner_store old)) bytes) result
