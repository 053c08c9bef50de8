-- What a power cut may leave. Until written bytes are synced, any prefix of them may be left. Until a change of names is
-- synced, it may be there or not, independently of others, but never in part. Synced bytes and names stay.
use Rattle.std.specs.Prelude.{◌≡◌, List, Option, Some, ℕ, ◌⊎◌, ◌+◌, ◌<◌, ◌≤◌, None, Vec, Result, IfOk, IsErr, IsErrOf, IsFalse, IsTrue, OnErr, OnOk, option_map}
use Rattle.std.specs.FinMap.{get}
pub use Rattle.std.specs.declared.alloc.Global.{Global}
use Rattle.par2_spec.specs.Prelude.{Contents, with_change, with_journal, Change, has, is_applicable, names}
pub use Rattle.par2_disk.specs.declared.store.ReadFault.{ReadFault}
pub use Rattle.par2_disk.specs.declared.store.ReadFault.TheVariants.{Memory, Store}
pub use Rattle.par2_disk.specs.declared.store.StoreFault.{StoreFault}
pub use Rattle.par2_disk.specs.declared.store.Store.{Ghosts as StoreOf}

-- a power cut leaves these contents and no others
abbrev pub IsDurable : (Contents → Type 0) → Contents → Type 0
IsDurable crash_states contents = (left : Contents) → crash_states left → left ≡ contents

-- bytes that are synced: a power cut leaves exactly these
abbrev pub AreKept : (List ℕ → Type 0) → Option (List ℕ) → Type 0
AreKept crash_states bytes = (left : List ℕ) → crash_states left → bytes ≡ Some left

-- what may be left, be in the way or fail now could do so before
abbrev pub NoMore : {A : Type 0} → (A → Type 0) → (A → Type 0) → Type 0
NoMore {A} old new = (x : A) → new x → old x

-- What calls of a store do, by its ghost state before and after: of its contents and crash states if it is honest.

-- a call that only reads: the contents stay, and no writing call is counted
pub record OnlyReads {S : Type 0} (store : StoreOf S) (old new : S) : Type 0 where
  pub honest : store.honest old → store.honest new
  pub same : store.honest old → store.contents new ≡ store.contents old
  pub remains : store.honest old → NoMore (store.crash_states old) (store.crash_states new)
  pub unwritten : store.writing_calls new ≡ store.writing_calls old

-- the names of the files are read; that can always be done
pub record ReadsNames {S : Type 0} (store : StoreOf S) (old new : S) (result : Result (Vec (List ℕ) Global) ReadFault) : Type 0 where
  pub reads : OnlyReads store old new
  pub names : store.honest old → IfOk result (λ list. list.items ≡ names (store.contents old).files)
  pub possible : store.impossible new ≡ store.impossible old

-- the bytes of a file are read. If no file has the name, the call can't be done and fails
pub record ReadsFile {S : Type 0} (store : StoreOf S) (old new : S) (name : List ℕ) (result : Result (Vec ℕ Global) ReadFault) : Type 0 where
  pub reads : OnlyReads store old new
  pub bytes : store.honest old → IfOk result (λ bytes. get (store.contents old).files name ≡ Some bytes.items)
  pub absent : store.honest old → get (store.contents old).files name ≡ None → IsErrOf result Store
  pub possible : store.honest old → IsTrue (has (store.contents old).files name) → store.impossible new ≡ store.impossible old
  pub grows : store.impossible old ≤ store.impossible new

-- the journal is read, if there is one; that can always be done
pub record ReadsJournal {S : Type 0} (store : StoreOf S) (old new : S) (result : Result (Option (Vec ℕ Global)) ReadFault) : Type 0 where
  pub reads : OnlyReads store old new
  pub journal : store.honest old → IfOk result (λ journal. option_map (λ (bytes : Vec ℕ Global). bytes.items) journal ≡ (store.contents old).journal)
  pub possible : store.impossible new ≡ store.impossible old

-- the number of failures before and after a reading call. Running out of memory isn't a failure of the store
pub record CountsReadFailures {S T : Type 0} (failures : S → ℕ) (old new : S) (result : Result T ReadFault) : Type 0 where
  pub later : failures old ≤ failures new
  pub cause : IsErrOf result Store → failures old < failures new
  pub steady : OnOk result (failures new ≡ failures old)
  pub memory : IsErrOf result Memory → failures new ≡ failures old

-- the number of failures before and after a call that counts each of its failures
pub record CountsCalls {T E : Type 0} (before after : ℕ) (result : Result T E) : Type 0 where
  pub later : before ≤ after
  pub cause : OnErr result (before < after)
  pub steady : OnOk result (after ≡ before)

-- the same of a store with this number of failures
abbrev pub CountsFailures : {S T E : Type 0} → (S → ℕ) → S → S → Result T E → Type 0
CountsFailures failures old new result = CountsCalls (failures old) (failures new) result

-- a writing call leaves these contents. After an error or a power cut they are these or the old ones
pub record Writes {S : Type 0} (store : StoreOf S) (old new : S) (after : Contents) (result : Result (Unit {0}) StoreFault) : Type 0 where
  pub honest : store.honest old → store.honest new
  pub done : store.honest old → OnOk result (store.contents new ≡ after)
  pub all_or_none : store.honest old → OnErr result ((store.contents new ≡ store.contents old) ⊎ (store.contents new ≡ after))
  pub durable : store.honest old → OnOk result (IsDurable (store.crash_states new) (store.contents new))
  pub remains : store.honest old → IsDurable (store.crash_states old) (store.contents old) → (left : Contents) → store.crash_states new left → (left ≡ store.contents old) ⊎ (left ≡ after)

-- a call makes a change. A change that can't be made is an error and does nothing
pub record Makes {S : Type 0} (store : StoreOf S) (old new : S) (change : Change) (result : Result (Unit {0}) StoreFault) : Type 0 where
  pub writes : Writes store old new (with_change (store.contents old) change) result
  pub impossible : store.honest old → IsFalse (is_applicable (store.contents old).files change) → IsErr result × (store.contents new ≡ store.contents old)
  pub possible : store.honest old → IsTrue (is_applicable (store.contents old).files change) → store.impossible new ≡ store.impossible old
  pub grows : store.impossible old ≤ store.impossible new
  pub failures : CountsFailures store.failures old new result
  pub counted : store.writing_calls new ≡ store.writing_calls old + 1

-- a call writes the whole journal. That can always be done
pub record PutsJournal {S : Type 0} (store : StoreOf S) (old new : S) (bytes : List ℕ) (result : Result (Unit {0}) StoreFault) : Type 0 where
  pub writes : Writes store old new (with_journal (store.contents old) bytes) result
  pub possible : store.impossible new ≡ store.impossible old
  pub failures : CountsFailures store.failures old new result
  pub counted : store.writing_calls new ≡ store.writing_calls old + 1
