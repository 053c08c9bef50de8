-- A directory as `DiskStore` sees it: its contents at the places where the store looks, and what each call does. And a
-- store over it: the counts of its failures, of calls that can't be done, and of writing calls, and what each call does.
use Rattle.std.specs.Prelude.{◌≡◌, ◌⊎◌, ◌<◌, ◌≤◌, ◌||◌, ℕ, Bool, List, take, Ok, Option, None, Some, Vec, Result, IfErr, IfOk, IfSome, IsErr, IsErrOf, IsFalse, IsSome, IsTrue, OnErr, OnOk, codes, is_ok}
use Rattle.par2_spec.specs.Prelude.{Change, Write, Replace, Rename, Remove, is_applicable, has, names, Contents, with_change, with_journal}
use Rattle.par2_disk.specs.Stores.{AreKept, CountsCalls, Global, IsDurable, NoMore, ReadFault, Store, StoreFault, StoreOf, Writes}
use Rattle.par2_disk.specs.declared.current.Stamp.{Stamp}
use Rattle.par2_disk.specs.declared.disk.Location.{Location}
use Rattle.par2_disk.specs.declared.disk.Found.{Found}
use Rattle.par2_disk.specs.declared.disk.DiskStore.{DiskStore}
use Rattle.std.specs.FinMap as map_of
use Rattle.par2_disk.specs.declared.disk.Location.TheVariants as location
use Rattle.par2_disk.specs.declared.disk.Found.TheVariants as found

-- a directory as contracts see it
pub record DirectoryState : Type 1 where
  -- only runs of this program write it, and reads return what was written
  pub honest : Type 0
  -- the run holds it alone, so that no other run writes
  pub alone : Type 0
  -- the journal's stamp when it was last looked at, or none if there was no journal
  pub stamp : Option Stamp
  pub contents : Contents
  pub temporary : Option (List ℕ)
  -- what a power cut may leave now of the files and the journal, and of the temporary file
  pub crash_states : Contents → Type 0
  pub temporary_crash_states : List ℕ → Type 0
  -- something other than a file is at the path
  pub barred : List ℕ → Type 0
  -- a reading call may return this fault now
  pub may_fail : ReadFault → Type 0
  -- the number of failed calls that hold it, write or sync
  pub failures : ℕ

-- the path of a location
abbrev pub path_of : Location → List ℕ
path_of (location.File name) = name.now
path_of location.Journal = codes ".par2undo"
path_of location.Temporary = codes ".par2undo.tmp"

-- the bytes of the file at a location, if there is one
abbrev pub bytes_at : DirectoryState → Location → Option (List ℕ)
bytes_at it (location.File name) = map_of.get it.contents.files name.now
bytes_at it location.Journal = it.contents.journal
bytes_at it location.Temporary = it.temporary

-- the contents with these bytes written to the file at a location
abbrev pub put_at : Contents → Location → List ℕ → Contents
put_at contents (location.File name) bytes = with_change contents (Replace name.now bytes)
put_at contents location.Journal bytes = with_journal contents bytes
put_at contents location.Temporary bytes = contents

-- nothing other than a file is at the location
abbrev pub IsFree : DirectoryState → Location → Type 0
IsFree it at = it.barred (path_of at) → ⊥

-- what is found at a location, by the bytes of the file there and by whether something other than a file is there
abbrev pub StandsAs : Option (List ℕ) → Type 0 → Found → Type 0
StandsAs bytes barred found.Nothing = (bytes ≡ None) × (barred → ⊥)
StandsAs bytes barred found.File = IsSome bytes × (barred → ⊥)
StandsAs bytes barred found.Other = (bytes ≡ None) × barred

-- a call that changes nothing but the count of failures and the hold on the directory
pub record Stays (old new : DirectoryState) : Type 0 where
  pub honest : old.honest → new.honest
  pub alone : old.alone → new.alone
  pub contents : old.honest → new.contents ≡ old.contents
  pub stamp : old.honest → new.stamp ≡ old.stamp
  pub temporary : old.honest → new.temporary ≡ old.temporary
  pub remains : old.honest → NoMore old.crash_states new.crash_states
  pub barred : old.honest → NoMore old.barred new.barred
  pub fails : NoMore old.may_fail new.may_fail

-- the names of the files are listed, in order
pub record ListsNames (it : DirectoryState) (result : Result (Vec (List ℕ) Global) ReadFault) : Type 0 where
  pub names : it.honest → IfOk result (λ list. list.items ≡ names it.contents.files)
  pub fault : IfErr result it.may_fail

-- what is at a location is found
pub record Finds (it : DirectoryState) (at : Location) (result : Result Found StoreFault) : Type 0 where
  pub stands : it.honest → IfOk result (StandsAs (bytes_at it at) (it.barred (path_of at)))
  pub stamp : it.honest → at ≡ location.Journal → result ≡ Ok found.Nothing → it.stamp ≡ None
  pub fault : IsErr result → it.may_fail Store

-- the bytes of the file at a location are read, with its stamp
pub record ReadsAt (old new : DirectoryState) (at : Location) (result : Result (Vec ℕ Global × Stamp) ReadFault) : Type 0 where
  pub stays : Stays old new
  pub bytes : old.honest → IfOk result (λ read. bytes_at old at ≡ Some read.0.items)
  pub stamp : old.honest → at ≡ location.Journal → IfOk result (λ read. old.stamp ≡ Some read.1)
  pub fault : old.honest → IsSome (bytes_at old at) → IfErr result old.may_fail
  pub unfailed : new.failures ≡ old.failures

-- its bytes are written: a power cut may leave a prefix of them
pub record WritesTemporary (old new : DirectoryState) (bytes : List ℕ) (result : Result (Unit {0}) StoreFault) : Type 0 where
  pub honest : old.honest → new.honest
  pub alone : old.alone → new.alone
  pub done : old.honest → IsFree old location.Temporary → OnOk result (new.temporary ≡ Some bytes)
  pub same : old.honest → IsFree old location.Temporary → new.contents ≡ old.contents
  pub barred : old.honest → NoMore old.barred new.barred
  pub remains : old.honest → IsFree old location.Temporary → NoMore old.crash_states new.crash_states
  pub cut_off : old.honest → IsFree old location.Temporary → OnOk result ((left : List ℕ) → new.temporary_crash_states left → (n : ℕ) × (left ≡ take n bytes))
  pub failures : CountsCalls old.failures new.failures result

-- its bytes are synced, and so durable (fsync of the file)
pub record KeepsTemporary (old new : DirectoryState) (result : Result (Unit {0}) StoreFault) : Type 0 where
  pub stays : Stays old new
  pub kept : old.honest → OnOk result (AreKept new.temporary_crash_states new.temporary)
  pub failures : CountsCalls old.failures new.failures result

-- a change of names, if it can be made. Until it is synced, a power cut leaves each earlier crash state without it or with it
pub record Moves (old new : DirectoryState) (Can : Type 0) (IsMade MayBeLeft : Contents → Contents → Type 0) (result : Result (Unit {0}) StoreFault) : Type 0 where
  pub honest : old.honest → new.honest
  pub alone : old.alone → new.alone
  pub done : old.honest → Can → OnOk result (IsMade old.contents new.contents)
  pub all_or_none : old.honest → Can → OnErr result ((new.contents ≡ old.contents) ⊎ IsMade old.contents new.contents)
  pub remains : old.honest → Can → (left : Contents) → new.crash_states left → old.crash_states left ⊎ ((before : Contents) × old.crash_states before × MayBeLeft before left)
  pub failures : CountsCalls old.failures new.failures result

-- the temporary file is moved to a location, over an existing file, or after a power cut what may be left of its bytes
abbrev pub PutsTemporary : DirectoryState → DirectoryState → Location → Result (Unit {0}) StoreFault → Type 0
PutsTemporary old new at result = Moves old new (IsFree old at)
    (λ before after. IfSome old.temporary (λ bytes. after ≡ put_at before at bytes))
    (λ before after. (bytes : List ℕ) × old.temporary_crash_states bytes × (after ≡ put_at before at bytes)) result

-- it is moved to a free location; a taken location is an error, and nothing changes
pub record AddsTemporary (old new : DirectoryState) (at : Location) (result : Result (Unit {0}) StoreFault) : Type 0 where
  pub moves : PutsTemporary old new at result
  pub taken : old.honest → IsSome (bytes_at old at) ⊎ old.barred (path_of at) → IsErr result × (new.contents ≡ old.contents)

-- nothing bars a change: neither its new name, nor the path of the temporary file
abbrev pub IsClear : DirectoryState → Change → Type 0
IsClear it (Write name bytes) = (it.barred name → ⊥) × IsFree it location.Temporary
IsClear it (Replace name bytes) = IsFree it location.Temporary
IsClear it (Rename from to) = it.barred to → ⊥
IsClear it (Remove name) = Unit {0}

-- the change can be made, and nothing bars it
abbrev pub CanMake : Change → DirectoryState → Type 0
CanMake change it = IsTrue (is_applicable it.contents.files change) × IsClear it change

-- a file is renamed to a free name, or removed, whole or not at all
abbrev pub MovesFile : {D : Type 0} → (D → DirectoryState) → D → D → Change → Result (Unit {0}) StoreFault → Type 0
MovesFile state old new change result = Moves (state old) (state new) (CanMake change (state old))
    (λ before after. after ≡ with_change before change) (λ before after. after ≡ with_change before change) result

-- the names are synced, and so durable (fsync of the directory)
pub record KeepsNames (old new : DirectoryState) (result : Result (Unit {0}) StoreFault) : Type 0 where
  pub stays : Stays old new
  pub durable : old.honest → OnOk result (IsDurable new.crash_states new.contents)
  pub failures : CountsCalls old.failures new.failures result

-- the ghost state of the store, from that of its directory
abbrev pub over : {D : Type 0} → (D → DirectoryState) → StoreOf (DiskStore D)
over state = record {
  honest = λ store. (state store.directory).honest;
  contents = λ store. (state store.directory).contents;
  crash_states = λ store. (state store.directory).crash_states;
  failures = λ store. store.failures.count;
  impossible = λ store. store.impossible.count;
  writing_calls = λ store. store.writing_calls.count;
}

-- a file has the name if `needed`, or else nothing has it. A call that can't be done is counted; nothing else changes
pub record FindsAs {D : Type 0} (state : D → DirectoryState) (old new : DiskStore D) (name : List ℕ) (needed : Bool) (result : Result (Unit {0}) StoreFault) : Type 0 where
  pub found : (state old.directory).honest → OnOk result ((has (state old.directory).contents.files name ≡ needed) × ((state old.directory).barred name → ⊥))
  pub reason : (state old.directory).honest → has (state old.directory).contents.files name ≡ needed → (IsFalse needed → (state old.directory).barred name → ⊥) → OnErr result ((state old.directory).may_fail Store)
  pub possible : (state old.directory).honest → has (state old.directory).contents.files name ≡ needed → new.impossible.count ≡ old.impossible.count
  pub grows : old.impossible.count ≤ new.impossible.count
  pub rest : new ≡ record old { impossible = new.impossible }

-- why a reading call fails: the directory may fail so, or it can't be held, which counts as a failure
abbrev pub FailsToRead : {D T : Type 0} → (D → DirectoryState) → DiskStore D → DiskStore D → Result T ReadFault → Type 0
FailsToRead state old new result = IfErr result (λ fault. (state old.directory).may_fail fault
    ⊎ ((fault ≡ Store) × ((state old.directory).failures < (state new.directory).failures)))

-- why reading a file fails: if a file has the name, only because of the directory
abbrev pub FailsToReadFile : {D T : Type 0} → (D → DirectoryState) → DiskStore D → DiskStore D → List ℕ → Result T ReadFault → Type 0
FailsToReadFile state old new name result =
    (state old.directory).honest → IsTrue (has (state old.directory).contents.files name) → FailsToRead state old new result

-- a writing call that can be done fails only because of the directory; one that returns Ok counts no failure of it
pub record Blames (old new : DirectoryState) (Can : Type 0) (result : Result (Unit {0}) StoreFault) : Type 0 where
  pub reason : old.honest → Can → OnErr result (old.may_fail Store ⊎ (old.failures < new.failures))
  pub unfailed : OnOk result (new.failures ≡ old.failures)

-- something other than a file has the new name
abbrev pub IsBlocked : DirectoryState → Change → Type 0
IsBlocked it (Write name bytes) = it.barred name
IsBlocked it (Rename from to) = it.barred to
IsBlocked it change = ⊥

-- nothing other than a file is at the location or at the path of the temporary file
abbrev pub CanPut : Location → DirectoryState → Type 0
CanPut at it = IsFree it at × IsFree it location.Temporary

-- the journal is the one that was read, if it was read, or the run has checked that while holding the directory alone
abbrev pub IsAsRead : {D : Type 0} → (D → DirectoryState) → DiskStore D → Type 0
IsAsRead state store = IsTrue store.is_entered ⊎ IfSome store.seen (λ seen. (state store.directory).stamp ≡ seen)

-- why a writing call fails that holds the directory first
abbrev pub Fails : {D : Type 0} → (D → DirectoryState) → DiskStore D → DiskStore D → (DirectoryState → Type 0) → Result (Unit {0}) StoreFault → Type 0
Fails state old new Can result = Blames (state old.directory) (state new.directory) (IsAsRead state old × Can (state old.directory)) result

-- the journal is read, and its stamp remembered, to be compared later. That fails if anything other than a file is at its
-- path, and otherwise only because of the directory
pub record RemembersJournal {D T : Type 0} (state : D → DirectoryState) (old new : DiskStore D) (result : Result T ReadFault) : Type 0 where
  pub some : OnOk result (IsSome new.seen)
  pub seen : (state old.directory).honest → OnOk result (new.seen ≡ Some (state new.directory).stamp)
  pub entered : new.is_entered ≡ old.is_entered
  pub barred : (state old.directory).honest → (state new.directory).barred (path_of location.Journal) → IsErrOf result Store
  pub absent : (state old.directory).honest → (state old.directory).contents.journal ≡ None → IfErr result (λ fault. fault ≡ Store)
  pub reason : (state old.directory).honest → IsFree (state old.directory) location.Journal → FailsToRead state old new result

-- the directory is held alone, and the journal is the one that was read; nothing else changes
pub record HoldsDirectory {D : Type 0} (state : D → DirectoryState) (old new : DiskStore D) (result : Result (Unit {0}) StoreFault) : Type 0 where
  pub stays : Stays (state old.directory) (state new.directory)
  pub alone : OnOk result (state new.directory).alone
  pub same : IsFalse old.is_entered → IfSome old.seen (λ seen. OnOk result ((state new.directory).stamp ≡ seen))
  pub blames : Blames (state old.directory) (state new.directory) (IsAsRead state old) result
  pub rest : new ≡ record old { directory = new.directory; is_entered = old.is_entered || is_ok result }

-- `make_temporary`: the temporary file is written, and its bytes are durable; the files and the journal stay
pub record MakesTemporary {D : Type 0} (state : D → DirectoryState) (old new : DiskStore D) (bytes : List ℕ) (result : Result (Unit {0}) StoreFault) : Type 0 where
  pub honest : (state old.directory).honest → (state new.directory).honest
  pub alone : (state old.directory).alone → (state new.directory).alone
  pub written : (state old.directory).honest → OnOk result ((state new.directory).temporary ≡ Some bytes)
  pub same : (state old.directory).honest → (state new.directory).contents ≡ (state old.directory).contents
  pub barred : (state old.directory).honest → NoMore (state old.directory).barred (state new.directory).barred
  pub blocked : (state old.directory).honest → (state old.directory).barred (path_of location.Temporary) → IsErr result × (new.directory ≡ old.directory)
  pub remains : (state old.directory).honest → NoMore (state old.directory).crash_states (state new.directory).crash_states
  pub kept : (state old.directory).honest → OnOk result (AreKept (state new.directory).temporary_crash_states (Some bytes))
  pub blames : Blames (state old.directory) (state new.directory) (IsFree (state old.directory) location.Temporary) result
  pub rest : new ≡ record old { directory = new.directory }

-- `write_at`: a file or the journal is written, over an existing one; something that isn't a file makes the call fail
pub record WritesAt {D : Type 0} (state : D → DirectoryState) (old new : DiskStore D) (at : Location) (bytes : List ℕ) (result : Result (Unit {0}) StoreFault) : Type 0 where
  pub writes : Writes (over state) old new (put_at (state old.directory).contents at bytes) result
  pub barred : (state old.directory).honest → (state old.directory).barred (path_of at) ⊎ (state old.directory).barred (path_of location.Temporary) → IsErr result × (new.directory ≡ old.directory)
  pub blames : Blames (state old.directory) (state new.directory) (CanPut at (state old.directory)) result
  pub rest : new ≡ record old { directory = new.directory }

-- a change is made while the directory is held alone. If it can't be made or is blocked, the directory stays as it is
pub record Changes {D : Type 0} (state : D → DirectoryState) (old new : DiskStore D) (change : Change) (result : Result (Unit {0}) StoreFault) : Type 0 where
  pub writes : Writes (over state) old new (with_change (state old.directory).contents change) result
  pub blocked : (state old.directory).honest → IsFalse (is_applicable (state old.directory).contents.files change) ⊎ IsBlocked (state old.directory) change → IsErr result × (new.directory ≡ old.directory)
  pub possible : (state old.directory).honest → IsTrue (is_applicable (state old.directory).contents.files change) → new.impossible.count ≡ old.impossible.count
  pub grows : old.impossible.count ≤ new.impossible.count
  pub blames : Blames (state old.directory) (state new.directory) (CanMake change (state old.directory)) result
  pub rest : new ≡ record old { directory = new.directory; impossible = new.impossible }
