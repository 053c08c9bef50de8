-- The permission bits of a file's mode: 0o600 for its owner, 0o070 for its group, 0o007 for others. And how results of
-- the runtime are read: errors, metadata, and the entries of a listing.
use Rattle.std.specs.Prelude.{◌≡◌, ◌⊎◌, ◌++◌, ◌∷◌, ℕ, Bool, List, [], Ok, Err, Option, None, Some, Result, IsFalse, IsPermutation, IsTrue, MatchResult, bit_and, codes, nat_eq, option_to_list}
use Rattle.par2_spec.specs.Prelude.{All, FoldsTo, starts_with, metadata_len, file_type, IsFile, error_kind, Drains, YieldsThen, is_name}
use Rattle.std.specs.declared.fs.attrs.FileType.{FileType}
use Rattle.std.specs.declared.fs.attrs.Metadata.{Metadata}
use Rattle.std.specs.declared.io.Error.{Error}
use Rattle.std.specs.declared.io.ErrorKind.TheVariants.{InvalidFilename, NotFound, OutOfMemory}
use Rattle.par2_disk.specs.declared.current.Modes.{Modes}
use Rattle.par2_disk.specs.declared.current.Stamp.{Stamp}
use Rattle.par2_disk.specs.declared.disk.Entry.{Ghosts as EntryOf}
use Rattle.par2_disk.specs.declared.disk.Found.{Found}
use Rattle.par2_disk.specs.declared.disk.Location.{Location}
use Rattle.par2_disk.specs.Stores.{Memory, ReadFault, Store}
use Rattle.par2_disk.specs.declared.disk.Location.TheVariants as location
use Rattle.par2_disk.specs.declared.disk.Found.TheVariants as found

-- a mode has no bit that the other doesn't have
abbrev pub GivesNoMore : ℕ → ℕ → Type 0
GivesNoMore mode other = bit_and mode other ≡ mode

-- `left` are those permissions that may be given beside a file of this mode: they give nothing to the group or to
-- others if they can't read it, and keep all permissions otherwise
pub record IsBeside (permissions left mode : ℕ) : Type 0 where
  pub owner : bit_and left 0o600 ≡ bit_and permissions 0o600
  pub no_group : bit_and mode 0o040 ≡ 0 → bit_and left 0o070 ≡ 0
  pub no_others : bit_and mode 0o004 ≡ 0 → bit_and left 0o007 ≡ 0
  pub group : (bit_and mode 0o040 ≡ 0 → ⊥) → bit_and left 0o070 ≡ bit_and permissions 0o070
  pub others : (bit_and mode 0o004 ≡ 0 → ⊥) → bit_and left 0o007 ≡ bit_and permissions 0o007

-- the mode has no bit that a file read under the name lacked
abbrev pub IsWithinThoseNamed : List (List ℕ × ℕ) → List ℕ → ℕ → Type 0
IsWithinThoseNamed files name mode = All (λ (file : List ℕ × ℕ). file.0 ≡ name → GivesNoMore mode file.1) files

-- the mode of a file that was read at a location is noted
abbrev pub IsNotedAt : Location → ℕ → Modes → Modes → Type 0
IsNotedAt (location.File name) mode old new = (new.files.items ≡ old.files.items ++ (name.now, mode) ∷ []) × (new.journal ≡ old.journal)
IsNotedAt location.Journal mode old new = (new.files.items ≡ old.files.items) × (new.journal ≡ bit_and old.journal mode)
IsNotedAt location.Temporary mode old new = (new.files.items ≡ old.files.items) × (new.journal ≡ old.journal)

-- the mode has no bit that the file read at the location lacked
abbrev pub IsAllowedAt : Modes → Location → ℕ → Type 0
IsAllowedAt modes (location.File name) mode = IsWithinThoseNamed modes.files.items name.now mode
IsAllowedAt modes location.Journal mode = GivesNoMore mode modes.journal
IsAllowedAt modes location.Temporary mode = Unit {0}

-- `Memory` is reported exactly if memory ran out
abbrev pub IsReportedAs : Error → ReadFault → Type 0
IsReportedAs error Memory = error_kind error ≡ OutOfMemory
IsReportedAs error Store = error_kind error ≡ OutOfMemory → ⊥

-- what is found at a path by the runtime's result: an error of kind NotFound means that nothing is there
abbrev pub IsFoundBy : Result Metadata Error → Found → Type 0
IsFoundBy answer found.Nothing = MatchResult answer (λ _. ⊥) (λ error. error_kind error ≡ NotFound)
IsFoundBy answer found.File = MatchResult answer (λ metadata. IsFile (file_type metadata)) (λ _. ⊥)
IsFoundBy answer found.Other = MatchResult answer (λ metadata. IsFile (file_type metadata) → ⊥) (λ _. ⊥)

-- which file is at a path, likewise: one of another size has another stamp. Nothing is promised of inodes and times
abbrev pub IsStampedBy : Result Metadata Error → Option Stamp → Type 0
IsStampedBy answer None = IsFoundBy answer found.Nothing
IsStampedBy answer (Some stamp) = MatchResult answer (λ metadata. stamp.size ≡ metadata_len metadata) (λ _. ⊥)

-- whether a file with this name belongs to the history
abbrev pub is_of_history : List ℕ → Bool
is_of_history bytes = starts_with nat_eq bytes (codes ".par2undo")

module _ {E : Type 0} (entries : EntryOf E) where
  -- what an item of the listing counts as: a file as its name, anything else as none. A file whose bytes aren't a name is
  -- skipped only if it belongs to the history. An error, or an entry of unknown kind, counts as nothing
  abbrev pub IsCounted : Result E Error → Option (List ℕ) → Type 0
  IsCounted (Ok entry) (Some name) = (kind : FileType) × entries.kind_gives entry (Ok kind) × IsFile kind × IsTrue (is_name (entries.entry_name entry)) × (name ≡ entries.entry_name entry)
  IsCounted (Ok entry) None = (kind : FileType) × entries.kind_gives entry (Ok kind) × (IsFile kind → IsFalse (is_name (entries.entry_name entry)) × IsTrue (is_of_history (entries.entry_name entry)))
  IsCounted (Err _) name = ⊥

  -- the error of an item that fails: its own, that of its kind, or that it is a file outside the history without a name
  abbrev pub FailsBy : Result E Error → Error → Type 0
  FailsBy (Ok entry) error = entries.kind_gives entry (Err error)
      ⊎ ((kind : FileType) × entries.kind_gives entry (Ok kind) × IsFile kind × IsFalse (is_name (entries.entry_name entry)) × IsFalse (is_of_history (entries.entry_name entry)) × (error_kind error ≡ InvalidFilename))
  FailsBy (Err e) error = error ≡ e

  -- `more` is `names` and the name that the item counts as, if any
  abbrev pub Adds : List (List ℕ) → Result E Error → List (List ℕ) → Type 0
  Adds names item more = (name : Option (List ℕ)) × IsCounted item name × (more ≡ names ++ option_to_list name)

  -- the names of the items of the listing, up to its end, in any order
  abbrev pub AreNamesOf : {S : Type 0} → (S → Option (Result E Error) → S → Type 0) → List (List ℕ) → S → Type 0
  AreNamesOf steps names listing = (items : List (Result E Error)) × (given : List (List ℕ))
      × Drains steps listing items × FoldsTo Adds [] items given × IsPermutation given names

  -- memory ran out, or the listing has an item that fails with an error that is reported as this fault
  abbrev pub FailsToList : {S : Type 0} → (S → Option (Result E Error) → S → Type 0) → ReadFault → S → Type 0
  FailsToList {S} steps fault listing = (fault ≡ Memory) ⊎ ((items : List (Result E Error)) × (item : Result E Error) × (rest : S)
      × (error : Error) × YieldsThen steps listing items (Some item) rest × FailsBy item error × IsReportedAs error fault)
