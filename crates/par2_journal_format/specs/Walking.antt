-- Changes and entries that are tried on a folder, and the way back of a halfway command.
use Rattle.std.specs.Prelude.{◌≡◌, ◌⊎◌, ◌≤◌, ℕ, Bool, cond, List, ◌∷◌, length, take, drop, reverse, position, map, unwrap_or, Vec, Option, Some, None, Ok, true, IsTrue, IsFalse}
use Rattle.std.specs.declared.alloc.Global.{Global}
use Rattle.par2_spec.specs.Prelude.{get_by, bytes_eq, slice_cmp, nat_cmp, Folder, has, fingerprint, leads_through, Change, FolderState, effects, state_after_all, takes_all, folders_after, walks, Session}
use Rattle.par2_spec.specs.Opening as defined
use Rattle.par2_spec.specs.declared.JournalFault.{JournalFault}
use Rattle.par2_spec.specs.declared.JournalFault.TheVariants.{FolderChanged, JournalInvalid, Memory}
use Rattle.par2_files.specs.declared.change.Change as given
use Rattle.par2_journal_format.specs.Journals.{changes_in}
use Rattle.par2_journal_format.specs.declared.walking.Names.{Names}

-- whether the name has a file after the changes so far
abbrev pub names_in : Names → List ℕ → Bool
names_in names name = unwrap_or (get_by (λ k. slice_cmp nat_cmp name k.now) names.touched) (has names.folder.now.files name)

-- these are the names of the folder's files
abbrev pub AreNamesOf : Folder → (List ℕ → Bool) → Type 0
AreNamesOf files names = (name : List ℕ) → names name ≡ has files name

-- this name has a file or none, and the others are as before
abbrev pub IsSet : (List ℕ → Bool) → (List ℕ → Bool) → List ℕ → Bool → Type 0
IsSet old new name there = (other : List ℕ) → new other ≡ cond (bytes_eq name other) there (old other)

-- the result is right, and if it is true, these are the names of the files afterwards
pub record IsTried (is_so : Bool) (after : Folder) (names : List ℕ → Bool) (found : Bool) : Type 0 where
  pub reported : found ≡ is_so
  pub are : IsTrue found → AreNamesOf after names

-- the session with these entries, of which the first n are undos, the oldest first
abbrev pub session_at : Folder → ℕ → List (List Change) → Session
session_at folder n entries = record { folder = folder; undos = reverse (take n entries); redos = drop n entries }

-- the entries before the cursor can be applied, the last one first, and so can the others, the first one first
pub record EntriesWalk (folder : FolderState) (cursor : ℕ) (entries : List (List Change)) : Type 0 where
  pub back : IsTrue (walks folder (reverse (take cursor entries)))
  pub forth : IsTrue (walks folder (drop cursor entries))

-- a folder with this journal opens as a session on the folder as it is, with its history or a new one
abbrev pub OpensAsIs : Folder → List ℕ → Type 0
OpensAsIs folder bytes =
    (started : defined.Started) × defined.OpensAs folder (Some bytes) (Ok started) × (started.session.folder ≡ folder)

-- ---- the way back of a halfway command

-- the fingerprints of a folder before changes and after each
abbrev pub prints_along : Folder → List Change → List (List ℕ)
prints_along folder changes = map fingerprint (folder ∷ folders_after folder changes)

-- changes led from files to a folder, and can lead back
pub record WentForth (old : Folder) (new : FolderState) (way back : List given.Change) : Type 0 where
  pub files : new.files ≡ effects old (changes_in way)
  pub taken : IsTrue (takes_all new (changes_in back))
  pub leads : (state_after_all new (changes_in back)).files ≡ old

-- whether changes apply and lead through folders with these fingerprints
abbrev pub go_through : Folder → List given.Change → List (List ℕ) → Bool
go_through folder way prints = leads_through folder (changes_in way) prints

-- the first index of the folder's fingerprint in a journal: 0 before the command, n after its n-th change
abbrev pub place_among : Folder → List ℕ → List (List ℕ) → Option ℕ
place_among folder print prints = position (bytes_eq (fingerprint folder)) (print ∷ prints)

-- the fingerprints to go back by: those before that index, the last one first
pub record LeadBack (folder : Folder) (print : List ℕ) (prints : List (List ℕ)) (back : Vec (List ℕ) Global) : Type 0 where
  pub place : place_among folder print prints ≡ Some (length back.items)
  pub list : back.items ≡ reverse (take (length back.items) (print ∷ prints))
  pub within : length back.items ≤ length prints

-- why there are no fingerprints to go back by: the folder's isn't among them, or memory ran out
abbrev pub HasNoPlace : Folder → List ℕ → List (List ℕ) → JournalFault → Type 0
HasNoPlace folder print prints fault = (fault ≡ Memory) ⊎ ((fault ≡ FolderChanged true) × (place_among folder print prints ≡ None))

-- why a journal doesn't pass a test: it failed, or memory ran out
abbrev pub FailsTest : Bool → JournalFault → Type 0
FailsTest test fault = (fault ≡ Memory) ⊎ ((fault ≡ JournalInvalid) × IsFalse test)
