-- Changes of a folder, their inverses, and the way back.
use Rattle.std.specs.Prelude.{ℕ, ◌+◌, ◌-◌, ◌&&◌, Bool, true, false, not, nat_lt, List, [], ◌∷◌, ◌++◌, Option, Some, None, is_none}
use Rattle.std.specs.FinMap as map_of
use Rattle.par2_spec.specs.Folders.{Folder, has, bytes_of}
use Rattle.par2_spec.specs.declared.ChangeFault.{ChangeFault}
use Rattle.par2_spec.specs.declared.ChangeFault.TheVariants.{NameTaken, NoRoom, NoSuchName}

-- a change of a folder
pub data Change : Type 0 where
  Write : List ℕ → List ℕ → Change
  Replace : List ℕ → List ℕ → Change
  Rename : List ℕ → List ℕ → Change
  Remove : List ℕ → Change

-- whether the change can be applied
unfoldable pub is_applicable : Folder → Change → Bool
is_applicable folder (Write name bytes) = not (has folder name)
is_applicable folder (Replace name bytes) = has folder name
is_applicable folder (Rename from to) = has folder from && not (has folder to)
is_applicable folder (Remove name) = has folder name

-- the folder after the change
unfoldable pub effect : Folder → Change → Folder
effect folder (Write name bytes) = map_of.insert folder name bytes
effect folder (Replace name bytes) = map_of.insert folder name bytes
effect folder (Rename from to) = map_of.insert (map_of.remove folder from) to (bytes_of folder from)
effect folder (Remove gone) = map_of.remove folder gone

-- the change that restores the folder
unfoldable pub inverse : Folder → Change → Change
inverse folder (Write name bytes) = Remove name
inverse folder (Replace name bytes) = Replace name (bytes_of folder name)
inverse folder (Rename from to) = Rename to from
inverse folder (Remove name) = Write name (bytes_of folder name)

-- the folder after the changes, applied in order
unfoldable pub effects : Folder → List Change → Folder
unfolding effect
effects folder [] = folder
effects folder (change ∷ changes) = effects (effect folder change) changes

-- whether the changes can be applied in order
unfoldable pub are_applicable : Folder → List Change → Bool
unfolding effect is_applicable
are_applicable folder [] = true
are_applicable folder (change ∷ changes) = is_applicable folder change && are_applicable (effect folder change) changes

-- the inverses of the changes, the last one first
unfoldable pub way_back : Folder → List Change → List Change
unfolding effect inverse
way_back folder [] = []
way_back folder (change ∷ changes) = way_back (effect folder change) changes ++ inverse folder change ∷ []

-- the folders after the first change, after the first two, and so on
unfoldable pub folders_after : Folder → List Change → List Folder
unfolding effect
folders_after folder [] = []
folders_after folder (change ∷ changes) = effect folder change ∷ folders_after (effect folder change) changes

-- ---- a folder in memory

-- the files, and how many more can be written without taking memory
pub record FolderState : Type 0 where
  pub files : Folder
  pub vacant : ℕ

-- the fault if the test fails, and else the next one
abbrev pub fault_unless : Bool → ChangeFault → Option ChangeFault → Option ChangeFault
fault_unless true fault next = next
fault_unless false fault next = Some fault

-- why a folder in memory refuses a change, if it does
unfoldable pub change_refusal : FolderState → Change → Option ChangeFault
change_refusal f (Write name bytes) = fault_unless (not (has f.files name)) NameTaken (fault_unless (nat_lt 0 f.vacant) NoRoom None)
change_refusal f (Replace name bytes) = fault_unless (has f.files name) NoSuchName None
change_refusal f (Rename from to) = fault_unless (has f.files from) NoSuchName (fault_unless (not (has f.files to)) NameTaken None)
change_refusal f (Remove name) = fault_unless (has f.files name) NoSuchName None

-- the vacant places after a change: a write takes one, and a removal frees one
abbrev pub vacant_after : ℕ → Change → ℕ
vacant_after n (Write name bytes) = n - 1
vacant_after n (Replace name bytes) = n
vacant_after n (Rename from to) = n
vacant_after n (Remove name) = n + 1

-- a folder in memory after a change
abbrev pub state_after : FolderState → Change → FolderState
state_after f change = record { files = effect f.files change; vacant = vacant_after f.vacant change }

-- whether a folder in memory takes the changes in order
unfoldable pub takes_all : FolderState → List Change → Bool
unfolding change_refusal effect
takes_all state [] = true
takes_all state (change ∷ changes) = is_none (change_refusal state change) && takes_all (state_after state change) changes

-- a folder in memory after the changes
unfoldable pub state_after_all : FolderState → List Change → FolderState
unfolding effect
state_after_all state [] = state
state_after_all state (change ∷ changes) = state_after_all (state_after state change) changes

-- how many places the changes take: one for each file that they write
abbrev pub places_taken : List Change → ℕ
places_taken [] = 0
places_taken (Write name bytes ∷ changes) = 1 + places_taken changes
places_taken (Replace name bytes ∷ changes) = places_taken changes
places_taken (Rename from to ∷ changes) = places_taken changes
places_taken (Remove name ∷ changes) = places_taken changes
