-- Commands and actions.
use Rattle.std.specs.Prelude.{ℕ, Bool, List, ◌∷◌, [], map}
use Rattle.par2_spec.specs.Folders.{Folder, File, bytes_of}
use Rattle.par2_spec.specs.Volumes.{volumes}

-- the arguments of a create
pub record CreateArgs : Type 0 where
  pub base : List ℕ
  pub slice : ℕ
  -- the number of recovery slices, and the exponent of the first
  pub count : ℕ
  pub first : ℕ
  pub overwrite : Bool
  pub inputs : List (List ℕ)

-- a command: create with its arguments; verify and repair with base and extra files, repair with whether it also
-- purges; purge with its base
pub data Command : Type 0 where
  Create : CreateArgs → Command
  Verify : List ℕ → List (List ℕ) → Command
  Repair : List ℕ → List (List ℕ) → Bool → Command
  Purge : List ℕ → Command

-- an action on a session
pub data Action : Type 0 where
  Do : Command → Action
  Undo : Action
  Redo : Action

-- the inputs of a create, with their bytes
abbrev pub files_of : Folder → List (List ℕ) → List File
files_of folder inputs = map (λ name. (name, bytes_of folder name)) inputs

-- the files that a create writes
abbrev pub outputs_of : Folder → CreateArgs → List File
outputs_of folder a = volumes a.base a.slice a.first a.count (files_of folder a.inputs)

-- the names that a fault of the command refers to by their places: the base, then the further names
abbrev pub words_of : Command → List (List ℕ)
words_of (Create a) = a.base ∷ a.inputs
words_of (Verify base extras) = base ∷ extras
words_of (Repair base extras purge) = base ∷ extras
words_of (Purge base) = base ∷ []
