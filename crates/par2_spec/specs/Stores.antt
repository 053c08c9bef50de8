-- The contents of a store: a folder and its journal.
use Rattle.std.specs.Prelude.{ℕ, List, Option, Some}
use Rattle.par2_spec.specs.Folders.{Folder}
use Rattle.par2_spec.specs.Changes.{Change, effect}

-- a folder, and the bytes of its journal if there is one
pub record Contents : Type 0 where
  pub files : Folder
  pub journal : Option (List ℕ)

-- the contents after a change of the folder
abbrev pub with_change : Contents → Change → Contents
with_change contents change = record { files = effect contents.files change; journal = contents.journal }

-- the contents with this journal
abbrev pub with_journal : Contents → List ℕ → Contents
with_journal contents bytes = record { files = contents.files; journal = Some bytes }
