-- What contracts see of changes, of folders, which are vectors of files sorted by name, and of snapshots, which borrow them.
use Rattle.std.specs.Prelude.{◌≡◌, ℕ, ◌<◌, ◌≤◌, ◌^◌, List, [], length, map, slice_index_or, IsTrue, Some, None, Result, IfOk, IfErr}
use Rattle.par2_spec.specs.Prelude.{Bor, from_sorted, is_sorted, All, nat_cmp, slice_cmp, Folder, File, is_name}
use Rattle.std.specs.declared.cmp.Ordering.{Ordering}
use Rattle.std.specs.declared.cmp.Ordering.TheVariants.{Less, Greater}
use Rattle.par2_files.specs.declared.change.Change.{Change}
use Rattle.par2_files.specs.declared.change.Change.TheVariants.{Write, Replace, Rename, Remove}
use Rattle.par2_spec.specs.Changes as defined
use Rattle.std.specs.FinMap as map_of

-- a change by the names and bytes that it has
abbrev pub change_of : Change → defined.Change
change_of (Write name bytes) = defined.Write name bytes
change_of (Replace name bytes) = defined.Replace name bytes
change_of (Rename from to) = defined.Rename from to
change_of (Remove name) = defined.Remove name

-- names compared byte by byte
abbrev pub name_cmp : List ℕ → List ℕ → Ordering
name_cmp = slice_cmp nat_cmp

-- the names increase strictly
abbrev pub IsSortedByName : List File → Type 0
IsSortedByName files = IsTrue (is_sorted name_cmp files)

-- the folder of these files, which are sorted
abbrev pub folder_of : List File → Folder
folder_of files = from_sorted files

-- the file at position i, and an empty file beyond the end
abbrev pub file_at : List File → ℕ → File
file_at files i = slice_index_or files i ([], [])

-- the file at position i has the name
pub record IsFileAt (files : List File) (name : List ℕ) (i : ℕ) : Type 0 where
  pub in_range : i < length files
  pub has_name : (file_at files i).0 ≡ name

-- no file has the name, and position i is where it would be inserted
pub record IsGapFor (files : List File) (name : List ℕ) (i : ℕ) : Type 0 where
  pub in_range : i ≤ length files
  pub smaller_before : (j : ℕ) → j < i → name_cmp (file_at files j).0 name ≡ Less
  pub greater_after : (j : ℕ) → i ≤ j → j < length files → name_cmp (file_at files j).0 name ≡ Greater

-- the name is valid, and the length of the bytes fits 64 bits
abbrev pub IsFile : File → Type 0
IsFile file = IsTrue (is_name file.0) × (length file.1 < 2 ^ 64)

-- a search finds the file that has the name, or where it would be inserted
pub record IsSearched (files : List File) (name : List ℕ) (result : Result ℕ ℕ) : Type 0 where
  pub found : IfOk result (IsFileAt files name)
  pub absent : IfErr result (IsGapFor files name)
  pub there : IfOk result (λ at. map_of.get (folder_of files) name ≡ Some (file_at files at).1)
  pub not_there : IfErr result (λ _. map_of.get (folder_of files) name ≡ None)

-- the invariant of a folder's files: sorted by name, and each valid
pub record AreFolderFiles (files : List File) : Type 0 where
  pub sorted : IsSortedByName files
  pub each : All IsFile files

-- these are the files of this folder
pub record AreFilesOf (files : List File) (whole : Folder) : Type 0 where
  pub kept : AreFolderFiles files
  pub folder : folder_of files ≡ whole

-- a borrowed file as a file of the definitions
abbrev pub file_of : Bor (List ℕ) × Bor (List ℕ) → File
file_of file = (file.0.now, file.1.now)
