-- Folders: finite maps from names to bytes.
use Rattle.std.specs.Prelude.{ℕ, ◌<◌, ◌^◌, Bool, IsTrue, not, List, [], ◌∷◌, ◌++◌, length, flat_map, is_some, unwrap_or}
use Rattle.std.specs.FinMap as map_of
use Rattle.std.specs.FinMap.{FinMap}
use Rattle.std.specs.Ordering.{nat_cmp}
use Rattle.std.specs.Cmp.Lexicographic.{slice_cmp}
use Rattle.std.specs.Int.{w64, to_le_bytes}
use Rattle.std.specs.List.{AllByRecursion}
use Rattle.md5.specs.Md5.{md5}
use Rattle.par2_spec.specs.Names.{is_name, is_among}

-- a finite map from names to bytes, in the order of the names' bytes
abbrev pub Folder : Type 0
Folder = FinMap (slice_cmp nat_cmp) (List ℕ)

-- a file: its name and its bytes
abbrev pub File : Type 0
File = List ℕ × List ℕ

-- whether the folder has a file of this name
abbrev pub has : Folder → List ℕ → Bool
has folder name = is_some (map_of.get folder name)

-- the bytes of a file, empty if it is absent
abbrev pub bytes_of : Folder → List ℕ → List ℕ
bytes_of folder name = unwrap_or (map_of.get folder name) []

-- the names, in order
abbrev pub names : Folder → List (List ℕ)
names folder = map_of.keys folder

-- the files, in the order of their names
abbrev pub files : Folder → List File
files folder = map_of.entries folder

-- a folder as on a disk: its names are valid, and each length fits in 64 bits
abbrev pub IsFolder : Folder → Type 0
IsFolder folder = AllByRecursion (λ file. IsTrue (is_name file.0) × (length file.1 < 2 ^ 64)) (files folder)

-- the folder after these files are put into it in order
unfoldable pub laid_over : List File → Folder → Folder
laid_over [] folder = folder
laid_over (file ∷ files) folder = laid_over files (map_of.insert folder file.0 file.1)

-- a folder without the files of these names
abbrev pub without : List (List ℕ) → Folder → Folder
without gone folder = map_of.retain_keys folder (λ name. not (is_among gone name))

-- the bytes, prefixed with their length
abbrev pub behind_length : List ℕ → List ℕ
behind_length bytes = to_le_bytes w64 (length bytes) ++ bytes

-- the fingerprint of a folder: the MD5 of its names and bytes, each prefixed with its length
unfoldable pub fingerprint : Folder → List ℕ
fingerprint folder = md5 (flat_map (λ file. behind_length file.0 ++ behind_length file.1) (files folder))
