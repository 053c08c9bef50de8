-- Premises of the laws of repair.
use Rattle.std.specs.Prelude.{ℕ, List}
use Rattle.std.specs.List.{AllByRecursion}
use Rattle.par2_spec.specs.Rank.{AreBytes}
use Rattle.par2_spec.specs.Folders.{Folder, File, files}
use Rattle.par2_spec.specs.Volumes.{all_slices}
use Rattle.par2_spec.specs.Sets.{MadeFrom}
use Rattle.par2_spec.specs.Search.{candidates, NoCollision}

-- the set of the base was made from these files, cut into slices of s bytes, and no checksum collides
pub record IsTrueTo (folder : Folder) (base : List ℕ) (extras : List (List ℕ))
    (originals : List File) (s : ℕ) : Type 0 where
  pub made : MadeFrom folder base originals s
  -- the files hold bytes
  pub bytes : AllByRecursion (λ file. AreBytes file.1) originals
  -- a window with the checksums of a slice is that slice
  pub no_collision : NoCollision folder (candidates folder made.set extras) s (all_slices s originals)

-- each file of the folder holds bytes
abbrev pub HoldsBytes : Folder → Type 0
HoldsBytes folder = AllByRecursion (λ file. AreBytes file.1) (files folder)
