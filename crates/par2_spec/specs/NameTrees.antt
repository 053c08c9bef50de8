-- B-tree sets of borrowed names.
use Rattle.std.specs.Prelude.{◌≡◌, ℕ, List}
use Rattle.std.specs.Borrow.{Bor}
use Rattle.std.specs.BTreeSet.{BTreeSet, contains}
use Rattle.std.specs.Ordering.{nat_cmp}
use Rattle.std.specs.declared.cmp.Ordering.{Ordering}
use Rattle.std.specs.Cmp.Lexicographic.{slice_cmp}
use Rattle.par2_spec.specs.Names.{is_among}

-- the order of borrowed names: by their bytes
abbrev pub borrowed_name_cmp : Bor (List ℕ) → Bor (List ℕ) → Ordering
borrowed_name_cmp a b = slice_cmp nat_cmp a.now b.now

-- a tree holds exactly these names
abbrev pub HoldsNames : BTreeSet (Bor (List ℕ)) → List (List ℕ) → Type 0
HoldsNames tree names = (name : Bor (List ℕ)) → contains borrowed_name_cmp tree name ≡ is_among names name.now
