-- The folder before a create, and the folder after it with later damage.
use Rattle.std.specs.Prelude.{◌≡◌, ℕ, Bool, true, false, IsTrue, IsFalse, List, ◌++◌, map, Ok, None}
use Rattle.std.specs.List.{AllByRecursion}
use Rattle.std.specs.FinMap as map_of
use Rattle.par2_spec.specs.Rank.{AreBytes, AnotherAgrees}
use Rattle.par2_spec.specs.Names.{is_par_name, is_among}
use Rattle.par2_spec.specs.Folders.{Folder, IsFolder, has, bytes_of}
use Rattle.par2_spec.specs.Volumes.{all_slices, in_id_order}
use Rattle.par2_spec.specs.Sets.{ParSet, MadeFrom, set_of}
use Rattle.par2_spec.specs.Search.{NoCollision, known, candidates}
use Rattle.par2_spec.specs.Commands.{CreateArgs, Create, files_of, outputs_of}
use Rattle.par2_spec.specs.Refusals.{refusal, after}
use Rattle.par2_spec.specs.declared.Fault.{Fault}
use Rattle.par2_spec.specs.declared.Fault.TheVariants.{NoSuchFile, NotRepairable, NameTooLong}
use Rattle.par2_spec.specs.KnownFiles.{IsVolumeOrOther}

-- the names of the files that a create writes
abbrev pub written_names : Folder → CreateArgs → List (List ℕ)
written_names before a = map (λ file. file.0) (outputs_of before a)

-- the folder before a create is one as on a disk. Each `.par2` file that the create does not write is a volume of the
-- same files or has no packets of their set
pub record FitsCreate (before : Folder) (a : CreateArgs) : Type 0 where
  pub whole : IsFolder before
  pub bytes : AllByRecursion (λ file. AreBytes file.1) (files_of before a.inputs)
  pub other_pars : (name : List ℕ) → IsTrue (is_par_name name) → IsTrue (has before name)
      → IsFalse (is_among (written_names before a) name)
      → IsVolumeOrOther a.slice (files_of before a.inputs) (bytes_of before name)

-- damage to the files after a create: each `.par2` file that is left is as the create left it, and the base, any of
-- those that it wrote, is left. The other files may be changed or gone
pub record IsDamage (before damaged : Folder) (a : CreateArgs) (base : List ℕ) : Type 0 where
  pub written : IsTrue (is_among (written_names before a) base)
  pub there : IsTrue (has damaged base)
  pub pars : (name : List ℕ) → IsTrue (is_par_name name) → IsTrue (has damaged name)
      → map_of.get damaged name ≡ map_of.get (after before (Create a)) name

-- an accepted create, and damage after it as `IsDamage` says, without a checksum collision
pub record FollowsCreate (before damaged : Folder) (a : CreateArgs) (base : List ℕ)
    (extras : List (List ℕ)) : Type 0 where
  pub created : refusal before (Create a) ≡ None
  pub fits : FitsCreate before a
  pub damage : IsDamage before damaged a base
  pub reported : let slices = all_slices a.slice (files_of before a.inputs) in
      NoCollision damaged (a.inputs ++ extras) a.slice slices

-- why a repair of such a folder is refused, if it is: an extra file doesn't exist, too few slices are left, or an aside
-- would be too long
abbrev pub may_refuse : Fault → Bool
may_refuse (NoSuchFile k) = true
may_refuse (NotRepairable missing rank) = true
may_refuse NameTooLong = true
may_refuse other = false

-- the set of the base can be read, and slices other than the inputs' also agree with everything that is found
pub record HaveAChoice (before damaged : Folder) (a : CreateArgs) (base : List ℕ)
    (extras : List (List ℕ)) : Type 0 where
  pub set : ParSet
  pub reads : set_of damaged base ≡ Ok set
  pub others : let found = known damaged set (candidates damaged set extras) in
      let slices = all_slices a.slice (in_id_order (files_of before a.inputs)) in
      AnotherAgrees a.slice found (map_of.entries set.recovery) slices

-- after a create and damage the set of each remaining base was made from the inputs
abbrev pub CreatedSetIsMadeFromItsFiles : Type 0
CreatedSetIsMadeFromItsFiles =
    (before damaged : Folder) (a : CreateArgs) (base : List ℕ)
    → refusal before (Create a) ≡ None → FitsCreate before a → IsDamage before damaged a base
    → MadeFrom damaged base (in_id_order (files_of before a.inputs)) a.slice
