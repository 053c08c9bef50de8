-- When a command is refused, and the folder after an accepted one.
use Rattle.std.specs.Prelude.{ℕ, ◌+◌, ◌==◌, ◌&&◌, nat_le, nat_lt, Bool, not, List, [], ◌∷◌, length, take, map, sum_by, Option, Some, None, Result, Ok, Err, if◌then◌else◌}
use Rattle.std.specs.List.{list_all, list_any, enumerate_from}
use Rattle.std.specs.Str.{bytes_eq}
use Rattle.md5.specs.Md5.{md5}
use Rattle.par2_spec.specs.Field.{max_slices}
use Rattle.par2_spec.specs.Faults.{first_fault, fault_where, fault_at, then_fault, fault_of}
use Rattle.par2_spec.specs.Slices.{slice_count}
use Rattle.par2_spec.specs.Rank.{is_repairable, rank}
use Rattle.par2_spec.specs.Names.{is_name, is_par_name, is_among, distinct}
use Rattle.par2_spec.specs.Folders.{Folder, has}
use Rattle.par2_spec.specs.Volumes.{id_of, after_create}
use Rattle.par2_spec.specs.Sets.{ParSet, set_of, is_slice_size}
use Rattle.par2_spec.specs.Search.{candidates, incomplete, known, lost, survivors}
use Rattle.par2_spec.specs.Repairs.{aside, put_aside, rebuilt_targets, after_repair, after_repair_and_purge, after_purge}
use Rattle.par2_spec.specs.Commands.{CreateArgs, Command, Create, Verify, Repair, Purge, Action, Do, Undo, Redo, files_of, outputs_of}
use Rattle.par2_spec.specs.declared.Fault.{Fault}
use Rattle.par2_spec.specs.declared.Fault.TheVariants.{BadSliceSize, BadCount, BadBase, NoInput, BadName, DuplicateInput, NoSuchFile, EmptyFile, TooManySlices, DuplicateId, NameTooLong, Exists, NotRepairable, RepairFailed, NotComplete}

-- the `count` exponents from `first` on stay below 65,536
abbrev pub are_counts : ℕ → ℕ → Bool
are_counts first count = nat_le count 65536 && nat_le first 65535 && nat_le (first + count) 65536

-- a valid name of an input, which is not one that a set's own files could have
abbrev pub is_input_name : List ℕ → Bool
is_input_name word = is_name word && not (is_par_name word)

-- the first name that is not allowed for an input
abbrev pub bad_name : List (List ℕ) → Option Fault
bad_name inputs = fault_at 1 BadName (λ word. not (is_input_name word)) inputs

-- the first tests of a create: its numbers, its base, and whether it has inputs
unfoldable pub head_fault : CreateArgs → Option Fault
head_fault a = first_fault (
    fault_where (not (is_slice_size a.slice)) BadSliceSize
    ∷ fault_where (not (are_counts a.first a.count)) BadCount
    ∷ fault_where (not (is_name a.base && is_par_name a.base)) BadBase
    ∷ fault_where (length a.inputs == 0) NoInput
    ∷ [])

-- why a create is refused, if it is: the first cause that holds. Each is tested over all inputs in order
unfoldable pub create_refusal : Folder → CreateArgs → Option Fault
create_refusal folder a =
    let files = files_of folder a.inputs in
    first_fault (
    fault_where (not (is_slice_size a.slice)) BadSliceSize
    ∷ fault_where (not (are_counts a.first a.count)) BadCount
    ∷ fault_where (not (is_name a.base && is_par_name a.base)) BadBase
    ∷ fault_where (length a.inputs == 0) NoInput
    ∷ bad_name a.inputs
    ∷ fault_at 1 DuplicateInput (λ z. is_among (take z.0 a.inputs) z.1) (enumerate_from 0 a.inputs)
    ∷ fault_at 1 NoSuchFile (λ word. not (has folder word)) a.inputs
    ∷ fault_at 1 EmptyFile (λ file. length file.1 == 0) files
    ∷ fault_where (nat_lt max_slices (sum_by (λ file. slice_count a.slice (length file.1)) files)) TooManySlices
    ∷ fault_where (not (length (distinct (map id_of files)) == length files)) DuplicateId
    ∷ fault_where (list_any (λ file. nat_lt 255 (length file.0)) (outputs_of folder a)) NameTooLong
    ∷ fault_where (not a.overwrite && list_any (λ file. has folder file.0) (outputs_of folder a)) Exists
    ∷ [])

-- the first file that doesn't exist: place 0 is the base, place k the k-th further name
abbrev pub absent_file : Folder → List ℕ → List (List ℕ) → Option Fault
absent_file folder base extras = fault_at 0 NoSuchFile (λ word. not (has folder word)) (base ∷ extras)

-- the set that verify, repair and purge read. A missing file is reported first
unfoldable pub set_in : Folder → List ℕ → List (List ℕ) → Result ParSet Fault
unfolding set_of
set_in folder base extras = in_full (absent_file folder base extras)
  where
    in_full : Option Fault → Result ParSet Fault
    in_full None = set_of folder base
    in_full (Some fault) = Err fault

-- why a repair of a set is refused, if it is
unfoldable pub repair_refusal : Folder → ParSet → List (List ℕ) → Option Fault
unfolding rebuilt_targets known aside
repair_refusal folder set searched =
    let missing = lost (known folder set searched) in
    first_fault (
    fault_where (not (is_repairable missing (survivors set))) (NotRepairable (length missing) (rank missing (survivors set)))
    ∷ fault_where (list_any (λ name. nat_lt 255 (length (aside folder set name))) (put_aside folder set)) NameTooLong
    ∷ fault_where (not (list_all (λ c. bytes_eq (md5 c.1) c.0.md5) (rebuilt_targets folder set searched))) RepairFailed
    ∷ [])

-- a purge needs complete files
abbrev pub purge_refusal : Folder → ParSet → Option Fault
purge_refusal folder set = fault_where (not (length (incomplete folder set) == 0)) NotComplete

-- why a command is refused, if it is
unfoldable pub refusal : Folder → Command → Option Fault
unfolding create_refusal set_in repair_refusal
refusal folder (Create a) = create_refusal folder a
refusal folder (Verify base extras) = fault_of (set_in folder base extras)
refusal folder (Repair base extras purge) = then_fault (set_in folder base extras) (λ set. repair_refusal folder set (candidates folder set extras))
refusal folder (Purge base) = then_fault (set_in folder base []) (purge_refusal folder)

-- why a command is refused before it takes any memory, if it is: bad arguments, or missing files
unfoldable pub early_refusal : Folder → Command → Option Fault
unfolding head_fault
early_refusal folder (Create a) = first_fault (head_fault a ∷ bad_name a.inputs ∷ [])
early_refusal folder (Verify base extras) = absent_file folder base extras
early_refusal folder (Repair base extras purge) = absent_file folder base extras
early_refusal folder (Purge base) = absent_file folder base []

-- why an action is refused before it takes any memory, if it is. An undo or redo has no arguments
abbrev pub early_refusal_of : Folder → Action → Option Fault
early_refusal_of folder (Do command) = early_refusal folder command
early_refusal_of folder Undo = None
early_refusal_of folder Redo = None

-- a function of the set, or a default if no set was read
abbrev pub by_set : {A : Type 0} → A → (ParSet → A) → Result ParSet Fault → A
by_set otherwise use_set (Ok set) = use_set set
by_set otherwise use_set (Err fault) = otherwise

-- the folder after an accepted command
unfoldable pub after : Folder → Command → Folder
unfolding set_in after_repair
after folder (Create a) = after_create folder (outputs_of folder a)
after folder (Verify base extras) = folder
after folder (Repair base extras purge) =
    by_set folder (λ set.
    if purge then after_repair_and_purge folder set (candidates folder set extras)
    else after_repair folder set (candidates folder set extras))
    (set_in folder base extras)
after folder (Purge base) = by_set folder (after_purge folder) (set_in folder base [])
