-- The causes for which a create is refused, in groups and in order, and its volumes: their names and exponents.
use Rattle.std.specs.Prelude.{ℕ, ◌==◌, ◌&&◌, ◌+◌, nat_lt, Bool, not, List, [], ◌∷◌, map, length, take, sum_by, Option}
use Rattle.par2_spec.specs.Prelude.{list_any, enumerate_from, first_fault, fault_where, fault_at, is_among, distinct, slice_count, Folder, File, has, id_of, volume_name, volume_numbers, volumes_before, volume_size, CreateArgs, files_of, bad_name}
use Rattle.par2_spec.specs.declared.Fault.{Fault}
use Rattle.par2_spec.specs.declared.Fault.TheVariants.{DuplicateInput, NoSuchFile, EmptyFile, TooManySlices, DuplicateId, NameTooLong, Exists}
use Rattle.par2_inputs.specs.declared.inputs.Volume.{Volume}

-- the fault of the first input that was named before
abbrev pub duplicate_input : List (List ℕ) → Option Fault
duplicate_input inputs = fault_at 1 DuplicateInput (λ z. is_among (take z.0 inputs) z.1) (enumerate_from 0 inputs)

-- the first fault of the files: absent, empty, or too many slices. An absent file has no bytes
unfoldable pub files_fault : Folder → ℕ → List File → Option Fault
files_fault folder size files = first_fault (
    fault_at 1 NoSuchFile (λ file. length file.1 == 0 && not (has folder file.0)) files
    ∷ fault_at 1 EmptyFile (λ file. length file.1 == 0) files
    ∷ fault_where (nat_lt 32768 (sum_by (λ file. slice_count size (length file.1)) files)) TooManySlices
    ∷ [])

-- the fault if two of the files have one File ID
unfoldable pub ids_fault : List File → Option Fault
ids_fault files = fault_where (not (length (distinct (map id_of files)) == length files)) DuplicateId

-- the first fault of the inputs: of their names, their files or their File IDs
unfoldable pub inputs_fault : Folder → CreateArgs → Option Fault
unfolding files_fault ids_fault
inputs_fault folder a =
    let files = files_of folder a.inputs in
    first_fault (bad_name a.inputs ∷ duplicate_input a.inputs ∷ files_fault folder a.slice files ∷ ids_fault files ∷ [])

-- the fault if one of the names is longer than a name may be
abbrev pub long_name : List (List ℕ) → Option Fault
long_name names = fault_where (list_any (λ name. nat_lt 255 (length name)) names) NameTooLong

-- the fault if a file of these names exists and may not be overwritten
abbrev pub existing : Folder → Bool → List (List ℕ) → Option Fault
existing folder overwrite names = fault_where (not overwrite && list_any (has folder) names) Exists

-- volume i of c recovery slices from exponent f on
abbrev pub volume_at : List ℕ → ℕ → ℕ → ℕ → Volume
volume_at base f c i = record {
  name = volume_name base (f + volumes_before i) (volume_size c i);
  first = f + volumes_before i;
  count = volume_size c i;
}

-- all volumes, in order
abbrev pub volumes_of : List ℕ → ℕ → ℕ → List Volume
volumes_of base f c = map (volume_at base f c) (volume_numbers c)

-- the names of the volumes
abbrev pub volume_names : List Volume → List (List ℕ)
volume_names volumes = map (λ volume. volume.name) volumes
