-- The packets and the volumes of known files.
use Rattle.std.specs.Prelude.{◌≡◌, ℕ, ◌<◌, ◌≤◌, ◌^◌, ◌⊎◌, ◌==◌, Bool, true, false, IsTrue, List, [], ◌∷◌, length, map, sum_by, Ok}
use Rattle.std.specs.List.{AllByRecursion, Contains, IsDistinct, list_any}
use Rattle.std.specs.Str.{bytes_eq}
use Rattle.par2_spec.specs.Field.{max_slices}
use Rattle.par2_spec.specs.Slices.{slice_count}
use Rattle.par2_spec.specs.Rank.{AreBytes}
use Rattle.par2_spec.specs.Names.{is_name}
use Rattle.par2_spec.specs.Packets.{Packet, accepted}
use Rattle.par2_spec.specs.Folders.{Folder, File, bytes_of}
use Rattle.par2_spec.specs.Volumes.{id_of, main_id, record_of, in_id_order, volumes, packets_of}
use Rattle.par2_spec.specs.Sets.{ParSet, MadeFrom, set_of, is_slice_size, other_par_names}
use Rattle.par2_spec.specs.Refusals.{are_counts}
use Rattle.par2_spec.specs.declared.Kind.{Kind}
use Rattle.par2_spec.specs.declared.Kind.TheVariants.{Main, FileDesc, Ifsc, Recovery}

-- files that a create accepts
pub record AreInputs (s : ℕ) (files : List File) : Type 0 where
  pub slice_size : IsTrue (is_slice_size s)
  pub few : length files < 2 ^ 32
  pub sizes : AllByRecursion (λ file. length file.1 < 2 ^ 64) files
  pub bytes : AllByRecursion (λ file. AreBytes file.1) files
  pub names : AllByRecursion (λ file. IsTrue (is_name file.0)) files
  pub names_once : IsDistinct bytes_eq (map (λ file. file.0) files)
  pub ids_once : IsDistinct bytes_eq (map id_of files)
  pub slices : sum_by (λ file. slice_count s (length file.1)) files ≤ max_slices

-- the bytes of a file that some create of these files writes
abbrev pub IsVolume : ℕ → List File → List ℕ → Type 0
IsVolume s files bytes =
    (base : List ℕ) × (first : ℕ) × (count : ℕ) × IsTrue (are_counts first count)
    × Contains (map (λ file. file.1) (volumes base s first count files)) bytes

-- the Recovery Set ID of these files
abbrev pub set_id_of : ℕ → List File → List ℕ
set_id_of s files = main_id s (map (record_of s) (in_id_order files))

-- no accepted packet has this Recovery Set ID
abbrev pub IsOfOthers : List ℕ → List ℕ → Type 0
IsOfOthers id bytes = AllByRecursion (λ p. bytes_eq p.set_id id ≡ false) (accepted bytes)

-- a volume of these files, or a file without packets of their set
abbrev pub IsVolumeOrOther : ℕ → List File → List ℕ → Type 0
IsVolumeOrOther s files bytes = IsVolume s files bytes ⊎ IsOfOthers (set_id_of s files) bytes

-- the base is a volume of these files, and each other file whose name ends in `.par2` is one or has no packets of their
-- set
pub record HoldsVolumes (folder : Folder) (base : List ℕ) (s : ℕ) (files : List File) : Type 0 where
  pub of_base : IsVolume s files (bytes_of folder base)
  pub of_others : let others = other_par_names folder base in
      AllByRecursion (λ name. IsVolumeOrOther s files (bytes_of folder name)) others

-- a set whose folder has volumes of these files, and no other packets of the set, was made from these files
abbrev pub VolumesTellTheFiles : Type 0
VolumesTellTheFiles =
    (folder : Folder) (base : List ℕ) (s : ℕ) (files : List File)
    → AreInputs s files → HoldsVolumes folder base s files → MadeFrom folder base (in_id_order files) s

-- files that packets can describe, with distinct File IDs
pub record AreDescribed (s : ℕ) (files : List File) : Type 0 where
  pub slice_size : s < 2 ^ 64
  pub few : length files < 2 ^ 32
  pub sizes : AllByRecursion (λ file. length file.1 < 2 ^ 64) files
  pub bytes : AllByRecursion (λ file. AreBytes file.1) files
  pub names : AllByRecursion (λ file. list_any (λ b. b == 0) file.0 ≡ false) files
  pub ids_once : IsDistinct bytes_eq (map id_of files)

-- the kinds of packets that a set is read from
abbrev pub is_read : Kind → Bool
is_read Main = true
is_read FileDesc = true
is_read Ifsc = true
is_read Recovery = true
is_read kind = false

-- the packet is one of those of the files, or the recovery slice of some exponent
abbrev pub IsOf : ℕ → List File → Packet → Type 0
IsOf s files p = (e : ℕ) × (e < 65536) × Contains (packets_of s files (e ∷ [])) (p.kind, p.body)

-- each accepted packet of the bytes with this Recovery Set ID is one of the files' packets (`IsOf`), Creator and
-- unknown kinds aside
abbrev pub AreOf : List ℕ → ℕ → List File → List ℕ → Type 0
AreOf id s files bytes =
    AllByRecursion (λ p. p.set_id ≡ id → IsTrue (is_read p.kind) → IsOf s files p) (accepted bytes)

-- each packet of the base and of each other `.par2` file with this Recovery Set ID is one of the files' packets
abbrev pub AreAllOf : Folder → List ℕ → List ℕ → ℕ → List File → Type 0
AreAllOf folder base id s files =
    let names = base ∷ other_par_names folder base in
    AllByRecursion (λ name. AreOf id s files (bytes_of folder name)) names

-- a set that can be read, each of whose packets is one of these files' packets, was made from these files
abbrev pub PacketsTellTheFiles : Type 0
PacketsTellTheFiles =
    (folder : Folder) (base : List ℕ) (set : ParSet) (s : ℕ) (files : List File)
    → set_of folder base ≡ Ok set → AreDescribed s files → AreAllOf folder base set.id s files → MadeFrom folder base files s
