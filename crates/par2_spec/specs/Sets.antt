-- The set of a base, as the packets of a folder describe it. The contents of packets are those of Parity Volume Set
-- Specification 2.0. Which packets are used, and which sets are in the profile, are rules of this program.
use Rattle.std.specs.Prelude.{◌≡◌, ℕ, ◌^◌, ◌%◌, ◌==◌, ◌&&◌, nat_le, nat_lt, Bool, true, false, not, List, [], ◌∷◌, length, map, flat_map, filter, filter_map, sum_by, find, slice_get, Option, Some, None, Result, Ok, Err, ok_or, option_map, option_and_then, if◌then◌else◌, ◌<◌, ◌≤◌, IsTrue}
use Rattle.std.specs.FinMap as map_of
use Rattle.std.specs.FinMap.{FinMap}
use Rattle.std.specs.Ordering.{nat_cmp}
use Rattle.std.specs.List.{list_all, AllByRecursion, IsDistinct}
use Rattle.std.specs.Str.{bytes_eq}
use Rattle.md5.specs.Md5.{md5}
use Rattle.par2_spec.specs.Field.{max_slices}
use Rattle.par2_spec.specs.Checksums.{Pair}
use Rattle.par2_spec.specs.Slices.{slice_count}
use Rattle.par2_spec.specs.Recovery.{recovery}
use Rattle.par2_spec.specs.Names.{is_name, is_par_name, distinct}
use Rattle.par2_spec.specs.Folders.{Folder, File, bytes_of, names}
use Rattle.par2_spec.specs.Volumes.{record_of, all_slices}
use Rattle.par2_spec.specs.Packets.{Packet, accepted, accepted_after, MainBody, DescBody, read_main, read_desc, read_ifsc, read_recovery}
use Rattle.par2_spec.specs.declared.Fault.{Fault}
use Rattle.par2_spec.specs.declared.Fault.TheVariants.{NoPackets, NoMain, NoDescription, NoChecksums, BadSet}

-- a file that a set describes
pub record Target : Type 0 where
  pub name : List ℕ
  pub length : ℕ
  pub md5 : List ℕ
  pub pairs : List Pair

-- a recovery set
pub record ParSet : Type 0 where
  pub id : List ℕ
  pub slice_size : ℕ
  -- in the order of the Main packet
  pub targets : List Target
  -- the recovery slice of each surviving exponent
  pub recovery : FinMap nat_cmp (List ℕ)

-- the next step of a computation, unless a fault has ended it
infixl 10 ◌>>=◌
abbrev pub ◌>>=◌ : {A B : Type 0} → Result A Fault → (A → Result B Fault) → Result B Fault
(Ok x) >>= f = f x
(Err e) >>= f = Err e

-- the fault, unless the test passes
abbrev pub unless : Bool → Fault → Result Bool Fault
unless true fault = Ok true
unless false fault = Err fault

-- the items, if all are there
abbrev pub all_some : {A : Type 0} → List (Option A) → Option (List A)
all_some [] = Some []
all_some (item ∷ items) = option_and_then (λ x. option_map (λ xs. x ∷ xs) (all_some items)) item

-- a slice size of the profile: a multiple of 4 from 4 to 2 ^ 30
abbrev pub is_slice_size : ℕ → Bool
is_slice_size s = s % 4 == 0 && nat_le 4 s && nat_le s (2 ^ 30)

-- the packets with this Recovery Set ID
abbrev pub packets_with : List ℕ → List Packet → List Packet
packets_with id packets = filter (λ p. bytes_eq p.set_id id) packets

-- the first well-formed Main whose body has the Recovery Set ID as its MD5
abbrev pub main_of : List ℕ → List Packet → Option MainBody
main_of id packets =
    slice_get (filter_map (λ p. if bytes_eq (md5 p.body) id then read_main p.kind p.body else None) packets) 0

-- the first well-formed FileDesc with this File ID
abbrev pub description_of : List Packet → List ℕ → Option DescBody
description_of packets id = find (λ d. bytes_eq d.id id) (filter_map (λ p. read_desc p.kind p.body) packets)

-- the checksums of the first IFSC with this File ID and n pairs
abbrev pub pairs_of : List Packet → List ℕ → ℕ → Option (List Pair)
pairs_of packets id n =
    option_map (λ c. c.pairs)
    (find (λ c. bytes_eq c.id id && length c.pairs == n) (filter_map (λ p. read_ifsc p.kind p.body) packets))

-- the target of a description. An empty file needs no checksums
abbrev pub target_of : List Packet → ℕ → DescBody → Option Target
target_of packets s d =
    option_map (λ pairs. let t : Target = record { name = d.name; length = d.length; md5 = d.md5; pairs = pairs } in t)
    (if d.length == 0 then Some [] else pairs_of packets d.id (slice_count s d.length))

-- the names are valid and distinct, and there are no more slices than constants
abbrev pub are_in_profile : ℕ → List DescBody → Bool
are_in_profile s ds =
    nat_le (sum_by (λ d. slice_count s d.length) ds) max_slices && list_all (λ d. is_name d.name) ds
    && length (distinct (map (λ d. d.name) ds)) == length ds

-- for each exponent up to 65,535 the first recovery slice of s bytes: a map made of entries keeps the first of a key
abbrev pub recovery_of : List Packet → ℕ → FinMap nat_cmp (List ℕ)
recovery_of packets s =
    map_of.from_entries (map (λ r. (r.exponent, r.bytes))
    (filter (λ r. nat_lt r.exponent 65536 && length r.bytes == s) (filter_map (λ p. read_recovery p.kind p.body) packets)))

-- the set that the bytes of a base and of other files describe, or the first part that is missing. Its Recovery Set ID
-- is that of the base's first packet
unfoldable pub read_set : List ℕ → List (List ℕ) → Result ParSet Fault
unfolding accepted_after read_main read_desc read_ifsc read_recovery is_name
read_set base others = do
  first ← ok_or (slice_get (accepted base) 0) NoPackets
  let packets = packets_with first.set_id (flat_map accepted (base ∷ others))
  main ← ok_or (main_of first.set_id packets) NoMain
  right_size ← unless (is_slice_size main.slice_size) BadSet
  described ← ok_or (all_some (map (description_of packets) main.ids)) NoDescription
  in_profile ← unless (are_in_profile main.slice_size described) BadSet
  targets ← ok_or (all_some (map (target_of packets main.slice_size) described)) NoChecksums
  Ok (record {
    id = first.set_id;
    slice_size = main.slice_size;
    targets = targets;
    recovery = recovery_of packets main.slice_size;
  })

-- every other file whose name ends in `.par2`, in the order of the names
abbrev pub other_par_names : Folder → List ℕ → List (List ℕ)
other_par_names folder base = filter (λ name. is_par_name name && not (bytes_eq name base)) (names folder)

-- the checksums of all slices, in order
abbrev pub all_pairs : ParSet → List Pair
all_pairs set = flat_map (λ t. t.pairs) set.targets

-- the names of a set's targets
abbrev pub target_names : ParSet → List (List ℕ)
target_names set = map (λ t. t.name) set.targets

-- the set of a base in a folder
unfoldable pub set_of : Folder → List ℕ → Result ParSet Fault
unfolding read_set
set_of folder base = read_set (bytes_of folder base) (map (bytes_of folder) (other_par_names folder base))

-- a sound set, as is every set that can be read: the names are valid and distinct, the slice size is in the profile,
-- each slice has checksums, there are no more slices than constants, and recovery slices have the slice size
pub record IsSound (set : ParSet) : Type 0 where
  pub are_names : IsTrue (list_all is_name (target_names set))
  pub names_once : IsDistinct bytes_eq (target_names set)
  pub size : IsTrue (is_slice_size set.slice_size)
  pub pairs : AllByRecursion (λ t. length t.pairs ≡ slice_count set.slice_size t.length) set.targets
  pub slices : length (all_pairs set) ≤ max_slices
  pub recovery : AllByRecursion (λ r. (r.0 < 65536) × (length r.1 ≡ set.slice_size)) (map_of.entries set.recovery)

-- ---- a set that was made from known files

-- the target that describes a file
abbrev pub target_of_file : ℕ → File → Target
target_of_file s file =
    let r = record_of s file in
    let t : Target = record { name = r.name; length = r.length; md5 = r.md5; pairs = r.pairs } in t

-- the set of the base is that of these files, in their order, with true recovery slices
pub record MadeFrom (folder : Folder) (base : List ℕ) (files : List File) (s : ℕ) : Type 0 where
  pub set : ParSet
  pub reads : set_of folder base ≡ Ok set
  pub slice_size : set.slice_size ≡ s
  pub targets : set.targets ≡ map (target_of_file s) files
  pub recovered : AllByRecursion (λ r. r.1 ≡ recovery s (all_slices s files) r.0) (map_of.entries set.recovery)
