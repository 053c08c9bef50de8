-- The packets that describe files, and the files that a create writes (Parity Volume Set Specification 2.0; each
-- definition of a layout names its section). Which packets a file has, and in which order, are rules of this program.
use Rattle.std.specs.Prelude.{ℕ, ◌+◌, ◌-◌, ◌/◌, ◌%◌, ◌^◌, min, nat_lt, nat_le, List, [], ◌∷◌, ◌++◌, length, take, map, flat_map, filter, replicate, if◌then◌else◌, codes, ◌≡◌, ◌==◌, ◌<◌, false}
use Rattle.std.specs.Int.{w32, w64, w128, to_le_bytes, from_le_bytes}
use Rattle.std.specs.List.{range_with_len, AllByRecursion, list_any}
use Rattle.md5.specs.Md5.{md5}
use Rattle.par2_spec.specs.Slices.{slices}
use Rattle.par2_spec.specs.Checksums.{Pair, pair_of, IsPair}
use Rattle.par2_spec.specs.Recovery.{recovery}
use Rattle.par2_spec.specs.Packets.{Packet, packet}
use Rattle.par2_spec.specs.Folders.{File, Folder, laid_over}
use Rattle.par2_spec.specs.declared.Kind.{Kind}
use Rattle.par2_spec.specs.declared.Kind.TheVariants.{Main, FileDesc, Ifsc, Recovery, Creator}

-- the record of a file in a set
pub record FileRecord : Type 0 where
  pub id : List ℕ
  pub md5 : List ℕ
  pub md5_16k : List ℕ
  pub length : ℕ
  pub name : List ℕ
  pub pairs : List Pair

-- a valid file record: its parts have their sizes, and its name has no NUL byte
pub record IsFileRecord (file : FileRecord) : Type 0 where
  pub id : length file.id ≡ 16
  pub md5 : length file.md5 ≡ 16
  pub md5_16k : length file.md5_16k ≡ 16
  pub size : file.length < 2 ^ 64
  pub name : list_any (λ b. b == 0) file.name ≡ false
  pub name_size : length file.name < 2 ^ 32
  pub pairs : AllByRecursion IsPair file.pairs
  pub pairs_size : length file.pairs < 2 ^ 32

-- the File ID ("File Description packet")
abbrev pub file_id : List ℕ → ℕ → List ℕ → List ℕ
file_id md5_16k len name = md5 (md5_16k ++ to_le_bytes w64 len ++ name)

-- the MD5 of the first 16 KiB ("File Description packet")
abbrev pub md5_16k : File → List ℕ
md5_16k file = md5 (take 16384 file.1)

-- the File ID of a file
abbrev pub id_of : File → List ℕ
id_of file = file_id (md5_16k file) (length file.1) file.0

-- the record of a file in a set of slice size s
unfoldable pub record_of : ℕ → File → FileRecord
record_of s file = record {
  id = id_of file;
  md5 = md5 file.1;
  md5_16k = md5_16k file;
  length = length file.1;
  name = file.0;
  pairs = map pair_of (slices s file.1);
}

-- the File ID as a little-endian number, by which a Main is ordered ("Main packet")
abbrev pub id_number : File → ℕ
id_number file = from_le_bytes w128 (id_of file)

-- the file inserted into sorted files, before those whose number is not less
abbrev pub insert_by_id : File → List File → List File
insert_by_id file [] = file ∷ []
insert_by_id file (next ∷ files) = if nat_le (id_number file) (id_number next) then file ∷ next ∷ files else next ∷ insert_by_id file files

-- the files sorted by File ID ("Main packet")
unfoldable pub in_id_order : List File → List File
in_id_order [] = []
in_id_order (file ∷ files) = insert_by_id file (in_id_order files)

-- the bytes, padded with zeros to a multiple of 4
abbrev pub padded_4 : List ℕ → List ℕ
padded_4 bytes = bytes ++ replicate ((4 - length bytes % 4) % 4) 0

-- the body of a Main ("Main packet")
abbrev pub main_bytes : ℕ → List FileRecord → List ℕ
main_bytes s files = to_le_bytes w64 s ++ to_le_bytes w32 (length files) ++ flat_map (λ file. file.id) files

-- the body of a FileDesc ("File Description packet")
abbrev pub desc_bytes : FileRecord → List ℕ
desc_bytes file = file.id ++ file.md5 ++ file.md5_16k ++ to_le_bytes w64 file.length ++ padded_4 file.name

-- the checksums of a slice in an IFSC ("Input File Slice Checksum packet")
abbrev pub pair_bytes : Pair → List ℕ
pair_bytes pair = pair.0 ++ to_le_bytes w32 pair.1

-- the body of an IFSC ("Input File Slice Checksum packet")
abbrev pub ifsc_bytes : FileRecord → List ℕ
ifsc_bytes file = file.id ++ flat_map pair_bytes file.pairs

-- the body of a RecvSlic ("Recovery Slice packet")
abbrev pub recovery_bytes : ℕ → List ℕ → List ℕ
recovery_bytes e bytes = to_le_bytes w32 e ++ bytes

-- the body of the Creator ("Creator packet")
abbrev pub creator_bytes : List ℕ
creator_bytes = padded_4 (codes "par2 undo profile 1")

-- the Recovery Set ID ("Packet Header")
abbrev pub main_id : ℕ → List FileRecord → List ℕ
main_id s files = md5 (main_bytes s files)

-- the packet with this Recovery Set ID, kind and body
abbrev pub packet_of : List ℕ → Kind → List ℕ → Packet
packet_of set_id kind body = record { set_id = set_id; kind = kind; body = body }

-- the packets of the index: Main, the FileDescs, the IFSCs, Creator
unfoldable pub index_packets : ℕ → List FileRecord → List Packet
index_packets s files =
    let of_set = packet_of (main_id s files) in
    of_set Main (main_bytes s files)
    ∷ map (λ file. of_set FileDesc (desc_bytes file)) files
    ++ map (λ file. of_set Ifsc (ifsc_bytes file)) files
    ++ of_set Creator creator_bytes ∷ []

-- the packets of n recovery slices from exponent e on, over these slices
abbrev pub recovery_packets : ℕ → List ℕ → List (List ℕ) → ℕ → ℕ → List Packet
recovery_packets s set_id buffers e n =
    map (λ k. packet_of set_id Recovery (recovery_bytes k (recovery s buffers k))) (range_with_len e n)

-- how many recovery slices come before volume i: each volume i has 2 ^ i of them, the last one the rest. A rule of this
-- program
abbrev pub volumes_before : ℕ → ℕ
volumes_before i = 2 ^ i - 1

-- the numbers of the volumes of c recovery slices, at most 65,536: the first 17 would have 131,071
abbrev pub volume_numbers : ℕ → List ℕ
volume_numbers c = filter (λ i. nat_lt (volumes_before i) c) (range_with_len 0 17)

-- how many of c recovery slices volume i has
abbrev pub volume_size : ℕ → ℕ → ℕ
volume_size c i = min (2 ^ i) (c - volumes_before i)

-- a number below 100,000 in five decimal digits
abbrev pub five_digits : ℕ → List ℕ
five_digits n = map (λ k. 48 + n / 10 ^ k % 10) (4 ∷ 3 ∷ 2 ∷ 1 ∷ 0 ∷ [])

-- the base without `.par2`
abbrev pub stem : List ℕ → List ℕ
stem base = take (length base - 5) base

-- STEM.volFFFFF+NNNNN.par2 ("Naming convention"; five digits are a rule of this program)
abbrev pub volume_name : List ℕ → ℕ → ℕ → List ℕ
volume_name base first n =
    stem base ++ codes ".vol" ++ five_digits first ++ codes "+" ++ five_digits n ++ codes ".par2"

-- the slices of the files, in order
abbrev pub all_slices : ℕ → List File → List (List ℕ)
all_slices s files = flat_map (λ file. slices s file.1) files

-- the files that a create of these files writes, in order: the index, then volumes of c recovery slices from exponent f
-- on. Neither c nor f + c is above 65,536
unfoldable pub volumes : List ℕ → ℕ → ℕ → ℕ → List File → List File
unfolding record_of in_id_order index_packets
volumes base s f c files =
    let ordered = in_id_order files in
    let records = map (record_of s) ordered in
    let index = index_packets s records in
    (base, flat_map packet index)
    ∷ map
    (λ i. (
      volume_name base (f + volumes_before i) (volume_size c i),
      flat_map packet
          (index ++ recovery_packets s (main_id s records) (all_slices s ordered)
          (f + volumes_before i) (volume_size c i)),
    ))
    (volume_numbers c)

-- the kinds and bodies of these files' packets, with recovery slices of these exponents
unfoldable pub packets_of : ℕ → List File → List ℕ → List (Kind × List ℕ)
unfolding record_of
packets_of s files exponents =
    let records = map (record_of s) files in
    (Main, main_bytes s records)
    ∷ map (λ file. (FileDesc, desc_bytes file)) records
    ++ map (λ file. (Ifsc, ifsc_bytes file)) records
    ++ map (λ e. (Recovery, recovery_bytes e (recovery s (all_slices s files) e))) exponents

-- the folder after these files are written
abbrev pub after_create : Folder → List File → Folder
after_create folder files = laid_over files folder
