-- Packets: their bytes, their positions in a file, and the contents of their bodies (Parity Volume Set Specification
-- 2.0; each definition names its section).
use Rattle.std.specs.Prelude.{ℕ, zero, suc, ◌+◌, ◌-◌, ◌*◌, ◌/◌, ◌%◌, ◌==◌, ◌&&◌, nat_le, Bool, List, [], ◌∷◌, ◌++◌, length, take, drop, map, Option, Some, None, if◌then◌else◌, codes, ◌≡◌, ◌<◌, ◌^◌}
use Rattle.std.specs.Int.{w32, w64, to_le_bytes, from_le_bytes}
use Rattle.std.specs.List.{range_with_len, suffix_len}
use Rattle.std.specs.Str.{bytes_eq}
use Rattle.md5.specs.Md5.{md5}
use Rattle.par2_spec.specs.Checksums.{Pair}
use Rattle.par2_spec.specs.declared.Kind.{Kind}
use Rattle.par2_spec.specs.declared.Kind.TheVariants.{Main, FileDesc, Ifsc, Recovery, Creator, Other}

-- n bytes from offset o on
abbrev pub bytes_at : ℕ → ℕ → List ℕ → List ℕ
bytes_at o n bytes = take n (drop o bytes)

-- the little-endian 64-bit number at offset o
unfoldable pub u64_at : ℕ → List ℕ → ℕ
u64_at o bytes = from_le_bytes w64 (bytes_at o 8 bytes)

-- the little-endian 32-bit number at offset o
unfoldable pub u32_at : ℕ → List ℕ → ℕ
u32_at o bytes = from_le_bytes w32 (bytes_at o 4 bytes)

-- the magic sequence ("Packet Header")
abbrev pub magic : List ℕ
magic = codes "PAR2\0PKT"

-- the first half of each type
abbrev pub type_prefix : List ℕ
type_prefix = codes "PAR 2.0\0"

-- the sixteen bytes of a type ("Packet Header" and the section of each packet)
abbrev pub type_of : Kind → List ℕ
type_of Main = type_prefix ++ codes "Main\0\0\0\0"
type_of FileDesc = type_prefix ++ codes "FileDesc"
type_of Ifsc = type_prefix ++ codes "IFSC\0\0\0\0"
type_of Recovery = type_prefix ++ codes "RecvSlic"
type_of Creator = type_prefix ++ codes "Creator\0"
type_of (Other bytes) = bytes

-- the kind that has this type
unfoldable pub kind_of : List ℕ → Kind
kind_of bytes =
    if bytes_eq bytes (type_of Main) then Main
    else if bytes_eq bytes (type_of FileDesc) then FileDesc
    else if bytes_eq bytes (type_of Ifsc) then Ifsc
    else if bytes_eq bytes (type_of Recovery) then Recovery
    else if bytes_eq bytes (type_of Creator) then Creator
    else Other bytes

-- a kind that its own sixteen bytes name: `Other` is not used for a known type
abbrev pub IsCanonical : Kind → Type 0
IsCanonical kind = (length (type_of kind) ≡ 16) × (kind_of (type_of kind) ≡ kind)

-- a packet: its Recovery Set ID, kind and body ("Packet Header")
pub record Packet : Type 0 where
  pub set_id : List ℕ
  pub kind : Kind
  pub body : List ℕ

-- the bytes that the MD5 of a packet covers ("Packet Header")
abbrev pub digest_input : Packet → List ℕ
digest_input p = p.set_id ++ type_of p.kind ++ p.body

-- the bytes of a packet ("Packet Header")
unfoldable pub packet : Packet → List ℕ
packet p = magic ++ to_le_bytes w64 (64 + length p.body) ++ md5 (digest_input p) ++ digest_input p

-- a valid packet: its parts have their sizes, and its length is a multiple of 4 ("Packet Header")
pub record IsPacket (p : Packet) : Type 0 where
  pub set_id : length p.set_id ≡ 16
  pub kind : IsCanonical p.kind
  pub small : 64 + length p.body < 2 ^ 64
  pub multiple_of_4 : (64 + length p.body) % 4 ≡ 0

-- the length field of the packet at the front ("Packet Header")
abbrev pub claimed_length : List ℕ → ℕ
claimed_length bytes = u64_at 8 bytes

-- the bytes begin with an accepted packet ("Packet Header"). Which bytes are searched, and that a packet with a wrong
-- MD5 is skipped byte by byte, are rules of this program
unfoldable pub begins_with_packet : List ℕ → Bool
unfolding u64_at
begins_with_packet bytes =
    nat_le 64 (length bytes) && bytes_eq (bytes_at 0 8 bytes) magic
    && claimed_length bytes % 4 == 0 && nat_le 64 (claimed_length bytes) && nat_le (claimed_length bytes) (length bytes)
    && bytes_eq (md5 (bytes_at 32 (claimed_length bytes - 32) bytes)) (bytes_at 16 16 bytes)

-- the packet at the front of the bytes
unfoldable pub first_packet : List ℕ → Packet
unfolding kind_of u64_at
first_packet bytes = record {
  set_id = bytes_at 32 16 bytes;
  kind = kind_of (bytes_at 48 16 bytes);
  body = bytes_at 64 (claimed_length bytes - 64) bytes;
}

-- the accepted packets that begin after the first n bytes. An accepted packet is skipped as a whole; otherwise the
-- search goes on at the next byte
unfoldable pub accepted_after : ℕ → List ℕ → List Packet
unfolding begins_with_packet first_packet u64_at
accepted_after n [] = []
accepted_after (suc n) (b ∷ bytes) = accepted_after n bytes
accepted_after zero (b ∷ bytes) =
    if begins_with_packet (b ∷ bytes)
    then first_packet (b ∷ bytes) ∷ accepted_after (claimed_length (b ∷ bytes) - 1) bytes
    else accepted_after zero bytes

-- the accepted packets in the bytes of a file
abbrev pub accepted : List ℕ → List Packet
accepted bytes = accepted_after 0 bytes

-- the contents of a Main ("Main packet"): the slice size and the File IDs of the recovery set
pub record MainBody : Type 0 where
  pub slice_size : ℕ
  pub ids : List (List ℕ)

-- the contents of a FileDesc ("File Description packet")
pub record DescBody : Type 0 where
  pub id : List ℕ
  pub md5 : List ℕ
  pub md5_16k : List ℕ
  pub length : ℕ
  pub name : List ℕ

-- the contents of an IFSC ("Input File Slice Checksum packet")
pub record IfscBody : Type 0 where
  pub id : List ℕ
  pub pairs : List Pair

-- the contents of a RecvSlic ("Recovery Slice packet")
pub record RecoveryBody : Type 0 where
  pub exponent : ℕ
  pub bytes : List ℕ

-- the bytes without trailing zeros
abbrev pub without_end_zeros : List ℕ → List ℕ
without_end_zeros bytes = take (length bytes - suffix_len (λ b. b == 0) bytes) bytes

-- whether the length is that of a head and a number of items
abbrev pub is_head_and_items : ℕ → ℕ → List ℕ → Bool
is_head_and_items head item body = nat_le head (length body) && (length body - head) % item == 0

-- the n items of a given length after a head
abbrev pub items_at : ℕ → ℕ → ℕ → List ℕ → List (List ℕ)
items_at head item n body = map (λ k. bytes_at (head + item * k) item body) (range_with_len 0 n)

-- the contents of a Main; `None` exactly if the kind is another or the body is malformed
unfoldable pub read_main : Kind → List ℕ → Option MainBody
unfolding u64_at u32_at
read_main Main body =
    if is_head_and_items 12 16 body && nat_le (u32_at 8 body) ((length body - 12) / 16)
    then Some (record { slice_size = u64_at 0 body; ids = items_at 12 16 (u32_at 8 body) body })
    else None
read_main kind body = None

-- the contents of a FileDesc, or `None` as for a Main
unfoldable pub read_desc : Kind → List ℕ → Option DescBody
unfolding u64_at
read_desc FileDesc body =
    if nat_le 56 (length body)
    then Some (record {
      id = bytes_at 0 16 body;
      md5 = bytes_at 16 16 body;
      md5_16k = bytes_at 32 16 body;
      length = u64_at 48 body;
      name = without_end_zeros (drop 56 body);
    })
    else None
read_desc kind body = None

-- the contents of an IFSC, or `None` as for a Main
unfoldable pub read_ifsc : Kind → List ℕ → Option IfscBody
unfolding u32_at
read_ifsc Ifsc body =
    if is_head_and_items 16 20 body
    then Some (record {
      id = bytes_at 0 16 body;
      pairs = map (λ item. (take 16 item, u32_at 16 item)) (items_at 16 20 ((length body - 16) / 20) body);
    })
    else None
read_ifsc kind body = None

-- the contents of a RecvSlic, or `None` as for a Main
unfoldable pub read_recovery : Kind → List ℕ → Option RecoveryBody
unfolding u32_at
read_recovery Recovery body =
    if nat_le 4 (length body) then Some (record { exponent = u32_at 0 body; bytes = drop 4 body }) else None
read_recovery kind body = None
