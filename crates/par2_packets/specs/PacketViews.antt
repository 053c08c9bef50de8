-- The types of this crate as those of the definitions.
use Rattle.std.specs.Prelude.{ℕ, List, drop, string_bytes, ◌-◌, ◌/◌, length, take, map}
use Rattle.par2_spec.specs.Prelude.{w128, from_le_bytes, MainBody, DescBody, IfscBody, bytes_at, u32_at, u64_at, items_at, without_end_zeros}
use Rattle.par2_packets.specs.declared.cursor.Cursor.{Cursor}
use Rattle.par2_packets.specs.declared.record.FileRecord.{FileRecord}
use Rattle.par2_packets.specs.declared.scan.Packet.{Packet}
use Rattle.par2_packets.specs.declared.scan.Packets.{Packets}
use Rattle.par2_spec.specs.Packets as packets
use Rattle.par2_spec.specs.Volumes as volumes

-- a record of a file
abbrev pub file_record_of : FileRecord → volumes.FileRecord
file_record_of file = record {
  id = file.id;
  md5 = file.md5;
  md5_16k = file.md5_16k;
  length = file.length;
  name = string_bytes file.name;
  pairs = file.pairs.items;
}

-- the File ID as a little-endian number
abbrev pub record_id_number : FileRecord → ℕ
record_id_number file = from_le_bytes w128 file.id

-- a packet with its body as a list of bytes
abbrev pub packet_view : Packet → packets.Packet
packet_view p = record { set_id = p.set_id; kind = p.kind; body = p.body.now }

-- the bytes from the cursor on
abbrev pub rest_of : Cursor → List ℕ
rest_of c = drop c.at c.bytes.now

-- the packets that the iterator still returns
abbrev pub remaining_packets : Packets → List packets.Packet
remaining_packets p = packets.accepted (rest_of p.cursor)

-- the body of a Main packet: the slice size, and the File IDs of the recovery set (PAR2 2.0, Main packet)
abbrev pub main_said : List ℕ → MainBody
main_said body = record { slice_size = u64_at 0 body; ids = items_at 12 16 (u32_at 8 body) body }

-- the body of a FileDesc packet: File ID, two MD5s, length and name (PAR2 2.0, File Description packet)
abbrev pub desc_said : List ℕ → DescBody
desc_said body = record {
  id = bytes_at 0 16 body;
  md5 = bytes_at 16 16 body;
  md5_16k = bytes_at 32 16 body;
  length = u64_at 48 body;
  name = without_end_zeros (drop 56 body);
}

-- the body of an IFSC packet: File ID, and MD5 and CRC-32 of each slice (PAR2 2.0, Input File Slice Checksum packet)
abbrev pub ifsc_said : List ℕ → IfscBody
ifsc_said body = record {
  id = bytes_at 0 16 body;
  pairs = map (λ item. (take 16 item, u32_at 16 item)) (items_at 16 20 ((length body - 16) / 20) body);
}
