-- Digests of packets: of several of one length that are found in bytes, and of recovery packets that are written piece by
-- piece (PAR2 2.0, Recovery Slice packet).
use Rattle.std.specs.Prelude.{ℕ, ◌≡◌, ◌+◌, ◌-◌, ◌<◌, ◌≤◌, nat_lt, List, ◌++◌, length, take, drop, slice_index, flat_map, if◌then◌else◌, replicate}
use Rattle.par2_spec.specs.Prelude.{range_with_len, w64, to_le_bytes, bytes_eq, Packet, begins_with_packet, bytes_at, claimed_length, packet, magic, digest_input, packet_of, recovery_bytes}
use Rattle.md5.specs.Md5.{md5}
use Rattle.par2_md5_lanes.specs.Messages.{digest_at}
use Rattle.par2_spec.specs.declared.Kind.TheVariants.{Recovery}
use Rattle.par2_packets.specs.declared.cursor.DigestBatch.{DigestBatch}

-- the claimed length is this, and there is a packet at the front exactly if its MD5 is right
pub record IsHead (bytes : List ℕ) (len : ℕ) : Type 0 where
  pub claim : claimed_length bytes ≡ len
  pub low : 64 ≤ len
  pub high : len ≤ length bytes
  pub begins : begins_with_packet bytes ≡ bytes_eq (md5 (bytes_at 32 (len - 32) bytes)) (bytes_at 16 16 bytes)

-- each digest is that of the packet at its start
abbrev pub AreDigests : List ℕ → DigestBatch → Type 0
AreDigests bytes batch = (k : ℕ) → k < batch.count
    → digest_at batch.digests k ≡ md5 (bytes_at 32 (batch.len - 32) (drop (slice_index batch.starts k) bytes))

-- the batch has the right digests of one or more packets of this length, the first of which begins at `at`
pub record IsBatchFrom (bytes : List ℕ) (at len : ℕ) (batch : DigestBatch) : Type 0 where
  pub digests : AreDigests bytes batch
  pub some : 1 ≤ batch.count
  pub first : slice_index batch.starts 0 ≡ at
  pub as_long : batch.len ≡ len

-- `content` with these bytes written over it from position `at` on
abbrev pub overwritten : ℕ → List ℕ → List ℕ → List ℕ
overwritten at bytes content = take at content ++ bytes ++ drop (at + length bytes) content

-- the bytes are n pieces of m bytes each, one after the other: `piece k` for the n numbers k from e on
pub record ArePieces (m : ℕ) (piece : ℕ → List ℕ) (e n : ℕ) (bytes : List ℕ) : Type 0 where
  pub sizes : (k : ℕ) → length (piece k) ≡ m
  pub is : bytes ≡ flat_map piece (range_with_len e n)

-- the pieces below number b are those of g, and the others those of f
abbrev pub changed_below : ℕ → (g f : ℕ → List ℕ) → ℕ → List ℕ
changed_below b g f k = if nat_lt k b then g k else f k

-- the packet of the recovery slice of exponent e
abbrev pub recovery_packet : List ℕ → ℕ → List ℕ → Packet
recovery_packet set_id e slice = packet_of set_id Recovery (recovery_bytes e slice)

-- the bytes of that packet, with zeros in place of its MD5
unfoldable pub undigested : List ℕ → ℕ → List ℕ → List ℕ
undigested set_id e slice =
    magic ++ to_le_bytes w64 (68 + length slice) ++ replicate 16 0 ++ digest_input (recovery_packet set_id e slice)

-- the bytes of that packet, with its MD5
abbrev pub digested : List ℕ → ℕ → List ℕ → List ℕ
digested set_id e slice = packet (recovery_packet set_id e slice)

-- the bytes of a packet, with its MD5 filled in
abbrev pub digest_put : List ℕ → List ℕ
digest_put bytes = overwritten 16 (md5 (drop 32 bytes)) bytes

-- the old packets, of m bytes each, may have their MD5s up to packet a; the new ones then have them up to packet b
abbrev pub AreDigested : (m a b : ℕ) (old new : List ℕ) → Type 0
AreDigested m a b old new =
    (packet : ℕ → List ℕ) (e n : ℕ) → ((k : ℕ) → length (packet k) ≡ m) → b ≤ n
    → ArePieces m (changed_below (e + a) (λ k. digest_put (packet k)) packet) e n old
    → ArePieces m (changed_below (e + b) (λ k. digest_put (packet k)) packet) e n new
