-- The bytes of volumes stage by stage, and the places of the recovery slices in them.
use Rattle.par2_create.proofs.Common.{nil_from_length, ◌≡◌, ℕ, ◌+◌, ◌-◌, ◌<◌, ◌≤◌, List, [], ◌∷◌, ◌++◌, length, take, drop, refl, sym, ap, ◌∙◌, subst, arith, length-append, take-append-drop, CreateArgs, volume_numbers, volume_at, volumes_of, map, range_with_len, Volume, ◌*◌, ap₂, flat_map, take_at, drop_at, take_all, length-drop, flat_map-map, packet, packet_of, recovery_bytes, Recovery, ArePieces, undigested, digested, length-pieces, length-undigested, Parts, inputs_of, recovery_packets, slice_of, ext_get_or, get_or-take, get_or-drop, length-map, get_or-map, length-replicate, inl, inr, zero, suc, get_or, zero-add, mul-le-mul_right, replicate, enumerate_from, cases_lt, length-map-range_with_len, get_or-map-range_with_len, length-range_with_len, get_or-range_with_len, length-enumerate_from, get_or-enumerate_from, padded, list_at, piece_at, drop_behind, head_of, length-head, undigested_is, Place, output_at, AreWritten, AreZeros, length_with, nth_volume, place_in, places_in, places_of, volume_with, volume_exponents, length-flat_map-take, flat_map-append, map-map, Folder, File, Change, index_packets, main_id, record_of, in_id_order, all_slices, volumes, files_of, create_changes, put_change, common_steps, drop-drop, drop-take, length-take, get_or-flat_map, recovery_length, put_mid, place_at, AreApart, HasByte, LieWithin, recovery, Vec, Global, drop_more, lists_of}

-- the exponents of a volume's recovery slices, in order
abbrev exponents_in : Volume → List ℕ
exponents_in volume = range_with_len volume.first volume.count

pub length-slice : (parts : Parts) (e : ℕ) → length (slice_of parts e) ≡ parts.slice
length-slice parts e = recovery_length parts.slice (inputs_of parts) e (omega (arith, parts.fours))

-- ---- the packets of a volume

-- the bytes after the index
pub behind_index : (bytes index rest : List ℕ) (n : ℕ) → n ≡ length index → bytes ≡ index ++ rest → take (length bytes - n) (drop n bytes) ≡ rest
behind_index bytes index rest n size is =
    grind (arith, common_steps)

-- other packets after the index
pub index_kept : (bytes index rest new : List ℕ) (n : ℕ) → n ≡ length index → bytes ≡ index ++ rest → put_mid n (length bytes - n) bytes new ≡ index ++ new
index_kept bytes index rest new n size is =
    grind (arith, common_steps)

pub length-packets : (parts : Parts) → (first count : ℕ)
    → length (flat_map (λ e. undigested parts.set_id e (slice_of parts e)) (range_with_len first count)) ≡ count * (68 + parts.slice)
length-packets parts first count =
    length-pieces (68 + parts.slice) (λ (e : ℕ). undigested parts.set_id e (slice_of parts e))
    (λ e. length-undigested parts.set_id e (slice_of parts e) parts.sixteen ∙ ap (λ k. 68 + k) (length-slice parts e)) first count

-- with their MD5s, the packets are whole
pub packets_digested : (parts : Parts) (first count : ℕ) (old new : List ℕ)
    → ((id : List ℕ) (e : ℕ) (slice : ℕ → List ℕ) → ArePieces (68 + parts.slice) (λ k. undigested id k (slice k)) e count old
    → ArePieces (68 + parts.slice) (λ k. digested id k (slice k)) e count new)
    → old ≡ flat_map (λ e. undigested parts.set_id e (slice_of parts e)) (range_with_len first count)
    → new ≡ flat_map packet (recovery_packets parts.slice parts.set_id (inputs_of parts) first count)
packets_digested parts first count old new put is =
    let s : ℕ = parts.slice in
    let id : List ℕ = parts.set_id in
    let slice = slice_of parts in
    let pieces : ArePieces (68 + s) (λ (e : ℕ). undigested id e (slice e)) first count old = record {
      sizes = λ e. length-undigested id e (slice e) parts.sixteen ∙ ap (λ k. 68 + k) (length-slice parts e);
      is = is;
    } in
    (put id first slice pieces).is ∙ sym (flat_map-map packet (λ (e : ℕ). packet_of id Recovery (recovery_bytes e (slice e))) (range_with_len first count))

-- ---- numbers of recovery slices

abbrev no_volume : Volume
no_volume = record { name = []; first = 0; count = 0 }

abbrev nowhere : Place
nowhere = record { buffer = 0; at = 0 }

-- the number of recovery slices before volume j
abbrev before : List Volume → ℕ → ℕ
before volumes j = length (volume_exponents (take j volumes))

-- there are as many places before volume j
length-before : (parts : Parts) (n : ℕ) (volumes : List Volume) (j : ℕ) → length (flat_map (places_in parts) (take j (enumerate_from n volumes))) ≡ before volumes j
length-before parts n volumes zero = refl
length-before parts n [] (suc j) = refl
length-before parts n (v ∷ volumes) (suc j) =
    let rest = length-before parts (n + 1) volumes j in
    let a = length-append (places_in parts (n, v)) (flat_map (places_in parts) (take j (enumerate_from (n + 1) volumes))) in
    let b = length-append (exponents_in v) (volume_exponents (take j volumes)) in
    omega (arith, rest, a, b, length-map-range_with_len (place_in parts n) 0 v.count, length-range_with_len v.first v.count)

pub length-places : (parts : Parts) (volumes : List Volume) → length (volume_exponents volumes) ≡ length (places_of parts volumes)
length-places parts volumes =
    let n = length volumes in
    ap (λ vs. length (volume_exponents vs)) (sym (take_all n volumes (omega arith))) ∙ sym (length-before parts 0 volumes n)
    ∙ ap (λ zs. length (flat_map (places_in parts) zs)) (take_all n (enumerate_from 0 volumes) (omega (arith, length-enumerate_from 0 volumes)))

-- recovery slice t of all volumes is one of a volume
record Located (volumes : List Volume) (t : ℕ) : Type 0 where
  pub volume : ℕ
  pub packet : ℕ
  pub in_volumes : volume < length volumes
  pub in_packets : packet < (nth_volume volumes volume).count
  pub number : t ≡ before volumes volume + packet

located : (volumes : List Volume) (t : ℕ) → t < length (volume_exponents volumes) → Located volumes t
located [] t low = absurd (omega (arith, low))
located (v ∷ volumes) t low =
    let size = length-range_with_len v.first v.count in
    elim (cases_lt t v.count) [
      | inl here ↦ record { volume = 0; packet = t; in_volumes = omega arith; in_packets = here; number = sym (zero-add t) }
      | inr later ↦
          let next = located volumes (t - v.count) (omega (arith, low, later, size, length-append (exponents_in v) (volume_exponents volumes))) in
          record {
            volume = suc next.volume;
            packet = next.packet;
            in_volumes = (let l = next.in_volumes in omega (arith, l));
            in_packets = next.in_packets;
            number = (let n = next.number in omega (arith, n, later, size, length-append (exponents_in v) (volume_exponents (take next.volume volumes))));
          }
    ]

-- its place and its exponent
record IsNumbered (parts : Parts) (volumes : List Volume) (t j k : ℕ) : Type 0 where
  pub low : t < length (places_of parts volumes)
  pub place : place_at (places_of parts volumes) t ≡ place_in parts j k
  pub exponent : get_or (volume_exponents volumes) t 0 ≡ (nth_volume volumes j).first + k

numbered : (parts : Parts) (volumes : List Volume) (j k : ℕ) → j < length volumes → k < (nth_volume volumes j).count → IsNumbered parts volumes (before volumes j + k) j k
numbered parts volumes j k low here =
    let v = nth_volume volumes j in
    let zs = enumerate_from 0 volumes in
    let at : get_or zs j (0, no_volume) ≡ (j, v) = get_or-enumerate_from 0 volumes j (0, no_volume) low ∙ ap (λ (n : ℕ). (n, v)) (zero-add j) in
    let size = length-range_with_len v.first v.count in
    let many : length (places_in parts (get_or zs j (0, no_volume))) ≡ v.count = ap (λ (z : ℕ × Volume). length (places_in parts z)) at ∙ length-map-range_with_len (place_in parts j) 0 v.count in
    record {
      low = omega (arith, here, size, length-flat_map-take exponents_in volumes j no_volume low, length-places parts volumes);
      place =
          ap (λ n. place_at (places_of parts volumes) (n + k)) (sym (length-before parts 0 volumes j))
          ∙ get_or-flat_map (places_in parts) zs j k (0, no_volume) nowhere (omega (arith, low, length-enumerate_from 0 volumes)) (omega (arith, many, here))
          ∙ ap (λ (z : ℕ × Volume). get_or (places_in parts z) k nowhere) at ∙ get_or-map-range_with_len (place_in parts j) 0 v.count k k nowhere here (zero-add k);
      exponent = get_or-flat_map exponents_in volumes j k no_volume 0 low (omega (arith, size, here)) ∙ get_or-range_with_len v.first v.count k 0 here;
    }

among : (parts : Parts) (volumes : List Volume) (t : ℕ) → t < length (places_of parts volumes) → Located volumes t
among parts volumes t low = located volumes t (omega (arith, low, length-places parts volumes))

stands : (parts : Parts) (volumes : List Volume) (t : ℕ) (x : Located volumes t) → place_at (places_of parts volumes) t ≡ place_in parts x.volume x.packet
stands parts volumes t x = ap (place_at (places_of parts volumes)) x.number ∙ (numbered parts volumes x.volume x.packet x.in_volumes x.in_packets).place

-- ---- places

-- a packet ends within its volume
pub packet_ends : (a k n m size : ℕ) → k < n → size ≡ a + n * m → a + k * m + m ≤ size
packet_ends a k n m size low is =
    let more : (k + 1) * m ≤ n * m = mul-le-mul_right m (let e : k + 1 ≤ n = omega (arith, low) in e) in
    omega (arith, more, is)

-- a byte is in a single packet
same_packet : (m a k l b : ℕ) → a + k * m ≤ b → b < a + k * m + m → a + l * m ≤ b → b < a + l * m + m → k ≡ l
same_packet m a k l b k_low k_high l_low l_high =
    let below : k < l → ⊥ = λ less. omega (arith, packet_ends a k l m (a + l * m) less refl, k_high, l_low) in
    let above : l < k → ⊥ = λ less. omega (arith, packet_ends a l k m (a + k * m) less refl, l_high, k_low) in
    omega (arith, below, above)

-- a byte of a recovery slice is in its packet
in_packet : (parts : Parts) (words i j k b : ℕ) (place : Place) → 2 * words ≡ parts.slice → place ≡ place_in parts j k → HasByte words place i b
    → (j ≡ i) × ((length_with parts k + 68 ≤ b) × (b < length_with parts k + (68 + parts.slice)))
in_packet parts words i j k b place size is has =
    let here : HasByte words (place_in parts j k) i b = subst (λ (x : Place). HasByte words x i b) is has in
    (here.0, (omega (arith, here.1.0), omega (arith, here.1.1, size)))

pub places_apart : (parts : Parts) (words : ℕ) (volumes : List Volume) → 2 * words ≡ parts.slice → AreApart words (places_of parts volumes)
places_apart parts words volumes size s t i b s_low t_low in_s in_t =
    let x = among parts volumes s s_low in
    let y = among parts volumes t t_low in
    let p = in_packet parts words i x.volume x.packet b (place_at (places_of parts volumes) s) size (stands parts volumes s x) in_s in
    let q = in_packet parts words i y.volume y.packet b (place_at (places_of parts volumes) t) size (stands parts volumes t y) in_t in
    let packet : x.packet ≡ y.packet = same_packet (68 + parts.slice) (length parts.index.items) x.packet y.packet b (omega (arith, p.1.0)) p.1.1 (omega (arith, q.1.0)) q.1.1 in
    x.number ∙ ap₂ (λ (j k : ℕ). before volumes j + k) (p.0 ∙ sym q.0) packet ∙ sym y.number

-- ---- buffers and their parts

-- the first of some buffers, and the others
pub first_of : (xs : List (Vec ℕ Global)) (bytes : Vec ℕ Global) (t : List ℕ) (ts : List (List ℕ)) → lists_of xs ≡ t ∷ ts → bytes ≡ get_or xs 0 bytes → (bytes.items ≡ t) × (lists_of (drop 1 xs) ≡ ts)
first_of [] bytes t ts e is = absurd cc
first_of (x ∷ xs) bytes t ts e is = (ap (λ (v : Vec ℕ Global). v.items) is ∙ ap (λ (l : List (List ℕ)). get_or l 0 t) e, ap (λ (l : List (List ℕ)). drop 1 l) e)

-- the first of the remaining buffers
pub taken : {X : Type 0} (bytes : X → List ℕ) (all : List X) (i : ℕ) (x : X) (left : List (Vec ℕ Global)) (first : Vec ℕ Global) → i < length all → x ≡ get_or all i x → lists_of left ≡ map bytes (drop i all) → first ≡ get_or left 0 first
    → (first.items ≡ bytes x) × (lists_of (drop 1 left) ≡ map bytes (drop (i + 1) all))
taken bytes all i x left first low is buffers at =
    first_of left first (bytes x) (map bytes (drop (i + 1) all)) (buffers ∙ ap (map bytes) (drop_more all i x low ∙ ap (λ v. v ∷ drop (i + 1) all) (sym is))) at

pub some_left : {X : Type 0} (bytes : X → List ℕ) (all : List X) (i : ℕ) (left : List (Vec ℕ Global)) → i < length all → lists_of left ≡ map bytes (drop i all) → 0 < length left
some_left bytes all i left low buffers =
    let many = ap length buffers in
    omega (arith, many, length-map left (λ (v : Vec ℕ Global). v.items), length-map (drop i all) bytes, length-drop i all, low)

take_both : (a n m : ℕ) (xs : List ℕ) → take (n + m) (drop a xs) ≡ take n (drop a xs) ++ take m (drop (a + n) xs)
take_both a n m xs = grind (arith, common_steps, take-append-drop n (take (n + m) (drop a xs)), drop-take n m (drop a xs), drop-drop n a xs)

split_at : (a n m : ℕ) (xs front rest : List ℕ) → length front ≡ n → take (n + m) (drop a xs) ≡ front ++ rest → (take n (drop a xs) ≡ front) × (take m (drop (a + n) xs) ≡ rest)
split_at a n m xs front rest size is = (
  grind (arith, common_steps, ap (take n) is),
  ap (take m) (sym (drop-drop n a xs)) ∙ sym (drop-take n m (drop a xs)) ∙ ap (drop n) is ∙ drop_at front rest n size,
)

from_pieces : (m : ℕ) (f : ℕ → List ℕ) (e n : ℕ) (bytes : List ℕ) → length bytes ≡ n * m → ((k : ℕ) → k < n → take m (drop (k * m) bytes) ≡ f (e + k)) → bytes ≡ flat_map f (range_with_len e n)
from_pieces m f e zero bytes size each = nil_from_length bytes (omega (arith, size))
from_pieces m f e (suc n) bytes size each =
    sym (take-append-drop m bytes)
    ∙ ap₂ (λ (a b : List ℕ). a ++ b) (ap (λ p. take m (drop p bytes)) (let q : 0 ≡ 0 * m = omega arith in q) ∙ each 0 (omega arith) ∙ ap f (let q : e + 0 ≡ e = omega arith in q))
    (from_pieces m f (e + 1) n (drop m bytes) (omega (arith, length-drop m bytes, size)) (λ k low.
    ap (take m) (drop-drop (k * m) m bytes ∙ ap (λ p. drop p bytes) (let q : m + k * m ≡ (k + 1) * m = omega arith in q))
    ∙ each (k + 1) (omega (arith, low)) ∙ ap f (let q : e + (k + 1) ≡ e + 1 + k = omega arith in q)))

-- ---- volumes

sized : (parts : Parts) (f : ℕ → List ℕ) → ((e : ℕ) → length (f e) ≡ parts.slice) → (e : ℕ) → length (undigested parts.set_id e (f e)) ≡ 68 + parts.slice
sized parts f sizes e = length-undigested parts.set_id e (f e) parts.sixteen ∙ ap (λ n. 68 + n) (sizes e)

pub length-volume : (parts : Parts) (f : ℕ → List ℕ) (volume : Volume) → ((e : ℕ) → length (f e) ≡ parts.slice)
    → length (volume_with parts f volume) ≡ length_with parts volume.count
length-volume parts f volume sizes =
    let packets = length-pieces (68 + parts.slice) (λ (e : ℕ). undigested parts.set_id e (f e)) (sized parts f sizes) volume.first volume.count in
    length-append parts.index.items (flat_map (λ (e : ℕ). undigested parts.set_id e (f e)) (range_with_len volume.first volume.count)) ∙ ap (λ n. length parts.index.items + n) packets

pub places_within : (parts : Parts) (words : ℕ) (volumes : List Volume) (buffers : List (List ℕ)) → 2 * words ≡ parts.slice
    → buffers ≡ map (volume_with parts (λ e. replicate parts.slice 0)) volumes → LieWithin words (places_of parts volumes) buffers
places_within parts words volumes buffers size are t low =
    let x = among parts volumes t low in
    let j = x.in_volumes in
    let volume = nth_volume volumes x.volume in
    let zeros = λ (e : ℕ). replicate {A = ℕ} parts.slice 0 in
    let count = ap length are in
    let long : length (list_at buffers x.volume) ≡ length_with parts volume.count =
    ap (λ (xs : List (List ℕ)). length (list_at xs x.volume)) are ∙ ap length (get_or-map (volume_with parts zeros) volumes x.volume no_volume [] j)
    ∙ length-volume parts zeros volume (λ e. length-replicate {A = ℕ} parts.slice 0) in
    let ends = packet_ends (length parts.index.items) x.packet volume.count (68 + parts.slice) (length (list_at buffers x.volume)) x.in_packets long in
    let here : (x.volume < length buffers) × (length_with parts x.packet + 68 + 2 * words ≤ length (list_at buffers x.volume)) = (omega (arith, count, length-map volumes (volume_with parts zeros), j), omega (arith, ends, size)) in
    subst (λ (place : Place). (place.buffer < length buffers) × (place.at + 2 * words ≤ length (list_at buffers place.buffer))) (sym (stands parts volumes t x)) here

-- a packet in a volume: its head, whatever its slice, and its slice
in_volume : (parts : Parts) (f : ℕ → List ℕ) (volume : Volume) (k : ℕ) → ((e : ℕ) → length (f e) ≡ parts.slice) → k < volume.count
    → (take 68 (drop (length_with parts k) (volume_with parts f volume)) ≡ head_of parts.set_id (volume.first + k) parts.slice)
    × (take parts.slice (drop (length_with parts k + 68) (volume_with parts f volume)) ≡ f (volume.first + k))
in_volume parts f volume k sizes low =
    let m : ℕ = 68 + parts.slice in
    let id : List ℕ = parts.set_id in
    let e : ℕ = volume.first + k in
    let packet = λ (e : ℕ). undigested id e (f e) in
    let packets = flat_map packet (range_with_len volume.first volume.count) in
    split_at (length_with parts k) 68 parts.slice (volume_with parts f volume) (head_of id e parts.slice) (f e) (length-head id e parts.slice parts.sixteen)
    (ap (take m) (drop_behind (length_with parts k) (k * m) parts.index.items packets refl)
    ∙ piece_at m packet volume.first volume.count k packets (record { sizes = sized parts f sizes; is = refl }) low
    ∙ undigested_is id e (f e) ∙ ap (λ n. head_of id e n ++ f e) (sizes e))

-- the outputs of blank volumes are zeros
pub places_blank : (parts : Parts) (words : ℕ) (volumes : List Volume) (buffers : List (List ℕ)) → 2 * words ≡ parts.slice
    → buffers ≡ map (volume_with parts (λ e. replicate parts.slice 0)) volumes → AreZeros words (places_of parts volumes) buffers
places_blank parts words volumes buffers size are t low =
    let zeros = λ (e : ℕ). replicate {A = ℕ} parts.slice 0 in
    let x = among parts volumes t low in
    let bytes = ap (λ (xs : List (List ℕ)). list_at xs x.volume) are ∙ get_or-map (volume_with parts zeros) volumes x.volume no_volume [] x.in_volumes in
    ap (λ (place : Place). output_at (2 * words) place buffers) (stands parts volumes t x)
    ∙ ap₂ (λ (n : ℕ) (xs : List ℕ). take n (drop (length_with parts x.packet + 68) xs)) size bytes
    ∙ (in_volume parts zeros (nth_volume volumes x.volume) x.packet (λ e. length-replicate {A = ℕ} parts.slice 0) x.in_packets).1
    ∙ ap (λ n. replicate n 0) (sym size)

-- the written volumes are those with the recovery slices
pub volumes_written : (parts : Parts) (words : ℕ) (volumes : List Volume) (slices : List (List ℕ)) (exponents : List ℕ) (old new : List (List ℕ)) → 2 * words ≡ parts.slice
    → map (padded parts.slice) slices ≡ inputs_of parts → exponents ≡ volume_exponents volumes → old ≡ map (volume_with parts (λ e. replicate parts.slice 0)) volumes
    → AreWritten words slices exponents (places_of parts volumes) old new → new ≡ map (volume_with parts (slice_of parts)) volumes
volumes_written parts words volumes slices exponents old new size inputs numbers are written =
    ext_get_or [] new (map (volume_with parts (slice_of parts)) volumes) (written.count ∙ count ∙ sym (length-map volumes (volume_with parts (slice_of parts))))
    (λ i low.
    let here : i < length volumes = (let e = written.count in omega (arith, low, e, count)) in
    one i here ∙ sym (get_or-map (volume_with parts (slice_of parts)) volumes i no_volume [] here))
  where
    zeros : ℕ → List ℕ
    zeros e = replicate parts.slice 0

    zeros_size : (e : ℕ) → length (zeros e) ≡ parts.slice
    zeros_size e = length-replicate {A = ℕ} parts.slice 0

    slice_size : (e : ℕ) → length (slice_of parts e) ≡ parts.slice
    slice_size e = length-slice parts e

    count : length old ≡ length volumes
    count = ap length are ∙ length-map volumes (volume_with parts zeros)

    was : (i : ℕ) → i < length volumes → list_at old i ≡ volume_with parts zeros (nth_volume volumes i)
    was i low = ap (λ (xs : List (List ℕ)). list_at xs i) are ∙ get_or-map (volume_with parts zeros) volumes i no_volume [] low

    -- a byte outside all recovery slices
    kept : (i b : ℕ) → i < length volumes → ((k : ℕ) → k < (nth_volume volumes i).count → length_with parts k + 68 ≤ b → b < length_with parts k + (68 + parts.slice) → ⊥)
        → get_or (list_at new i) b 0 ≡ get_or (volume_with parts zeros (nth_volume volumes i)) b 0
    kept i b low none =
        written.others i b (λ t t_low has.
        let x = among parts volumes t t_low in
        let at = in_packet parts words i x.volume x.packet b (place_at (places_of parts volumes) t) size (stands parts volumes t x) has in
        none x.packet (subst (λ (j : ℕ). x.packet < (nth_volume volumes j).count) at.0 x.in_packets) at.1.0 at.1.1)
        ∙ ap (λ (xs : List ℕ). get_or xs b 0) (was i low)

    -- bytes beside all recovery slices
    outside : (i a n : ℕ) → i < length volumes → ((k b : ℕ) → k < (nth_volume volumes i).count → a ≤ b → b < a + n → length_with parts k + 68 ≤ b → b < length_with parts k + (68 + parts.slice) → ⊥)
        → take n (drop a (list_at new i)) ≡ take n (drop a (volume_with parts zeros (nth_volume volumes i)))
    outside i a n low away =
        let blank = volume_with parts zeros (nth_volume volumes i) in
        let size : length (list_at new i) ≡ length blank = written.sizes i ∙ ap length (was i low) in
        ext_get_or 0 (take n (drop a (list_at new i))) (take n (drop a blank)) (grind (arith, common_steps, size)) (λ j here.
        let short : j < n = omega (arith, length-take n (drop a (list_at new i)), here) in
        get_or-take n (drop a (list_at new i)) j 0 short ∙ get_or-drop a (list_at new i) j 0 ∙ kept i (a + j) low (λ k inside. away k (a + j) inside (omega arith) (omega (arith, short)))
        ∙ sym (get_or-drop a blank j 0) ∙ sym (get_or-take n (drop a blank) j 0 short))

    packet : (i k : ℕ) → i < length volumes → k < (nth_volume volumes i).count
        → take (68 + parts.slice) (drop (length_with parts k) (list_at new i)) ≡ undigested parts.set_id ((nth_volume volumes i).first + k) (slice_of parts ((nth_volume volumes i).first + k))
    packet i k low here =
        let volume = nth_volume volumes i in
        let e : ℕ = volume.first + k in
        let number = numbered parts volumes i k low here in
        let head : take 68 (drop (length_with parts k) (list_at new i)) ≡ head_of parts.set_id e parts.slice =
        outside i (length_with parts k) 68 low (λ l b _ from to l_low l_high.
        let same : l ≡ k = same_packet (68 + parts.slice) (length parts.index.items) l k b (omega (arith, l_low)) l_high from (omega (arith, to)) in
        let place : l * (68 + parts.slice) ≡ k * (68 + parts.slice) = ap (λ n. n * (68 + parts.slice)) same in
        omega (arith, place, l_low, to))
        ∙ (in_volume parts zeros volume k zeros_size here).0 in
        let slice : take parts.slice (drop (length_with parts k + 68) (list_at new i)) ≡ slice_of parts e =
        ap (λ n. take n (drop (length_with parts k + 68) (list_at new i))) (sym size) ∙ ap (λ (at : Place). output_at (2 * words) at new) (sym number.place) ∙ written.each (before volumes i + k) number.low
        ∙ ap (λ n. recovery n (map (padded n) slices) (get_or exponents (before volumes i + k) 0)) size
        ∙ ap₂ (λ (xs : List (List ℕ)) (e : ℕ). recovery parts.slice xs e) inputs (ap (λ (es : List ℕ). get_or es (before volumes i + k) 0) numbers ∙ number.exponent) in
        take_both (length_with parts k) 68 parts.slice (list_at new i) ∙ ap₂ (λ (a b : List ℕ). a ++ b) head slice
        ∙ ap (λ n. head_of parts.set_id e n ++ slice_of parts e) (sym (slice_size e)) ∙ sym (undigested_is parts.set_id e (slice_of parts e))

    one : (i : ℕ) → i < length volumes → list_at new i ≡ volume_with parts (slice_of parts) (nth_volume volumes i)
    one i low =
        let volume = nth_volume volumes i in
        let index : List ℕ = parts.index.items in
        let long : length (list_at new i) ≡ length_with parts volume.count = written.sizes i ∙ ap length (was i low) ∙ length-volume parts zeros volume zeros_size in
        let front : take (length index) (list_at new i) ≡ index = outside i 0 (length index) low (λ k b _ _ to k_low _. omega (arith, to, k_low)) ∙ take_at index _ (length index) refl in
        sym (take-append-drop (length index) (list_at new i))
        ∙ ap₂ (λ (a b : List ℕ). a ++ b) front
        (from_pieces (68 + parts.slice) (λ e. undigested parts.set_id e (slice_of parts e)) volume.first volume.count (drop (length index) (list_at new i)) (omega (arith, length-drop (length index) (list_at new i), long))
        (λ k here. ap (take (68 + parts.slice)) (drop-drop (k * (68 + parts.slice)) (length index) (list_at new i)) ∙ packet i k low here))

-- The changes that write the outputs are those of the create.

-- the changes that write the outputs, by their parts
abbrev pub written : Folder → List ℕ → List ℕ → List ℕ → ℕ → List (List ℕ) → List Volume → List Change
written folder base index id s buffers volumes =
    put_change folder (base, index)
    ∷ map (λ volume. put_change folder (volume.name, index ++ flat_map packet (recovery_packets s id buffers volume.first volume.count))) volumes

-- files with the same front
alike : {N P V C : Type 0} (put : File → C) (bytes : P → List ℕ) (base : List ℕ) (front : List P) (name : V → List ℕ) (rest : V → List P) (at : N → V) (numbers : List N)
    → put (base, flat_map bytes front) ∷ map (λ v. put (name v, flat_map bytes front ++ flat_map bytes (rest v))) (map at numbers)
    ≡ map put ((base, flat_map bytes front) ∷ map (λ n. (name (at n), flat_map bytes (front ++ rest (at n)))) numbers)
alike put bytes base front name rest at numbers = simp (map-map, flat_map-append)

pub create_written : (folder : Folder) (a : CreateArgs)
    → let ordered = in_id_order (files_of folder a.inputs) in
    let records = map (record_of a.slice) ordered in
    written folder a.base (flat_map packet (index_packets a.slice records)) (main_id a.slice records) a.slice (all_slices a.slice ordered)
    (volumes_of a.base a.first a.count)
    ≡ create_changes folder a
unfolding volumes
create_written folder a =
    let ordered = in_id_order (files_of folder a.inputs) in
    let records = map (record_of a.slice) ordered in
    alike (put_change folder) packet a.base (index_packets a.slice records) (λ (v : Volume). v.name) (λ v. recovery_packets a.slice (main_id a.slice records) (all_slices a.slice ordered) v.first v.count)
    (volume_at a.base a.first a.count) (volume_numbers a.count)
