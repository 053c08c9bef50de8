-- A packet as it is written, part by part.
use Rattle.par2_packets.proofs.Common.{◌≡◌, ℕ, ◌+◌, List, [], ◌++◌, length, ap, ◌∙◌, append_assoc, arith, length-append, w64, to_le_bytes, md5, magic, type_of, packet, OnOk, Result, Ok, Err, is_ok, if◌then◌else◌, ◌≢◌, zero, suc, ◌*◌, ◌<◌, ◌≤◌, ◌∷◌, take, drop, inl, inr, refl, sym, ap₂, subst, mul-le-mul_right, flat_map, range_with_len, cases_lt, cond_below, cond_above, take-append-le, drop-append-le, take_at, length-take-le, length-drop, flat_map_more, bytes_at, range-append, overwritten, ArePieces, changed_below, ◌-◌, replicate, append-nil, w32, length-replicate, drop-drop, drop-take, digest_input, recovery_packet, digested, digest_put, AreDigested, undigested, packet_of, Kind, Recovery, length-md5}

pub regrouped : (bytes m l d s k a b : List ℕ)
    → (((bytes ++ (m ++ (l ++ []))) ++ (d ++ (s ++ (k ++ [])))) ++ a) ++ b ≡ bytes ++ (m ++ l ++ d ++ (s ++ k ++ (a ++ b)))
regrouped bytes m l d s k a b = simp (append-nil, append_assoc)

-- the buffer after a last append
pub appended : {T E : Type 0} (r : Result T E) (new old more wanted : List ℕ) → new ≡ (if is_ok r then old ++ more else old) → old ++ more ≡ wanted → OnOk r (new ≡ wanted)
appended (Ok x) new old more wanted is e = is ∙ e
appended (Err x) new old more wanted is e = tt

-- the buffer with the parts appended is the buffer with the packet appended
pub packet_in_parts : (bytes s a b : List ℕ) (kind : Kind)
    → (((bytes ++ (magic ++ (to_le_bytes w64 (64 + length a + length b) ++ []))) ++ (md5 (((s ++ type_of kind) ++ a) ++ b) ++ (s ++ (type_of kind ++ [])))) ++ a) ++ b
    ≡ bytes ++ packet (packet_of s kind (a ++ b))
unfolding packet
packet_in_parts bytes s a b kind =
    let size : 64 + length a + length b ≡ 64 + length (a ++ b) = omega (arith, length-append a b) in
    let whole : ((s ++ type_of kind) ++ a) ++ b ≡ s ++ type_of kind ++ (a ++ b) = append_assoc (s ++ type_of kind) a b in
    regrouped bytes magic (to_le_bytes w64 (64 + length a + length b)) (md5 (((s ++ type_of kind) ++ a) ++ b)) s (type_of kind) a b
    ∙ ap (λ (n : ℕ). bytes ++ (magic ++ to_le_bytes w64 n ++ md5 (((s ++ type_of kind) ++ a) ++ b) ++ (s ++ type_of kind ++ (a ++ b)))) size
    ∙ ap (λ (x : List ℕ). bytes ++ (magic ++ to_le_bytes w64 (64 + length (a ++ b)) ++ md5 x ++ (s ++ type_of kind ++ (a ++ b)))) whole

-- Pieces of equal length, one after the other: the bytes of each, and writes into one.

-- ---- writes into one of two buffers

take_behind : (a n : ℕ) (xs ys : List ℕ) → a ≡ length xs + n → take a (xs ++ ys) ≡ xs ++ take n ys
take_behind a n [] ys e = ap (λ k. take k ys) (let f : a ≡ n = omega (arith, e) in f)
take_behind zero n (x ∷ xs) ys e = absurd (omega (arith, e))
take_behind (suc a) n (x ∷ xs) ys e = ap (λ zs. x ∷ zs) (take_behind a n xs ys (omega (arith, e)))

pub drop_behind : (a n : ℕ) (xs ys : List ℕ) → a ≡ length xs + n → drop a (xs ++ ys) ≡ drop n ys
drop_behind a n [] ys e = ap (λ k. drop k ys) (let f : a ≡ n = omega (arith, e) in f)
drop_behind zero n (x ∷ xs) ys e = absurd (omega (arith, e))
drop_behind (suc a) n (x ∷ xs) ys e = drop_behind a n xs ys (omega (arith, e))

pub overwritten_front : (at : ℕ) (bytes xs ys : List ℕ) → at + length bytes ≤ length xs → overwritten at bytes (xs ++ ys) ≡ overwritten at bytes xs ++ ys
overwritten_front at bytes xs ys fits =
    ap₂ (λ (a b : List ℕ). a ++ bytes ++ b) (take-append-le at xs ys (omega (arith, fits))) (drop-append-le (at + length bytes) xs ys fits)
    ∙ sym (append_assoc (take at xs ++ bytes) (drop (at + length bytes) xs) ys)

pub overwritten_behind : (place at : ℕ) (bytes xs ys : List ℕ) → place ≡ length xs + at → overwritten place bytes (xs ++ ys) ≡ xs ++ overwritten at bytes ys
overwritten_behind place at bytes xs ys e =
    ap₂ (λ (a b : List ℕ). a ++ bytes ++ b) (take_behind place at xs ys e) (drop_behind (place + length bytes) (at + length bytes) xs ys (omega (arith, e)))
    ∙ append_assoc (xs ++ take at ys) bytes (drop (at + length bytes) ys) ∙ append_assoc xs (take at ys) (bytes ++ drop (at + length bytes) ys)
    ∙ ap (λ zs. xs ++ zs) (sym (append_assoc (take at ys) bytes (drop (at + length bytes) ys)))

-- ---- pieces

pub length-pieces : (m : ℕ) (f : ℕ → List ℕ) → ((k : ℕ) → length (f k) ≡ m) → (e n : ℕ) → length (flat_map f (range_with_len e n)) ≡ n * m
length-pieces m f sizes e zero = let none : 0 ≡ 0 * m = omega arith in none
length-pieces m f sizes e (suc n) =
    let rest = length-pieces m f sizes (e + 1) n in
    let here = sizes e in
    length-append (f e) (flat_map f (range_with_len (e + 1) n)) ∙ omega (arith, rest, here)

pub pieces_same : (f g : ℕ → List ℕ) (e n : ℕ) → ((k : ℕ) → e ≤ k → k < e + n → f k ≡ g k) → flat_map f (range_with_len e n) ≡ flat_map g (range_with_len e n)
pieces_same f g e zero same = refl
pieces_same f g e (suc n) same =
    ap₂ (λ (a b : List ℕ). a ++ b) (same e (omega arith) (omega arith)) (pieces_same f g (e + 1) n (λ k low high. same k (omega (arith, low)) (omega (arith, high))))

-- a write into one piece changes only this piece
written_into : (m : ℕ) (f g : ℕ → List ℕ) → ((k : ℕ) → length (f k) ≡ m) → (at : ℕ) (bytes : List ℕ) → at + length bytes ≤ m
    → (e n k j place : ℕ) → k < n → j ≡ e + k → place ≡ k * m + at → overwritten at bytes (f j) ≡ g j → ((i : ℕ) → i ≢ j → f i ≡ g i)
    → overwritten place bytes (flat_map f (range_with_len e n)) ≡ flat_map g (range_with_len e n)
written_into m f g sizes at bytes fits e zero k j place low is there here others = absurd (omega (arith, low))
written_into m f g sizes at bytes fits e (suc n) zero j place low is there here others =
    let same : j ≡ e = omega (arith, is) in
    let room = sizes e in
    ap (λ p. overwritten p bytes (f e ++ flat_map f (range_with_len (e + 1) n))) (let q : place ≡ at = omega (arith, there) in q)
    ∙ overwritten_front at bytes (f e) (flat_map f (range_with_len (e + 1) n)) (omega (arith, room, fits))
    ∙ ap₂ (λ (a b : List ℕ). a ++ b) (subst (λ i. overwritten at bytes (f i) ≡ g i) same here)
    (pieces_same f g (e + 1) n (λ i above _. others i (λ x. omega (arith, above, x, same))))
written_into m f g sizes at bytes fits e (suc n) (suc k) j place low is there here others =
    let first = sizes e in
    overwritten_behind place (k * m + at) bytes (f e) (flat_map f (range_with_len (e + 1) n)) (omega (arith, there, first))
    ∙ ap₂ (λ (a b : List ℕ). a ++ b) (others e (λ x. omega (arith, is, x)))
    (written_into m f g sizes at bytes fits (e + 1) n k j (k * m + at) (omega (arith, low)) (omega (arith, is)) refl here others)

pub length-overwritten : (at : ℕ) (bytes content : List ℕ) → at + length bytes ≤ length content → length (overwritten at bytes content) ≡ length content
length-overwritten at bytes content fits =
    let front = length-take-le at content (omega (arith, fits)) in
    let rest = length-drop (at + length bytes) content in
    length-append (take at content ++ bytes) (drop (at + length bytes) content) ∙ (let a = length-append (take at content) bytes in omega (arith, a, front, rest, fits))

-- the bytes of a piece
piece_from : (m : ℕ) (f : ℕ → List ℕ) → ((k : ℕ) → length (f k) ≡ m) → (e n k j place : ℕ) → k < n → j ≡ e + k → place ≡ k * m → take m (drop place (flat_map f (range_with_len e n))) ≡ f j
piece_from m f sizes e zero k j place low is there = absurd (omega (arith, low))
piece_from m f sizes e (suc n) zero j place low is there =
    ap (λ p. take m (drop p (f e ++ flat_map f (range_with_len (e + 1) n)))) (let q : place ≡ 0 = omega (arith, there) in q)
    ∙ take_at (f e) (flat_map f (range_with_len (e + 1) n)) m (sizes e) ∙ ap f (let q : e ≡ j = omega (arith, is) in q)
piece_from m f sizes e (suc n) (suc k) j place low is there =
    let first = sizes e in
    ap (take m) (drop_behind place (k * m) (f e) (flat_map f (range_with_len (e + 1) n)) (omega (arith, there, first)))
    ∙ piece_from m f sizes (e + 1) n k j (k * m) (omega (arith, low)) (omega (arith, is)) refl

pub piece_at : (m : ℕ) (f : ℕ → List ℕ) (e n k : ℕ) (bytes : List ℕ) → ArePieces m f e n bytes → k < n → bytes_at (k * m) m bytes ≡ f (e + k)
piece_at m f e n k bytes pieces low = ap (λ (t : List ℕ). bytes_at (k * m) m t) pieces.is ∙ piece_from m f pieces.sizes e n k (e + k) (k * m) low refl refl

pub same_pieces : (m : ℕ) (f g : ℕ → List ℕ) (e n : ℕ) (bytes : List ℕ) → ((k : ℕ) → f k ≡ g k) → ArePieces m f e n bytes → ArePieces m g e n bytes
same_pieces m f g e n bytes same pieces = record {
  sizes = λ k. ap length (sym (same k)) ∙ pieces.sizes k;
  is = pieces.is ∙ pieces_same f g e n (λ k _ _. same k);
}

-- one more piece, after others
pub piece_more : (f : ℕ → List ℕ) (e k : ℕ) (bytes out new : List ℕ) → out ≡ bytes ++ flat_map f (range_with_len e k) → new ≡ out ++ f (e + k) → new ≡ bytes ++ flat_map f (range_with_len e (k + 1))
piece_more f e k bytes out new so_far is =
    is ∙ ap (λ (xs : List ℕ). xs ++ f (e + k)) so_far ∙ flat_map_more f bytes (range_with_len e k) (e + k)
    ∙ ap (λ (ks : List ℕ). bytes ++ flat_map f ks) (sym (range-append e k 1))

-- ---- pieces that are changed one after the other

pub below : (b : ℕ) (g f : ℕ → List ℕ) (k : ℕ) → k < b → changed_below b g f k ≡ g k
below b g f k low = sym (cond_below k b (g k) (f k) low)

pub from_on : (b : ℕ) (g f : ℕ → List ℕ) (k : ℕ) → b ≤ k → changed_below b g f k ≡ f k
from_on b g f k high = sym (cond_above k b (g k) (f k) (f k) high refl)

changed_sizes : (m b : ℕ) (g f : ℕ → List ℕ) → ((k : ℕ) → length (g k) ≡ m) → ((k : ℕ) → length (f k) ≡ m) → (k : ℕ) → length (changed_below b g f k) ≡ m
changed_sizes m b g f gs fs k = elim (cases_lt k b) [
  | inl low ↦ ap length (below b g f k low) ∙ gs k
  | inr high ↦ ap length (from_on b g f k high) ∙ fs k
]

pub none_changed : (m : ℕ) (g f : ℕ → List ℕ) (e n : ℕ) (bytes : List ℕ) → ((k : ℕ) → length (g k) ≡ m) → ArePieces m f e n bytes → ArePieces m (changed_below e g f) e n bytes
none_changed m g f e n bytes sizes pieces = record {
  sizes = changed_sizes m e g f sizes pieces.sizes;
  is = pieces.is ∙ pieces_same f (changed_below e g f) e n (λ k low _. sym (from_on e g f k low));
}

pub all_changed : (m : ℕ) (g f : ℕ → List ℕ) (e n : ℕ) (bytes : List ℕ) → ((k : ℕ) → length (g k) ≡ m) → ArePieces m (changed_below (e + n) g f) e n bytes → ArePieces m g e n bytes
all_changed m g f e n bytes sizes pieces = record {
  sizes = sizes;
  is = pieces.is ∙ pieces_same (changed_below (e + n) g f) g e n (λ k _ high. below (e + n) g f k high);
}

-- one more piece is changed, by a write into it
pub next_changed : (m : ℕ) (g f : ℕ → List ℕ) (e n k at place : ℕ) (bytes content : List ℕ) → ((i : ℕ) → length (g i) ≡ m) → ((i : ℕ) → length (f i) ≡ m)
    → k < n → place ≡ k * m + at → at + length bytes ≤ m → overwritten at bytes (f (e + k)) ≡ g (e + k)
    → ArePieces m (changed_below (e + k) g f) e n content → ArePieces m (changed_below (e + (k + 1)) g f) e n (overwritten place bytes content)
next_changed m g f e n k at place bytes content gs fs low there fits here pieces = record {
  sizes = changed_sizes m (e + (k + 1)) g f gs fs;
  is =
      ap (overwritten place bytes) pieces.is
      ∙ written_into m (changed_below (e + k) g f) (changed_below (e + (k + 1)) g f) pieces.sizes at bytes fits e n k (e + k) place low refl there
      (ap (overwritten at bytes) (from_on (e + k) g f (e + k) (omega arith)) ∙ here ∙ sym (below (e + (k + 1)) g f (e + k) (omega arith)))
      (λ i other. elim (cases_lt i (e + k)) [
        | inl before ↦ below (e + k) g f i before ∙ sym (below (e + (k + 1)) g f i (omega (arith, before)))
        | inr after ↦ from_on (e + k) g f i after ∙ sym (from_on (e + (k + 1)) g f i (apart i after other))
      ]);
}
  where
    apart : (i : ℕ) → e + k ≤ i → i ≢ e + k → e + (k + 1) ≤ i
    apart i after other = omega (arith, after, other)

-- ---- some of the pieces

-- Recovery packets whose MD5s are filled in later, and the bytes before their slices.

-- the buffer with the parts appended is the buffer with the packet appended
pub undigested_in_parts : (bytes id : List ℕ) (e size : ℕ) (b c d out : List ℕ) → b ≡ bytes ++ (magic ++ (to_le_bytes w64 (68 + size) ++ []))
    → c ≡ b ++ (replicate 16 0 ++ (id ++ (type_of Recovery ++ []))) → d ≡ c ++ to_le_bytes w32 e → out ≡ d ++ replicate size 0
    → out ≡ bytes ++ undigested id e (replicate size 0)
unfolding undigested
undigested_in_parts bytes id e size b c d out is_b is_c is_d is =
    let zeros : List ℕ = replicate size 0 in
    let claim = to_le_bytes w64 (68 + size) in
    let after = λ (xs : List ℕ). ((xs ++ (replicate 16 0 ++ (id ++ (type_of Recovery ++ [])))) ++ to_le_bytes w32 e) ++ zeros in
    is ∙ ap (λ (xs : List ℕ). xs ++ zeros) (is_d ∙ ap (λ (xs : List ℕ). xs ++ to_le_bytes w32 e) is_c) ∙ ap after is_b
    ∙ regrouped bytes magic claim (replicate 16 0) id (type_of Recovery) (to_le_bytes w32 e) zeros
    ∙ ap (λ (n : ℕ). bytes ++ (magic ++ to_le_bytes w64 (68 + n) ++ replicate 16 0 ++ (id ++ type_of Recovery ++ (to_le_bytes w32 e ++ zeros)))) (sym (length-replicate {A = ℕ} size 0))

pub length-undigested : (id : List ℕ) (e : ℕ) (slice : List ℕ) → length id ≡ 16 → length (undigested id e slice) ≡ 68 + length slice
unfolding undigested
length-undigested id e slice sixteen =
    let input : length (digest_input (recovery_packet id e slice)) ≡ 36 + length slice =
    length-append (id ++ type_of Recovery) (to_le_bytes w32 e ++ slice)
    ∙ (let a = length-append id (type_of Recovery) in let b = length-append (to_le_bytes w32 e) slice in omega (arith, sixteen, a, b)) in
    length-append (magic ++ to_le_bytes w64 (68 + length slice) ++ replicate 16 0) (digest_input (recovery_packet id e slice)) ∙ omega (arith, input)

-- with its MD5 filled in it is the packet
pub digest_put_into : (id : List ℕ) (e : ℕ) (slice : List ℕ) → digest_put (undigested id e slice) ≡ digested id e slice
unfolding undigested packet
digest_put_into id e slice =
    let input = digest_input (recovery_packet id e slice) in
    let front = magic ++ to_le_bytes w64 (68 + length slice) in
    let zeros : List ℕ = replicate 16 0 in
    let size : 68 + length slice ≡ 64 + length (to_le_bytes w32 e ++ slice) = omega (arith, length-append (to_le_bytes w32 e) slice) in
    let behind : drop 32 ((front ++ zeros) ++ input) ≡ input = drop_behind 32 0 (front ++ zeros) input (omega arith) in
    let d = md5 input in
    let sixteen = length-md5 input in
    ap (λ (xs : List ℕ). overwritten 16 (md5 xs) ((front ++ zeros) ++ input)) behind
    ∙ overwritten_front 16 d (front ++ zeros) input (omega (arith, sixteen))
    ∙ ap (λ (xs : List ℕ). xs ++ input) (overwritten_behind 16 0 d front zeros (omega arith) ∙ ap (λ (xs : List ℕ). front ++ xs) (whole d sixteen))
    ∙ ap (λ n. (magic ++ to_le_bytes w64 n) ++ d ++ input) size
  where
    -- sixteen bytes over sixteen others
    whole : (d : List ℕ) → length d ≡ 16 → overwritten 0 d (replicate 16 0) ≡ d
    whole d e = ap (λ n. d ++ drop n (replicate 16 0)) (let f : 0 + length d ≡ 16 = omega (arith, e) in f) ∙ append-nil d

-- the bytes after the first ones of a packet in a buffer
pub part_from : (k m at : ℕ) (bytes : List ℕ) → at ≤ m → take ((k + 1) * m - (k * m + at)) (drop (k * m + at) bytes) ≡ drop at (take m (drop (k * m) bytes))
part_from k m at bytes within =
    ap₂ (λ (n : ℕ) (xs : List ℕ). take n xs) (let e : (k + 1) * m - (k * m + at) ≡ m - at = omega arith in e) (sym (drop-drop at (k * m) bytes))
    ∙ sym (drop-take at (m - at) (drop (k * m) bytes)) ∙ ap (λ n. drop at (take n (drop (k * m) bytes))) (let e : at + (m - at) ≡ m = omega (arith, within) in e)

-- ---- MD5s that are filled in one after the other

put_sizes : (m : ℕ) (packet : ℕ → List ℕ) → 32 ≤ m → ((k : ℕ) → length (packet k) ≡ m) → (k : ℕ) → length (digest_put (packet k)) ≡ m
put_sizes m packet head sizes k =
    let whole = sizes k in
    let sixteen = length-md5 (drop 32 (packet k)) in
    length-overwritten 16 (md5 (drop 32 (packet k))) (packet k) (omega (arith, whole, sixteen, head)) ∙ whole

pub digested_next : (m first k : ℕ) (old now new d : List ℕ) → 32 ≤ m → AreDigested m first (first + k) old now → d ≡ md5 (drop 32 (bytes_at ((first + k) * m) m old))
    → new ≡ overwritten ((first + k) * m + 16) d now → AreDigested m first (first + (k + 1)) old new
digested_next m first k old now new d head so_far is written packet e n sizes within pieces =
    let put = λ (i : ℕ). digest_put (packet i) in
    let j : ℕ = first + k in
    let low : j < n = omega (arith, within) in
    let here : bytes_at (j * m) m old ≡ packet (e + j) = piece_at m (changed_below (e + first) put packet) e n j old pieces low ∙ from_on (e + first) put packet (e + j) (omega arith) in
    let its : d ≡ md5 (drop 32 (packet (e + j))) = is ∙ ap (λ (xs : List ℕ). md5 (drop 32 xs)) here in
    let sixteen : length d ≡ 16 = ap length its ∙ length-md5 (drop 32 (packet (e + j))) in
    let next : j + 1 ≡ first + (k + 1) = omega arith in
    subst (λ b. ArePieces m (changed_below (e + b) put packet) e n new) next
    (subst (λ (bytes : List ℕ). ArePieces m (changed_below (e + (j + 1)) put packet) e n bytes) (sym written)
    (next_changed m put packet e n j 16 (j * m + 16) d now (put_sizes m packet head sizes) sizes low refl (omega (arith, sixteen, head))
    (ap (λ (xs : List ℕ). overwritten 16 xs (packet (e + j))) its) (so_far packet e n sizes (omega (arith, within)) pieces)))

pub digested_further : (m a b from to : ℕ) (old now new : List ℕ) → AreDigested m 0 a old now → AreDigested m from to now new → a ≡ from → to ≡ b → a ≤ b → AreDigested m 0 b old new
digested_further m a b from to old now new so_far more here next order packet e n sizes within pieces =
    let put = λ (i : ℕ). digest_put (packet i) in
    subst (λ x. ArePieces m (changed_below (e + x) put packet) e n new) next
    (more packet e n sizes (omega (arith, within, next))
    (subst (λ x. ArePieces m (changed_below (e + x) put packet) e n now) here (so_far packet e n sizes (omega (arith, within, order)) pieces)))

pub all_digested : (m n : ℕ) (old new : List ℕ) → 32 ≤ m → AreDigested m 0 n old new → (id : List ℕ) (first : ℕ) (slice : ℕ → List ℕ)
    → ArePieces m (λ e. undigested id e (slice e)) first n old → ArePieces m (λ e. digested id e (slice e)) first n new
all_digested m n old new head done id first slice pieces =
    let packet = λ (e : ℕ). undigested id e (slice e) in
    let put = λ (i : ℕ). digest_put (packet i) in
    let sizes = put_sizes m packet head pieces.sizes in
    let start : first ≡ first + 0 = omega arith in
    same_pieces m put (λ (e : ℕ). digested id e (slice e)) first n new (λ e. digest_put_into id e (slice e))
    (all_changed m put packet first n new sizes
    (done packet first n pieces.sizes (omega arith)
    (subst (λ b. ArePieces m (changed_below b put packet) first n old) start (none_changed m put packet first n old sizes pieces))))

-- ---- the bytes before a packet's slice

-- the bytes of a packet before its slice, which has `size` bytes
abbrev pub head_of : (id : List ℕ) (e size : ℕ) → List ℕ
head_of id e size = (magic ++ to_le_bytes w64 (68 + size) ++ replicate 16 0) ++ ((id ++ type_of Recovery) ++ to_le_bytes w32 e)

pub undigested_is : (id : List ℕ) (e : ℕ) (slice : List ℕ) → undigested id e slice ≡ head_of id e (length slice) ++ slice
unfolding undigested
undigested_is id e slice =
    let front : List ℕ = magic ++ to_le_bytes w64 (68 + length slice) ++ replicate 16 0 in
    let input : List ℕ = id ++ type_of Recovery in
    ap (λ (xs : List ℕ). front ++ xs) (sym (append_assoc input (to_le_bytes w32 e) slice)) ∙ sym (append_assoc front (input ++ to_le_bytes w32 e) slice)

pub length-head : (id : List ℕ) (e size : ℕ) → length id ≡ 16 → length (head_of id e size) ≡ 68
length-head id e size sixteen =
    let input : List ℕ = id ++ type_of Recovery in
    length-append (magic ++ to_le_bytes w64 (68 + size) ++ replicate 16 0) (input ++ to_le_bytes w32 e)
    ∙ (let a = length-append input (to_le_bytes w32 e) in let b = length-append id (type_of Recovery) in omega (arith, a, b, sixteen))
