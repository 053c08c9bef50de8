-- Scanning bytes from packet to packet.
use Rattle.par2_packets.proofs.Common.{◌≡◌, ℕ, zero, suc, ◌-◌, ◌+◌, ◌≤◌, ◌<◌, ◌%◌, true, false, leb, eqb, List, [], ◌∷◌, length, drop, refl, sym, ap, subst, ◌∙◌, arith, bytes_eq, leb-true, and_parts, false_from_ne_true, length-take-le, length-drop, drop-drop, bytes_eq-Decides, md5, Packet, bytes_at, magic, claimed_length, accepted, begins_with_packet, first_packet, accepted_after, ◌*◌, ◌/◌, Some, take, map, slice_get, range_with_len, length-map, take-take, drop-take, length-map-range_with_len, get_or-map-range_with_len, w32, from_le_bytes, MainBody, IfscBody, items_at, u32_at, Pair, ext_get_or, get_or-map, get_or_default, ◌≢◌, get_or, w128, AllPairs, AllAdjacentBelow, IsDistinct, all_adjacent_more, IsPermutation-map, IsPermutation-sym, drop-length, slice_get-get_or, slice_get-map, option_map, IsNonDecreasingBy, IsStrictlyIncreasing, IsPermutation, AllPairs-from_increasing, IsDistinct-IsPermutation, AllPairs-from_IsDistinct, IsDistinct-from_AllPairs, OccursAt, NoneBefore, Nowhere, OccursAt-from_part, accepted-none, in_front, main_said, ifsc_said, same_either_way}

-- ---- a packet is at the front

-- the magic of a packet, and its claimed length
pub begun : (bytes : List ℕ) → begins_with_packet bytes ≡ true → (bytes_at 0 8 bytes ≡ magic) × (64 ≤ claimed_length bytes) × (claimed_length bytes ≤ length bytes)
unfolding begins_with_packet
begun bytes h =
    let whole = and_parts _ (bytes_eq (md5 (bytes_at 32 (claimed_length bytes - 32) bytes)) (bytes_at 16 16 bytes)) h in
    let high = and_parts _ (leb (claimed_length bytes) (length bytes)) whole.0 in
    let low = and_parts _ (leb 64 (claimed_length bytes)) high.0 in
    let start = and_parts (leb 64 (length bytes)) (bytes_eq (bytes_at 0 8 bytes) magic) (and_parts _ (eqb (claimed_length bytes % 4) 0) low.0).0 in
    ((bytes_eq-Decides (bytes_at 0 8 bytes) magic).0 start.1, leb-true 64 (claimed_length bytes) low.1, leb-true (claimed_length bytes) (length bytes) high.1)

pub body_length : (bytes : List ℕ) (p : Packet) → begins_with_packet bytes ≡ true → p ≡ first_packet bytes → 64 + length p.body ≡ claimed_length bytes
unfolding first_packet
body_length bytes p h e =
    let b = begun bytes h in
    let same : length p.body ≡ length (bytes_at 64 (claimed_length bytes - 64) bytes) = ap (λ (q : Packet). length q.body) e in
    let room : claimed_length bytes - 64 ≤ length (drop 64 bytes) = omega (arith, length-drop 64 bytes, b.1, b.2) in
    let size : length (bytes_at 64 (claimed_length bytes - 64) bytes) ≡ claimed_length bytes - 64 = length-take-le (claimed_length bytes - 64) (drop 64 bytes) room in
    omega (arith, same, size, b.1)

pub found : (bytes : List ℕ) (p : Packet) (after : List ℕ) → begins_with_packet bytes ≡ true → p ≡ first_packet bytes → after ≡ drop (64 + length p.body) bytes → accepted bytes ≡ p ∷ accepted after
found bytes p after h e a =
    let b = begun bytes h in
    let rest : drop (claimed_length bytes) bytes ≡ after = ap (λ (n : ℕ). drop n bytes) (sym (body_length bytes p h e)) ∙ sym a in
    in_front bytes h ∙ ap (λ (q : Packet). q ∷ accepted (drop (claimed_length bytes) bytes)) (sym e) ∙ ap (λ (t : List ℕ). p ∷ accepted t) rest

-- ---- no packet is at the front

-- the bytes from the next one on have the same packets
step : (bytes : List ℕ) → begins_with_packet bytes ≡ false → accepted (drop 1 bytes) ≡ accepted bytes
step [] h = refl
step (b ∷ bytes) h = sym (accepted-none b bytes h)

pub not_here : (bytes others : List ℕ) → begins_with_packet bytes ≡ false → others ≡ drop 1 bytes → accepted others ≡ accepted bytes
not_here bytes others h e = ap accepted e ∙ step bytes h

magic_there : (bytes : List ℕ) (k : ℕ) → begins_with_packet (drop k bytes) ≡ true → OccursAt bytes magic k
magic_there bytes k h =
    let here = begun (drop k bytes) h in
    OccursAt-from_part bytes magic k (omega (arith, here.1, here.2, length-drop k bytes)) here.0

none_there : (bytes : List ℕ) (k : ℕ) → ¬ OccursAt bytes magic k → begins_with_packet (drop k bytes) ≡ false
none_there bytes k absent = false_from_ne_true (begins_with_packet (drop k bytes)) (λ there. absent (magic_there bytes k there))

-- there are no packets before the first magic
passed_over : (bytes : List ℕ) (k : ℕ) → ((j : ℕ) → 0 ≤ j → j < k → ¬ OccursAt bytes magic j) → accepted (drop k bytes) ≡ accepted bytes
passed_over bytes zero none = refl
passed_over bytes (suc k) none =
    let next : drop (suc k) bytes ≡ drop 1 (drop k bytes) = ap (λ (n : ℕ). drop n bytes) (let e : suc k ≡ k + 1 = omega arith in e) ∙ sym (drop-drop 1 k bytes) in
    ap accepted next ∙ step (drop k bytes) (none_there bytes k (none k (omega arith) (omega arith)))
    ∙ passed_over bytes k (λ j low below. none j low (omega (arith, below)))

-- the same, from the result of a search for the magic
pub passed_to : (bytes needle here : List ℕ) (k : ℕ) → needle ≡ magic → NoneBefore (OccursAt bytes needle) 0 (length bytes + 1) k → here ≡ drop k bytes → accepted here ≡ accepted bytes
passed_to bytes needle here k is first at =
    let before : Nowhere (OccursAt bytes magic) 0 k = subst (λ (n : List ℕ). Nowhere (OccursAt bytes n) 0 k) is first.before in
    ap accepted at ∙ passed_over bytes k before

-- a magic that a search found is within the bytes
pub magic_within : (bytes needle : List ℕ) (k : ℕ) → needle ≡ magic → OccursAt bytes needle k → k + 8 ≤ length bytes
magic_within bytes needle k is there =
    let size : length needle ≡ 8 = ap length is in
    omega (arith, size, there.fits)

-- bytes without the magic have no packets
pub nothing : (bytes needle : List ℕ) → needle ≡ magic → Nowhere (OccursAt bytes needle) 0 (length bytes + 1) → accepted bytes ≡ []
unfolding accepted_after
nothing bytes needle is none =
    let nowhere : Nowhere (OccursAt bytes magic) 0 (length bytes + 1) = subst (λ (n : List ℕ). Nowhere (OccursAt bytes n) 0 (length bytes + 1)) is none in
    sym (passed_over bytes (length bytes) (λ j low below. nowhere j low (omega (arith, below)))) ∙ ap accepted (drop-length bytes)

-- Items of one length, one after the other.

pub ids_count : (body : List ℕ) → length (main_said body).ids ≡ u32_at 8 body
ids_count body = length-map-range_with_len (λ k. bytes_at (12 + 16 * k) 16 body) 0 (u32_at 8 body)

pub pairs_count : (body : List ℕ) → length (ifsc_said body).pairs ≡ (length body - 16) / 20
pairs_count body =
    length-map (items_at 16 20 ((length body - 16) / 20) body) (λ item. let p : Pair = (take 16 item, u32_at 16 item) in p)
    ∙ length-map-range_with_len (λ k. bytes_at (16 + 20 * k) 20 body) 0 ((length body - 16) / 20)

at_range : {X : Type 0} (f : ℕ → X) (n k : ℕ) → k < n → slice_get (map f (range_with_len 0 n)) k ≡ Some (f k)
at_range f n k lt =
    slice_get-get_or (map f (range_with_len 0 n)) k (f 0) (let size : length (map f (range_with_len 0 n)) ≡ n = length-map-range_with_len f 0 n in omega arith)
    ∙ ap (λ x. Some x) (get_or-map-range_with_len f 0 n k k (f 0) lt (let e : 0 + k ≡ k = omega arith in e))

-- the parts of a pair of checksums, in place
pair_parts : (body : List ℕ) (o : ℕ) → (take 16 (bytes_at o 20 body) ≡ bytes_at o 16 body) × (u32_at 16 (bytes_at o 20 body) ≡ u32_at (o + 16) body)
unfolding u32_at
pair_parts body o =
    let rest : List ℕ = drop o body in
    let tail : bytes_at 16 4 (take 20 rest) ≡ bytes_at (o + 16) 4 body = ap (take 4) (drop-take 16 4 rest) ∙ take-take 4 4 (drop 16 rest) (omega arith) ∙ ap (take 4) (drop-drop 16 o body) in
    (take-take 16 20 rest (omega arith), ap (from_le_bytes w32) tail)

pair_there : (body : List ℕ) (k : ℕ) → k < (length body - 16) / 20
    → slice_get (ifsc_said body).pairs k ≡ Some (let p : Pair = (bytes_at (16 + 20 * k) 16 body, u32_at (16 + 20 * k + 16) body) in p)
pair_there body k lt =
    let n : ℕ = (length body - 16) / 20 in
    let parts = pair_parts body (16 + 20 * k) in
    slice_get-map (λ item. let p : Pair = (take 16 item, u32_at 16 item) in p) (items_at 16 20 n body) k
    ∙ ap (option_map (λ item. let p : Pair = (take 16 item, u32_at 16 item) in p)) (at_range (λ j. bytes_at (16 + 20 * j) 20 body) n k lt)
    ∙ ap (λ (x : List ℕ). Some (let p : Pair = (x, u32_at 16 (bytes_at (16 + 20 * k) 20 body)) in p)) parts.0
    ∙ ap (λ (x : ℕ). Some (let p : Pair = (bytes_at (16 + 20 * k) 16 body, x) in p)) parts.1

-- ---- the same for the view of a body

pub id_fits : (main : MainBody) (body : List ℕ) (k : ℕ) → main_said body ≡ main → 12 + 16 * u32_at 8 body ≤ length body → k < length main.ids → 12 + 16 * k + 16 ≤ length body
id_fits main body k is room lt =
    let size : length main.ids ≡ u32_at 8 body = ap (λ (m : MainBody). length m.ids) (sym is) ∙ ids_count body in
    omega (arith, size, room, lt)

pub id_of_view : (main : MainBody) (body : List ℕ) (k : ℕ) → main_said body ≡ main → k < length main.ids → slice_get main.ids k ≡ Some (bytes_at (12 + 16 * k) 16 body)
id_of_view main body k is lt =
    let size : length main.ids ≡ u32_at 8 body = ap (λ (m : MainBody). length m.ids) (sym is) ∙ ids_count body in
    ap (λ (m : MainBody). slice_get m.ids k) (sym is) ∙ at_range (λ j. bytes_at (12 + 16 * j) 16 body) (u32_at 8 body) k (omega (arith, size, lt))

pub pair_fits : (ifsc : IfscBody) (body : List ℕ) (k : ℕ) → ifsc_said body ≡ ifsc → 16 ≤ length body → k < length ifsc.pairs → 16 + 20 * k + 20 ≤ length body
pair_fits ifsc body k is room lt =
    let size : length ifsc.pairs ≡ (length body - 16) / 20 = ap (λ (i : IfscBody). length i.pairs) (sym is) ∙ pairs_count body in
    omega (arith, size, room, lt)

pub pair_of_view : (ifsc : IfscBody) (body : List ℕ) (k : ℕ) → ifsc_said body ≡ ifsc → k < length ifsc.pairs
    → slice_get ifsc.pairs k ≡ Some (let p : Pair = (bytes_at (16 + 20 * k) 16 body, u32_at (16 + 20 * k + 16) body) in p)
pair_of_view ifsc body k is lt =
    let size : length ifsc.pairs ≡ (length body - 16) / 20 = ap (λ (i : IfscBody). length i.pairs) (sym is) ∙ pairs_count body in
    ap (λ (i : IfscBody). slice_get i.pairs k) (sym is) ∙ pair_there body k (omega (arith, size, lt))

-- The order of identifiers by their numbers.

-- ---- sixteen bytes and their number

-- the little-endian number of n bytes
abbrev number : (ℕ → ℕ) → ℕ → ℕ
number bytes zero = 0
number bytes (suc n) = bytes 0 + 256 * number (λ k. bytes (suc k)) n

number_16 : (xs : List ℕ) → from_le_bytes w128 xs ≡ number (λ k. get_or xs k 0) 16
number_16 xs = omega arith

abbrev AreBytes : (ℕ → ℕ) → Type 0
AreBytes bytes = (k : ℕ) → bytes k < 256

same_parts : (a b m n : ℕ) → a < 256 → b < 256 → a + 256 * m ≡ b + 256 * n → (a ≡ b) × (m ≡ n)
same_parts a b m n a' b' is = (omega arith, omega arith)

same_bytes : (f g : ℕ → ℕ) (n : ℕ) → AreBytes f → AreBytes g → number f n ≡ number g n → (k : ℕ) → k < n → f k ≡ g k
same_bytes f g zero p q is k low = absurd (omega (arith, low))
same_bytes f g (suc n) p q is zero low = (same_parts (f 0) (g 0) _ _ (p 0) (q 0) is).0
same_bytes f g (suc n) p q is (suc k) low =
    same_bytes (λ i. f (suc i)) (λ i. g (suc i)) n (λ i. p (suc i)) (λ i. q (suc i)) (same_parts (f 0) (g 0) _ _ (p 0) (q 0) is).1 k (omega (arith, low))

-- identifiers with one number are equal
pub same_ids : (xs ys : List ℕ) → length xs ≡ 16 → length ys ≡ 16 → AreBytes (λ k. get_or xs k 0) → AreBytes (λ k. get_or ys k 0) → from_le_bytes w128 xs ≡ from_le_bytes w128 ys → xs ≡ ys
same_ids xs ys l m p q is =
    ext_get_or 0 xs ys (l ∙ sym m) (λ k low. same_bytes (λ i. get_or xs i 0) (λ i. get_or ys i 0) 16 p q (sym (number_16 xs) ∙ is ∙ number_16 ys) k (omega (arith, low, l)))

-- ---- a sorted list without equal neighbours increases strictly

pub rises_more : {X : Type 0} (n : X → ℕ) (xs : List X) (i : ℕ) (a b : X) → 0 < i → i < length xs → IsNonDecreasingBy n xs
    → AllAdjacentBelow (λ x y. n x < n y) xs i → a ≡ get_or xs (i - 1) a → b ≡ get_or xs i b → n a ≢ n b → AllAdjacentBelow (λ x y. n x < n y) xs (i + 1)
rises_more n xs i a b above within up inv at_a at_b differ =
    all_adjacent_more xs (λ x y. n x < n y) i above inv
    (λ d.
    let first : n a ≡ n (get_or xs (i - 1) d) = ap n (at_a ∙ get_or_default xs (i - 1) a d (omega arith)) in
    let second : n b ≡ n (get_or xs i d) = ap n (at_b ∙ get_or_default xs i b d within) in
    let order : n (get_or xs (i - 1) d) ≤ n (get_or xs i d) = up (i - 1) i d (omega arith) within in
    omega (arith, first, second, order, differ))

-- ---- a strictly increasing list is distinct

-- a list that increases strictly by a number of its keys has distinct keys
keys_differ : {X : Type 0} (key : X → List ℕ) (m : List ℕ → ℕ) (xs : List X) → IsStrictlyIncreasing (map (λ x. m (key x)) xs) → AllPairs (λ a b. a ≢ b) (map key xs)
keys_differ key m [] up i j d before within same = absurd (omega arith)
keys_differ key m (x ∷ xs) up i j d before within same =
    let n : List ℕ = map (λ y. m (key y)) (x ∷ xs) in
    let keys : length (map key (x ∷ xs)) ≡ length (x ∷ xs) = length-map (x ∷ xs) key in
    let numbers : length n ≡ length (x ∷ xs) = length-map (x ∷ xs) (λ y. m (key y)) in
    let second : j < length (x ∷ xs) = omega (arith, keys, within) in
    let first : i < length (x ∷ xs) = omega (arith, second, before) in
    let rise : get_or n i 0 < get_or n j 0 = AllPairs-from_increasing n up i j 0 before (omega (arith, numbers, second)) in
    let number_first : get_or n i 0 ≡ m (get_or (map key (x ∷ xs)) i d) = get_or-map (λ y. m (key y)) (x ∷ xs) i x 0 first ∙ ap m (sym (get_or-map key (x ∷ xs) i x d first)) in
    let number_second : get_or n j 0 ≡ m (get_or (map key (x ∷ xs)) j d) = get_or-map (λ y. m (key y)) (x ∷ xs) j x 0 second ∙ ap m (sym (get_or-map key (x ∷ xs) j x d second)) in
    absurd (omega (arith, rise, number_first, number_second, ap m same))

pub distinct_keys : {X : Type 0} (key : X → List ℕ) (m : List ℕ → ℕ) (xs ys : List X) → IsPermutation xs ys → IsStrictlyIncreasing (map (λ x. m (key x)) ys) → IsDistinct bytes_eq (map key xs)
distinct_keys key m xs ys moved up =
    IsDistinct-IsPermutation bytes_eq same_either_way (map key ys) (map key xs) (IsPermutation-sym _ _ (IsPermutation-map key xs ys moved))
    (IsDistinct-from_AllPairs bytes_eq-Decides (map key ys) (keys_differ key m ys up))

-- a permutation of distinct keys is distinct
pub moved_distinct : {X : Type 0} (key : X → List ℕ) (xs ys : List X) → IsPermutation xs ys → IsDistinct bytes_eq (map key xs) → IsDistinct bytes_eq (map key ys)
moved_distinct key xs ys moved = IsDistinct-IsPermutation bytes_eq same_either_way (map key xs) (map key ys) (IsPermutation-map key xs ys moved)

-- two equal keys
pub not_distinct : {X : Type 0} (key : X → List ℕ) (xs : List X) (i j : ℕ) (a b : X) → i < j → j < length xs
    → a ≡ get_or xs i a → b ≡ get_or xs j b → key a ≡ key b → ¬ IsDistinct bytes_eq (map key xs)
not_distinct key xs i j a b before within at_a at_b same distinct =
    let size : length (map key xs) ≡ length xs = length-map xs key in
    let first : get_or (map key xs) i [] ≡ key a = get_or-map key xs i a [] (omega (arith, before, within)) ∙ ap key (sym at_a) in
    let second : get_or (map key xs) j [] ≡ key b = get_or-map key xs j b [] within ∙ ap key (sym at_b) in
    AllPairs-from_IsDistinct bytes_eq-Decides (map key xs) distinct i j [] before (omega (arith, size, within)) (first ∙ same ∙ sym second)
