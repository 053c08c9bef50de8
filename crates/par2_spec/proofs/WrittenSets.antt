-- The accepted packets of a file's bytes, in three equations.
use Rattle.par2_spec.proofs.Common.{◌≡◌, ℕ, suc, ◌-◌, ◌≤◌, List, ◌∷◌, drop, refl, ap, ◌∙◌, true, false, arith, accepted, begins_with_packet, first_packet, claimed_length, accepted_after, ◌+◌, ◌%◌, ◌^◌, ◌<◌, Bool, leb, eqb, ◌&&◌, [], ◌++◌, length, sym, append_assoc, length-append, flat_map, AllByRecursion, w64, to_le_bytes, bytes_eq, le-leb, eq-eqb, lt-leb, leb-true, and_parts, take_at, drop_at, from_le_bytes-to_le_bytes_8, bytes_eq-Decides, md5, length-md5, bytes_at, magic, type_of, kind_of, Packet, digest_input, IsPacket, u64_at, packet, ◌*◌, ◌/◌, take, map, zero, append-nil, Option, Some, None, reverse, replicate, w32, from_le_bytes, w16, range_with_len, list_any, prefix_len, suffix_len, and_from, cond-true, or_parts, or_from, length-replicate, reverse-append, replicate_more, from_le_bytes-to_le_bytes_4, Pair, IsPair, items_at, MainBody, IfscBody, without_end_zeros, DescBody, IsCanonical, u32_at, read_main, read_ifsc, read_desc, FileRecord, main_bytes, ifsc_bytes, pair_bytes, recovery_bytes, desc_bytes, padded_4, IsFileRecord, creator_bytes, main_id, packet_of, recovery_packets, index_packets, list_any-append, prefix_len-append, prefix_len-replicate, length-range_with_len, Kind, dot, coefficients, recovery, combination, word, common_steps, ◌==◌, Main, Ifsc, Recovery, FileDesc, Creator}
use Rattle.par2_spec.proofs.Basics.{all-each, all-map, all-append, all_weaker}

-- to begin after n bytes is to begin with the rest of the bytes
pub accepted_after-drop : (n : ℕ) (bytes : List ℕ) → accepted_after n bytes ≡ accepted (drop n bytes)
unfolding accepted_after
accepted_after-drop (suc n) (b ∷ bytes) = accepted_after-drop n bytes
accepted_after-drop n bytes = grind arith

-- if no packet is at the front, the packets are those after the first byte
pub accepted-none : (b : ℕ) (bytes : List ℕ) → begins_with_packet (b ∷ bytes) ≡ false → accepted (b ∷ bytes) ≡ accepted bytes
accepted-none b bytes h = unfold accepted_after in rw h refl

pred_drop : (n b : ℕ) (bytes : List ℕ) → 1 ≤ n → drop (n - 1) bytes ≡ drop n (b ∷ bytes)
pred_drop n b bytes one = grind arith

-- if a packet is at the front, the packets are that one and those after its end
pub accepted-found : (b : ℕ) (bytes : List ℕ) → begins_with_packet (b ∷ bytes) ≡ true → 1 ≤ claimed_length (b ∷ bytes) → accepted (b ∷ bytes) ≡ first_packet (b ∷ bytes) ∷ accepted (drop (claimed_length (b ∷ bytes)) (b ∷ bytes))
accepted-found b bytes h one = unfold accepted_after in
    rw h (ap (λ ps. first_packet (b ∷ bytes) ∷ ps) (accepted_after-drop _ bytes ∙ ap accepted (pred_drop (claimed_length (b ∷ bytes)) b bytes one)))

-- Parts of joined bytes, and the tests of a packet at their front.

pub part_at : (front mid rest : List ℕ) (o n : ℕ) → length front ≡ o → length mid ≡ n → bytes_at o n (front ++ (mid ++ rest)) ≡ mid
part_at front mid rest o n a b = rw (drop_at front (mid ++ rest) o a) (take_at mid rest n b)

six : (a b c d e f : Bool) → a ≡ true → b ≡ true → c ≡ true → d ≡ true → e ≡ true → f ≡ true → (a && b && c && d && e && f) ≡ true
six a b c d e f ha hb hc hd he hf = rw (ha, hb, hc, hd, he, hf) refl

-- bytes in six parts and a rest
pub record IsMade (bytes m l d s k b t : List ℕ) : Type 0 where
  pub is : bytes ≡ m ++ (l ++ (d ++ (s ++ (k ++ (b ++ t)))))
  pub magic : m ≡ magic
  pub claim : l ≡ to_le_bytes w64 (64 + length b)
  pub digest : d ≡ md5 (s ++ (k ++ b))
  pub set_id : length s ≡ 16
  pub kind : length k ≡ 16
  pub small : 64 + length b < 2 ^ 64
  pub even : (64 + length b) % 4 ≡ 0

module_parts : (bytes m l d s k b t : List ℕ) → IsMade bytes m l d s k b t → (length m ≡ 8) × (length l ≡ 8) × (length d ≡ 16)
module_parts bytes m l d s k b t h = (ap length h.magic, ap length h.claim, ap length h.digest ∙ length-md5 (s ++ (k ++ b)))

claimed_is : (bytes m l d s k b t : List ℕ) → IsMade bytes m l d s k b t → claimed_length bytes ≡ 64 + length b
claimed_is bytes m l d s k b t h = unfold u64_at in grind (arith, module_parts, part_at, from_le_bytes-to_le_bytes_8)

to_32 : (m l d s k b t : List ℕ) → m ++ (l ++ (d ++ (s ++ (k ++ (b ++ t))))) ≡ (m ++ (l ++ d)) ++ ((s ++ (k ++ b)) ++ t)
to_32 m l d s k b t = simp append_assoc

to_32s : (m l d s k b t : List ℕ) → m ++ (l ++ (d ++ (s ++ (k ++ (b ++ t))))) ≡ (m ++ (l ++ d)) ++ (s ++ (k ++ (b ++ t)))
to_32s m l d s k b t = simp append_assoc

to_48 : (m l d s k b t : List ℕ) → m ++ (l ++ (d ++ (s ++ (k ++ (b ++ t))))) ≡ (m ++ (l ++ (d ++ s))) ++ (k ++ (b ++ t))
to_48 m l d s k b t = simp append_assoc

to_64 : (m l d s k b t : List ℕ) → m ++ (l ++ (d ++ (s ++ (k ++ (b ++ t))))) ≡ (m ++ (l ++ (d ++ (s ++ k)))) ++ (b ++ t)
to_64 m l d s k b t = simp append_assoc

pub len3 : (a b c : List ℕ) → length (a ++ (b ++ c)) ≡ length a + (length b + length c)
len3 a b c = length-append a (b ++ c) ∙ ap (λ (n : ℕ). length a + n) (length-append b c)

begins : (bytes m l d s k b t : List ℕ) → IsMade bytes m l d s k b t → begins_with_packet bytes ≡ true
begins bytes m l d s k b t h = unfold begins_with_packet u64_at in
    let lens = module_parts bytes m l d s k b t h in
    let claim : claimed_length bytes ≡ 64 + length b = claimed_is bytes m l d s k b t h in
    let size_skb : length (s ++ (k ++ b)) ≡ 32 + length b = omega (arith, len3 s k b, h.set_id, h.kind) in
    let size_mld : length (m ++ (l ++ d)) ≡ 32 = omega (arith, len3 m l d, lens.0, lens.1, lens.2) in
    let size : length bytes ≡ 64 + length b + length t =
    ap length (h.is ∙ to_32 m l d s k b t) ∙ length-append (m ++ (l ++ d)) ((s ++ (k ++ b)) ++ t)
    ∙ omega (arith, length-append (s ++ (k ++ b)) t, size_skb, size_mld) in
    let front : bytes_at 0 8 bytes ≡ magic = ap (bytes_at 0 8) h.is ∙ take_at m (l ++ (d ++ (s ++ (k ++ (b ++ t))))) 8 lens.0 ∙ h.magic in
    let rest : bytes_at 32 (claimed_length bytes - 32) bytes ≡ s ++ (k ++ b) =
    ap (bytes_at 32 (claimed_length bytes - 32)) (h.is ∙ to_32 m l d s k b t) ∙ part_at (m ++ (l ++ d)) (s ++ (k ++ b)) t 32 (claimed_length bytes - 32) size_mld (omega (arith, size_skb, claim)) in
    let digest : bytes_at 16 16 bytes ≡ d =
    ap (bytes_at 16 16) (h.is ∙ sym (append_assoc m l _)) ∙ part_at (m ++ l) d (s ++ (k ++ (b ++ t))) 16 16 (omega (arith, length-append m l, lens.0, lens.1)) lens.2 in
    let h3 : eqb (claimed_length bytes % 4) 0 ≡ true = eq-eqb (claimed_length bytes % 4) 0 (ap (λ (n : ℕ). n % 4) claim ∙ h.even) in
    let h4 : leb 64 (claimed_length bytes) ≡ true = le-leb 64 (claimed_length bytes) (omega (arith, claim)) in
    let h5 : leb (claimed_length bytes) (length bytes) ≡ true = le-leb (claimed_length bytes) (length bytes) (omega (arith, claim, size)) in
    let h6 : bytes_eq (md5 (bytes_at 32 (claimed_length bytes - 32) bytes)) (bytes_at 16 16 bytes) ≡ true =
    (bytes_eq-Decides (md5 (bytes_at 32 (claimed_length bytes - 32) bytes)) (bytes_at 16 16 bytes)).1 (ap md5 rest ∙ sym h.digest ∙ sym digest) in
    six _ _ _ _ _ _ (le-leb 64 (length bytes) (omega (arith, size))) ((bytes_eq-Decides (bytes_at 0 8 bytes) magic).1 front) h3 h4 h5 h6

first : (bytes m l d s k b t : List ℕ) → IsMade bytes m l d s k b t → first_packet bytes ≡ record { set_id = s; kind = kind_of k; body = b }
first bytes m l d s k b t h = unfold first_packet u64_at in
    let lens = module_parts bytes m l d s k b t h in
    let claim : claimed_length bytes ≡ 64 + length b = claimed_is bytes m l d s k b t h in
    let size32 : length (m ++ (l ++ d)) ≡ 32 = omega (arith, len3 m l d, lens.0, lens.1, lens.2) in
    let size48 : length (m ++ (l ++ (d ++ s))) ≡ 48 = omega (arith, len3 m l (d ++ s), length-append d s, lens.0, lens.1, lens.2, h.set_id) in
    let size64 : length (m ++ (l ++ (d ++ (s ++ k)))) ≡ 64 = omega (arith, len3 m l (d ++ (s ++ k)), len3 d s k, lens.0, lens.1, lens.2, h.set_id, h.kind) in
    let kind : bytes_at 48 16 bytes ≡ k = ap (bytes_at 48 16) (h.is ∙ to_48 m l d s k b t) ∙ part_at (m ++ (l ++ (d ++ s))) k (b ++ t) 48 16 size48 h.kind in
    let body : bytes_at 64 (claimed_length bytes - 64) bytes ≡ b = ap (bytes_at 64 (claimed_length bytes - 64)) (h.is ∙ to_64 m l d s k b t) ∙ part_at (m ++ (l ++ (d ++ (s ++ k)))) b t 64 (claimed_length bytes - 64) size64 (omega (arith, claim)) in
    grind (arith, (ap (bytes_at 32 16) (h.is ∙ to_32s m l d s k b t) ∙ part_at (m ++ (l ++ d)) s (k ++ (b ++ t)) 32 16 size32 h.set_id), kind, body)

after : (bytes m l d s k b t : List ℕ) → IsMade bytes m l d s k b t → drop (claimed_length bytes) bytes ≡ t
after bytes m l d s k b t h =
    let lens = module_parts bytes m l d s k b t h in
    let size : length (m ++ (l ++ (d ++ (s ++ (k ++ b))))) ≡ 64 + length b = omega (arith, len3 m l (d ++ (s ++ (k ++ b))), len3 d s (k ++ b), length-append k b, lens.0, lens.1, lens.2, h.set_id, h.kind) in
    ap (drop (claimed_length bytes)) (h.is ∙ (simp append_assoc)) ∙ drop_at (m ++ (l ++ (d ++ (s ++ (k ++ b))))) t (claimed_length bytes) (size ∙ sym (claimed_is bytes m l d s k b t h))

-- if a packet is at the front, the packets are that one and those after it
pub accepted_first : (bytes : List ℕ) → begins_with_packet bytes ≡ true → 1 ≤ claimed_length bytes → accepted bytes ≡ first_packet bytes ∷ accepted (drop (claimed_length bytes) bytes)
accepted_first bytes h one = unfold begins_with_packet in grind (arith, accepted-found)

fourth : (a b c d e f : Bool) → (a && b && c && d && e && f) ≡ true → d ≡ true
fourth a b c d e f h = (and_parts (a && b && c) d (and_parts (a && b && c && d) e (and_parts (a && b && c && d && e) f h).0).0).1

pub in_front : (bytes : List ℕ) → begins_with_packet bytes ≡ true → accepted bytes ≡ first_packet bytes ∷ accepted (drop (claimed_length bytes) bytes)
in_front bytes h = unfold begins_with_packet in grind (arith, accepted_first, leb-true, fourth)

-- a written packet is read back, followed by the packets after it
pub packet_then : (p : Packet) (t : List ℕ) → IsPacket p → accepted (packet p ++ t) ≡ p ∷ accepted t
packet_then p t is = unfold packet in
    let bytes : List ℕ = packet p ++ t in
    let l : List ℕ = to_le_bytes w64 (64 + length p.body) in
    let d : List ℕ = md5 (digest_input p) in
    let k : List ℕ = type_of p.kind in
    let joined : (m l d s k b t : List ℕ) → m ++ l ++ d ++ (s ++ k ++ b) ++ t ≡ m ++ (l ++ (d ++ (s ++ (k ++ (b ++ t))))) = λ m l d s k b t. simp append_assoc in
    let made : IsMade bytes magic l d p.set_id k p.body t = record {
      is = joined magic l d p.set_id k p.body t;
      magic = refl;
      claim = refl;
      digest = ap md5 (append_assoc p.set_id k p.body);
      set_id = is.set_id;
      kind = is.kind.0;
      small = is.small;
      even = is.multiple_of_4;
    } in
    let one : 1 ≤ claimed_length bytes = omega (arith, claimed_is bytes magic l d p.set_id k p.body t made) in
    grind (arith, (accepted_first bytes (begins bytes magic l d p.set_id k p.body t made) one), (first bytes magic l d p.set_id k p.body t made), is.kind.1, (after bytes magic l d p.set_id k p.body t made))

-- too few bytes have no packets
pub none_short : (bytes : List ℕ) → length bytes < 64 → accepted bytes ≡ []
unfolding accepted_after
none_short [] lt = refl
none_short (b ∷ bytes) lt = accepted-none b bytes (unfold begins_with_packet in grind (arith, lt-leb)) ∙ none_short bytes (let below : suc (length bytes) < 64 = lt in omega arith)

-- packets one after the other
pub packets_then : (ps : List Packet) (t : List ℕ) → AllByRecursion IsPacket ps → accepted (flat_map packet ps ++ t) ≡ ps ++ accepted t
packets_then [] t h = refl
packets_then (p ∷ ps) t h = grind (arith, append_assoc, packet_then, packets_then ps t h.1)

-- Written packets of a set are read back.

-- ---- numbers at an offset

u32_there : (front rest : List ℕ) (o n : ℕ) → length front ≡ o → n < 2 ^ 32 → u32_at o (front ++ (to_le_bytes w32 n ++ rest)) ≡ n
u32_there front rest o n h lt = unfold u32_at in ap (from_le_bytes w32) (part_at front (to_le_bytes w32 n) rest o 4 h refl) ∙ from_le_bytes-to_le_bytes_4 n lt

pub u64_there : (front rest : List ℕ) (o n : ℕ) → length front ≡ o → n < 2 ^ 64 → u64_at o (front ++ (to_le_bytes w64 n ++ rest)) ≡ n
u64_there front rest o n h lt = unfold u64_at in ap (from_le_bytes w64) (part_at front (to_le_bytes w64 n) rest o 8 h refl) ∙ from_le_bytes-to_le_bytes_8 n lt

-- ---- items of one length

pub length_items : {A : Type 0} (bytes : A → List ℕ) (item : ℕ) (xs : List A) → AllByRecursion (λ x. length (bytes x) ≡ item) xs → length (flat_map bytes xs) ≡ item * length xs
length_items bytes item [] h = omega arith
length_items bytes item (x ∷ xs) h = grind (arith, length-append, length_items bytes item xs h.1)

items_there : {A : Type 0} (bytes : A → List ℕ) (head item : ℕ) (body front : List ℕ) (xs : List A) (a : ℕ) → AllByRecursion (λ x. length (bytes x) ≡ item) xs
    → length front ≡ head + item * a → body ≡ front ++ flat_map bytes xs → map (λ k. bytes_at (head + item * k) item body) (range_with_len a (length xs)) ≡ map bytes xs
items_there bytes head item body front [] a h at is = refl
items_there bytes head item body front (x ∷ xs) a h at is =
    let here : bytes_at (head + item * a) item body ≡ bytes x = ap (bytes_at (head + item * a) item) is ∙ part_at front (bytes x) (flat_map bytes xs) (head + item * a) item at h.0 in
    let next : length (front ++ bytes x) ≡ head + item * (a + 1) =
    length-append front (bytes x) ∙ ap (λ (n : ℕ). n + length (bytes x)) at ∙ ap (λ (n : ℕ). head + item * a + n) h.0 ∙ (let e : head + item * a + item ≡ head + item * (a + 1) = omega arith in e) in
    let others = items_there bytes head item body (front ++ bytes x) xs (a + 1) h.1 next (is ∙ sym (append_assoc front (bytes x) (flat_map bytes xs))) in
    ap (λ (t : List ℕ). t ∷ map (λ k. bytes_at (head + item * k) item body) (range_with_len (a + 1) (length xs))) here ∙ ap (λ (ts : List (List ℕ)). bytes x ∷ ts) others

-- ---- Main

abbrev main_of : ℕ → List (List ℕ) → Option MainBody
main_of s ids = Some (record { slice_size = s; ids = ids })

pub main_reads :
    (s : ℕ) (files : List FileRecord) → s < 2 ^ 64 → length files < 2 ^ 32
    → AllByRecursion (λ file. length file.id ≡ 16) files
    → read_main Main (main_bytes s files)
    ≡ Some (record { slice_size = s; ids = map (λ file. file.id) files })
main_reads s files low few ids = unfold read_main in
    let n : ℕ = length files in
    let front : List ℕ = to_le_bytes w64 s ++ to_le_bytes w32 n in
    let rest : List ℕ = flat_map (λ (file : FileRecord). file.id) files in
    let body : List ℕ = main_bytes s files in
    let items : length rest ≡ 16 * n = length_items (λ (file : FileRecord). file.id) 16 files ids in
    let size : length body ≡ 12 + 16 * n = length-append front rest ∙ ap (λ (k : ℕ). 12 + k) items in
    let count : u32_at 8 body ≡ n = ap (u32_at 8) (append_assoc (to_le_bytes w64 s) (to_le_bytes w32 n) rest) ∙ u32_there (to_le_bytes w64 s) rest 8 n refl few in
    let slice : u64_at 0 body ≡ s = ap (u64_at 0) (append_assoc (to_le_bytes w64 s) (to_le_bytes w32 n) rest) ∙ u64_there [] (to_le_bytes w32 n ++ rest) 0 s refl low in
    let there : items_at 12 16 n body ≡ map (λ (file : FileRecord). file.id) files = items_there (λ (file : FileRecord). file.id) 12 16 body front files 0 ids refl refl in
    let t1 : leb 12 (length body) ≡ true = le-leb 12 (length body) (omega (arith, size)) in
    let t2 : eqb ((length body - 12) % 16) 0 ≡ true = eq-eqb ((length body - 12) % 16) 0 (omega (arith, size)) in
    let t3 : leb (u32_at 8 body) ((length body - 12) / 16) ≡ true = le-leb (u32_at 8 body) ((length body - 12) / 16) (omega (arith, size, count)) in
    grind (arith, t1, t2, t3, slice, count, there)

-- ---- IFSC

abbrev ArePairs : List Pair → Type 0
ArePairs pairs = AllByRecursion IsPair pairs

abbrev pair_in : List ℕ → Pair
pair_in item = (take 16 item, u32_at 16 item)

pub pair_lengths : (pairs : List Pair) → ArePairs pairs → AllByRecursion (λ pair. length (pair_bytes pair) ≡ 20) pairs
pair_lengths [] h = tt
pair_lengths (pair ∷ pairs) h = grind (arith, length-append, pair_lengths pairs h.1)

pair_there : (pair : Pair) → IsPair pair → pair_in (pair_bytes pair) ≡ pair
pair_there pair h = search (arith, take_at, append-nil, u32_there)

pairs_there : (pairs : List Pair) → ArePairs pairs → map pair_in (map pair_bytes pairs) ≡ pairs
pairs_there [] h = refl
pairs_there (pair ∷ pairs) h = ap (λ (p : Pair). p ∷ map pair_in (map pair_bytes pairs)) (pair_there pair h.0) ∙ ap (λ (ps : List Pair). pair ∷ ps) (pairs_there pairs h.1)

pub ifsc_reads : (file : FileRecord) → length file.id ≡ 16 → AllByRecursion IsPair file.pairs
    → read_ifsc Ifsc (ifsc_bytes file) ≡ Some (record { id = file.id; pairs = file.pairs })
ifsc_reads file long each = unfold read_ifsc in
    let n : ℕ = length file.pairs in
    let rest : List ℕ = flat_map pair_bytes file.pairs in
    let body : List ℕ = ifsc_bytes file in
    let lens = pair_lengths file.pairs each in
    let size : length body ≡ 16 + 20 * n = length-append file.id rest ∙ ap (λ (k : ℕ). k + length rest) long ∙ ap (λ (k : ℕ). 16 + k) (length_items pair_bytes 20 file.pairs lens) in
    grind (arith, cond-true, leb, eqb, and_from, le-leb, eq-eqb, (take_at file.id rest 16 long), (items_there pair_bytes 16 20 body file.id file.pairs 0 lens long refl), (pairs_there file.pairs each))

-- ---- zeros at the end

abbrev is_zero : ℕ → Bool
is_zero b = eqb b 0

abbrev zeros : ℕ → List ℕ
zeros k = replicate k 0

none_first : (xs : List ℕ) → list_any is_zero xs ≡ false → prefix_len is_zero xs ≡ 0
none_first [] h = refl
none_first (x ∷ xs) h = rw (or_parts (is_zero x) (list_any is_zero xs) h).0 refl

none_reversed : (xs : List ℕ) → list_any is_zero xs ≡ false → list_any is_zero (reverse xs) ≡ false
none_reversed [] h = refl
none_reversed (x ∷ xs) h =
    let p = or_parts (is_zero x) (list_any is_zero xs) h in
    let reversed : reverse (x ∷ xs) ≡ reverse xs ++ x ∷ [] = reverse-append (x ∷ []) xs in
    grind (arith, reversed, (list_any-append is_zero (reverse xs) (x ∷ [])), (or_from (list_any is_zero (reverse xs)) (list_any is_zero (x ∷ [])) (none_reversed xs p.1) (or_from (is_zero x) false p.0 refl)))

zeros_reversed : (k : ℕ) → reverse (zeros k) ≡ zeros k
zeros_reversed zero = refl
zeros_reversed (suc k) = grind (arith, common_steps, reverse-append, replicate_more, zeros_reversed k)

zeros_first : (k : ℕ) (xs : List ℕ) → prefix_len is_zero (zeros k ++ xs) ≡ k + prefix_len is_zero xs
zeros_first k xs = grind (arith, length-replicate, prefix_len-replicate, eq-eqb, prefix_len-append)

pub stripped-padded : (name : List ℕ) (k : ℕ) → list_any (λ b. eqb b 0) name ≡ false → without_end_zeros (name ++ replicate k 0) ≡ name
stripped-padded name k none =
    let bytes : List ℕ = name ++ replicate k 0 in
    let size : length bytes ≡ length name + k = length-append name (replicate k 0) ∙ ap (λ (n : ℕ). length name + n) (length-replicate k 0) in
    let reversed : reverse bytes ≡ replicate k 0 ++ reverse name = reverse-append name (replicate k 0) ∙ ap (λ (xs : List ℕ). xs ++ reverse name) (zeros_reversed k) in
    let first : prefix_len is_zero (reverse name) ≡ 0 = none_first (reverse name) (none_reversed name none) in
    let zeros : suffix_len is_zero bytes ≡ k = ap (prefix_len is_zero) reversed ∙ zeros_first k (reverse name) ∙ ap (λ (n : ℕ). k + n) first ∙ (let e : k + 0 ≡ k = omega arith in e) in
    take_at name (replicate k 0) (length bytes - suffix_len is_zero bytes) (omega (arith, size, zeros))

-- ---- the body

at_16 : (a b c d e : List ℕ) → a ++ b ++ c ++ d ++ e ≡ a ++ (b ++ (c ++ (d ++ e)))
at_16 a b c d e = simp append_assoc

at_32 : (a b c d e : List ℕ) → a ++ b ++ c ++ d ++ e ≡ (a ++ b) ++ (c ++ (d ++ e))
at_32 a b c d e = simp append_assoc

at_48 : (a b c d e : List ℕ) → a ++ b ++ c ++ d ++ e ≡ (a ++ (b ++ c)) ++ (d ++ e)
at_48 a b c d e = simp append_assoc

at_56 : (a b c d e : List ℕ) → a ++ b ++ c ++ d ++ e ≡ (a ++ (b ++ (c ++ d))) ++ e
at_56 a b c d e = simp append_assoc

pub desc_reads :
    (file : FileRecord) → length file.id ≡ 16 → length file.md5 ≡ 16
    → length file.md5_16k ≡ 16 → file.length < 2 ^ 64 → list_any (λ b. b == 0) file.name
    ≡ false → read_desc FileDesc (desc_bytes file) ≡ Some (record {
      id = file.id;
      md5 = file.md5;
      md5_16k = file.md5_16k;
      length = file.length;
      name = file.name;
    })
desc_reads file i d s low none = unfold read_desc in
    let body : List ℕ = desc_bytes file in
    let n : List ℕ = to_le_bytes w64 file.length in
    let name : List ℕ = padded_4 file.name in
    let size32 : length (file.id ++ file.md5) ≡ 32 = omega (arith, length-append file.id file.md5, i, d) in
    let size48 : length (file.id ++ (file.md5 ++ file.md5_16k)) ≡ 48 = omega (arith, len3 file.id file.md5 file.md5_16k, i, d, s) in
    let eight : length n ≡ 8 = refl in
    let size56 : length (file.id ++ (file.md5 ++ (file.md5_16k ++ n))) ≡ 56 = omega (arith, len3 file.id file.md5 (file.md5_16k ++ n), length-append file.md5_16k n, eight, i, d, s) in
    let whole : length body ≡ 56 + length name = ap length (at_56 file.id file.md5 file.md5_16k n name) ∙ length-append (file.id ++ (file.md5 ++ (file.md5_16k ++ n))) name ∙ ap (λ (k : ℕ). k + length name) size56 in
    let t : leb 56 (length body) ≡ true = le-leb 56 (length body) (omega (arith, whole)) in
    let e1 : bytes_at 0 16 body ≡ file.id = ap (bytes_at 0 16) (at_16 file.id file.md5 file.md5_16k n name) ∙ take_at file.id (file.md5 ++ (file.md5_16k ++ (n ++ name))) 16 i in
    let e2 : bytes_at 16 16 body ≡ file.md5 = ap (bytes_at 16 16) (at_16 file.id file.md5 file.md5_16k n name) ∙ part_at file.id file.md5 (file.md5_16k ++ (n ++ name)) 16 16 i d in
    let e3 : bytes_at 32 16 body ≡ file.md5_16k = ap (bytes_at 32 16) (at_32 file.id file.md5 file.md5_16k n name) ∙ part_at (file.id ++ file.md5) file.md5_16k (n ++ name) 32 16 size32 s in
    let e4 : u64_at 48 body ≡ file.length = ap (u64_at 48) (at_48 file.id file.md5 file.md5_16k n name) ∙ u64_there (file.id ++ (file.md5 ++ file.md5_16k)) name 48 file.length size48 low in
    let e5 : without_end_zeros (drop 56 body) ≡ file.name =
    ap without_end_zeros (ap (drop 56) (at_56 file.id file.md5 file.md5_16k n name) ∙ drop_at (file.id ++ (file.md5 ++ (file.md5_16k ++ n))) name 56 size56)
    ∙ stripped-padded file.name ((4 - length file.name % 4) % 4) none in
    grind (arith, t, e1, e2, e3, e4, e5)

-- ---- the known kinds are read back as themselves

main_known : IsCanonical Main
main_known = unfold kind_of in (refl, refl)

ifsc_known : IsCanonical Ifsc
ifsc_known = unfold kind_of in (refl, refl)

-- a packet of a body whose length is a multiple of 4
made : (id : List ℕ) (kind : Kind) (body : List ℕ) (n : ℕ) → length id ≡ 16 → IsCanonical kind → length body ≡ 4 * n → n < 2 ^ 60 → IsPacket (packet_of id kind body)
made id kind body n sixteen known size few = grind arith

-- ---- each packet

pub main_packet : (s : ℕ) (files : List FileRecord) → length files < 2 ^ 32 → AllByRecursion IsFileRecord files → IsPacket (packet_of (main_id s files) Main (main_bytes s files))
main_packet s files few each =
    let n : ℕ = length files in
    let rest : List ℕ = flat_map (λ (file : FileRecord). file.id) files in
    let items : length rest ≡ 16 * n = length_items (λ (file : FileRecord). file.id) 16 files (all_weaker _ _ (λ file is. is.id) files each) in
    let size : length (main_bytes s files) ≡ 12 + 16 * n = length-append (to_le_bytes w64 s ++ to_le_bytes w32 n) rest ∙ ap (λ (k : ℕ). 12 + k) items in
    made (main_id s files) Main (main_bytes s files) (3 + 4 * n) (length-md5 (main_bytes s files)) main_known (omega (arith, size)) (omega (arith, few))

pub desc_packet : (id : List ℕ) (file : FileRecord) → length id ≡ 16 → IsFileRecord file → IsPacket (packet_of id FileDesc (desc_bytes file))
desc_packet id file sixteen is = unfold kind_of in grind (arith, length-append, made, length-replicate)

pub ifsc_packet : (id : List ℕ) (file : FileRecord) → length id ≡ 16 → IsFileRecord file → IsPacket (packet_of id Ifsc (ifsc_bytes file))
ifsc_packet id file sixteen is = grind (arith, (length_items pair_bytes 20 file.pairs (pair_lengths file.pairs is.pairs)), (length-append file.id (flat_map pair_bytes file.pairs)), made, ifsc_known)

pub creator_packet : (id : List ℕ) → length id ≡ 16 → IsPacket (packet_of id Creator creator_bytes)
creator_packet id sixteen = unfold kind_of in grind (arith, made)

pub recovery_packet : (id : List ℕ) (e : ℕ) (bytes : List ℕ) → length id ≡ 16 → length bytes % 4 ≡ 0 → length bytes < 2 ^ 60 → IsPacket (packet_of id Recovery (recovery_bytes e bytes))
recovery_packet id e bytes sixteen even few = unfold kind_of in grind (arith, length-append, made)

-- ---- the packets of files

of_each_file : (f : FileRecord → Packet) (files : List FileRecord) → ((file : FileRecord) → IsFileRecord file → IsPacket (f file)) → AllByRecursion IsFileRecord files → AllByRecursion IsPacket (map f files)
of_each_file f files h each = all-map IsFileRecord IsPacket f h files each

pub index_made : (s : ℕ) (files : List FileRecord) → length files < 2 ^ 32 → AllByRecursion IsFileRecord files → AllByRecursion IsPacket (index_packets s files)
index_made s files few each = unfold index_packets in
    let id : List ℕ = main_id s files in
    let sixteen : length id ≡ 16 = length-md5 (main_bytes s files) in
    let descs : AllByRecursion IsPacket (map (λ file. packet_of id FileDesc (desc_bytes file)) files) = of_each_file _ files (λ file is. desc_packet id file sixteen is) each in
    let ifscs : AllByRecursion IsPacket (map (λ file. packet_of id Ifsc (ifsc_bytes file)) files) = of_each_file _ files (λ file is. ifsc_packet id file sixteen is) each in
    let front : AllByRecursion IsPacket (packet_of id Main (main_bytes s files) ∷ map (λ file. packet_of id FileDesc (desc_bytes file)) files) = (main_packet s files few each, descs) in
    let end : AllByRecursion IsPacket (packet_of id Creator creator_bytes ∷ []) = (creator_packet id sixteen, tt) in
    grind (arith, all-append)

pub index_reads : (s : ℕ) (files : List FileRecord) (bytes : List ℕ) → length files < 2 ^ 32 → AllByRecursion IsFileRecord files
    → accepted (flat_map packet (index_packets s files) ++ bytes) ≡ index_packets s files ++ accepted bytes
index_reads s files bytes few each = packets_then (index_packets s files) bytes (index_made s files few each)

words_length : (f : ℕ → ℕ) (places : List ℕ) → length (flat_map (λ p. to_le_bytes w16 (f p)) places) ≡ 2 * length places
words_length f [] = omega arith
words_length f (p ∷ places) = grind (arith, length-append, words_length f places)

-- a recovery slice is as long as the slices
pub recovery_length : (s : ℕ) (buffers : List (List ℕ)) (e : ℕ) → s % 2 ≡ 0 → length (recovery s buffers e) ≡ s
recovery_length s buffers e even = unfold recovery combination in
    omega (arith, (words_length (λ p. dot (coefficients (range_with_len 0 (length buffers)) e) (map (word p) buffers)) (range_with_len 0 (s / 2))), length-range_with_len 0 (s / 2), even)

pub recovery_made : (s : ℕ) (id : List ℕ) (buffers : List (List ℕ)) (e n : ℕ) → length id ≡ 16 → s % 4 ≡ 0 → s < 2 ^ 60 → AllByRecursion IsPacket (recovery_packets s id buffers e n)
recovery_made s id buffers e n sixteen even few =
    all-each IsPacket (λ k. packet_of id Recovery (recovery_bytes k (recovery s buffers k)))
    (λ k.
    let size : length (recovery s buffers k) ≡ s = recovery_length s buffers k (omega (arith, even)) in
    recovery_packet id k (recovery s buffers k) sixteen (omega (arith, size, even)) (omega (arith, size, few))) (range_with_len e n)

pub recovery_slices_read :
    (s : ℕ) (id : List ℕ) (slices : List (List ℕ)) (e n : ℕ) (bytes : List ℕ)
    → length id ≡ 16 → s % 4 ≡ 0 → s < 2 ^ 60
    → accepted (flat_map packet (recovery_packets s id slices e n) ++ bytes)
    ≡ recovery_packets s id slices e n ++ accepted bytes
recovery_slices_read s id buffers e n bytes sixteen even few = packets_then (recovery_packets s id buffers e n) bytes (recovery_made s id buffers e n sixteen even few)
