-- The CRC-32 of bytes in groups of sixteen, by tables, after zeros, and of a window that slides; the padding of MD5s.
use Rattle.par2_slices.proofs.Common.{◌≡◌, ℕ, zero, suc, ◌+◌, ◌*◌, ◌^◌, ◌<◌, ◌%◌, ◌/◌, List, [], ◌∷◌, ◌++◌, length, take, drop, get_or, sym, ap, ap₂, ◌∙◌, arith, bit_xor, concat, All, from_le_bytes, to_le_bytes, w32, All-from_get_or, All-get_or, All-drop, All-take, length-drop, length-take-le, take_more, take_all, take-append-drop, append-nil, nil_from_length, xor_assoc, xor_zero_r, xor_comm, concat-append, crc_byte, crc_steps, crc_steps-add, crc_steps-split, crc_steps-xor, crc_byte-steps, fold-append, joined, steps, ◌-◌, replicate, append_assoc, replicate-append-replicate, take-replicate, padded, map, refl, range_with_len, get_or-map-range_with_len, subst, pow-suc, mul_assoc, mod-pow-add, pow-add, pow_pos, mod_below, shl_below, shr-shr, crc_step, crc32, crc_steps-swap, crc_steps-shifted, fold-zeros, crc32-slide, after_slide, leaving, ◌≤◌, inl, inr, cases_lt, length-take, get_or_append_left, get_or-append_right, get_or-take, get_or-drop, get_or-replicate, get_or_past, get_or_at, drop_more, length_push, ext_get_or, window, first_chunks, take-add, TABLES, length-window}
use Rattle.std.specs.Prelude.{fold}

-- the lowest byte by its own table, the bits above it by eight steps fewer
byte_more : (m n w sum value : ℕ) → n ≡ m + 1 → sum ≡ steps (8 * m) (w / 256) → value ≡ steps (8 * n) (w % 256) → bit_xor sum value ≡ steps (8 * n) w
unfolding steps
byte_more m n w sum value next sum_is value_is =
    let more : 8 * n ≡ 8 + 8 * m = omega (arith, next) in
    ap₂ bit_xor sum_is (value_is ∙ ap (λ t. crc_steps t (w % 256)) more)
    ∙ xor_comm (crc_steps (8 * m) (w / 256)) (crc_steps (8 + 8 * m) (w % 256))
    ∙ sym (crc_steps-split (8 * m) 8 w)
    ∙ ap (λ t. crc_steps t w) (sym more)

-- a word of four bytes, with a table for each
pub by_four_tables : (w later a b c d : ℕ) (bytes : List ℕ) → w < 2 ^ 32 → bytes ≡ to_le_bytes w32 w → a ≡ steps (8 * (later + 1)) (get_or bytes 3 0) → b ≡ steps (8 * (later + 1 + 1)) (get_or bytes 2 0)
    → c ≡ steps (8 * (later + 2 + 1)) (get_or bytes 1 0) → d ≡ steps (8 * (later + 3 + 1)) (get_or bytes 0 0) → bit_xor (bit_xor (bit_xor a b) c) d ≡ steps (8 * (later + 4)) w
by_four_tables w later a b c d bytes below are a_is b_is c_is d_is =
    let at : (n i : ℕ) → steps (8 * n) (get_or bytes i 0) ≡ steps (8 * n) (get_or (to_le_bytes w32 w) i 0) = λ n i. ap (λ (t : List ℕ). steps (8 * n) (get_or t i 0)) are in
    let high : a ≡ steps (8 * (later + 1)) (w / 2 ^ 16 / 256) = a_is ∙ at (later + 1) 3 ∙ ap (steps (8 * (later + 1))) (omega (arith, below)) in
    let two : bit_xor a b ≡ steps (8 * (later + 1 + 1)) (w / 256 / 256) = byte_more (later + 1) (later + 1 + 1) (w / 2 ^ 16) a b (omega arith) high (b_is ∙ at (later + 1 + 1) 2) ∙ ap (steps (8 * (later + 1 + 1))) (omega arith) in
    let three : bit_xor (bit_xor a b) c ≡ steps (8 * (later + 2 + 1)) (w / 256) = byte_more (later + 1 + 1) (later + 2 + 1) (w / 256) (bit_xor a b) c (omega arith) two (c_is ∙ at (later + 2 + 1) 1) in
    byte_more (later + 2 + 1) (later + 3 + 1) w (bit_xor (bit_xor a b) c) d (omega arith) three (d_is ∙ at (later + 3 + 1) 0) ∙ ap (λ t. steps (8 * t) w) (omega arith)

-- a number and the byte above it
taken : (n c x byte sum : ℕ) → x < 2 ^ n → sum ≡ steps n (bit_xor c x) → crc_byte sum byte ≡ steps (n + 8) (bit_xor c (x + byte * 2 ^ n))
unfolding steps
taken n c x byte sum below is =
    ap (λ t. crc_byte t byte) is
    ∙ crc_byte-steps n (bit_xor c x) byte
    ∙ ap (crc_steps (n + 8)) (xor_assoc c x (byte * 2 ^ n) ∙ ap (bit_xor c) (joined n byte x below ∙ (let e : byte * 2 ^ n + x ≡ x + byte * 2 ^ n = omega arith in e)))

none_taken : (c : ℕ) → c ≡ steps 0 (bit_xor c 0)
unfolding steps
none_taken c = sym (xor_zero_r c)

pub fold_more : (bytes : List ℕ) (c k : ℕ) → k < length bytes → fold crc_byte c (take (k + 1) bytes) ≡ crc_byte (fold crc_byte c (take k bytes)) (get_or bytes k 0)
fold_more bytes c k below = ap (fold crc_byte c) (take_more bytes k 0 below) ∙ fold-append (take k bytes) (get_or bytes k 0 ∷ []) c

-- the first k + 1 bytes as a number, if the first k are x
further : (c : ℕ) (bytes : List ℕ) (k n x : ℕ) → k < length bytes → x < 2 ^ n → fold crc_byte c (take k bytes) ≡ steps n (bit_xor c x) → fold crc_byte c (take (k + 1) bytes) ≡ steps (n + 8) (bit_xor c (x + get_or bytes k 0 * 2 ^ n))
further c bytes k n x within below is = fold_more bytes c k within ∙ taken n c x (get_or bytes k 0) (fold crc_byte c (take k bytes)) below is

-- the bytes of a word, as a number
four_bytes : (c : ℕ) (bytes : List ℕ) → length bytes ≡ 4 → All (λ b. b < 256) bytes → fold crc_byte c bytes ≡ steps 32 (bit_xor c (from_le_bytes w32 bytes))
four_bytes c bytes len all_small =
    let at : ℕ → ℕ = λ i. get_or bytes i 0 in
    let small : (i : ℕ) → i < 4 → at i < 256 = λ i within. All-get_or (λ b. b < 256) bytes i 0 (omega (arith, len, within)) all_small in
    let x1 : ℕ = at 0 in
    let x2 : ℕ = x1 + at 1 * 2 ^ 8 in
    let x3 : ℕ = x2 + at 2 * 2 ^ 16 in
    let s1 : fold crc_byte c (take 1 bytes) ≡ steps 8 (bit_xor c x1) = further c bytes 0 0 0 (omega (arith, len)) (omega arith) (none_taken c) ∙ ap (λ t. steps 8 (bit_xor c t)) (let e : 0 + at 0 * 1 ≡ x1 = omega arith in e) in
    let s2 : fold crc_byte c (take 2 bytes) ≡ steps 16 (bit_xor c x2) = further c bytes 1 8 x1 (omega (arith, len)) (omega (arith, small)) s1 in
    let s3 : fold crc_byte c (take 3 bytes) ≡ steps 24 (bit_xor c x3) = further c bytes 2 16 x2 (omega (arith, len)) (omega (arith, small)) s2 in
    let s4 : fold crc_byte c (take 4 bytes) ≡ steps 32 (bit_xor c (x3 + at 3 * 2 ^ 24)) = further c bytes 3 24 x3 (omega (arith, len)) (omega (arith, small)) s3 in
    ap (fold crc_byte c) (sym (take_all 4 bytes (omega (arith, len)))) ∙ s4

-- the remainder after one more word
after_word : ℕ → List ℕ → ℕ
after_word c word = steps 32 (bit_xor c (from_le_bytes w32 word))

by_words : (n c : ℕ) (bytes : List ℕ) → length bytes ≡ 4 * n → All (λ b. b < 256) bytes → fold crc_byte c bytes ≡ fold after_word c (first_chunks 4 n bytes)
unfolding after_word
by_words zero c bytes len small = ap (fold crc_byte c) (nil_from_length bytes (omega (arith, len)))
by_words (suc n) c bytes len small =
    ap (fold crc_byte c) (sym (take-append-drop 4 bytes))
    ∙ fold-append (take 4 bytes) (drop 4 bytes) c
    ∙ ap (λ t. fold crc_byte t (drop 4 bytes)) (four_bytes c (take 4 bytes) (length-take-le 4 bytes (omega (arith, len))) (All-take (λ b. b < 256) 4 bytes small))
    ∙ by_words n (after_word c (take 4 bytes)) (drop 4 bytes) (length-drop 4 bytes ∙ omega (arith, len)) (All-drop (λ b. b < 256) 4 bytes small)

apart : (n c word : ℕ) → steps n (bit_xor c word) ≡ bit_xor (steps n word) (steps n c)
unfolding steps
apart n c word = ap (crc_steps n) (xor_comm c word) ∙ crc_steps-xor n word c

later : (n c : ℕ) → steps n (steps 32 c) ≡ steps (32 + n) c
unfolding steps
later n c = sym (crc_steps-add 32 n c)

-- four words, each by itself, the last one first
spread : (c x y z w : ℕ) → steps 32 (bit_xor (steps 32 (bit_xor (steps 32 (bit_xor (steps 32 (bit_xor c x)) y)) z)) w) ≡ bit_xor (bit_xor (bit_xor (steps 32 w) (steps 64 z)) (steps 96 y)) (steps 128 (bit_xor c x))
spread c x y z w =
    let one : ℕ = bit_xor c x in
    let two : ℕ = bit_xor (steps 32 one) y in
    let three : ℕ = bit_xor (steps 32 two) z in
    apart 32 (steps 32 three) w
    ∙ ap (bit_xor (steps 32 w)) (later 32 three ∙ apart 64 (steps 32 two) z ∙ ap (bit_xor (steps 64 z)) (later 64 two ∙ apart 96 (steps 32 one) y ∙ ap (bit_xor (steps 96 y)) (later 96 one)))
    ∙ sym (xor_assoc (bit_xor (steps 32 w) (steps 64 z)) (steps 96 y) (steps 128 (bit_xor c x)) ∙ xor_assoc (steps 32 w) (steps 64 z) (bit_xor (steps 96 y) (steps 128 (bit_xor c x))))

pub sixteen_bytes : (c x y z w : ℕ) (bytes : List ℕ) (words : List (List ℕ)) → length bytes ≡ 16 → ((i : ℕ) → get_or bytes i 0 < 256) → words ≡ first_chunks 4 4 bytes
    → x ≡ from_le_bytes w32 (get_or words 0 []) → y ≡ from_le_bytes w32 (get_or words 1 []) → z ≡ from_le_bytes w32 (get_or words 2 []) → w ≡ from_le_bytes w32 (get_or words 3 [])
    → bit_xor (bit_xor (bit_xor (steps 32 w) (steps 64 z)) (steps 96 y)) (steps 128 (bit_xor c x)) ≡ fold crc_byte c bytes
unfolding after_word
sixteen_bytes c x y z w bytes words len small are x_is y_is z_is w_is =
    let at : (i : ℕ) → from_le_bytes w32 (get_or words i []) ≡ from_le_bytes w32 (get_or (first_chunks 4 4 bytes) i []) = λ i. ap (λ (t : List (List ℕ)). from_le_bytes w32 (get_or t i [])) are in
    let more : ℕ → ℕ → ℕ = λ t word. steps 32 (bit_xor t word) in
    sym (spread c x y z w)
    ∙ ap₂ more (ap₂ more (ap₂ more (ap (more c) (x_is ∙ at 0)) (y_is ∙ at 1)) (z_is ∙ at 2)) (w_is ∙ at 3)
    ∙ sym (by_words 4 c bytes len (All-from_get_or (λ b. b < 256) bytes 0 (λ i within. small i)))

pub one_byte : (c byte : ℕ) → crc_byte c byte ≡ bit_xor (steps 8 (bit_xor c byte % 256)) (bit_xor c byte / 256)
unfolding steps
one_byte c byte = crc_steps-split 0 8 (bit_xor c byte)

-- the groups of n bytes, one after the other
pub concat-first_chunks : (n k : ℕ) (xs : List ℕ) → concat (first_chunks n k xs) ≡ take (k * n) xs
concat-first_chunks n zero xs = ap (λ t. take t xs) (let e : 0 ≡ 0 * n = omega arith in e)
concat-first_chunks n (suc k) xs =
    ap (λ t. take n xs ++ t) (concat-first_chunks n k (drop n xs))
    ∙ sym (take-add n (k * n) xs)
    ∙ ap (λ t. take t xs) (let e : n + k * n ≡ suc k * n = omega arith in e)

-- one more group
pub fold_group : (c : ℕ) (groups : List (List ℕ)) (i : ℕ) (none : List ℕ) → i < length groups → fold crc_byte c (concat (take (i + 1) groups)) ≡ fold crc_byte (fold crc_byte c (concat (take i groups))) (get_or groups i none)
fold_group c groups i none below =
    ap (λ t. fold crc_byte c (concat t)) (take_more groups i none below)
    ∙ ap (fold crc_byte c) (concat-append (take i groups) (get_or groups i none ∷ []) ∙ ap (λ t. concat (take i groups) ++ t) (append-nil (get_or groups i none)))
    ∙ fold-append (concat (take i groups)) (get_or groups i none) c

-- the groups, then the rest
pub grouped : (c n after value : ℕ) (bytes rest : List ℕ) (groups : List (List ℕ)) → groups ≡ first_chunks 16 n bytes → rest ≡ drop (n * 16) bytes
    → after ≡ fold crc_byte c (concat groups) → value ≡ fold crc_byte after rest → value ≡ fold crc_byte c bytes
grouped c n after value bytes rest groups groups_are rest_is after_is value_is =
    value_is ∙ ap (fold crc_byte after) rest_is ∙ ap (λ a. fold crc_byte a (drop (n * 16) bytes)) (after_is ∙ ap (λ (gs : List (List ℕ)). fold crc_byte c (concat gs)) groups_are)
    ∙ sym (fold-append (concat (first_chunks 16 n bytes)) (drop (n * 16) bytes) c)
    ∙ ap (fold crc_byte c) (ap (λ t. t ++ drop (n * 16) bytes) (concat-first_chunks 16 n bytes) ∙ take-append-drop (n * 16) bytes)

-- Padding, in pieces.

-- one more piece
pub more_zeros : (bytes : List ℕ) (n k : ℕ) → (bytes ++ replicate (n * k) 0) ++ replicate k 0 ≡ bytes ++ replicate ((n + 1) * k) 0
more_zeros bytes n k = grind (arith, append_assoc, replicate-append-replicate)

-- the last piece
pub last_zeros : (bytes : List ℕ) (s n : ℕ) → n ≡ (s - length bytes) / 1024 → (bytes ++ replicate (n * 1024) 0) ++ take ((s - length bytes) % 1024) (replicate 1024 0) ≡ padded s bytes
last_zeros bytes s n is =
    let missing : ℕ = s - length bytes in
    ap (λ t. (bytes ++ replicate (n * 1024) 0) ++ t) (take-replicate (missing % 1024) 1024 0 (omega arith))
    ∙ append_assoc bytes (replicate (n * 1024) 0) (replicate (missing % 1024) 0)
    ∙ ap (λ t. bytes ++ t) (replicate-append-replicate (n * 1024) (missing % 1024) 0)
    ∙ ap (λ t. bytes ++ replicate t 0) (let e : n * 1024 + missing % 1024 ≡ missing = omega (arith, is) in e)

-- The tables have the entries that they should.

row : ℕ → List ℕ
row k = map (crc_steps (8 * (k + 1))) (range_with_len 0 256)

all_rows : TABLES ≡ map row (range_with_len 0 16)
unfolding row
all_rows = refl

pub entry_is : (k i : ℕ) (none : List ℕ) (d : ℕ) → k < 16 → i < 256 → get_or (get_or TABLES k none) i d ≡ steps (8 * (k + 1)) i
unfolding row steps
entry_is k i none d below within =
    ap (λ table. get_or (get_or table k none) i d) all_rows
    ∙ ap (λ entries. get_or entries i d) (get_or-map-range_with_len row 0 16 k k none below (let e : 0 + k ≡ k = omega arith in e))
    ∙ get_or-map-range_with_len (crc_steps (8 * (k + 1))) 0 256 i i d within (let e : 0 + i ≡ i = omega arith in e)

-- Zero bits after the bytes.

-- steps keep zero
nothing : (n : ℕ) → crc_steps n 0 ≡ 0
nothing n = ap (crc_steps n) (let e : 0 ≡ 0 * 2 ^ n = omega arith in e) ∙ crc_steps-shifted n 0

pub first_product : (n a : ℕ) → 0 ≡ steps n (a % 2 ^ 0 * 2 ^ 32)
unfolding steps
first_product n a = sym (ap (crc_steps n) (let e : a % 1 * 2 ^ 32 ≡ 0 = omega arith in e) ∙ nothing n)

of_bit : (n bit one : ℕ) → bit < 2 → bit * crc_steps n one ≡ crc_steps n (bit * one)
of_bit n zero one below = (let e : 0 * crc_steps n one ≡ 0 = omega arith in e) ∙ sym (ap (crc_steps n) (let e : 0 * one ≡ 0 = omega arith in e) ∙ nothing n)
of_bit n (suc zero) one below = (let e : 1 * crc_steps n one ≡ crc_steps n one = omega arith in e) ∙ ap (crc_steps n) (let e : one ≡ 1 * one = omega arith in e)
of_bit n (suc (suc bit)) one below = absurd (omega (arith, below))

low_part : (i m low : ℕ) → low < 2 ^ i → i + m ≡ 31 → low * 2 ^ m < 2 ^ 31
low_part i m low below is = let Below : ℕ → Type 0 = λ t. low * 2 ^ m < 2 ^ t in subst Below is (shl_below low i m below)

-- one more bit of the factor
pub more_product : (n a b i m product : ℕ) → i + m ≡ 31 → b ≡ steps n 0x80000000 → product ≡ steps n (a % 2 ^ i * 2 ^ suc m) → bit_xor (crc_step product) (a / 2 ^ i % 2 * b) ≡ steps n (a % 2 ^ (i + 1) * 2 ^ m)
unfolding steps
more_product n a b i m product is power product_is =
    let low : ℕ = a % 2 ^ i in
    let bit : ℕ = a / 2 ^ i % 2 in
    let halved : crc_step (crc_steps n (low * 2 ^ suc m)) ≡ crc_steps n (low * 2 ^ m) = (
    sym (crc_steps-swap n 1 (low * 2 ^ suc m))
    ∙ ap (crc_steps n) (ap (crc_steps 1) (ap (λ t. low * t) (pow-suc 2 m) ∙ sym (mul_assoc low (2 ^ m) 2)) ∙ crc_steps-shifted 1 (low * 2 ^ m))
    ) in
    let widths : 2 ^ 31 ≡ 2 ^ i * 2 ^ m = ap (λ t. 2 ^ t) (sym is) ∙ pow-add 2 i m in
    let lower : a % 2 ^ (i + 1) ≡ bit * 2 ^ i + low = ap (λ t. a % 2 ^ t) (let e : i + 1 ≡ 1 + i = omega arith in e) ∙ mod-pow-add a 1 i in
    let widened : bit * 2 ^ 31 + low * 2 ^ m ≡ a % 2 ^ (i + 1) * 2 ^ m = (
    ap (λ t. bit * t + low * 2 ^ m) widths
    ∙ (let e : bit * (2 ^ i * 2 ^ m) + low * 2 ^ m ≡ (bit * 2 ^ i + low) * 2 ^ m = omega arith in e)
    ∙ ap (λ t. t * 2 ^ m) (sym lower)
    ) in
    ap (λ t. bit_xor (crc_step t) (bit * b)) product_is
    ∙ ap (λ t. bit_xor t (bit * b)) halved
    ∙ ap (bit_xor (crc_steps n (low * 2 ^ m))) (ap (λ t. bit * t) power ∙ of_bit n bit 0x80000000 (omega arith))
    ∙ sym (crc_steps-xor n (low * 2 ^ m) (bit * 0x80000000))
    ∙ ap (crc_steps n) (joined 31 bit (low * 2 ^ m) (low_part i m low (mod_below a (2 ^ i) (pow_pos i)) is) ∙ widened)

-- twice as many zeros
pub squared : (n one p square : ℕ) → p ≡ steps n one → ((m : ℕ) → p ≡ steps m one → square ≡ steps m p) → square ≡ steps (n + n) one
unfolding steps
squared n one p square is product = grind (arith, product, crc_steps-add)

-- one more zero byte
pub one_more : (n one p : ℕ) → p ≡ steps n one → crc_byte p 0 ≡ steps (n + 8) one
unfolding steps
one_more n one p is = ap (crc_steps 8) (xor_zero_r p ∙ is) ∙ sym (crc_steps-add n 8 one)

pub zeros_behind : (bytes : List ℕ) (s before after : ℕ) → before ≡ fold crc_byte 0xFFFFFFFF bytes → after ≡ steps (8 * (s - length bytes)) before → bit_xor after 0xFFFFFFFF ≡ crc32 (padded s bytes)
unfolding steps crc32
zeros_behind bytes s before after is behind = rw (behind, is, ← fold-zeros (s - length bytes) (fold crc_byte 0xFFFFFFFF bytes), ← fold-append bytes (replicate (s - length bytes) 0) 0xFFFFFFFF) refl

-- the number's bits without the lowest
halved : (count k : ℕ) → k < 64 → count / 2 ^ (64 - k) ≡ count / 2 ^ (63 - k) / 2
halved count k below = ap (λ t. count / 2 ^ t) (let e : 64 - k ≡ 63 - k + 1 = omega arith in e) ∙ sym (shr-shr count (63 - k) 1)

pub first_power : (count one : ℕ) → count < 2 ^ 64 → one ≡ steps (8 * (count / 2 ^ 64)) one
unfolding steps
first_power count one below = ap (λ t. crc_steps t one) (let e : 0 ≡ 8 * (count / 2 ^ 64) = omega arith in e)

pub even_power : (count k one p square : ℕ) → k < 64 → p ≡ steps (8 * (count / 2 ^ (64 - k))) one → ((m : ℕ) → p ≡ steps m one → square ≡ steps m p) → (count / 2 ^ (63 - k) % 2 ≡ 1 → ⊥) → square ≡ steps (8 * (count / 2 ^ (64 - (k + 1)))) one
even_power count k one p square below is product even =
    let r : ℕ = count / 2 ^ (63 - k) in
    squared (8 * (count / 2 ^ (64 - k))) one p square is product
    ∙ ap (λ t. steps t one)
    (ap (λ t. 8 * t + 8 * t) (halved count k below) ∙ (let e : 8 * (r / 2) + 8 * (r / 2) ≡ 8 * r = omega (arith, even) in e)
    ∙ ap (λ t. 8 * (count / 2 ^ t)) (let e : 63 - k ≡ 64 - (k + 1) = omega arith in e))

pub odd_power : (count k one p square : ℕ) → k < 64 → p ≡ steps (8 * (count / 2 ^ (64 - k))) one → ((m : ℕ) → p ≡ steps m one → square ≡ steps m p) → count / 2 ^ (63 - k) % 2 ≡ 1 → crc_byte square 0 ≡ steps (8 * (count / 2 ^ (64 - (k + 1)))) one
odd_power count k one p square below is product odd =
    let q : ℕ = 8 * (count / 2 ^ (64 - k)) in
    let r : ℕ = count / 2 ^ (63 - k) in
    one_more (q + q) one square (squared q one p square is product)
    ∙ ap (λ t. steps t one)
    (ap (λ t. 8 * t + 8 * t + 8) (halved count k below) ∙ (let e : 8 * (r / 2) + 8 * (r / 2) + 8 ≡ 8 * r = omega (arith, odd) in e)
    ∙ ap (λ t. 8 * (count / 2 ^ t)) (let e : 63 - k ≡ 64 - (k + 1) = omega arith in e))

-- A window slides by a byte.

pub slid : (s out next before : ℕ) (rest : List ℕ) → length rest + 1 ≡ s → before ≡ crc32 (out ∷ rest) → after_slide s before out next ≡ crc32 (rest ++ next ∷ [])
unfolding after_slide leaving steps
slid s out next before rest size before_is =
    ap (λ t. bit_xor (crc_byte t next) (leaving s out)) before_is
    ∙ ap (bit_xor (crc_byte (crc32 (out ∷ rest)) next))
    (ap (λ t. bit_xor (crc_steps (8 * t) (crc32 (out ∷ []))) (crc32 (0 ∷ []))) (sym size ∙ (let e : length rest + 1 ≡ suc (length rest) = omega arith in e)))
    ∙ sym (crc32-slide out next rest)

pub one_slide : (s value out next after adds : ℕ) → after ≡ crc_byte value next → adds ≡ leaving s out → bit_xor after adds ≡ after_slide s value out next
unfolding after_slide
one_slide s value out next after adds after_is adds_is = ap₂ bit_xor after_is adds_is

-- Windows that follow each other.

-- an item is that of the buffer, 0 past its end
pub window_at : (s : ℕ) (bytes : List ℕ) (o k : ℕ) → k < s → get_or (window s bytes o) k 0 ≡ get_or bytes (o + k) 0
window_at s bytes o k below = grind (arith, get_or_append_left, get_or-append_right, get_or-take, get_or-drop, get_or-replicate, get_or_past, length-take, length-drop)

-- a window without its first byte and with the next one is the next window
pub next_window : (s : ℕ) (bytes : List ℕ) (o next : ℕ) → 1 ≤ s → next ≡ get_or bytes (s + o) 0 → drop 1 (window s bytes o) ++ next ∷ [] ≡ window s bytes (o + 1)
next_window s bytes o next some is =
    let w : List ℕ = window s bytes o in
    let rest : List ℕ = drop 1 w in
    let rest_len : length rest + 1 ≡ s = omega (arith, length-drop 1 w, length-window s bytes o, some) in
    ext_get_or 0 (rest ++ next ∷ []) (window s bytes (o + 1))
    (length_push rest next ∙ rest_len ∙ sym (length-window s bytes (o + 1)))
    (λ k inside.
    let below : k < s = omega (arith, inside, length_push rest next, rest_len) in
    elim (cases_lt k (length rest)) [
      | inl early ↦ get_or_append_left rest (next ∷ []) 0 k early ∙ get_or-drop 1 w k 0 ∙ window_at s bytes o (1 + k) (omega (arith, early, rest_len))
          ∙ ap (λ i. get_or bytes i 0) (let e : o + (1 + k) ≡ o + 1 + k = omega arith in e)
          ∙ sym (window_at s bytes (o + 1) k below)
      | inr late ↦ get_or_at rest next [] 0 k (omega (arith, late, below, rest_len)) ∙ is
          ∙ ap (λ i. get_or bytes i 0) (let e : s + o ≡ o + 1 + k = omega (arith, late, below, rest_len) in e)
          ∙ sym (window_at s bytes (o + 1) k below)
    ])

pub first_byte : (s : ℕ) (bytes : List ℕ) (o out : ℕ) → 1 ≤ s → out ≡ get_or bytes o 0 → window s bytes o ≡ out ∷ drop 1 (window s bytes o)
first_byte s bytes o out some is =
    let w : List ℕ = window s bytes o in
    drop_more w 0 0 (omega (arith, length-window s bytes o, some))
    ∙ ap {B = List ℕ} (λ b. b ∷ drop 1 w) (window_at s bytes o 0 some ∙ ap (λ i. get_or bytes i 0) (let e : o + 0 ≡ o = omega arith in e) ∙ sym is)

pub rest_len : (s : ℕ) (bytes : List ℕ) (o : ℕ) → 1 ≤ s → length (drop 1 (window s bytes o)) + 1 ≡ s
rest_len s bytes o some = omega (arith, length-drop 1 (window s bytes o), length-window s bytes o, some)

-- a slide leads to the next window
pub slid_window : (s : ℕ) (bytes : List ℕ) (o value out next : ℕ) → 1 ≤ s → value ≡ crc32 (window s bytes o) → out ≡ get_or bytes o 0 → next ≡ get_or bytes (s + o) 0 → after_slide s value out next ≡ crc32 (window s bytes (o + 1))
slid_window s bytes o value out next some is out_is next_is =
    slid s out next value (drop 1 (window s bytes o)) (rest_len s bytes o some) (is ∙ ap crc32 (first_byte s bytes o out some out_is))
    ∙ ap crc32 (next_window s bytes o next some next_is)
