-- CRC-32 is linear over exclusive or, for a bit, a byte or any number of bytes.
use Rattle.par2_spec.proofs.Common.{◌≡◌, ℕ, zero, suc, ◌+◌, ◌*◌, ◌^◌, ◌<◌, ◌%◌, ◌/◌, List, [], ◌∷◌, ◌++◌, length, refl, sym, ap, ◌∙◌, arith, pow-suc, zero-mul, pow_pos, fold, replicate, xor_assoc, xor_self, xor_zero_r, mul_assoc, xor_comm, xor_shr, xor_block, shr_split, mod_below, length_push, bit_at_lowest, bit_at_xor, crc_step, crc_steps, crc_byte, crc32, bit_xor}
use Rattle.par2_spec.proofs.Basics.{xor_middle, xor_off}

lowest_of_xor : (a b : ℕ) → bit_xor a b % 2 ≡ (a % 2 + b % 2) % 2
lowest_of_xor a b = grind (arith, (bit_at_lowest (bit_xor a b)), (bit_at_xor a b 0), (bit_at_lowest a), (bit_at_lowest b))

either_bit : (x y m : ℕ) → x < 2 → y < 2 → (x + y) % 2 * m ≡ bit_xor (x * m) (y * m)
either_bit zero zero m p q = zero-mul m ∙ sym (ap (λ t. bit_xor t (0 * m)) (zero-mul m) ∙ zero-mul m)
either_bit zero (suc zero) m p q = sym (ap (λ t. bit_xor t (1 * m)) (zero-mul m))
either_bit (suc zero) zero m p q = sym (ap (bit_xor (1 * m)) (zero-mul m) ∙ xor_comm (1 * m) 0)
either_bit (suc zero) (suc zero) m p q = zero-mul m ∙ sym (xor_self (1 * m))
either_bit (suc (suc x)) y m p q = absurd (omega (arith, p))
either_bit x (suc (suc y)) m p q = absurd (omega (arith, q))

below_two : (n : ℕ) → n % 2 < 2
below_two n = omega arith

pub crc_step-xor : (a b : ℕ) → crc_step (bit_xor a b) ≡ bit_xor (crc_step a) (crc_step b)
crc_step-xor a b = grind (arith, (xor_shr a b 1), (lowest_of_xor a b), (either_bit (a % 2) (b % 2) 0xEDB88320 (below_two a) (below_two b)), (xor_middle (a / 2) (b / 2) (a % 2 * 0xEDB88320) (b % 2 * 0xEDB88320)))

pub crc_steps-xor : (n a b : ℕ) → crc_steps n (bit_xor a b) ≡ bit_xor (crc_steps n a) (crc_steps n b)
crc_steps-xor zero a b = refl
crc_steps-xor (suc n) a b = ap (crc_steps n) (crc_step-xor a b) ∙ crc_steps-xor n (crc_step a) (crc_step b)

pub crc_steps-add : (m n c : ℕ) → crc_steps (m + n) c ≡ crc_steps n (crc_steps m c)
crc_steps-add zero n c = ap (λ k. crc_steps k c) (let e : 0 + n ≡ n = omega arith in e)
crc_steps-add (suc m) n c = ap (λ k. crc_steps k c) (let e : suc m + n ≡ suc (m + n) = omega arith in e) ∙ crc_steps-add m n (crc_step c)

-- two numbers of steps can be swapped
pub crc_steps-swap : (m n c : ℕ) → crc_steps m (crc_steps n c) ≡ crc_steps n (crc_steps m c)
crc_steps-swap m n c = sym (crc_steps-add n m c) ∙ ap (λ k. crc_steps k c) (let e : n + m ≡ m + n = omega arith in e) ∙ crc_steps-add m n c

-- n steps remove n zero bits
pub crc_steps-shifted : (n x : ℕ) → crc_steps n (x * 2 ^ n) ≡ x
crc_steps-shifted zero x = let e : x * 1 ≡ x = omega arith in e
crc_steps-shifted (suc n) x = grind (arith, (pow-suc 2 n), (mul_assoc x (2 ^ n) 2), xor_zero_r, (crc_steps-shifted n x))

-- a low part and a high part, as a sum and as an exclusive or
pub joined : (n high low : ℕ) → low < 2 ^ n → bit_xor low (high * 2 ^ n) ≡ high * 2 ^ n + low
joined n high low below = grind (arith, (xor_block n 0 high low 0 below (pow_pos n)), (xor_zero_r low))

pub parted : (n c : ℕ) → c ≡ bit_xor (c % 2 ^ n) (c / 2 ^ n * 2 ^ n)
parted n c = sym (shr_split c n) ∙ sym (joined n (c / 2 ^ n) (c % 2 ^ n) (mod_below c (2 ^ n) (pow_pos n)))

-- the low n bits and the others
pub crc_steps-split : (m n c : ℕ) → crc_steps (n + m) c ≡ bit_xor (crc_steps (n + m) (c % 2 ^ n)) (crc_steps m (c / 2 ^ n))
crc_steps-split m n c = grind (arith, (parted n c), (crc_steps-xor (n + m) (c % 2 ^ n) (c / 2 ^ n * 2 ^ n)), (crc_steps-add n m (c / 2 ^ n * 2 ^ n)), (crc_steps-shifted n (c / 2 ^ n)))

-- a byte after n bits is the next eight bits, above these n
pub crc_byte-steps : (n c byte : ℕ) → crc_byte (crc_steps n c) byte ≡ crc_steps (n + 8) (bit_xor c (byte * 2 ^ n))
crc_byte-steps n c byte = grind (arith, crc_steps-shifted, crc_steps-xor, crc_steps-add)

pub crc_byte-xor : (a b byte : ℕ) → crc_byte (bit_xor a b) byte ≡ bit_xor (crc_byte a byte) (crc_steps 8 b)
crc_byte-xor a b byte = grind (arith, (xor_assoc a b byte), (xor_comm b byte), (xor_assoc a byte b), (crc_steps-xor 8 (bit_xor a byte) b))

more_steps : (n c : ℕ) → crc_steps (8 * n) (crc_steps 8 c) ≡ crc_steps (8 * suc n) c
more_steps n c = sym (crc_steps-add 8 (8 * n) c) ∙ ap (λ k. crc_steps k c) (let e : 8 + 8 * n ≡ 8 * suc n = omega arith in e)

-- a change of the remainder passes through the bytes independently
pub fold-xor : (bytes : List ℕ) (a b : ℕ) → fold crc_byte (bit_xor a b) bytes ≡ bit_xor (fold crc_byte a bytes) (crc_steps (8 * length bytes) b)
fold-xor [] a b = refl
fold-xor (byte ∷ bytes) a b = grind (arith, crc_byte-xor, more_steps, fold-xor bytes (crc_byte a byte) (crc_steps 8 b))

pub fold-append : (xs ys : List ℕ) (c : ℕ) → fold crc_byte c (xs ++ ys) ≡ fold crc_byte (fold crc_byte c xs) ys
fold-append [] ys c = refl
fold-append (x ∷ xs) ys c = fold-append xs ys (crc_byte c x)

-- zeros only take steps
pub fold-zeros : (n c : ℕ) → fold crc_byte c (replicate n 0) ≡ crc_steps (8 * n) c
fold-zeros zero c = refl
fold-zeros (suc n) c = grind (arith, (xor_zero_r c), (fold-zeros n (crc_steps 8 c)), (more_steps n c))

stepped : (p q r s : ℕ) → bit_xor (bit_xor (bit_xor p q) r) s ≡ bit_xor p (bit_xor r (bit_xor q s))
stepped p q r s = grind (arith, (xor_assoc (bit_xor p q) r s), (xor_assoc p q (bit_xor r s)), (xor_assoc q r s), (xor_comm q r), (xor_assoc r q s))

-- a window moves on by a byte
pub crc32-slide : (out next : ℕ) (rest : List ℕ) → crc32 (rest ++ next ∷ []) ≡ bit_xor (crc_byte (crc32 (out ∷ rest)) next) (bit_xor (crc_steps (8 * suc (length rest)) (crc32 (out ∷ []))) (crc32 (0 ∷ [])))
crc32-slide out next rest = unfold crc32 in
    let ones : ℕ = 0xFFFFFFFF in
    let whole : ℕ = fold crc_byte ones (out ∷ rest) in
    let first : ℕ = crc_byte ones out in
    let behind : ℕ = crc_steps (8 * suc (length rest)) (bit_xor first ones) in
    let after : ℕ = fold crc_byte ones (rest ++ next ∷ []) in
    let both : bit_xor after behind ≡ crc_byte whole next = (
    ap (λ k. bit_xor after (crc_steps (8 * k) (bit_xor first ones))) (sym (length_push rest next ∙ (let e : length rest + 1 ≡ suc (length rest) = omega arith in e)))
    ∙ sym (fold-xor (rest ++ next ∷ []) ones (bit_xor first ones))
    ∙ ap (λ c. fold crc_byte c (rest ++ next ∷ [])) (xor_comm ones (bit_xor first ones) ∙ xor_off first ones)
    ∙ fold-append rest (next ∷ []) first
    ) in
    let here : crc_byte whole next ≡ bit_xor (crc_byte (bit_xor whole ones) next) (crc_steps 8 ones) = (
    ap (λ c. crc_byte c next) (sym (xor_off whole ones)) ∙ crc_byte-xor (bit_xor whole ones) ones next
    ) in
    grind (arith, (xor_off after behind), both, here, (stepped (crc_byte (bit_xor whole ones) next) (crc_steps 8 ones) behind ones))
