-- Doubling as a 16-bit shift, and powers of powers.
use Rattle.par2_spec.proofs.Common.{ℕ, zero, suc, ◌+◌, ◌*◌, ◌%◌, ◌<◌, ◌≤◌, ◌≡◌, refl, sym, ap, ◌∙◌, arith, zero-mul, mul_comm, zero-add, xor_block, xor_zero_r, mul, pow, bit_xor}
use Rattle.par2_spec.proofs.Basics.{product-one, power-add, power-65535, logarithm}
use Rattle.par2_spec.proofs.FieldLaws.{double}

-- doubling as the code does it
pub double_low : (x : ℕ) → x < 32768 → double x ≡ x * 2
double_low x h = unfold double in grind (arith, xor_zero_r)

pub double_high : (x : ℕ) → 32768 ≤ x → x < 65536 → double x ≡ bit_xor (x * 2 % 65536) 4107
double_high x h k = unfold double in grind (arith, (xor_block 16 1 1 (x * 2 % 65536) 4107 (omega arith) (omega arith)), zero-add)

pub power-mul : (a m n : ℕ) → a < 65536 → pow (pow a m) n ≡ pow a (n * m)
unfolding pow
power-mul a m zero h = sym (ap (pow a) (zero-mul m))
power-mul a m (suc n) h =
    ap (mul (pow a m)) (power-mul a m n h) ∙ sym (power-add a m (n * m) h) ∙ ap (pow a) (let e : m + n * m ≡ suc n * m = omega arith in e)

pub one-power : (n : ℕ) → pow 1 n ≡ 1
unfolding pow
one-power zero = refl
one-power (suc n) = ap (mul 1) (one-power n) ∙ product-one 1 (omega arith)

pub power_inverse : (a : ℕ) → 0 < a → a < 65536 → mul a (pow a 65534) ≡ 1
power_inverse a z h = unfold pow in
    let log = logarithm a z h in
    let whole : pow a 65535 ≡ 1 =
    ap (λ v. pow v 65535) (sym log.1.1) ∙ power-mul 2 log.0 65535 (omega arith)
    ∙ ap (pow 2) (mul_comm 65535 log.0) ∙ sym (power-mul 2 65535 log.0 (omega arith))
    ∙ ap (λ v. pow v log.0) power-65535 ∙ one-power log.0 in
    ap (λ v. mul v (pow a 65534)) (sym (product-one a h)) ∙ sym (power-add a 1 65534 h) ∙ whole
