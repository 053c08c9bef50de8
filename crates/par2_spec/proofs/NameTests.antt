-- The tests of a name, one by one.
use Rattle.par2_spec.proofs.Common.{◌≡◌, ◌∙◌, ℕ, List, [], ◌∷◌, length, ap, refl, true, false, not, arith, codes, nat_le, nat_eq, ◌==◌, list_all, list_any, starts_with, bytes_eq, is_utf8, IsUtf8, and_parts, or_from, false_from_ne_true, IsUtf8-from_is_utf8, is_among, is_name}
use Rattle.par2_spec.proofs.Basics.{clash, other_name}

pub record Tests (name : List ℕ) : Type 0 where
  pub some : nat_le 1 (length name) ≡ true
  pub short : nat_le (length name) 255 ≡ true
  pub bytes : is_utf8 name ≡ true
  pub no_slash : not (list_any (λ b. b == 0x2F) name) ≡ true
  pub no_zero : not (list_any (λ b. b == 0) name) ≡ true
  pub no_dot : not (bytes_eq name (codes ".")) ≡ true
  pub no_dots : not (bytes_eq name (codes "..")) ≡ true
  pub no_undo : not (starts_with nat_eq name (codes ".par2undo")) ≡ true

pub tests_of : (name : List ℕ) → is_name name ≡ true → Tests name
tests_of name h = unfold is_name in grind (arith, and_parts)

pub name_of : (name : List ℕ) → Tests name → is_name name ≡ true
name_of name t = unfold is_name in grind arith

pub name_is_short : (name : List ℕ) → is_name name ≡ true → nat_le (length name) 255 ≡ true
name_is_short name h = (tests_of name h).short

-- bytes that are not UTF-8 are not a valid name
pub no_bytes : (bytes : List ℕ) → (IsUtf8 bytes → ⊥) → is_name bytes ≡ false
no_bytes bytes not_bytes = false_from_ne_true (is_name bytes) (λ h. not_bytes (IsUtf8-from_is_utf8 bytes (tests_of bytes h).bytes))

-- a name that is not valid is not among valid names
pub no_name : (names : List (List ℕ)) (bytes : List ℕ) → list_all is_name names ≡ true → is_name bytes ≡ false → is_among names bytes ≡ false
no_name [] bytes h unnamed = refl
no_name (name ∷ names) bytes h unnamed =
    let all = and_parts (is_name name) (list_all is_name names) h in
    or_from _ _ (other_name bytes name (λ e. clash (ap is_name e ∙ all.0) unnamed)) (no_name names bytes all.1 unnamed)
