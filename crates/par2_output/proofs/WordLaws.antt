-- The words of a command by their places.
use Rattle.par2_output.proofs.Common.{◌≡◌, ◌∙◌, ◌-◌, ◌<◌, ◌≤◌, ℕ, zero, suc, List, [], ◌∷◌, map, length, refl, ap, sym, arith, word_at, get_or-map, get_or_past, length-map, get_or}

word_at-get_or : (words : List (List ℕ)) (k : ℕ) → word_at words k ≡ get_or words k []
word_at-get_or [] k = refl
word_at-get_or (word ∷ words) zero = refl
word_at-get_or (word ∷ words) (suc k) = word_at-get_or words k

-- the further words are after place 0
further : (base : List ℕ) (words : List (List ℕ)) (place : ℕ) → (place ≡ 0 → ⊥) → word_at words (place - 1) ≡ word_at (base ∷ words) place
further base words zero past = absurd (past refl)
further base words (suc k) past = let e : suc k - 1 ≡ k = omega arith in ap (word_at words) e

pub listed_word : {X : Type 0} (f : X → List ℕ) (base : List ℕ) (words : List X) (place : ℕ) (word : X) → (place ≡ 0 → ⊥) → place - 1 < length words
    → f (get_or words (place - 1) word) ≡ word_at (base ∷ map f words) place
listed_word f base words place word past within =
    sym (get_or-map f words (place - 1) word [] within) ∙ sym (word_at-get_or (map f words) (place - 1)) ∙ further base (map f words) place past

pub no_word : {X : Type 0} (f : X → List ℕ) (base : List ℕ) (words : List X) (place : ℕ) → (place ≡ 0 → ⊥) → length words ≤ place - 1
    → [] ≡ word_at (base ∷ map f words) place
no_word f base words place past none =
    sym (word_at-get_or (map f words) (place - 1) ∙ get_or_past (map f words) (place - 1) [] (omega (arith, none, length-map words f))) ∙ further base (map f words) place past
