-- For the prover: tests of each element determine the lists that contracts name.
use Rattle.recovery_calls.proofs.Common.{ℕ, suc, ◌<◌, ◌≤◌, ◌≡◌, refl, ap, subst, arith, List, [], ◌∷◌, length, map, All, IfSome, Option, Some, None, Bor, AllByRecursion, AllAdjacentBelow}
use Rattle.std.specs.List.Sorted.{IsStrictlyIncreasing}
use Rattle.par2_spec.proofs.ListsLaws.{increasing}
use Rattle.par2_solve.specs.Rebuilding.{exponents_of, known_alone, recovered_of}

each_mapped : {A B : Type 0} (f : A → B) (P : B → Type 0) (xs : List A) → All (λ x. P (f x)) xs → AllByRecursion P (map f xs)
each_mapped f P [] h = tt
each_mapped f P (x ∷ xs) h = (h 0 x (omega arith), each_mapped f P xs (λ k d low. h (suc k) d (omega arith)))

pub known_fits : (s : ℕ) (known : List (Option (Bor (List ℕ)))) → All (λ slice. IfSome slice (λ bytes. length bytes.now ≤ s)) known → AllByRecursion (λ slice. length slice.now ≤ s) (known_alone known)
known_fits s [] h = tt
known_fits s (None ∷ known) h = known_fits s known (λ k d low. h (suc k) d (omega arith))
known_fits s (Some bytes ∷ known) h = (h 0 (Some bytes) (omega arith), known_fits s known (λ k d low. h (suc k) d (omega arith)))

pub recovery_fits : (s : ℕ) (recovery : List (ℕ × Bor (List ℕ))) → All (λ r. length r.1.now ≡ s) recovery → AllByRecursion (λ r. length r.1 ≡ s) (recovered_of recovery)
recovery_fits s recovery h = each_mapped (λ (r : ℕ × Bor (List ℕ)). (r.0, r.1.now)) (λ r. length r.1 ≡ s) recovery h

exponents_are : (recovery : List (ℕ × Bor (List ℕ))) → map (λ (r : ℕ × Bor (List ℕ)). r.0) recovery ≡ exponents_of recovery
exponents_are [] = refl
exponents_are (r ∷ recovery) = ap (λ es. r.0 ∷ es) (exponents_are recovery)

pub exponents_rise : (recovery : List (ℕ × Bor (List ℕ))) → AllAdjacentBelow (λ a b. a.0 < b.0) recovery (length recovery) → IsStrictlyIncreasing (exponents_of recovery)
exponents_rise recovery h = subst IsStrictlyIncreasing (exponents_are recovery) (increasing (λ (r : ℕ × Bor (List ℕ)). r.0) recovery h)
