-- Whether the surviving recovery slices determine the lost slices, by linear equations (Parity Volume Set Specification
-- 2.0, "Description of the algorithm"). Each surviving exponent is a row of the matrix, and each lost slice a column. A
-- vector has an element for each lost slice.
use Rattle.std.specs.Prelude.{◌≡◌, ◌<◌, ◌≢◌, ℕ, ◌^◌, ◌%◌, ◌==◌, ◌&&◌, ◌||◌, Bool, not, List, [], length, map, filter, zip, nat_lt, Option, is_none, unwrap_or}
use Rattle.std.specs.List.{list_any, list_all, AllByRecursion, AllZip}
use Rattle.std.specs.Option.{ForSome}
use Rattle.std.specs.Str.{bytes_eq}
use Rattle.par2_spec.specs.Recovery.{dot, coefficients, recovery}
use Rattle.par2_spec.specs.Lists.{vectors}

-- ---- linear algebra

-- a vector of n elements
abbrev pub IsVector : ℕ → List ℕ → Type 0
IsVector n v = (length v ≡ n) × AllByRecursion (λ x. x < 2 ^ 16) v

-- row e kills the vector: their product is 0, so the vector is in the null space of the row
abbrev pub Kills : List ℕ → ℕ → List ℕ → Type 0
Kills lost e v = dot (coefficients lost e) v ≡ 0

-- the lost slices are determined: only the zero vector is killed by all survivors, so the null space is trivial and the
-- columns are linearly independent
abbrev pub IsRepairable : List ℕ → List ℕ → Type 0
IsRepairable lost survivors = (v : List ℕ) → IsVector (length lost) v → AllByRecursion (λ e. Kills lost e v) survivors → AllByRecursion (λ x. x ≡ 0) v

-- row e is linearly independent of the rows of smaller survivors: they all kill some vector that it does not.
-- Gauss-Jordan elimination finds a pivot in it
abbrev pub IsKept : List ℕ → List ℕ → ℕ → Type 0
IsKept lost survivors e = (v : List ℕ) × IsVector (length lost) v × AllByRecursion (λ other. other < e → Kills lost other v) survivors × (Kills lost e v → ⊥)

-- ---- the same as Boolean tests over all vectors, which no code runs; `tests_say_the_words` proves them equivalent

-- the row kills the vector
abbrev pub kills : List ℕ → List ℕ → Bool
kills v row = dot row v == 0

-- the zero vector
abbrev pub is_zero : List ℕ → Bool
is_zero v = list_all (λ x. x == 0) v

-- the null space of the rows is trivial: only the zero vector of n elements is killed by all of them
unfoldable pub is_solvable : ℕ → List (List ℕ) → Bool
unfolding dot
is_solvable n rows = not (list_any (λ v. not (is_zero v) && list_all (kills v) rows) (vectors n))

-- the row is linearly independent of those before: they all kill some vector of n elements that it does not
unfoldable pub is_independent : ℕ → List (List ℕ) → List ℕ → Bool
unfolding dot
is_independent n before row = list_any (λ v. list_all (kills v) before && not (kills v row)) (vectors n)

-- the survivors determine the lost slices
abbrev pub is_repairable : List ℕ → List ℕ → Bool
is_repairable lost survivors = is_solvable (length lost) (map (coefficients lost) survivors)

-- the survivors below e
abbrev pub smaller : ℕ → List ℕ → List ℕ
smaller e survivors = filter (λ x. nat_lt x e) survivors

-- the kept exponents: the survivors whose rows are linearly independent of the rows of smaller survivors
abbrev pub kept : List ℕ → List ℕ → List ℕ
kept lost survivors = filter (λ e. is_independent (length lost) (map (coefficients lost) (smaller e survivors)) (coefficients lost e)) survivors

-- the rank of the survivors' rows: how many exponents are kept
abbrev pub rank : List ℕ → List ℕ → ℕ
rank lost survivors = length (kept lost survivors)

-- ---- the rebuilt slices

-- a list of slices of s bytes agrees with the known ones and with these recovery slices
pub record Agrees (s : ℕ) (known : List (Option (List ℕ))) (recovered : List (ℕ × List ℕ)) (slices : List (List ℕ)) : Type 0 where
  pub sizes : AllByRecursion (λ content. length content ≡ s) slices
  pub bytes : AllByRecursion (λ content. AllByRecursion (λ b. b < 256) content) slices
  pub as_known : AllZip (λ slice content. ForSome slice (λ found. content ≡ found)) known slices
  pub as_recovered : AllByRecursion (λ r. recovery s slices r.0 ≡ r.1) recovered

-- a list other than this one agrees
abbrev pub AnotherAgrees : ℕ → List (Option (List ℕ)) → List (ℕ × List ℕ) → List (List ℕ) → Type 0
AnotherAgrees s known recovered slices = (others : List (List ℕ)) × Agrees s known recovered others × (others ≢ slices)

-- the slice is unknown, or known to have these bytes
abbrev pub is_as_known : Option (List ℕ) × List ℕ → Bool
is_as_known z = is_none z.0 || bytes_eq (unwrap_or z.0 []) z.1

-- `Agrees` as a Boolean test of lists of slices of s bytes
unfoldable pub agrees : ℕ → List (Option (List ℕ)) → List (ℕ × List ℕ) → List (List ℕ) → Bool
unfolding recovery
agrees s known recovered slices =
    length slices == length known && list_all is_as_known (zip known slices)
    && list_all (λ r. bytes_eq (recovery s slices r.0) r.1) recovered

-- the recovery slices of the kept exponents
abbrev pub kept_slices : List ℕ → List ℕ → List (ℕ × List ℕ) → List (ℕ × List ℕ)
kept_slices lost survivors recovered = filter (λ r. list_any (λ e. e == r.0) (kept lost survivors)) recovered

-- the one list of slices that agrees with the known ones and the recovery slices of the kept exponents
pub record IsRebuilt (s : ℕ) (known : List (Option (List ℕ))) (recovered : List (ℕ × List ℕ)) (slices : List (List ℕ)) : Type 0 where
  pub agrees : Agrees s known recovered slices
  pub only : (others : List (List ℕ)) → Agrees s known recovered others → others ≡ slices

-- ---- premises on what survives

-- numbers below 256
abbrev pub AreBytes : List ℕ → Type 0
AreBytes bytes = AllByRecursion (λ b. b < 256) bytes

-- the known slices have s bytes, and so have the recovery slices, whose exponents are below m. `content` gives each
-- exponent its recovery slice, so an exponent has only one
pub record AreSurvivors (s m : ℕ) (known : List (Option (List ℕ))) (recovery : List (ℕ × List ℕ)) (content : ℕ → List ℕ) : Type 0 where
  pub even : s % 2 ≡ 0
  pub known_sizes : AllByRecursion (λ slice. ForSome slice (λ found. length found ≡ s)) known
  pub known_bytes : AllByRecursion (λ slice. ForSome slice AreBytes) known
  pub bytes : (e : ℕ) → AreBytes (content e)
  pub each : AllByRecursion (λ r. (r.0 < m) × (length r.1 ≡ s) × (content r.0 ≡ r.1)) recovery

-- at least two lists agree
abbrev pub TwoAgree : ℕ → List (Option (List ℕ)) → List (ℕ × List ℕ) → Type 0
TwoAgree s known recovered =
    (slices : List (List ℕ)) × Agrees s known recovered slices × AnotherAgrees s known recovered slices
