-- The equations that exponents give for lost slices: which of them elimination keeps, the error locator, and the holes between
-- exponents. Slices are numbers; a word is two bytes.
use Rattle.std.specs.Prelude.{ℕ, ◌+◌, ◌-◌, ◌*◌, ◌^◌, ◌<◌, ◌==◌, ◌≡◌, ◌≢◌, ◌↔◌, Bool, not, if◌then◌else◌, nat_lt, List, length, slice_index, slice_index_or, map, filter}
use Rattle.par2_spec.specs.Prelude.{AllByRecursion, list_any, range_with_len, constant, mul, pow, coefficients, combination, dot, word, field_sum, list_at, quotient, value, with_roots, IsRepairable, IsVector}
use Rattle.par2_spec.specs.Rank as ranks
use Rattle.par2_matrix.specs.Echelon.{HoldsRow}
use Rattle.par2_matrix.specs.Systems.{AreSolutionBuffers, Equations, IsKilled, OnlyZeroIsKilled, Solves, rank}
use Rattle.par2_matrix.specs.declared.holes.Origin.{Origin}
use Rattle.par2_matrix.specs.declared.holes.Origin.TheVariants.{Exponent, Hole}

-- there are n rows, and row r has the field elements whose bytes, two for each, are buffer r
pub record AreByteRows (rows buffers : List (List ℕ)) (n : ℕ) : Type 0 where
  pub count : length rows ≡ n
  pub each : (r : ℕ) → r < n → HoldsRow (list_at rows r) (list_at buffers r) (length (list_at rows r))

-- the bytes are unit vector i of n elements: 1 at i and 0 elsewhere
pub record IsUnit (n i : ℕ) (bytes : List ℕ) : Type 0 where
  pub size : length bytes ≡ 2 * n
  pub one : word i bytes ≡ 1
  pub zeros : (p : ℕ) → p ≢ i → word p bytes ≡ 0

-- the exponents that elimination kept, and the system after it: equation j has unit vector j as its right-hand side
pub record IsEliminated (lost : List ℕ) (units : ℕ) (exponents kept : List ℕ) (system : Equations) : Type 0 where
  pub columns : system.columns ≡ length lost
  pub bytes : system.bytes ≡ 2 * units
  pub are_kept : kept ≡ ranks.kept lost exponents
  pub rank : rank system ≡ ranks.rank lost exponents
  pub repairable : OnlyZeroIsKilled system ↔ IsRepairable lost exponents
  pub solves : (buffers : List (List ℕ)) → AreSolutionBuffers system buffers → Solves system buffers
      → (j : ℕ) → j < length kept → j < units → IsUnit units j (combination (2 * units) (coefficients lost (slice_index kept j)) buffers)

-- the identity matrix: 1 on the diagonal, else 0
abbrev pub identity : ℕ → ℕ → ℕ
identity i k = if i == k then 1 else 0

-- the inverse of the generalized Vandermonde matrix, whose row j has the lost slices' constants to the power of exponent j
pub record IsInverseMatrix (lost exponents : List ℕ) (inverse : List (List ℕ)) : Type 0 where
  pub square : length exponents ≡ length lost
  pub count : length inverse ≡ length lost
  pub vectors : (i : ℕ) → i < length lost → IsVector (length lost) (list_at inverse i)
  pub product : (j k : ℕ) → j < length lost → k < length lost
      → field_sum (length lost) (λ i. mul (slice_index (coefficients lost (slice_index exponents j)) i) (slice_index (list_at inverse i) k)) ≡ identity j k

-- the error locator (Peterson 1960): the polynomial whose roots are the constants of the lost slices
abbrev pub locator : List ℕ → List ℕ
locator lost = with_roots (map constant lost)

-- the coefficient of z ^ x in a polynomial times z ^ u
abbrev pub shifted_at : List ℕ → ℕ → ℕ → ℕ
shifted_at p u x = if nat_lt x u then 0 else slice_index p (x - u)

-- the coefficients of a polynomial times z ^ u at these places
abbrev pub shifted : List ℕ → ℕ → List ℕ → List ℕ
shifted p u places = map (shifted_at p u) places

-- the difference between the last exponent and the first
abbrev pub span : List ℕ → ℕ
span exponents = slice_index exponents (length exponents - 1) - slice_index exponents 0

-- no exponent is at place x
abbrev pub is_hole : List ℕ → ℕ → Bool
is_hole exponents x = not (list_any (λ e. slice_index exponents 0 + x == e) exponents)

-- the places of the holes, which are the numbers from the first exponent to the last that are no exponents; the first has place 0
abbrev pub holes : List ℕ → List ℕ
holes exponents = filter (is_hole exponents) (range_with_len 0 (span exponents))

-- only the zero vector satisfies the first n equations: for u below n, the coefficients of p times z ^ u, at the places, times v, add up to 0
abbrev pub OnlyZeroFits : List ℕ → List ℕ → ℕ → Type 0
OnlyZeroFits p places n = (v : List ℕ) → IsVector (length places) v → ((u : ℕ) → u < n → dot (shifted p u places) v ≡ 0) → AllByRecursion (λ x. x ≡ 0) v

-- a vector that satisfies the first n equations is in the null space; the right-hand side of equation u is unit vector u
pub record AreHoleEquations (p places : List ℕ) (m n : ℕ) (system : Equations) : Type 0 where
  pub columns : system.columns ≡ length places
  pub bytes : system.bytes ≡ 2 * m
  pub kills : (v : List ℕ) → IsVector (length places) v → ((u : ℕ) → u < n → dot (shifted p u places) v ≡ 0) → IsKilled system v
  pub solves : (buffers : List (List ℕ)) → AreSolutionBuffers system buffers → Solves system buffers
      → (u : ℕ) → u < n → u < m → IsUnit m u (combination (2 * m) (shifted p u places) buffers)

-- the inverse of the matrix of the first n equations of the holes, which only the zero vector satisfies
pub record AreHoleInverse (p places : List ℕ) (n : ℕ) (rows : List (List ℕ)) : Type 0 where
  pub count : length rows ≡ length places
  pub vectors : (q : ℕ) → q < length places → IsVector n (list_at rows q)
  pub product : (u k : ℕ) → u < n → k < n
      → field_sum (length places) (λ q. mul (slice_index (shifted p u places) q) (slice_index (list_at rows q) k)) ≡ identity u k
  pub only : OnlyZeroFits p places n

-- the exponent or the hole at place x of the window
abbrev pub IsOriginAt : List ℕ → ℕ → Origin → Type 0
IsOriginAt exponents x (Exponent j) = (j < length exponents) × (slice_index exponents j ≡ slice_index exponents 0 + x)
IsOriginAt exponents x (Hole q) = (q < length (holes exponents)) × (slice_index (holes exponents) q ≡ x)

-- the origins of the first n numbers of the window
pub record AreOrigins (exponents : List ℕ) (n : ℕ) (origins : List Origin) : Type 0 where
  pub count : length origins ≡ n
  pub each : (x : ℕ) → x < n → IsOriginAt exponents x (slice_index_or origins x (Exponent 0))

-- the first n factors of Forney's formula (Forney 1965): 1 over c ^ f times the locator's derivative, the quotient's value, at c
pub record AreFactors (f : ℕ) (lost factors : List ℕ) (n : ℕ) : Type 0 where
  pub count : length factors ≡ n
  pub small : (j : ℕ) → j < n → slice_index factors j < 2 ^ 16
  pub each : (j : ℕ) → j < n → let c = constant (slice_index lost j) in mul (mul (pow c f) (value (quotient c (locator lost)) c)) (slice_index factors j) ≡ 1
