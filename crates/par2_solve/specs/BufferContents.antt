-- The contents of buffers, without where they are in memory, and the inverses that compute lost slices: products of a
-- matrix and buffers, syndromes, errors' locators. A word is two bytes; a buffer that is too short is read as if zeros followed.
use Rattle.par2_spec.specs.Prelude.{range_with_len, mul, coefficients, dot, word, field_sum, list_at, lists_of, IsStrictlyIncreasing, IsRepairable}
use Rattle.std.specs.Prelude.{List, Vec, [], bit_xor, drop, length, map, replicate, reverse, slice_index, take, ℕ, ◌*◌, ◌++◌, ◌+◌, ◌-◌, ◌<◌, ◌^◌, ◌≡◌, ◌≤◌}
use Rattle.std.specs.declared.alloc.Global.{Global}
pub use Rattle.par2_transform.specs.Chirps.{AreByteLists, byte_lists, recovered, words_at}
use Rattle.par2_gf16.specs.Words.{AddsEach}
use Rattle.par2_transform.specs.Outputs.{Adds as AddsToOutputs}
use Rattle.par2_transform.specs.declared.recovery.Transform.{Transform}
use Rattle.par2_solve.specs.declared.targets.Targets.{Targets}
use Rattle.par2_spec.specs.Rank as ranks
use Rattle.par2_matrix.specs.LostSlices.{AreHoleInverse, AreOrigins, IsInverseMatrix, holes, locator, span}
use Rattle.par2_transform.specs.Locators.{numerator, quotient_coefficient}
use Rattle.par2_transform.specs.declared.locator.Locator.{Locator}
use Rattle.par2_solve.specs.declared.holes.Filling.{Filling}
use Rattle.par2_matrix.specs.declared.holes.Origin.{Origin}
use Rattle.par2_matrix.specs.declared.holes.Origin.TheVariants.{Exponent, Hole}
use Rattle.par2_solve.specs.declared.inverse.Inversion.{Inversion}
use Rattle.par2_solve.specs.declared.inverse.Inverse.{Inverse}
use Rattle.par2_solve.specs.declared.inverse.Inverse.TheVariants.{Filled, Located, Rows}

-- n buffers of s zeros
pub record AreBlank (s n : ℕ) (lists : List (List ℕ)) : Type 0 where
  pub count : length lists ≡ n
  pub each : (r : ℕ) → r < n → list_at lists r ≡ replicate s 0

-- one source, times target r's factor, was added to each of the first n targets, in the words from `from` up to `to`
pub record AddsSource (factor source : ℕ → ℕ) (old new : List (List ℕ)) (from to n : ℕ) : Type 0 where
  pub count : length new ≡ length old
  pub done : (r : ℕ) → r < n → AddsEach (λ p. mul (factor r) (source p)) (list_at old r) (list_at new r) from to
  pub rest : (r : ℕ) → n ≤ r → list_at new r ≡ list_at old r

-- word p of the product of row r and the first n sources
abbrev pub products : ℕ → List (List ℕ) → List (List ℕ) → ℕ → ℕ → ℕ
products n factors sources r p = field_sum n (λ k. mul (slice_index (list_at factors r) k) (word p (list_at sources k)))

-- the products of the first n sources were added to the targets, in the words from `from` up to `to`
pub record Adds (factors sources old new : List (List ℕ)) (from to n : ℕ) : Type 0 where
  pub count : length new ≡ length old
  pub sizes : (r : ℕ) → length (list_at new r) ≡ length (list_at old r)
  pub inside : (r p : ℕ) → r < length old → from ≤ p → p < to → 2 * p + 1 < length (list_at old r)
      → word p (list_at new r) ≡ bit_xor (word p (list_at old r)) (products n factors sources r p)
  pub below : (r p : ℕ) → p < from → word p (list_at new r) ≡ word p (list_at old r)
  pub above : (r p : ℕ) → to ≤ p → word p (list_at new r) ≡ word p (list_at old r)

-- at most n bytes of a buffer, from `from` on
abbrev pub chunk : ℕ → ℕ → List ℕ → List ℕ
chunk from n bytes = take n (drop from bytes)

-- the exponents from place `at` up to `end` are consecutive
abbrev pub AreConsecutive : List ℕ → ℕ → ℕ → Type 0
AreConsecutive exponents at end = (k : ℕ) → at + k < end → slice_index exponents (at + k) ≡ slice_index exponents at + k

-- word w of syndrome j (Reed-Solomon decoding): that of recovery slice j plus the contribution of the known slices
abbrev pub syndrome : (exponents : List ℕ) (known slices : List (List ℕ)) → ℕ → ℕ → ℕ
syndrome exponents known slices w j = bit_xor (word w (list_at slices j)) (recovered known (slice_index exponents j) w)

-- n buffers of s bytes; word w of buffer r is `side w r`
pub record AreSums (s n : ℕ) (side : ℕ → ℕ → ℕ) (sums : List (List ℕ)) : Type 0 where
  pub count : length sums ≡ n
  pub sizes : (r : ℕ) → r < n → length (list_at sums r) ≡ s
  pub words : (r w : ℕ) → r < n → 2 * w + 1 < s → word w (list_at sums r) ≡ side w r

-- sums of s bytes: the matrix times the buffers
abbrev pub AreProducts : ℕ → (rows buffers sums : List (List ℕ)) → Type 0
AreProducts s rows buffers sums = AreSums s (length rows) (λ w r. products (length buffers) rows buffers r w) sums

-- a buffer of s bytes for each lost slice; at each word w they solve the exponents' equations with the right-hand sides `side w`
pub record AreSolved (s : ℕ) (lost exponents : List ℕ) (side : ℕ → ℕ → ℕ) (buffers : List (List ℕ)) : Type 0 where
  pub count : length buffers ≡ length lost
  pub sizes : (r : ℕ) → r < length lost → length (list_at buffers r) ≡ s
  pub words : (j w : ℕ) → j < length lost → 2 * w + 1 < s → dot (coefficients lost (slice_index exponents j)) (map (word w) buffers) ≡ side w j

-- its block was appended to each of the first n buffers
pub record AreExtended (old blocks new : List (List ℕ)) (n : ℕ) : Type 0 where
  pub count : length new ≡ length old
  pub each : (r : ℕ) → r < n → list_at new r ≡ list_at old r ++ list_at blocks r
  pub rest : (r : ℕ) → n ≤ r → list_at new r ≡ list_at old r

-- each exponent is one of the `count` numbers from `first` on
abbrev pub AreWithin : ℕ → ℕ → List ℕ → Type 0
AreWithin first count exponents = (j : ℕ) → j < length exponents → (first ≤ slice_index exponents j) × (slice_index exponents j - first < count)

-- the exponents are among the `count` numbers from the first of them on, and each number is below 2 ^ 32
pub record IsSpanOf (exponents : List ℕ) (count : ℕ) : Type 0 where
  pub some : 0 < length exponents
  pub within : AreWithin (slice_index exponents 0) count exponents
  pub fits : slice_index exponents 0 + count ≤ 2 ^ 32
  -- at most half of the numbers are no exponents
  pub few : count ≤ 2 * length exponents + 1

-- the lists at the exponents, where list x is that of number `first + x`
abbrev pub picked : ℕ → List ℕ → List (List ℕ) → List (List ℕ)
picked first exponents lists = map (λ e. list_at lists (e - first)) exponents

-- each list has at least n items
abbrev pub HaveAtLeast : ℕ → List (Vec ℕ Global) → Type 0
HaveAtLeast n lists = (r : ℕ) → r < length lists → n ≤ length (list_at (lists_of lists) r)

-- to each output, the recovery slice of its exponent is added
abbrev pub AddsRecovery : Transform → Targets → List (Vec ℕ Global) → List (Vec ℕ Global) → Type 0
AddsRecovery transform targets = AddsToOutputs targets.outputs (λ t p. recovered (byte_lists transform.slices.now) (slice_index targets.exponents.now t) p)

-- the rows of the inverse that a locator represents: the quotients of the polynomial by z minus each root, scaled
abbrev pub located_rows : Locator → List (List ℕ)
located_rows locator = let sequence = locator.numerators.sequence.items in map (λ j. map (quotient_coefficient sequence locator.points.items locator.factors.items j) (range_with_len 0 (length sequence))) (range_with_len 0 (length locator.points.items))

-- the locator represents the inverse of the matrix of these exponents, as many as slices are lost
pub record IsLocatorFor (lost exponents : List ℕ) (locator : Locator) : Type 0 where
  pub is_inverse : IsInverseMatrix lost exponents (located_rows locator)
  pub wide : length locator.numerators.sequence.items ≡ length lost

-- the list at the index that the origin names, among the exponents' or the holes'
abbrev pub from_origin : List (List ℕ) → List (List ℕ) → Origin → List ℕ
from_origin exponents holes (Exponent j) = list_at exponents j
from_origin exponents holes (Hole q) = list_at holes q

-- the exponents' syndromes in the window, that of the last number first; those of the holes are empty
abbrev pub known_window : List Origin → List (List ℕ) → List (List ℕ)
known_window origins syndromes = map (from_origin syndromes []) (reverse origins)

-- word w of the right-hand side of equation u, for these syndromes of the exponents
abbrev pub right_side : Filling → List (List ℕ) → ℕ → ℕ → ℕ
right_side filling syndromes w u = numerator filling.equations.sequence.items (words_at (known_window filling.origins.items syndromes) w) u

-- the coefficients of a polynomial below z ^ n, the highest first
abbrev pub falling : List ℕ → ℕ → List ℕ
falling p n = reverse (map (slice_index p) (range_with_len 0 n))

-- the parts of the filling are those of these exponents, as many as slices are lost
pub record IsFillingFor (lost exponents : List ℕ) (filling : Filling) : Type 0 where
  pub square : length exponents ≡ length lost
  pub rise : IsStrictlyIncreasing exponents
  pub fit : filling.equations.count + length exponents ≡ span exponents + 1
  pub sequence : filling.equations.sequence.items ≡ falling (locator lost) (span exponents + 1)
  pub holes : AreHoleInverse (locator lost) (holes exponents) filling.equations.count (lists_of filling.holes.items)
  pub origins : AreOrigins exponents (span exponents + 1) filling.origins.items
  pub run : IsLocatorFor lost (range_with_len (slice_index exponents 0) (length lost)) filling.locator

-- it is the inverse of the matrix that the lost slices' constants and these exponents give
abbrev pub Inverts : List ℕ → List ℕ → Inverse → Type 0
Inverts lost exponents (Rows rows) = IsInverseMatrix lost exponents (lists_of rows.items)
Inverts lost exponents (Located locator) = IsLocatorFor lost exponents locator
Inverts lost exponents (Filled filling) = IsFillingFor lost exponents filling

-- it is the inverse for the exponents from `first` on, as many as slices are lost
abbrev pub InvertsRun : List ℕ → ℕ → Inverse → Type 0
InvertsRun lost first inverse = Inverts lost (range_with_len first (length lost)) inverse

-- it is the inverse for some n exponents, so it can be applied to n syndromes
abbrev pub IsInverseOf : ℕ → Inverse → Type 0
IsInverseOf n inverse = (exponents : List ℕ) × ((lost : List ℕ) × Inverts lost exponents inverse) × (length exponents ≡ n)

-- if it is the inverse for some lost slices and these exponents, the buffers of s bytes solve their equations
abbrev pub AreSolvedBy : Inverse → (s : ℕ) → (exponents : List ℕ) → (side : ℕ → ℕ → ℕ) → List (List ℕ) → Type 0
AreSolvedBy inverse s exponents side buffers = (lost : List ℕ) → Inverts lost exponents inverse → AreSolved s lost exponents side buffers

-- it is the inverse for the first exponents, as many as slices are lost, and these determine the lost slices
pub record InvertsFirst (lost exponents : List ℕ) (inverse : Inverse) : Type 0 where
  pub within : length lost ≤ length exponents
  pub inverts : Inverts lost (take (length lost) exponents) inverse
  pub enough : IsRepairable lost (take (length lost) exponents)

-- it has the exponents that elimination keeps, and the inverse of their matrix
pub record IsInversion (lost exponents : List ℕ) (found : Inversion) : Type 0 where
  pub kept : found.kept.items ≡ ranks.kept lost exponents
  pub inverse : Inverts lost found.kept.items found.inverse
