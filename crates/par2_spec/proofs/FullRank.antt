-- The rank is at most the number of lost slices, and equal to it exactly if these are determined.
use Rattle.par2_spec.proofs.Common.{◌≡◌, ℕ, zero, suc, ◌+◌, ◌*◌, ◌/◌, ◌%◌, ◌^◌, ◌<◌, ◌≤◌, List, [], ◌∷◌, length, map, drop, pow-add, refl, sym, ap, ap₂, ◌∙◌, subst, cond, false, eqb, inl, inr, arith, ◌↔◌, replicate, slice_index, xor_self, AllByRecursion, IsDistinct, IsStrictlyIncreasing, pow_below, Decides-eqb, cases_lt, eq-eqb, length-map, AllPairs-from_increasing, IsStrictlyIncreasing-filter, IsDistinct-from_AllPairs, coefficients, dot, kept, rank, IsVector, Kills, IsRepairable, AreElements, bit_xor, ◌≢◌, ◌-◌, get_or, true, Bool, filter, Contains, range_with_len, ne_eqb, get_or-map, Contains-get_or, length-range_with_len, get_or-range_with_len, mul, constant, pow, coefficient, smaller, is_independent, IsKept, ArePoints, value, AreSlices, AreClose, HasRun}
use Rattle.par2_spec.proofs.Basics.{onto_from_injective, product-zero, all-each, all-both, of_contained, all_weaker, all-filter, xor_middle, product_linear_left, product_linear_right, product_assoc, product_comm, product-one, zero-product, no_zero_divisor, power-lt, constant-lt, constant-nonzero, constant-injective, dot_sum, field_sum_one, product_at, all_from, all_get, independent-iff, by_either, by_test}
use Rattle.par2_spec.proofs.UniqueLaws.{sums, dot-sums, dot-lt, coefficients_are, sums-elements, no_difference, all_from_contains, kept_kill_all, Interpolates, value-lt, some_polynomial}
use Rattle.par2_spec.proofs.ExistLaws.{zeros_are, length-sums, solved}
use Rattle.par2_spec.proofs.FieldLaws.{range_rises}

-- ---- vectors as numbers: there are 2 ^ (16 * n) of n elements

number : List ℕ → ℕ
number [] = 0
number (x ∷ v) = x + 65536 * number v

vector : ℕ → ℕ → List ℕ
vector zero i = []
vector (suc n) i = i % 65536 ∷ vector n (i / 65536)

vector_is : (n i : ℕ) → IsVector n (vector n i)
unfolding vector
vector_is zero i = (refl, tt)
vector_is (suc n) i = let rest = vector_is n (i / 65536) in (ap suc rest.0, (omega arith, rest.1))

count : (n : ℕ) → 2 ^ (16 * suc n) ≡ 65536 * 2 ^ (16 * n)
count n = let e : 16 * suc n ≡ 16 + 16 * n = omega arith in ap (λ k. 2 ^ k) e ∙ pow-add 2 16 (16 * n)

number-lt : (n : ℕ) (v : List ℕ) → IsVector n v → number v < 2 ^ (16 * n)
unfolding number
number-lt zero [] h = omega arith
number-lt (suc n) (x ∷ v) h =
    let e = h.0 in let rest = number-lt n v (omega (arith, e), h.1.1) in let first = h.1.0 in omega (arith, rest, first, count n)
number-lt n v h = let e = h.0 in absurd (omega (arith, e))

number-vector : (n i : ℕ) → i < 2 ^ (16 * n) → number (vector n i) ≡ i
unfolding number vector
number-vector zero i h = omega (arith, h)
number-vector (suc n) i h = let rest = number-vector n (i / 65536) (omega (arith, h, count n)) in omega (arith, rest)

vector-number : (n : ℕ) (v : List ℕ) → IsVector n v → vector n (number v) ≡ v
unfolding number vector
vector-number zero [] h = refl
vector-number (suc n) (x ∷ v) h =
    let e = h.0 in let first = h.1.0 in
    ap₂ (λ y w. y ∷ w) (omega (arith, first)) (ap (vector n) (omega (arith, first)) ∙ vector-number n v (omega (arith, e), h.1.1))
vector-number n v h = let e = h.0 in absurd (omega (arith, e))

-- ---- functions from vectors to vectors

-- g maps each vector of n elements to one of m elements
abbrev Leads : ℕ → ℕ → (List ℕ → List ℕ) → Type 0
Leads n m g = (v : List ℕ) → IsVector n v → IsVector m (g v)

abbrev IsInjective : ℕ → (List ℕ → List ℕ) → Type 0
IsInjective n g = (u v : List ℕ) → IsVector n u → IsVector n v → g u ≡ g v → u ≡ v

-- each vector of m elements is a value of g
abbrev IsOnto : ℕ → ℕ → (List ℕ → List ℕ) → Type 0
IsOnto n m g = (w : List ℕ) → IsVector m w → (v : List ℕ) × IsVector n v × (g v ≡ w)

-- g on the numbers of vectors
between : ℕ → (List ℕ → List ℕ) → ℕ → ℕ
between n g i = number (g (vector n i))

between-lt : (n m : ℕ) (g : List ℕ → List ℕ) → Leads n m g → (i : ℕ) → between n g i < 2 ^ (16 * m)
between-lt n m g leads i = unfold between in number-lt m (g (vector n i)) (leads (vector n i) (vector_is n i))

between_injective : (n m : ℕ) (g : List ℕ → List ℕ) → Leads n m g → IsInjective n g → (i j : ℕ) → i < 2 ^ (16 * n) → j < 2 ^ (16 * n) → between n g i ≡ between n g j → i ≡ j
between_injective n m g leads injective i j hi hj e = unfold between in
    let u = vector n i in
    let v = vector n j in
    let same : g u ≡ g v = sym (vector-number m (g u) (leads u (vector_is n i))) ∙ ap (vector m) e ∙ vector-number m (g v) (leads v (vector_is n j)) in
    sym (number-vector n i hi) ∙ ap number (injective u v (vector_is n i) (vector_is n j) same) ∙ number-vector n j hj

-- if g is injective, n is at most m
injective-le : (n m : ℕ) (g : List ℕ → List ℕ) → Leads n m g → IsInjective n g → n ≤ m
injective-le n m g leads injective = elim (cases_lt m n) [
  | inr small ↦ small
  | inl large ↦
      let k = 2 ^ (16 * m) in
      let fewer : k < 2 ^ (16 * n) = pow_below (16 * m) (16 * n) (omega (arith, large)) in
      let one = between_injective n m g leads injective in
      let found = onto_from_injective (between n g) k (λ i h. between-lt n m g leads i) (λ i j low h e. let same = one i j (omega (arith, low, h, fewer)) (omega (arith, h, fewer)) e in omega (arith, same, low))
      (between n g k) (between-lt n m g leads k) in
      absurd (omega (arith, one found.0 k (omega (arith, found.1.0, fewer)) fewer found.1.1, found.1.0))
]

-- if g is injective on vectors of one length, it is surjective
injective_onto : (n : ℕ) (g : List ℕ → List ℕ) → Leads n n g → IsInjective n g → IsOnto n n g
injective_onto n g leads injective w is = unfold between in
    let one = between_injective n n g leads injective in
    let found = onto_from_injective (between n g) (2 ^ (16 * n)) (λ i h. between-lt n n g leads i) (λ i j low h e. let same = one i j (omega (arith, low, h)) h e in omega (arith, same, low)) (number w) (number-lt n w is) in
    let v = vector n found.0 in
    (v, vector_is n found.0, sym (vector-number n (g v) (leads v (vector_is n found.0))) ∙ ap (vector n) found.1.1 ∙ vector-number n w is)

-- a vector that g maps to the given one
source : (n m : ℕ) (g : List ℕ → List ℕ) → IsOnto n m g → List ℕ → List ℕ
source n m g onto w = (onto (vector m (number w)) (vector_is m (number w))).0

source_leads : (n m : ℕ) (g : List ℕ → List ℕ) (onto : IsOnto n m g) → Leads m n (source n m g onto)
source_leads n m g onto w is = unfold source in (onto (vector m (number w)) (vector_is m (number w))).1

of_source : (n m : ℕ) (g : List ℕ → List ℕ) (onto : IsOnto n m g) (w : List ℕ) → IsVector m w → g (source n m g onto w) ≡ w
of_source n m g onto w is = unfold source in (onto (vector m (number w)) (vector_is m (number w))).2 ∙ vector-number m w is

source_injective : (n m : ℕ) (g : List ℕ → List ℕ) (onto : IsOnto n m g) → IsInjective m (source n m g onto)
source_injective n m g onto u v hu hv e = sym (of_source n m g onto u hu) ∙ ap g e ∙ of_source n m g onto v hv

onto-le : (n m : ℕ) (g : List ℕ → List ℕ) → IsOnto n m g → m ≤ n
onto-le n m g onto = injective-le m n (source n m g onto) (source_leads n m g onto) (source_injective n m g onto)

-- if g is surjective on vectors of one length, it is injective
onto_injective : (n : ℕ) (g : List ℕ → List ℕ) → IsOnto n n g → IsInjective n g
onto_injective n g onto u v hu hv e =
    let every = injective_onto n (source n n g onto) (source_leads n n g onto) (source_injective n n g onto) in
    let back : (w : List ℕ) (from : (x : List ℕ) × IsVector n x × (source n n g onto x ≡ w)) → g w ≡ from.0 = λ w from. ap g (sym from.2) ∙ of_source n n g onto from.0 from.1 in
    sym (every u hu).2 ∙ ap (source n n g onto) (sym (back u (every u hu)) ∙ e ∙ back v (every v hv)) ∙ (every v hv).2

-- ---- the products of the kept exponents with a vector

-- the product of each exponent with the vector
abbrev given : List ℕ → List ℕ → List ℕ → List ℕ
given lost es v = map (λ e. dot (coefficients lost e) v) es

given_leads : (lost es : List ℕ) → Leads (length lost) (length es) (given lost es)
given_leads lost es v is = (length-map es (λ e. dot (coefficients lost e) v), all-each (λ x. x < 2 ^ 16) (λ e. dot (coefficients lost e) v) (λ e. dot-lt (coefficients lost e) v (coefficients_are e lost) is.1) es)

-- the number in a list at the position of an exponent among others
numbered : List ℕ → List ℕ → ℕ → ℕ
numbered (x ∷ es) (y ∷ g) e = cond (eqb x e) y (numbered es g e)
numbered es g e = 0

numbered-lt : (es g : List ℕ) (e : ℕ) → AreElements g → numbered es g e < 2 ^ 16
unfolding numbered
numbered-lt (x ∷ es) (y ∷ g) e h = grind (arith, numbered, numbered-lt es g e h.1)
numbered-lt es g e h = omega arith

-- if the exponents are distinct and a function maps each to its number, its values are the list
values_are : (f : ℕ → ℕ) (es g : List ℕ) → IsDistinct eqb es → length es ≡ length g → AllByRecursion (λ e. f e ≡ numbered es g e) es → map f es ≡ g
unfolding numbered IsDistinct
values_are f [] [] d long h = refl
values_are f (x ∷ es) (y ∷ g) d long h = grind (arith, eq-eqb, all-both, eqb, (values_are f es g d.1 (omega (arith, long)) (all-both (λ e. eqb x e ≡ false) (λ e. f e ≡ cond (eqb x e) y (numbered es g e)) (λ e. f e ≡ numbered es g e) (λ e other k. k ∙ ap (λ b. cond b y (numbered es g e)) other) es d.0 h.1)))
values_are f es g d long h = absurd (omega (arith, long))

-- a number above all items of a list
above : List ℕ → ℕ
above [] = 0
above (e ∷ es) = suc e + above es

all_below_above : (es : List ℕ) → AllByRecursion (λ e. e < above es) es
unfolding above
all_below_above [] = tt
all_below_above (e ∷ es) = (omega arith, all_weaker (λ x. x < above es) (λ x. x < suc e + above es) (λ x h. omega (arith, h)) es (all_below_above es))

distinct_kept : (lost survivors : List ℕ) → IsStrictlyIncreasing survivors → IsDistinct eqb (kept lost survivors)
distinct_kept lost survivors up =
    let pairs = AllPairs-from_increasing (kept lost survivors) (IsStrictlyIncreasing-filter _ survivors up) in
    IsDistinct-from_AllPairs Decides-eqb (kept lost survivors) (λ i j d low h same. let less = pairs i j d low h in omega (arith, less, same))

-- each list of elements is the list of products of some vector
given_onto : (lost survivors : List ℕ) → IsStrictlyIncreasing survivors → IsOnto (length lost) (rank lost survivors) (given lost (kept lost survivors))
given_onto lost survivors up g is =
    let es = kept lost survivors in
    let found = solved lost survivors (numbered es g) (λ e. numbered-lt es g e is.1) (above es) in (
      found.vector,
      found.is_vector,
      values_are (λ e. dot (coefficients lost e) found.vector) es g (distinct_kept lost survivors up) (sym is.0)
          (all_from_contains _ es (λ e c. found.gives e (of_contained (λ x. x < above es) es e (all_below_above es) c) c)),
    )

-- ---- the rank

pub rank-le : (lost survivors : List ℕ) → IsStrictlyIncreasing survivors → rank lost survivors ≤ length lost
rank-le lost survivors up = onto-le (length lost) (rank lost survivors) (given lost (kept lost survivors)) (given_onto lost survivors up)

same_given : (f g : ℕ → ℕ) (es : List ℕ) → map f es ≡ map g es → AllByRecursion (λ e. f e ≡ g e) es
same_given f g [] h = tt
same_given f g (e ∷ es) h = (ap (λ xs. slice_index xs 0) h, same_given f g es (ap (drop 1) h))

-- if the lost slices are determined, different vectors have different products with the kept exponents
given_injective : (lost survivors : List ℕ) → IsRepairable lost survivors → IsInjective (length lost) (given lost (kept lost survivors))
given_injective lost survivors repairable u v hu hv e =
    let long : length u ≡ length v = hu.0 ∙ sym hv.0 in
    let is : IsVector (length lost) (sums u v) = (length-sums u v long ∙ hv.0, sums-elements u v hu.1 hv.1) in
    let same = same_given (λ x. dot (coefficients lost x) u) (λ x. dot (coefficients lost x) v) (kept lost survivors) e in
    no_difference u v long (repairable (sums u v) is (kept_kill_all lost survivors (sums u v) is (λ x c.
    dot-sums (coefficients lost x) u v long ∙ ap (λ t. bit_xor t (dot (coefficients lost x) v)) (of_contained _ (kept lost survivors) x same c) ∙ xor_self (dot (coefficients lost x) v))))

dot_zeros : (row : List ℕ) (n : ℕ) → dot row (replicate n 0) ≡ 0
unfolding dot
dot_zeros (c ∷ row) (suc n) = ap₂ bit_xor (product-zero c) (dot_zeros row n)
dot_zeros row n = refl

zeros_alone : (n : ℕ) → AllByRecursion {X = ℕ} (λ x. x ≡ 0) (replicate n 0)
zeros_alone zero = tt
zeros_alone (suc n) = (refl, zeros_alone n)

given_same : (f g : ℕ → ℕ) (es : List ℕ) → AllByRecursion (λ e. f e ≡ g e) es → map f es ≡ map g es
given_same f g [] h = refl
given_same f g (e ∷ es) h = ap₂ (λ x xs. x ∷ xs) h.0 (given_same f g es h.1)

-- if as many exponents are kept as slices are lost, the lost slices are determined
full_is_repairable : (lost survivors : List ℕ) → IsStrictlyIncreasing survivors → rank lost survivors ≡ length lost → IsRepairable lost survivors
full_is_repairable lost survivors up full v is killed =
    let n = length lost in
    let es = kept lost survivors in
    let onto : IsOnto n n (given lost es) = subst (λ m. IsOnto n m (given lost es)) full (given_onto lost survivors up) in
    let same : given lost es v ≡ given lost es (replicate n 0) =
    given_same (λ e. dot (coefficients lost e) v) (λ e. dot (coefficients lost e) (replicate n 0)) es
    (all_weaker (λ e. Kills lost e v) _ (λ e h. h ∙ sym (dot_zeros (coefficients lost e) n)) es (all-filter (λ e. Kills lost e v) _ survivors killed)) in
    subst (AllByRecursion {X = ℕ} (λ x. x ≡ 0)) (sym (onto_injective n (given lost es) onto v (replicate n 0) is (zeros_are n) same)) (zeros_alone n)

pub full-iff : (lost survivors : List ℕ) → IsStrictlyIncreasing survivors → (rank lost survivors ≡ length lost) ↔ IsRepairable lost survivors
full-iff lost survivors up = (
  full_is_repairable lost survivors up,
  λ repairable.
      let least = injective-le (length lost) (rank lost survivors) (given lost (kept lost survivors)) (given_leads lost (kept lost survivors)) (given_injective lost survivors repairable) in
      omega (arith, rank-le lost survivors up, least),
)

-- Close exponents are kept, and a run with an exponent for each lost slice determines the lost slices.

-- ---- rows given by a function

row_same : (g h : ℕ → ℕ) → ((k : ℕ) → g k ≡ h k) → (ks v : List ℕ) → dot (map g ks) v ≡ dot (map h ks) v
unfolding dot
row_same g h same ks v = grind arith

row_none : (g : ℕ → ℕ) → ((k : ℕ) → g k ≡ 0) → (ks v : List ℕ) → dot (map g ks) v ≡ 0
unfolding dot
row_none g none (k ∷ ks) (x ∷ v) = ap₂ bit_xor (ap (λ c. mul c x) (none k) ∙ zero-product x) (row_none g none ks v)
row_none g none ks v = refl

row_xor : (g h : ℕ → ℕ) (ks v : List ℕ) → dot (map (λ k. bit_xor (g k) (h k)) ks) v ≡ bit_xor (dot (map g ks) v) (dot (map h ks) v)
unfolding dot
row_xor g h (k ∷ ks) (x ∷ v) = grind (arith, ((product_linear_left x).on_xor (g k) (h k)), (row_xor g h ks v), (xor_middle (mul (g k) x) (mul (h k) x) (dot (map g ks) v) (dot (map h ks) v)))
row_xor g h ks v = refl

row_times : (a : ℕ) (g : ℕ → ℕ) → a < 2 ^ 16 → ((k : ℕ) → g k < 2 ^ 16) → (ks v : List ℕ) → AreElements v → dot (map (λ k. mul a (g k)) ks) v ≡ mul a (dot (map g ks) v)
unfolding dot
row_times a g small fits (k ∷ ks) (x ∷ v) h = grind (arith, (product_assoc a (g k) x small (fits k) h.0), (row_times a g small fits ks v h.1), ((product_linear_right a).on_xor (mul (g k) x) (dot (map g ks) v)))
row_times a g small fits ks v h = sym (product-zero a)

-- ---- exponents that together kill a vector

-- coefficient k of exponent u times the value of a polynomial at its constant
weighted : ℕ → List ℕ → ℕ → ℕ
weighted u p k = mul (coefficient u k) (value p (constant k))

coefficient-lt : (u k : ℕ) → coefficient u k < 2 ^ 16
coefficient-lt u k = unfold coefficient in power-lt (constant k) u (constant-lt k)

one_more : (u a : ℕ) (p : List ℕ) → a < 2 ^ 16 → AreElements p → (k : ℕ) → weighted u (a ∷ p) k ≡ bit_xor (mul a (coefficient u k)) (weighted (suc u) p k)
one_more u a p small h k = unfold weighted coefficient value pow in
    let c = constant k in
    let hc = constant-lt k in
    let power = pow c u in
    let hp = power-lt c u hc in
    let v = value p c in
    (product_linear_right power).on_xor a (mul c v)
    ∙ ap₂ bit_xor (product_comm power a hp small)
    (sym (product_assoc power c v hp hc (value-lt p c h hc)) ∙ ap (λ x. mul x v) (product_comm power c hp hc))

-- a vector that a run of exponents kills is killed by each combination of their rows: the values of a polynomial
killed_by_polynomial : (ks v : List ℕ) → AreElements v → (p : List ℕ) → AreElements p → (u : ℕ) → ((i : ℕ) → i < length p → Kills ks (u + i) v) → dot (map (weighted u p) ks) v ≡ 0
unfolding weighted value
killed_by_polynomial ks v is [] h u kills = row_none (weighted u []) (λ k. product-zero (coefficient u k)) ks v
killed_by_polynomial ks v is (a ∷ p) h u kills =
    let later : (i : ℕ) → i < length p → Kills ks (suc u + i) v = λ i low.
    (let e : u + suc i ≡ suc u + i = omega arith in subst (λ n. Kills ks n v) e (kills (suc i) (omega (arith, low)))) in
    row_same (weighted u (a ∷ p)) (λ k. bit_xor (mul a (coefficient u k)) (weighted (suc u) p k)) (one_more u a p h.0 h.1) ks v
    ∙ row_xor (λ k. mul a (coefficient u k)) (weighted (suc u) p) ks v
    ∙ ap₂ bit_xor (row_times a (coefficient u) h.0 (coefficient-lt u) ks v is ∙ ap (mul a) (subst (λ n. Kills ks n v) (omega arith) (kills 0 (omega arith))) ∙ product-zero a)
    (killed_by_polynomial ks v is p h.1 (suc u) later)

-- ---- a polynomial that is 1 at one of the points and 0 at the others (Lagrange basis)

is_one_at : ℕ → ℕ → ℕ
is_one_at c z = cond (eqb z c) 1 0

all_ones : (c : ℕ) (points : List ℕ) → AreElements (map (is_one_at c) points)
unfolding is_one_at
all_ones c points = all-each _ (is_one_at c) (λ z. by_test (eqb z c) (λ e. rw e (omega arith)) (λ e. rw e (omega arith))) points

unit : (points : List ℕ) → ArePoints points → (c : ℕ) → (p : List ℕ) × Interpolates points (map (is_one_at c) points) p
unit points are c = some_polynomial points (map (is_one_at c) points) are (length-map points (is_one_at c), all_ones c points)

-- ---- points

power_nonzero : (a n : ℕ) → 0 < a → a < 2 ^ 16 → pow a n ≢ 0
unfolding pow
power_nonzero a zero h small e = omega (arith, e)
power_nonzero a (suc n) h small e = power_nonzero a n h small (no_zero_divisor a (pow a n) h small (power-lt a n small) e)

coefficient-nonzero : (e k : ℕ) → k < 32768 → coefficient e k ≢ 0
coefficient-nonzero e k h = unfold coefficient in power_nonzero (constant k) e (let other = constant-nonzero k h in omega (arith, other)) (constant-lt k)

constants_differ : (ks : List ℕ) → AreSlices ks → (i j : ℕ) → i < j → j < length ks → constant (get_or ks i 0) ≢ constant (get_or ks j 0)
constants_differ ks are i j h low = grind (arith, constant-injective, AllPairs-from_increasing, all_get)

points_are : (ks : List ℕ) → AreSlices ks → ArePoints (map constant ks)
points_are ks are = record {
  elements = all-each (λ c. c < 2 ^ 16) constant constant-lt ks;
  distinct = IsDistinct-from_AllPairs Decides-eqb (map constant ks) (λ i j d low within.
      let second : j < length ks = omega (arith, length-map ks constant, within) in
      λ same. constants_differ ks are i j low second
      (sym (get_or-map constant ks i 0 d (omega (arith, low, second))) ∙ same ∙ get_or-map constant ks j 0 d second));
}

-- the constants of the slices at two positions
apart : (ks : List ℕ) → AreSlices ks → (i q : ℕ) → i < length ks → q < length ks → i ≢ q → constant (get_or ks i 0) ≢ constant (get_or ks q 0)
apart ks are i q hi hq other = grind (arith, by_either, cases_lt, constants_differ)

-- ---- a whole run

-- a vector that a run with an exponent for each lost slice kills is 0 at each position
zero_at : (ks v : List ℕ) (f q : ℕ) → AreSlices ks → IsVector (length ks) v → ((i : ℕ) → i < length ks → Kills ks (f + i) v) → q < length ks → get_or v q 0 ≡ 0
zero_at ks v f q are is kills hq = unfold weighted is_one_at in
    let k = get_or ks q 0 in
    let c = constant k in
    let p = unit (map constant ks) (points_are ks are) c in
    let n = length ks in
    let row = map (weighted f p.0) ks in
    let values_at : (i : ℕ) → i < n → value p.0 (constant (get_or ks i 0)) ≡ is_one_at c (constant (get_or ks i 0)) = λ i low.
    (let low_points : i < length (map constant ks) = omega (arith, low, length-map ks constant) in
    let at = get_or-map constant ks i 0 0 low in
    sym (ap (value p.0) at) ∙ sym (get_or-map (value p.0) (map constant ks) i 0 0 low_points)
    ∙ ap (λ xs. get_or xs i 0) p.1.at_points
    ∙ get_or-map (is_one_at c) (map constant ks) i 0 0 low_points ∙ ap (is_one_at c) at) in
    let others : (i : ℕ) → i < n → i ≢ q → product_at row v i ≡ 0 = λ i low other.
    ap (λ x. mul x (get_or v i 0))
    (get_or-map (weighted f p.0) ks i 0 0 low
    ∙ ap (mul (coefficient f (get_or ks i 0))) (values_at i low ∙ ap (λ b. cond b 1 0) (ne_eqb _ c (apart ks are i q low hq other)))
    ∙ product-zero (coefficient f (get_or ks i 0)))
    ∙ zero-product (get_or v i 0) in
    let none : mul (coefficient f k) (get_or v q 0) ≡ 0 =
    ap (λ x. mul x (get_or v q 0)) (sym (grind (arith, (get_or-map (weighted f p.0) ks q 0 0 hq), (values_at q hq), (eq-eqb c c refl), (product-one (coefficient f k) (coefficient-lt f k)))))
    ∙ sym (field_sum_one n q (product_at row v) hq others)
    ∙ sym (dot_sum n row v (let e = length-map ks (weighted f p.0) in omega (arith, e)))
    ∙ killed_by_polynomial ks v is.1 p.0 p.1.vector.1 f (λ i low. kills i (omega (arith, low, (p.1.vector.0 ∙ length-map ks constant)))) in
    grind (arith, no_zero_divisor, coefficient-nonzero, all_get, coefficient-lt)

pub run_determines : (ks exponents : List ℕ) (f : ℕ) → AreSlices ks → HasRun f (length ks) exponents → IsRepairable ks exponents
run_determines ks exponents f are run v is killed =
    all_from (λ x. x ≡ 0) 0 v (λ q low.
    zero_at ks v f q are is (λ i h. of_contained (λ e. Kills ks e v) exponents (f + i) killed (run i h)) (let e = is.0 in omega (arith, e, low)))

pub run_rank : (ks exponents : List ℕ) (f : ℕ) → AreSlices ks → IsStrictlyIncreasing exponents → HasRun f (length ks) exponents → rank ks exponents ≡ length ks
run_rank ks exponents f are rise run = (full-iff ks exponents rise).1 (run_determines ks exponents f are run)

-- ---- each exponent of a whole run is kept

range_has : (f n e : ℕ) → f ≤ e → e < f + n → Contains (range_with_len f n) e
range_has f n e low high =
    let i : e - f < n = omega (arith, low, high) in
    subst (Contains (range_with_len f n)) (get_or-range_with_len f n (e - f) 0 i ∙ (omega (arith, low)))
    (Contains-get_or (range_with_len f n) (e - f) 0 (let l = length-range_with_len f n in omega (arith, l, i)))

filter-le : (p : ℕ → Bool) (xs : List ℕ) → length (filter p xs) ≤ length xs
filter-le p [] = omega arith
filter-le p (x ∷ xs) = grind (arith, filter-le p xs)

-- if a filter leaves as many items, each item passes
all_pass : (p : ℕ → Bool) (xs : List ℕ) → length (filter p xs) ≡ length xs → AllByRecursion (λ x. p x ≡ true) xs
all_pass p [] h = tt
all_pass p (x ∷ xs) h = grind (arith, filter-le, all_pass p xs)

run_kept : (ks : List ℕ) (f e : ℕ) → AreSlices ks → f ≤ e → e < f + length ks → IsKept ks (range_with_len f (length ks)) e
run_kept ks f e are low high =
    let n = length ks in
    let run = range_with_len f n in
    let full = run_rank ks run f are (range_rises f n) (λ i h. range_has f n (f + i) (omega arith) (omega (arith, h))) in
    (independent-iff ks run e).0
    (of_contained (λ x. is_independent n (map (coefficients ks) (smaller x run)) (coefficients ks x) ≡ true) run e
    (all_pass (λ x. is_independent n (map (coefficients ks) (smaller x run)) (coefficients ks x)) run (full ∙ sym (length-range_with_len f n)))
    (range_has f n e low high))

-- ---- exponents that are close

-- an exponent is kept if each smaller one is close to it
near_kept : (ks exponents : List ℕ) (e : ℕ) → AreSlices ks → e < e + length ks → ((other : ℕ) → Contains exponents other → other < e → e < other + length ks) → IsKept ks exponents e
near_kept ks exponents e are some near =
    let n = length ks in
    let f = e + 1 - n in
    let before = run_kept ks f e are (omega (arith, some)) (omega (arith, some)) in (
      before.0,
      before.1,
      all_from_contains (λ other. other < e → Kills ks other before.0) exponents (λ other among lower.
          of_contained (λ x. x < e → Kills ks x before.0) (range_with_len f n) other before.2
          (range_has f n other (let h = near other among lower in omega (arith, h, some)) (omega (arith, lower, some))) lower),
      before.3,
    )

near_passes : (ks exponents : List ℕ) (e : ℕ) → AreSlices ks → e < e + length ks → ((other : ℕ) → Contains exponents other → other < e → e < other + length ks)
    → is_independent (length ks) (map (coefficients ks) (smaller e exponents)) (coefficients ks e) ≡ true
near_passes ks exponents e are some near = (independent-iff ks exponents e).1 (near_kept ks exponents e are some near)

filter_all : (p : ℕ → Bool) (xs : List ℕ) → AllByRecursion (λ x. p x ≡ true) xs → filter p xs ≡ xs
filter_all p [] h = refl
filter_all p (x ∷ xs) h = ap (λ b. cond b (x ∷ filter p xs) (filter p xs)) h.0 ∙ ap (λ ys. x ∷ ys) (filter_all p xs h.1)

pub close_kept : (ks exponents : List ℕ) → AreSlices ks → AreClose (length ks) exponents → kept ks exponents ≡ exponents
close_kept ks exponents are close = search (arith, filter_all, all_from_contains, near_passes)
