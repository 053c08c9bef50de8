-- Slices against the pairs of their numbers.
use Rattle.par2_slices.proofs.Common.{◌≡◌, ◌≢◌, ℕ, zero, suc, ◌+◌, ◌<◌, ◌≤◌, min, Bool, true, false, ◌&&◌, List, [], ◌∷◌, length, map, take, Decides, refl, sym, ap, subst, ◌∙◌, arith, ◌==◌, zip, list_all, range_with_len, bytes_eq, div_ceil_times, and_parts, eq-eqb, eqb-true, false_from_ne_true, false≢true, same_from_decides, get_or-take, length-take, bytes_eq-Decides, md5, Pair, crc32, is_intact, slice_at, slice_count, is_match, no_pair, pair_at, HaveCrc32s, HaveMd5s, Target}

match_from : (pair : Pair) (slice : List ℕ) → crc32 slice ≡ pair.1 → md5 slice ≡ pair.0 → is_match pair slice ≡ true
match_from pair slice crc digest = grind (arith, eq-eqb, bytes_eq-Decides)

parts_of_match : (pair : Pair) (slice : List ℕ) → is_match pair slice ≡ true → (crc32 slice ≡ pair.1) × (md5 slice ≡ pair.0)
parts_of_match pair slice h =
    let parts = and_parts (crc32 slice == pair.1) (bytes_eq (md5 slice) pair.0) h in
    (eqb-true (crc32 slice) pair.1 parts.0, (bytes_eq-Decides (md5 slice) pair.0).0 parts.1)

-- whether the k slices from number a on have the checksums of the pairs
abbrev all_match : ℕ → List ℕ → List Pair → ℕ → ℕ → Bool
all_match s bytes pairs a k = list_all (λ z. is_match z.0 z.1) (zip pairs (map (slice_at s bytes) (range_with_len a k)))

each_match : (s : ℕ) (bytes : List ℕ) (pairs : List Pair) (a k : ℕ) → all_match s bytes pairs a k ≡ true → (j i : ℕ) → i ≡ a + j → j < length pairs → j < k → is_match (pair_at pairs j) (slice_at s bytes i) ≡ true
each_match s bytes [] a k h j i is within low = absurd (omega (arith, within))
each_match s bytes (pair ∷ pairs) a zero h j i is within low = absurd (omega (arith, low))
each_match s bytes (pair ∷ pairs) a (suc k) h zero i is within low =
    ap (λ n. is_match pair (slice_at s bytes n)) (let e : i ≡ a = omega (arith, is) in e) ∙ (and_parts _ _ h).0
each_match s bytes (pair ∷ pairs) a (suc k) h (suc j) i is within low =
    each_match s bytes pairs (a + 1) k (and_parts _ _ h).1 j i (omega (arith, is)) (omega (arith, within)) (omega (arith, low))

match_each : (s : ℕ) (bytes : List ℕ) (pairs : List Pair) (a k : ℕ) → ((j i : ℕ) → i ≡ a + j → j < length pairs → j < k → is_match (pair_at pairs j) (slice_at s bytes i) ≡ true) → all_match s bytes pairs a k ≡ true
match_each s bytes [] a k h = refl
match_each s bytes (pair ∷ pairs) a zero h = refl
match_each s bytes (pair ∷ pairs) a (suc k) h =
    ap (λ b. b && all_match s bytes pairs (a + 1) k) (h 0 a (omega arith) (omega arith) (omega arith))
    ∙ match_each s bytes pairs (a + 1) k (λ j i is within low. h (suc j) i (omega (arith, is)) (omega (arith, within)) (omega (arith, low)))

-- the pairs that have a slice
abbrev pub compared : ℕ → Target → List Pair
compared s t = take (min (length t.pairs) (slice_count s t.length)) t.pairs

pub compared_is : (s : ℕ) (t : Target) (size count n : ℕ) (pairs : List Pair) → t.length ≡ size → t.pairs ≡ pairs → count ≡ slice_count s size → n ≡ min (length pairs) count → take n pairs ≡ compared s t
compared_is s t size count n pairs size_is pairs_is count_is n_is = grind (arith)

-- each has the checksums of its slice
pub record AreAlike (s : ℕ) (bytes : List ℕ) (pairs : List Pair) : Type 0 where
  pub crcs : HaveCrc32s s bytes pairs
  pub digests : HaveMd5s s bytes pairs 0 (length pairs)

alike_from_intact : (s : ℕ) (t : Target) (bytes : List ℕ) → is_intact s t bytes ≡ true → AreAlike s bytes (compared s t)
alike_from_intact s t bytes h =
    let parts = and_parts (length bytes == t.length) _ h in
    let size : length bytes ≡ t.length = eqb-true (length bytes) t.length parts.0 in
    let n : ℕ = min (length t.pairs) (slice_count s t.length) in
    let Alike : ℕ → Type 0 = λ j. (crc32 (slice_at s bytes j) ≡ (pair_at (compared s t) j).1) × (md5 (slice_at s bytes j) ≡ (pair_at (compared s t) j).0) in
    let each : (j : ℕ) → j < length (compared s t) → Alike j = λ j within.
    let low : j < n = omega (arith, within, length-take n t.pairs) in
    let same : pair_at (compared s t) j ≡ pair_at t.pairs j = get_or-take n t.pairs j no_pair low in
    let few : j < slice_count s (length bytes) = subst (λ k. j < slice_count s k) (sym size) (omega (arith, low)) in
    let its = parts_of_match (pair_at t.pairs j) (slice_at s bytes j) (each_match s bytes t.pairs 0 (slice_count s (length bytes)) parts.1 j j (omega arith) (omega (arith, low)) few) in
    (its.0 ∙ ap (λ (p : Pair). p.1) (sym same), its.1 ∙ ap (λ (p : Pair). p.0) (sym same))
    in
    record { crcs = λ j within. (each j within).0; digests = λ j _ within. (each j within).1 }

intact_from_alike : (s : ℕ) (t : Target) (bytes : List ℕ) → length bytes ≡ t.length → AreAlike s bytes (compared s t) → is_intact s t bytes ≡ true
intact_from_alike s t bytes size alike =
    let n : ℕ = min (length t.pairs) (slice_count s t.length) in
    ap (λ b. b && all_match s bytes t.pairs 0 (slice_count s (length bytes))) (eq-eqb (length bytes) t.length size)
    ∙ match_each s bytes t.pairs 0 (slice_count s (length bytes)) (λ j i is within few.
    let few' : j < slice_count s t.length = subst (λ k. j < slice_count s k) size few in
    let low : j < n = omega (arith, within, few') in
    let same : pair_at (compared s t) j ≡ pair_at t.pairs j = get_or-take n t.pairs j no_pair low in
    let inside : j < length (compared s t) = omega (arith, low, within, length-take n t.pairs) in
    ap (λ n. is_match (pair_at t.pairs j) (slice_at s bytes n)) (let e : i ≡ j = omega (arith, is) in e)
    ∙ match_from (pair_at t.pairs j) (slice_at s bytes j)
    (alike.crcs j inside ∙ ap (λ (p : Pair). p.1) same)
    (alike.digests j (omega arith) inside ∙ ap (λ (p : Pair). p.0) same))

-- if the CRC-32s agree, the MD5s decide
pub intact_by_md5s : (s : ℕ) (t : Target) (bytes : List ℕ) (first : List Pair) (digests : Bool) → length bytes ≡ t.length → first ≡ compared s t → HaveCrc32s s bytes first → Decides digests (HaveMd5s s bytes first 0 (length first)) → digests ≡ is_intact s t bytes
intact_by_md5s s t bytes first digests size is crcs decides =
    same_from_decides {P = AreAlike s bytes first} digests (is_intact s t bytes)
    (λ e. record { crcs = crcs; digests = decides.0 e }, λ alike. decides.1 alike.digests) (
      λ e. subst (AreAlike s bytes) (sym is) (alike_from_intact s t bytes e),
      λ alike. intact_from_alike s t bytes size (subst (AreAlike s bytes) is alike),
    )

-- if they don't, the file isn't intact
pub not_intact_by_crcs : (s : ℕ) (t : Target) (bytes : List ℕ) (first : List Pair) (crcs : Bool) → first ≡ compared s t → Decides crcs (HaveCrc32s s bytes first) → crcs ≡ false → crcs ≡ is_intact s t bytes
not_intact_by_crcs s t bytes first crcs is decides differ =
    differ ∙ sym (false_from_ne_true _ (λ e. false≢true (sym differ ∙ decides.1 (subst (AreAlike s bytes) (sym is) (alike_from_intact s t bytes e)).crcs)))

pub slices_are_some : (s n : ℕ) → 1 ≤ s → 0 < n → 0 < slice_count s n
slices_are_some s n size some = grind (arith, div_ceil_times)

-- nor is it if the first one doesn't agree
pub not_intact_by_first : (s : ℕ) (t : Target) (bytes : List ℕ) → 1 ≤ s → 0 < length bytes → 0 < length t.pairs → crc32 (slice_at s bytes 0) ≢ (pair_at t.pairs 0).1 → is_intact s t bytes ≡ false
not_intact_by_first s t bytes some_size some pairs differ = false_from_ne_true _ (λ e. differ (first_of e))
  where
    first_of : is_intact s t bytes ≡ true → crc32 (slice_at s bytes 0) ≡ (pair_at t.pairs 0).1
    first_of e =
        let parts = and_parts (length bytes == t.length) _ e in
        (parts_of_match (pair_at t.pairs 0) (slice_at s bytes 0)
        (each_match s bytes t.pairs 0 (slice_count s (length bytes)) parts.1 0 0 (omega arith) pairs (slices_are_some s (length bytes) some_size some))).0
