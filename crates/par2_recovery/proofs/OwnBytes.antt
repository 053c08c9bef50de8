-- Recovery slices that are written into buffers of zeros, each into its own.
use Rattle.par2_recovery.proofs.Common.{◌≡◌, ◌<◌, ◌*◌, ◌+◌, ◌∙◌, ℕ, List, [], refl, sym, ap, arith, length, map, get_or, replicate, ext_get_or, length-replicate, list_at, place_at, ap₂, drop, take, take_all, range_with_len, padded, AreWholeBuffers, HaveWords, Place, AreBlank, output_at, AreWritten, AreZeros, get_or-map-range_with_len, get_or-range_with_len, length-map-range_with_len, recovery}

module _ (size words count : ℕ) (places : List Place) (even : size ≡ 2 * words) (whole : AreWholeBuffers count places) where
  -- the output of a buffer is the whole buffer
  output_is : (t : ℕ) (buffers : List (List ℕ)) → t < count → length (list_at buffers t) ≡ size → output_at (2 * words) (place_at places t) buffers ≡ list_at buffers t
  output_is t buffers low long =
      let is = whole.each t low in
      ap₂ (λ (i a : ℕ). take (2 * words) (drop a (list_at buffers i))) is.0 is.1 ∙ take_all (2 * words) (list_at buffers t) (omega (arith, long, even))

  module _ (old : List (List ℕ)) (blank : AreBlank size count old) where
    length_is : (t : ℕ) → t < count → length (list_at old t) ≡ size
    length_is t low = ap length (blank.each t low) ∙ length-replicate {A = ℕ} size 0

    pub words_are : HaveWords words old
    words_are t h = length_is t (omega (arith, h, blank.count)) ∙ even

    pub zeros_are : AreZeros words places old
    zeros_are t h =
        let low : t < count = omega (arith, h, whole.count) in
        output_is t old low (length_is t low) ∙ blank.each t low ∙ ap (λ n. replicate n 0) even

    pub recovery_slices_are : (first : ℕ) (slices : List (List ℕ)) (exponents : List ℕ) (new : List (List ℕ)) → exponents ≡ range_with_len first count
        → AreWritten words slices exponents places old new → new ≡ map (recovery size (map (padded size) slices)) (range_with_len first count)
    recovery_slices_are first slices exponents new range written =
        let slice : ℕ → List ℕ = recovery size (map (padded size) slices) in
        ext_get_or [] new (map slice (range_with_len first count))
        (written.count ∙ blank.count ∙ sym (length-map-range_with_len slice first count))
        (λ t h.
        let low : t < count = omega (arith, h, written.count, blank.count) in
        sym (output_is t new low (written.sizes t ∙ length_is t low)) ∙ written.each t (omega (arith, low, whole.count))
        ∙ ap (λ n. recovery n (map (padded n) slices) (get_or exponents t 0)) (sym even)
        ∙ ap slice (ap (λ es. get_or es t 0) range ∙ get_or-range_with_len first count t 0 low)
        ∙ sym (get_or-map-range_with_len slice first count t (first + t) [] low refl))
