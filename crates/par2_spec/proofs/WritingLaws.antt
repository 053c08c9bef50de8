-- Output that is written in parts.
use Rattle.par2_spec.proofs.Common.{◌≡◌, ◌++◌, map, ◌+◌, ◌-◌, ◌<◌, ℕ, suc, List, [], take, drop, length, sym, subst, append-nil, append_assoc, length-drop, length-append, arith, get_or, take-append_seam, take-append-add, drop-cons, take-append-drop, take-append-le, take_all, take_more, flat_map-append, common_steps, flat_map-map, Option, Result, Ok, Err, flat_map, Appends, Appends-trans, Writer, TookAll, TookPart, Wrote}

-- nothing more was taken
pub part : (a b c : Option (List ℕ)) (sent rest bytes : List ℕ) → bytes ≡ sent ++ rest → 0 < length rest → Appends a b sent → Appends b c []
    → (n : ℕ) × (n < length bytes) × Appends a c (take n bytes)
part a b c sent rest bytes is more p q = grind (arith, (append-nil sent), (take-append_seam sent rest), (length-append sent rest), Appends-trans)

-- n more bytes were taken
pub step : (a b c : Option (List ℕ)) (sent rest bytes : List ℕ) (n : ℕ) → bytes ≡ sent ++ rest → Appends a b sent → Appends b c (take n rest)
    → (s : List ℕ) × (bytes ≡ s ++ take (length rest - n) (drop n rest)) × Appends a c s
step a b c sent rest bytes n is p q = grind (arith, take_all, length-drop, take-append-drop, append_assoc, Appends-trans)

-- laws for any view of a writer
module _ {P : Type 0} (seen : P → Writer) where
  pub took_both : (a b c : P) (xs ys : List ℕ) → TookAll (seen a) (seen b) xs → TookAll (seen b) (seen c) ys → TookAll (seen a) (seen c) (xs ++ ys)
  took_both a b c xs ys p q = grind (arith, common_steps)

  -- one part was written, then a prefix of the next
  pub part_behind : (a b c : P) (xs ys : List ℕ) → TookAll (seen a) (seen b) xs → TookPart (seen b) (seen c) ys → TookPart (seen a) (seen c) (xs ++ ys)
  part_behind a b c xs ys p q = (
    (
      length xs + q.0.0,
      omega (arith, q.0.1, length-append xs ys),
      subst (Appends (seen a).taken (seen c).taken) (sym (take-append-add xs ys q.0.0))
          (Appends-trans (seen a).taken (seen b).taken (seen c).taken xs (take q.0.0 ys) p.0 q.0.2),
    ),
    omega (arith, p.1, q.1),
  )

  -- one part was written, then another
  pub wrote_then : {T E : Type 0} (a b c : P) (xs ys : List ℕ) (r : Result T E) → TookAll (seen a) (seen b) xs → Wrote (seen b) (seen c) ys r → Wrote (seen a) (seen c) (xs ++ ys) r
  wrote_then a b c xs ys (Ok v) p q = took_both a b c xs ys p q
  wrote_then a b c xs ys (Err e) p q = part_behind a b c xs ys p q

  -- a prefix of a part is a prefix of the whole
  pub wrote_less : (a b : P) (xs ys : List ℕ) → TookPart (seen a) (seen b) xs → TookPart (seen a) (seen b) (xs ++ ys)
  wrote_less a b xs ys p = grind (arith, length-append, take-append-le)

  -- the lines before the i-th were written, then a prefix of that one
  pub lines_cut : {X : Type 0} (f : X → List ℕ) (a b c : P) (items : List X) (i : ℕ) (item : X) → i < length items
      → TookAll (seen a) (seen b) (flat_map f (take i items)) → TookPart (seen b) (seen c) (f (get_or items i item)) → TookPart (seen a) (seen c) (flat_map f items)
  lines_cut f a b c items i item within before some =
      let after = flat_map f (drop (suc i) items) in
      subst (TookPart (seen a) (seen c)) (sym (grind (arith, (take-append-drop i items), (flat_map-append f (take i items) (drop i items)), (drop-cons items i item within))))
      (part_behind a b c (flat_map f (take i items)) ((f (get_or items i item)) ++ after) before (wrote_less b c (f (get_or items i item)) after some))

  -- the same for items seen through `view`, if `shown` is the view of the i-th item
  pub shown_lines_cut : {X Y : Type 0} (f : Y → List ℕ) (view : X → Y) (a b c : P) (items : List X) (i : ℕ) (item : X) (shown : Y)
      → i < length items → shown ≡ view (get_or items i item) → TookAll (seen a) (seen b) (flat_map f (map view (take i items)))
      → TookPart (seen b) (seen c) (f shown) → TookPart (seen a) (seen c) (flat_map f (map view items))
  shown_lines_cut f view a b c items i item shown within is before some =
      let cut = lines_cut (λ x. f (view x)) a b c items i item within (subst (TookAll (seen a) (seen b)) (flat_map-map f view (take i items)) before)
      (subst (λ y. TookPart (seen b) (seen c) (f y)) is some) in
      subst (TookPart (seen a) (seen c)) (sym (flat_map-map f view items)) cut

  pub shown_lines_next : {X Y : Type 0} (f : Y → List ℕ) (view : X → Y) (a b c : P) (items : List X) (i : ℕ) (item : X) (shown : Y)
      → i < length items → shown ≡ view (get_or items i item) → TookAll (seen a) (seen b) (flat_map f (map view (take i items)))
      → TookAll (seen b) (seen c) (f shown) → TookAll (seen a) (seen c) (flat_map f (map view (take (i + 1) items)))
  shown_lines_next f view a b c items i item shown within is before one = grind (arith, common_steps, flat_map-map, take_more, flat_map-append, append-nil, took_both)
