-- Windows at the positions that a search finds.
use Rattle.par2_slices.proofs.Common.{◌≡◌, ℕ, zero, suc, ◌+◌, ◌<◌, Bool, true, false, cond, List, [], ◌∷◌, ◌++◌, length, map, drop, get_or, refl, sym, ap, ap₂, subst, ◌∙◌, arith, Option, Some, None, IfSome, find, option_map, range_with_len, option_or, flat_map-append, append-nil, drop_more, get_or-map, length-drop, length-map, find-append, Pair, first_match, found, is_match, window, Position, first_position, first_position_from, no_pair, pair_at, position_in, listed_at, IsWithin, window_in}

pub out_of : {X Y : Type 0} (f : X → Y) (b : Bool) (x : X) (o : Option X) → cond b (Some (f x)) (option_map f o) ≡ option_map f (cond b (Some x) o)
out_of f true x o = refl
out_of f false x o = refl

find-map : {X Y : Type 0} (p : Y → Bool) (f : X → Y) (xs : List X) → find p (map f xs) ≡ option_map f (find (λ x. p (f x)) xs)
find-map p f [] = refl
find-map p f (x ∷ xs) = ap (cond (p (f x)) (Some (f x))) (find-map p f xs) ∙ out_of f (p (f x)) x (find (λ y. p (f y)) xs)

-- the window found in one buffer
found_one : (s : ℕ) (bytes : List ℕ) (pair : Pair) → found s (bytes ∷ []) pair ≡ option_map (window s bytes) (first_match s bytes pair)
found_one s bytes pair = grind (arith, append-nil, find-map)

-- the window found in some buffers and then in others
found-append : (s : ℕ) (buffers others : List (List ℕ)) (pair : Pair) → found s (buffers ++ others) pair ≡ option_or (found s buffers pair) (found s others pair)
found-append s buffers others pair = grind (arith, flat_map-append, find-append)

first_below : (p : ℕ → Bool) (a n : ℕ) → IfSome (find p (range_with_len a n)) (λ o. o < a + n)
first_below p a zero = tt
first_below p a (suc n) = step (p a) (subst Within (let e : a + 1 + n ≡ a + suc n = omega arith in e) (first_below p (a + 1) n))
  where
    rest : Option ℕ
    rest = find p (range_with_len (a + 1) n)

    Within : ℕ → Type 0
    Within end = IfSome rest (λ o. o < end)

    step : (b : Bool) → Within (a + suc n) → IfSome (cond b (Some a) rest) (λ o. o < a + suc n)
    step true h = omega arith
    step false h = h

-- the offset of a window lies in the buffer
pub first_within : (s : ℕ) (bytes : List ℕ) (pair : Pair) (offset : Option ℕ) → offset ≡ first_match s bytes pair → IfSome offset (λ o. o < length bytes)
first_within s bytes pair offset is =
    subst (λ offset. IfSome offset (λ o. o < length bytes)) (sym is)
    (subst (λ end. IfSome (first_match s bytes pair) (λ o. o < end)) (let e : 0 + length bytes ≡ length bytes = omega arith in e)
    (first_below (λ o. is_match pair (window s bytes o)) 0 (length bytes)))

head_of_rest : {X : Type 0} (xs : List X) (n : ℕ) (x : X) (ys : List X) (d : X) → drop n xs ≡ x ∷ ys → (n < length xs) × (get_or xs n d ≡ x) × (drop (n + 1) xs ≡ ys)
head_of_rest xs n x ys d is =
    let within : n < length xs = omega (arith, ap length is, length-drop n xs) in
    let both = sym (drop_more xs n d within) ∙ is in
    (within, (let e : get_or xs n d ≡ x = cc both in e), (let e : drop (n + 1) xs ≡ ys = cc both in e))

-- ---- the first position among buffers that follow others

module _ (all : List (List ℕ)) (s : ℕ) (pair : Pair) where
  -- it is in one of them
  within_from : (n : ℕ) (buffers : List (List ℕ)) → drop n all ≡ buffers → IfSome (first_position_from n s buffers pair) (IsWithin all)
  within_from n [] rest = tt
  within_from n (bytes ∷ buffers) rest = step (first_match s bytes pair) (first_within s bytes pair _ refl) (within_from (n + 1) buffers (head_of_rest all n bytes buffers [] rest).2)
    where
      step : (o : Option ℕ) → IfSome o (λ k. k < length bytes) → IfSome (first_position_from (n + 1) s buffers pair) (IsWithin all) → IfSome (option_or (option_map (position_in n) o) (first_position_from (n + 1) s buffers pair)) (IsWithin all)
      step None h later = later
      step (Some k) h later = let head = head_of_rest all n bytes buffers [] rest in record { bytes = head.0; offset = subst (λ t. k < length t) (sym head.1) h }

  -- and its window is the first that matches
  found_from : (n : ℕ) (buffers : List (List ℕ)) → drop n all ≡ buffers → option_map (window_in s all) (first_position_from n s buffers pair) ≡ found s buffers pair
  found_from n [] rest = refl
  found_from n (bytes ∷ buffers) rest =
      let head = head_of_rest all n bytes buffers [] rest in
      step (first_match s bytes pair) (first_position_from (n + 1) s buffers pair)
      ∙ ap₂ (λ t o. option_or (option_map (window s t) (first_match s bytes pair)) o) head.1 (found_from (n + 1) buffers head.2)
      ∙ ap (λ o. option_or o (found s buffers pair)) (sym (found_one s bytes pair))
      ∙ sym (found-append s (bytes ∷ []) buffers pair)
    where
      step : (o : Option ℕ) (later : Option Position) → option_map (window_in s all) (option_or (option_map (position_in n) o) later) ≡ option_or (option_map (window s (listed_at all n)) o) (option_map (window_in s all) later)
      step None later = refl
      step (Some k) later = refl

pub position_within : (s : ℕ) (buffers : List (List ℕ)) (pair : Pair) → IfSome (first_position s buffers pair) (IsWithin buffers)
position_within s buffers pair = within_from buffers s pair 0 buffers refl

pub position_found : (s : ℕ) (buffers : List (List ℕ)) (pair : Pair) → option_map (window_in s buffers) (first_position s buffers pair) ≡ found s buffers pair
position_found s buffers pair = found_from buffers s pair 0 buffers refl

-- position i is that of pair i
pub position_of_pair : (s : ℕ) (buffers : List (List ℕ)) (pairs : List Pair) (positions items : List (Option Position)) (i : ℕ) → positions ≡ map (first_position s buffers) pairs → items ≡ positions → i < length items
    → (i < length pairs) × (get_or items i None ≡ first_position s buffers (pair_at pairs i))
position_of_pair s buffers pairs positions items i positions_are items_are low =
    let are : items ≡ map (first_position s buffers) pairs = items_are ∙ positions_are in
    let inside : i < length pairs = omega (arith, low, ap length are, length-map pairs (first_position s buffers)) in
    (inside, ap (λ xs. get_or xs i None) are ∙ get_or-map (first_position s buffers) pairs i no_pair None inside)
