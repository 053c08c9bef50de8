-- The tests over all vectors as statements, the exponents that are kept, and the loop that offers their equations.
use Rattle.par2_matrix.proofs.Common.{by_either, ◌≡◌, ◌≢◌, ℕ, ◌^◌, List, [], ◌∷◌, T, true, false, ◌&&◌, not, eqb→eq, and_yes, yes_and, false_from_ne_true, eq-eqb, list_all, AllByRecursion, dot, IsVector, kills, is_independent, some_list, zero, suc, ◌+◌, ◌<◌, ◌≤◌, ◌↔◌, refl, sym, ap, ap₂, ◌∙◌, subst, arith, Bool, cond, ltb, ◌++◌, length, get_or, map, bit_xor, take, filter, Result, Ok, cases_eq, lt-ltb, le-ltb, take_more, map-append, filter_more, AllPairs-from_increasing, IsStrictlyIncreasing, mul, coefficients, smaller, kept, product-zero, all-append, all-parts, Equations, OnlyZeroIsKilled, Kept, Dependent, IsDependent, length-append, ◌*◌, eqb, ◌||◌, append-nil, list_any, eqb-true, cases_lt, get_or_append_left, get_or_at, take_all, combination, Kills, kept_slices, CutDown, IsIndependent, Solves, AreSolutionBuffers, IsUnit, filter-map, IsEliminated, all-map, all_unmap, T_not, not_T, AllocError, any-filter_same, and-true, or-true, by_true, is_true, Offer, all_weaker}
use Rattle.par2_matrix.specs.Systems as systems

-- the vector is in the null space of all rows
abbrev pub AllKill : List (List ℕ) → List ℕ → Type 0
AllKill rows v = AllByRecursion (λ row. dot row v ≡ 0) rows

all_killed : (v : List ℕ) (rows : List (List ℕ)) → T (list_all (kills v) rows) → AllKill rows v
all_killed v [] h = tt
all_killed v (row ∷ rows) h = let parts = and_yes (kills v row) _ h in (eqb→eq (dot row v) 0 parts.0, all_killed v rows parts.1)

all_kill : (v : List ℕ) (rows : List (List ℕ)) → AllKill rows v → T (list_all (kills v) rows)
all_kill v [] h = tt
all_kill v (row ∷ rows) h = yes_and (kills v row) _ (by_true (eq-eqb (dot row v) 0 h.0)) (all_kill v rows h.1)

-- some vector is in the null space of the rows and not in that of another one
abbrev pub IsDistinguished : ℕ → List (List ℕ) → List ℕ → Type 0
IsDistinguished n before row = (v : List ℕ) × IsVector n v × AllKill before v × (dot row v ≢ 0)

-- a row is independent exactly if such a vector exists
pub independent : (n : ℕ) (before : List (List ℕ)) (row : List ℕ) → IsDistinguished n before row → is_independent n before row ≡ true
unfolding is_independent
independent n before row h =
    is_true ((some_list (2 ^ 16) n (λ v. list_all (kills v) before && not (kills v row))).1
    (h.0, h.1, yes_and (list_all (kills h.0) before) _ (all_kill h.0 before h.2) (not_T (kills h.0 row) (λ k. h.3 (eqb→eq (dot row h.0) 0 k)))))

pub distinguished : (n : ℕ) (before : List (List ℕ)) (row : List ℕ) → is_independent n before row ≡ true → IsDistinguished n before row
unfolding is_independent
distinguished n before row h =
    let some = (some_list (2 ^ 16) n (λ v. list_all (kills v) before && not (kills v row))).0 (by_true h) in
    let parts = and_yes (list_all (kills some.0) before) _ some.2 in
    (some.0, some.1, all_killed some.0 before parts.0, λ k. T_not (kills some.0 row) parts.1 (by_true (eq-eqb (dot row some.0) 0 k)))

-- the null space of the rows is in that of the row
abbrev pub Follows : ℕ → List (List ℕ) → List ℕ → Type 0
Follows n before row = (v : List ℕ) → IsVector n v → AllKill before v → dot row v ≡ 0

pub dependent : (n : ℕ) (before : List (List ℕ)) (row : List ℕ) → Follows n before row → is_independent n before row ≡ false
dependent n before row h = false_from_ne_true (is_independent n before row) (λ e. let some = distinguished n before row e in some.3 (h some.0 some.1 some.2))

-- Which exponents are kept, and when a row is dependent.

-- ---- the exponents before one

-- if exactly the first i items pass a test, a filter leaves these
pub filter_front : (t : ℕ → Bool) (xs : List ℕ) (i : ℕ) → ((k : ℕ) → k < i → k < length xs → t (get_or xs k 0) ≡ true) → ((k : ℕ) → i ≤ k → k < length xs → t (get_or xs k 0) ≡ false) → filter t xs ≡ take i xs
filter_front t [] zero inside past = refl
filter_front t [] (suc i) inside past = refl
filter_front t (x ∷ xs) zero inside past =
    let first : t x ≡ false = past 0 (omega arith) (omega arith) in
    ap (λ b. cond b (x ∷ filter t xs) (filter t xs)) first ∙ filter_front t xs 0 (λ k h l. absurd (omega arith)) (λ k h l. past (suc k) (omega arith) (omega arith)) ∙ none xs
  where
    none : (ys : List ℕ) → take 0 ys ≡ []
    none [] = refl
    none (y ∷ ys) = refl
filter_front t (x ∷ xs) (suc i) inside past =
    let first : t x ≡ true = inside 0 (omega arith) (omega arith) in
    ap (λ b. cond b (x ∷ filter t xs) (filter t xs)) first ∙ ap (λ ys. x ∷ ys) (filter_front t xs i (λ k h l. inside (suc k) (omega arith) (omega arith)) (λ k h l. past (suc k) (omega arith) (omega arith)))

pub smaller_are : (xs : List ℕ) → IsStrictlyIncreasing xs → (i : ℕ) → i < length xs → smaller (get_or xs i 0) xs ≡ take i xs
smaller_are xs up i h =
    filter_front (λ x. ltb x (get_or xs i 0)) xs i
    (λ k low l. lt-ltb _ _ (AllPairs-from_increasing xs up k i 0 low h))
    (λ k high l. le-ltb _ _ (by_either (cases_eq i k)
    (λ same. (let e : get_or xs i 0 ≡ get_or xs k 0 = ap (λ m. get_or xs m 0) same in omega (arith, e)))
    (λ other. (let more = AllPairs-from_increasing xs up i k 0 (omega arith) l in omega (arith, more)))))

-- ---- the exponents that were offered

-- whether an exponent is kept among all
abbrev pub is_kept : List ℕ → List ℕ → ℕ → Bool
is_kept lost all e = is_independent (length lost) (map (coefficients lost) (smaller e all)) (coefficients lost e)

all_more : {A : Type 0} (P : A → Type 0) (xs : List A) (x : A) → AllByRecursion P (xs ++ x ∷ []) ↔ (AllByRecursion P xs × P x)
all_more P xs x = ((λ h. let parts = all-parts P xs (x ∷ []) h in (parts.0, parts.1.0)), (λ h. all-append P xs (x ∷ []) h.0 (h.1, tt)))

-- a vector is in the null space of one row more
pub kills_more : (lost all : List ℕ) (i : ℕ) (v : List ℕ) → i < length all → AllKill (map (coefficients lost) (take (i + 1) all)) v ↔ (AllKill (map (coefficients lost) (take i all)) v × (dot (coefficients lost (get_or all i 0)) v ≡ 0))
kills_more lost all i v h =
    subst (λ rows. AllKill rows v ↔ (AllKill (map (coefficients lost) (take i all)) v × (dot (coefficients lost (get_or all i 0)) v ≡ 0)))
    (sym (ap (map (coefficients lost)) (take_more all i 0 h) ∙ map-append (coefficients lost) (take i all) (get_or all i 0 ∷ [])))
    (all_more (λ row. dot row v ≡ 0) (map (coefficients lost) (take i all)) (coefficients lost (get_or all i 0)))

pub kept_more : {A : Type 0} (p : A → Bool) (xs : List A) (i : ℕ) (d : A) (b : Bool) → i < length xs → p (get_or xs i d) ≡ b
    → filter p (take (i + 1) xs) ≡ filter p (take i xs) ++ cond b (get_or xs i d ∷ []) []
kept_more p xs i d b h e = filter_more p xs i d h ∙ ap (λ c. filter p (take i xs) ++ cond c (get_or xs i d ∷ []) []) e

-- the test of exponent i among the smaller ones
pub is_kept_at : (lost all : List ℕ) (i : ℕ) → IsStrictlyIncreasing all → i < length all
    → is_kept lost all (get_or all i 0) ≡ is_independent (length lost) (map (coefficients lost) (take i all)) (coefficients lost (get_or all i 0))
is_kept_at lost all i up h =
    ap (λ before. is_independent (length lost) (map (coefficients lost) before) (coefficients lost (get_or all i 0))) (smaller_are all up i h)

-- if only the zero vector is in the null space, each row follows
dot_zeros : (row v : List ℕ) → AllByRecursion (λ x. x ≡ 0) v → dot row v ≡ 0
unfolding dot
dot_zeros [] v h = refl
dot_zeros (c ∷ row) [] h = refl
dot_zeros (c ∷ row) (x ∷ v) h = ap₂ bit_xor (ap (mul c) h.0 ∙ product-zero c) (dot_zeros row v h.1)

pub full_follows : (s : Equations) (row : List ℕ) → OnlyZeroIsKilled s → IsDependent s row
full_follows s row alone v is killed = dot_zeros row v (alone v is killed)

-- a dependent equation isn't kept
pub dependent_is_not_kept : (r : Result Offer AllocError) → r ≡ Ok Dependent → r ≡ Ok Kept → ⊥
dependent_is_not_kept r is kept = (cc)

-- The loop that offers the equations of the exponents.

-- ---- the recovery slices of the kept exponents

among_kept : (p : ℕ → Bool) (all : List ℕ) (x : ℕ) → list_any (λ e. eqb e x) all ≡ true → list_any (λ e. eqb e x) (filter p all) ≡ p x
among_kept p all x here = any-filter_same (λ e. eqb e x) p (p x) (λ e same. ap p (eqb-true e x same)) all ∙ ap (λ b. p x && b) here ∙ and-true (p x)

each_among : (recs : List (ℕ × List ℕ)) → AllByRecursion (λ r. list_any (λ e. eqb e r.0) (map (λ r. r.0) recs) ≡ true) recs
each_among [] = tt
each_among (x ∷ recs) = (
  ap (λ c. c || list_any (λ e. eqb e x.0) (map (λ r. r.0) recs)) (eq-eqb x.0 x.0 refl),
  all_weaker (λ r. list_any (λ e. eqb e r.0) (map (λ r. r.0) recs) ≡ true) (λ r. list_any (λ e. eqb e r.0) (x.0 ∷ map (λ r. r.0) recs) ≡ true)
      (λ r h. ap (λ c. eqb x.0 r.0 || c) h ∙ or-true (eqb x.0 r.0)) recs (each_among recs),
)

same_filter : (p q : ℕ × List ℕ → Bool) (recs : List (ℕ × List ℕ)) → AllByRecursion (λ r. p r ≡ q r) recs → filter p recs ≡ filter q recs
same_filter p q [] h = refl
same_filter p q (x ∷ recs) h = ap₂ (λ b xs. cond b (x ∷ xs) xs) h.0 (same_filter p q recs h.1)

pub kept_slices_are : (lost_ones : List ℕ) (recs : List (ℕ × List ℕ)) → kept_slices lost_ones (map (λ r. r.0) recs) recs ≡ filter (λ r. is_kept lost_ones (map (λ r. r.0) recs) r.0) recs
kept_slices_are lost_ones recs =
    let all = map (λ (r : ℕ × List ℕ). r.0) recs in
    same_filter (λ r. list_any (λ e. eqb e r.0) (kept lost_ones all)) (λ r. is_kept lost_ones all r.0) recs
    (all_weaker (λ r. list_any (λ e. eqb e r.0) all ≡ true) (λ r. list_any (λ e. eqb e r.0) (kept lost_ones all) ≡ is_kept lost_ones all r.0) (λ r h. among_kept (is_kept lost_ones all) all r.0 h) recs (each_among recs))

-- the exponents of the recovery slices of the kept exponents
pub kept_exponents : (lost_ones : List ℕ) (recs : List (ℕ × List ℕ)) → map (λ r. r.0) (kept_slices lost_ones (map (λ r. r.0) recs) recs) ≡ kept lost_ones (map (λ r. r.0) recs)
kept_exponents lost_ones recs =
    ap (map (λ (r : ℕ × List ℕ). r.0)) (kept_slices_are lost_ones recs) ∙ sym (filter-map (is_kept lost_ones (map (λ (r : ℕ × List ℕ). r.0) recs)) (λ (r : ℕ × List ℕ). r.0) recs)

-- ---- the loop

-- the equations of the first i exponents were offered
pub record Standing (lost : List ℕ) (units : ℕ) (all kept : List ℕ) (i : ℕ) (system : Equations) : Type 0 where
  pub columns : system.columns ≡ length lost
  pub bytes : system.bytes ≡ 2 * units
  pub kills : (v : List ℕ) → IsVector (length lost) v → systems.IsKilled system v ↔ AllKill (map (coefficients lost) (take i all)) v
  pub are_kept : kept ≡ filter (is_kept lost all) (take i all)
  pub count : systems.rank system ≡ length kept
  pub solves : (buffers : List (List ℕ)) → AreSolutionBuffers system buffers → Solves system buffers
      → (j : ℕ) → j < length kept → j < units → IsUnit units j (combination (2 * units) (coefficients lost (get_or kept j 0)) buffers)

module _ (lost : List ℕ) (units : ℕ) (all : List ℕ) (up : IsStrictlyIncreasing all) (i : ℕ) (low : i < length all) (kept : List ℕ) (system : Equations) (before : Standing lost units all kept i system) where
  abbrev e : ℕ
  e = get_or all i 0

  -- whether it is kept
  kept_if : (b : Bool) → is_independent (length lost) (map (coefficients lost) (take i all)) (coefficients lost e) ≡ b → filter (is_kept lost all) (take (i + 1) all) ≡ kept ++ cond b (e ∷ []) []
  kept_if b is = kept_more (is_kept lost all) all i 0 b low (is_kept_at lost all i up low ∙ is) ∙ ap (λ ks. ks ++ cond b (e ∷ []) []) (sym before.are_kept)

  vector_here : (v : List ℕ) → IsVector (length lost) v → IsVector system.columns v
  vector_here v is = subst (λ n. IsVector n v) (sym before.columns) is

  -- the equation was dropped
  pub stands_still : IsDependent system (coefficients lost e) → Standing lost units all kept (i + 1) system
  stands_still follows = record {
    columns = before.columns;
    bytes = before.bytes;
    kills = λ v is.
        let old = before.kills v is in
        let more = kills_more lost all i v low in
        ((λ k. more.1 (old.0 k, follows v (vector_here v is) k)), (λ k. old.1 (more.0 k).0));
    are_kept = sym (kept_if false (dependent (length lost) (map (coefficients lost) (take i all)) (coefficients lost e) (λ v is killed. follows v (vector_here v is) ((before.kills v is).1 killed))) ∙ append-nil kept);
    count = before.count;
    solves = before.solves;
  }

  -- the equation was kept
  pub stands_more : (ys right : List ℕ) (new : Equations) → ys ≡ kept ++ get_or all i 0 ∷ [] → new.columns ≡ system.columns → new.bytes ≡ system.bytes
      → CutDown system new (coefficients lost e) right → IsIndependent system (coefficients lost e) → (length kept < units → IsUnit units (length kept) right) → Standing lost units all ys (i + 1) new
  stands_more ys right new pushed columns new_bytes cut reported unit =
      let vector : IsVector (length lost) reported.0 = subst (λ n. IsVector n reported.0) before.columns reported.1 in
      record {
        columns = columns ∙ before.columns;
        bytes = new_bytes ∙ before.bytes;
        kills = λ v is.
            let old = before.kills v is in
            let more = kills_more lost all i v low in
            let now = cut.kills v (vector_here v is) in
            ((λ k. more.1 (old.0 (now.0 k).0, (now.0 k).1)), (λ k. now.1 (old.1 (more.0 k).0, (more.0 k).1)));
        are_kept = pushed ∙ sym (kept_if true (independent (length lost) (map (coefficients lost) (take i all)) (coefficients lost e) (reported.0, vector, (before.kills reported.0 vector).0 reported.2, reported.3)));
        count = cut.rank ∙ ap (λ n. n + 1) before.count ∙ sym (ap (λ (ks : List ℕ). length ks) pushed ∙ length-append kept (e ∷ []));
        solves = λ buffers are solved j hj hu.
            let are_old : AreSolutionBuffers system buffers = record {
              count = are.count ∙ columns;
              sizes = subst (λ n. AllByRecursion (λ content. length content ≡ n) buffers) new_bytes are.sizes;
              bytes = are.bytes;
            } in
            let both = (cut.solves buffers are_old).0 solved in
            subst (λ (ks : List ℕ). IsUnit units j (combination (2 * units) (coefficients lost (get_or ks j 0)) buffers)) (sym pushed)
            (by_either (cases_lt j (length kept))
            (λ early. subst (λ x. IsUnit units j (combination (2 * units) (coefficients lost x) buffers)) (sym (get_or_append_left kept (e ∷ []) 0 j early)) (before.solves buffers are_old both.0 j early hu))
            (λ late.
            let last : length kept ≡ j = (let n = length-append kept (e ∷ []) in let many = ap (λ (ks : List ℕ). length ks) pushed in omega (arith, n, many, hj, late)) in
            subst (λ m. IsUnit units m (combination (2 * units) (coefficients lost (get_or (kept ++ e ∷ []) m 0)) buffers)) last
            (subst (λ x. IsUnit units (length kept) (combination (2 * units) (coefficients lost x) buffers)) (sym (get_or_at kept e [] 0 (length kept) refl))
            (subst (IsUnit units (length kept)) (sym (subst (λ m. combination m (coefficients lost e) buffers ≡ right) before.bytes both.1)) (unit (omega (arith, last, hu)))))));
      }

-- ---- the end of the loop

pub eliminated : (lost : List ℕ) (units : ℕ) (all kept_ones : List ℕ) (i : ℕ) (system : Equations) → i ≡ length all → Standing lost units all kept_ones i system → IsEliminated lost units all kept_ones system
eliminated lost units all kept_ones i system e stands =
    let whole : take i all ≡ all = take_all i all (omega (arith, e)) in
    let are_kept : kept_ones ≡ kept lost all = stands.are_kept ∙ ap (filter (is_kept lost all)) whole in
    record {
      columns = stands.columns;
      bytes = stands.bytes;
      are_kept = are_kept;
      rank = stands.count ∙ ap (λ (ks : List ℕ). length ks) are_kept;
      repairable = (
        (λ alone v is killed. alone v (subst (λ n. IsVector n v) (sym stands.columns) is) ((stands.kills v is).1 (subst (λ es. AllKill (map (coefficients lost) es) v) (sym whole) (all-map (λ e. Kills lost e v) (λ row. dot row v ≡ 0) (coefficients lost) (λ e h. h) all killed)))),
        (λ repairable v is killed.
            let is_here = subst (λ n. IsVector n v) stands.columns is in
            repairable v is_here (all_unmap (λ row. dot row v ≡ 0) (coefficients lost) all (subst (λ es. AllKill (map (coefficients lost) es) v) whole ((stands.kills v is_here).0 killed)))),
      );
      solves = stands.solves;
    }
