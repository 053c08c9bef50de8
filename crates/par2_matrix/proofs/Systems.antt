-- The null space and the solutions of a system in reduced row echelon form.
use Rattle.par2_matrix.proofs.Common.{ℕ, zero, suc, ◌+◌, ◌<◌, ◌≤◌, ◌≡◌, ◌≢◌, ◌⊎◌, ◌↔◌, inl, inr, refl, sym, ap, ap₂, ◌∙◌, subst, arith, List, length, bit_xor, cond, eqb, cases_eq, cases_lt, eq-eqb, ne_eqb, cond-true, cond-false, suc-ne-zero, xor_self, mul, word, product_comm, product-one, product-zero, zero-product, Echelon, Vanishes, IsReduced, count_present, row_sum, GivesElements, list_at, word_empty, field_sum_one, field_sum_two, row_sum_empty, row_sum_unit, by_either, ◌*◌, get_or, cancel, echelon, Meets, ReducedBelow, PutAt, word-lt, row_sum_added, row_sum_scaled, row_sum-lt, xor_off, xor_same, ◌%◌, [], get_or_past, product-lt, AllEmpty, word_past, IsPrepared, xor_zero_r, IsInverse, AddsProducts, Scaled, set, Vec, Global, lists_of, OneChanged, written_here, written_changed, length-lists_of, xor_lt, xor_middle}

-- a vector of the null space that the row does not send to 0
pub record IsDistinguished (s : Echelon) (row : List ℕ) : Type 0 where
  pub vector : ℕ → ℕ
  pub are_elements : GivesElements vector
  pub killed : Vanishes s vector
  pub reported : row_sum s.columns row vector ≢ 0

-- a vector of the null space for a column without a pivot: 1 there, and at each pivot the element of that equation in
-- this column
witness : List (List ℕ) → ℕ → ℕ → ℕ
witness rows q i = cond (eqb i q) 1 (word q (list_at rows i))

witness_here : (rows : List (List ℕ)) (q : ℕ) → witness rows q q ≡ 1
unfolding witness
witness_here rows q = cond-true (eqb q q) 1 (word q (list_at rows q)) (eq-eqb q q refl)

witness_else : (rows : List (List ℕ)) (q i : ℕ) → i ≢ q → witness rows q i ≡ word q (list_at rows i)
unfolding witness
witness_else rows q i n = cond-false (eqb i q) 1 (word q (list_at rows i)) (ne_eqb i q n)

witness_vector : (s : Echelon) → IsReduced s → (q : ℕ) → GivesElements (witness s.rows q)
witness_vector s r q i = grind (arith, by_either, cases_eq, witness, witness_here, witness_else)

witness_killed : (s : Echelon) → IsReduced s → (q : ℕ) → q < s.columns → length (list_at s.rows q) ≡ 0 → Vanishes s (witness s.rows q)
witness_killed s r q hq free p hp = at (cases_lt 0 (length (list_at s.rows p)))
  where
    at : ((0 < length (list_at s.rows p)) ⊎ (length (list_at s.rows p) ≤ 0)) → row_sum s.columns (list_at s.rows p) (witness s.rows q) ≡ 0
    at (inr none) = row_sum_empty s.columns (list_at s.rows p) (witness s.rows q) (λ i h. word_empty (list_at s.rows p) i (omega arith))
    at (inl there) =
        let apart : p ≢ q = λ e. (let z : length (list_at s.rows p) ≡ 0 = ap (λ x. length (list_at s.rows x)) e ∙ free in omega arith) in
        let v = word q (list_at s.rows p) in
        field_sum_two s.columns p q (λ i. mul (word i (list_at s.rows p)) (witness s.rows q i)) hp hq apart
        (λ i h np nq. by_either (cases_lt 0 (length (list_at s.rows i)))
        (λ present. ap (λ x. mul x (witness s.rows q i)) (r.cleared p i (λ e. np (sym e)) present) ∙ zero-product (witness s.rows q i))
        (λ none. ap (mul (word i (list_at s.rows p))) (witness_else s.rows q i nq ∙ word_empty (list_at s.rows i) q (omega arith)) ∙ product-zero (word i (list_at s.rows p))))
        ∙ ap₂ bit_xor
        (ap₂ mul (r.pivot p there) (witness_else s.rows q p apart) ∙ product_comm 1 v (omega arith) (r.small p q) ∙ product-one v (r.small p q))
        (ap (mul v) (witness_here s.rows q) ∙ product-one v (r.small p q)) ∙ xor_self v

-- a row that is 0 at each pivot and not at q does not send this vector to 0
pub distinguished : (s : Echelon) → IsReduced s → (row : List ℕ) (q : ℕ) → q < s.columns → word q row ≢ 0 → ((i : ℕ) → word i row < 65536)
    → ((p : ℕ) → p < s.columns → 0 < length (list_at s.rows p) → word p row ≡ 0) → IsDistinguished s row
distinguished s r row q hq nonzero small none =
    let free : length (list_at s.rows q) ≡ 0 = by_either (cases_lt 0 (length (list_at s.rows q)))
    (λ there. absurd (nonzero (none q hq there)))
    (λ e. omega arith) in
    record {
      vector = witness s.rows q;
      are_elements = witness_vector s r q;
      killed = witness_killed s r q hq free;
      reported = λ e. nonzero (sym
          (field_sum_one s.columns q (λ i. mul (word i row) (witness s.rows q i)) hq
          (λ i h n. by_either (cases_lt 0 (length (list_at s.rows i)))
          (λ present. ap (λ x. mul x (witness s.rows q i)) (none i h present) ∙ zero-product (witness s.rows q i))
          (λ gone. ap (mul (word i row)) (witness_else s.rows q i n ∙ word_empty (list_at s.rows i) q (omega arith)) ∙ product-zero (word i row)))
          ∙ ap (mul (word q row)) (witness_here s.rows q) ∙ product-one (word q row) (small q)) ∙ e);
    }

-- ---- full rank

pub present_at_most : (rows : List (List ℕ)) (n : ℕ) → count_present rows n ≤ n
unfolding count_present
present_at_most rows zero = omega arith
present_at_most rows (suc n) = grind (arith, by_either, cases_eq, eq-eqb, ne_eqb, present_at_most rows n)

pub all_present : (rows : List (List ℕ)) (n : ℕ) → count_present rows n ≡ n → (p : ℕ) → p < n → 0 < length (list_at rows p)
unfolding count_present
all_present rows zero e p h = absurd (omega arith)
all_present rows (suc n) e p h = grind (arith, by_either, cases_eq, eq-eqb, ne_eqb, present_at_most rows n, all_present rows n)

pub one_absent : (rows : List (List ℕ)) (n : ℕ) → count_present rows n < n → (q : ℕ) × ((q < n) × (length (list_at rows q) ≡ 0))
unfolding count_present
one_absent rows zero h = absurd (omega arith)
one_absent rows (suc n) h = by_either (cases_eq (length (list_at rows n)) 0)
    (λ none. (n, (omega arith, none)))
    (λ some.
    let f : count_present rows n + 1 < suc n = subst (λ b. count_present rows n + cond b 0 1 < suc n) (ne_eqb (length (list_at rows n)) 0 some) h in
    let rest = one_absent rows n (omega arith) in
    (rest.0, (omega (arith, rest.1.0), rest.1.1)))

-- at full rank, each equation is about its own unknown alone
pub unit_row : (s : Echelon) → IsReduced s → s.rank ≡ s.columns → (f : ℕ → ℕ) → GivesElements f → (p : ℕ) → p < s.columns → row_sum s.columns (list_at s.rows p) f ≡ f p
unit_row s r full f v p h = grind (arith, all_present, row_sum_unit)

-- a vector of the null space with 1 at one position
pub record FreeVector (s : Echelon) : Type 0 where
  pub vector : ℕ → ℕ
  pub are_elements : GivesElements vector
  pub killed : Vanishes s vector
  pub place : ℕ
  pub within : place < s.columns
  pub one : vector place ≡ 1

pub free_vector : (s : Echelon) → IsReduced s → s.rank < s.columns → FreeVector s
free_vector s r below =
    let free = one_absent s.rows s.columns (subst (λ x. x < s.columns) r.rank below) in
    record {
      vector = witness s.rows free.0;
      are_elements = witness_vector s r free.0;
      killed = witness_killed s r free.0 free.1.0 free.1.1;
      place = free.0;
      within = free.1.0;
      one = witness_here s.rows free.0;
    }

-- the null space is zero exactly if the rank is the number of columns
pub full_rank : (s : Echelon) → IsReduced s → (s.rank ≡ s.columns) ↔ ((f : ℕ → ℕ) → GivesElements f → Vanishes s f → (i : ℕ) → i < s.columns → f i ≡ 0)
full_rank s r = (
  λ full f v k i h. sym (unit_row s r full f v i h) ∙ k i h,
  λ only. by_either (cases_lt s.rank s.columns)
      (λ below.
      let free = free_vector s r below in
      absurd (suc-ne-zero 0 (sym free.one ∙ only free.vector free.are_elements free.killed free.place free.within)))
      (λ above. omega (arith, present_at_most s.rows s.columns, r.rank)),
)

-- An equation gets its pivot in a reduced system.

-- the new system has the row at q, and the old rows with column q cleared
pub record Eliminated (n q : ℕ) (old new : List (List ℕ)) (row : List ℕ) : Type 0 where
  pub small : (p i : ℕ) → word i (list_at old p) < 65536
  pub small_row : (i : ℕ) → word i row < 65536
  pub formula : (p i : ℕ) → p < n → p ≢ q → i < n → word i (list_at new p) ≡ bit_xor (word i (list_at old p)) (mul (word q (list_at old p)) (word i row))
  pub here : list_at new q ≡ row

-- the old equations and the one at q hold exactly if the new ones do; t has the values of the old equations, and u that
-- of the one at q
pub holds_forth : (n q : ℕ) (old new : List (List ℕ)) (row : List ℕ) → Eliminated n q old new row → (f t t' : ℕ → ℕ) (u : ℕ) → GivesElements f
    → t' q ≡ u → ((p : ℕ) → p < n → p ≢ q → t' p ≡ bit_xor (t p) (mul (word q (list_at old p)) u))
    → ((p : ℕ) → p < n → row_sum n (list_at old p) f ≡ t p) → row_sum n row f ≡ u → (p : ℕ) → p < n → row_sum n (list_at new p) f ≡ t' p
holds_forth n q old new row e f t t' u v tq tp holds here p hp = by_either (cases_eq p q)
    (λ same. ap (λ x. row_sum n (list_at new x) f) same ∙ ap (λ xs. row_sum n xs f) e.here ∙ here ∙ sym (ap t' same ∙ tq))
    (λ other.
    row_sum_added n (word q (list_at old p)) (list_at old p) row (list_at new p) f (e.small p q) e.small_row v (λ i h. e.formula p i hp other h)
    ∙ ap₂ (λ x y. bit_xor x (mul (word q (list_at old p)) y)) (holds p hp) here ∙ sym (tp p hp other))

pub holds_back : (n q : ℕ) (old new : List (List ℕ)) (row : List ℕ) → Eliminated n q old new row → (f t t' : ℕ → ℕ) (u : ℕ) → q < n → GivesElements f
    → t' q ≡ u → ((p : ℕ) → p < n → p ≢ q → t' p ≡ bit_xor (t p) (mul (word q (list_at old p)) u))
    → length (list_at old q) ≡ 0 → t q ≡ 0
    → ((p : ℕ) → p < n → row_sum n (list_at new p) f ≡ t' p) → (row_sum n row f ≡ u) × ((p : ℕ) → p < n → row_sum n (list_at old p) f ≡ t p)
holds_back n q old new row e f t t' u hq v tq tp free tz holds =
    let here : row_sum n row f ≡ u = sym (ap (λ xs. row_sum n xs f) e.here) ∙ holds q hq ∙ tq in (
      here,
      λ p hp. by_either (cases_eq p q)
          (λ same. ap (λ x. row_sum n (list_at old x) f) same ∙ row_sum_empty n (list_at old q) f (λ i h. word_empty (list_at old q) i free) ∙ sym (ap t same ∙ tz))
          (λ other.
          let k = word q (list_at old p) in
          sym (xor_off (row_sum n (list_at old p) f) (mul k u))
          ∙ ap (λ x. bit_xor x (mul k u))
          (sym (row_sum_added n k (list_at old p) row (list_at new p) f (e.small p q) e.small_row v (λ i h. e.formula p i hp other h)
          ∙ ap (λ y. bit_xor (row_sum n (list_at old p) f) (mul k y)) here)
          ∙ holds p hp ∙ tp p hp other)
          ∙ xor_off (t p) (mul k u)),
    )

-- ---- the equation gets its pivot

-- all that is known when the equation is at its pivot
pub record Placed (n b rank : ℕ) (R D R'' D'' : List (List ℕ)) (q : ℕ) (row right : List ℕ) : Type 0 where
  pub reduced : IsReduced (echelon n b rank R D)
  pub put : PutAt q row right R D R'' D''
  pub place : q < n
  pub free : length (list_at R q) ≡ 0
  pub row_size : length row ≡ 2 * n
  pub right_size : length right ≡ b
  pub pivot : word q row ≡ 1
  pub none : (p : ℕ) → p < n → 0 < length (list_at R p) → word p row ≡ 0

pub entry : (n b rank : ℕ) (R D R'' D'' : List (List ℕ)) (q : ℕ) (row right : List ℕ) → Placed n b rank R D R'' D'' q row right
    → (p i : ℕ) → p < n → p ≢ q → i < n → word i (list_at R'' p) ≡ bit_xor (word i (list_at R p)) (mul (word q (list_at R p)) (word i row))
entry n b rank R D R'' D'' q row right h p i hp other hi = grind (arith, cases_lt, word_empty, bit_xor, zero-product)

pub word_entry : (n b rank : ℕ) (R D R'' D'' : List (List ℕ)) (q : ℕ) (row right : List ℕ) → Placed n b rank R D R'' D'' q row right
    → (p w : ℕ) → p < n → p ≢ q → 2 * w + 1 < b → word w (list_at D'' p) ≡ bit_xor (word w (list_at D p)) (mul (word q (list_at R p)) (word w right))
word_entry n b rank R D R'' D'' q row right h p w hp other hw = grind (arith, cases_lt, word_empty, bit_xor, zero-product)

eliminated : (n b rank : ℕ) (R D R'' D'' : List (List ℕ)) (q : ℕ) (row right : List ℕ) → Placed n b rank R D R'' D'' q row right → Eliminated n q R R'' row
eliminated n b rank R D R'' D'' q row right h = record {
  small = h.reduced.small;
  small_row = λ i. word-lt row i h.put.row_bytes;
  formula = entry n b rank R D R'' D'' q row right h;
  here = h.put.at_row;
}

-- the null space and the solutions are cut down by one equation
pub record Cut (old new : Echelon) (row right : List ℕ) : Type 0 where
  pub kills : (f : ℕ → ℕ) → GivesElements f → Vanishes new f ↔ (Vanishes old f × (row_sum old.columns row f ≡ 0))
  pub solves : (f : ℕ → ℕ) (w : ℕ) → GivesElements f → 2 * w + 1 < old.bytes → Meets new w f ↔ (Meets old w f × (row_sum old.columns row f ≡ word w right))

pub cut_down : (n b rank : ℕ) (R D R'' D'' : List (List ℕ)) (q : ℕ) (row0 right0 row right : List ℕ) → Placed n b rank R D R'' D'' q row right → IsPrepared (echelon n b 0 R D) row0 right0 row right q
    → Cut (echelon n b rank R D) (echelon n b (rank + 1) R'' D'') row0 right0
cut_down n b rank R D R'' D'' q row0 right0 row right h m =
    let c = m.factor in
    let row1 = m.row1 in
    let right1 = m.right1 in
    let positive : 0 < c = by_either (cases_eq c 0) (λ z. absurd (suc-ne-zero 0 (sym m.pivot ∙ m.entries q h.place ∙ ap (λ x. mul x (word q row1)) z ∙ zero-product (word q row1)))) (λ n. omega arith) in
    let taken = m.taken in
    let small1 : (i : ℕ) → word i row1 < 65536 = λ i. word-lt row1 i m.bytes1 in
    let scaled : (f : ℕ → ℕ) → GivesElements f → row_sum n row f ≡ mul c (row_sum n row1 f) = λ f v. row_sum_scaled n c row1 row f m.is_element small1 v m.entries in
    let e = eliminated n b rank R D R'' D'' q row right h in
    let zeros : (p : ℕ) → p < n → p ≢ q → 0 ≡ bit_xor 0 (mul (word q (list_at R p)) 0) = λ p l o. sym (product-zero (word q (list_at R p))) in
    record {
      kills = λ f v. (
        (λ killed.
            let back = holds_back n q R R'' row e f (λ _. 0) (λ _. 0) 0 h.place v refl zeros h.free refl killed in (
              back.1,
              sym (taken.kills f v back.1)
                  ∙ cancel c (row_sum n row1 f) 0 positive m.is_element (row_sum-lt n row1 f small1 v) (omega arith) (sym (scaled f v) ∙ back.0 ∙ sym (product-zero c)),
            )),
        (λ both.
            let here : row_sum n row f ≡ 0 = scaled f v ∙ ap (mul c) (taken.kills f v both.0 ∙ both.1) ∙ product-zero c in
            holds_forth n q R R'' row e f (λ _. 0) (λ _. 0) 0 v refl zeros both.0 here),
      );
      solves = λ f w v hw.
          let words : (p : ℕ) → p < n → p ≢ q → word w (list_at D'' p) ≡ bit_xor (word w (list_at D p)) (mul (word q (list_at R p)) (word w right)) =
          λ p l o. word_entry n b rank R D R'' D'' q row right h p w l o hw in (
            (λ met.
                let back = holds_back n q R R'' row e f (λ p. word w (list_at D p)) (λ p. word w (list_at D'' p)) (word w right) h.place v
                (ap (λ xs. word w xs) h.put.at_right) words h.free (word_empty (list_at D q) w (h.reduced.absent q h.free)) met in
                let one : row_sum n row1 f ≡ word w right1 =
                cancel c (row_sum n row1 f) (word w right1) positive m.is_element (row_sum-lt n row1 f small1 v) (word-lt right1 w m.right_bytes1)
                (sym (scaled f v) ∙ back.0 ∙ m.buffers w hw) in (
                  back.1,
                  xor_same (row_sum n row0 f) (word w right0)
                      (sym (taken.solves f w v hw back.1) ∙ ap (λ x. bit_xor x (word w right1)) one ∙ xor_self (word w right1)),
                )),
            (λ both.
                let one : row_sum n row1 f ≡ word w right1 =
                xor_same (row_sum n row1 f) (word w right1)
                (taken.solves f w v hw both.0 ∙ ap (λ x. bit_xor x (word w right0)) both.1 ∙ xor_self (word w right0)) in
                holds_forth n q R R'' row e f (λ p. word w (list_at D p)) (λ p. word w (list_at D'' p)) (word w right) v
                (ap (λ xs. word w xs) h.put.at_right) words both.0 (scaled f v ∙ ap (mul c) one ∙ sym (m.buffers w hw))),
          );
    }

-- The system with the new equation is reduced again, and the buffers of a system of full rank.

count_same : (A B : List (List ℕ)) (n : ℕ) → ((p : ℕ) → p < n → length (list_at B p) ≡ length (list_at A p)) → count_present B n ≡ count_present A n
unfolding count_present
count_same A B zero same = refl
count_same A B (suc n) same = grind (arith, count_same A B n (λ p h. same p (omega arith)), same n (omega arith))

count_one_more : (A B : List (List ℕ)) (q n : ℕ) → q < n → ((p : ℕ) → p < n → p ≢ q → length (list_at B p) ≡ length (list_at A p))
    → length (list_at A q) ≡ 0 → (length (list_at B q) ≡ 0 → ⊥) → count_present B n ≡ count_present A n + 1
unfolding count_present
count_one_more A B q zero h same free there = absurd (omega arith)
count_one_more A B q (suc n) h same free there = by_either (cases_eq q n)
    (λ last. grind (arith, count_same A B n (λ p l. same p (omega arith) (λ e. omega arith)), eq-eqb, ne_eqb))
    (λ before. grind (arith, count_one_more A B q n (omega arith) (λ p l. same p (omega arith)) free there, same n (omega arith) (λ e. before (sym e))))

pub placed_reduced : (n b rank : ℕ) (R D R'' D'' : List (List ℕ)) (q : ℕ) (row right : List ℕ) → Placed n b rank R D R'' D'' q row right
    → IsReduced (echelon n b (rank + 1) R'' D'')
placed_reduced n b rank R D R'' D'' q row right h =
    let sizes = h.put.row_sizes in
    let right_sizes = h.put.right_sizes in
    let here : length (list_at R'' q) ≡ 2 * n = ap length h.put.at_row ∙ h.row_size in
    let past : (p : ℕ) → n ≤ p → length (list_at R p) ≡ 0 = λ p l. ap length (get_or_past R p [] (omega (arith, h.reduced.row_count))) in
    let within : (p : ℕ) → 0 < length (list_at R p) → p < n = λ p there. elim (cases_lt p n) [ inl l ↦ l | inr g ↦ absurd (omega (arith, past p g)) ] in
    let there_before : (p : ℕ) → p ≢ q → 0 < length (list_at R'' p) → 0 < length (list_at R p) = λ p o there. omega (arith, sizes p o) in
    record {
      row_count = h.put.row_count ∙ h.reduced.row_count;
      right_count = h.put.right_count ∙ h.reduced.right_count;
      small = λ p i. by_either (cases_eq p q)
          (λ same. subst (λ x. x < 65536) (sym (ap (λ x. word i (list_at R'' x)) same ∙ ap (λ xs. word i xs) h.put.at_row)) (word-lt row i h.put.row_bytes))
          (λ other. by_either (cases_lt i n)
          (λ low. by_either (cases_lt p n)
          (λ lowp. subst (λ x. x < 65536) (sym (entry n b rank R D R'' D'' q row right h p i lowp other low))
          (xor_lt 16 (word i (list_at R p)) (mul (word q (list_at R p)) (word i row)) (h.reduced.small p i) (product-lt (word q (list_at R p)) (word i row) (h.reduced.small p q) (word-lt row i h.put.row_bytes))))
          (λ highp. let z : word i (list_at R'' p) ≡ 0 = word_empty (list_at R'' p) i (sizes p other ∙ past p highp) in omega arith))
          (λ high.
          let z : word i (list_at R'' p) ≡ 0 = by_either (cases_lt 0 (length (list_at R p)))
          (λ there. word_past (list_at R'' p) i (omega (arith, sizes p other, h.reduced.row_size p there)))
          (λ none. word_empty (list_at R'' p) i (omega (arith, sizes p other))) in omega arith));
      are_bytes = λ p k. grind (arith, cases_eq p q, h.put.at_right, h.put.right_bytes k, h.put.are_bytes p k);
      even = h.reduced.even;
      absent = λ p e. grind (arith, cases_eq p q, here, h.place, right_sizes p, sizes p, h.reduced.absent p);
      row_size = λ p there. grind (arith, cases_eq p q, here, sizes p, h.reduced.row_size p);
      right_size = λ p there. grind (arith, cases_eq p q, h.put.at_right, h.right_size, right_sizes p, sizes p, h.reduced.right_size p);
      pivot = λ p there. grind (arith, cases_eq p q, h.put.at_row, h.pivot, there_before p, within p, entry n b rank R D R'' D'' q row right h p p, h.reduced.pivot p, h.none p, product-zero);
      cleared = λ p s apart there. by_either (cases_eq p q)
          (λ same.
          let other : s ≢ q = λ e. apart (same ∙ sym e) in
          let was = there_before s other there in
          ap (λ x. word s (list_at R'' x)) same ∙ ap (λ xs. word s xs) h.put.at_row ∙ h.none s (within s was) was)
          (λ other. elim (cases_lt p n) [
            | inr highp ↦ word_empty (list_at R'' p) s (sizes p other ∙ past p highp)
            | inl lowp ↦ by_either (cases_eq s q)
                (λ to_q.
                let k = word q (list_at R p) in
                ap (λ x. word x (list_at R'' p)) to_q ∙ entry n b rank R D R'' D'' q row right h p q lowp other h.place
                ∙ ap (bit_xor k) (ap (mul k) h.pivot ∙ product-one k (h.reduced.small p q)) ∙ xor_self k)
                (λ off.
                let was = there_before s off there in
                entry n b rank R D R'' D'' q row right h p s lowp other (within s was)
                ∙ ap₂ bit_xor (h.reduced.cleared p s apart was) (ap (mul (word q (list_at R p))) (h.none s (within s was) was) ∙ product-zero (word q (list_at R p))))
          ]);
      rank = ap (λ x. x + 1) h.reduced.rank ∙ sym (count_one_more R R'' q n h.place (λ p l o. sizes p o) h.free (λ e. let g = h.place in omega arith));
    }

pub rank_most : (s : Echelon) → IsReduced s → s.rank ≤ s.columns
rank_most s r = subst (λ x. x ≤ s.columns) (sym r.rank) (present_at_most s.rows s.columns)

-- a system without equations
pub none_reduced : (n b : ℕ) (R D : List (List ℕ)) → b % 2 ≡ 0 → AllEmpty R n → AllEmpty D n → IsReduced (echelon n b 0 R D)
unfolding count_present
none_reduced n b R D even rows right_sides =
    let z : (p : ℕ) → length (list_at R p) ≡ 0 = λ p. ap length (rows.each p) in
    record {
      row_count = rows.count;
      right_count = right_sides.count;
      small = λ p i. let e : word i (list_at R p) ≡ 0 = word_empty (list_at R p) i (z p) in omega arith;
      are_bytes = λ p k. let e : get_or (list_at D p) k 0 ≡ 0 = ap (λ xs. get_or xs k 0) (right_sides.each p) in omega arith;
      even = even;
      absent = λ p e. ap length (right_sides.each p);
      row_size = λ p there. absurd (omega (arith, z p));
      right_size = λ p there. absurd (omega (arith, z p));
      pivot = λ p there. absurd (omega (arith, z p));
      cleared = λ p q apart there. absurd (omega (arith, z q));
      rank = sym (count_none n);
    }
  where
    count_none : (m : ℕ) → count_present R m ≡ 0
    count_none zero = refl
    count_none (suc m) = ap₂ (λ x y. x + cond (eqb y 0) 0 1) (count_none m) (ap length (rows.each m))

-- An offer, put together.

-- an equation was kept: it is independent, and cuts the system down
pub record IsTaken (n b rank : ℕ) (row right : List ℕ) (R D R'' D'' : List (List ℕ)) : Type 0 where
  pub reported : IsDistinguished (echelon n b rank R D) row
  pub cut : Cut (echelon n b rank R D) (echelon n b (rank + 1) R'' D'') row right
  pub reduced : IsReduced (echelon n b (rank + 1) R'' D'')
  pub row_bytes : (k : ℕ) → get_or row k 0 < 256
  pub right_bytes : (k : ℕ) → get_or right k 0 < 256

-- the column of the pivot was free
free_at : (n b : ℕ) (R D : List (List ℕ)) (row0 right0 row right : List ℕ) (q : ℕ) → IsPrepared (echelon n b 0 R D) row0 right0 row right q → length (list_at R q) ≡ 0
free_at n b R D row0 right0 row right q p = grind (arith, by_either, cases_lt)

placed : (n b rank : ℕ) (R D R'' D'' : List (List ℕ)) (row0 right0 row right : List ℕ) (q : ℕ) → IsReduced (echelon n b rank R D)
    → IsPrepared (echelon n b 0 R D) row0 right0 row right q → PutAt q row right R D R'' D'' → Placed n b rank R D R'' D'' q row right
placed n b rank R D R'' D'' row0 right0 row right q r p put = grind (arith, free_at, product-zero)

-- if an offer finds a pivot, the rank is not full
pub room_left : (n b rank : ℕ) (R D : List (List ℕ)) (row0 right0 row right : List ℕ) (q : ℕ) → IsReduced (echelon n b rank R D)
    → ReducedBelow (echelon n b 0 R D) row0 right0 row right n → 2 * q + 1 < length row → word q row ≢ 0 → rank < n
room_left n b rank R D row0 right0 row right q r taken hq nonzero = grind (arith, cases_lt, all_present, present_at_most)

-- an offer of an independent equation, in the variables of the code
pub offered : (n b rank : ℕ) (R D R1 D1 R2 D2 R3 D3 R'' D'' : List (List ℕ)) (n1 : ℕ) (r0 d0 a1 a2 row right x y : List ℕ) (q : ℕ) → IsReduced (echelon n b rank R D)
    → a1 ≡ r0 → a2 ≡ d0 → length d0 ≡ b → n1 ≡ n → R1 ≡ R → D1 ≡ D → IsPrepared (echelon n1 (length a2) 0 R1 D1) a1 a2 row right q
    → x ≡ row → y ≡ right → R2 ≡ R → D2 ≡ D → R'' ≡ R3 → D'' ≡ D3 → PutAt q x y R2 D2 R3 D3 → IsTaken n b rank r0 d0 R D R'' D''
offered n b rank R D R1 D1 R2 D2 R3 D3 R'' D'' n1 r0 d0 a1 a2 row right x y q r ea1 ea2 eb en eR1 eD1 prepared ex ey eR2 eD2 eR3 eD3 put =
    let p : IsPrepared (echelon n b 0 R D) r0 d0 row right q = rw (ea1, ea2, eb, en, eR1, eD1) at prepared in
    let stands : Placed n b rank R D R'' D'' q row right = placed n b rank R D R'' D'' r0 d0 row right q r p (rw (ex, ey, eR2, eD2, ← eR3, ← eD3) at put) in
    let t : IsDistinguished (echelon n b rank R D) p.row1 = distinguished (echelon n b rank R D) r p.row1 q p.place p.nonzero (λ i. word-lt p.row1 i p.bytes1) p.taken.none in
    record {
      reported = record {
        vector = t.vector;
        are_elements = t.are_elements;
        killed = t.killed;
        reported = λ e. t.reported (p.taken.kills t.vector t.are_elements t.killed ∙ e);
      };
      cut = cut_down n b rank R D R'' D'' q r0 d0 row right stands p;
      reduced = placed_reduced n b rank R D R'' D'' q row right stands;
      row_bytes = p.bytes0;
      right_bytes = p.right_bytes0;
    }

-- Reducing an equation by the pivots.

pub reduce_skip : (s : Echelon) (r0 d0 row right : List ℕ) (p : ℕ) → ReducedBelow s r0 d0 row right p
    → (0 < length (list_at s.rows p) → word p row ≡ 0) → ReducedBelow s r0 d0 row right (p + 1)
reduce_skip s r0 d0 row right p so_far here = grind (arith, by_either, cases_eq)

pub reduce_add : (n b rank : ℕ) (rows right_sides : List (List ℕ)) (r0 d0 row right row' right' : List ℕ) (p : ℕ) → IsReduced (echelon n b rank rows right_sides) → p < n
    → 0 < length (list_at rows p) → word p row < 65536
    → AddsProducts (word p row) (list_at rows p) row row' → AddsProducts (word p row) (list_at right_sides p) right right'
    → ReducedBelow (echelon n b 0 rows right_sides) r0 d0 row right p → ReducedBelow (echelon n b 0 rows right_sides) r0 d0 row' right' (p + 1)
reduce_add n b rank rows right_sides r0 d0 row right row' right' p r hp there hk added moved so_far =
    let k = word p row in
    let lr : length row ≡ 2 * n = so_far.row_size in
    let ld : length right ≡ b = so_far.right_size in
    let dots : (f : ℕ → ℕ) → GivesElements f → row_sum n row' f ≡ bit_xor (row_sum n row f) (mul k (row_sum n (list_at rows p) f)) = λ f v.
    row_sum_added n k row (list_at rows p) row' f hk (r.small p) v (λ i h. added.each i (omega arith)) in
    record {
      row_size = added.same_length ∙ lr;
      right_size = moved.same_length ∙ ld;
      none = λ q h present. grind (arith, cases_eq q p, added.each q, r.pivot p there, product-one k hk, xor_self k, so_far.none q, r.cleared p q, product-zero k);
      kills = λ f v killed.
          dots f v ∙ ap (λ x. bit_xor (row_sum n row f) (mul k x)) (killed p hp) ∙ ap (bit_xor (row_sum n row f)) (product-zero k) ∙ xor_zero_r (row_sum n row f)
          ∙ so_far.kills f v killed;
      solves = λ f w v hw holds.
          let t = mul k (word w (list_at right_sides p)) in
          ap₂ bit_xor (dots f v ∙ ap (λ x. bit_xor (row_sum n row f) (mul k x)) (holds p hp)) (moved.each w (omega arith))
          ∙ xor_middle (row_sum n row f) t (word w right) t
          ∙ ap (bit_xor (bit_xor (row_sum n row f) (word w right))) (xor_self t)
          ∙ xor_zero_r (bit_xor (row_sum n row f) (word w right))
          ∙ so_far.solves f w v hw holds;
    }

pub reduce_pass : (n b : ℕ) (rows right_sides : List (List ℕ)) (r0 d0 row right src : List ℕ) (p k : ℕ)
    → k ≡ word p row → src ≡ list_at rows p → ((k ≡ 0) ⊎ (length src ≡ 0))
    → ReducedBelow (echelon n b 0 rows right_sides) r0 d0 row right p → ReducedBelow (echelon n b 0 rows right_sides) r0 d0 row right (p + 1)
reduce_pass n b rows right_sides r0 d0 row right src p k ek es why so_far = grind (arith, reduce_skip, by_either)

-- an equation times the inverse of one of its elements
pub pivot_is : (row1 row : List ℕ) (q x c : ℕ) → 2 * q + 1 < length row1 → x ≡ word q row1 → IsInverse x c → x < 65536 → c < 65536 → Scaled c row1 row (length row1) → word q row ≡ 1
pivot_is row1 row q x c hq e inverse hx hc scaled = grind (arith, product_comm)

-- Clearing a column, one equation after the other.

-- multiples of the new equation were added to the equations below n, so that their column q is zero
pub record ClearedBelow (q : ℕ) (row right : List ℕ) (old_rows old_right_sides rows right_sides : List (List ℕ)) (n : ℕ) : Type 0 where
  pub row_count : length rows ≡ length old_rows
  pub right_count : length right_sides ≡ length old_right_sides
  pub row_sizes : (p : ℕ) → length (list_at rows p) ≡ length (list_at old_rows p)
  pub right_sizes : (p : ℕ) → length (list_at right_sides p) ≡ length (list_at old_right_sides p)
  pub entries : (p i : ℕ) → p < n → 2 * i + 1 < length (list_at old_rows p)
      → word i (list_at rows p) ≡ bit_xor (word i (list_at old_rows p)) (mul (word q (list_at old_rows p)) (word i row))
  pub buffers : (p w : ℕ) → p < n → 2 * w + 1 < length (list_at old_right_sides p)
      → word w (list_at right_sides p) ≡ bit_xor (word w (list_at old_right_sides p)) (mul (word q (list_at old_rows p)) (word w right))
  pub are_bytes : (p k : ℕ) → get_or (list_at right_sides p) k 0 < 256
  pub rows_above : (p : ℕ) → n ≤ p → list_at rows p ≡ list_at old_rows p
  pub right_sides_above : (p : ℕ) → n ≤ p → list_at right_sides p ≡ list_at old_right_sides p

same_sizes : (old mid new : List (List ℕ)) (p : ℕ) → OneChanged mid new p → length (list_at new p) ≡ length (list_at mid p)
    → ((i : ℕ) → length (list_at mid i) ≡ length (list_at old i)) → (i : ℕ) → length (list_at new i) ≡ length (list_at old i)
same_sizes old mid new p changed here before i = grind (arith, by_either, cases_eq)

-- a multiple of src was added to list p, and the lists below p have theirs
added_below : (old mid new : List (List ℕ)) (src : List ℕ) (k : ℕ → ℕ) (p : ℕ) → OneChanged mid new p → AddsProducts (k p) src (list_at mid p) (list_at new p) → list_at mid p ≡ list_at old p
    → ((i w : ℕ) → i < p → 2 * w + 1 < length (list_at old i) → word w (list_at mid i) ≡ bit_xor (word w (list_at old i)) (mul (k i) (word w src)))
    → (i w : ℕ) → i < p + 1 → 2 * w + 1 < length (list_at old i) → word w (list_at new i) ≡ bit_xor (word w (list_at old i)) (mul (k i) (word w src))
added_below old mid new src k p changed added was below i w hi hw = grind (arith, cases_eq, bit_xor)

pub clear_step : (q p k : ℕ) (row right target : List ℕ) (old_rows old_right_sides mid_rows mid_right_sides new_rows new_right_sides : List (List ℕ)) → ClearedBelow q row right old_rows old_right_sides mid_rows mid_right_sides p
    → target ≡ list_at mid_rows p → k ≡ word q target
    → OneChanged mid_rows new_rows p → AddsProducts k row (list_at mid_rows p) (list_at new_rows p)
    → OneChanged mid_right_sides new_right_sides p → AddsProducts k right (list_at mid_right_sides p) (list_at new_right_sides p) → ((i : ℕ) → get_or (list_at new_right_sides p) i 0 < 256)
    → ClearedBelow q row right old_rows old_right_sides new_rows new_right_sides (p + 1)
clear_step q p k row right target old_rows old_right_sides mid_rows mid_right_sides new_rows new_right_sides so_far et ek rows row_added right_sides right_added bytes =
    let at_row : list_at mid_rows p ≡ list_at old_rows p = so_far.rows_above p (omega arith) in
    let at_right : list_at mid_right_sides p ≡ list_at old_right_sides p = so_far.right_sides_above p (omega arith) in
    let factor : ℕ → ℕ = λ i. word q (list_at old_rows i) in
    let is : k ≡ factor p = ek ∙ ap (λ xs. word q xs) (et ∙ at_row) in
    let row_adds : AddsProducts (factor p) row (list_at mid_rows p) (list_at new_rows p) = subst (λ x. AddsProducts x row (list_at mid_rows p) (list_at new_rows p)) is row_added in
    let right_adds : AddsProducts (factor p) right (list_at mid_right_sides p) (list_at new_right_sides p) = subst (λ x. AddsProducts x right (list_at mid_right_sides p) (list_at new_right_sides p)) is right_added in
    record {
      row_count = rows.count ∙ so_far.row_count;
      right_count = right_sides.count ∙ so_far.right_count;
      row_sizes = same_sizes old_rows mid_rows new_rows p rows row_added.same_length so_far.row_sizes;
      right_sizes = same_sizes old_right_sides mid_right_sides new_right_sides p right_sides right_added.same_length so_far.right_sizes;
      entries = added_below old_rows mid_rows new_rows row factor p rows row_adds at_row so_far.entries;
      buffers = added_below old_right_sides mid_right_sides new_right_sides right factor p right_sides right_adds at_right so_far.buffers;
      are_bytes = λ i b. grind (arith, cases_eq i p, bytes b, right_sides.others i, so_far.are_bytes i b);
      rows_above = λ i l. rows.others i (λ e. omega arith) ∙ so_far.rows_above i (omega arith);
      right_sides_above = λ i l. right_sides.others i (λ e. omega arith) ∙ so_far.right_sides_above i (omega arith);
    }

-- nothing is added to an absent equation
pub clear_pass : (q p : ℕ) (row right target : List ℕ) (old_rows old_right_sides mid_rows mid_right_sides : List (List ℕ)) → ClearedBelow q row right old_rows old_right_sides mid_rows mid_right_sides p
    → target ≡ list_at mid_rows p → length target ≡ 0 → (length (list_at old_rows p) ≡ 0 → length (list_at old_right_sides p) ≡ 0) → ClearedBelow q row right old_rows old_right_sides mid_rows mid_right_sides (p + 1)
clear_pass q p row right target old_rows old_right_sides mid_rows mid_right_sides so_far et none absent = grind (arith, by_either, cases_eq)

pub put_at : (q n : ℕ) (old_rows old_right_sides : List (List ℕ)) (rs ds : List (Vec ℕ Global)) (v w : Vec ℕ Global) → q < length rs → q < length ds
    → ((k : ℕ) → get_or v.items k 0 < 256) → ((k : ℕ) → get_or w.items k 0 < 256) → n ≡ length old_rows
    → ClearedBelow q v.items w.items old_rows old_right_sides (lists_of rs) (lists_of ds) n → PutAt q v.items w.items old_rows old_right_sides (lists_of (set rs q v)) (lists_of (set ds q w))
put_at q n old_rows old_right_sides rs ds v w hr hd row_bytes right_bytes en cleared =
    let rows = written_changed rs q v in
    let right_sides = written_changed ds q w in
    record {
      at_row = written_here rs q v hr;
      at_right = written_here ds q w hd;
      row_bytes = row_bytes;
      right_bytes = right_bytes;
      row_count = rows.count ∙ cleared.row_count;
      right_count = right_sides.count ∙ cleared.right_count;
      row_sizes = λ p o. ap length (rows.others p o) ∙ cleared.row_sizes p;
      right_sizes = λ p o. ap length (right_sides.others p o) ∙ cleared.right_sizes p;
      entries = λ p i o low fits. ap (word i) (rows.others p o) ∙ cleared.entries p i (omega arith) fits;
      buffers = λ p i o low fits. ap (word i) (right_sides.others p o) ∙ cleared.buffers p i (omega arith) fits;
      are_bytes = λ p k o. subst (λ xs. get_or xs k 0 < 256) (sym (right_sides.others p o)) (cleared.are_bytes p k);
    }

pub place_within : (vs : List (Vec ℕ Global)) (old : List (List ℕ)) (q n : ℕ) → q < n → length (lists_of vs) ≡ length old → length old ≡ n → q < length vs
place_within vs old q n h e f = omega (arith, length-lists_of vs)
