-- From the lists of the contracts to functions on the reduced form, and back.
use Rattle.par2_matrix.proofs.Common.{ℕ, zero, suc, ◌+◌, ◌*◌, ◌/◌, ◌<◌, ◌≡◌, ◌↔◌, inl, inr, refl, sym, ap, ◌∙◌, subst, arith, List, [], ◌∷◌, length, get_or, map, cond, eqb, cases_lt, ne_eqb, get_or-map, get_or-map-range_with_len, length-map-range_with_len, AllByRecursion, mul, word, words, dot, combination, IsVector, Equations, IsKilled, Solves, AreSolutionBuffers, Echelon, Vanishes, Meets, IsReduced, system_of, HoldsRow, equations, count_present, row_sum, GivesElements, list_at, all_at, bytes_at, word_empty, word-lt, combination_words, field_sum_same, row_sum_empty, row_sum-lt, dot_sum, product_at, by_either, true, false, suc-ne-zero, false≢true, ext_get_or, range_with_len, rank, no_equations, CutDown, IsIndependent, IsDependent, IsUndetermined, OnlyZeroIsKilled, IsTheSolution, echelon, AllEmpty, same_buffers, all_from, common_steps}
use Rattle.par2_matrix.proofs.Systems.{IsDistinguished, all_present, unit_row, full_rank, free_vector, Cut}

-- ---- sums

-- the sum by a row that is kept as bytes
pub dot_words : (n : ℕ) (row v : List ℕ) → length row ≡ 2 * n → dot (words row) v ≡ row_sum n row (λ i. get_or v i 0)
dot_words n row v size =
    dot_sum n (words row) v (let count = length-map-range_with_len (λ p. word p row) 0 (length row / 2) in omega (arith, count))
    ∙ field_sum_same n (product_at (words row) v) (λ i. mul (word i row) (get_or v i 0))
    (λ i h. ap (λ x. mul x (get_or v i 0)) (get_or-map-range_with_len (λ p. word p row) 0 (length row / 2) i i 0 (omega arith) (omega arith)))

-- the sum by a row of elements
pub dot_spelled : (n : ℕ) (row bytes v : List ℕ) → HoldsRow row bytes (length row) → length row ≡ n → dot row v ≡ row_sum n bytes (λ i. get_or v i 0)
dot_spelled n row bytes v spelled e =
    dot_sum n row v (omega arith) ∙ field_sum_same n (product_at row v) (λ i. mul (word i bytes) (get_or v i 0))
    (λ i h. ap (λ x. mul x (get_or v i 0)) (sym (spelled.each i (omega arith) (omega arith))))

pub elements_of : (n : ℕ) (v : List ℕ) → IsVector n v → GivesElements (λ i. get_or v i 0)
elements_of n v is = all_at (λ x. x < 65536) 0 (omega arith) v is.1

-- ---- equations by their pivots

pub all_equations : (P : List ℕ → List ℕ → Type 0) (R D : List (List ℕ)) → length R ≡ length D
    → ((p : ℕ) → p < length R → 0 < length (list_at R p) → P (words (list_at R p)) (list_at D p)) → AllByRecursion (λ (e : List ℕ × List ℕ). P e.0 e.1) (equations R D)
unfolding equations
all_equations P [] D e at = tt
all_equations P (r ∷ R) [] e at = absurd (omega arith)
all_equations P ([] ∷ R) (d ∷ D) e at = all_equations P R D (omega arith) (λ p h. at (suc p) (omega arith))
all_equations P ((b ∷ r) ∷ R) (d ∷ D) e at = (at 0 (omega arith) (omega arith), all_equations P R D (omega arith) (λ p h. at (suc p) (omega arith)))

pub equation_at : (P : List ℕ → List ℕ → Type 0) (R D : List (List ℕ)) → length R ≡ length D → AllByRecursion (λ (e : List ℕ × List ℕ). P e.0 e.1) (equations R D)
    → (p : ℕ) → 0 < length (list_at R p) → P (words (list_at R p)) (list_at D p)
unfolding equations
equation_at P [] D e all p h = absurd (omega arith)
equation_at P (r ∷ R) [] e all p h = absurd (omega arith)
equation_at P ([] ∷ R) (d ∷ D) e all zero h = absurd (omega arith)
equation_at P ([] ∷ R) (d ∷ D) e all (suc p) h = equation_at P R D (omega arith) all p h
equation_at P ((b ∷ r) ∷ R) (d ∷ D) e all zero h = all.0
equation_at P ((b ∷ r) ∷ R) (d ∷ D) e all (suc p) h = equation_at P R D (omega arith) all.1 p h

count_front : (r : List ℕ) (R : List (List ℕ)) (n : ℕ) → count_present (r ∷ R) (suc n) ≡ cond (eqb (length r) 0) 0 1 + count_present R n
unfolding count_present
count_front r R zero = omega arith
count_front r R (suc n) = grind (arith, count_front r R n)

length-equations : (R D : List (List ℕ)) → length R ≡ length D → length (equations R D) ≡ count_present R (length R)
unfolding equations count_present
length-equations [] D e = refl
length-equations (r ∷ R) [] e = absurd (omega arith)
length-equations ([] ∷ R) (d ∷ D) e = length-equations R D (omega arith) ∙ sym (count_front [] R (length R) ∙ omega arith)
length-equations ((b ∷ r) ∷ R) (d ∷ D) e = grind (arith, count_front, ne_eqb, length-equations R D (omega arith))

counts : (e : Echelon) → IsReduced e → length e.rows ≡ length e.right_sides
counts e r = r.row_count ∙ sym r.right_count

pub rank_view : (e : Echelon) → IsReduced e → length (equations e.rows e.right_sides) ≡ e.rank
rank_view e r = length-equations e.rows e.right_sides (counts e r) ∙ ap (count_present e.rows) r.row_count ∙ sym r.rank

pub kills_view : (e : Echelon) → IsReduced e → (v : List ℕ) → IsVector e.columns v → IsKilled (system_of e) v ↔ Vanishes e (λ i. get_or v i 0)
kills_view e r v is = (
  (λ killed p hp. by_either (cases_lt 0 (length (list_at e.rows p)))
      (λ there. sym (dot_words e.columns (list_at e.rows p) v (r.row_size p there)) ∙ equation_at (λ row right. dot row v ≡ 0) e.rows e.right_sides (counts e r) killed p there)
      (λ none. row_sum_empty e.columns (list_at e.rows p) (λ i. get_or v i 0) (λ i h. word_empty (list_at e.rows p) i (omega arith)))),
  (λ vanishes. all_equations (λ row right. dot row v ≡ 0) e.rows e.right_sides (counts e r)
      (λ p hp there. dot_words e.columns (list_at e.rows p) v (r.row_size p there) ∙ vanishes p (omega (arith, r.row_count)))),
)

-- ---- combinations by their words

-- word w of each buffer of a list
unfoldable pub words_at : List (List ℕ) → ℕ → ℕ → ℕ
words_at buffers w i = word w (list_at buffers i)

word_of_map : (buffers : List (List ℕ)) (w i : ℕ) → i < length buffers → get_or (map (word w) buffers) i 0 ≡ words_at buffers w i
unfolding words_at
word_of_map buffers w i h = get_or-map (word w) buffers i [] 0 h

pub words_are_elements : (s : Equations) (buffers : List (List ℕ)) → AreSolutionBuffers s buffers → (w : ℕ) → GivesElements (words_at buffers w)
unfolding words_at
words_are_elements s buffers are w i = word-lt (list_at buffers i) w (bytes_at buffers are.bytes i)

-- the sums of both kinds of row with the words at w
pub words_by_bytes : (s : Equations) (buffers : List (List ℕ)) → AreSolutionBuffers s buffers → (row : List ℕ) → length row ≡ 2 * s.columns → (w : ℕ) → dot (words row) (map (word w) buffers) ≡ row_sum s.columns row (words_at buffers w)
words_by_bytes s buffers are row size w =
    dot_words s.columns row (map (word w) buffers) size
    ∙ field_sum_same s.columns (λ i. mul (word i row) (get_or (map (word w) buffers) i 0)) (λ i. mul (word i row) (words_at buffers w i))
    (λ i h. ap (mul (word i row)) (word_of_map buffers w i (omega (arith, are.count))))

pub words_by_elements : (s : Equations) (buffers : List (List ℕ)) → AreSolutionBuffers s buffers → (row bytes : List ℕ) → HoldsRow row bytes (length row) → length row ≡ s.columns → (w : ℕ)
    → dot row (map (word w) buffers) ≡ row_sum s.columns bytes (words_at buffers w)
words_by_elements s buffers are row bytes spells size w =
    dot_spelled s.columns row bytes (map (word w) buffers) spells size
    ∙ field_sum_same s.columns (λ i. mul (word i bytes) (get_or (map (word w) buffers) i 0)) (λ i. mul (word i bytes) (words_at buffers w i))
    (λ i h. ap (mul (word i bytes)) (word_of_map buffers w i (omega (arith, are.count))))

pub solves_view : (e : Echelon) → IsReduced e → (buffers : List (List ℕ)) → AreSolutionBuffers (system_of e) buffers
    → Solves (system_of e) buffers ↔ ((w : ℕ) → 2 * w + 1 < e.bytes → Meets e w (words_at buffers w))
solves_view e r buffers are = (
  (λ solved w hw p hp. by_either (cases_lt 0 (length (list_at e.rows p)))
      (λ there.
      sym (words_by_bytes (system_of e) buffers are (list_at e.rows p) (r.row_size p there) w)
      ∙ (at p there).0 (equation_at (λ row right. combination e.bytes row buffers ≡ right) e.rows e.right_sides (counts e r) solved p there) w hw)
      (λ none.
      let gone : length (list_at e.rows p) ≡ 0 = omega arith in
      row_sum_empty e.columns (list_at e.rows p) (words_at buffers w) (λ i h. word_empty (list_at e.rows p) i gone)
      ∙ sym (word_empty (list_at e.right_sides p) w (r.absent p gone)))),
  (λ meets. all_equations (λ row right. combination e.bytes row buffers ≡ right) e.rows e.right_sides (counts e r)
      (λ p hp there. (at p there).1 (λ w hw. words_by_bytes (system_of e) buffers are (list_at e.rows p) (r.row_size p there) w ∙ meets w hw p (omega (arith, r.row_count))))),
)
  where
    at : (p : ℕ) → 0 < length (list_at e.rows p) → (combination e.bytes (words (list_at e.rows p)) buffers ≡ list_at e.right_sides p)
        ↔ ((w : ℕ) → 2 * w + 1 < e.bytes → dot (words (list_at e.rows p)) (map (word w) buffers) ≡ word w (list_at e.right_sides p))
    at p there = combination_words e.bytes (words (list_at e.rows p)) buffers (list_at e.right_sides p) r.even
        (λ w. subst (λ x. x < 65536) (sym (words_by_bytes (system_of e) buffers are (list_at e.rows p) (r.row_size p there) w))
        (row_sum-lt e.columns (list_at e.rows p) (words_at buffers w) (r.small p) (words_are_elements (system_of e) buffers are w)))
        (r.right_size p there) (r.are_bytes p)

-- The promises of the contracts, for reduced systems.

-- ---- vectors

listed : ℕ → (ℕ → ℕ) → List ℕ
listed n f = map f (range_with_len 0 n)

listed_at : (n : ℕ) (f : ℕ → ℕ) (i : ℕ) → i < n → get_or (listed n f) i 0 ≡ f i
unfolding listed
listed_at n f i h = get_or-map-range_with_len f 0 n i i 0 h (omega arith)

listed_vector : (n : ℕ) (f : ℕ → ℕ) → GivesElements f → IsVector n (listed n f)
unfolding listed
listed_vector n f small =
    let count : length (map f (range_with_len 0 n)) ≡ n = length-map-range_with_len f 0 n in
    (count, all_from (λ x. x < 65536) 0 (map f (range_with_len 0 n)) (λ i h. subst (λ x. x < 65536) (sym (get_or-map-range_with_len f 0 n i i 0 (omega arith) (omega arith))) (small i)))

listed_sum : (n : ℕ) (f : ℕ → ℕ) (row : List ℕ) → row_sum n row (λ i. get_or (listed n f) i 0) ≡ row_sum n row f
listed_sum n f row = grind (arith, field_sum_same, listed, listed_at)

killed_listed : (e : Echelon) → IsReduced e → (f : ℕ → ℕ) → GivesElements f → Vanishes e f → IsKilled (system_of e) (listed e.columns f)
killed_listed e r f small vanishes =
    (kills_view e r (listed e.columns f) (listed_vector e.columns f small)).1 (λ p hp. listed_sum e.columns f (list_at e.rows p) ∙ vanishes p hp)

-- ---- new

no_equations_there : (R D : List (List ℕ)) → ((i : ℕ) → list_at R i ≡ []) → equations R D ≡ []
unfolding equations
no_equations_there [] D none = refl
no_equations_there (r ∷ R) [] none = refl
no_equations_there ([] ∷ R) (d ∷ D) none = no_equations_there R D (λ i. none (suc i))
no_equations_there ((b ∷ r) ∷ R) (d ∷ D) none = absurd (let z : suc (length r) ≡ 0 = ap length (none 0) in omega arith)

pub new_system : (n m b : ℕ) (R D : List (List ℕ)) → m ≡ n → AllEmpty R n → AllEmpty D n → system_of (echelon m b 0 R D) ≡ no_equations n b
new_system n m b R D e rows right_sides = grind (arith, no_equations_there)

-- ---- offer

pub follows : (e : Echelon) → IsReduced e → (row bytes : List ℕ) → HoldsRow row bytes (length row) → length row ≡ e.columns
    → ((f : ℕ → ℕ) → GivesElements f → Vanishes e f → row_sum e.columns bytes f ≡ 0) → IsDependent (system_of e) row
follows e r row bytes spells size sums v is killed =
    dot_spelled e.columns row bytes v spells size
    ∙ sums (λ i. get_or v i 0) (elements_of e.columns v is) ((kills_view e r v is).0 killed)

pub determines : (e : Echelon) → IsReduced e → (row bytes : List ℕ) → HoldsRow row bytes (length row) → length row ≡ e.columns → IsDistinguished e bytes → IsIndependent (system_of e) row
determines e r row bytes spells size t =
    let v = listed e.columns t.vector in (
      v,
      listed_vector e.columns t.vector t.are_elements,
      killed_listed e r t.vector t.are_elements t.killed,
      λ z. t.reported (sym (listed_sum e.columns t.vector bytes) ∙ sym (dot_spelled e.columns row bytes v spells size) ∙ z),
    )

pub cuts : (e new : Echelon) → IsReduced e → IsReduced new → (row bytes right : List ℕ) → HoldsRow row bytes (length row) → length row ≡ e.columns
    → ((k : ℕ) → get_or bytes k 0 < 256) → length right ≡ e.bytes → ((k : ℕ) → get_or right k 0 < 256)
    → new.columns ≡ e.columns → new.bytes ≡ e.bytes → new.rank ≡ e.rank + 1 → Cut e new bytes right → CutDown (system_of e) (system_of new) row right
cuts e new r s row bytes right spells size small right_size right_bytes columns buffers_size one cut = record {
  rank = rank_view new s ∙ one ∙ ap (λ x. x + 1) (sym (rank_view e r));
  kills = λ v is.
      let f : ℕ → ℕ = λ i. get_or v i 0 in
      let sum : dot row v ≡ row_sum e.columns bytes f = dot_spelled e.columns row bytes v spells size in
      let cut = cut.kills f (elements_of e.columns v is) in
      let before = kills_view e r v is in
      let after = kills_view new s v (subst (λ n. IsVector n v) (sym columns) is) in (
        (λ killed. let both = cut.0 (after.0 killed) in (before.1 both.0, sum ∙ both.1)),
        (λ both. after.1 (cut.1 (before.0 both.0, sym sum ∙ both.1))),
      );
  solves = λ buffers are.
      let are_new : AreSolutionBuffers (system_of new) buffers = record {
        count = are.count ∙ sym columns;
        sizes = subst (λ n. AllByRecursion (λ (content : List ℕ). length content ≡ n) buffers) (sym buffers_size) are.sizes;
        bytes = are.bytes;
      } in
      let sum : (w : ℕ) → dot row (map (word w) buffers) ≡ row_sum e.columns bytes (words_at buffers w) = words_by_elements (system_of e) buffers are row bytes spells size in
      let elements : (w : ℕ) → GivesElements (words_at buffers w) = words_are_elements (system_of e) buffers are in
      let meets = combination_words e.bytes row buffers right r.even
      (λ w. subst (λ x. x < 65536) (sym (sum w)) (row_sum-lt e.columns bytes (words_at buffers w) (λ i. word-lt bytes i small) (elements w))) right_size right_bytes in
      let before = solves_view e r buffers are in
      let after = solves_view new s buffers are_new in (
        (λ solved.
            let both = λ (w : ℕ) (h : 2 * w + 1 < e.bytes). (cut.solves (words_at buffers w) w (elements w) h).0 (after.0 solved w (subst (λ n. 2 * w + 1 < n) (sym buffers_size) h)) in
            (before.1 (λ w h. (both w h).0), meets.1 (λ w h. sum w ∙ (both w h).1))),
        (λ both. after.1 (λ w h.
            let low : 2 * w + 1 < e.bytes = subst (λ n. 2 * w + 1 < n) buffers_size h in
            (cut.solves (words_at buffers w) w (elements w) low).1 (before.0 both.0 w low, sym (sum w) ∙ meets.0 both.1 w low))),
      );
}

-- ---- rank

pub rank_full : (e : Echelon) → IsReduced e → (e.rank ≡ e.columns) ↔ OnlyZeroIsKilled (system_of e)
rank_full e r = (
  (λ full v is killed. all_from (λ x. x ≡ 0) 0 v (λ i h.
      (full_rank e r).0 full (λ i. get_or v i 0) (elements_of e.columns v is) ((kills_view e r v is).0 killed) i (omega (arith, is.0)))),
  (λ only. (full_rank e r).1 (λ f small vanishes i h.
      sym (listed_at e.columns f i h)
      ∙ all_at (λ x. x ≡ 0) 0 refl (listed e.columns f) (only (listed e.columns f) (listed_vector e.columns f small) (killed_listed e r f small vanishes)) i)),
)

pub undetermined : (e : Echelon) → IsReduced e → e.rank < e.columns → IsUndetermined (system_of e)
undetermined e r below =
    let free = free_vector e r below in
    let v = listed e.columns free.vector in (
      v,
      listed_vector e.columns free.vector free.are_elements,
      killed_listed e r free.vector free.are_elements free.killed,
      λ zeros. suc-ne-zero 0 (sym free.one ∙ sym (listed_at e.columns free.vector free.place free.within) ∙ all_at (λ x. x ≡ 0) 0 refl v zeros free.place),
    )

pub not_full : (e : Echelon) → IsReduced e → e.rank < e.columns → (false ≡ true) ↔ (rank (system_of e) ≡ e.columns)
not_full e r below = (λ f. absurd (false≢true f), λ full. absurd (let h : e.rank ≡ e.columns = sym (rank_view e r) ∙ full in omega arith))

-- ---- the solution

buffer_at : (s : Equations) (buffers : List (List ℕ)) → AreSolutionBuffers s buffers → (i : ℕ) → i < s.columns → length (list_at buffers i) ≡ s.bytes
buffer_at s buffers are i h = grind (arith, common_steps)

pub the_solution : (e : Echelon) → IsReduced e → e.rank ≡ e.columns → IsTheSolution (system_of e) e.right_sides
unfolding words_at
the_solution e r full =
    let all = all_present e.rows e.columns (sym r.rank ∙ full) in
    let are : AreSolutionBuffers (system_of e) e.right_sides = record {
      count = r.right_count;
      sizes = all_from (λ (content : List ℕ). length content ≡ e.bytes) [] e.right_sides (λ i h. r.right_size i (all i (omega (arith, r.right_count))));
      bytes = all_from (λ (content : List ℕ). AllByRecursion (λ b. b < 256) content) [] e.right_sides (λ i h. all_from (λ b. b < 256) 0 (list_at e.right_sides i) (λ k l. r.are_bytes i k));
    } in
    record {
      are_buffers = are;
      solves = (solves_view e r e.right_sides are).1 (λ w hw p hp. unit_row e r full (words_at e.right_sides w) (words_are_elements (system_of e) e.right_sides are w) p hp);
      only = λ others given solved.
          ext_get_or [] others e.right_sides (given.count ∙ sym r.right_count)
          (λ p h.
          let hp : p < e.columns = omega (arith, given.count) in
          same_buffers e.bytes (list_at others p) (list_at e.right_sides p) r.even (buffer_at (system_of e) others given p hp) (r.right_size p (all p hp))
          (λ k. bytes_at others given.bytes p k)
          (r.are_bytes p)
          (λ w hw. sym (unit_row e r full (words_at others w) (words_are_elements (system_of e) others given w) p hp) ∙ (solves_view e r others given).0 solved w hw p hp));
    }
