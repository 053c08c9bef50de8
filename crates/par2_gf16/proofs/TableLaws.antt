-- The tables, and the calls that use them.
use Rattle.par2_gf16.proofs.Common.{ℕ, zero, suc, ◌+◌, ◌-◌, ◌*◌, ◌<◌, ◌≡◌, inl, inr, refl, sym, ap, ap₂, ◌∙◌, subst, arith, List, [], ◌∷◌, ◌++◌, length, get_or, set, length-append, length-set, add-one, map, cond, true, false, ◌/◌, ◌%◌, append-nil, cases_eq, get_or-set_same, get_or-set_other, get_or_append_left, map-append, get_or-map, length-map, mul, is_coprime, pow, constant, constant_powers, PowersBelow, LogsBelow, AreTables, FirstRound, SecondRound, constants_below, power-lt, power-add, power-65535, power-injective, logarithm, one_inverse, zero-product, product-one, power-mul, one-power, IsInverse, range_with_len, filter, by_either, get_or-append_seam, range-append, length-constant_powers, filter-append}

next_power : (i : ℕ) → mul 2 (pow 2 i) ≡ pow 2 (i + 1)
unfolding pow
next_power i = sym (ap (pow 2) (add-one i))

pub powers_more : (powers : List ℕ) (n x : ℕ) → PowersBelow powers n → x ≡ pow 2 n → PowersBelow (powers ++ x ∷ []) (n + 1)
powers_more powers n x so_far e = grind (arith, length-append, get_or-append_seam, get_or_append_left)

pub logs_more : (logs : List ℕ) (n x : ℕ) → n < 65535 → LogsBelow logs n → x ≡ pow 2 n → LogsBelow (set logs x n) (n + 1)
logs_more logs n x hn so_far e = grind (arith, length-set, get_or-set_same, power-lt, get_or-set_other, power-injective)

coprimes_more : (n : ℕ) → filter is_coprime (range_with_len 0 (n + 1)) ≡ filter is_coprime (range_with_len 0 n) ++ filter is_coprime (n ∷ [])
coprimes_more n =
    ap (filter is_coprime) (range-append 0 n 1 ∙ ap (λ x. range_with_len 0 n ++ x ∷ []) (let e : 0 + n ≡ n = omega arith in e))
    ∙ filter-append is_coprime (range_with_len 0 n) (n ∷ [])

constants_more : (n : ℕ) → constants_below (n + 1) ≡ constants_below n ++ map (pow 2) (filter is_coprime (n ∷ []))
unfolding constants_below
constants_more n = ap (map (pow 2)) (coprimes_more n) ∙ map-append (pow 2) (filter is_coprime (range_with_len 0 n)) (filter is_coprime (n ∷ []))

constants_pushed : (constants : List ℕ) (n x : ℕ) → constants ≡ constants_below n → x ≡ pow 2 n → is_coprime n ≡ true → constants ++ x ∷ [] ≡ constants_below (n + 1)
constants_pushed constants n x so_far e coprime =
    ap₂ (λ xs y. xs ++ y ∷ []) so_far e
    ∙ sym (constants_more n ∙ ap (λ b. constants_below n ++ map (pow 2) (cond b (n ∷ []) [])) coprime)

constants_kept : (constants : List ℕ) (n : ℕ) → constants ≡ constants_below n → is_coprime n ≡ false → constants ≡ constants_below (n + 1)
constants_kept constants n so_far other =
    so_far ∙ sym (constants_more n ∙ ap (λ b. constants_below n ++ map (pow 2) (cond b (n ∷ []) [])) other ∙ append-nil (constants_below n))

-- neither 0 nor n is coprime to 65,535, so a range up to n may begin at 1
coprimes_from_one : (n : ℕ) → is_coprime n ≡ false → filter is_coprime (range_with_len 0 n) ≡ filter is_coprime (range_with_len 1 n)
coprimes_from_one n other =
    sym (append-nil (filter is_coprime (range_with_len 0 n)))
    ∙ ap (λ b. filter is_coprime (range_with_len 0 n) ++ cond b (n ∷ []) []) (sym other) ∙ sym (coprimes_more n)
    ∙ ap (λ m. filter is_coprime (range_with_len 0 m)) (add-one n)

constants_whole : constants_below 65535 ≡ map (pow 2) constant_powers
unfolding constants_below constant_powers
constants_whole = ap (map (pow 2)) (coprimes_from_one 65535 refl)

pub first_start : (logs : List ℕ) → length logs ≡ 65536 → FirstRound logs [] [] 1 0
unfolding pow constants_below
first_start logs e = grind arith

pub first_pushed : (logs powers constants : List ℕ) (x y i : ℕ) → i < 65535 → FirstRound logs powers constants x i → y ≡ mul 2 x → is_coprime i ≡ true → FirstRound (set logs x i) (powers ++ x ∷ []) (constants ++ x ∷ []) y (i + 1)
first_pushed logs powers constants x y i h so_far e coprime = record {
  logs_are = logs_more logs i x h so_far.logs_are so_far.next;
  powers_are = powers_more powers i x so_far.powers_are so_far.next;
  constants_are = constants_pushed constants i x so_far.constants_are so_far.next coprime;
  next = e ∙ ap (mul 2) so_far.next ∙ next_power i;
}

pub first_kept : (logs powers constants : List ℕ) (x y i : ℕ) → i < 65535 → FirstRound logs powers constants x i → y ≡ mul 2 x → is_coprime i ≡ false → FirstRound (set logs x i) (powers ++ x ∷ []) constants y (i + 1)
first_kept logs powers constants x y i h so_far e other = record {
  logs_are = logs_more logs i x h so_far.logs_are so_far.next;
  powers_are = powers_more powers i x so_far.powers_are so_far.next;
  constants_are = constants_kept constants i so_far.constants_are other;
  next = e ∙ ap (mul 2) so_far.next ∙ next_power i;
}

pub second_step : (powers : List ℕ) (x y j : ℕ) → SecondRound powers x j → y ≡ mul 2 x → SecondRound (powers ++ x ∷ []) y (j + 1)
second_step powers x y j so_far e =
    let s : 65535 + j + 1 ≡ 65535 + (j + 1) = omega arith in
    record {
      powers_are = subst (λ n. PowersBelow (powers ++ x ∷ []) n) s (powers_more powers (65535 + j) x so_far.powers_are so_far.next);
      next = e ∙ ap (mul 2) so_far.next ∙ next_power (65535 + j) ∙ ap (pow 2) s;
    }

pub tables_made : (logs first powers constants : List ℕ) (x y i j : ℕ) → i ≡ 65535 → j ≡ 65535 → FirstRound logs first constants x i → SecondRound powers y j → AreTables logs powers constants
tables_made logs first powers constants x y i j ei ej one two = grind (arith, constants_whole)

-- ---- the calls

pub log_is : (logs : List ℕ) (a : ℕ) → LogsBelow logs 65535 → 0 < a → a < 65536 → (get_or logs a 0 < 65535) × (pow 2 (get_or logs a 0) ≡ a)
log_is logs a t z h =
    let i = logarithm a z h in
    let e : get_or logs a 0 ≡ i.0 = ap (λ x. get_or logs x 0) (sym i.1.1) ∙ t.each i.0 i.1.0 in
    (subst (λ n. n < 65535) (sym e) i.1.0, ap (pow 2) e ∙ i.1.1)

pub product_is : (a b i j : ℕ) → pow 2 i ≡ a → pow 2 j ≡ b → pow 2 (i + j) ≡ mul a b
product_is a b i j ea eb = power-add 2 i j (omega arith) ∙ ap₂ mul ea eb

-- the powers of 2 repeat after 65,535
pow_2-mod : (n : ℕ) → pow 2 (n % 65535) ≡ pow 2 n
pow_2-mod n =
    let r = n % 65535 in
    let q = n / 65535 in
    let whole : pow 2 (q * 65535) ≡ 1 = sym (power-mul 2 65535 q (omega arith)) ∙ ap (λ v. pow v q) power-65535 ∙ one-power q in
    sym (ap (pow 2) (let e : n ≡ r + q * 65535 = omega arith in e) ∙ power-add 2 r (q * 65535) (omega arith)
    ∙ ap (mul (pow 2 r)) whole ∙ product-one (pow 2 r) (power-lt 2 r (omega arith)))

pub power_is : (a e i : ℕ) → pow 2 i ≡ a → pow 2 (i * e % 65535) ≡ pow a e
power_is a e i ea = pow_2-mod (i * e) ∙ ap (pow 2) (let c : i * e ≡ e * i = omega arith in c) ∙ sym (power-mul 2 i e (omega arith)) ∙ ap (λ v. pow v e) ea

pub zero_power : (e : ℕ) → 0 < e → pow 0 e ≡ 0
unfolding pow
zero_power zero h = absurd (omega arith)
zero_power (suc e) h = zero-product (pow 0 e)

pub inverse_is : (a i : ℕ) → i < 65535 → a < 65536 → pow 2 i ≡ a → IsInverse a (pow 2 (65535 - i))
inverse_is a i h ha ea =
    let one : mul a (pow 2 (65535 - i)) ≡ 1 =
    sym (product_is a (pow 2 (65535 - i)) i (65535 - i) ea refl) ∙ ap (pow 2) (let e : i + (65535 - i) ≡ 65535 = omega arith in e) ∙ power-65535 in
    record {
      is_one = one;
      only = λ c hc e. one_inverse a c (pow 2 (65535 - i)) ha hc (power-lt 2 (65535 - i) (omega arith)) e one;
    }

-- For the prover: outside of the unfolding, because an unfolded list of constants would have its length computed
constant_counted : (k : ℕ) → k < 32768 → k < length constant_powers
constant_counted k h = omega (arith, length-constant_powers)

pub constant_is : (constants : List ℕ) (k : ℕ) → constants ≡ map (pow 2) constant_powers → k < 32768 → get_or constants k 0 ≡ constant k
unfolding constant
constant_is constants k e h = ap (λ xs. get_or xs k 0) e ∙ get_or-map (pow 2) constant_powers k 0 0 (constant_counted k h)

pub constants_count : (constants : List ℕ) → constants ≡ map (pow 2) constant_powers → length constants ≡ 32768
constants_count constants e = ap length e ∙ length-map constant_powers (pow 2) ∙ length-constant_powers
