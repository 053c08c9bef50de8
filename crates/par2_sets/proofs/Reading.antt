-- Lists whose items must all be there, and lists that a function makes.
use Rattle.par2_sets.proofs.Common.{◌≡◌, ℕ, zero, suc, ◌+◌, ◌<◌, List, [], ◌∷◌, ◌++◌, Option, Some, None, length, map, take, get_or, refl, sym, ap, ◌∙◌, arith, slice_get, option_map, option_and_then, map_more, all_some, Err, Result, ok_or, IsErrAnd, err_from_is_err_and, Fault, err_again, Bool, true, false, flat_map, cond, not, filter, bytes_eq, Folder, bytes_of, accepted, packets_with, flat_map_more, ◌&&◌, is_par_name, is_par_file, is_among, list_any, list_all, names, own_files, target_names, ParSet, ◌==◌, T, subst, nat_lt, filter_map, if◌then◌else◌, Bor, Less, nat_cmp, is_lt, eq_by_cmp, nat_cmp_total, AllByRecursion, IsStrictlyIncreasing, IsStrictlySortedBy, lookup, keys_of, FinMap, is_sorted, same_map, same_entries_map, entries_sorted, nat_cmp-IsAntisymmetric, entries-from_sorted, get-from_sorted, get-from_entries, Packet, RecoveryBody, read_recovery, recovery_of, set_exponents, set_recovery, are_own, slice_cmp, lookup-map_values, Ok, is_some, MainBody, DescBody, Target, is_slice_size, main_of, are_in_profile, read_set, set_of, entries, set_view, set_packets, description_of, target_of, NoDescription, NoChecksums, set_from_packets, ap₂, map-id, find, IsTotalOrder, IsEquivalence, eq_by_cmp_equiv, same_either_way, count_cmp, HasFirsts, is_eq-slice_cmp, YieldsList, append-nil, slice_get_within, get_or_from_slice_get, map-append, filter-append, filter_more, yes_and, sorted_from_strictly_increasing, IsStrictlyIncreasing-from_sorted, below_all, BTreeMap, get, Updates, Ordering, Drains, option_or, gives_Drains, par_files}
use Rattle.std.specs.FinMap as map_of

all_some-push : {A : Type 0} (items : List (Option A)) (last : Option A)
    → all_some (items ++ last ∷ []) ≡ option_and_then (λ xs. option_map (λ x. xs ++ x ∷ []) last) (all_some items)
all_some-push [] last = grind arith
all_some-push (None ∷ items) last = refl
all_some-push (Some a ∷ items) last = grind (arith, all_some-push items last)

-- one more item that is there
pub all_some_more : {A B : Type 0} (f : A → Option B) (xs : List A) (i : ℕ) (x : A) (ys : List B) (y : B)
    → i < length xs → x ≡ get_or xs i x → all_some (map f (take i xs)) ≡ Some ys → f x ≡ Some y
    → all_some (map f (take (i + 1) xs)) ≡ Some (ys ++ y ∷ [])
all_some_more f xs i x ys y low is before this = grind (arith, map_more f xs i x low, all_some-push (map f (take i xs)) (f (get_or xs i x)))

-- an item that is absent
pub all_some_none : {A B : Type 0} (f : A → Option B) (xs : List A) (i : ℕ) (x : A)
    → i < length xs → x ≡ get_or xs i x → f x ≡ None → all_some (map f xs) ≡ None
all_some_none f [] i x low is none = absurd (omega (arith, low))
all_some_none f (a ∷ xs) zero x low is none = ap (option_and_then (λ y. option_map (λ ys. y ∷ ys) (all_some (map f xs)))) (ap f (sym is) ∙ none)
all_some_none f (a ∷ xs) (suc i) x low is none = grind (arith, all_some_none f xs i x (omega (arith, low)) is none)

-- the item at an index
pub item_at : {A : Type 0} (xs : List A) (i : ℕ) (x : A) → slice_get xs i ≡ Some x → (i < length xs) × (x ≡ get_or xs i x)
item_at xs i x h = (slice_get_within xs i x h, sym (get_or_from_slice_get xs i x x h))

-- Faults that are passed on.

-- what `?` returns if a step ended in a fault
pub passed_on : {X : Type 0} (P : Result X Fault → Type 0) (r : Result X Fault) (fault : Fault) → IsErrAnd r (λ y. y ≡ fault) → P (Err fault) → P r
passed_on P r fault is h = err_again P r fault (err_from_is_err_and r is) h

-- if one is missing, the whole list is
pub one_missing : {A B : Type 0} (f : A → Option B) (xs : List A) (i : ℕ) (x : A) (missing fault : Fault)
    → i < length xs → x ≡ get_or xs i x → ok_or (f x) missing ≡ Err fault → ok_or (all_some (map f xs)) missing ≡ Err fault
one_missing f xs i x missing fault low is h = grind (arith, all_some_none f xs i x low is)

-- The packets of a set, file by file, and the files that have no others.

-- the packets of a set in the base and in these other files, those of the base first
abbrev pub packets_in : Folder → List ℕ → List (List ℕ) → List ℕ → List Packet
packets_in folder base others id = packets_with id (flat_map accepted (bytes_of folder base ∷ map (bytes_of folder) others))

-- the file of this name has packets, all of the set
abbrev pub has_own : Folder → List ℕ → List ℕ → Bool
has_own folder id name = are_own id (accepted (bytes_of folder name))

-- one more name is kept if it passes
pub kept_more : (p : List ℕ → Bool) (all : List (List ℕ)) (i : ℕ) (name : List ℕ) → i < length all → name ≡ get_or all i name → (kept : Bool) → kept ≡ p name
    → filter p (take i all) ++ cond kept (name ∷ []) [] ≡ filter p (take (i + 1) all)
kept_more p all i name low is kept passes = sym (filter_more p all i name low ∙ (λ j. filter p (take i all) ++ cond ((ap p (sym is) ∙ sym passes) j) (sym is j ∷ []) []))

module _ (folder : Folder) (base id : List ℕ) (all : List (List ℕ)) (i : ℕ) (name : List ℕ) (low : i < length all) (is : name ≡ get_or all i name) where
  abbrev other : List ℕ → Bool
  other n = not (bytes_eq n base)

  abbrev before : List (List ℕ)
  before = filter other (take i all)

  step : (b : Bool) → bytes_eq name base ≡ b → filter other (take (i + 1) all) ≡ before ++ cond (not b) (name ∷ []) []
  step b same = sym (kept_more other all i name low is (not b) (ap not (sym same)))

  -- the base was read before the others
  pub no_more : bytes_eq name base ≡ true → packets_in folder base before id ≡ packets_in folder base (filter other (take (i + 1) all)) id
  no_more same = ap (λ ns. packets_in folder base ns id) (sym (step true same ∙ append-nil before))

  pub one_more : bytes_eq name base ≡ false
      → packets_in folder base before id ++ packets_with id (accepted (bytes_of folder name)) ≡ packets_in folder base (filter other (take (i + 1) all)) id
  one_more differs =
      grind (arith, filter-append (λ p. bytes_eq p.set_id id) (accepted (bytes_of folder base) ++ flat_map accepted (map (bytes_of folder) before)) (accepted (bytes_of folder name)), flat_map_more accepted (accepted (bytes_of folder base)) (map (bytes_of folder) before) (bytes_of folder name), map-append (bytes_of folder) before (name ∷ []), step false differs)

-- a filter of what a filter leaves
filter_twice : (p r both : List ℕ → Bool) → ((x : List ℕ) → (r x && p x) ≡ both x) → (xs : List (List ℕ)) → filter p (filter r xs) ≡ filter both xs
filter_twice p r both same [] = refl
filter_twice p r both same (x ∷ xs) = grind (arith, filter_twice p r both same xs, same x)

-- the other `.par2` files are those that aren't the base
pub others_are : (base : List ℕ) (ns : List (List ℕ)) → filter (λ n. not (bytes_eq n base)) (filter is_par_name ns) ≡ filter (λ n. is_par_name n && not (bytes_eq n base)) ns
others_are base ns = filter_twice (λ n. not (bytes_eq n base)) is_par_name (λ n. is_par_name n && not (bytes_eq n base)) (λ n. refl) ns

-- in the order in which a PAR2 file is defined
in_order : (par own some all : Bool) → ((par && (some && all)) && own) ≡ (par && own && some && all)
in_order par own some all = grind arith

-- without targets these are the set's PAR2 files
pub par_files_are : (folder : Folder) (set : ParSet) → filter (λ n. not (is_among (target_names set) n)) (own_files folder set.id) ≡ par_files folder set
par_files_are folder set =
    let free = λ (n : List ℕ). not (is_among (target_names set) n) in
    let own = λ (n : List ℕ). is_par_name n && has_own folder set.id n in
    ap (filter free) (filter_twice (has_own folder set.id) is_par_name own (λ n. refl) (names folder))
    ∙ filter_twice free own (is_par_file folder set)
    (λ n. in_order (is_par_name n) (free n) (list_any (λ p. bytes_eq p.set_id set.id) (accepted (bytes_of folder n))) (list_all (λ p. bytes_eq p.set_id set.id) (accepted (bytes_of folder n))))
    (names folder)

-- The recovery slices of the packets, by their exponents.

-- ---- which packets count

abbrev pub entry_of : ℕ × Bor (List ℕ) → ℕ × List ℕ
entry_of r = (r.0, r.1.now)

abbrev fits : ℕ → RecoveryBody → Bool
fits s r = nat_lt r.exponent 65536 && length r.bytes == s

-- the recovery slice of a packet, if its exponent is below 65,536 and its length is the slice size s
abbrev pub usable : ℕ → Packet → Option RecoveryBody
usable s p = option_and_then (λ r. if fits s r then Some r else None) (read_recovery p.kind p.body)

abbrev pub pair_of : RecoveryBody → ℕ × List ℕ
pair_of r = (r.exponent, r.bytes)

-- the exponents and slices that a set can use, in the order of the packets
abbrev pub slices_in : List Packet → ℕ → List (ℕ × List ℕ)
slices_in packets s = map pair_of (filter_map (usable s) packets)

chosen : (s : ℕ) (packets : List Packet) → filter_map (usable s) packets ≡ filter (fits s) (filter_map (λ p. read_recovery p.kind p.body) packets)
chosen s [] = refl
chosen s (p ∷ packets) = grind (arith, chosen s packets)

-- ---- a map of the first slices

find-lookup : (es : List (ℕ × List ℕ)) (q : ℕ) → map_of.find nat_cmp q es ≡ lookup (eq_by_cmp nat_cmp q) es
find-lookup [] q = refl
find-lookup (e ∷ es) q = ap (cond (eq_by_cmp nat_cmp q e.0) (Some e.1)) (find-lookup es q)

below : (k : ℕ) (es : List (ℕ × Bor (List ℕ))) → AllByRecursion (λ y. nat_cmp k y ≡ Less) (keys_of es) → T (below_all nat_cmp k (map entry_of es))
below k [] h = tt
below k (e ∷ es) h = subst (λ o. T (is_lt o && below_all nat_cmp k (map entry_of es))) (sym h.0) (below k es h.1)

-- entries in the order of their exponents
pub sorted : (es : List (ℕ × Bor (List ℕ))) → IsStrictlySortedBy nat_cmp (keys_of es) → T (is_sorted nat_cmp (map entry_of es))
unfolding IsStrictlySortedBy
sorted [] h = tt
sorted (e ∷ es) h = yes_and _ _ (below e.0 es h.0) (sorted es h.1)

-- a map with the packets' first slice of each exponent
pub first_slices : (packets : List Packet) (s : ℕ) (es : List (ℕ × Bor (List ℕ))) → IsStrictlySortedBy nat_cmp (keys_of es)
    → ((q : ℕ) → option_map (λ x. x.now) (lookup (eq_by_cmp nat_cmp q) es) ≡ lookup (eq_by_cmp nat_cmp q) (slices_in packets s))
    → map entry_of es ≡ map_of.entries (recovery_of packets s)
first_slices packets s es up says =
    sym (entries-from_sorted nat_cmp (map entry_of es) (sorted es up))
    ∙ ap map_of.entries (same_map nat_cmp_total nat_cmp-IsAntisymmetric (map_of.from_sorted (map entry_of es)) (recovery_of packets s) (λ q.
    get-from_sorted nat_cmp (map entry_of es) q (sorted es up) ∙ find-lookup (map entry_of es) q ∙ lookup-map_values (λ x. x.now) (eq_by_cmp nat_cmp q) es
    ∙ says q ∙ sym (find-lookup (slices_in packets s) q)
    ∙ ap (λ rs. map_of.find nat_cmp q (map pair_of rs)) (chosen s packets) ∙ sym (get-from_entries nat_cmp_total _ q)))

-- ---- the parts of a set

keys_are : (es : List (ℕ × Bor (List ℕ))) → set_exponents es ≡ keys_of es
keys_are [] = refl
keys_are (e ∷ es) = ap (λ ks. e.0 ∷ ks) (keys_are es)

-- strictly increasing exponents are those of a map
pub kept_entries : (es : List (ℕ × Bor (List ℕ))) → IsStrictlyIncreasing (set_exponents es) → map_of.entries (map_of.from_sorted {R = nat_cmp} (set_recovery es)) ≡ set_recovery es
kept_entries es up = entries-from_sorted nat_cmp (set_recovery es) (sorted es (sorted_from_strictly_increasing (keys_of es) (subst IsStrictlyIncreasing (keys_are es) up)))

pub made_of : (es : List (ℕ × Bor (List ℕ))) (m : FinMap nat_cmp (List ℕ)) → set_recovery es ≡ map_of.entries m → map_of.from_sorted (set_recovery es) ≡ m
made_of es m e = same_entries_map _ _ (entries-from_sorted nat_cmp (set_recovery es) (subst (λ xs. T (is_sorted nat_cmp xs)) (sym e) (entries_sorted m)) ∙ e)

-- entries in order have strictly increasing exponents
pub rising : (es : List (ℕ × Bor (List ℕ))) → IsStrictlySortedBy nat_cmp (keys_of es) → IsStrictlyIncreasing (set_exponents es)
rising es up = subst IsStrictlyIncreasing (sym (keys_are es)) (IsStrictlyIncreasing-from_sorted (keys_of es) up)

-- The steps of reading a set, one after the other.

-- the identifier of the first packet of a base
abbrev pub first_id : Folder → List ℕ → Option (List ℕ)
first_id files base = option_map (λ p. p.set_id) (slice_get (accepted (bytes_of files base)) 0)

-- a set whose base has a packet
pub at_packets : (files : Folder) (base id : List ℕ) → first_id files base ≡ Some id → set_of files base ≡ set_from_packets id (set_packets files base id)
unfolding set_of read_set
at_packets files base id h = grind arith

-- the set of some packets, after all of its parts were read
pub all_read : (id : List ℕ) (packets : List Packet) (main : MainBody) (size : ℕ) (ds : List DescBody) (targets : List Target) (recovery : List (ℕ × Bor (List ℕ)))
    → main_of id packets ≡ Some main → size ≡ main.slice_size → is_slice_size size ≡ true → ok_or (all_some (map (description_of packets) main.ids)) NoDescription ≡ Ok ds → are_in_profile size ds ≡ true
    → ok_or (all_some (map (target_of packets size) ds)) NoChecksums ≡ Ok targets → set_recovery recovery ≡ entries (recovery_of packets size) → set_from_packets id packets ≡ Ok (set_view id size targets recovery)
all_read id packets main size ds targets recovery has is sized described taken made recovered =
    rw (has, ← is, sized, described, taken, made, ← made_of recovery (recovery_of packets size) recovered)

-- Maps that keep the first value of each key.

-- ---- one entry more

lookup_more : {K X : Type 0} (test : K → Bool) (es : List (K × X)) (e : K × X) → lookup test (es ++ e ∷ []) ≡ option_or (lookup test es) (cond (test e.0) (Some e.1) None)
lookup_more test [] e = refl
lookup_more test (x ∷ es) e = grind (arith, lookup_more test es e)

-- keys that are equal in the order have one value
same_value : {K X : Type 0} {E : K → K → Bool} → IsEquivalence E → (es : List (K × X)) (a b : K) → E a b ≡ true → lookup (E a) es ≡ lookup (E b) es
same_value laws [] a b same = refl
same_value laws (e ∷ es) a b same = ap₂ (λ t rest. cond t (Some e.1) rest) (laws.congr a b e.0 same) (same_value laws es a b same)

module _ {K X : Type 0} {R : K → K → Ordering} (total : IsTotalOrder R) (es : List (K × X)) (key : K) (value : X) (old : BTreeMap K X) (so_far : HasFirsts R es old) where
  at_key : (q : K) → eq_by_cmp R q key ≡ true → is_some (lookup (eq_by_cmp R q) es) ≡ is_some (get R old key)
  at_key q same = ap is_some (same_value (eq_by_cmp_equiv total) es q key same ∙ sym (so_far key))

  -- its key has a value already
  pub first_stays : is_some (get R old key) ≡ true → HasFirsts R (es ++ (key, value) ∷ []) old
  first_stays some q = so_far q ∙ stays (lookup (eq_by_cmp R q) es) (eq_by_cmp R q key) (λ same. at_key q same ∙ some) ∙ sym (lookup_more (eq_by_cmp R q) es (key, value))
    where
      stays : (o : Option X) (t : Bool) → (t ≡ true → is_some o ≡ true) → o ≡ option_or o (cond t (Some value) None)
      stays o t h = grind arith

  -- its key has no value yet
  pub first_added : (new : BTreeMap K X) → is_some (get R old key) ≡ false → Updates R old new key (Some value) → HasFirsts R (es ++ (key, value) ∷ []) new
  first_added new none puts q =
      puts.0 q ∙ ap₂ (λ t o. cond t (Some value) o) ((eq_by_cmp_equiv total).symm key q) (so_far q)
      ∙ added (lookup (eq_by_cmp R q) es) (eq_by_cmp R q key) (λ same. at_key q same ∙ none) ∙ sym (lookup_more (eq_by_cmp R q) es (key, value))
    where
      added : (o : Option X) (t : Bool) → (t ≡ true → is_some o ≡ false) → cond t (Some value) o ≡ option_or o (cond t (Some value) None)
      added o t h = grind arith

-- the items of a chain of iterators
pub items_of : {S A B : Type 0} {steps : S → Option A → S → Type 0} {s : S} {all : List B} (v : A → B) (xs : List A) → Drains steps s xs → YieldsList steps v s all → map v xs ≡ all
items_of {steps = steps} {s = s} {all = all} v xs ran road = gives_Drains steps v xs all s road.runs ran

-- a map of their first values
pub firsts_of : {S K X : Type 0} {steps : S → Option (K × X) → S → Type 0} {s : S} {all : List (K × X)} (R : K → K → Ordering) (m : BTreeMap K X)
    → (es : List (K × X)) × Drains steps s es × HasFirsts R es m → YieldsList steps (λ x. x) s all → HasFirsts R all m
firsts_of R m ran road = subst (λ es. HasFirsts R es m) (sym (map-id ran.0) ∙ items_of (λ x. x) ran.0 ran.1 road) ran.2

-- ---- what is read by its key

module _ {P D K : Type 0} (test : K → Bool) (read : P → Option D) (key : D → K) where
  -- the first that is read with such a key
  pub keyed : (ps : List P) → lookup test (filter_map (λ p. option_map (λ d. (key d, d)) (read p)) ps) ≡ find (λ d. test (key d)) (filter_map read ps)
  keyed [] = refl
  keyed (p ∷ ps) = grind (arith, keyed ps)

  -- the first item from which something with such a key is read
  pub found : (ps : List P) → option_and_then read (lookup test (filter_map (λ p. option_map (λ d. (key d, p)) (read p)) ps)) ≡ find (λ d. test (key d)) (filter_map read ps)
  found [] = refl
  found (p ∷ ps) = grind (arith, found ps)

-- ---- the keys

-- File IDs are equal if their bytes are
pub same_id : (a b : List ℕ) → eq_by_cmp (slice_cmp nat_cmp) a b ≡ bytes_eq b a
same_id a b = is_eq-slice_cmp a b ∙ same_either_way a b

-- keys are equal if their File IDs and numbers of slices are
pub same_count : (id other : List ℕ) (n m : ℕ) → eq_by_cmp count_cmp (id, n) (other, m) ≡ (bytes_eq other id && m == n)
same_count id other n m = grind (arith, same_id id other)
