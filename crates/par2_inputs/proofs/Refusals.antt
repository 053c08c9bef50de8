-- What the absence of each cause of a refusal says of the arguments and the inputs.
use Rattle.par2_inputs.proofs.Common.{◌≡◌, zero, suc, ℕ, ◌+◌, ◌≤◌, List, [], ◌∷◌, length, refl, sym, ap₂, ◌∙◌, false, arith, length-append, ◌*◌, ◌==◌, sum_by, AllByRecursion, eqb-false, div_ceil_times, sum_by-cons, length-map-range_with_len, slice_count, slice_at, slices, File, all_slices, ◌%◌, ◌^◌, true, not, ◌&&◌, nat_lt, nat_le, None, and_parts, leb-true, ltb-false, not-false, fault_where, fault_at, is_name, is_par_name, Folder, has, in_id_order, is_slice_size, CreateArgs, files_of, are_counts, bad_name, head_fault, BadSliceSize, BadCount, BadBase, NoInput, NoSuchFile, EmptyFile, TooManySlices, where_none, all_none, at_none, size_parts, duplicate_input, files_fault, ids_fault, inputs_fault, ap, Bool, Option, list_any, first_fault, create_refusal, refusal, early_refusal, long_name, existing, map-map, option_map, position-map, bytes_of, is_some, Some, volume_numbers, Create, outputs_of, any-map, Fault, volume_at, output_names, names_of_outputs, ◌<◌, get_or, take, cond, position, position_or_len, enumerate_from, lt-ltb, le-ltb, position_or_len_is, get_or-enumerate_from, length-enumerate_from, is_among, map, sum-map, Input, input_file, length_permutation, sum_by-IsPermutation, unwrap_or, sum, then_some, moved-ordered}

-- the number of slices of the files
pub slices_counted : (s : ℕ) (files : List File) → length (all_slices s files) ≡ sum_by (λ file. slice_count s (length file.1)) files
slices_counted s [] = refl
slices_counted s (file ∷ files) =
    omega (arith, length-append (slices s file.1) (all_slices s files), length-map-range_with_len (slice_at s file.1) 0 (slice_count s (length file.1)), slices_counted s files, sum_by-cons (λ (x : File). slice_count s (length x.1)) file files)

-- files that aren't empty have at least one slice each
pub few_files : (s : ℕ) (files : List File) → 1 ≤ s → AllByRecursion (λ file. (length file.1 == 0) ≡ false) files → length files ≤ sum_by (λ file. slice_count s (length file.1)) files
few_files s [] some h = omega arith
few_files s (file ∷ files) some h =
    omega (arith, few_files s files some h.1, one_slice (length file.1) s some (eqb-false (length file.1) 0 h.0), sum_by-cons (λ (x : File). slice_count s (length x.1)) file files)
  where
    one_slice : (n s : ℕ) → 1 ≤ s → (n ≡ 0 → ⊥) → 1 ≤ slice_count s n
    one_slice n s some h = more (slice_count s n) (div_ceil_times n s some).0
      where
        more : (k : ℕ) → n ≤ k * s → 1 ≤ k
        more zero up = absurd (h (omega (arith, up)))
        more (suc k) up = omega arith

-- ---- the head

pub record IsHead (a : CreateArgs) : Type 0 where
  pub positive : 1 ≤ a.slice
  pub fours : a.slice % 4 ≡ 0
  pub small : a.slice ≤ 2 ^ 30
  pub exponents : a.first + a.count ≤ 65536
  pub name : is_name a.base ≡ true
  pub par_name : is_par_name a.base ≡ true

pub head_passed : (a : CreateArgs) → head_fault a ≡ None → IsHead a
unfolding head_fault
head_passed a h =
    let none =
    all_none
    (fault_where (not (is_slice_size a.slice)) BadSliceSize
    ∷ fault_where (not (are_counts a.first a.count)) BadCount
    ∷ fault_where (not (is_name a.base && is_par_name a.base)) BadBase
    ∷ fault_where (length a.inputs == 0) NoInput
    ∷ [])
    h in
    let is_size : is_slice_size a.slice ≡ true = not-false _ (where_none _ _ none.0) in
    let are : are_counts a.first a.count ≡ true = not-false _ (where_none _ _ none.1.0) in
    let named : (is_name a.base && is_par_name a.base) ≡ true = not-false _ (where_none _ _ none.1.1.0) in
    let size = size_parts a.slice is_size in
    let both = and_parts (is_name a.base) (is_par_name a.base) named in
    record {
      positive = omega (arith, size.1);
      fours = size.0;
      small = size.2;
      exponents = leb-true (a.first + a.count) 65536 (and_parts (nat_le a.count 65536 && nat_le a.first 65535) (nat_le (a.first + a.count) 65536) are).1;
      name = both.0;
      par_name = both.1;
    }

-- ---- the inputs

pub record AreInputs (folder : Folder) (size : ℕ) (inputs : List (List ℕ)) : Type 0 where
  pub filled : AllByRecursion (λ file. (length file.1 == 0) ≡ false) (files_of folder inputs)
  pub few : sum_by (λ file. slice_count size (length file.1)) (files_of folder inputs) ≤ 32768

pub inputs_passed : (folder : Folder) (a : CreateArgs) → inputs_fault folder a ≡ None → AreInputs folder a.slice a.inputs
unfolding inputs_fault files_fault ids_fault
inputs_passed folder a h =
    let all : List File = files_of folder a.inputs in
    let absent = fault_at 1 NoSuchFile (λ (file : File). length file.1 == 0 && not (has folder file.0)) all in
    let empties = fault_at 1 EmptyFile (λ (file : File). length file.1 == 0) all in
    let too_many = nat_lt 32768 (sum_by (λ (file : File). slice_count a.slice (length file.1)) all) in
    let none = all_none (bad_name a.inputs ∷ duplicate_input a.inputs ∷ files_fault folder a.slice all ∷ ids_fault all ∷ []) h in
    let files = all_none (absent ∷ empties ∷ fault_where too_many TooManySlices ∷ []) none.1.1.0 in
    record {
      filled = at_none 1 EmptyFile (λ (file : File). length file.1 == 0) all files.1.0;
      few = ltb-false 32768 (sum_by (λ (file : File). slice_count a.slice (length file.1)) all) (where_none too_many TooManySlices files.1.1.0);
    }

-- ---- their records

module _ (folder : Folder) (size : ℕ) (inputs : List (List ℕ)) (are : AreInputs folder size inputs) where
  pub few_slices : length (all_slices size (in_id_order (files_of folder inputs))) ≤ 32768
  few_slices =
      let counted : length (all_slices size (in_id_order (files_of folder inputs))) ≡ sum_by (λ (file : File). slice_count size (length file.1)) (files_of folder inputs) =
      slices_counted size (in_id_order (files_of folder inputs)) ∙ sum_by-IsPermutation (λ file. slice_count size (length file.1)) (files_of folder inputs) (in_id_order (files_of folder inputs)) (moved-ordered (files_of folder inputs)) in
      omega (arith, counted, are.few)

  pub few_in_order : 1 ≤ size → length (in_id_order (files_of folder inputs)) ≤ 32768
  few_in_order some =
      let few : length (files_of folder inputs) ≤ sum_by (λ (file : File). slice_count size (length file.1)) (files_of folder inputs) = few_files size (files_of folder inputs) some are.filled in
      omega (arith, length_permutation (files_of folder inputs) (in_id_order (files_of folder inputs)) (moved-ordered (files_of folder inputs)), few, are.few)

-- The refusal of a create, by its groups of causes.

any_output : (folder : Folder) (a : CreateArgs) (test : List ℕ → Bool) → list_any (λ file. test file.0) (outputs_of folder a) ≡ list_any test (output_names a)
any_output folder a test =
    sym (any-map test (λ (file : File). file.0) (outputs_of folder a))
    ∙ ap (list_any test) (names_of_outputs a.base a.slice a.first a.count (files_of folder a.inputs) ∙ ap (λ names. a.base ∷ names) (sym (map-map _ (volume_at a.base a.first a.count) (volume_numbers a.count))))

-- tests in three groups, the second of which has a group of its own
grouped : {F : Type 0} (size counts base no_input bad again absent empty many ids long there : Option F)
    → first_fault (size ∷ counts ∷ base ∷ no_input ∷ bad ∷ again ∷ absent ∷ empty ∷ many ∷ ids ∷ long ∷ there ∷ [])
    ≡ first_fault (first_fault (size ∷ counts ∷ base ∷ no_input ∷ []) ∷ first_fault (bad ∷ again ∷ first_fault (absent ∷ empty ∷ many ∷ []) ∷ ids ∷ []) ∷ long ∷ there ∷ [])
grouped size counts base no_input bad again absent empty many ids long there = grind arith

-- an absent file has no bytes
absent_is : (there : Option (List ℕ)) → (length (unwrap_or there []) == 0 && not (is_some there)) ≡ not (is_some there)
absent_is None = refl
absent_is (Some bytes) = grind arith

absent_first : (folder : Folder) (names : List (List ℕ)) → fault_at 1 NoSuchFile (λ file. length file.1 == 0 && not (has folder file.0)) (files_of folder names) ≡ fault_at 1 NoSuchFile (λ name. not (has folder name)) names
absent_first folder names = ap (option_map (λ k. NoSuchFile (1 + k))) (position-map _ (λ name. (name, bytes_of folder name)) names ∙ simp absent_is)

create_causes : (folder : Folder) (a : CreateArgs)
    → create_refusal folder a ≡ first_fault (head_fault a ∷ inputs_fault folder a ∷ long_name (output_names a) ∷ existing folder a.overwrite (output_names a) ∷ [])
unfolding create_refusal head_fault inputs_fault files_fault ids_fault
create_causes folder a =
    rw (any_output folder a (λ name. nat_lt 255 (length name)), any_output folder a (has folder), absent_first folder a.inputs)
    (grouped (fault_where (not (is_slice_size a.slice)) BadSliceSize) (fault_where (not (are_counts a.first a.count)) BadCount) (fault_where (not (is_name a.base && is_par_name a.base)) BadBase)
    (fault_where (length a.inputs == 0) NoInput) (bad_name a.inputs) (duplicate_input a.inputs) (fault_at 1 NoSuchFile (λ word. not (has folder word)) a.inputs)
    (fault_at 1 EmptyFile (λ (file : File). length file.1 == 0) (files_of folder a.inputs))
    (fault_where (nat_lt 32768 (sum_by (λ (file : File). slice_count a.slice (length file.1)) (files_of folder a.inputs))) TooManySlices)
    (ids_fault (files_of folder a.inputs)) (long_name (output_names a)) (existing folder a.overwrite (output_names a)))

-- ---- by groups

module _ (folder : Folder) (a : CreateArgs) where
  pub early_by : (head bad : Option Fault) → head_fault a ≡ head → bad_name a.inputs ≡ bad → early_refusal folder (Create a) ≡ first_fault (head ∷ bad ∷ [])
  unfolding early_refusal
  early_by head bad h b = ap₂ (λ x y. first_fault (x ∷ y ∷ [])) h b

  pub refused_by : (head inputs long there : Option Fault) → head_fault a ≡ head → inputs_fault folder a ≡ inputs → long_name (output_names a) ≡ long → existing folder a.overwrite (output_names a) ≡ there
      → refusal folder (Create a) ≡ first_fault (head ∷ inputs ∷ long ∷ there ∷ [])
  unfolding refusal
  refused_by head inputs long there h i l t =
      create_causes folder a
      ∙ ap₂ (λ x y. first_fault (x ∷ y ∷ long_name (output_names a) ∷ existing folder a.overwrite (output_names a) ∷ [])) h i
      ∙ ap₂ (λ x y. first_fault (head ∷ inputs ∷ x ∷ y ∷ [])) l t

by_last : (w x y z ids : Option Fault) → w ≡ None → x ≡ None → y ≡ None → z ≡ ids → first_fault (w ∷ x ∷ y ∷ z ∷ []) ≡ ids
by_last w x y z None none once fine is = grind arith
by_last w x y z (Some fault) none once fine is = grind arith

-- nothing is wrong with the inputs but maybe their File IDs
pub inputs_by : (folder : Folder) (a : CreateArgs) (ids : Option Fault) → bad_name a.inputs ≡ None → duplicate_input a.inputs ≡ None → files_fault folder a.slice (files_of folder a.inputs) ≡ None → ids_fault (files_of folder a.inputs) ≡ ids
    → inputs_fault folder a ≡ ids
unfolding inputs_fault
inputs_by folder a ids none once fine is = by_last _ _ _ _ ids none once fine is

-- The first item that passes a test, and its index.

pub found_at : {X : Type 0} (p : X → Bool) (xs : List X) (i : ℕ) (d : X) → i < length xs → ((k : ℕ) → k < i → p (get_or xs k d) ≡ false) → p (get_or xs i d) ≡ true → position p xs ≡ Some i
found_at p xs i d low none here =
    let e : position_or_len p xs ≡ i = position_or_len_is p xs i d (omega arith) none (λ _. here) in
    ap (λ n. cond (nat_lt n (length xs)) (Some n) None) e ∙ ap (λ b. cond b (Some i) None) (lt-ltb i (length xs) low)

pub found_nowhere : {X : Type 0} (p : X → Bool) (xs : List X) (d : X) → ((k : ℕ) → k < length xs → p (get_or xs k d) ≡ false) → position p xs ≡ None
found_nowhere p xs d none =
    let e : position_or_len p xs ≡ length xs = position_or_len_is p xs (length xs) d (omega arith) none (λ h. absurd (omega (arith, h))) in
    ap (λ n. cond (nat_lt n (length xs)) (Some n) None) e ∙ ap (λ b. cond b (Some (length xs)) None) (le-ltb (length xs) (length xs) (omega arith))

-- ---- the first name that occurred before

-- whether name k is among those before it
abbrev pub comes_again : List (List ℕ) → ℕ → Bool
comes_again names k = is_among (take k names) (get_or names k [])

again_at : (names : List (List ℕ)) (k : ℕ) → k < length names → (λ (z : ℕ × List ℕ). is_among (take z.0 names) z.1) (get_or (enumerate_from 0 names) k (0, [])) ≡ comes_again names k
again_at names k low = ap (λ (z : ℕ × List ℕ). is_among (take z.0 names) z.1) (get_or-enumerate_from 0 names k (0, []) low) ∙ ap (λ n. is_among (take n names) (get_or names k [])) (let e : 0 + k ≡ k = omega arith in e)

pub again_found : (names : List (List ℕ)) (i : ℕ) → i < length names → ((k : ℕ) → k < i → comes_again names k ≡ false) → comes_again names i ≡ true
    → position (λ (z : ℕ × List ℕ). is_among (take z.0 names) z.1) (enumerate_from 0 names) ≡ Some i
again_found names i low none here =
    let size : length (enumerate_from 0 names) ≡ length names = length-enumerate_from 0 names in
    found_at _ (enumerate_from 0 names) i (0, []) (omega (arith, size, low)) (λ k h. again_at names k (omega (arith, h, low)) ∙ none k h) (again_at names i low ∙ here)

pub again_nowhere : (names : List (List ℕ)) → ((k : ℕ) → k < length names → comes_again names k ≡ false)
    → position (λ (z : ℕ × List ℕ). is_among (take z.0 names) z.1) (enumerate_from 0 names) ≡ None
again_nowhere names none =
    let size : length (enumerate_from 0 names) ≡ length names = length-enumerate_from 0 names in
    found_nowhere _ (enumerate_from 0 names) (0, []) (λ k h. let low : k < length names = omega (arith, size, h) in again_at names k low ∙ none k low)

-- ---- what is wrong with the inputs' files

pub too_many_by : (many : Bool) (fault : Fault) → then_some many fault ≡ first_fault (fault_where many fault ∷ [])
too_many_by true fault = refl
too_many_by false fault = refl

pub files_by : (folder : Folder) (size : ℕ) (inputs : List Input) (absent empty : Option ℕ) (many : Bool)
    → absent ≡ position (λ input. length input.bytes.now == 0 && not (has folder input.name.now)) inputs → empty ≡ position (λ input. length input.bytes.now == 0) inputs
    → many ≡ nat_lt 32768 (sum_by (λ input. slice_count size (length input.bytes.now)) inputs)
    → first_fault (option_map (λ k. NoSuchFile (1 + k)) absent ∷ option_map (λ k. EmptyFile (1 + k)) empty ∷ fault_where many TooManySlices ∷ []) ≡ files_fault folder size (map input_file inputs)
unfolding files_fault
files_by folder size inputs absent empty many there filled few =
    let why = λ (a b : Option ℕ) (t : Bool). first_fault (option_map (λ k. NoSuchFile (1 + k)) a ∷ option_map (λ k. EmptyFile (1 + k)) b ∷ fault_where t TooManySlices ∷ []) in
    let count = λ (file : File). slice_count size (length file.1) in
    ap₂ (λ a b. why a b many) (there ∙ sym (position-map (λ (file : File). length file.1 == 0 && not (has folder file.0)) input_file inputs)) (filled ∙ sym (position-map (λ (file : File). length file.1 == 0) input_file inputs))
    ∙ ap (why _ _) (few ∙ ap (nat_lt 32768) (sym (sum-map (λ input. count (input_file input)) inputs) ∙ ap sum (sym (map-map count input_file inputs)) ∙ sum-map count (map input_file inputs)))
