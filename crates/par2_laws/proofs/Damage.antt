-- The PAR2 files of a create after damage.
use Rattle.par2_laws.proofs.Common.{Command, Repair, NotRepairable, may_refuse, ◌≡◌, ℕ, ◌+◌, ◌^◌, ◌<◌, ◌≤◌, true, false, not, ◌&&◌, List, [], ◌∷◌, ◌++◌, length, map, take, Option, None, sym, ap, ◌∙◌, subst, append_assoc, length-append, arith, Bool, Some, refl, inr, ◌⊎◌, unwrap_or, sum_by, nat_lt, ◌==◌, filter, AllByRecursion, list_any, enumerate_from, Contains, IsDistinct, bytes_eq, get-entries, nat_cmp, slice_cmp, not-false, and_parts, or_parts, eqb-true, eqb-false, ltb-false, false≢true, or_from, div_ceil_times, common_steps, length-map, sum_by-cons, Fault, BadSliceSize, BadCount, BadBase, NoInput, BadName, DuplicateInput, NoSuchFile, EmptyFile, TooManySlices, DuplicateId, NameTooLong, Exists, fault_where, fault_at, slice_count, slices, is_name, is_par_name, is_among, distinct, Folder, File, IsFolder, has, bytes_of, files, laid_over, id_of, volume_name, volume_numbers, volume_size, volumes_before, all_slices, in_id_order, volumes, record_of, is_slice_size, MadeFrom, target_of_file, target_names, CreateArgs, Create, files_of, outputs_of, are_counts, is_input_name, refusal, create_refusal, after, AreInputs, IsVolume, IsVolumeOrOther, IsOfOthers, set_id_of, FitsCreate, IsDamage, written_names, FollowsCreate, all_weaker, size_positive, distinct_by_length, same_either_way, std_from_distinct, found_at_key, contained_first, contained_later, all-append, all-parts, all-flat_map, where_none, all_none, at_none, some_if, by_either, names_of_files, at_name, recursion_from_All, filter_passes, same_Some, IsPermutation-sym, IsPermutation-map, map-map, pair_of, Matches, windows, AreBytes, candidates, NoCollision, all-filter, moved-all, moved-ordered, IsTrueTo, accepted_after, take-append_seam, drop-append_seam, list_any-append, HaveAChoice, all-each, all-map, get_put, zero-mul}
use Rattle.par2_laws.proofs.VolumeFolders.{set_made}
use Rattle.par2_laws.proofs.Reading.{reading, leaves_files, never_fails, has_choice, refused_by}
use Rattle.std.specs.FinMap as map_of

-- ---- tests that find no fault

-- the results of the tests of an accepted create
pub record Passes (folder : Folder) (a : CreateArgs) : Type 0 where
  pub size : is_slice_size a.slice ≡ true
  pub counts : are_counts a.first a.count ≡ true
  pub base : (is_name a.base && is_par_name a.base) ≡ true
  pub names : AllByRecursion (λ word. not (is_input_name word) ≡ false) a.inputs
  pub once : AllByRecursion (λ z. is_among (take z.0 a.inputs) z.1 ≡ false) (enumerate_from 0 a.inputs)
  pub there : AllByRecursion (λ word. not (has folder word) ≡ false) a.inputs
  pub full : AllByRecursion (λ file. (length file.1 == 0) ≡ false) (files_of folder a.inputs)
  pub slices : nat_lt 32768 (sum_by (λ file. slice_count a.slice (length file.1)) (files_of folder a.inputs)) ≡ false
  pub ids : not (length (distinct (map id_of (files_of folder a.inputs))) == length (files_of folder a.inputs)) ≡ false

-- the tests in their order
abbrev tests : Folder → CreateArgs → List (Option Fault)
tests folder a =
    let fs = files_of folder a.inputs in
    fault_where (not (is_slice_size a.slice)) BadSliceSize
    ∷ fault_where (not (are_counts a.first a.count)) BadCount
    ∷ fault_where (not (is_name a.base && is_par_name a.base)) BadBase
    ∷ fault_where (length a.inputs == 0) NoInput
    ∷ fault_at 1 BadName (λ word. not (is_input_name word)) a.inputs
    ∷ fault_at 1 DuplicateInput (λ z. is_among (take z.0 a.inputs) z.1) (enumerate_from 0 a.inputs)
    ∷ fault_at 1 NoSuchFile (λ word. not (has folder word)) a.inputs
    ∷ fault_at 1 EmptyFile (λ file. length file.1 == 0) fs
    ∷ fault_where (nat_lt 32768 (sum_by (λ file. slice_count a.slice (length file.1)) fs)) TooManySlices
    ∷ fault_where (not (length (distinct (map id_of fs)) == length fs)) DuplicateId
    ∷ fault_where (list_any (λ file. nat_lt 255 (length file.0)) (outputs_of folder a)) NameTooLong
    ∷ fault_where (not a.overwrite && list_any (λ file. has folder file.0) (outputs_of folder a)) Exists
    ∷ []

pub passes : (folder : Folder) (a : CreateArgs) → refusal folder (Create a) ≡ None → Passes folder a
passes folder a h = unfold refusal create_refusal in grind (arith, (all_none (tests folder a) h), not-false, where_none, at_none, is_input_name, id_of)

-- ---- distinct items

-- none of the earlier items
abbrev IsNew : List (List ℕ) → List (List ℕ) → Type 0
IsNew front rest = AllByRecursion (λ y. is_among front y ≡ false) rest

each_new : (front rest : List (List ℕ)) → AllByRecursion (λ z. is_among (take z.0 (front ++ rest)) z.1 ≡ false) (enumerate_from (length front) rest)
    → IsNew front rest × IsDistinct bytes_eq rest
unfolding IsDistinct
each_new front [] h = (tt, tt)
each_new front (x ∷ rest) h =
    let parts : (y : List ℕ) → is_among (front ++ x ∷ []) y ≡ false → (is_among front y ≡ false) × (bytes_eq y x ≡ false) = (λ y k.
    let two = or_parts (is_among front y) (is_among (x ∷ []) y) (sym (list_any-append (bytes_eq y) front (x ∷ [])) ∙ k) in
    (two.0, (or_parts (bytes_eq y x) false two.1).0)) in
    let longer = front ++ x ∷ [] in
    let later = each_new longer rest
    (subst (λ n. AllByRecursion (λ z. is_among (take z.0 (longer ++ rest)) z.1 ≡ false) (enumerate_from n rest)) (sym (length-append front (x ∷ [])))
    (subst (λ all. AllByRecursion (λ z. is_among (take z.0 all) z.1 ≡ false) (enumerate_from (length front + 1) rest)) (sym (append_assoc front (x ∷ []) rest)) h.1)) in
    let here : is_among front x ≡ false = ap (λ ns. is_among ns x) (sym (take-append_seam front (x ∷ rest))) ∙ h.0 in (
      (here, all_weaker (λ y. is_among longer y ≡ false) (λ y. is_among front y ≡ false) (λ y k. (parts y k).0) rest later.0),
      (all_weaker (λ y. is_among longer y ≡ false) (λ y. bytes_eq x y ≡ false) (λ y k. same_either_way x y ∙ (parts y k).1) rest later.0, later.1),
    )

-- ---- the files

file_small : (folder : Folder) → IsFolder folder → (name : List ℕ) → length (bytes_of folder name) < 2 ^ 64
file_small folder whole name =
    subst (λ o. length (unwrap_or o []) < 2 ^ 64) (sym (get-entries folder name))
    (found_at_key (λ bytes. length bytes < 2 ^ 64) (slice_cmp nat_cmp) name [] (files folder) (all_weaker (λ file. (is_name file.0 ≡ true) × (length file.1 < 2 ^ 64)) (λ file. length file.1 < 2 ^ 64) (λ file h. h.1) (files folder) whole) (omega arith))

-- there are at most as many files as slices
count_small : (s : ℕ) (fs : List File) → 0 < s → AllByRecursion (λ file. (length file.1 == 0) ≡ false) fs → length fs ≤ sum_by (λ file. slice_count s (length file.1)) fs
count_small s [] positive h = omega arith
count_small s (file ∷ fs) positive h = grind (arith, common_steps, sum_by-cons, div_ceil_times, eqb-false, zero-mul, count_small s fs positive h.1)

pub inputs_taken : (folder : Folder) (a : CreateArgs) → refusal folder (Create a) ≡ None → FitsCreate folder a → AreInputs a.slice (files_of folder a.inputs)
inputs_taken folder a accepted fits =
    let p = passes folder a accepted in
    let fs = files_of folder a.inputs in
    let most : sum_by (λ file. slice_count a.slice (length file.1)) fs ≤ 32768 = ltb-false 32768 (sum_by (λ file. slice_count a.slice (length file.1)) fs) p.slices in
    let few = count_small a.slice fs (size_positive a.slice p.size) p.full in
    let ids : length (distinct (map id_of fs)) ≡ length fs = eqb-true (length (distinct (map id_of fs))) (length fs) (not-false _ p.ids) in
    record {
      slice_size = p.size;
      few = omega (arith, most, few);
      sizes = (all-each _ (λ name. (name, bytes_of folder name)) (file_small folder fits.whole) a.inputs);
      bytes = fits.bytes;
      names = (all-map _ _ (λ name. (name, bytes_of folder name)) (λ name k. (and_parts (is_name name) (not (is_par_name name)) (not-false (is_input_name name) k)).0) a.inputs p.names);
      names_once = subst (IsDistinct bytes_eq) (sym (names_of_files folder a.inputs)) (each_new [] a.inputs p.once).1;
      ids_once = std_from_distinct (map id_of fs) (distinct_by_length (map id_of fs) (ids ∙ sym (length-map fs id_of)));
      slices = most;
    }

-- ---- the file of a name

-- the bytes of files
abbrev pub bytes_in : List File → List (List ℕ)
bytes_in files = map (λ file. file.1) files

-- after files are put into a folder, a name has the bytes of one of them, or is none of theirs and has its former bytes
laid_cases : (files : List File) (folder : Folder) (q bytes : List ℕ) → map_of.get (laid_over files folder) q ≡ Some bytes
    → Contains (bytes_in files) bytes ⊎ ((is_among (map (λ file. file.0) files) q ≡ false) × (map_of.get folder q ≡ Some bytes))
unfolding laid_over
laid_cases [] folder q bytes h = inr (refl, h)
laid_cases (file ∷ files) folder q bytes h = grind (arith, by_either, bytes, contained_later, get_put, same_Some, contained_first, or_from, laid_cases files (map_of.insert folder file.0 file.1) q bytes h)

-- ---- the names of the files that a create writes

par_volumes : (base : List ℕ) (first n : ℕ → ℕ) (buffers : ℕ → List ℕ) (is : List ℕ)
    → AllByRecursion (λ name. is_par_name name ≡ true) (map (λ file. file.0) (map (λ i. let v : File = (volume_name base (first i) (n i), buffers i) in v) is))
par_volumes base first n buffers [] = tt
par_volumes base first n buffers (i ∷ is) = grind (arith, common_steps, length-append, drop-append_seam, par_volumes base first n buffers is)

par_outputs : (before : Folder) (a : CreateArgs) → is_par_name a.base ≡ true → AllByRecursion (λ name. is_par_name name ≡ true) (written_names before a)
par_outputs before a h = unfold volumes in (h, par_volumes a.base (λ i. a.first + volumes_before i) (volume_size a.count) _ (volume_numbers a.count))

-- ---- the PAR2 files of a damaged folder

module _ (before damaged : Folder) (a : CreateArgs) (base : List ℕ) (accepted : refusal before (Create a) ≡ None) (fits : FitsCreate before a) (damage : IsDamage before damaged a base) where
  abbrev inputs : List File
  inputs = files_of before a.inputs

  written : (bytes : List ℕ) → Contains (bytes_in (outputs_of before a)) bytes → IsVolume a.slice inputs bytes
  written bytes i = (a.base, a.first, a.count, (passes before a accepted).counts, i)

  -- a PAR2 file that exists
  is_there : (name : List ℕ) → is_par_name name ≡ true → has damaged name ≡ true → map_of.get (laid_over (outputs_of before a) before) name ≡ Some (bytes_of damaged name)
  is_there name par there = unfold after in sym (damage.pars name par there) ∙ some_if [] (map_of.get damaged name) there

  none_there : (name : List ℕ) → has damaged name ≡ false → IsOfOthers (set_id_of a.slice inputs) (bytes_of damaged name)
  none_there name h = unfold accepted_after in grind arith

  each_par : (name : List ℕ) → is_par_name name ≡ true → IsVolumeOrOther a.slice inputs (bytes_of damaged name)
  each_par name par = grind (arith, by_either, laid_cases, is_there, written, none_there)

  base_written : Contains (bytes_in (outputs_of before a)) (bytes_of damaged base)
  base_written =
      let par = at_name (λ name. is_par_name name ≡ true) (written_names before a) base (par_outputs before a (and_parts (is_name a.base) (is_par_name a.base) (passes before a accepted).base).1) damage.written in
      grind (arith, laid_cases (outputs_of before a) before base (bytes_of damaged base) (is_there base par damage.there), damage.written)

  pub set_of_files : MadeFrom damaged base (in_id_order inputs) a.slice
  set_of_files = set_made damaged base a.slice inputs (inputs_taken before a accepted fits) (grind (arith, written, base_written, all_weaker, each_par, and_parts, recursion_from_All, filter_passes))

-- ---- searched files

all_distinct : (P : List ℕ → Type 0) (xs : List (List ℕ)) → AllByRecursion P xs → AllByRecursion P (distinct xs)
all_distinct P [] h = tt
all_distinct P (x ∷ xs) h = (h.0, all-filter P (λ other. not (bytes_eq x other)) (distinct xs) (all_distinct P xs h.1))

target_names_are : (s : ℕ) (files : List File) → map (λ t. t.name) (map (target_of_file s) files) ≡ map (λ file. file.0) files
target_names_are s files = unfold record_of in map-map (λ t. t.name) (target_of_file s) files

-- a property of each slice of the files
to_files : (P : List ℕ → Type 0) (s : ℕ) (files : List File) → AllByRecursion P (all_slices s files) → AllByRecursion (λ file. AllByRecursion P (slices s file.1)) files
to_files P s [] h = tt
to_files P s (file ∷ files) h = let r = all-parts P (slices s file.1) (all_slices s files) h in (r.0, to_files P s files r.1)

-- ---- the files as they were

module _ (before damaged : Folder) (a : CreateArgs) (base : List ℕ) (extras : List (List ℕ)) (follows : FollowsCreate before damaged a base extras) where
  abbrev s : ℕ
  s = a.slice

  abbrev given : List File
  given = files_of before a.inputs

  abbrev ordered : List File
  ordered = in_id_order given

  m : MadeFrom damaged base ordered s
  m = set_of_files before damaged a base follows.created follows.fits follows.damage

  abbrev searched : List (List ℕ)
  searched = candidates damaged m.set extras

  among_searched : (P : List ℕ → Type 0) → AllByRecursion P (a.inputs ++ extras) → AllByRecursion P searched
  among_searched P h =
      let r = all-parts P a.inputs extras h in
      let mine : AllByRecursion P (target_names m.set) =
      subst (AllByRecursion P) (sym (ap (map (λ t. t.name)) m.targets ∙ target_names_are s ordered))
      (moved-all P (map (λ file. file.0) given) (map (λ file. file.0) ordered) (IsPermutation-map (λ file. file.0) given ordered (moved-ordered given)) (subst (AllByRecursion P) (sym (names_of_files before a.inputs)) r.0)) in
      all_distinct P (filter (has damaged) (target_names m.set) ++ extras)
      (all-append P (filter (has damaged) (target_names m.set)) extras (all-filter P (has damaged) (target_names m.set) mine) r.1)

  -- a window that matches the slice is the slice
  abbrev IsRunResult : List ℕ → List ℕ → Type 0
  IsRunResult slice name = AllByRecursion (λ w. Matches (pair_of slice) w → w ≡ slice) (windows s (bytes_of damaged name))

  reported : NoCollision damaged searched s (all_slices s ordered)
  reported =
      all-flat_map (λ file. AllByRecursion (λ slice. AllByRecursion (IsRunResult slice) searched) (slices s file.1)) (λ slice. AllByRecursion (IsRunResult slice) searched) (λ file. slices s file.1) (λ file k. k) ordered
      (moved-all (λ file. AllByRecursion (λ slice. AllByRecursion (IsRunResult slice) searched) (slices s file.1)) given ordered (moved-ordered given)
      (to_files (λ slice. AllByRecursion (IsRunResult slice) searched) s given
      (all_weaker (λ slice. AllByRecursion (IsRunResult slice) (a.inputs ++ extras)) (λ slice. AllByRecursion (IsRunResult slice) searched) (λ slice h. among_searched (IsRunResult slice) h) (all_slices s given) follows.reported)))

  -- no checksum of the files collides
  pub originals : IsTrueTo damaged base extras ordered s
  originals = record { made = m; bytes = moved-all (λ file. AreBytes file.1) given ordered (moved-ordered given) follows.fits.bytes; no_collision = reported }

  as_before : (folder : Folder) (words : List (List ℕ)) → AllByRecursion (λ word. not (has before word) ≡ false) words → AllByRecursion (λ file. map_of.get folder file.0 ≡ Some file.1) (files_of before words)
      → AllByRecursion (λ name. map_of.get folder name ≡ map_of.get before name) words
  as_before folder [] there h = tt
  as_before folder (name ∷ words) there h = (h.0 ∙ sym (some_if [] (map_of.get before name) (not-false (has before name) there.0)), as_before folder words there.1 h.1)

  abbrev repair : Bool → Command
  repair purge = Repair base extras purge

  -- an accepted repair leaves the inputs as they were
  pub gives_back : (purge : Bool) → refusal damaged (repair purge) ≡ None → AllByRecursion (λ name. map_of.get (after damaged (repair purge)) name ≡ map_of.get before name) a.inputs
  gives_back purge accepted =
      as_before (after damaged (repair purge)) a.inputs (passes before a follows.created).there
      (moved-all (λ file. map_of.get (after damaged (repair purge)) file.0 ≡ Some file.1) ordered given (IsPermutation-sym given ordered (moved-ordered given))
      (leaves_files damaged base extras ordered s originals purge accepted))

  -- a repair is refused for few causes
  pub few_causes : (purge : Bool) (fault : Fault) → refusal damaged (repair purge) ≡ Some fault → may_refuse fault ≡ true
  few_causes purge fault refused =
      grind (arith, reading damaged base extras purge m.set m.reads, refused_by damaged m.set searched fault, never_fails damaged base extras ordered s originals purge, refused)

  pub leaves_choice : (purge : Bool) (missing rank : ℕ) → refusal damaged (repair purge) ≡ Some (NotRepairable missing rank) → HaveAChoice before damaged a base extras
  leaves_choice purge missing rank refused = record { set = originals.made.set; reads = originals.made.reads; others = has_choice damaged base extras ordered s originals purge missing rank refused }
