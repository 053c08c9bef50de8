-- The outputs of a create have distinct names, so its changes apply and lead to its folder.
use Rattle.par2_spec.proofs.Common.{◌≡◌, ℕ, zero, suc, ◌+◌, ◌%◌, ◌<◌, ◌≤◌, List, [], ◌∷◌, ◌++◌, length, map, refl, sym, ap, ◌∙◌, subst, true, false, Bool, ◌||◌, arith, length-append, drop, append_assoc, codes, nat_lt, if◌then◌else◌, range_with_len, one-le-pow, pow-le-pow_right, drop-append_seam, length-take, map-map, and_from, or_from, or_left, or_right, is_among, Folder, File, has, Write, Replace, is_applicable, are_applicable, volume_name, volumes_before, volume_numbers, volume_size, five_digits, stem, volumes, CreateArgs, outputs_of, create_changes, not, Option, Some, None, Result, Ok, Err, position, list_all, and_parts, not-false, position_from-zero, Fault, NoSuchFile, Change, effects, ParSet, set_of, candidates, after_repair, after_repair_and_purge, after_purge, par_files, Command, Create, Verify, Repair, Purge, by_set, set_in, after, repair_changes, repair_removals, purge_changes, AreFewFor, LeadsToAfter, changes_of, pow-lt}
use Rattle.par2_spec.proofs.Basics.{AreDistinct, itself, other_name, not_first, distinct_some, put_in, create_leads, removals_lead, fits_of, no_place, test_from_all, all_weaker, ok_no_err}
use Rattle.par2_spec.proofs.MovesLaws.{has_put}
use Rattle.par2_spec.proofs.SearchLaws.{FitsRepair}
use Rattle.par2_spec.proofs.RepairLaws.{fits_all, asides_free, repair_applies, repair_leads, repair_and_purge_applies, repair_and_purge_leads, purge_applies}
use Rattle.std.specs.FinMap as map_of

-- ---- the names of the volumes

-- equal bytes with the same prefix have the same rest
same_rest : (front a b : List ℕ) → front ++ a ≡ front ++ b → a ≡ b
same_rest front a b e = sym (drop-append_seam front a) ∙ ap (drop (length front)) e ∙ drop-append_seam front b

-- the prefix of each volume name, and the rest
abbrev front_of : List ℕ → List ℕ
front_of base = stem base ++ codes ".vol"

abbrev rest_of : ℕ → ℕ → List ℕ
rest_of x n = five_digits x ++ (codes "+" ++ (five_digits n ++ codes ".par2"))

volume_name_is : (base : List ℕ) (x n : ℕ) → volume_name base x n ≡ front_of base ++ rest_of x n
volume_name_is base x n = grind (arith, append_assoc)

-- the first exponents increase, by less than 2 ^ 16
firsts_apart : (f i j : ℕ) → i < j → j < 17 → (f + volumes_before i) % 100000 ≡ (f + volumes_before j) % 100000 → ⊥
firsts_apart f i j less high e = grind (arith, pow-lt, pow-le-pow_right, one-le-pow)

-- ---- the names of the outputs

abbrev volume_at : List ℕ → ℕ → ℕ → ℕ → List ℕ
volume_at base f c i = volume_name base (f + volumes_before i) (volume_size c i)

no_later_volume : (base : List ℕ) (f c i a n : ℕ) → i < a → a + n ≤ 17 → is_among (map (volume_at base f c) (range_with_len a n)) (volume_at base f c i) ≡ false
no_later_volume base f c i a zero low high = refl
no_later_volume base f c i a (suc n) low high =
    or_from _ _ (other_name (volume_at base f c i) (volume_at base f c a) (λ e.
    firsts_apart f i a low (omega (arith, high)) (grind (arith, same_rest, volume_name_is))))
    (no_later_volume base f c i (a + 1) n (omega (arith, low)) (omega (arith, high)))

volumes_once : (base : List ℕ) (f c a n : ℕ) → a + n ≤ 17 → AreDistinct (map (volume_at base f c) (range_with_len a n))
volumes_once base f c a zero h = tt
volumes_once base f c a (suc n) h = (no_later_volume base f c a (a + 1) n (omega arith) (omega (arith, h)), volumes_once base f c (a + 1) n (omega (arith, h)))

-- the base is shorter than the names of the volumes
base_no_volume : (base : List ℕ) (f c : ℕ) (is : List ℕ) → is_among (map (volume_at base f c) is) base ≡ false
base_no_volume base f c [] = refl
base_no_volume base f c (i ∷ is) = grind (arith, or_from, other_name, length-take, volume_name_is, length-append, base_no_volume base f c is)

pub names_of_outputs : (base : List ℕ) (s f c : ℕ) (files : List File) → map (λ file. file.0) (volumes base s f c files) ≡ base ∷ map (volume_at base f c) (volume_numbers c)
names_of_outputs base s f c files = unfold volumes in ap (λ names. base ∷ names) (map-map (λ (file : File). file.0) _ (volume_numbers c))

pub outputs_once : (base : List ℕ) (s f c : ℕ) (files : List File) → AreDistinct (map (λ file. file.0) (volumes base s f c files))
outputs_once base s f c files =
    subst AreDistinct (sym (names_of_outputs base s f c files))
    (base_no_volume base f c (volume_numbers c), distinct_some (volume_at base f c) (λ i. nat_lt (volumes_before i) c) (range_with_len 0 17) (volumes_once base f c 0 17 (omega arith)))

-- ---- the changes

takes_put : (b : Bool) (folder : Folder) (name bytes : List ℕ) → has folder name ≡ b → is_applicable folder (if b then Replace name bytes else Write name bytes) ≡ true
takes_put b folder name bytes h = unfold is_applicable in grind arith

puts_apply : (test : List ℕ → Bool) (folder : Folder) (files : List File) → AreDistinct (map (λ file. file.0) files)
    → ((q : List ℕ) → is_among (map (λ file. file.0) files) q ≡ true → has folder q ≡ test q)
    → are_applicable folder (map (λ file. if test file.0 then Replace file.0 file.1 else Write file.0 file.1) files) ≡ true
unfolding are_applicable
puts_apply test folder [] d h = refl
puts_apply test folder (file ∷ files) d h =
    and_from _ _ (takes_put (test file.0) folder file.0 file.1 (h file.0 (or_left _ _ (itself file.0))))
    (ap (λ f. are_applicable f (map (λ other. if test other.0 then Replace other.0 other.1 else Write other.0 other.1) files)) (put_in (test file.0) folder file.0 file.1)
    ∙ puts_apply test (map_of.insert folder file.0 file.1) files d.1 (λ q i.
    has_put folder file.0 file.1 q ∙ ap (λ b. b || has folder q) (not_first file.0 (map (λ other. other.0) files) d.0 q i) ∙ h q (or_right _ _ i)))

pub create_applies : (folder : Folder) (a : CreateArgs) → are_applicable folder (create_changes folder a) ≡ true
create_applies folder a =
    puts_apply (has folder) folder (outputs_of folder a) (outputs_once a.base a.slice a.first a.count _) (λ q i. refl)

-- The changes of a command lead to its folder.

abbrev pub missing : Folder → List (List ℕ) → Option ℕ
missing folder names = position (λ word. not (has folder word)) names

pub all_there : (folder : Folder) (names : List (List ℕ)) → missing folder names ≡ None → list_all (has folder) names ≡ true
all_there folder names h = grind (arith, test_from_all, all_weaker, not-false, no_place, position_from-zero)

pub in_full : (folder : Folder) (base : List ℕ) (extras : List (List ℕ)) → missing folder (base ∷ extras) ≡ None → set_in folder base extras ≡ set_of folder base
in_full folder base extras e = unfold set_in in rw e refl

pub in_part : (folder : Folder) (base : List ℕ) (extras : List (List ℕ)) (k : ℕ) → missing folder (base ∷ extras) ≡ Some k → set_in folder base extras ≡ Err (NoSuchFile (0 + k))
in_part folder base extras k e = unfold set_in in rw e refl

-- a set that is read is that of its base, and all named files are in the folder
pub set_in_reads : (folder : Folder) (base : List ℕ) (extras : List (List ℕ)) (set : ParSet) → set_in folder base extras ≡ Ok set → (set_of folder base ≡ Ok set) × (list_all (has folder) (base ∷ extras) ≡ true)
set_in_reads folder base extras set h = grind (arith, in_full, all_there, ok_no_err, in_part)

-- ---- changes that lead to a folder

abbrev Leads : Folder → List Change → Folder → Type 0
Leads folder changes goal = (are_applicable folder changes ≡ true) × (effects folder changes ≡ goal)

nothing_leads : (folder : Folder) → Leads folder [] folder
nothing_leads folder = unfold effects are_applicable in (refl, refl)

repair_of_set : (folder : Folder) (set : ParSet) (searched : List (List ℕ)) (purge : Bool) → FitsRepair folder set searched
    → Leads folder (if purge then repair_changes folder set searched ++ repair_removals folder set searched else repair_changes folder set searched)
    (if purge then after_repair_and_purge folder set searched else after_repair folder set searched)
repair_of_set folder set searched true fits = let all = fits_all folder set searched fits in let free = asides_free folder set fits.few in (repair_and_purge_applies folder set searched all free, repair_and_purge_leads folder set searched all free)
repair_of_set folder set searched false fits = let all = fits_all folder set searched fits in let free = asides_free folder set fits.few in (repair_applies folder set searched all free, repair_leads folder set searched all free)

repair_of : (folder : Folder) (base : List ℕ) (extras : List (List ℕ)) (purge : Bool) → AreFewFor folder (Repair base extras purge) → (r : Result ParSet Fault) → set_in folder base extras ≡ r
    → Leads folder
    (by_set [] (λ set. if purge then repair_changes folder set (candidates folder set extras) ++ repair_removals folder set (candidates folder set extras) else repair_changes folder set (candidates folder set extras)) r)
    (by_set folder (λ set. if purge then after_repair_and_purge folder set (candidates folder set extras) else after_repair folder set (candidates folder set extras)) r)
repair_of folder base extras purge few (Err fault) e = nothing_leads folder
repair_of folder base extras purge few (Ok set) e =
    let reads = set_in_reads folder base extras set e in
    grind (arith, (repair_of_set folder set (candidates folder set extras) purge (fits_of folder base set extras reads.0 (and_parts (has folder base) (list_all (has folder) extras) reads.1).1 (few set reads.0))))

purge_of : (folder : Folder) (r : Result ParSet Fault) → Leads folder (by_set [] (purge_changes folder) r) (by_set folder (after_purge folder) r)
purge_of folder (Err fault) = nothing_leads folder
purge_of folder (Ok set) = (purge_applies folder set, removals_lead folder (par_files folder set))

-- the changes of each command lead to its folder
pub command_leads : (folder : Folder) (command : Command) → AreFewFor folder command → LeadsToAfter folder command
unfolding changes_of after
command_leads folder (Create a) few = (create_applies folder a, create_leads folder a)
command_leads folder (Verify base extras) few = nothing_leads folder
command_leads folder (Repair base extras purge) few = repair_of folder base extras purge few (set_in folder base extras) refl
command_leads folder (Purge base) few = purge_of folder (set_in folder base [])
