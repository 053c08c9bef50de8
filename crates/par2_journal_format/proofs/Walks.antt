-- Where entries and changes lead, what room they need, and a folder that they lead back to.
use Rattle.par2_journal_format.proofs.Common.{Bool, Err, List, None, Ok, [], ap, arith, drop, false, get_or, inl, length, map, not, refl, sym, take, true, ℕ, ◌&&◌, ◌+◌, ◌-◌, ◌<◌, ◌∙◌, ◌∷◌, ◌≡◌, ◌≤◌, and_parts, both_ways, false_from_ne_true, drop_more, get_or-map, length-drop, length-map, take_all, pointwise, if◌then◌else◌, reverse, sum_by, bytes_eq, prints_along, WentForth, OpensAsIs, session_at, changes_in, changes_back, state_all_back, state_files, way_back_taken, Change, FolderState, Remove, Rename, Write, is_applicable, places_taken, state_after_all, Folder, fingerprint, Journal, Spells, is_valid, Replace, are_applicable, effect, effects, folders_after, takes_all, way_back, leads_through, JournalInvalid, FolderChanged, through_applies, sum_by-take-drop, sum_by-cons, sum_by-IsPermutation, IsPermutation-reverse}
use Rattle.par2_spec.specs.Opening as defined
use Rattle.par2_files.specs.declared.change.Change as owned

-- the item at i, and the items after it
pub left_at : {W X : Type 0} (v : W → X) (xs : List W) (i : ℕ) → i < length xs → (w : W) → w ≡ get_or xs i w → drop i (map v xs) ≡ v w ∷ drop (i + 1) (map v xs)
left_at v xs i lt w is = drop_more (map v xs) i (v w) (omega (arith, lt, length-map xs v)) ∙ ap (λ x. x ∷ drop (i + 1) (map v xs)) (get_or-map v xs i w (v w) lt ∙ ap v (sym is))

-- ---- the room that entries need

-- each write takes one place
pub places_within : (changes : List Change) → places_taken changes ≤ length changes
places_within [] = omega arith
places_within (Write name bytes ∷ changes) = omega (arith, places_within changes)
places_within (Replace name bytes ∷ changes) = omega (arith, places_within changes)
places_within (Rename from to ∷ changes) = omega (arith, places_within changes)
places_within (Remove name ∷ changes) = omega (arith, places_within changes)

-- the places of one side are among those of all
pub places_before : (es : List (List Change)) (n : ℕ) → sum_by places_taken (reverse (take n es)) ≤ sum_by places_taken es
places_before es n =
    let same : sum_by places_taken (reverse (take n es)) ≡ sum_by places_taken (take n es) = sum_by-IsPermutation places_taken (take n es) (reverse (take n es)) (IsPermutation-reverse (take n es)) in
    omega (arith, same, sum_by-take-drop places_taken es n)

pub places_behind : (es : List (List Change)) (n : ℕ) → sum_by places_taken (drop n es) ≤ sum_by places_taken es
places_behind es n = omega (arith, sum_by-take-drop places_taken es n)

-- a change takes one place at most
pub places_counted : (es : List (List Change)) → sum_by places_taken es ≤ sum_by length es
places_counted [] = omega arith
places_counted (e ∷ es) =
    omega (arith, sum_by-cons places_taken e es, sum_by-cons length e es, places_within e, places_counted es)

-- ---- fingerprints along changes

-- the fingerprints after the first one
pub each_after : (prints : List (List ℕ)) (f : Folder) (cs : List Change) → prints ≡ prints_along f cs → take (length prints - 1) (drop 1 prints) ≡ map fingerprint (folders_after f cs)
each_after prints f cs is = take_all (length prints - 1) (drop 1 prints) (omega (arith, length-drop 1 prints)) ∙ ap (drop 1) is

-- changes that apply lead through these fingerprints if those of the folders that they leave are equal to them
through_is : (f : Folder) (cs : List Change) (ps : List (List ℕ)) → length ps ≡ length cs → are_applicable f cs ≡ true → leads_through f cs ps ≡ pointwise bytes_eq (map fingerprint (folders_after f cs)) ps
unfolding leads_through are_applicable folders_after
through_is f [] [] same h = refl
through_is f [] (p ∷ ps) same h = absurd (omega (arith, same))
through_is f (c ∷ cs) [] same h = absurd (omega (arith, same))
through_is f (c ∷ cs) (p ∷ ps) same h =
    let both = and_parts (is_applicable f c) (are_applicable (effect f c) cs) h in
    let fewer : length ps ≡ length cs = omega (arith, same) in
    ap (λ b. b && bytes_eq (fingerprint (effect f c)) p && leads_through (effect f c) cs ps) both.0
    ∙ ap (λ b. bytes_eq (fingerprint (effect f c)) p && b) (through_is (effect f c) cs ps fewer both.1)

pub goes_not : (f : Folder) (cs : List Change) (ps : List (List ℕ)) → are_applicable f cs ≡ false → false ≡ leads_through f cs ps
goes_not f cs ps h = sym (false_from_ne_true (leads_through f cs ps) (λ through. both_ways (are_applicable f cs) h (through_applies f cs ps through)))

pub goes : (f : Folder) (cs : List Change) (ps prints : List (List ℕ)) → length ps ≡ length cs → are_applicable f cs ≡ true → prints ≡ map fingerprint (folders_after f cs) → pointwise bytes_eq prints ps ≡ leads_through f cs ps
goes f cs ps prints same h is = ap (λ l. pointwise bytes_eq l ps) is ∙ sym (through_is f cs ps same h)

-- ---- the way back of changes

pub back_taken : (f g : FolderState) (cs ds : List Change) → takes_all f cs ≡ true → g ≡ state_after_all f cs → ds ≡ way_back f.files cs → takes_all g ds ≡ true
back_taken f g cs ds taken moved is = ap (takes_all g) is ∙ ap (λ s. takes_all s (way_back f.files cs)) moved ∙ way_back_taken f cs taken

pub back_leads : (f g : FolderState) (cs ds : List Change) → takes_all f cs ≡ true → g ≡ state_after_all f cs → ds ≡ way_back f.files cs → state_after_all g ds ≡ f
back_leads f g cs ds taken moved is = ap (state_after_all g) is ∙ ap (λ s. state_after_all s (way_back f.files cs)) moved ∙ state_all_back f cs taken

pub back_again : (f g : FolderState) (cs ds : List Change) → takes_all f cs ≡ true → g ≡ state_after_all f cs → ds ≡ way_back f.files cs → way_back g.files ds ≡ cs
back_again f g cs ds taken moved is = ap (way_back g.files) is ∙ ap (λ (s : FolderState). way_back s.files (way_back f.files cs)) moved ∙ changes_back f cs taken

-- ---- changes that led to a folder, and can lead back

pub went_forth : (f : Folder) (start after : FolderState) (way back : List owned.Change) → start.files ≡ f
    → takes_all start (changes_in way) ≡ true → after ≡ state_after_all start (changes_in way) → changes_in back ≡ way_back start.files (changes_in way) → WentForth f after way back
went_forth f start after way back same taken moved is = record {
  files = ap (λ (s : FolderState). s.files) moved ∙ state_files start (changes_in way) ∙ ap (λ g. effects g (changes_in way)) same;
  taken = back_taken start after (changes_in way) (changes_in back) taken moved is;
  leads = ap (λ (s : FolderState). s.files) (back_leads start after (changes_in way) (changes_in back) taken moved is) ∙ same;
}

-- ---- a folder as it is

-- what a settled journal opens as: whether the folder has its fingerprint, and whether its entries lead
pub settled_is : (f : Folder) (j : Journal) (same valid : Bool) → bytes_eq (fingerprint f) j.fingerprint ≡ same → is_valid (session_at f j.cursor j.entries) ≡ valid
    → defined.opened_by_part f j None ≡ (if not same then Err (FolderChanged false) else if valid then Ok (defined.Settled (session_at f j.cursor j.entries)) else Err JournalInvalid)
settled_is f j same valid is leads =
    let s = session_at f j.cursor j.entries in
    λ i. if not (is i) then Err (FolderChanged false) else if leads i then Ok (defined.Settled s) else Err JournalInvalid

-- a settled journal whose entries lead opens on the folder, whatever its fingerprint
pub settled_as_is : (f : Folder) (bytes : List ℕ) (j : Journal) → Spells bytes j → j.halfway ≡ None → is_valid (session_at f j.cursor j.entries) ≡ true → OpensAsIs f bytes
unfolding defined.OpensAs defined.Opens defined.opened
settled_as_is f bytes j spells settled valid = by_test (bytes_eq (fingerprint f) j.fingerprint) refl
  where
    opens : (same : Bool) → bytes_eq (fingerprint f) j.fingerprint ≡ same → defined.Opens f bytes (if not same then Err (FolderChanged false) else Ok (defined.Settled (session_at f j.cursor j.entries)))
    opens same is = inl (j, spells, sym (ap (defined.opened_by_part f j) settled ∙ settled_is f j same true is valid))

    by_test : (b : Bool) → bytes_eq (fingerprint f) j.fingerprint ≡ b → OpensAsIs f bytes
    by_test false is = (record { session = defined.new_session f; dropped = true }, (Err (FolderChanged false), opens false is, refl), refl)
    by_test true is =
        let s = session_at f j.cursor j.entries in
        (record { session = s; dropped = false }, (Ok (defined.Settled s), opens true is, refl), refl)
