-- A folder that a stopped command left opens as the session from before the command.
use Rattle.par2_spec.proofs.Common.{◌≡◌, ℕ, zero, suc, ◌+◌, ◌-◌, ◌<◌, ◌≤◌, List, [], ◌∷◌, ◌++◌, length, map, take, drop, get_or, refl, sym, ap, ◌∙◌, subst, true, false, Bool, ◌&&◌, inl, arith, length-append, length-drop, append-nil, IfSome, reverse, position, Option, Some, None, Result, Ok, Err, unwrap_or, is_some, if◌then◌else◌, position_from, bytes_eq, drop-append_seam, take-append_seam, reverse-reverse, reverse-append, length-reverse, get_or-reverse, get_or-map, take-append-drop, length-map, length-take-le, take-map, take-take, get_or-take, drop-drop, reverse_onto, common_steps, and_parts, and_from, false≢true, position_from-zero, Folder, fingerprint, Change, effect, inverse, is_applicable, effects, are_applicable, way_back, folders_after, Session, session_of, is_valid, Opened, Settled, Halfway, opened_if_found, opened_by_part, FingerprintsDiffer, session_of_opened, kept_in, settled_journal, halfway_journal, leads, leads_through, taken_back, opened, OpensAs, Opens, HalfwayBytesOpenAsBefore, HalfwayBytesStillOpen, IsTrue, Version, Journal, HalfwayPart, IsHalfwayPart, Spells, IsJournal, JournalFault, JournalInvalid}
use Rattle.par2_spec.proofs.Basics.{undo_changes, undo_change, undo_is_applicable, effects-append, way_back-append, itself, same_name, all_get, by_test}

-- ---- positions in a list

-- the first position of the item at n
place_from : (q : List ℕ) (i : ℕ) (all : List (List ℕ)) (n : ℕ) → n < length all → get_or all n q ≡ q → (k : ℕ) × (position_from (bytes_eq q) i all ≡ Some (i + k)) × (k ≤ n) × (get_or all k q ≡ q)
place_from q i (x ∷ all) (suc n) lt here = by_test (bytes_eq q x)
    (λ e. (0, rw e (ap Some (let z : i ≡ i + 0 = omega arith in z)), omega arith, sym (same_name q x e)))
    (λ e. let r = place_from q (i + 1) all n (omega (arith, lt)) here in (suc r.0, rw e (r.1 ∙ ap Some (let z : (i + 1) + r.0 ≡ i + suc r.0 = omega arith in z)), (let l : r.0 ≤ n = r.2 in omega (arith, l)), r.3))
place_from q i all n lt here = grind (arith, itself)

least_place : (q : List ℕ) (all : List (List ℕ)) (n : ℕ) → n < length all → get_or all n q ≡ q → (k : ℕ) × (position (bytes_eq q) all ≡ Some k) × (k ≤ n) × (get_or all k q ≡ q)
least_place q all n lt here = grind (arith, (place_from q 0 all n lt here), position_from-zero)

-- the item at the position that was found
at_place : (q : List ℕ) (i : ℕ) (all : List (List ℕ)) (k : ℕ) → position_from (bytes_eq q) i all ≡ Some k → (n : ℕ) × (k ≡ i + n) × (n < length all) × (get_or all n q ≡ q)
at_place q i [] k h = absurd (false≢true (ap is_some h))
at_place q i (x ∷ all) k h = by_test (bytes_eq q x)
    (λ e. let same : i ≡ k = ap (λ o. unwrap_or o i) (rw e at h) in (0, omega (arith, same), omega arith, sym (same_name q x e)))
    (λ e. let r = (at_place q (i + 1) all k) (rw e at h) in let z : k ≡ (i + 1) + r.0 = r.1 in let l : r.0 < length all = r.2 in (suc r.0, omega (arith, z), omega (arith, l), r.3))

-- ---- the folders that changes pass through

abbrev passed : Folder → List Change → List Folder
passed folder cs = folder ∷ folders_after folder cs

length-passed : (folder : Folder) (cs : List Change) → length (passed folder cs) ≡ length cs + 1
unfolding folders_after
length-passed folder [] = refl
length-passed folder (c ∷ cs) = let e : length (passed (effect folder c) cs) ≡ length cs + 1 = length-passed (effect folder c) cs in omega (arith, e)

passed_at : (folder : Folder) (cs : List Change) (j : ℕ) (d : Folder) → j ≤ length cs → get_or (passed folder cs) j d ≡ effects folder (take j cs)
unfolding folders_after effects
passed_at folder (c ∷ cs) (suc j) d le = passed_at (effect folder c) cs j d (omega (arith, le))
passed_at folder cs j d le = grind arith

-- if fingerprints differ, two folders with the same fingerprint are equal
one_folder : (folder : Folder) (cs : List Change) (a b : ℕ) → FingerprintsDiffer folder cs → a ≤ length cs → b ≤ length cs → fingerprint (effects folder (take a cs)) ≡ fingerprint (effects folder (take b cs)) → effects folder (take a cs) ≡ effects folder (take b cs)
one_folder folder cs a b apart le_a le_b e = grind (arith, (length-passed folder cs), (passed_at folder cs a folder le_a), (passed_at folder cs b folder le_b), all_get)

-- ---- the way back of some of the changes

length-way_back : (folder : Folder) (cs : List Change) → length (way_back folder cs) ≡ length cs
unfolding way_back
length-way_back folder [] = refl
length-way_back folder (c ∷ cs) = grind (arith, length-append, length-way_back (effect folder c) cs)

-- the last k of the way back are the way back of the first k changes
last_of_way_back : (folder : Folder) (cs : List Change) (k : ℕ) → k ≤ length cs → drop (length (way_back folder cs) - k) (way_back folder cs) ≡ way_back folder (take k cs)
last_of_way_back folder cs k le =
    let whole = ap (way_back folder) (sym (take-append-drop k cs)) ∙ way_back-append folder (take k cs) (drop k cs) in
    let rest = way_back (effects folder (take k cs)) (drop k cs) in
    let cut : length (way_back folder cs) - k ≡ length rest = omega (arith, length-way_back folder cs, (length-way_back (effects folder (take k cs)) (drop k cs) ∙ length-drop k cs), le) in
    ap (λ n. drop n (way_back folder cs)) cut ∙ ap (drop (length rest)) whole ∙ drop-append_seam rest (way_back folder (take k cs))

-- the folders before each change
befores : Folder → List Change → List Folder
befores folder [] = []
befores folder (c ∷ cs) = folder ∷ befores (effect folder c) cs

take-passed : (folder : Folder) (cs : List Change) (k : ℕ) → k ≤ length cs → take k (passed folder cs) ≡ befores folder (take k cs)
unfolding befores folders_after
take-passed folder (c ∷ cs) (suc k) le = ap (λ fs. folder ∷ fs) (take-passed (effect folder c) cs k (omega (arith, le)))
take-passed folder cs k le = grind arith

length-befores : (folder : Folder) (cs : List Change) → length (befores folder cs) ≡ length cs
unfolding befores
length-befores folder [] = refl
length-befores folder (c ∷ cs) = ap suc (length-befores (effect folder c) cs)

through-append : (folder : Folder) (cs ds : List Change) (ps qs : List (List ℕ)) → length ps ≡ length cs → leads_through folder cs ps ≡ true → leads_through (effects folder cs) ds qs ≡ true → leads_through folder (cs ++ ds) (ps ++ qs) ≡ true
unfolding leads_through effects
through-append folder [] ds [] qs e h k = k
through-append folder (c ∷ cs) ds (p ∷ ps) qs e h k =
    let r = and_parts (is_applicable folder c && bytes_eq (fingerprint (effect folder c)) p) (leads_through (effect folder c) cs ps) h in
    and_from _ _ r.0 (through-append (effect folder c) cs ds ps qs (omega (arith, e)) r.1 k)
through-append folder cs ds ps qs e h k = absurd (omega (arith, e))

-- the way back leads through the folders before each change, the last one first
way_back_through : (folder : Folder) (cs : List Change) → are_applicable folder cs ≡ true → leads_through (effects folder cs) (way_back folder cs) (reverse (map fingerprint (befores folder cs))) ≡ true
unfolding leads_through effects way_back befores are_applicable
way_back_through folder [] h = refl
way_back_through folder (c ∷ cs) h =
    let r = and_parts (is_applicable folder c) (are_applicable (effect folder c) cs) h in
    let next = effect folder c in
    let prints = map fingerprint (befores next cs) in
    ap (leads_through (effects next cs) (way_back next cs ++ inverse folder c ∷ [])) (reverse_onto prints (fingerprint folder) [])
    ∙ through-append (effects next cs) (way_back next cs) (inverse folder c ∷ []) (reverse prints) (fingerprint folder ∷ [])
    (length-reverse prints ∙ length-map (befores next cs) fingerprint ∙ length-befores next cs ∙ sym (length-way_back next cs))
    (way_back_through next cs r.1)
    (ap (λ f. leads_through f (inverse folder c ∷ []) (fingerprint folder ∷ [])) (undo_changes next cs r.1)
    ∙ and_from _ _ (and_from _ _ (undo_is_applicable folder c r.0) (ap (λ f. bytes_eq (fingerprint f) (fingerprint folder)) (undo_change folder c r.0) ∙ itself (fingerprint folder))) refl)

-- ---- the session of a journal

abbrev with_folder : Folder → Session → Session
with_folder folder s = record { folder = folder; undos = s.undos; redos = s.redos }

session_of_settled : (v : Version) (s : Session) (folder : Folder) → session_of folder (settled_journal v s) ≡ with_folder folder (kept_in v s)
session_of_settled v s folder = unfold settled_journal in grind (arith, common_steps, append-nil, length-reverse, take-append_seam, reverse-reverse, drop-append_seam)

kept_is_valid : (v : Version) (s : Session) → is_valid s ≡ true → is_valid (kept_in v s) ≡ true
kept_is_valid v s h = unfold leads in grind arith

kept_folder : (v : Version) (s : Session) → with_folder s.folder (kept_in v s) ≡ kept_in v s
kept_folder v s = grind arith

print_of : (v : Version) (s : Session) → (settled_journal v s).fingerprint ≡ fingerprint s.folder
print_of v s = unfold settled_journal in grind arith

-- the settled journal of a session opens as it
pub settled_opens : (v : Version) (s : Session) → is_valid s ≡ true → opened s.folder (settled_journal v s) ≡ Ok (Settled (kept_in v s))
settled_opens v s h = unfold opened settled_journal in grind (arith, common_steps, print_of, itself, session_of_settled, kept_folder, kept_is_valid)

-- ---- a halfway command

abbrev part : Folder → List Change → HalfwayPart
part folder cs = record { fingerprints = map fingerprint (folders_after folder cs); back = way_back folder cs }

abbrev decided : Bool → Session → List Change → Result Opened JournalFault
decided b s back = if b then Ok (Halfway s back) else Err JournalInvalid

applicable-take : (folder : Folder) (cs : List Change) (k : ℕ) → are_applicable folder cs ≡ true → are_applicable folder (take k cs) ≡ true
unfolding are_applicable
applicable-take folder cs zero h = refl
applicable-take folder [] (suc k) h = refl
applicable-take folder (c ∷ cs) (suc k) h =
    let r = and_parts (is_applicable folder c) (are_applicable (effect folder c) cs) h in and_from _ _ r.0 (applicable-take (effect folder c) cs k r.1)

-- the opening of the folder after the first k changes
taken_from : (v : Version) (s : Session) (cs : List Change) (k : ℕ) → is_valid s ≡ true → are_applicable s.folder cs ≡ true → k ≤ length cs
    → taken_back (effects s.folder (take k cs)) (halfway_journal v s cs) (part s.folder cs) k ≡ Ok (Halfway (kept_in v s) (way_back s.folder (take k cs)))
taken_from v s cs k valid applies le = unfold taken_back halfway_journal in
    let some = take k cs in
    let g = effects s.folder some in
    let back = way_back s.folder some in
    let ok = applicable-take s.folder cs k applies in
    let walked : leads_through g back (reverse (take k (fingerprint s.folder ∷ (map fingerprint (folders_after s.folder cs))))) ≡ true =
    ap (λ ps. leads_through g back (reverse ps)) (take-map fingerprint k (passed s.folder cs) ∙ ap (map fingerprint) (take-passed s.folder cs k le)) ∙ way_back_through s.folder some ok in
    grind (arith, (last_of_way_back s.folder cs k le), (print_of v s), walked, (undo_changes s.folder some ok), (session_of_settled v s s.folder), (kept_folder v s), (kept_is_valid v s valid))

-- the halfway journal of a command opens each folder that the command passes through as the session from before it
pub halfway_opens :
    (v : Version) (s : Session) (changes : List Change) (j : ℕ)
    → IsTrue (is_valid s) → IsTrue (are_applicable s.folder changes)
    → FingerprintsDiffer s.folder changes → j ≤ length changes → (back : List Change)
    × (opened (effects s.folder (take j changes)) (halfway_journal v s changes)
    ≡ Ok (Halfway (kept_in v s) back))
halfway_opens v s cs j valid applies apart le = unfold opened halfway_journal in
    let journal = halfway_journal v s cs in
    let g = effects s.folder (take j cs) in
    let prints = map fingerprint (passed s.folder cs) in
    let size : length prints ≡ length cs + 1 = length-map (passed s.folder cs) fingerprint ∙ length-passed s.folder cs in
    let here : get_or prints j (fingerprint g) ≡ fingerprint g = get_or-map fingerprint (passed s.folder cs) j g (fingerprint g) (let n : length (passed s.folder cs) ≡ length cs + 1 = length-passed s.folder cs in omega (arith, n, le)) ∙ ap fingerprint (passed_at s.folder cs j g le) in
    let place = least_place (fingerprint g) prints j (omega (arith, size, le)) here in
    let k = place.0 in
    let le_k : k ≤ length cs = (let low : place.0 ≤ j = place.2 in omega (arith, low, le)) in
    let there : fingerprint (effects s.folder (take k cs)) ≡ fingerprint g =
    sym (get_or-map fingerprint (passed s.folder cs) k g (fingerprint g) (let n : length (passed s.folder cs) ≡ length cs + 1 = length-passed s.folder cs in omega (arith, n, le_k)) ∙ ap fingerprint (passed_at s.folder cs k g le_k)) ∙ place.3 in
    let same : effects s.folder (take k cs) ≡ g = one_folder s.folder cs k j apart le_k le there in (
      way_back s.folder (take k cs),
      ap (λ p. opened_if_found g journal (part s.folder cs) (position (bytes_eq (fingerprint g)) (p ∷ map fingerprint (folders_after s.folder cs)))) (print_of v s)
          ∙ ap (opened_if_found g journal (part s.folder cs)) place.1
          ∙ ap (λ f. taken_back f journal (part s.folder cs) k) (sym same)
          ∙ taken_from v s cs k valid applies le_k,
    )

-- ---- opened journals

-- the changes to take back, if there are any
back_of : Result Opened JournalFault → Option (List Change)
back_of (Ok (Halfway s back)) = Some back
back_of s = None

session_or : Session → Result Opened JournalFault → Session
session_or other (Ok (Settled s)) = s
session_or other (Ok (Halfway s back)) = s
session_or other (Err fault) = other

-- the conditions of an opening that takes changes back
record TakesBack (folder : Folder) (journal : Journal) (s : Session) (back : List Change) : Type 0 where
  halfway : HalfwayPart
  halfway_there : journal.halfway ≡ Some halfway
  place : ℕ
  found : position (bytes_eq (fingerprint folder)) (journal.fingerprint ∷ halfway.fingerprints) ≡ Some place
  last : back ≡ drop (length halfway.back - place) halfway.back
  through : leads_through folder back (reverse (take place (journal.fingerprint ∷ halfway.fingerprints))) ≡ true
  session : s ≡ session_of (effects folder back) journal
  valid : is_valid s ≡ true

takes_back : (folder : Folder) (journal : Journal) (s : Session) (back : List Change) → opened folder journal ≡ Ok (Halfway s back) → TakesBack folder journal s back
takes_back folder journal s back e = unfold back_of opened session_or taken_back in grind (arith, back_of, session_or, by_test, and_parts, false≢true)

-- ---- a stop while a command is taken back

through_drop : (folder : Folder) (cs : List Change) (ps : List (List ℕ)) (a : ℕ) → leads_through folder cs ps ≡ true → leads_through (effects folder (take a cs)) (drop a cs) (drop a ps) ≡ true
unfolding leads_through effects
through_drop folder cs ps zero h = h
through_drop folder [] ps (suc a) h = refl
through_drop folder (c ∷ cs) [] (suc a) h = absurd (false≢true h)
through_drop folder (c ∷ cs) (p ∷ ps) (suc a) h = through_drop (effect folder c) cs ps a (and_parts (is_applicable folder c && bytes_eq (fingerprint (effect folder c)) p) (leads_through (effect folder c) cs ps) h).1

-- the fingerprints that changes lead through
through_at : (folder : Folder) (cs : List Change) (ps : List (List ℕ)) (m : ℕ) (d : List ℕ) → leads_through folder cs ps ≡ true → m < length cs → get_or ps m d ≡ fingerprint (effects folder (take (suc m) cs))
unfolding leads_through effects
through_at folder [] ps m d h lt = absurd (omega (arith, lt))
through_at folder (c ∷ cs) [] m d h lt = absurd (false≢true h)
through_at folder (c ∷ cs) (p ∷ ps) zero d h lt =
    sym (same_name (fingerprint (effect folder c)) p (and_parts (is_applicable folder c) (bytes_eq (fingerprint (effect folder c)) p) (and_parts (is_applicable folder c && bytes_eq (fingerprint (effect folder c)) p) (leads_through (effect folder c) cs ps) h).0).1)
through_at folder (c ∷ cs) (p ∷ ps) (suc m) d h lt = grind (arith, and_parts, through_at (effect folder c) cs ps m d (and_parts (is_applicable folder c && bytes_eq (fingerprint (effect folder c)) p) (leads_through (effect folder c) cs ps) h).1 (omega (arith, lt)))

pub through_applies : (folder : Folder) (cs : List Change) (ps : List (List ℕ)) → leads_through folder cs ps ≡ true → are_applicable folder cs ≡ true
unfolding leads_through are_applicable
through_applies folder (c ∷ cs) (p ∷ ps) h =
    let r = and_parts (is_applicable folder c && bytes_eq (fingerprint (effect folder c)) p) (leads_through (effect folder c) cs ps) h in
    and_from _ _ (and_parts (is_applicable folder c) (bytes_eq (fingerprint (effect folder c)) p) r.0).0 (through_applies (effect folder c) cs ps r.1)
through_applies folder cs ps h = grind arith

drop-reverse : (xs : List (List ℕ)) (k a : ℕ) → a ≤ k → k ≤ length xs → drop a (reverse (take k xs)) ≡ reverse (take (k - a) xs)
drop-reverse xs k a le_a le_k =
    let front = take (k - a) (take k xs) in
    let rest = drop (k - a) (take k xs) in
    let size : length (take k xs) ≡ k = length-take-le k xs le_k in
    let long : length (reverse rest) ≡ a = length-reverse rest ∙ length-drop (k - a) (take k xs) ∙ (let e : length (take k xs) - (k - a) ≡ a = omega (arith, size, le_a) in e) in
    grind (arith, (take-append-drop (k - a) (take k xs)), (reverse-append front rest), long, (drop-append_seam (reverse rest) (reverse front)), (take-take (k - a) k xs (omega arith)))

-- the fingerprints along the way back are those of the journal, the last one being that of the folder before
print_along : (folder : Folder) (prints : List (List ℕ)) (back : List Change) (k a : ℕ) (d : List ℕ) → length back ≡ k → k < length prints → get_or prints k d ≡ fingerprint folder → leads_through folder back (reverse (take k prints)) ≡ true
    → a ≤ k → get_or prints (k - a) d ≡ fingerprint (effects folder (take a back))
unfolding effects
print_along folder prints back k zero d size lt here h le = ap (λ n. get_or prints n d) (let e : k - 0 ≡ k = omega arith in e) ∙ here
print_along folder prints back k (suc m) d size lt here h le =
    let long : length (take k prints) ≡ k = length-take-le k prints (omega (arith, lt)) in
    let stepped : get_or (reverse (take k prints)) m d ≡ get_or (take k prints) (length (take k prints) - 1 - m) d = get_or-reverse (take k prints) m d (omega (arith, long, le)) in
    grind (arith, (get_or-take k prints (k - suc m) d (omega (arith, le))), long, stepped, (through_at folder back (reverse (take k prints)) m d h (omega (arith, size, le))))

-- a folder on the way back opens with the rest of the way back
rest_taken : (folder : Folder) (journal : Journal) (h : HalfwayPart) (s : Session) (back : List Change) (k a : ℕ) → k ≤ length h.back → k < length (journal.fingerprint ∷ h.fingerprints) → a ≤ k
    → back ≡ drop (length h.back - k) h.back → leads_through folder back (reverse (take k (journal.fingerprint ∷ h.fingerprints))) ≡ true
    → s ≡ session_of (effects folder back) journal → is_valid s ≡ true
    → taken_back (effects folder (take a back)) journal h (k - a) ≡ Ok (Halfway s (drop a back))
rest_taken folder journal h s back k a le_k lt le_a last through session valid = unfold taken_back in
    let prints = journal.fingerprint ∷ h.fingerprints in
    let g = effects folder (take a back) in
    let rest = drop a back in
    let cut : length h.back - k + a ≡ length h.back - (k - a) = omega (arith, le_k, le_a) in
    let walked : leads_through g rest (reverse (take (k - a) prints)) ≡ true = ap (leads_through g rest) (sym (drop-reverse prints k a le_a (omega (arith, lt)))) ∙ through_drop folder back (reverse (take k prints)) a through in
    let home : effects g rest ≡ effects folder back = sym (effects-append folder (take a back) rest) ∙ ap (effects folder) (take-append-drop a back) in
    grind (arith, (ap (λ n. drop n h.back) (sym cut) ∙ sym (drop-drop a (length h.back - k) h.back) ∙ ap (drop a) (sym last)), walked, home, session, valid)

within_all : (xs : List (List ℕ)) (k : ℕ) (d e : List ℕ) → k < length xs → get_or xs k d ≡ get_or xs k e
within_all (x ∷ xs) (suc k) d e lt = within_all xs k d e (omega (arith, lt))
within_all xs k d e lt = grind arith

still_taken : (journal : Journal) (folder : Folder) (h : HalfwayPart) (s : Session) (back : List Change) (k i : ℕ) → length h.fingerprints ≡ length h.back → k < length (journal.fingerprint ∷ h.fingerprints)
    → get_or (journal.fingerprint ∷ h.fingerprints) k (fingerprint folder) ≡ fingerprint folder
    → back ≡ drop (length h.back - k) h.back → leads_through folder back (reverse (take k (journal.fingerprint ∷ h.fingerprints))) ≡ true
    → s ≡ session_of (effects folder back) journal → is_valid s ≡ true → FingerprintsDiffer folder back → i ≤ length back
    → (rest : List Change) × (opened_if_found (effects folder (take i back)) journal h (position (bytes_eq (fingerprint (effects folder (take i back)))) (journal.fingerprint ∷ h.fingerprints)) ≡ Ok (Halfway s rest))
still_taken journal folder h s back k i each lt here last through session valid apart le =
    let prints = journal.fingerprint ∷ h.fingerprints in
    let g = effects folder (take i back) in
    let q = fingerprint g in
    let le_k : k ≤ length h.back = omega (arith, lt, each) in
    let size : length back ≡ k = ap length last ∙ length-drop (length h.back - k) h.back ∙ (let z : length h.back - (length h.back - k) ≡ k = omega (arith, le_k) in z) in
    let start : get_or prints k q ≡ fingerprint folder = within_all prints k q (fingerprint folder) lt ∙ here in
    let place = least_place q prints (k - i) (omega (arith, lt)) (print_along folder prints back k i q size lt start through (omega (arith, le, size))) in
    let a = k - place.0 in
    let step : k - a ≡ place.0 = omega (arith, place.2) in
    let alike : fingerprint (effects folder (take a back)) ≡ q = sym (print_along folder prints back k a q size lt start through (omega arith)) ∙ ap (λ n. get_or prints n q) step ∙ place.3 in
    let same : effects folder (take a back) ≡ g = one_folder folder back a i apart (omega (arith, size)) le alike in (
      drop a back,
      grind (arith, place.1, step, same, (rest_taken folder journal h s back k a le_k lt (omega arith) last through session valid)),
    )

-- if a halfway journal opens a folder, it opens each folder that the way back passes through as that session
pub still_opens :
    (journal : Journal) (folder : Folder) (s : Session) (back : List Change)
    (i : ℕ) → IsJournal journal → opened folder journal ≡ Ok (Halfway s back)
    → FingerprintsDiffer folder back → i ≤ length back → (rest : List Change)
    × (opened (effects folder (take i back)) journal ≡ Ok (Halfway s rest))
still_opens journal folder s back i is e apart le = unfold opened in
    let t = takes_back folder journal s back e in
    let h = t.halfway in
    let k = t.place in
    let prints = journal.fingerprint ∷ h.fingerprints in
    let shape : IsHalfwayPart h = subst (λ o. IfSome o IsHalfwayPart) t.halfway_there is.halfway in
    let each : length h.fingerprints ≡ length h.back = shape.each in
    let found = at_place (fingerprint folder) 0 prints k (sym (position_from-zero (bytes_eq (fingerprint folder)) prints) ∙ t.found) in
    let place : k ≡ found.0 = found.1 ∙ (let z : 0 + found.0 ≡ found.0 = omega arith in z) in
    let r = still_taken journal folder h s back k i each (subst (λ n. n < length prints) (sym place) found.2) (ap (λ n. get_or prints n (fingerprint folder)) place ∙ found.3) t.last t.through t.session t.valid apart le in
    (r.0, ap (opened_by_part (effects folder (take i back)) journal) t.halfway_there ∙ r.1)

-- the changes taken back apply and lead to the session's folder, and the session's entries can be applied
pub taken_back_leads : (journal : Journal) (folder : Folder) (s : Session) (back : List Change) → opened folder journal ≡ Ok (Halfway s back) → (are_applicable folder back ≡ true) × (effects folder back ≡ s.folder) × (is_valid s ≡ true)
taken_back_leads journal folder s back e = grind (arith, (takes_back folder journal s back e), through_applies)

-- ---- in a store

stored_opens : (folder : Folder) (bytes : List ℕ) (journal : Journal) (o : Opened) → Spells bytes journal → opened folder journal ≡ Ok o → OpensAs folder (Some bytes) (Ok (record { session = session_of_opened o; dropped = false }))
stored_opens folder bytes journal o spells e = unfold OpensAs Opens in (Ok o, inl (journal, spells, sym e), refl)

pub settled_stored : (v : Version) (s : Session) (bytes : List ℕ) → is_valid s ≡ true → Spells bytes (settled_journal v s) → OpensAs s.folder (Some bytes) (Ok (record { session = kept_in v s; dropped = false }))
settled_stored v s bytes valid spells = stored_opens s.folder bytes (settled_journal v s) (Settled (kept_in v s)) spells (settled_opens v s valid)

pub halfway_stored : HalfwayBytesOpenAsBefore
halfway_stored v s cs j bytes valid applies apart le spells =
    let r = halfway_opens v s cs j valid applies apart le in
    stored_opens (effects s.folder (take j cs)) bytes (halfway_journal v s cs) (Halfway (kept_in v s) r.0) spells r.1

pub still_stored : HalfwayBytesStillOpen
still_stored journal folder s back i bytes spells e apart le =
    let r = still_opens journal folder s back i spells.0 e apart le in
    stored_opens (effects folder (take i back)) bytes journal (Halfway s r.0) spells r.1
