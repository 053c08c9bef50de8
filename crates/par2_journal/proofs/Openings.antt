-- Results of opening journals.
use Rattle.par2_journal.proofs.Common.{◌≡◌, inl, inr, ℕ, ◌+◌, ◌-◌, ◌≤◌, Bool, true, ◌&&◌, List, ◌∷◌, length, take, drop, Option, Some, Result, Ok, Err, refl, sym, ap, subst, ◌∙◌, arith, leb, and_from, and_parts, both_ways, cases_Bool, le-leb, leb-true, ⊎_map, reverse, position, if◌then◌else◌, ◌↔◌, ◌⊎◌, bytes_eq, Folder, fingerprint, Change, FolderState, effects, takes_all, state_after_all, Journal, HalfwayPart, Spells, is_valid, leads_through, session_at, AnswersWhere, AnswersOpening, IsReportedWhere, more_room_all, state_files, JournalFault, JournalInvalid, Memory, IsRefusal, IsSealed, Opened, bytes_eq-Decides, md5, spells_sealed}
use Rattle.par2_spec.specs.Opening as defined

-- ---- with more room

pub takes_roomier : (g h : FolderState) (cs : List Change) → takes_all g cs ≡ true → h.files ≡ g.files → g.vacant ≤ h.vacant → takes_all h cs ≡ true
takes_roomier g h cs taken files vacant =
    let more : g.vacant + (h.vacant - g.vacant) ≡ h.vacant = omega (arith, vacant) in
    subst (λ (s : FolderState). takes_all s cs ≡ true) (λ i. record { files = sym files i; vacant = more i }) (more_room_all g (h.vacant - g.vacant) cs taken).0

pub same_files_after : (g h : FolderState) (cs : List Change) → h.files ≡ g.files → (state_after_all h cs).files ≡ (state_after_all g cs).files
same_files_after g h cs files = state_files h cs ∙ ap (λ f. effects f cs) files ∙ sym (state_files g cs)

-- ---- what a halfway command opens as

-- by the test of the way
abbrev pub answer : Folder → Journal → Bool → List Change → Result defined.Opened JournalFault
answer f j passed way = if passed then Ok (defined.Halfway (session_at (effects f way) j.cursor j.entries) way) else Err JournalInvalid

module _ (f : Folder) (j : Journal) (h : HalfwayPart) (cs : List Change) (wanted : List (List ℕ)) (place : position (bytes_eq (fingerprint f)) (j.fingerprint ∷ h.fingerprints) ≡ Some (length wanted))
    (list : wanted ≡ reverse (take (length wanted) (j.fingerprint ∷ h.fingerprints))) (cut : cs ≡ drop (length h.back - length wanted) h.back) where
  pub halfway_is : (b : Bool) → (leads_through f cs wanted && is_valid (session_at (effects f cs) j.cursor j.entries)) ≡ b → defined.opened_by_part f j (Some h) ≡ answer f j b cs
  unfolding defined.taken_back
  halfway_is b passed =
      ap (defined.opened_if_found f j h) place
      ∙ (λ i. answer f j (leads_through f (sym cut i) (sym list i) && is_valid (session_at (effects f (sym cut i)) j.cursor j.entries)) (sym cut i))
      ∙ ap (λ b. answer f j b cs) passed

-- ---- whole journals

-- the halfway part decides, if there is one
pub opened_with : (f : Folder) (j : Journal) (h part : Option HalfwayPart) → j.halfway ≡ part → defined.opened_by_part f (record { version = j.version; fingerprint = j.fingerprint; cursor = j.cursor; entries = j.entries; halfway = h }) part ≡ defined.opened f j
unfolding defined.opened defined.taken_back
opened_with f j h part is = ap (defined.opened_by_part f j) (sym is)

-- a result for the journal that bytes spell is a result for the bytes
pub by_journal : {P : Type 0} (f : Folder) (bytes : List ℕ) (j : Journal) (a : Result defined.Opened JournalFault) → (IsSealed bytes → Spells bytes j) → a ≡ defined.opened f j → (P ↔ IsSealed bytes)
    → (r : Result Opened (JournalFault × FolderState)) → AnswersWhere P f (λ given. given ≡ a) r → AnswersWhere (IsSealed bytes) f (defined.Opens f bytes) r
unfolding defined.Opens
by_journal f bytes j a spells is holds (Ok found) reported =
    let sealed = holds.0 reported.opened.0 in
    record { opened = (sealed, inl (j, spells sealed, reported.opened.1 ∙ is)); refused = tt; reported = tt; files = tt }
by_journal f bytes j a spells is holds (Err e) given = record {
  opened = tt;
  refused = λ sealed. ⊎_map (λ memory. memory) (λ same. inl (j, spells sealed, same ∙ is)) (given.refused (holds.1 sealed));
  reported = ⊎_map (λ invalid. invalid) (⊎_map (λ memory. memory) holds.0) given.reported;
  files = given.files;
}

no_journal : (f : Folder) (bytes : List ℕ) → ((j : Journal) → Spells bytes j → ⊥) → defined.Opens f bytes (Err JournalInvalid)
unfolding defined.Opens
no_journal f bytes none = inr (none, refl)

-- bytes that weren't decoded
pub not_decoded : (folder : FolderState) (bytes : List ℕ) (fault : JournalFault) → IsRefusal bytes fault → AnswersWhere (IsSealed bytes) folder.files (defined.Opens folder.files bytes) (Err (fault, folder))
not_decoded folder bytes fault (inl memory) = record { opened = tt; refused = λ _. inl memory; reported = inr (inl memory); files = refl }
not_decoded folder bytes fault (inr (is, none)) = record { opened = tt; refused = λ _. inr (rw is (no_journal folder.files bytes none)); reported = inl is; files = refl }

sealed_or_not : (bytes : List ℕ) → IsSealed bytes ⊎ ¬ (IsSealed bytes)
sealed_or_not bytes =
    let end = drop (length bytes - 16) bytes in
    let digest = md5 (take (length bytes - 16) bytes) in
    elim (cases_Bool (leb 16 (length bytes) && bytes_eq end digest)) as (λ _. IsSealed bytes ⊎ ¬ (IsSealed bytes)) [
      | inl is ↦ inl (record { long = leb-true 16 (length bytes) (and_parts _ _ is).0; digest = (bytes_eq-Decides end digest).0 (and_parts _ _ is).1 })
      | inr other ↦ inr (λ sealed. both_ways _ other (and_from _ _ (le-leb 16 (length bytes) sealed.long) ((bytes_eq-Decides end digest).1 sealed.digest)))
    ]

-- a fault of bytes that end with their digest is the opening's, and other bytes are invalid
pub refused_as : (folder : FolderState) (bytes : List ℕ) (e : JournalFault × FolderState) (fault : JournalFault) → AnswersWhere (IsSealed bytes) folder.files (defined.Opens folder.files bytes) (Err e)
    → (IsSealed bytes → fault ≡ e.0) → (¬ (IsSealed bytes) → fault ≡ JournalInvalid) → AnswersOpening folder bytes (Err (fault, e.1))
refused_as folder bytes e fault given sealed unsealed = elim (sealed_or_not bytes) as (λ _. AnswersOpening folder bytes (Err (fault, e.1))) [
  | inl is ↦ record { opened = tt; refused = rw (sealed is) (given.refused is); unsealed = λ none. absurd (none is); files = given.files }
  | inr none ↦ record { opened = tt; refused = inr (rw (unsealed none) (no_journal folder.files bytes (λ j spells. none (spells_sealed bytes j spells)))); unsealed = λ _. unsealed none; files = given.files }
]

-- a fault that isn't reported elsewhere
pub invalid_elsewhere : {P : Type 0} (fault : JournalFault) → IsReportedWhere P fault → (fault ≡ Memory → ⊥) → ¬ P → fault ≡ JournalInvalid
invalid_elsewhere fault (inl is) memory none = is
invalid_elsewhere fault (inr (inl is)) memory none = absurd (memory is)
invalid_elsewhere fault (inr (inr holds)) memory none = absurd (none holds)
