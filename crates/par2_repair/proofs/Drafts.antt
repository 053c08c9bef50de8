-- A draft of a repair, by the targets that it writes.
use Rattle.par2_repair.proofs.Common.{◌≡◌, ◌∙◌, ℕ, List, [], ◌∷◌, ◌++◌, length, map, drop, get_or, refl, sym, ap, ap₂, subst, Bool, true, false, not, Ok, append-nil, Option, filter, filter_map, option_map, None, Some, AllByRecursion, cons_option, repair_refusal, list_all, and_from, and_parts, false_from_ne_true, filter_map-append, bytes_eq-Decides, Change, Write, Rename, Remove, are_applicable, effects, Repair, fault_where, Folder, is_among, changes_of, now_at, repair_changes, repair_removals, set_in, refusal, aside, put_aside, rebuilt_targets, par_files, AreFew, candidates, matches, matching, ParSet, Target, RepairFailed, set_in_reads, same_ok, HasItsMd5s, IsDraft, bytes_eq, IsAsDescribed, repair_by, bytes_written, buffers_written, IsTrue, md5, Draft}
use Rattle.par2_repair.proofs.RepairParts.{repair_by_set, repair_refused, repair_leads}

-- ---- what a repair writes

-- changes that write nothing
writes_none : {A : Type 0} (f : A → Change) → ((x : A) → bytes_written (f x) ≡ None) → (xs : List A) → buffers_written (map f xs) ≡ []
writes_none f none [] = refl
writes_none f none (x ∷ xs) = ap (λ o. cons_option o (buffers_written (map f xs))) (none x) ∙ writes_none f none xs

matches_write_none : (place : List ℕ → List ℕ) (ms : List (Target × Option (List ℕ))) → buffers_written (filter_map (λ m. option_map (λ name. Rename (place name) m.0.name) m.1) ms) ≡ []
matches_write_none place [] = refl
matches_write_none place ((t, None) ∷ ms) = matches_write_none place ms
matches_write_none place ((t, Some name) ∷ ms) = matches_write_none place ms

targets_written : (cs : List (Target × List ℕ)) → buffers_written (map (λ c. Write c.0.name c.1) cs) ≡ map (λ c. c.1) cs
targets_written [] = refl
targets_written (c ∷ cs) = ap (λ buffers. c.1 ∷ buffers) (targets_written cs)

module _ (folder : Folder) (set : ParSet) (searched : List (List ℕ)) where
  changes_write : buffers_written (repair_changes folder set searched) ≡ map (λ c. c.1) (rebuilt_targets folder set searched)
  unfolding repair_changes
  changes_write =
      let renamed : List Change = map (λ name. Rename name (aside folder set name)) (put_aside folder set) in
      let taken : List Change = filter_map (λ m. option_map (λ name. Rename (now_at folder set name) m.0.name) m.1) (matches folder set searched) in
      let written : List Change = map (λ c. Write c.0.name c.1) (rebuilt_targets folder set searched) in
      filter_map-append bytes_written (renamed ++ taken) written
      ∙ ap₂ (λ (a b : List (List ℕ)). a ++ b)
      (filter_map-append bytes_written renamed taken
      ∙ ap₂ (λ (a b : List (List ℕ)). a ++ b) (writes_none (λ name. Rename name (aside folder set name)) (λ name. refl) (put_aside folder set)) (matches_write_none (now_at folder set) (matches folder set searched)))
      (targets_written (rebuilt_targets folder set searched))

  removals_write : buffers_written (repair_removals folder set searched) ≡ []
  unfolding repair_removals
  removals_write =
      let left : List (List ℕ) = filter (λ name. not (is_among (matching folder set searched) name)) (put_aside folder set) in
      let files : List (List ℕ) = filter (λ name. not (is_among (matching folder set searched) name)) (par_files folder set) in
      filter_map-append bytes_written (map (λ name. Remove (aside folder set name)) left) (map Remove files)
      ∙ ap₂ (λ (a b : List (List ℕ)). a ++ b) (writes_none (λ name. Remove (aside folder set name)) (λ name. refl) left) (writes_none Remove (λ name. refl) files)

  repair_writes : (purge : Bool) → buffers_written (repair_by purge folder set searched) ≡ map (λ c. c.1) (rebuilt_targets folder set searched)
  repair_writes false = changes_write
  repair_writes true =
      filter_map-append bytes_written (repair_changes folder set searched) (repair_removals folder set searched)
      ∙ ap₂ (λ (a b : List (List ℕ)). a ++ b) changes_write removals_write ∙ append-nil (map (λ (c : Target × List ℕ). c.1) (rebuilt_targets folder set searched))

-- ---- MD5s

-- the bytes have the MD5 that the target describes
abbrev has_digest : Target × List ℕ → Bool
has_digest c = bytes_eq (md5 c.1) c.0.md5

-- the bytes have the MD5s that the targets describe
abbrev HaveMd5s : List (Target × List ℕ) → Type 0
HaveMd5s cs = map md5 (map (λ c. c.1) cs) ≡ map (λ c. c.0.md5) cs

all_right : (cs : List (Target × List ℕ)) → HaveMd5s cs → list_all has_digest cs ≡ true
all_right [] h = refl
all_right (c ∷ cs) h =
    and_from (has_digest c) (list_all has_digest cs) ((bytes_eq-Decides (md5 c.1) c.0.md5).1 (ap (λ (l : List (List ℕ)). get_or l 0 []) h)) (all_right cs (ap (λ (l : List (List ℕ)). drop 1 l) h))

have_md5s : (cs : List (Target × List ℕ)) → list_all has_digest cs ≡ true → HaveMd5s cs
have_md5s [] h = refl
have_md5s (c ∷ cs) h =
    let parts = and_parts (has_digest c) (list_all has_digest cs) h in
    ap₂ (λ (digest : List ℕ) (digests : List (List ℕ)). digest ∷ digests) ((bytes_eq-Decides (md5 c.1) c.0.md5).0 parts.0) (have_md5s cs parts.1)

described : (cs : List (Target × List ℕ)) → AllByRecursion (λ c. length c.1 ≡ c.0.length) cs → list_all has_digest cs ≡ true → AllByRecursion IsAsDescribed cs
described [] lengths h = tt
described (c ∷ cs) lengths h =
    let parts = and_parts (has_digest c) (list_all has_digest cs) h in
    (record { length = lengths.0; md5 = (bytes_eq-Decides (md5 c.1) c.0.md5).0 parts.0 }, described cs lengths.1 parts.1)

-- ---- a draft of the set that is read

-- the draft of a repair of a set, by the names that are searched: its only cause of refusal left is a wrong MD5
pub record IsDraftBy (purge : Bool) (folder : Folder) (set : ParSet) (searched : List (List ℕ)) (draft : Draft) : Type 0 where
  pub changes : draft.changes ≡ repair_by purge folder set searched
  pub md5s : draft.md5s.items ≡ map (λ c. c.0.md5) (rebuilt_targets folder set searched)
  pub lengths : AllByRecursion (λ c. length c.1 ≡ c.0.length) (rebuilt_targets folder set searched)
  pub cause : repair_refusal folder set searched ≡ fault_where (not (list_all has_digest (rebuilt_targets folder set searched))) RepairFailed
  pub few : AreFew folder set

module _ (folder : Folder) (base : List ℕ) (extras : List (List ℕ)) (purge : Bool) (set : ParSet) (reads : set_in folder base extras ≡ Ok set) (draft : Draft) (is : IsDraftBy purge folder set (candidates folder set extras) draft) where
  abbrev targets : List (Target × List ℕ)
  targets = rebuilt_targets folder set (candidates folder set extras)

  buffers_are : map md5 (buffers_written draft.changes) ≡ map md5 (map (λ c. c.1) targets)
  buffers_are = ap (λ changes. map md5 (buffers_written changes)) is.changes ∙ ap (map md5) (repair_writes folder set (candidates folder set extras) purge)

  right : HasItsMd5s draft → list_all has_digest targets ≡ true
  right has = all_right targets (sym buffers_are ∙ has ∙ is.md5s)

  wrong : ¬ (HasItsMd5s draft) → list_all has_digest targets ≡ false
  wrong lacks = false_from_ne_true _ (λ all. lacks (buffers_are ∙ have_md5s targets all ∙ sym is.md5s))

  refused : (b : Bool) → list_all has_digest targets ≡ b → refusal folder (Repair base extras purge) ≡ fault_where (not b) RepairFailed
  refused b e = repair_refused folder base extras purge set reads ∙ is.cause ∙ ap (λ b. fault_where (not b) RepairFailed) e

  planned : draft.changes ≡ changes_of folder (Repair base extras purge)
  planned = is.changes ∙ sym (repair_by_set folder base extras purge set reads)

  pub is_draft : IsDraft folder base extras purge draft
  is_draft = record {
    changes = planned;
    applies = subst (λ (changes : List Change). IsTrue (are_applicable folder changes)) (sym planned) (repair_leads folder base extras purge set reads is.few).0;
    leads = ap (effects folder) planned ∙ (repair_leads folder base extras purge set reads is.few).1;
    few = λ other e. subst (AreFew folder) (same_ok set other (sym (set_in_reads folder base extras set reads).0 ∙ e)) is.few;
    accepted = λ has. refused true (right has);
    written = λ has other e.
        subst (λ s. AllByRecursion IsAsDescribed (rebuilt_targets folder s (candidates folder s extras))) (same_ok set other (sym reads ∙ e)) (described targets is.lengths (right has));
    failed = λ lacks. refused false (wrong lacks);
  }
