-- Actions that a session prepares.
use Rattle.par2_journal.proofs.Common.{Action, Command, Do, Repair, ◌≡◌, ◌≢◌, inl, inr, ◌⊎◌, ℕ, Bool, ◌<◌, ◌≤◌, List, [], ◌∷◌, length, map, None, Some, IsTrue, Result, Ok, Err, true, refl, sym, ap, subst, ◌∙◌, arith, IfOk, IfErr, IsErrAnd, MatchResult, Change, are_applicable, effects, FolderState, Folder, LeadsToAfterRequested, KeptSession, OnlyGrew, session_of_kept, changes_unless, first_entry, changes_requested, Step, step_of, takes_applicable, Vec, Global, Kind, Prepared, Changing, Moving, CanBe, Fits, HasPrintsOf, IsReady, Next, action_for, after_commit, changes_by_kind, entries_for, next_changes, next_of, prints_along, IsChanging, refusal, after, early_refusal, HasItsMd5s, IsDraft, Draft, ◌-◌, get_or, take, drop, Option, IfSome, fingerprint, effect, folders_after, reverse, ◌+◌, ◌++◌, append-nil, reverse-reverse, take-append-drop, length-reverse, length-take-le, reverse-append, state_after_all, takes_all, way_back, CanWalk, walks, session_with, session_unless, kept_undone, kept_redone, session_after, kept_done, Journal, Spells, halfway_where, settled_journal, halfway_journal, Two, kept_journal, moved, opposite, CompletesHalfway, SpellsReady, SpellsWhere, halfway_with, state_all_back, changes_back, takes_none, next_taken, same_session, same_ok, MakesReady, Prepares, Fault, RepairFailed, MayRefuse, nothing_for, SessionFault, Plan, Begins, Journals, places_within}
use Rattle.par2_spec.specs.declared.Fault.TheVariants.{Memory}
use Rattle.par2_journal.proofs.Entries.{command_done, move_requested, move_done, at, back_length}
use Rattle.par2_spec.specs.Plans as plans
use Rattle.par2_spec.specs.History as history
use Rattle.par2_journal.specs.declared.opening.Next.TheVariants as next

-- a fault of the plan is one of the session
refused_plan : (s : KeptSession) (command : Command) (fault : Fault) → (fault ≡ Memory) ⊎ (refusal s.folder.files command ≡ Some fault) → MayRefuse (Do command) s (Plan fault)
unfolding changes_requested
refused_plan s command fault (inl memory) = inl (ap Plan memory)
refused_plan s command fault (inr cause) = inr (ap (λ r. changes_unless r (plans.changes_of s.folder.files command)) cause)

-- a command's result is its action's
pub prepares : (made : Result Prepared Fault) (r : Result Prepared SessionFault) (old new : KeptSession) (command : Command) (action : Action) → action ≡ Do command
    → MatchResult made (λ ready. r ≡ Ok ready) (λ fault. IsErrAnd r (λ e. e ≡ Plan fault)) → MakesReady command old new made → Prepares action old new r
prepares (Ok ready) r old new command action requested is made = subst (λ (p : Action × Result Prepared SessionFault). Prepares p.0 old new p.1) (λ i. (sym requested i, sym is i)) (record {
  kept = made.kept;
  ready = made.ready;
  leads = made.leads;
  refused = tt;
  early = λ fault first. let same = made.early fault first in absurd (cc);
  nothing_to_undo = λ requested none. absurd (cc);
  nothing_to_redo = λ requested none. absurd (cc);
})
prepares (Err fault) (Ok ready) old new command action requested is made = absurd is
prepares (Err fault) (Err e) old new command action requested is made = subst (λ (a : Action). Prepares a old new (Err e)) (sym requested) (record {
  kept = made.kept;
  ready = tt;
  leads = tt;
  refused = subst (MayRefuse (Do command) old) (sym is) (refused_plan old command fault made.refused);
  early = λ found first. let same = made.early found first in cc;
  nothing_to_undo = λ requested none. absurd (cc);
  nothing_to_redo = λ requested none. absurd (cc);
})

-- there is room for changes that can be applied
pub can_change : (old new : KeptSession) (changes : List Change) → OnlyGrew old new → are_applicable old.folder.files changes ≡ true → length changes ≤ new.folder.vacant → 0 < new.room → CanBe (Changing changes) new
can_change old new changes grew applies room entry =
    (takes_applicable new.folder changes (ap (λ f. are_applicable f changes) grew.files ∙ applies) (omega (arith, places_within changes, room)), entry)

-- changes that lead to the folder of the definitions are those of the command
leads_requested_by : (folder : Folder) (command : Command) (changes : List Change) → changes ≡ plans.changes_of folder command → are_applicable folder changes ≡ true → effects folder changes ≡ after folder command
    → LeadsToAfterRequested folder (Do command)
leads_requested_by folder command changes are applies leads = λ accepted. (
  subst (λ (cs : List Change). IsTrue (are_applicable folder cs)) are applies,
  ap (effects folder) (sym are) ∙ leads,
)

-- an accepted command, planned on the folder as it was, whose changes are ready
module _ (old new : KeptSession) (command : Command) (changes : List Change) (changing : IsChanging (Do command)) (grew : OnlyGrew old new)
    (on : FolderState) (same : on ≡ old.folder) (accepted : refusal on.files command ≡ None) (are : changes ≡ plans.changes_of on.files command) where
  ready_command : (ready : Prepared) → ready.kind ≡ Changing changes → Fits ready new → HasPrintsOf new ready → IsReady (Do command) old ready new
  unfolding changes_requested
  ready_command ready is fits prints =
      let requested : changes_requested (session_of_kept old) (Do command) ≡ Ok changes =
      ap (λ r. changes_unless r (plans.changes_of old.folder.files command)) (subst (λ (f : FolderState). refusal f.files command ≡ None) same accepted)
      ∙ ap Ok (sym (subst (λ (f : FolderState). changes ≡ plans.changes_of f.files command) same are)) in
      record {
        fits = fits;
        prints = prints;
        requested = requested ∙ ap (λ k. Ok (changes_by_kind k old)) (sym is);
        leads = command_done old new command changes changing grew requested ∙ ap (λ k. Ok (session_of_kept (after_commit k new))) (sym is);
      }

  -- no cause was found before memory was taken
  pub plan_ready : IsTrue (are_applicable on.files changes) → effects on.files changes ≡ after on.files command
      → ((fault : Fault) → early_refusal on.files command ≡ Some fault → ⊥)
      → (r : Result Prepared Fault) → IfOk r (λ ready. ready.kind ≡ Changing changes) → IfOk r (λ ready. Fits ready new) → IfOk r (HasPrintsOf new) → IfErr r (λ fault. fault ≡ Memory)
      → MakesReady command old new r
  plan_ready applies leads early (Ok ready) is fits prints memory = record {
    kept = grew;
    ready = ready_command ready is fits prints;
    leads = subst (λ (f : FolderState). LeadsToAfterRequested f.files (Do command)) same (leads_requested_by on.files command changes are applies leads);
    refused = tt;
    early = λ fault found. absurd (early fault (subst (λ (f : FolderState). early_refusal f.files command ≡ Some fault) (sym same) found));
  }
  plan_ready applies leads early (Err fault) is fits prints memory = record {
    kept = grew;
    ready = tt;
    leads = tt;
    refused = inl memory;
    early = λ fault found. absurd (early fault (subst (λ (f : FolderState). early_refusal f.files command ≡ Some fault) (sym same) found));
  }

-- a draft with the described MD5s, and the fingerprints along its changes
pub draft_ready : (old new : KeptSession) (base : List ℕ) (extras : List (List ℕ)) (purge : Bool) (draft : Draft) (changes : List Change) (steps : List Step) (prints : Vec (List ℕ) Global) → OnlyGrew old new
    → IsDraft old.folder.files base extras purge draft → HasItsMd5s draft → changes ≡ draft.changes → CanBe (Changing draft.changes) new → steps ≡ map step_of draft.changes → prints.items ≡ prints_along new.folder.files draft.changes
    → ((fault : Fault) → early_refusal old.folder.files (Repair base extras purge) ≡ Some fault → ⊥)
    → MakesReady (Repair base extras purge) old new (Ok (record { kind = Changing changes; steps = steps; fingerprints = prints }))
draft_ready old new base extras purge draft changes steps prints grew is has same can reported along early =
    let ready : Prepared = record { kind = Changing changes; steps = steps; fingerprints = prints } in
    let fits : Fits ready new = record {
      can = subst (λ (cs : List Change). CanBe (Changing cs) new) (sym same) can;
      steps = reported ∙ ap (map step_of) (sym same);
    } in
    plan_ready old new (Repair base extras purge) changes tt grew old.folder refl (is.accepted has) (same ∙ is.changes) (subst (λ (cs : List Change). IsTrue (are_applicable old.folder.files cs)) (sym same) is.applies)
    (ap (effects old.folder.files) same ∙ is.leads) early (Ok ready) refl fits (along ∙ ap (prints_along new.folder.files) (sym same)) tt

-- a draft with a wrong MD5 is refused
pub draft_refused : (r : Result Prepared Fault) (old new : KeptSession) (base : List ℕ) (extras : List (List ℕ)) (purge : Bool) (draft : Draft) (fault : Fault) → (y : Fault) × (r ≡ Err y) × (y ≡ fault) → OnlyGrew old new
    → IsDraft old.folder.files base extras purge draft → ¬ (HasItsMd5s draft) → fault ≡ RepairFailed → ((fault : Fault) → early_refusal old.folder.files (Repair base extras purge) ≡ Some fault → ⊥)
    → MakesReady (Repair base extras purge) old new r
draft_refused r old new base extras purge draft fault p grew is lacks same early =
    subst (MakesReady (Repair base extras purge) old new) (sym (p.1 ∙ ap Err (p.2 ∙ same))) (record {
      kept = grew;
      ready = tt;
      leads = tt;
      refused = inr (is.failed lacks);
      early = λ fault found. absurd (early fault found);
    })

pub nothing_to_move : (next : Next) (s : KeptSession) → entries_for next s ≡ [] → MayRefuse (action_for next) s (nothing_for next)
unfolding changes_requested
nothing_to_move next.Undo s none = inr (ap (first_entry history.NothingToUndo) none)
nothing_to_move next.Redo s none = inr (ap (first_entry history.NothingToRedo) none)

pub ready_move : (next : Next) (s : KeptSession) (steps : List Step) (prints : Vec (List ℕ) Global) → entries_for next s ≢ [] → steps ≡ map step_of (next_changes next s)
    → prints.items ≡ prints_along s.folder.files (next_changes next s) → IsReady (action_for next) s (record { kind = Moving next; steps = steps; fingerprints = prints }) s
ready_move next s steps prints some reported along = record {
  fits = record { can = some; steps = reported };
  prints = along;
  requested = move_requested next s some;
  leads = move_done next s some;
}

-- ---- what is ready stays so while the session only grows

pub same_entries : (next : Next) (old new : KeptSession) → OnlyGrew old new → entries_for next new ≡ entries_for next old
same_entries next.Undo old new grew = grew.undos
same_entries next.Redo old new grew = grew.redos

pub same_changes : (kind : Kind) (old new : KeptSession) → OnlyGrew old new → changes_by_kind kind new ≡ changes_by_kind kind old
same_changes (Changing changes) old new grew = refl
same_changes (Moving next) old new grew = ap next_of (same_entries next old new grew)

-- The fingerprints before changes and after each.

-- the last one is that of the folder after all changes
print_at_end : (f : Folder) (cs : List Change) (none : List ℕ) → get_or (prints_along f cs) (length cs) none ≡ fingerprint (effects f cs)
unfolding folders_after effects
print_at_end f [] none = refl
print_at_end f (c ∷ cs) none = print_at_end (effect f c) cs none

pub folders_count : (f : Folder) (cs : List Change) → length (map fingerprint (folders_after f cs)) ≡ length cs
unfolding folders_after
folders_count f [] = refl
folders_count f (c ∷ cs) = omega (arith, folders_count (effect f c) cs)

pub at_end : (prints : List (List ℕ)) (f : Folder) (cs : List Change) → prints ≡ prints_along f cs → get_or prints (length prints - 1) [] ≡ fingerprint (effects f cs)
at_end prints f cs is =
    let count : length (prints_along f cs) - 1 ≡ length cs = omega (arith, folders_count f cs) in
    ap (λ l. get_or l (length l - 1) []) is ∙ ap (λ n. get_or (prints_along f cs) n []) count ∙ print_at_end f cs []

-- the fingerprints along the next undo or redo depend on files and entries alone
pub along_still : (along : Option (Next × Vec (List ℕ) Global)) (old new : KeptSession) → OnlyGrew old new
    → IfSome along (λ found. found.1.items ≡ prints_along old.folder.files (next_changes found.0 old)) → IfSome along (λ found. found.1.items ≡ prints_along new.folder.files (next_changes found.0 new))
along_still None old new grew h = tt
along_still (Some found) old new grew h = h ∙ (λ i. prints_along (sym grew.files i) (next_of (sym (same_entries found.0 old new grew) i)))

-- A session's journals, and sessions before and after an undo or redo.

-- ---- the settled journal by a session's fields

abbrev pub settled_with : List ℕ → ℕ → List (List Change) → Journal
settled_with print cursor entries = record { version = Two; fingerprint = print; cursor = cursor; entries = entries; halfway = None }

module _ (xs : List (List Change)) (n : ℕ) (within : n ≤ length xs) where
  undo_count : length (reverse (take n xs)) ≡ n
  undo_count = length-reverse (take n xs) ∙ length-take-le n xs within

  pub settled_at : (folder : FolderState) (room : ℕ) → settled_with (fingerprint folder.files) n xs ≡ kept_journal (at folder xs n room)
  unfolding settled_journal
  settled_at folder room =
      let entries : xs ≡ reverse (reverse (take n xs)) ++ drop n xs = sym (ap (λ l. l ++ drop n xs) (reverse-reverse (take n xs)) ∙ take-append-drop n xs) in
      λ i. settled_with (fingerprint folder.files) (sym undo_count i) (entries i)

  -- the one after a command
  pub done_at : (folder : FolderState) (room : ℕ) (cs : List Change)
      → settled_with (fingerprint (state_after_all folder cs).files) (n + 1) (take n xs ++ way_back folder.files cs ∷ []) ≡ kept_journal (kept_done (at folder xs n room) cs)
  unfolding settled_journal kept_done
  done_at folder room cs =
      let count : n + 1 ≡ length (way_back folder.files cs ∷ reverse (take n xs)) = omega (arith, undo_count) in
      let entries : take n xs ++ way_back folder.files cs ∷ [] ≡ reverse (way_back folder.files cs ∷ reverse (take n xs)) ++ [] =
      sym (append-nil (reverse (way_back folder.files cs ∷ reverse (take n xs))) ∙ reverse-append (way_back folder.files cs ∷ []) (reverse (take n xs)) ∙ ap (λ l. l ++ way_back folder.files cs ∷ []) (reverse-reverse (take n xs))) in
      λ i. settled_with (fingerprint (state_after_all folder cs).files) (count i) (entries i)

-- ---- both journals

halfway_is : (s : KeptSession) (cs back : List Change) → back ≡ way_back s.folder.files cs → halfway_with (kept_journal s) (map fingerprint (folders_after s.folder.files cs)) back ≡ halfway_where Two (session_of_kept s) cs
unfolding halfway_journal settled_journal way_back
halfway_is s [] [] e = refl
halfway_is s [] (b ∷ back) e = absurd (cc)
halfway_is s (c ∷ cs) [] e =
    let none : length (way_back s.folder.files (c ∷ cs)) ≡ 0 = ap length (sym e) in
    let some : length (way_back s.folder.files (c ∷ cs)) ≡ length (c ∷ cs) = back_length s.folder (c ∷ cs) in
    absurd (omega (arith, none, some))
halfway_is s (c ∷ cs) (b ∷ back) e = ap (λ back. Some (record (kept_journal s) { halfway = Some (record { fingerprints = map fingerprint (folders_after s.folder.files (c ∷ cs)); back = back }) })) e

pub both_spelled : {E : Type 0} (r : Result Journals E) (kind : Kind) (s : KeptSession) (front : List ℕ) (each : List (List ℕ)) (back : List Change) (j after : Journal) → Begins front j → j ≡ kept_journal s
    → each ≡ map fingerprint (folders_after s.folder.files (changes_by_kind kind s)) → back ≡ way_back s.folder.files (changes_by_kind kind s) → after ≡ kept_journal (after_commit kind s)
    → IfOk r (CompletesHalfway front each back) → IfOk r (λ x. Spells x.after.items after) → IfOk r (SpellsReady kind s)
both_spelled (Err e) kind s front each back j after begins is prints way leads halfway spells = tt
both_spelled (Ok x) kind s front each back j after begins is prints way leads halfway spells = (
  subst (SpellsWhere x.halfway) (ap (λ ps. halfway_with (kept_journal s) ps back) prints ∙ halfway_is s (changes_by_kind kind s) back way) (halfway (kept_journal s) (subst (Begins front) is begins)),
  subst (Spells x.after.items) leads spells,
)

-- ---- prepared actions

pub requested_session : (action : Action) (before s : KeptSession) (ready : Prepared) → OnlyGrew before s → IsReady action before ready s
    → session_of_kept (after_commit ready.kind s) ≡ session_with (session_of_kept s) action (changes_by_kind ready.kind s)
unfolding session_after
requested_session action before s ready grew is =
    let same = same_ok (session_with (session_of_kept before) action (changes_by_kind ready.kind before)) (session_of_kept (after_commit ready.kind s)) (sym (ap (session_unless (session_of_kept before) action) is.requested) ∙ is.leads) in
    sym same ∙ (λ i. session_with (sym (same_session before s grew) i) action (sym (same_changes ready.kind before s grew) i))

-- what is ready can be applied
next_entry : (folder : FolderState) (entries : List (List Change)) → walks folder entries ≡ true → takes_all folder (next_of entries) ≡ true
next_entry folder [] h = takes_none folder
next_entry folder (entry ∷ entries) h = (next_taken folder (entry ∷ entries) entry entries h refl).0

pub move_taken : (next : Next) (s : KeptSession) → CanWalk s → takes_all s.folder (next_changes next s) ≡ true
move_taken next.Undo s h = next_entry s.folder s.undos h.back
move_taken next.Redo s h = next_entry s.folder s.redos h.forth

pub kind_taken : (kind : Kind) (s : KeptSession) → CanWalk s → CanBe kind s → takes_all s.folder (changes_by_kind kind s) ≡ true
kind_taken (Changing cs) s h can = can.0
kind_taken (Moving next) s h can = move_taken next s h

-- ---- after an undo or redo

pub moved_files : (next : Next) (s : KeptSession) → (moved next s).folder ≡ state_after_all s.folder (next_changes next s)
unfolding kept_undone kept_redone
moved_files next.Undo s = refl
moved_files next.Redo s = refl

pub moved_some : (next : Next) (s : KeptSession) → entries_for (opposite next) (moved next s) ≢ []
unfolding kept_undone kept_redone
moved_some next.Undo s none = absurd (cc)
moved_some next.Redo s none = absurd (cc)

pub moved_entry : (next : Next) (s : KeptSession) → next_changes (opposite next) (moved next s) ≡ way_back s.folder.files (next_changes next s)
unfolding kept_undone kept_redone
moved_entry next.Undo s = refl
moved_entry next.Redo s = refl

undone_back : (folder : FolderState) (undos redos : List (List Change)) (room : ℕ) → undos ≢ [] → takes_all folder (next_of undos) ≡ true
    → let s : KeptSession = record { folder = folder; undos = undos; redos = redos; room = room } in moved next.Redo (moved next.Undo s) ≡ s
unfolding kept_undone kept_redone
undone_back folder [] redos room some h = absurd (some refl)
undone_back folder (entry ∷ undos) redos room some h = λ i. record { folder = state_all_back folder entry h i; undos = changes_back folder entry h i ∷ undos; redos = redos; room = room }

redone_back : (folder : FolderState) (undos redos : List (List Change)) (room : ℕ) → redos ≢ [] → takes_all folder (next_of redos) ≡ true
    → let s : KeptSession = record { folder = folder; undos = undos; redos = redos; room = room } in moved next.Undo (moved next.Redo s) ≡ s
unfolding kept_undone kept_redone
redone_back folder undos [] room some h = absurd (some refl)
redone_back folder undos (entry ∷ redos) room some h = λ i. record { folder = state_all_back folder entry h i; undos = undos; redos = changes_back folder entry h i ∷ redos; room = room }

-- the opposite leads back
pub moved_back : (next : Next) (s : KeptSession) → CanWalk s → entries_for next s ≢ [] → moved (opposite next) (moved next s) ≡ s
moved_back next.Undo s h some = undone_back s.folder s.undos s.redos s.room some (move_taken next.Undo s h)
moved_back next.Redo s h some = redone_back s.folder s.undos s.redos s.room some (move_taken next.Redo s h)
