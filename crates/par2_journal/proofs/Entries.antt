-- The entries of a session before and after one of them is replaced by its inverse.
use Rattle.par2_journal.proofs.Common.{map, ◌≡◌, ℕ, ◌+◌, ◌<◌, ◌≤◌, List, [], ◌∷◌, ◌++◌, length, get_or, set, take, drop, sym, ap, ◌∙◌, arith, length-take, drop_more, length-map, take_all, drop_all, take_more, take_more_set, take-set, reverse-append, drop-set-lt, reverse, insert, ◌≢◌, suc, Ok, Err, Result, Bool, true, IsTrue, refl, subst, false≢true, IsFalse, IsErr, ◌↔◌, OnOk, is_ok, action_of, Change, Action, Do, Undo, Redo, Command, History, history_after, Execution, Accepted, Passed, MayBeRefused, IsChanging, Refusal, Session, KeptSession, OnlyGrew, CanWalk, session_of_kept, session_with, session_unless, first_entry, history_of, kept_done, session_after, changes_requested, accepted_next, refused_alike, done_of_kept, undone_of_kept, redone_of_kept, walked_is_valid, same_session, Next, action_for, entries_for, moved, next_changes, next_of, is_valid, LeadsToAfterRequested, zero, inl, inr, cases_lt, drop-set, FolderState, takes_all, state_after_all, way_back, others, walks, kept_undone, kept_redone, undone_can_walk, redone_can_walk, done_can_walk, next_taken, Folder, length-append, effect, inverse, state_after, insert_end, length-insert, NothingToUndo, NothingToRedo, folders, folders_along, none_dropped, one_fewer, AreUndone, UndosGiveBack, kept_history, left_at}
use Rattle.par2_spec.specs.declared.commands.Action as given
use Rattle.par2_journal.specs.declared.opening.Next.TheVariants as next

module _ {X : Type 0} (xs : List X) (i : ℕ) (within : i < length xs) where
  -- the undos up to i
  pub undos_at : (d : X) → reverse (take (i + 1) xs) ≡ get_or xs i d ∷ reverse (take i xs)
  undos_at d = ap reverse (take_more xs i d within) ∙ reverse-append (take i xs) (get_or xs i d ∷ [])

  pub undos_set : (y : X) → reverse (take i (set xs i y)) ≡ reverse (take i xs)
  undos_set y = ap reverse (take-set xs i y)

  pub undos_more_set : (y : X) → reverse (take (i + 1) (set xs i y)) ≡ y ∷ reverse (take i xs)
  undos_more_set y = ap reverse (take_more_set xs i y within) ∙ reverse-append (take i xs) (y ∷ [])

  pub redos_more_set : (y : X) → drop (i + 1) (set xs i y) ≡ drop (i + 1) xs
  redos_more_set y = drop-set-lt (i + 1) xs i y (omega arith)

-- a new entry at the cursor, after those from there on were dropped
module _ {X : Type 0} (xs : List X) (i : ℕ) (within : i ≤ length xs) (y : X) where
  taken : length (take i xs) ≡ i
  taken = omega (arith, length-take i xs)

  added : insert (take i xs) i y ≡ take i xs ++ y ∷ []
  added = ap (λ n. insert (take i xs) n y) (sym taken) ∙ insert_end (take i xs) y

  pub length_added : length (insert (take i xs) i y) ≡ i + 1
  length_added = omega (arith, length-insert (take i xs) i y (omega (arith, taken)), taken)

  pub undos_added : reverse (take (i + 1) (insert (take i xs) i y)) ≡ y ∷ reverse (take i xs)
  undos_added = ap reverse (take_all (i + 1) (insert (take i xs) i y) (omega (arith, length_added)) ∙ added) ∙ reverse-append (take i xs) (y ∷ [])

  pub redos_added : drop (i + 1) (insert (take i xs) i y) ≡ []
  redos_added = drop_all (i + 1) (insert (take i xs) i y) (omega (arith, length_added))

-- Sessions after an accepted action, and after a run of actions.

-- a prepared command
pub command_done : (old mid : KeptSession) (command : Command) (changes : List Change) → IsChanging (Do command) → OnlyGrew old mid → changes_requested (session_of_kept old) (Do command) ≡ Ok changes
    → session_after (session_of_kept old) (Do command) ≡ Ok (session_of_kept (kept_done mid changes))
unfolding session_after
command_done old mid command changes changing grew requested =
    ap (session_unless (session_of_kept old) (Do command)) requested
    ∙ ap (λ (s : Session). Ok (session_with s (Do command) changes)) (sym (same_session old mid grew))
    ∙ ap Ok (sym (done_of_kept mid command changes changing))

abbrev HasActed : Action → KeptSession → KeptSession → Bool → Type 0
HasActed action old new acted =
    (IsTrue acted → session_after (session_of_kept old) action ≡ Ok (session_of_kept new)) × (IsFalse acted → MayBeRefused (history_of (session_of_kept old)) action)

-- the next entry is the first one
pub first_is_next : {F : Type 0} (fault : F) (entries : List (List Change)) → entries ≢ [] → first_entry fault entries ≡ Ok (next_of entries)
first_is_next fault [] some = absurd (some refl)
first_is_next fault (entry ∷ entries) some = refl

pub move_requested : (next : Next) (s : KeptSession) → entries_for next s ≢ [] → changes_requested (session_of_kept s) (action_for next) ≡ Ok (next_changes next s)
unfolding changes_requested
move_requested next.Undo s some = first_is_next NothingToUndo s.undos some
move_requested next.Redo s some = first_is_next NothingToRedo s.redos some

pub move_done : (next : Next) (s : KeptSession) → entries_for next s ≢ [] → session_after (session_of_kept s) (action_for next) ≡ Ok (session_of_kept (moved next s))
unfolding session_after
move_done next.Undo s some = ap (session_unless (session_of_kept s) Undo) (move_requested next.Undo s some) ∙ ap Ok (sym (undone_of_kept s (next_of s.undos)))
move_done next.Redo s some = ap (session_unless (session_of_kept s) Redo) (move_requested next.Redo s some) ∙ ap Ok (sym (redone_of_kept s (next_of s.redos)))

-- an empty side refuses
move_refused : (next : Next) (s : KeptSession) → entries_for next s ≡ [] → MayBeRefused (history_of (session_of_kept s)) (action_for next)
unfolding session_after changes_requested
move_refused next.Undo s none =
    subst (λ (r : Result History Refusal). IsErr r) (sym (refused_alike (session_of_kept s) Undo NothingToUndo (ap (λ entries. session_unless (session_of_kept s) Undo (first_entry NothingToUndo entries)) none))) refl
move_refused next.Redo s none =
    subst (λ (r : Result History Refusal). IsErr r) (sym (refused_alike (session_of_kept s) Redo NothingToRedo (ap (λ entries. session_unless (session_of_kept s) Redo (first_entry NothingToRedo entries)) none))) refl

-- whether it was done or refused
pub acted : {E : Type 0} (next : Next) (old new : KeptSession) (r : Result (Unit {0}) E) → IsErr r ↔ (entries_for next old ≡ []) → OnOk r (new ≡ moved next old) → HasActed (action_for next) old new (is_ok r)
acted next old new (Ok u) refused done =
    (λ _. move_done next old (λ none. false≢true (refused.1 none)) ∙ ap (λ (s : KeptSession). Ok (session_of_kept s)) (sym done), λ h. absurd (false≢true (sym h)))
acted next old new (Err e) refused done = (λ h. absurd (false≢true h), λ _. move_refused next old (refused.0 refl))

-- the session's history is the history after the action
leads_requested : (s t : Session) (action : Action) → is_valid s ≡ true → LeadsToAfterRequested s.folder action → session_after s action ≡ Ok t → history_after (history_of s) action ≡ Ok (history_of t)
leads_requested s t action valid leads h = (accepted_next s t action valid leads h).0

-- an accepted or refused action, and a run of those that are left
module _ (actions : List given.Action) (i : ℕ) (within : i < length actions) (item : given.Action) (is : item ≡ get_or actions i item) (start : History) (old new : KeptSession) (n : ℕ)
    (on : (k : ℕ) (end : History) → Execution (history_of (session_of_kept old)) (drop i (map action_of actions)) k end → Execution start (map action_of actions) (n + k) end) where
  left : drop i (map action_of actions) ≡ action_of item ∷ drop (i + 1) (map action_of actions)
  left = left_at action_of actions i within item is

  pub on_accepted : LeadsToAfterRequested old.folder.files (action_of item) → CanWalk old → session_after (session_of_kept old) (action_of item) ≡ Ok (session_of_kept new)
      → (k : ℕ) (end : History) → Execution (history_of (session_of_kept new)) (drop (i + 1) (map action_of actions)) k end → Execution start (map action_of actions) (n + 1 + k) end
  on_accepted leads walks step k end run =
      let sum : n + suc k ≡ n + 1 + k = omega arith in
      let next = leads_requested (session_of_kept old) (session_of_kept new) (action_of item) (walked_is_valid old walks) leads step in
      subst (λ m. Execution start (map action_of actions) m end) sum (on (suc k) end (subst (λ l. Execution (history_of (session_of_kept old)) l (suc k) end) (sym left) (Accepted next run)))

  pub on_refused : MayBeRefused (history_of (session_of_kept old)) (action_of item) → OnlyGrew old new
      → (k : ℕ) (end : History) → Execution (history_of (session_of_kept new)) (drop (i + 1) (map action_of actions)) k end → Execution start (map action_of actions) (n + k) end
  on_refused may grew k end run =
      on k end (subst (λ l. Execution (history_of (session_of_kept old)) l k end) (sym left)
      (Passed may (subst (λ s. Execution (history_of s) (drop (i + 1) (map action_of actions)) k end) (same_session old new grew) run)))

pub none_left : (actions : List given.Action) (i : ℕ) → length actions ≤ i → drop i (map action_of actions) ≡ []
none_left actions i all = drop_all i (map action_of actions) (rw (length-map actions action_of) all)

-- A session before and after the entry at its cursor is replaced by its inverse.

-- the session whose cursor is n
abbrev pub at : FolderState → List (List Change) → ℕ → ℕ → KeptSession
at folder xs n room = record { folder = folder; undos = reverse (take n xs); redos = drop n xs; room = room }

-- there is an entry before the cursor if there are undos, and one at it if there are redos
pub undo_there : (xs : List (List Change)) (n : ℕ) → reverse (take n xs) ≢ [] → 0 < n
undo_there xs zero some = absurd (some refl)
undo_there xs (suc n) some = omega arith

pub redo_there : (xs : List (List Change)) (n : ℕ) → drop n xs ≢ [] → n < length xs
redo_there xs n some = elim (cases_lt n (length xs)) as (λ _. n < length xs) [
  | inl lt ↦ lt
  | inr over ↦ absurd (some (drop_all n xs over))
]

module _ (xs : List (List Change)) (i : ℕ) (within : i < length xs) (entry : List Change) (is : entry ≡ get_or xs i entry) where
  next_undo : reverse (take (i + 1) xs) ≡ entry ∷ reverse (take i xs)
  next_undo = undos_at xs i within entry ∙ ap (λ e. e ∷ reverse (take i xs)) (sym is)

  next_redo : drop i xs ≡ entry ∷ drop (i + 1) xs
  next_redo = drop_more xs i entry within ∙ ap (λ e. e ∷ drop (i + 1) xs) (sym is)

  -- the entry before the cursor can be applied, and so can the one after it
  pub undo_taken : (n : ℕ) → i + 1 ≡ n → (folder : FolderState) (room : ℕ) → CanWalk (at folder xs n room) → takes_all folder entry ≡ true
  undo_taken n one folder room h =
      (next_taken folder (reverse (take n xs)) entry (reverse (take i xs)) h.back (ap (λ m. reverse (take m xs)) (sym one) ∙ next_undo)).0

  pub redo_taken : (folder : FolderState) (room : ℕ) → CanWalk (at folder xs i room) → takes_all folder entry ≡ true
  redo_taken folder room h = (next_taken folder (drop i xs) entry (drop (i + 1) xs) h.forth next_redo).0

  pub next_undo_is : (n : ℕ) → i + 1 ≡ n → next_of (reverse (take n xs)) ≡ entry
  next_undo_is n one = ap (λ m. next_of (reverse (take m xs))) (sym one) ∙ ap next_of next_undo

  pub next_redo_is : next_of (drop i xs) ≡ entry
  next_redo_is = ap next_of next_redo

  module _ (folder new : FolderState) (room : ℕ) (inverted : List Change) (after : new ≡ state_after_all folder entry) (back : inverted ≡ way_back folder.files entry) where
    pub undone_to : (n : ℕ) → i + 1 ≡ n → at new (set xs i inverted) i room ≡ kept_undone (at folder xs n room) entry
    unfolding kept_undone
    undone_to n one = λ j. record {
      folder = after j;
      undos = (undos_set xs i within inverted ∙ ap others (sym next_undo ∙ ap (λ m. reverse (take m xs)) one)) j;
      redos = (drop-set xs i inverted within ∙ ap (λ b. b ∷ drop (i + 1) xs) back ∙ ap (λ m. way_back folder.files entry ∷ drop m xs) one) j;
      room = room;
    }

    pub redone_to : at new (set xs i inverted) (i + 1) room ≡ kept_redone (at folder xs i room) entry
    unfolding kept_redone
    redone_to = λ j. record {
      folder = after j;
      undos = (undos_more_set xs i within inverted ∙ ap (λ b. b ∷ reverse (take i xs)) back) j;
      redos = (redos_more_set xs i within inverted ∙ ap others (sym next_redo)) j;
      room = room;
    }

    pub undone_walks : (n : ℕ) → i + 1 ≡ n → CanWalk (at folder xs n room) → CanWalk (at new (set xs i inverted) i room)
    undone_walks n one h =
        subst CanWalk (sym (undone_to n one))
        (undone_can_walk (at folder xs n room) entry (reverse (take i xs)) h (ap (λ m. reverse (take m xs)) (sym one) ∙ next_undo))

    pub redone_walks : CanWalk (at folder xs i room) → CanWalk (at new (set xs i inverted) (i + 1) room)
    redone_walks h = subst CanWalk (sym redone_to) (redone_can_walk (at folder xs i room) entry (drop (i + 1) xs) h next_redo)

-- a new entry at the cursor, after those from there on were dropped
pub done_walks : (folder new : FolderState) (xs : List (List Change)) (n : ℕ) → n ≤ length xs → (room other : ℕ) (changes inverted : List Change)
    → new ≡ state_after_all folder changes → inverted ≡ way_back folder.files changes
    → CanWalk (at folder xs n room) → takes_all folder changes ≡ true → CanWalk (at new (insert (take n xs) n inverted) (n + 1) other)
unfolding kept_done walks
done_walks folder new xs n within room other changes inverted after back h taken =
    let done = done_can_walk (at folder xs n room) changes h taken in
    record {
      back = ap (walks new) (undos_added xs n within inverted) ∙ ap (λ b. walks new (b ∷ reverse (take n xs))) back ∙ ap (λ f. walks f (way_back folder.files changes ∷ reverse (take n xs))) after ∙ done.back;
      forth = ap (walks new) (redos_added xs n within inverted);
    }

-- Undos lead, one after the other, through the older folders.

-- an undo by its entry
undo_by : (folder : Folder) (undos redos : List (List Change)) → undos ≢ []
    → let s : Session = record { folder = folder; undos = undos; redos = redos } in
    session_after s Undo ≡ Ok (session_with s Undo (next_of undos))
undo_by folder undos redos some = unfold session_after changes_requested in grind arith

-- if an older folder is left, so is an entry
some_entry : (n : ℕ) (folder : Folder) (undos : List (List Change)) (now : Folder) (older : List Folder) → drop n (folders_along folder undos) ≡ now ∷ older → undos ≢ []
unfolding folders_along
some_entry n folder [] now older left none = none_dropped n now older left
some_entry n folder (entry ∷ undos) now older left none = absurd (cc)

-- as many undos as there are newer folders lead to a folder
lead_back : (n : ℕ) (s : KeptSession) (now : Folder) (older : List Folder) → is_valid (session_of_kept s) ≡ true → drop n (folders (kept_history s)) ≡ now ∷ older
    → (back : KeptSession) × AreUndone n s back × (folders (kept_history back) ≡ now ∷ older)
unfolding history_after history_of
lead_back zero s now older valid left = (s, refl, left)
lead_back (suc n) s now older valid left =
    let some = some_entry n s.folder.files s.undos now older left in
    let next = kept_undone s (next_of s.undos) in
    let step = undo_by s.folder.files s.undos s.redos some ∙ ap Ok (sym (undone_of_kept s (next_of s.undos))) in
    let goes = accepted_next (session_of_kept s) (session_of_kept next) Undo valid tt step in
    let rest = lead_back n next now older goes.1 (one_fewer n s.folder.files (kept_history s).older (kept_history s).newer (now ∷ older) (kept_history next) goes.0 left) in
    (rest.0, (some, rest.1), rest.2)

-- so they give back the folder of a session and its older ones
pub give_back : (n : ℕ) (before here : KeptSession) → is_valid (session_of_kept here) ≡ true → drop n (folders (kept_history here)) ≡ folders (kept_history before) → UndosGiveBack n before here
unfolding history_of
give_back n before here valid left =
    let back = lead_back n here before.folder.files (kept_history before).older valid left in
    record { back = back.0; undone = back.1; folder = (cc); older = (cc) }

-- The way back of changes that a kept folder takes.

pub back_length : (s : FolderState) (cs : List Change) → length (way_back s.files cs) ≡ length cs
unfolding way_back
back_length s [] = refl
back_length s (c ∷ cs) = length-append (way_back (effect s.files c) cs) (inverse s.files c ∷ []) ∙ omega (arith, back_length (state_after s c) cs)
