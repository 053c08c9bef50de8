-- A change and its inverse; changes in order and their way back; the same for a folder in memory.
use Rattle.par2_spec.proofs.Common.{◌≡◌, ℕ, ◌+◌, ◌<◌, ◌≤◌, List, [], ◌∷◌, ◌++◌, refl, sym, ap, subst, ◌∙◌, cond, true, Bool, not, ◌&&◌, IsTrue, append_assoc, append-nil, arith, unwrap_or, Some, None, Option, is_some, is_none, nat_lt, same_map, slice_cmp-IsAntisymmetric, nat_cmp-IsAntisymmetric, get-insert, get-remove, get_tied, nat_cmp, eq_by_cmp, eq_by_cmp_equiv, slice_cmp, nat_list_cmp_total, nat_tests, and_parts, and_from, Folder, has, bytes_of, Change, Write, Replace, Rename, Remove, FolderState, state_after, places_taken, effect, inverse, is_applicable, effects, way_back, are_applicable, change_refusal, takes_all, state_after_all, common_steps, not-true, map, if◌then◌else◌, get-retain_keys, Equal, is_eq-slice_cmp, is_among, File, without, laid_over, CreateArgs, outputs_of, create_changes, zero, suc, ◌-◌, drop, length, Result, Ok, Err, replicate, sum_by, is_ok, AllByRecursion, false≢true, sum_by-cons, drop-nil, Fault, Command, Action, Do, Undo, Redo, refusal, changes_of, LeadsToAfter, LeadsToAfterRequested, Session, first_entry, changes_unless, others, session_unless, KeptSession, session_of_kept, CanWalk, OnlyGrew, folders_along, history_of, changes_requested, session_with, session_after, walks, kept_done, kept_undone, kept_redone, is_valid, leads, History, Refusal, NothingToUndo, NothingToRedo, after_command, unless_refused, after_undo, after_redo, Execution, Ended, Accepted, Passed, folders, IsChanging, history_after}
use Rattle.par2_spec.proofs.ListsLaws.{none_from}
use Rattle.std.specs.FinMap as map_of

-- ---- the file of a name in a changed folder

-- two folders with the same file for each name are equal
pub same_folder : (f g : Folder) → ((q : List ℕ) → map_of.get f q ≡ map_of.get g q) → f ≡ g
same_folder f g is = same_map nat_list_cmp_total (slice_cmp-IsAntisymmetric nat_cmp-IsAntisymmetric) f g is

abbrev same : List ℕ → List ℕ → Bool
same q n = eq_by_cmp (slice_cmp nat_cmp) q n

itself : (n : List ℕ) → same n n ≡ true
itself n = (eq_by_cmp_equiv nat_list_cmp_total).refl n

tied : (f : Folder) (q n : List ℕ) → IsTrue (same q n) → map_of.get f q ≡ map_of.get f n
tied f q n t = sym (get_tied nat_list_cmp_total f q n (grind arith))

pub written : (f : Folder) (n b q : List ℕ) → map_of.get (map_of.insert f n b) q ≡ cond (same q n) (Some b) (map_of.get f q)
written f n b q = get-insert nat_list_cmp_total f n b q

pub gone : (f : Folder) (n q : List ℕ) → map_of.get (map_of.remove f n) q ≡ cond (same q n) None (map_of.get f q)
gone f n q = get-remove nat_list_cmp_total f n q

absent : (o : Option (List ℕ)) → IsTrue (not (is_some o)) → o ≡ None
absent o h = grind arith

present : (o : Option (List ℕ)) → IsTrue (is_some o) → o ≡ Some (unwrap_or o [])
present o h = grind arith

here : (f : Folder) (n x : List ℕ) → map_of.get (map_of.insert f n x) n ≡ Some x
here f n x = written f n x n ∙ ap (λ t. cond t (Some x) (map_of.get f n)) (itself n)

nowhere : (f : Folder) (n : List ℕ) → map_of.get (map_of.remove f n) n ≡ None
nowhere f n = gone f n n ∙ ap (λ t. cond t None (map_of.get f n)) (itself n)

landed : (f : Folder) (n x : List ℕ) → bytes_of (map_of.insert f n x) n ≡ x
landed f n x = ap (λ o. unwrap_or o []) (here f n x)

-- ---- one change

off : (b : Bool) (x : List ℕ) (g : Option (List ℕ)) → (IsTrue b → g ≡ None) → cond b None (cond b (Some x) g) ≡ g
off b x g h = grind arith

back : (b : Bool) (o : Option (List ℕ)) (x : List ℕ) (g : Option (List ℕ)) → (IsTrue b → g ≡ Some x) → cond b (Some x) (cond b o g) ≡ g
back b o x g h = grind arith

moved : (a b : Bool) (x y : List ℕ) (g : Option (List ℕ)) → y ≡ x → (IsTrue a → g ≡ Some x) → (IsTrue b → g ≡ None) → cond a (Some y) (cond b None (cond b (Some x) (cond a None g))) ≡ g
moved a b x y g e h k = grind arith

pub undo_change : (f : Folder) (c : Change) → IsTrue (is_applicable f c) → effect (effect f c) (inverse f c) ≡ f
unfolding effect inverse is_applicable
undo_change f (Write n b) h = same_folder _ _ (λ q. gone _ n q ∙ ap (cond (same q n) None) (written f n b q) ∙ off (same q n) b _ (λ t. tied f q n t ∙ absent _ h))
undo_change f (Replace n b) h = same_folder _ _ (λ q. written _ n _ q ∙ ap (cond (same q n) (Some (bytes_of f n))) (written f n b q) ∙ back (same q n) (Some b) _ _ (λ t. tied f q n t ∙ present _ h))
undo_change f (Rename a b) h = unfold effect in grind (arith, same_folder, written, gone, moved, landed, tied, present, absent)
undo_change f (Remove n) h = same_folder _ _ (λ q. written _ n _ q ∙ ap (cond (same q n) (Some (bytes_of f n))) (gone f n q) ∙ back (same q n) None _ _ (λ t. tied f q n t ∙ present _ h))

-- after a rename the old name is free
left_behind : (f : Folder) (a b : List ℕ) → IsTrue (has f a) → IsTrue (not (has f b)) → map_of.get (map_of.insert (map_of.remove f a) b (bytes_of f a)) a ≡ None
left_behind f a b h k = grind (arith, written, nowhere, tied, present, absent)

pub undo_is_applicable : (f : Folder) (c : Change) → IsTrue (is_applicable f c) → IsTrue (is_applicable (effect f c) (inverse f c))
unfolding effect inverse is_applicable
undo_is_applicable f (Write n b) h = ap is_some (here f n b)
undo_is_applicable f (Replace n b) h = ap is_some (here f n b)
undo_is_applicable f (Rename a b) h = and_from _ _ (ap is_some (here _ b _)) (ap (λ o. not (is_some o)) (left_behind f a b (and_parts _ _ h).0 (and_parts _ _ h).1))
undo_is_applicable f (Remove n) h = ap (λ o. not (is_some o)) (nowhere f n)

pub inverse_twice : (f : Folder) (c : Change) → inverse (effect f c) (inverse f c) ≡ c
unfolding effect inverse
inverse_twice f (Write n b) = ap (Write n) (landed f n b)
inverse_twice f (Replace n b) = ap (Replace n) (landed f n b)
inverse_twice f c = refl

-- ---- changes in order

pub effects-append : (f : Folder) (cs ds : List Change) → effects f (cs ++ ds) ≡ effects (effects f cs) ds
unfolding effects
effects-append f [] ds = refl
effects-append f (c ∷ cs) ds = effects-append (effect f c) cs ds

pub are_applicable-append : (f : Folder) (cs ds : List Change) → IsTrue (are_applicable f cs) → IsTrue (are_applicable (effects f cs) ds) → IsTrue (are_applicable f (cs ++ ds))
unfolding effects are_applicable
are_applicable-append f [] ds h k = k
are_applicable-append f (c ∷ cs) ds h k = and_from _ _ (and_parts _ _ h).0 (are_applicable-append (effect f c) cs ds (and_parts _ _ h).1 k)

pub way_back-append : (f : Folder) (cs ds : List Change) → way_back f (cs ++ ds) ≡ way_back (effects f cs) ds ++ way_back f cs
unfolding effects way_back
way_back-append f [] ds = sym (append-nil (way_back f ds))
way_back-append f (c ∷ cs) ds = ap (λ l. l ++ inverse f c ∷ []) (way_back-append (effect f c) cs ds) ∙ append_assoc (way_back (effects (effect f c) cs) ds) (way_back (effect f c) cs) (inverse f c ∷ [])

pub undo_changes : (f : Folder) (cs : List Change) → IsTrue (are_applicable f cs) → effects (effects f cs) (way_back f cs) ≡ f
unfolding effects way_back are_applicable
undo_changes f [] h = refl
undo_changes f (c ∷ cs) h =
    effects-append _ (way_back (effect f c) cs) (inverse f c ∷ [])
    ∙ ap (λ g. effect g (inverse f c)) (undo_changes (effect f c) cs (and_parts _ _ h).1) ∙ undo_change f c (and_parts _ _ h).0

pub undo_are_applicable : (f : Folder) (cs : List Change) → IsTrue (are_applicable f cs) → IsTrue (are_applicable (effects f cs) (way_back f cs))
unfolding effects way_back are_applicable
undo_are_applicable f [] h = refl
undo_are_applicable f (c ∷ cs) h =
    let rest = (and_parts (is_applicable f c) (are_applicable (effect f c) cs) h).1 in
    are_applicable-append (effects (effect f c) cs) (way_back (effect f c) cs) (inverse f c ∷ []) (undo_are_applicable (effect f c) cs rest)
    (subst (λ g. IsTrue (are_applicable g (inverse f c ∷ []))) (sym (undo_changes (effect f c) cs rest)) (and_from _ _ (undo_is_applicable f c (and_parts _ _ h).0) refl))

pub way_back_twice : (f : Folder) (cs : List Change) → IsTrue (are_applicable f cs) → way_back (effects f cs) (way_back f cs) ≡ cs
unfolding effects way_back are_applicable
way_back_twice f [] h = refl
way_back_twice f (c ∷ cs) h =
    let rest = (and_parts (is_applicable f c) (are_applicable (effect f c) cs) h).1 in
    let end = effects (effect f c) cs in
    grind (arith, (way_back-append end (way_back (effect f c) cs) (inverse f c ∷ [])), (undo_changes (effect f c) cs rest), (inverse_twice f c), (way_back_twice (effect f c) cs rest))

-- ---- a folder in memory

pub taken_is_applicable : (s : FolderState) (c : Change) → change_refusal s c ≡ None → IsTrue (is_applicable s.files c)
taken_is_applicable s c h = unfold change_refusal is_applicable in grind arith

has_room : (n : ℕ) → 0 < n → nat_lt 0 n ≡ true
has_room n h = grind (arith, nat_tests)

-- the inverse of a change that was taken is taken
pub inverse_taken : (s : FolderState) (c : Change) → change_refusal s c ≡ None → change_refusal (state_after s c) (inverse s.files c) ≡ None
unfolding change_refusal effect inverse
inverse_taken s (Write n b) h = rw (here s.files n b)
inverse_taken s (Replace n b) h = rw (here s.files n b)
inverse_taken s (Rename a b) h = grind (arith, here, left_behind)
inverse_taken s (Remove n) h = rw (nowhere s.files n, has_room (s.vacant + 1) (omega arith))

pub state_back : (s : FolderState) (c : Change) → change_refusal s c ≡ None → state_after (state_after s c) (inverse s.files c) ≡ s
state_back s c h = unfold change_refusal inverse in grind (arith, undo_change, taken_is_applicable)

pub takes_first : (s : FolderState) (c : Change) (cs : List Change) → IsTrue (takes_all s (c ∷ cs)) → change_refusal s c ≡ None
takes_first s c cs h = unfold takes_all in none_from _ (and_parts _ _ h).0

pub takes_rest : (s : FolderState) (c : Change) (cs : List Change) → IsTrue (takes_all s (c ∷ cs)) → IsTrue (takes_all (state_after s c) cs)
unfolding takes_all
takes_rest s c cs h = (and_parts _ _ h).1

pub takes_both : (s : FolderState) (c : Change) (cs : List Change) → change_refusal s c ≡ None → IsTrue (takes_all (state_after s c) cs) → IsTrue (takes_all s (c ∷ cs))
takes_both s c cs h k = unfold takes_all in and_from _ _ (ap is_none h) k

pub takes_none : (s : FolderState) → IsTrue (takes_all s [])
takes_none s = unfold takes_all in refl

pub takes_all-append : (s : FolderState) (cs ds : List Change) → IsTrue (takes_all s cs) → IsTrue (takes_all (state_after_all s cs) ds) → IsTrue (takes_all s (cs ++ ds))
unfolding state_after_all
takes_all-append s [] ds h k = k
takes_all-append s (c ∷ cs) ds h k = takes_both s c (cs ++ ds) (takes_first s c cs h) (takes_all-append (state_after s c) cs ds (takes_rest s c cs h) k)

pub state_after_all-append : (s : FolderState) (cs ds : List Change) → state_after_all s (cs ++ ds) ≡ state_after_all (state_after_all s cs) ds
unfolding state_after_all
state_after_all-append s [] ds = refl
state_after_all-append s (c ∷ cs) ds = state_after_all-append (state_after s c) cs ds

pub state_files : (s : FolderState) (cs : List Change) → (state_after_all s cs).files ≡ effects s.files cs
unfolding state_after_all effects
state_files s [] = refl
state_files s (c ∷ cs) = state_files (state_after s c) cs

pub taken_are_applicable : (s : FolderState) (cs : List Change) → IsTrue (takes_all s cs) → IsTrue (are_applicable s.files cs)
unfolding are_applicable
taken_are_applicable s [] h = refl
taken_are_applicable s (c ∷ cs) h = and_from _ _ (taken_is_applicable s c (takes_first s c cs h)) (taken_are_applicable (state_after s c) cs (takes_rest s c cs h))

pub state_all_back : (s : FolderState) (cs : List Change) → IsTrue (takes_all s cs) → state_after_all (state_after_all s cs) (way_back s.files cs) ≡ s
unfolding state_after_all way_back
state_all_back s [] h = refl
state_all_back s (c ∷ cs) h = grind (arith, state_after_all-append, takes_rest, state_back, takes_first, state_all_back (state_after s c) cs (takes_rest s c cs h))

pub way_back_taken : (s : FolderState) (cs : List Change) → IsTrue (takes_all s cs) → IsTrue (takes_all (state_after_all s cs) (way_back s.files cs))
unfolding state_after_all way_back
way_back_taken s [] h = takes_none s
way_back_taken s (c ∷ cs) h =
    let next = state_after s c in
    let rest = takes_rest s c cs h in
    takes_all-append (state_after_all next cs) (way_back next.files cs) (inverse s.files c ∷ []) (way_back_taken next cs rest)
    (subst (λ t. IsTrue (takes_all t (inverse s.files c ∷ []))) (sym (state_all_back next cs rest)) (takes_both next (inverse s.files c) [] (inverse_taken s c (takes_first s c cs h)) (takes_none _)))

pub changes_back : (s : FolderState) (cs : List Change) → IsTrue (takes_all s cs) → way_back (state_after_all s cs).files (way_back s.files cs) ≡ cs
changes_back s cs h = ap (λ f. way_back f (way_back s.files cs)) (state_files s cs) ∙ way_back_twice s.files cs (taken_are_applicable s cs h)

-- ---- room

-- the same files with more vacant places
abbrev pub with_room : FolderState → ℕ → FolderState
with_room s k = record { files = s.files; vacant = s.vacant + k }

pub more_room_all : (s : FolderState) (k : ℕ) (cs : List Change) → IsTrue (takes_all s cs) → IsTrue (takes_all (with_room s k) cs) × (state_after_all (with_room s k) cs ≡ with_room (state_after_all s cs) k)
unfolding change_refusal state_after_all
more_room_all s k [] h = (takes_none _, refl)
more_room_all s k (c ∷ cs) h = grind (arith, common_steps, takes_first, takes_rest, takes_both, more_room_all (state_after s c) k cs (takes_rest s c cs h))

-- with enough vacant places a folder in memory takes changes that apply in order
pub takes_applicable : (s : FolderState) (cs : List Change) → IsTrue (are_applicable s.files cs) → places_taken cs ≤ s.vacant → IsTrue (takes_all s cs)
unfolding are_applicable change_refusal is_applicable
takes_applicable s [] h room = takes_none s
takes_applicable s (c ∷ cs) h room =
    let fits : change_refusal s c ≡ None = grind (arith, has_room, and_parts, not-true) in
    let left : places_taken cs ≤ (state_after s c).vacant = grind arith in
    takes_both s c cs fits (takes_applicable (state_after s c) cs (and_parts (is_applicable s.files c) _ h).1 left)

-- The changes of a command lead to its folder.

pub put_in : (b : Bool) (folder : Folder) (name bytes : List ℕ) → effect folder (if b then Replace name bytes else Write name bytes) ≡ map_of.insert folder name bytes
put_in b folder name bytes = unfold effect in grind arith

all_put_in : (test : List ℕ → Bool) (folder : Folder) (files : List File) → effects folder (map (λ file. if test file.0 then Replace file.0 file.1 else Write file.0 file.1) files) ≡ laid_over files folder
unfolding effects laid_over
all_put_in test folder [] = refl
all_put_in test folder (file ∷ files) = grind (arith, (put_in (test file.0) folder file.0 file.1), (all_put_in test (map_of.insert folder file.0 file.1) files))

pub create_leads : (folder : Folder) (a : CreateArgs) → effects folder (create_changes folder a) ≡ laid_over (outputs_of folder a) folder
create_leads folder a = all_put_in (has folder) folder (outputs_of folder a)

-- a test agrees on names that compare as equal
alike : (p : List ℕ → Bool) (q x : List ℕ) → slice_cmp nat_cmp q x ≡ Equal → p x ≡ p q
alike p q x e = ap p (sym (slice_cmp-IsAntisymmetric nat_cmp-IsAntisymmetric q x e))

pub gone_first : (folder : Folder) (name : List ℕ) (names : List (List ℕ)) → without names (map_of.remove folder name) ≡ without (name ∷ names) folder
gone_first folder name names = same_folder _ _ (λ q.
    get-retain_keys _ (λ x. not (is_among names x)) q (alike (λ x. not (is_among names x)) q)
    ∙ ap (λ g. cond (not (is_among names q)) g None) (get-remove nat_list_cmp_total folder name q ∙ ap (λ b. cond b None (map_of.get folder q)) (is_eq-slice_cmp q name))
    ∙ grind arith
    ∙ sym (get-retain_keys folder (λ x. not (is_among (name ∷ names) x)) q (alike (λ x. not (is_among (name ∷ names) x)) q)))

pub none_gone : (folder : Folder) → folder ≡ without [] folder
none_gone folder = same_folder _ _ (λ q. sym (get-retain_keys folder (λ x. true) q (λ x e. refl)))

-- removing files one after the other leaves the folder without them
pub removals_lead : (folder : Folder) (names : List (List ℕ)) → effects folder (map Remove names) ≡ without names folder
unfolding effects effect
removals_lead folder [] = none_gone folder
removals_lead folder (name ∷ names) = removals_lead (map_of.remove folder name) names ∙ gone_first folder name names

-- A session follows its history, and a session in memory keeps its capacity.

-- ---- results of actions

ok_or_else : {A E : Type 0} → A → Result A E → A
ok_or_else a (Ok x) = x
ok_or_else a (Err e) = a

pub same_ok : {A E : Type 0} (x y : A) → ◌≡◌ {A = Result A E} (Ok x) (Ok y) → x ≡ y
same_ok x y e = unfold ok_or_else in ap (ok_or_else x) e

pub ok_no_err : {A E : Type 0} (x : A) (y : E) → ◌≡◌ {A = Result A E} (Ok x) (Err y) → ⊥
ok_no_err x y e = false≢true (sym (ap is_ok e))

-- ---- an entry and its way back

-- the folders along the way back and further entries
along_back : (folder : Folder) (cs : List Change) (entries : List (List Change)) → are_applicable folder cs ≡ true → folders_along (effects folder cs) (way_back folder cs ∷ entries) ≡ folder ∷ folders_along folder entries
along_back folder cs entries h = unfold folders_along in ap (λ f. f ∷ folders_along f entries) (undo_changes folder cs h)

leads_back : (folder : Folder) (cs : List Change) (entries : List (List Change)) → are_applicable folder cs ≡ true → leads folder entries ≡ true → leads (effects folder cs) (way_back folder cs ∷ entries) ≡ true
leads_back folder cs entries h l = unfold leads in and_from _ _ (undo_are_applicable folder cs h) (ap (λ f. leads f entries) (undo_changes folder cs h) ∙ l)

-- ---- an accepted action

-- the session after an accepted action is that of the history after it, and its entries can be applied again
abbrev IsNext : Session → Action → Session → Type 0
IsNext s action t = (history_after (history_of s) action ≡ Ok (history_of t)) × (is_valid t ≡ true)

done_next : (s t : Session) (command : Command) (o : Option Fault) → is_valid s ≡ true → (o ≡ None → LeadsToAfter s.folder command) → session_unless s (Do command) (changes_unless o (changes_of s.folder command)) ≡ Ok t
    → (unless_refused o (after_command command (history_of s)) ≡ Ok (history_of t)) × (is_valid t ≡ true)
done_next s t command o v l h = unfold folders_along history_of leads session_with in grind (arith, ok_no_err, same_ok, along_back, and_from, leads_back, and_parts)

abbrev session_at : Folder → List (List Change) → List (List Change) → Session
session_at folder undos redos = record { folder = folder; undos = undos; redos = redos }

undo_next : (folder : Folder) (undos redos : List (List Change)) (t : Session) → is_valid (session_at folder undos redos) ≡ true → session_unless (session_at folder undos redos) Undo (first_entry NothingToUndo undos) ≡ Ok t
    → (after_undo folder (folders_along folder undos) (folders_along folder redos) ≡ Ok (history_of t)) × (is_valid t ≡ true)
undo_next folder undos redos t v h = unfold session_with history_of folders_along leads in grind (arith, ok_no_err, same_ok, and_parts, along_back, and_from, leads_back)

redo_next : (folder : Folder) (undos redos : List (List Change)) (t : Session) → is_valid (session_at folder undos redos) ≡ true → session_unless (session_at folder undos redos) Redo (first_entry NothingToRedo redos) ≡ Ok t
    → (after_redo (folders_along folder undos) folder (folders_along folder redos) ≡ Ok (history_of t)) × (is_valid t ≡ true)
redo_next folder undos redos t v h = unfold session_with history_of folders_along leads in grind (arith, ok_no_err, same_ok, and_parts, along_back, and_from, leads_back)

-- a session whose entries can be applied follows its history, and they can be applied again
pub accepted_next : (s t : Session) (action : Action) → is_valid s ≡ true → LeadsToAfterRequested s.folder action → session_after s action ≡ Ok t → IsNext s action t
unfolding session_after changes_requested history_after history_of
accepted_next s t (Do command) v l h = done_next s t command (refusal s.folder command) v l h
accepted_next s t Undo v l h = undo_next s.folder s.undos s.redos t v h
accepted_next s t Redo v l h = redo_next s.folder s.undos s.redos t v h

-- ---- a refused action

pub refused_alike : (s : Session) (action : Action) (reason : Refusal) → session_after s action ≡ Err reason → history_after (history_of s) action ≡ Err reason
refused_alike s action reason e = unfold session_after changes_requested history_after history_of in grind arith

-- ---- runs of commands

changed_older : (h next : History) (action : Action) → IsChanging action → history_after h action ≡ Ok next → next.older ≡ h.now ∷ h.older
changed_older h next action is e = unfold history_after in grind arith

drop_one_more : {A : Type 0} (n : ℕ) (xs : List A) (y : A) (ys : List A) → drop n xs ≡ y ∷ ys → drop (suc n) xs ≡ ys
drop_one_more (suc n) (x ∷ xs) y ys e = drop_one_more n xs y ys e
drop_one_more n xs y ys e = grind arith

-- n accepted commands leave the n folders before them
pub run_leaves : (start end : History) (actions : List Action) (n : ℕ) → Execution start actions n end → AllByRecursion IsChanging actions → drop n (folders end) ≡ folders start
run_leaves start end actions n Ended is = refl
run_leaves start end actions n (Accepted {next = next} {action = action} {actions = rest} {n = m} e run) is = grind (arith, drop_one_more, changed_older, run_leaves next end rest m run is.1)
run_leaves start end actions n (Passed {actions = rest} may run) is = run_leaves start end rest n run is.1

pub none_dropped : {A : Type 0} (n : ℕ) (y : A) (ys : List A) → drop n [] ≡ y ∷ ys → ⊥
none_dropped n y ys e = let k : 0 ≡ suc (length ys) = ap length (sym (drop-nil n) ∙ e) in omega (arith, k)

abbrev Undone : ℕ → History → Folder → List Folder → Type 0
Undone n h folder older = (back : History) × Execution h (replicate n Undo) n back × (folders back ≡ folder ∷ older)

one_undone : (n : ℕ) (h : History) (folder : Folder) (older : List Folder) (fs : List Folder) → h.older ≡ fs → drop n fs ≡ folder ∷ older
    → ((next : History) → drop n (folders next) ≡ folder ∷ older → Undone n next folder older) → Undone (suc n) h folder older
unfolding history_after
one_undone n h folder older [] i k later = absurd (none_dropped n folder older k)
one_undone n h folder older (f ∷ fs) i k later =
    let r = later (record { older = fs; now = f; newer = h.now ∷ h.newer }) k in
    (r.0, Accepted (ap (λ o. after_undo h.now o h.newer) i) r.1, r.2)

-- n undos go back n folders
undos_pass : (n : ℕ) (h : History) (folder : Folder) (older : List Folder) → drop n (folders h) ≡ folder ∷ older → Undone n h folder older
undos_pass zero h folder older e = (h, Ended, e)
undos_pass (suc n) h folder older e = one_undone n h folder older h.older refl e (λ next k. undos_pass n next folder older k)

-- n undos after n accepted commands lead back
pub undos_lead_back : (start end : History) (actions : List Action) (n : ℕ) → Execution start actions n end → AllByRecursion IsChanging actions → (back : History) × Execution end (replicate n Undo) n back × (folders back ≡ folders start)
undos_lead_back start end actions n run is = undos_pass n end start.now start.older (run_leaves start end actions n run is)

-- ---- sessions in memory

pub done_of_kept : (s : KeptSession) (command : Command) (cs : List Change) → IsChanging (Do command) → session_of_kept (kept_done s cs) ≡ session_with (session_of_kept s) (Do command) cs
done_of_kept s command cs is = unfold kept_done session_with in grind (arith, state_files)

pub undone_of_kept : (s : KeptSession) (cs : List Change) → session_of_kept (kept_undone s cs) ≡ session_with (session_of_kept s) Undo cs
undone_of_kept s cs = unfold kept_undone session_with in λ i. record { folder = state_files s.folder cs i; undos = others s.undos; redos = way_back s.folder.files cs ∷ s.redos }

pub redone_of_kept : (s : KeptSession) (cs : List Change) → session_of_kept (kept_redone s cs) ≡ session_with (session_of_kept s) Redo cs
redone_of_kept s cs = unfold kept_redone session_with in λ i. record { folder = state_files s.folder cs i; undos = way_back s.folder.files cs ∷ s.undos; redos = others s.redos }

-- the entries can be walked after the way back
walks_back : (folder : FolderState) (cs : List Change) (entries : List (List Change)) → takes_all folder cs ≡ true → walks folder entries ≡ true → walks (state_after_all folder cs) (way_back folder.files cs ∷ entries) ≡ true
walks_back folder cs entries h w = unfold walks in and_from _ _ (way_back_taken folder cs h) (ap (λ f. walks f entries) (state_all_back folder cs h) ∙ w)

pub done_can_walk : (s : KeptSession) (cs : List Change) → CanWalk s → takes_all s.folder cs ≡ true → CanWalk (kept_done s cs)
done_can_walk s cs c h = unfold kept_done walks in record { back = walks_back s.folder cs s.undos h c.back; forth = refl }

-- the folder takes the next entry, and the later entries can be walked
pub next_taken : (folder : FolderState) (entries : List (List Change)) (cs : List Change) (rest : List (List Change)) → walks folder entries ≡ true → entries ≡ cs ∷ rest → (takes_all folder cs ≡ true) × (walks (state_after_all folder cs) rest ≡ true)
next_taken folder entries cs rest w e = unfold walks in and_parts (takes_all folder cs) (walks (state_after_all folder cs) rest) (sym (ap (walks folder) e) ∙ w)

pub undone_can_walk : (s : KeptSession) (cs : List Change) (rest : List (List Change)) → CanWalk s → s.undos ≡ cs ∷ rest → CanWalk (kept_undone s cs)
undone_can_walk s cs rest c e = unfold kept_undone in grind (arith, (next_taken s.folder s.undos cs rest c.back e), walks_back)

pub redone_can_walk : (s : KeptSession) (cs : List Change) (rest : List (List Change)) → CanWalk s → s.redos ≡ cs ∷ rest → CanWalk (kept_redone s cs)
redone_can_walk s cs rest c e = unfold kept_redone in grind (arith, (next_taken s.folder s.redos cs rest c.forth e), walks_back)

-- ---- capacity

roomier_walks : (folder : FolderState) (k : ℕ) (entries : List (List Change)) → walks folder entries ≡ true → walks (with_room folder k) entries ≡ true
unfolding walks
roomier_walks folder k [] h = refl
roomier_walks folder k (entry ∷ entries) h =
    let r = and_parts (takes_all folder entry) (walks (state_after_all folder entry) entries) h in
    let more = more_room_all folder k entry r.0 in
    and_from _ _ more.0 (ap (λ f. walks f entries) more.1 ∙ roomier_walks (state_after_all folder entry) k entries r.1)

roomier : (old new : FolderState) → new.files ≡ old.files → old.vacant ≤ new.vacant → with_room old (new.vacant - old.vacant) ≡ new
roomier old new e h = grind arith

pub same_session : (old new : KeptSession) → OnlyGrew old new → session_of_kept new ≡ session_of_kept old
same_session old new grew = λ i. record { folder = grew.files i; undos = grew.undos i; redos = grew.redos i }

pub grown_can_walk : (old new : KeptSession) → CanWalk old → OnlyGrew old new → CanWalk new
grown_can_walk old new c g =
    let same = roomier old.folder new.folder g.files g.vacant in
    let places = new.folder.vacant - old.folder.vacant in
    record {
      back = sym (ap (λ f. walks f new.undos) same) ∙ ap (walks (with_room old.folder places)) g.undos ∙ roomier_walks old.folder places old.undos c.back;
      forth = sym (ap (λ f. walks f new.redos) same) ∙ ap (walks (with_room old.folder places)) g.redos ∙ roomier_walks old.folder places old.redos c.forth;
    }

pub walked_leads : (folder : FolderState) (entries : List (List Change)) → walks folder entries ≡ true → leads folder.files entries ≡ true
unfolding walks leads
walked_leads folder [] h = refl
walked_leads folder (entry ∷ entries) h =
    let r = and_parts (takes_all folder entry) (walks (state_after_all folder entry) entries) h in
    and_from _ _ (taken_are_applicable folder entry r.0) (ap (λ f. leads f entries) (sym (state_files folder entry)) ∙ walked_leads (state_after_all folder entry) entries r.1)

pub walked_is_valid : (s : KeptSession) → CanWalk s → is_valid (session_of_kept s) ≡ true
walked_is_valid s c = and_from _ _ (walked_leads s.folder s.undos c.back) (walked_leads s.folder s.redos c.forth)

-- ---- places

-- changes take vacant places only for the files that they write
places_left : (folder : FolderState) (cs : List Change) → folder.vacant ≤ (state_after_all folder cs).vacant + places_taken cs
unfolding state_after_all
places_left folder [] = omega arith
places_left folder (c ∷ cs) = grind (arith, (places_left (state_after folder c) cs))

-- with a place for each file that the entries write, entries that lead can be walked
pub leading_walks : (folder : FolderState) (entries : List (List Change)) → leads folder.files entries ≡ true → sum_by places_taken entries ≤ folder.vacant → walks folder entries ≡ true
unfolding leads walks
leading_walks folder [] h room = refl
leading_walks folder (entry ∷ entries) h room =
    let r = and_parts (are_applicable folder.files entry) (leads (effects folder.files entry) entries) h in
    let split : sum_by places_taken (entry ∷ entries) ≡ places_taken entry + sum_by places_taken entries = sum_by-cons places_taken entry entries in
    and_from _ _ (takes_applicable folder entry r.0 (omega (arith, room, split)))
    (leading_walks (state_after_all folder entry) entries (ap (λ f. leads f entries) (state_files folder entry) ∙ r.1) (omega (arith, room, split, places_left folder entry)))
