-- Changes in order, one by one.
use Rattle.par2_files.proofs.Common.{◌≡◌, ℕ, suc, ◌+◌, ◌<◌, ◌≤◌, List, [], ◌∷◌, ◌++◌, length, map, take, drop, get_or, set, None, IsTrue, refl, sym, ap, subst, ◌∙◌, append_assoc, append-nil, add-one, drop-cons, arith, take-suc-set, reverse-append, map-append, drop-set-lt, take_all, drop_all, Folder, FolderState, change_refusal, effect, inverse, state_after, takes_all, state_after_all, way_back, Change, takes_first, takes_rest, common_steps, take-map, drop-map, length-map, Bool, true, not, ◌&&◌, ◌||◌, ◌==◌, nat_le, nat_eq, codes, IsUtf8, list_any, starts_with, reverse, bytes_eq, is_utf8-from_IsUtf8, map-reverse, is_name}

-- the inverses in the order of the changes
abbrev pub inverses : Folder → List Change → List Change
inverses folder [] = []
inverses folder (change ∷ changes) = inverse folder change ∷ inverses (effect folder change) changes

inverses_reversed : (folder : Folder) (changes : List Change) → reverse (inverses folder changes) ≡ way_back folder changes
unfolding way_back
inverses_reversed folder [] = refl
inverses_reversed folder (change ∷ changes) = grind (arith, common_steps, reverse-append, inverses_reversed (effect folder change) changes)

-- ---- a loop that applies changes in order, seen through v: the list was `given` at first, and is `now` at position i

module _ {A : Type 0} (v : A → Change) where
  pub record IsOnItsWay (start state : FolderState) (given now : List A) (i : ℕ) : Type 0 where
    pub taken : IsTrue (takes_all state (map v (drop i given)))
    pub after : state_after_all state (map v (drop i given)) ≡ state_after_all start (map v given)
    pub left : drop i now ≡ drop i given
    pub back : map v (take i now) ++ inverses state.files (map v (drop i given)) ≡ inverses start.files (map v given)

  module _ (start state : FolderState) (given now : List A) (i : ℕ) (so_far : IsOnItsWay start state given now i) (lt : i < length now) (lt_given : i < length given) (x : A) (is : x ≡ get_or now i x) where
    split : drop i given ≡ x ∷ drop (suc i) given
    split = grind (arith, is, so_far.left, drop-cons now i x lt, drop-cons given i x lt_given)

    rest : drop (suc i) now ≡ drop (suc i) given
    rest = grind (arith, so_far.left, drop-cons now i x lt, drop-cons given i x lt_given)

    taken_now : IsTrue (takes_all state (v x ∷ map v (drop (suc i) given)))
    taken_now = subst (λ l. IsTrue (takes_all state (map v l))) split so_far.taken

    pub is_accepted : change_refusal state (v x) ≡ None
    is_accepted = takes_first state (v x) _ taken_now

    pub goes_on : (next : FolderState) (y : A) → next ≡ state_after state (v x) → v y ≡ inverse state.files (v x) → IsOnItsWay start next given (set now i y) (i + 1)
    unfolding state_after_all
    goes_on next y moved inverted = grind (
      arith,
      moved,
      inverted,
      split,
      rest,
      so_far.after,
      so_far.back,
      takes_rest state (v x) _ taken_now,
      add-one,
      append_assoc,
      map-append,
      drop-set-lt (suc i) now i y (omega arith),
      take-suc-set now i y lt,
    )

  pub sets_out : (start : FolderState) (given : List A) → IsTrue (takes_all start (map v given)) → IsOnItsWay start start given given 0
  sets_out start given h = record { taken = h; after = refl; left = refl; back = refl }

  -- at the end
  pub arrived : (start state : FolderState) (given now : List A) (i : ℕ) → IsOnItsWay start state given now i → length given ≤ i → state ≡ state_after_all start (map v given)
  unfolding state_after_all
  arrived start state given now i so_far over = grind (arith, so_far.after, drop_all i given over)

  pub reversed_round : (start state : FolderState) (given now : List A) (i : ℕ) → IsOnItsWay start state given now i → length given ≤ i → length now ≤ i → map v (reverse now) ≡ way_back start.files (map v given)
  reversed_round start state given now i so_far over over_now = grind (arith, map-reverse, take_all, append-nil, drop_all, inverses_reversed)

-- Changes that were borrowed mutably and written.

-- seen by f, the first n of the new items, filled up from the old ones
pub refilled : {A B : Type 0} (f : A → B) (n : ℕ) (old new : List A) → n ≡ length old
    → map f (take n (new ++ drop (length new) old)) ≡ take (length (map f old)) (map f new ++ drop (length (map f new)) (map f old))
refilled f n old new all =
    sym (take-map f n (new ++ drop (length new) old))
    ∙ ap (take n) (map-append f new (drop (length new) old) ∙ ap (λ l. map f new ++ l) (sym (drop-map f (length new) old)))
    ∙ (λ i. take ((all ∙ sym (length-map old f)) i) (map f new ++ drop (sym (length-map new f) i) (map f old)))

-- When a string is a name.

-- the parts of the test
parts : (l u s z d e r : Bool) → u ≡ true → (l && u && not s && not z && not d && not e && not r) ≡ (l && not s && not z && not (d || e) && not r)
parts l u s z d e r h = grind arith

pub name_parts : (bytes : List ℕ) → IsUtf8 bytes → is_name bytes ≡ (nat_le 1 (length bytes) && nat_le (length bytes) 255 && not (list_any (λ b. b == 0x2F) bytes) && not (list_any (λ b. b == 0) bytes) && not (bytes_eq bytes (codes ".") || bytes_eq bytes (codes "..")) && not (starts_with nat_eq bytes (codes ".par2undo")))
unfolding is_name
name_parts bytes h = parts (nat_le 1 (length bytes) && nat_le (length bytes) 255) _ _ _ _ _ _ (is_utf8-from_IsUtf8 bytes h)
