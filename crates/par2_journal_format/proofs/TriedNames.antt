-- The names of a folder's files along changes.
use Rattle.par2_journal_format.proofs.Common.{◌≡◌, ℕ, ◌+◌, ◌<◌, ◌≤◌, Bool, true, false, ◌&&◌, List, [], ◌∷◌, length, map, drop, get_or, Option, Some, None, refl, sym, ap, ◌∙◌, arith, cond, is_some, drop_all, length-map, bytes_eq, Folder, has, Change, are_applicable, effect, effects, is_applicable, slice_cmp, nat_list_cmp_total, written, gone, leads, is_eq-slice_cmp, AreNamesOf, IsSet, eq_by_cmp, nat_cmp, eq_by_cmp_equiv}
use Rattle.std.specs.FinMap as map_of
use Rattle.par2_journal_format.proofs.Walks.{left_at}

-- ---- one change

module _ (files : Folder) (old new : List ℕ → Bool) (name : List ℕ) (are : AreNamesOf files old) where
  same_at : (q : List ℕ) → bytes_eq name q ≡ eq_by_cmp (slice_cmp nat_cmp) q name
  same_at q = sym (is_eq-slice_cmp name q) ∙ (eq_by_cmp_equiv nat_list_cmp_total).symm name q

  changed : (o : Option (List ℕ)) (after : Folder) → ((q : List ℕ) → map_of.get after q ≡ cond (eq_by_cmp (slice_cmp nat_cmp) q name) o (map_of.get files q)) → IsSet old new name (is_some o) → AreNamesOf after new
  changed o after is set q =
      set q ∙ (λ i. cond (same_at q i) (is_some o) (are q i)) ∙ some_where (eq_by_cmp (slice_cmp nat_cmp) q name) ∙ sym (ap is_some (is q))
    where
      some_where : (b : Bool) → cond b (is_some o) (has files q) ≡ is_some (cond b o (map_of.get files q))
      some_where true = refl
      some_where false = refl

  pub put_in : (bytes : List ℕ) → IsSet old new name true → AreNamesOf (map_of.insert files name bytes) new
  put_in bytes = changed (Some bytes) _ (written files name bytes)

  pub taken_out : IsSet old new name false → AreNamesOf (map_of.remove files name) new
  taken_out = changed None _ (gone files name)

-- ---- one after the other

module _ {W X B : Type 0} (v : W → X) (all : Folder → List X → B) (files : Folder) (given : List W) where
  -- the changes that are left lead from these files on as all of them do
  pub record IsSoFar (i : ℕ) (names : List ℕ → Bool) : Type 0 where
    pub now : Folder
    pub are : AreNamesOf now names
    pub same : all now (drop i (map v given)) ≡ all files (map v given)

  pub sets_out : (names : List ℕ → Bool) → AreNamesOf files names → IsSoFar 0 names
  sets_out names are = record { now = files; are = are; same = refl }

  module _ (i : ℕ) (names : List ℕ → Bool) (so_far : IsSoFar i names) where
    pub ends : length given ≤ i → all so_far.now [] ≡ all files (map v given)
    ends over = ap (all so_far.now) (sym (drop_all i (map v given) (omega (arith, over, length-map given v)))) ∙ so_far.same

    module _ (lt : i < length given) (w : W) (is : w ≡ get_or given i w) where
      pub here : all so_far.now (v w ∷ drop (i + 1) (map v given)) ≡ all files (map v given)
      here = ap (all so_far.now) (sym (left_at v given i lt w is)) ∙ so_far.same

      pub goes_on : (after : Folder) (next : List ℕ → Bool) → AreNamesOf after next → all so_far.now (v w ∷ drop (i + 1) (map v given)) ≡ all after (drop (i + 1) (map v given)) → IsSoFar (i + 1) next
      goes_on after next are step = record { now = after; are = are; same = sym step ∙ here }

-- ---- changes and entries one after the other

-- whether changes can be made, and the files after them
abbrev pub tried : Folder → List Change → Bool × Folder
tried f cs = (are_applicable f cs, effects f cs)

pub change_made : (f : Folder) (c : Change) (cs : List Change) → is_applicable f c ≡ true → tried f (c ∷ cs) ≡ tried (effect f c) cs
unfolding are_applicable effects
change_made f c cs can = ap (λ b. (b && are_applicable (effect f c) cs, effects (effect f c) cs)) can

pub change_refused : (f : Folder) (c : Change) (cs : List Change) → is_applicable f c ≡ false → false ≡ are_applicable f (c ∷ cs)
unfolding are_applicable
change_refused f c cs cannot = sym (ap (λ b. b && are_applicable (effect f c) cs) cannot)

pub all_made : (f : Folder) → tried f [] ≡ (true, f)
unfolding are_applicable effects
all_made f = refl

pub entry_made : (f : Folder) (e : List Change) (es : List (List Change)) → true ≡ are_applicable f e → leads f (e ∷ es) ≡ leads (effects f e) es
unfolding leads
entry_made f e es can = ap (λ b. b && leads (effects f e) es) (sym can)

pub entry_refused : (f : Folder) (e : List Change) (es : List (List Change)) → false ≡ are_applicable f e → false ≡ leads f (e ∷ es)
unfolding leads
entry_refused f e es cannot = ap (λ b. b && leads (effects f e) es) cannot

pub all_entries_made : (f : Folder) → leads f [] ≡ true
unfolding leads
all_entries_made f = refl
