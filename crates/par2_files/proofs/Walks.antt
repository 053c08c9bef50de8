-- States of groups of equal folders, from one split to the next along changes.
use Rattle.par2_files.proofs.Common.{◌≡◌, ℕ, suc, ◌+◌, ◌<◌, ◌≤◌, Bool, cond, IsTrue, List, [], ◌∷◌, ◌++◌, Bor, length, map, take, drop, get_or, refl, sym, ap, subst, ◌∙◌, append_assoc, append-nil, add-one, drop-cons, arith, drop_all, map-append, take_more, and_parts, md5, HasAbsorbed, buffers_of, Midstate, Folder, fingerprint, effect, is_applicable, are_applicable, folders_after, AreFolderFiles, change_of, group_buffers, bytes_before, touches, later_buffers, AreTo, HaveAbsorbed, files_in, folder_in, Split, Beginning, End, common_steps, ◌⊎◌, false, ◌-◌, false≢true, message_of, AbsorbsTo, Pending, ReachEach, bytes_where, is_below, comes_before, AreCheckpointsOf, Absorbing, Snapshot}
use Rattle.par2_files.specs.declared.change.Change.{Change}
use Rattle.par2_files.proofs.SortedFiles.{no_bytes, bytes_on, whole_bytes, taken_on}
use Rattle.par2_spec.specs.Changes as defined

-- ---- states and messages one by one

pub as_many : (states : List Midstate) (buffers : List (List ℕ)) → HaveAbsorbed states buffers → length buffers ≡ length states
as_many (s ∷ states) (t ∷ buffers) held = ap suc (as_many states buffers held.1)
as_many states buffers held = grind (arith)

pub absorbed_at : (states : List Midstate) (buffers : List (List ℕ)) (i : ℕ) (d : Midstate) → HaveAbsorbed states buffers → i < length states → HasAbsorbed (get_or states i d) (get_or buffers i [])
absorbed_at (s ∷ states) (t ∷ buffers) (suc i) d held lt = absorbed_at states buffers i d held.1 (omega (arith, lt))
absorbed_at states buffers i d held lt = grind (arith)

-- one more message after others
pub bytes_more : (before : List (List ℕ)) (buffers : List (Bor (List ℕ))) (i : ℕ) (none : Bor (List ℕ)) → i < length buffers
    → (before ++ buffers_of (take i buffers)) ++ (get_or buffers i none).now ∷ [] ≡ before ++ buffers_of (take (i + 1) buffers)
bytes_more before buffers i none low = grind (arith, common_steps, append_assoc, take_more, map-append)

-- the state at a position with a message still to come
pub in_range : (states : List Midstate) (place : ℕ) (bytes : List ℕ) (buffers : List (List ℕ)) → HaveAbsorbed (drop place states) (bytes ∷ buffers) → place < length states
in_range (s ∷ states) (suc place) bytes buffers held = let low = in_range states place bytes buffers held in omega arith
in_range states place bytes buffers held = grind (arith, common_steps)

pub absorbed_here : (states : List Midstate) (place : ℕ) (d : Midstate) (bytes : List ℕ) (buffers : List (List ℕ)) → HaveAbsorbed (drop place states) (bytes ∷ buffers) → HasAbsorbed (get_or states place d) bytes
absorbed_here (s ∷ states) (suc place) d bytes buffers held = absorbed_here states place d bytes buffers held
absorbed_here states place d bytes buffers held = grind (arith, common_steps)

pub absorbed_behind : (states : List Midstate) (place : ℕ) (bytes : List ℕ) (buffers : List (List ℕ)) → HaveAbsorbed (drop place states) (bytes ∷ buffers) → HaveAbsorbed (drop (suc place) states) buffers
absorbed_behind (s ∷ states) (suc place) bytes buffers held = absorbed_behind states place bytes buffers held
absorbed_behind states place bytes buffers held = grind (arith, common_steps)

-- one more digest
pub digested_more : (digests new : List (List ℕ)) (digest : List ℕ) (buffers : List (List ℕ)) (i : ℕ) → i < length buffers → new ≡ digests ++ digest ∷ []
    → digests ≡ map md5 (take i buffers) → digest ≡ md5 (get_or buffers i []) → new ≡ map md5 (take (i + 1) buffers)
digested_more digests new digest buffers i lt pushed so_far is = grind (arith, common_steps, take_more, map-append)

-- ---- a change

-- the states that are left after a change
next_parents : (from : Split) (folder : Folder) (change : defined.Change) (rest : List defined.Change) (states : List Midstate) (place : ℕ)
    → HaveAbsorbed (drop place states) (group_buffers from folder (change ∷ rest))
    → HaveAbsorbed (drop (cond (touches from change) (place + 1) place) states) (group_buffers from (effect folder change) rest)
unfolding later_buffers
next_parents from folder change rest states place held = grind (arith, add-one, absorbed_behind, bytes_on)

-- ---- a walk from one split to another

-- the progress of the walk, with these changes still to come
pub record IsWithin (from to : Split) (states : List Midstate) (folder : Folder) (changes : List Change) (snapshot : Snapshot) (absorbing : Absorbing) (place : ℕ) (rest : List Change) : Type 0 where
  pub applicable : IsTrue (are_applicable (folder_in snapshot) (map change_of rest))
  pub parents : HaveAbsorbed (drop place states) (group_buffers from (folder_in snapshot) (map change_of rest))
  pub done : List (List ℕ)
  pub reached : AreTo absorbing done
  pub whole : done ++ later_buffers to (folder_in snapshot) (map change_of rest) ≡ group_buffers to folder (map change_of changes)

module _ {from to : Split} {states : List Midstate} {folder : Folder} {changes : List Change} where
  module _ {snapshot : Snapshot} {absorbing : Absorbing} {place i : ℕ} (within : IsWithin from to states folder changes snapshot absorbing place (drop i changes)) (lt : i < length changes) {change : Change} (is : change ≡ get_or changes i change) where
    split : drop i changes ≡ change ∷ drop (suc i) changes
    split = drop-cons changes i change lt ∙ ap (λ c. c ∷ drop (suc i) changes) (sym is)

    rest : List defined.Change
    rest = map change_of (drop (suc i) changes)

    pub next_applicable : IsTrue (is_applicable (folder_in snapshot) (change_of change))
    unfolding are_applicable
    next_applicable = (and_parts _ _ (subst (λ l. IsTrue (are_applicable (folder_in snapshot) (map change_of l))) split within.applicable)).0

    module _ {there : ℕ} (place_is : there ≡ cond (touches from (change_of change)) (place + 1) place) where
      pub parents_then : HaveAbsorbed (drop there states) (group_buffers from (effect (folder_in snapshot) (change_of change)) (map change_of (drop (suc i) changes)))
      parents_then = grind (arith, effect, next_parents, split)

      pub goes_on : (next : Snapshot) → folder_in next ≡ effect (folder_in snapshot) (change_of change) → (more : Absorbing)
          → (begins : Bool) → touches to (change_of change) ≡ begins → AreTo more (within.done ++ cond begins (bytes_before to (folder_in next) ∷ []) [])
          → IsWithin from to states folder changes next more there (drop (i + 1) changes)
      unfolding are_applicable later_buffers
      goes_on next after more begins is_begun reached = grind (arith, common_steps, rest, add-one, split, parents_then, append_assoc)

  -- at the end
  pub arrived : {snapshot : Snapshot} {absorbing : Absorbing} {place i : ℕ} → IsWithin from to states folder changes snapshot absorbing place (drop i changes) → length changes ≤ i
      → AreTo absorbing (group_buffers to folder (map change_of changes))
  unfolding later_buffers
  arrived {snapshot = snapshot} {absorbing = absorbing} {i = i} within over = grind (arith, drop_all, append-nil)

-- ---- the start of a walk

-- no change touches a name before the split
abbrev AreBehind : Split → List Change → Type 0
AreBehind split changes = (i : ℕ) (none : Change) → i < length changes → touches split (change_of (get_or changes i none)) ≡ false

none_later : (split : Split) (folder : Folder) (changes : List Change) → AreBehind split changes → later_buffers split folder (map change_of changes) ≡ []
unfolding later_buffers
none_later split folder [] behind = refl
none_later split folder (change ∷ changes) behind =
    grind (arith, behind 0 change, none_later split (effect folder (change_of change)) changes (λ i none lt. behind (suc i) none (omega (arith, lt))))

-- one state, at a split with no changed name before it
pub sets_out : (split : Split) (folder : Folder) (changes : List Change) (state : Midstate) → AreBehind split changes → HasAbsorbed state (bytes_before split folder)
    → HaveAbsorbed (state ∷ []) (group_buffers split folder (map change_of changes))
sets_out split folder changes state behind held = grind (arith, none_later)

-- before all names the state has absorbed nothing
pub sets_out_first : (folder : Folder) (changes : List Change) (state : Midstate) → HasAbsorbed state [] → HaveAbsorbed (state ∷ []) (group_buffers Beginning folder (map change_of changes))
sets_out_first folder changes state held = sets_out Beginning folder changes state (λ i none lt. refl) (subst (HasAbsorbed state) (sym (no_bytes folder)) held)

-- ---- all folders

pub fingerprint_is : (folder : Folder) → md5 (bytes_before End folder) ≡ fingerprint folder
unfolding fingerprint
fingerprint_is folder = ap md5 (whole_bytes folder)

later_fingerprints : (folder : Folder) (changes : List defined.Change) → map md5 (later_buffers End folder changes) ≡ map fingerprint (folders_after folder changes)
unfolding later_buffers folders_after
later_fingerprints folder [] = refl
later_fingerprints folder (change ∷ changes) = λ k. fingerprint_is (effect folder change) k ∷ later_fingerprints (effect folder change) changes k

pub all_fingerprints : (folder : Folder) (changes : List defined.Change) → map md5 (group_buffers End folder changes) ≡ map fingerprint (folder ∷ folders_after folder changes)
all_fingerprints folder changes = λ k. fingerprint_is folder k ∷ later_fingerprints folder changes k

-- Steps of `fingerprint_with_checkpoints`.

-- once a pending state has absorbed its parts, it has absorbed the message that it was to absorb
pub behind : (pending : Pending) (bytes : List ℕ) (state : Midstate) → AbsorbsTo pending bytes
    → ((m : List ℕ) → HasAbsorbed pending.state m → HasAbsorbed state (m ++ message_of pending.parts.items)) → HasAbsorbed state bytes
behind pending bytes state reached held = subst (HasAbsorbed state) reached.1.1 (held reached.0 reached.1.0)

-- the next bytes that are absorbed
pub moved : (content : List ℕ) (from to : ℕ) (bytes : List ℕ) (state : Midstate) → from ≤ to → bytes ≡ take (to - from) (drop from content)
    → HasAbsorbed state (take from content ++ bytes) → HasAbsorbed state (take to content)
moved content from to bytes state le is held = subst (HasAbsorbed state) (ap (λ b. take from content ++ b) is ∙ taken_on content from to le) held

-- ---- states side by side and the messages that they absorb

-- one more
pub one_more : (states : List Midstate) (pendings : List Pending) (buffers : List (List ℕ)) (pending : Pending) (bytes : List ℕ) → ReachEach states pendings buffers → AbsorbsTo pending bytes
    → ReachEach states (pendings ++ pending ∷ []) (buffers ++ bytes ∷ [])
one_more (s ∷ states) pendings (t ∷ buffers) pending bytes held reached = (held.0, one_more states pendings buffers pending bytes held.1 reached)
one_more [] (p ∷ pendings) (t ∷ buffers) pending bytes held reached = (held.0, one_more [] pendings buffers pending bytes held.1 reached)
one_more states pendings buffers pending bytes held reached = grind (arith)

-- the states once all have absorbed their parts
abbrev pub HaveAbsorbedMore : List Pending → List Midstate → Type 0
HaveAbsorbedMore pendings new = (k : ℕ) (m : List ℕ) (none : Pending) (no_state : Midstate) → k < length pendings → HasAbsorbed (get_or pendings k none).state m
    → HasAbsorbed (get_or new k no_state) (m ++ message_of (get_or pendings k none).parts.items)

behind_all : (pendings : List Pending) (new : List Midstate) (buffers : List (List ℕ)) → length pendings ≤ length new → HaveAbsorbedMore pendings new → ReachEach [] pendings buffers
    → ReachEach (take (length pendings) new) [] buffers
behind_all (p ∷ pendings) (s ∷ new) (t ∷ buffers) enough behind held = (
  subst (HasAbsorbed s) held.0.1.1 (behind 0 held.0.0 p s (omega arith) held.0.1.0),
  behind_all pendings new buffers (omega (arith, enough)) (λ k m none no_state lt absorbed. behind (suc k) m none no_state (omega (arith, lt)) absorbed) held.1,
)
behind_all pendings new buffers enough behind held = grind (arith)

pub settled : (states : List Midstate) (pendings : List Pending) (new : List Midstate) (buffers : List (List ℕ)) → length pendings ≤ length new → HaveAbsorbedMore pendings new
    → ReachEach states pendings buffers → ReachEach (states ++ take (length pendings) new) [] buffers
settled (s ∷ states) pendings new (t ∷ buffers) enough behind held = (held.0, settled states pendings new buffers enough behind held.1)
settled states pendings new buffers enough behind held = grind (arith, behind_all)
