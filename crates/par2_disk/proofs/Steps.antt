-- A write that may be refused, as a folder is filled.
use Rattle.par2_disk.proofs.Common.{◌≡◌, ◌+◌, ◌<◌, ◌≤◌, ℕ, List, Some, Result, IfErr, OnOk, OnErr, nat_lt, arith, FolderState, Write, state_after, change_refusal, effect, ◌∙◌, zero, suc, ◌⊎◌, inl, inr, ap, refl, sym, [], ◌∷◌, OnlyReads, nat_tests, false, All-more, All-nil, All-weaker, and_assoc, and_comm, bit_and, and_self, and_zero_r, has, ChangeFault, GivesNoMore, IsWithinThoseNamed, Ura, Val, vstruct, vnil, Logic, Goal, Step, step, Item, ‵, ◌$◌, fjoin, fpack, feq_i, RattleType, Valss, nothing, Struct, within}
use Rattle.par2_disk.specs.declared.store.Store.{Ghosts as StoreOf}
use Rattle.std.specs.FinMap as map_of

-- if there are places for n writes, the i-th leaves places for those after it; if there is a place, a new file is written
pub record IsWrittenAs (old new : FolderState) (name bytes : List ℕ) : Type 0 where
  pub places : (n i : ℕ) → n ≤ old.vacant + i → i < n → n ≤ new.vacant + (i + 1)
  pub written : has old.files name ≡ false → 0 < old.vacant → new.files ≡ map_of.insert old.files name bytes

pub tried : (C : Type 0) (old new : FolderState) (name bytes : List ℕ) (r : Result (Unit {0}) ChangeFault) → IfErr r (λ fault. change_refusal old (Write name bytes) ≡ Some fault) → OnErr r ((new ≡ old) × C) → OnOk r (new ≡ state_after old (Write name bytes)) → IsWrittenAs old new name bytes
unfolding change_refusal effect
tried C old new name bytes r refused unchanged done = grind (arith, nat_lt, nat_tests)

-- Permissions that are within others.

pub within_second : (a b : ℕ) → GivesNoMore (bit_and a b) b
within_second a b = and_assoc b a b ∙ ap (bit_and a) (and_self b)

pub within_first : (a b : ℕ) → GivesNoMore (bit_and a b) a
within_first a b = ap (λ n. bit_and n a) (and_comm a b) ∙ within_second b a ∙ and_comm b a

pub within_on : (a b c : ℕ) → GivesNoMore a b → GivesNoMore b c → GivesNoMore a c
within_on a b c first second = ap (λ n. bit_and n c) (sym first) ∙ and_assoc c a b ∙ ap (bit_and a) second ∙ first

pub apart_second : (a b g : ℕ) → bit_and b g ≡ 0 → bit_and (bit_and a b) g ≡ 0
apart_second a b g apart = and_assoc g a b ∙ ap (bit_and a) apart ∙ and_zero_r a

pub apart_within : (a b g : ℕ) → GivesNoMore a b → bit_and b g ≡ 0 → bit_and a g ≡ 0
apart_within a b g within apart = ap (λ n. bit_and n g) (sym within) ∙ apart_second a b g apart

pub kept_second : (a b g : ℕ) → bit_and b g ≡ g → bit_and (bit_and a b) g ≡ bit_and a g
kept_second a b g kept = and_assoc g a b ∙ ap (bit_and a) kept

zero_or_not : (n : ℕ) → (n ≡ 0) ⊎ (n ≡ 0 → ⊥)
zero_or_not zero = inl refl
zero_or_not (suc n) = inr (λ e. omega arith)

-- `left` are the permissions, limited to a mask in one case
module _ (permissions mask left test : ℕ) (closed : test ≡ 0 → left ≡ bit_and permissions mask) (opened : (test ≡ 0 → ⊥) → left ≡ permissions) where
  pub limited : GivesNoMore left permissions
  limited = elim (zero_or_not test) [ inl e ↦ rw (closed e) (within_first permissions mask) | inr other ↦ rw (opened other) (and_self permissions) ]

  pub unlimited : (g : ℕ) → bit_and mask g ≡ g → bit_and left g ≡ bit_and permissions g
  unlimited g kept = elim (zero_or_not test) [ inl e ↦ rw (closed e) (kept_second permissions mask g kept) | inr other ↦ ap (λ n. bit_and n g) (opened other) ]

pub narrower : (files : List (List ℕ × ℕ)) (name : List ℕ) (mode other : ℕ) → GivesNoMore mode other → IsWithinThoseNamed files name other → IsWithinThoseNamed files name mode
narrower files name mode other within held = All-weaker (λ (file : List ℕ × ℕ). file.0 ≡ name → GivesNoMore other file.1) (λ (file : List ℕ × ℕ). file.0 ≡ name → GivesNoMore mode file.1)
    (λ file had named. within_on _ _ _ within (had named)) files held

-- what the functions on modes are proved by
pub ruleset permissions = (within_first, within_second, within_on, apart_second, apart_within, limited, unlimited, narrower, All-more, All-nil)

-- The constructors of `Count`: a struct without fields owns nothing, whatever its ghost field is.

-- the machine value of a struct without fields
abbrev pub nothing_inside : Val
nothing_inside = vstruct vnil

-- what its fields are
abbrev pub no_fields : RattleType
no_fields = Struct (record { name = []; args = []; types = []; fields = [] })

-- owning its fields, and what it owns beside them, is trivial
pub made_of_nothing : {M : Type 1} {𝓤 : Ura M} {𝓛 : Logic 𝓤} {K : Type 0} {Γ : List (Item 𝓤)} {G : Goal 𝓤 𝓛.H} → K → Step K 𝓛 (‵ (no_fields.own_val tt (nothing_inside ∷ [])) ∷ Γ) G Γ G
made_of_nothing t = step (λ rest.
    nothing t $ feq_i t (List Val) (nothing_inside ∷ []) (nothing_inside ∷ []) refl $ fjoin t
    $ fpack t (Valss []) (within (record { name = []; args = []; types = []; fields = [] }) tt (nothing_inside ∷ [])) tt $ rest)

-- Calls of a store, one after the other.

pub reads_on : {S : Type 0} {store : StoreOf S} {old between new : S} → OnlyReads store old between → OnlyReads store between new → OnlyReads store old new
reads_on first second = record {
  honest = λ h. second.honest (first.honest h);
  same = λ h. second.same (first.honest h) ∙ first.same h;
  remains = λ h left may. first.remains h left (second.remains (first.honest h) left may);
  unwritten = second.unwritten ∙ first.unwritten;
}
