-- Recovery slices that are written into buffers, what survives of a set's slices, and what is rebuilt from it.
use Rattle.std.specs.Prelude.{ℕ, ◌≡◌, ◌<◌, ◌*◌, List, length, take, drop, map, replicate, slice_index, None, Option, Some, Vec, [], filter, option_map, ◌%◌, ◌+◌, ◌∷◌, ◌==◌, ◌≤◌}
use Rattle.par2_spec.specs.Prelude.{Bor, AllByRecursion, list_any, IsStrictlyIncreasing, recovery, padded, list_at, lists_of, Agrees, AnotherAgrees, IsRebuilt, IsRepairable, TwoAgree, kept_slices, rank, lost}
use Rattle.std.specs.declared.alloc.Global.{Global}
use Rattle.par2_transform.specs.Rows.{place_at, HasByte}
use Rattle.par2_transform.specs.declared.outputs.Place.{Place}
use Rattle.par2_solve.specs.declared.rebuild_slices.RebuildFault.{RebuildFault}
use Rattle.par2_solve.specs.declared.rebuild_slices.RebuildFault.TheVariants.{Memory, NotRepairable}
use Rattle.par2_solve.specs.declared.rebuild_slices.Survivors.{Survivors}

-- the bytes of an output, `size` of them from its place on
abbrev pub output_at : ℕ → Place → List (List ℕ) → List ℕ
output_at size place buffers = take size (drop place.at (list_at buffers place.buffer))

-- the outputs of `words` words each are zeros
abbrev pub AreZeros : ℕ → List Place → List (List ℕ) → Type 0
AreZeros words places buffers = (t : ℕ) → t < length places → output_at (2 * words) (place_at places t) buffers ≡ replicate (2 * words) 0

-- each output has become the recovery slice of its exponent, and no other byte changed
pub record AreWritten (words : ℕ) (slices : List (List ℕ)) (exponents : List ℕ) (places : List Place) (old new : List (List ℕ)) : Type 0 where
  pub count : length new ≡ length old
  pub sizes : (i : ℕ) → length (list_at new i) ≡ length (list_at old i)
  pub each : (t : ℕ) → t < length places → output_at (2 * words) (place_at places t) new ≡ recovery (2 * words) (map (padded (2 * words)) slices) (slice_index exponents t)
  pub others : (i k : ℕ) → ((t : ℕ) → t < length places → HasByte words (place_at places t) i k → ⊥) → slice_index (list_at new i) k ≡ slice_index (list_at old i) k

-- the known slices, with their padding
abbrev pub known_of : ℕ → List (Option (Bor (List ℕ))) → List (Option (List ℕ))
known_of s known = map (option_map (λ slice. padded s slice.now)) known

-- the surviving recovery slices with their exponents
abbrev pub recovered_of : List (ℕ × Bor (List ℕ)) → List (ℕ × List ℕ)
recovered_of recovery = map (λ r. (r.0, r.1.now)) recovery

-- the exponents of the surviving recovery slices
abbrev pub exponents_of : List (ℕ × Bor (List ℕ)) → List ℕ
exponents_of recovery = map (λ r. r.0) (recovered_of recovery)

-- the recovery slices of these exponents
abbrev pub with_exponents : List ℕ → List (ℕ × Bor (List ℕ)) → List (ℕ × List ℕ)
with_exponents exponents recovery = filter (λ r. list_any (λ e. e == r.0) exponents) (recovered_of recovery)

-- all slices in order, with these buffers in place of the lost ones
abbrev pub with_lost_slices : List (Option (List ℕ)) → List (List ℕ) → List (List ℕ)
with_lost_slices [] buffers = []
with_lost_slices (Some slice ∷ known) buffers = slice ∷ with_lost_slices known buffers
with_lost_slices (None ∷ known) [] = [] ∷ with_lost_slices known []
with_lost_slices (None ∷ known) (bytes ∷ buffers) = bytes ∷ with_lost_slices known buffers

-- the numbers of the lost slices, if the first slice has the number a
abbrev pub lost_from : {A : Type 0} → ℕ → List (Option A) → List ℕ
lost_from a [] = []
lost_from a (None ∷ known) = a ∷ lost_from (a + 1) known
lost_from a (Some slice ∷ known) = lost_from (a + 1) known

-- the known slices alone
abbrev pub known_alone : {A : Type 0} → List (Option A) → List A
known_alone [] = []
known_alone (None ∷ known) = known_alone known
known_alone (Some slice ∷ known) = slice ∷ known_alone known

-- a slice's bytes, none if it is lost
abbrev pub bytes_or_none : Option (Bor (List ℕ)) → List ℕ
bytes_or_none None = []
bytes_or_none (Some slice) = slice.now

-- a NotRepairable fault gives the number of lost slices and the true rank, and the lost slices are not determined
abbrev pub IsTrueFault : List ℕ → List ℕ → RebuildFault → Type 0
IsTrueFault lost exponents (NotRepairable missing found) = (missing ≡ length lost) × (found ≡ rank lost exponents) × (IsRepairable lost exponents → ⊥)
IsTrueFault lost exponents Memory = Unit {0}

-- what `rebuild` requires: at most 32,768 slices of an even size, and exponents that rise
pub record CanRebuild (survivors : Survivors) : Type 0 where
  pub count : length survivors.known.items ≤ 32768
  pub even : survivors.slice % 2 ≡ 0
  pub known : AllByRecursion (λ slice. length slice.now ≤ survivors.slice) (known_alone survivors.known.items)
  pub recovery : AllByRecursion (λ r. length r.1 ≡ survivors.slice) (recovered_of survivors.recovery.items)
  pub exponents : IsStrictlyIncreasing (exponents_of survivors.recovery.items)

-- for each input slice its bytes with their padding, if it is known
abbrev pub known_among : Survivors → List (Option (List ℕ))
known_among survivors = known_of survivors.slice survivors.known.items

-- the numbers of the lost slices
abbrev pub lost_among : Survivors → List ℕ
lost_among survivors = lost (known_among survivors)

-- the recovery slices of the kept exponents
abbrev pub kept_among : Survivors → List (ℕ × List ℕ)
kept_among survivors = kept_slices (lost_among survivors) (exponents_of survivors.recovery.items) (recovered_of survivors.recovery.items)

-- this list of slices is the only one that agrees with the known slices and the kept recovery slices
abbrev pub AreRebuilt : Survivors → List (List ℕ) → Type 0
AreRebuilt survivors slices = IsRebuilt survivors.slice (known_among survivors) (kept_among survivors) slices

-- the recovery slices determine the lost slices
abbrev pub AreEnough : Survivors → Type 0
AreEnough survivors = IsRepairable (lost_among survivors) (exponents_of survivors.recovery.items)

-- if the fault is NotRepairable: for each list of slices that agrees with the known slices and all recovery slices, another one agrees too
abbrev pub AnotherAlwaysAgrees : Survivors → RebuildFault → Type 0
AnotherAlwaysAgrees survivors Memory = Unit {0}
AnotherAlwaysAgrees survivors (NotRepairable missing rank) =
    let recovery = recovered_of survivors.recovery.items in
    (slices : List (List ℕ)) → Agrees survivors.slice (known_among survivors) recovery slices → AnotherAgrees survivors.slice (known_among survivors) recovery slices

-- if it is NotRepairable: at least two lists agree with the known slices and with the recovery slices of the kept exponents
abbrev pub TwoAlwaysAgree : Survivors → RebuildFault → Type 0
TwoAlwaysAgree survivors Memory = Unit {0}
TwoAlwaysAgree survivors (NotRepairable missing rank) = TwoAgree survivors.slice (known_among survivors) (kept_among survivors)

-- the fault says truly why the lost slices can't be rebuilt: if it is NotRepairable, they aren't determined
abbrev pub IsFaultOf : Survivors → RebuildFault → Type 0
IsFaultOf survivors fault = IsTrueFault (lost_among survivors) (exponents_of survivors.recovery.items) fault

-- the buffers are the lost slices
abbrev pub Rebuild : Survivors → List (Vec ℕ Global) → Type 0
Rebuild survivors buffers = AreRebuilt survivors (with_lost_slices (known_among survivors) (lists_of buffers))
