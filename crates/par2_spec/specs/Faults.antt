-- Which fault is returned: the first whose cause holds.
use Rattle.std.specs.Prelude.{ℕ, ◌+◌, Bool, true, false, List, [], ◌∷◌, position, Option, Some, None, Result, Ok, Err, option_map}

-- the first fault, if there is one
abbrev pub first_fault : {F : Type 0} → List (Option F) → Option F
first_fault [] = None
first_fault (None ∷ tests) = first_fault tests
first_fault (Some fault ∷ tests) = Some fault

-- the fault if its cause holds
abbrev pub fault_where : {F : Type 0} → Bool → F → Option F
fault_where true fault = Some fault
fault_where false fault = None

-- the fault at the place of the first item that has the cause; places count from n
abbrev pub fault_at : {A F : Type 0} → ℕ → (ℕ → F) → (A → Bool) → List A → Option F
fault_at n fault cause items = option_map (λ k. fault (n + k)) (position cause items)

-- the fault of a result, if it is one
abbrev pub fault_of : {A F : Type 0} → Result A F → Option F
fault_of (Ok x) = None
fault_of (Err fault) = Some fault

-- the fault of a result, or else of a test of its value
abbrev pub then_fault : {A F : Type 0} → Result A F → (A → Option F) → Option F
then_fault (Ok x) test = test x
then_fault (Err fault) test = Some fault
