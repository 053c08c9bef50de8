-- Results of calls, in predicates that all crates share.
use Rattle.std.specs.Prelude.{◌≡◌, ◌⊎◌, ◌++◌, List, Option, Some, Result, Vec, IfErr, IfOk, OnOk}
use Rattle.par2_spec.specs.declared.Fault.{Fault}
use Rattle.par2_spec.specs.declared.Fault.TheVariants.{Memory}

-- a list that is returned has these items
abbrev pub Lists : {A Z E : Type 0} → List A → Result (Vec A Z) E → Type 0
Lists items result = IfOk result (λ list. list.items ≡ items)

-- a call that succeeds appends these items
abbrev pub Appends : {A Z T E : Type 0} → List A → Vec A Z → Vec A Z → Result T E → Type 0
Appends items old new result = OnOk result (new.items ≡ old.items ++ items)

-- a call that fails reports this cause, or that memory ran out
abbrev pub FailsFor : {A : Type 0} → Option Fault → Result A Fault → Type 0
FailsFor cause result = IfErr result (λ fault. (fault ≡ Memory) ⊎ (cause ≡ Some fault))
