-- Outputs at their places in buffers.
use Rattle.std.specs.Prelude.{ℕ}
use Rattle.par2_transform.specs.Rows.{HasByte}
use Rattle.par2_transform.specs.declared.outputs.Place.{Place}

-- two outputs of this many words have no byte in common
abbrev pub AreBeside : ℕ → Place → Place → Type 0
AreBeside words first second = (i k : ℕ) → HasByte words first i k → HasByte words second i k → ⊥
