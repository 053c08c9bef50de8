-- The bytes that a writer has taken, and its failures.
use Rattle.std.specs.Prelude.{◌≡◌, ℕ, ◌<◌, List, length, take, Option, Result, MatchResult}
use Rattle.std.specs.Io.KnownBytes.{Appends}

-- the bytes that a writer has taken, if they are known, and how often it has failed
pub record Writer : Type 0 where
  pub taken : Option (List ℕ)
  pub failures : ℕ

-- the writer took all the bytes and has not failed
abbrev pub TookAll : Writer → Writer → List ℕ → Type 0
TookAll old new bytes = Appends old.taken new.taken bytes × (new.failures ≡ old.failures)

-- the writer took a proper prefix of the bytes and has failed
abbrev pub TookPart : Writer → Writer → List ℕ → Type 0
TookPart old new bytes =
    ((n : ℕ) × (n < length bytes) × Appends old.taken new.taken (take n bytes)) × (old.failures < new.failures)

-- all the bytes were written, or only a part because the writer failed
abbrev pub Wrote : {T E : Type 0} → Writer → Writer → List ℕ → Result T E → Type 0
Wrote old new bytes r = MatchResult r (λ _. TookAll old new bytes) (λ _. TookPart old new bytes)
