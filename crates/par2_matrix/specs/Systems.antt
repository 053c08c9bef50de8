-- Linear equations over the field between buffers: a row of coefficients, one for each unknown buffer, and the buffer
-- that the combination of the unknowns by this row has to be. The words at each position are a system of their own.
use Rattle.std.specs.Prelude.{ℕ, ◌+◌, ◌<◌, ◌≡◌, ◌≢◌, ◌↔◌, List, [], length}
use Rattle.par2_spec.specs.Prelude.{AllByRecursion, dot, combination, IsVector}
pub use Rattle.par2_spec.specs.Prelude.{lists_of}

-- a system: the number of unknown buffers, the size of each, and equations equivalent to those that were kept, which have
-- a meaning only by their null space and their solutions
pub record Equations : Type 0 where
  pub columns : ℕ
  pub bytes : ℕ
  pub kept : List (List ℕ × List ℕ)

-- a system without equations
abbrev pub no_equations : ℕ → ℕ → Equations
no_equations columns bytes = record { columns = columns; bytes = bytes; kept = [] }

-- the rank: the number of kept equations, which are independent
abbrev pub rank : Equations → ℕ
rank s = length s.kept

-- the vector is in the null space: each row kills it
abbrev pub IsKilled : Equations → List ℕ → Type 0
IsKilled s v = AllByRecursion (λ (e : List ℕ × List ℕ). dot e.0 v ≡ 0) s.kept

-- the buffers solve the system: each row combines them to its right-hand side
abbrev pub Solves : Equations → List (List ℕ) → Type 0
Solves s buffers = AllByRecursion (λ (e : List ℕ × List ℕ). combination s.bytes e.0 buffers ≡ e.1) s.kept

-- as many buffers as the system has unknowns, each of its size
pub record AreSolutionBuffers (s : Equations) (buffers : List (List ℕ)) : Type 0 where
  pub count : length buffers ≡ s.columns
  pub sizes : AllByRecursion (λ (content : List ℕ). length content ≡ s.bytes) buffers
  pub bytes : AllByRecursion (λ (content : List ℕ). AllByRecursion (λ b. b < 256) content) buffers

-- one more equation: it cuts down the null space, and the solutions, by exactly its own condition
pub record CutDown (old new : Equations) (row right : List ℕ) : Type 0 where
  pub rank : rank new ≡ rank old + 1
  pub kills : (v : List ℕ) → IsVector old.columns v → IsKilled new v ↔ (IsKilled old v × (dot row v ≡ 0))
  pub solves : (buffers : List (List ℕ)) → AreSolutionBuffers old buffers → Solves new buffers ↔ (Solves old buffers × (combination old.bytes row buffers ≡ right))

-- the row is independent: it does not kill some vector of the null space
abbrev pub IsIndependent : Equations → List ℕ → Type 0
IsIndependent s row = (v : List ℕ) × IsVector s.columns v × IsKilled s v × (dot row v ≢ 0)

-- the row is dependent: it kills the whole null space
abbrev pub IsDependent : Equations → List ℕ → Type 0
IsDependent s row = (v : List ℕ) → IsVector s.columns v → IsKilled s v → dot row v ≡ 0

-- the null space has only the zero vector
abbrev pub OnlyZeroIsKilled : Equations → Type 0
OnlyZeroIsKilled s = (v : List ℕ) → IsVector s.columns v → IsKilled s v → AllByRecursion (λ x. x ≡ 0) v

-- the null space has another vector than zero, so the equations do not determine the buffers
abbrev pub IsUndetermined : Equations → Type 0
IsUndetermined s = (v : List ℕ) × IsVector s.columns v × IsKilled s v × (AllByRecursion (λ x. x ≡ 0) v → ⊥)

-- the only buffers that solve the system
pub record IsTheSolution (s : Equations) (buffers : List (List ℕ)) : Type 0 where
  pub are_buffers : AreSolutionBuffers s buffers
  pub solves : Solves s buffers
  pub only : (others : List (List ℕ)) → AreSolutionBuffers s others → Solves s others → others ≡ buffers
