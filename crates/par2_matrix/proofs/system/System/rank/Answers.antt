use Rattle.par2_matrix.proofs.Names.{◌<◌, ◌≡◌, ◌≤◌, ◌↔◌, subst, sym, ◌∙◌, ap, Equations, rank, IsUndetermined, OnlyZeroIsKilled, rank_most, rank_view, rank_full, undetermined}
use Rattle.par2_matrix.proofs.system.System.rank.Goals as goal

pub returns-clause-value : goal.returns-clause-value
returns-clause-value c = sym (rank_view _ c.self.invariant) ∙ ap rank c.self.view_is

pub returns-clause-most : goal.returns-clause-most
returns-clause-most c = subst (λ (s : Equations). c.self.inside.rank ≤ s.columns) c.self.view_is (rank_most _ c.self.invariant)

pub returns-clause-full : goal.returns-clause-full
returns-clause-full c =
    subst (λ (s : Equations). (c.self.inside.rank ≡ s.columns) ↔ OnlyZeroIsKilled s) c.self.view_is (rank_full _ c.self.invariant)

pub returns-clause-below : goal.returns-clause-below
returns-clause-below c =
    subst (λ (s : Equations). c.self.inside.rank < s.columns → IsUndetermined s) c.self.view_is (undetermined _ c.self.invariant)
