use Rattle.par2_matrix.proofs.Names.{◌≡◌, ◌≤◌, ◌↔◌, Bool, true, false, rules, subst, refl, ◌∙◌, arith, length, Equations, rank, IsTheSolution, lists_of, rank_most, rank_view, the_solution, not_full}
use Rattle.par2_matrix.proofs.system.System.into_solution.Goals as goal

pub returns-then-self-len-clause-when : goal.returns-then-self-len-clause-when
returns-then-self-len-clause-when c =
    subst (λ (s : Equations). (◌≡◌ {A = Bool} false true) ↔ (rank s ≡ s.columns)) c.self.view_is (not_full _ c.self.invariant (search rules))

pub returns-clause-when : goal.returns-clause-when
returns-clause-when c =
    let s = c.self.inside in
    let most : s.rank ≤ length s.rows.items = rank_most _ c.self.invariant in
    let full : s.rank ≡ length s.rows.items = omega (arith, c.len.ensures) in
    (λ _. subst (λ (s : Equations). rank s ≡ s.columns) c.self.view_is (rank_view _ c.self.invariant ∙ full), λ _. refl)

pub returns-clause-ok : goal.returns-clause-ok
returns-clause-ok c =
    let s = c.self.inside in
    let most : s.rank ≤ length s.rows.items = rank_most _ c.self.invariant in
    let full : s.rank ≡ length s.rows.items = omega (arith, c.len.ensures) in
    subst (λ (e : Equations). IsTheSolution e (lists_of s.right_sides.items)) c.self.view_is (the_solution _ c.self.invariant full)
