use Rattle.par2_verify.proofs.Names.{◌≡◌, ◌∙◌, Bool, List, ℕ, Ok, map, sym, ap, ap₂, cond, subst, ◌==◌, list_all, eq-eqb, ne_eqb, list_all-map, Folder, is_complete, report_in, verdict_of, IsVerdictIn, verdict_by_words, target_report_of, state_view, report_view, Verdict}
use Rattle.par2_spec.specs.Reports as reports
use Rattle.par2_spec.specs.declared.Verdict.TheVariants as verdict
use Rattle.par2_verify.proofs.report.Report.verdict.Goals.{After-are_complete}
use Rattle.par2_verify.proofs.report.Report.verdict.Goals as goal

-- the verdict by its two tests
abbrev verdict_by : Bool → Bool → Verdict
verdict_by complete reported = cond complete verdict.Complete (cond reported verdict.Repairable verdict.NotRepairable)

-- the verdict is the one of the definitions if the report is
by_words : (report : reports.Report) (v : Verdict) → v ≡ verdict_of report → (folder : Folder) (base : List ℕ) (extras : List (List ℕ)) → report_in folder base extras ≡ Ok report → IsVerdictIn folder base extras v
by_words report v is folder base extras reported = subst (IsVerdictIn folder base extras) (sym is) (verdict_by_words folder base extras report reported)

-- the targets are complete in the words of the definitions
all : (c : After-are_complete) → list_all (λ (t : reports.TargetReport). is_complete t.state) (map target_report_of c.args.self.now.targets.items) ≡ c.are_complete.result
all c =
    list_all-map (λ (t : reports.TargetReport). is_complete t.state) target_report_of c.args.self.now.targets.items
    ∙ sym (ap (list_all (λ target. is_complete (state_view target.state))) c.deref.ensures.value) ∙ sym c.are_complete.ensures

pub returns-then-are_complete-clause-answer : goal.returns-then-are_complete-clause-answer
returns-then-are_complete-clause-answer c =
    sym (ap (λ b. verdict_by b (c.args.self.now.rank == c.args.self.now.lost)) (all (goal.at.returns-then-are_complete-clause-answer c).After-are_complete ∙ c.if-are_complete.true))

pub returns-then-self-clause-answer : goal.returns-then-self-clause-answer
returns-then-self-clause-answer c =
    sym (ap₂ verdict_by (all (goal.at.returns-then-self-clause-answer c).After-are_complete ∙ c.if-are_complete.false) (eq-eqb c.args.self.now.rank c.args.self.now.lost c.if-self.true))

pub returns-else-self-clause-answer : goal.returns-else-self-clause-answer
returns-else-self-clause-answer c =
    sym (ap₂ verdict_by (all (goal.at.returns-else-self-clause-answer c).After-are_complete ∙ c.if-are_complete.false) (ne_eqb c.args.self.now.rank c.args.self.now.lost c.if-self.false))

pub returns-then-are_complete-clause-words : goal.returns-then-are_complete-clause-words
returns-then-are_complete-clause-words c = by_words (report_view c.args.self.now) _ (returns-then-are_complete-clause-answer c)

pub returns-then-self-clause-words : goal.returns-then-self-clause-words
returns-then-self-clause-words c = by_words (report_view c.args.self.now) _ (returns-then-self-clause-answer c)

pub returns-else-self-clause-words : goal.returns-else-self-clause-words
returns-else-self-clause-words c = by_words (report_view c.args.self.now) _ (returns-else-self-clause-answer c)
