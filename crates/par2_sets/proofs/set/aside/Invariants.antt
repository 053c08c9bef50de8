use Rattle.par2_sets.proofs.AnswerNames.{◌≡◌, aside, taken_for, first_from}
use Rattle.par2_sets.proofs.set.aside.Given as goal

abbrev pub invariant-loop-n : goal.invariant-loop-n
invariant-loop-n l = aside l.folder.files l.set l.name ≡ first_from (taken_for l.folder.files l.set) l.name l.most l.n
