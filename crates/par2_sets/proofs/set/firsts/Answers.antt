use Rattle.par2_sets.proofs.AnswerNames.{◌∙◌, sym, first_added, first_stays}
use Rattle.par2_sets.proofs.set.firsts.Goals as goal

pub loop-key-preserved-in_ok-insert-2 : goal.loop-key-preserved-in_ok-insert-2
loop-key-preserved-in_ok-insert-2 g c =
    first_added g.met.K.Ord.total c.loop-key.yielded c.in-Some.key c.in-Some.value c.loop-key.firsts c.loop-key.invariant c.insert.new.self (sym c.contains_key.ensures ∙ c.if-not-contains_key.true) c.in_ok-insert.ensures.updates

pub loop-key-preserved : goal.loop-key-preserved
loop-key-preserved g c =
    first_stays g.met.K.Ord.total c.loop-key.yielded c.in-Some.key c.in-Some.value c.loop-key.firsts c.loop-key.invariant (sym c.contains_key.ensures ∙ c.if-not-contains_key.false)

pub loop-key-preserved-in_ok-insert : goal.loop-key-preserved-in_ok-insert
loop-key-preserved-in_ok-insert g c =
    first_added g.met.K.Ord.total c.loop-key.yielded c.in-Some.key c.in-Some.value c.loop-key.firsts c.loop-key.invariant c.insert.new.self (sym c.contains_key.ensures ∙ c.if-not-contains_key.true) c.in_ok-insert.ensures.updates
