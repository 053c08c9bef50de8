use Rattle.par2_sets.proofs.AnswerNames.{◌≡◌, ◌<◌, length, rules, numbered, IfErr, long_where_err}
use Rattle.par2_sets.proofs.set.numbered.Goals as goal

pub returns-clause-refused : goal.returns-clause-refused
returns-clause-refused c =
    let bytes = numbered c.args.name.now c.args.n in
    let is : c.deref.result.now ≡ bytes = search rules in
    let long : IfErr c.new-2.result (λ _. 255 < length bytes) = long_where_err c.new-2.result c.args.name.now c.args.n c.deref.result.now c.ranges.n.fits c.as_str.ensures.name is c.new-2.ensures.variant.1 in
    search rules
