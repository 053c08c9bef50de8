use Rattle.par2_verify.proofs.Common.{◌≡◌, map, take, distinct, HoldsNames}
use Rattle.par2_verify.proofs.matching.distinct.Given as goal

abbrev pub invariant-loop-name : goal.invariant-loop-name
invariant-loop-name l =
    let names = map (λ name. name.now) (take l.name-index l.names) in
    (l.list.items ≡ distinct names) × HoldsNames l.seen names
