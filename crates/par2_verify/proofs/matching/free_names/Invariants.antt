use Rattle.par2_verify.proofs.Common.{◌≡◌, ℕ, List, take, not, filter, is_among, HoldsNames}
use Rattle.par2_verify.proofs.matching.free_names.Given as goal

abbrev pub invariant-loop-name : goal.invariant-loop-name
invariant-loop-name l = (all : List (List ℕ)) → HoldsNames l.intact all → l.free.items ≡ filter (λ name. not (is_among all name)) (take l.name-index l.names)
