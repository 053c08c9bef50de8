use Rattle.par2_verify.proofs.Common.{◌≡◌, Bor, map, not, take, filter, Target, is_incomplete, HoldsNames}
use Rattle.par2_verify.proofs.matching.parted.Given as goal

abbrev pub invariant-loop-target : goal.invariant-loop-target
invariant-loop-target l =
    let test = is_incomplete l.folder.files l.set in
    let before = take l.target-index l.target-items in
    record {
      incomplete : map (λ (t : Bor Target). t.now) l.incomplete.items ≡ filter test before;
      intact : HoldsNames l.intact (map (λ (t : Target). t.name) (filter (λ t. not (test t)) before));
    }
