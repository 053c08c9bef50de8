use Rattle.par2_repair.proofs.Names.{◌≡◌, ◌+◌, ◌++◌, ℕ, List, length, map, filter, drop, flat_map, contains, slice_cmp, nat_cmp, padded, buffers_of, Target, walked}
use Rattle.par2_repair.proofs.restored.cut_out.Given as goal

abbrev pub invariant-loop-target : goal.invariant-loop-target
invariant-loop-target l =
    let test = λ (c : Target × List ℕ). contains (slice_cmp nat_cmp) l.among c.0.name in
    let all = map (padded l.set.slice_size) (buffers_of l.slices) in
    record {
      targets : l.restored.items ++ filter test (walked (drop l.target-index l.target-items) (drop l.first all)) ≡ filter test (walked l.target-items all);
      long : l.first + length (flat_map (λ t. t.pairs) (drop l.target-index l.target-items)) ≡ length l.slices;
    }
