use Rattle.par2_repair.proofs.Names.{◌≡◌, ◌++◌, drop, lists_of, buffers_of, with_lost_slices, iter_rest, found_ones}
use Rattle.par2_repair.proofs.restored.merged.Given as goal

abbrev pub invariant-loop-window : goal.invariant-loop-window
invariant-loop-window l =
    buffers_of l.slices.items ++ with_lost_slices (found_ones (drop l.window-index l.windows)) (lists_of (iter_rest l.left)) ≡ with_lost_slices (found_ones l.windows) (lists_of l.rebuilt)
