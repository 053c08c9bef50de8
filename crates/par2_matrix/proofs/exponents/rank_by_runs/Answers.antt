use Rattle.par2_matrix.proofs.Names.{IsTrue, ap, close_kept, length, rules, run_rank, sym}
use Rattle.par2_matrix.proofs.exponents.rank_by_runs.Goals as goal

pub returns-then-are_close : goal.returns-then-are_close
returns-then-are_close c =
    let slices : IsTrue c.are_slices.result = search rules in
    let close : IsTrue c.are_close.result = search rules in
    sym (ap length (close_kept c.args.lost.now c.args.exponents.now (c.are_slices.ensures slices) (c.are_close.ensures.0 close)))

pub returns-then-has_run : goal.returns-then-has_run
returns-then-has_run c =
    let slices : IsTrue c.are_slices.result = search rules in
    let run : IsTrue c.has_run.result = search rules in
    let found = c.has_run.ensures.0 run in
    sym (run_rank c.args.lost.now c.args.exponents.now found.0 (c.are_slices.ensures slices) c.requires found.1)
