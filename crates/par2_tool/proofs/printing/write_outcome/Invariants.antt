use Rattle.par2_tool.proofs.Common.{map, take, flat_map, step_line, step_view, PrinterTookAll}
use Rattle.par2_tool.proofs.printing.write_outcome.Given as goal

abbrev pub invariant-loop-step : goal.invariant-loop-step
invariant-loop-step g l = PrinterTookAll g.W.Write.contents l.initial.out l.out (flat_map step_line (map step_view (take l.step-index l.steps)))
