use Rattle.par2_output.proofs.Common.{[], ◌-◌, ◌^◌, PrinterTookAll}
use Rattle.par2_output.proofs.printer.Printer.flush.Given as goal

-- the calls so far were interrupted
abbrev pub invariant-loop-retries : goal.invariant-loop-retries
invariant-loop-retries g l = PrinterTookAll g.W.Write.contents l.initial.self l.self []

abbrev pub decreases-loop-retries : goal.decreases-loop-retries
decreases-loop-retries g l = 2 ^ 64 - l.retries
