use Rattle.par2_output.proofs.Common.{[], ◌-◌, ◌^◌, PrinterTookAll}
use Rattle.par2_output.proofs.printer.Printer.write.Given as goal

-- the calls so far were interrupted
abbrev pub invariant-loop-interruptions : goal.invariant-loop-interruptions
invariant-loop-interruptions g l = PrinterTookAll g.W.Write.contents l.initial.self l.self []

abbrev pub decreases-loop-interruptions : goal.decreases-loop-interruptions
decreases-loop-interruptions g l = 2 ^ 64 - l.interruptions
