use Rattle.par2_output.proofs.Common.{◌≡◌, ◌++◌, ℕ, List, length, PrinterTookAll}
use Rattle.par2_output.proofs.printer.write_bytes.Given as goal

abbrev pub invariant-loop-rest : goal.invariant-loop-rest
invariant-loop-rest g l = (sent : List ℕ) × (l.bytes ≡ sent ++ l.rest) × PrinterTookAll g.W.Write.contents l.initial.out l.out sent

abbrev pub decreases-loop-rest : goal.decreases-loop-rest
decreases-loop-rest g l = length l.rest
