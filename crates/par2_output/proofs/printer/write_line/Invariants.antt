use Rattle.par2_output.proofs.Common.{take, PrinterTookAll}
use Rattle.std.specs.List.{flat_map}
use Rattle.par2_output.proofs.printer.write_line.Given as goal

abbrev pub invariant-loop-string : goal.invariant-loop-string
invariant-loop-string g l = PrinterTookAll g.W.Write.contents l.initial.out l.out (flat_map (λ string. string.now) (take l.string-index l.strings))
