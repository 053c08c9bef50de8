use Rattle.par2_tool.proofs.Common.{map, take, flat_map, target_line, target_report_of, PrinterTookAll}
use Rattle.par2_tool.proofs.printing.write_report.Given as goal

abbrev pub invariant-loop-target : goal.invariant-loop-target
invariant-loop-target g l = PrinterTookAll g.W.Write.contents l.initial.out l.out (flat_map target_line (map target_report_of (take l.target-index l.target-items)))
