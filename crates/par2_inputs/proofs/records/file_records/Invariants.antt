use Rattle.par2_inputs.proofs.Common.{map, take, input_file, AreRecords}
use Rattle.par2_inputs.proofs.records.file_records.Given as goal

abbrev pub invariant-loop-i : goal.invariant-loop-i
invariant-loop-i l = AreRecords l.s (map input_file (take l.i l.inputs)) l.records.items
