-- Reports of this crate in the words of the definitions.
use Rattle.std.specs.Prelude.{map}
use Rattle.par2_spec.specs.Reports as reports
use Rattle.par2_verify.specs.declared.report.State.{State}
use Rattle.par2_verify.specs.declared.report.State.TheVariants.{Complete, Misplaced, Damaged, Missing}
use Rattle.par2_verify.specs.declared.report.TargetReport.{TargetReport}
use Rattle.par2_verify.specs.declared.report.Report.{Report}

-- the state of a target
abbrev pub state_view : State → reports.State
state_view Complete = reports.Complete
state_view (Misplaced name) = reports.Misplaced name
state_view Damaged = reports.Damaged
state_view Missing = reports.Missing

-- the report on a target
abbrev pub target_report_of : TargetReport → reports.TargetReport
target_report_of report = record {
  name = report.name;
  state = state_view report.state;
  found = report.found;
  total = report.total;
}

-- the report on a set
abbrev pub report_view : Report → reports.Report
report_view report = record {
  set_id = report.set_id;
  targets = map target_report_of report.targets.items;
  lost = report.lost;
  rank = report.rank;
}
