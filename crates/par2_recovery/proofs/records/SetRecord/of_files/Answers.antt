use Rattle.par2_recovery.proofs.Common.{refl, false≢true}
use Rattle.par2_spec.specs.Prelude.{files_of}
use Rattle.par2_inputs.proofs.FileRecords.{files_of_records, ids_are}
use Rattle.par2_recovery.proofs.records.SetRecord.of_files.Goals as goal

pub returns-in-Ok-clause-files : goal.returns-in-Ok-clause-files
returns-in-Ok-clause-files c = c.in-Ok.ensures.files c.args.s (files_of c.args.folder.now.files c.args.names.now) c.in_ok-records.ensures

pub returns-in-Ok-clause-order : goal.returns-in-Ok-clause-order
returns-in-Ok-clause-order c = files_of_records c.args.s c.args.folder.now.files c.args.names.now _ (returns-in-Ok-clause-files c)

pub returns-in-Ok-clause-distinct : goal.returns-in-Ok-clause-distinct
returns-in-Ok-clause-distinct c = λ _. rw (← ids_are c.args.s (files_of c.args.folder.now.files c.args.names.now) c.in_ok-records.records.items c.in_ok-records.ensures) (c.in-Ok.ensures.distinct.0 refl)

pub returns-in-Err-clause-duplicate : goal.returns-in-Err-clause-duplicate
returns-in-Err-clause-duplicate c = λ _ once. false≢true (c.in-Err.ensures.distinct.1 (rw (ids_are c.args.s (files_of c.args.folder.now.files c.args.names.now) c.in_ok-records.records.items c.in_ok-records.ensures) once))
