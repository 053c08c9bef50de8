use Rattle.par2_journal.proofs.Names.{map, string_bytes, subst, OnOk, on_ok_weaker, Repair, session_of_kept, accepted_next, walked_is_valid, AreFewFor, AnswersRepair, IsRepaired, folder_left, answered, session_answers, stands_in_front, together}
use Rattle.par2_journal.proofs.session.Session.repair.Goals as goal

abbrev Is : goal.After-repair_as_requested → Type 0
Is c = IsRepaired c.args.self.now.folder.files c.repair_as_requested.new.self.folder.files (Repair c.args.base.now (map string_bytes c.args.extras.now) c.args.purge)

repaired : (c : goal.After-repair_as_requested) → OnOk c.repair_as_requested.result (Is c)
repaired c =
    answered (session_of_kept c.args.self.now) (session_of_kept c.repair_as_requested.new.self) c.args.base.now (map string_bytes c.args.extras.now) c.args.purge
    c.repair_as_requested.result c.repair_as_requested.ensures.repairs.done c.repair_as_requested.ensures.repairs.leads

as_defined : (c : goal.After-repair_as_requested) → AnswersRepair c.args.self.now.folder.files c.args.base.now (map string_bytes c.args.extras.now) c.args.purge (folder_left (λ _. c.repair_as_requested.new.self.folder.files) c.repair_as_requested.result)
as_defined c = session_answers c.args.self.now.folder.files c.repair_as_requested.new.self.folder.files c.args.base.now _ c.args.purge c.repair_as_requested.result (repaired c) c.repair_as_requested.ensures.repairs.refused

pub returns-clause-restores : goal.returns-clause-restores
returns-clause-restores c = c.repair_restores_the_files.ensures _ _ _ c.args.purge _ (as_defined c)

pub returns-clause-inputs : goal.returns-clause-inputs
returns-clause-inputs c = c.repair_restores_the_inputs.ensures _ _ _ c.args.purge _ (as_defined c)

pub returns-clause-holds : goal.returns-clause-holds
returns-clause-holds c without_purge =
    let old = c.args.self.now.folder.files in
    let new = c.repair_as_requested.new.self.folder.files in
    let base = c.args.base.now in
    let extras = map string_bytes c.args.extras.now in
    let few = AreFewFor old (Repair base extras c.args.purge) in
    on_ok_weaker c.repair_as_requested.result (λ (both : Is c × few).
    c.repair_leaves_each_file.ensures old new base extras (subst (λ purge. IsRepaired old new (Repair base extras purge)) without_purge both.0) (subst (λ purge. AreFewFor old (Repair base extras purge)) without_purge both.1))
    (together (Is c) few c.repair_as_requested.result (repaired c) c.repair_as_requested.ensures.written.few)

pub returns-clause-undoable : goal.returns-clause-undoable
returns-clause-undoable c =
    stands_in_front (session_of_kept c.args.self.now) (session_of_kept c.repair_as_requested.new.self) c.args.base.now (map string_bytes c.args.extras.now) c.args.purge
    c.repair_as_requested.result (λ s t action valid leads step. (accepted_next s t action valid leads step).0) (walked_is_valid c.args.self.now c.folder-folder.ensures.walks)
    c.repair_as_requested.ensures.repairs.done c.repair_as_requested.ensures.repairs.leads
