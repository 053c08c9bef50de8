use Rattle.par2_journal.proofs.Names.{map, string_bytes, ap, Create, Repair, Purge, action_of, create_args_of, prepares}
use Rattle.par2_journal.proofs.session.Session.prepare.Goals as goal

pub returns-in-Create : goal.returns-in-Create
returns-in-Create c =
    prepares c.prepare_create.result c.map_err.result c.args.self.now c.prepare_create.new.self (Create (create_args_of c.in-Create.args)) _ (ap action_of c.in-Create.is) c.map_err.ensures.cases c.prepare_create.ensures

pub returns-in-Repair : goal.returns-in-Repair
returns-in-Repair c =
    let command = Repair (string_bytes c.in-Repair.base) (map string_bytes c.in-Repair.extras.items) c.in-Repair.purge in
    let with_base = rw c.deref.ensures at c.prepare_repair-prepared.ensures.ready in
    prepares c.prepare_repair-prepared.result c.map_err-in-Repair.result c.args.self.now c.prepare_repair-prepared.new.self command _ (ap action_of c.in-Repair.is) c.map_err-in-Repair.ensures.cases (rw c.deref-in-Repair.ensures.value at with_base)

pub returns-in-Purge : goal.returns-in-Purge
returns-in-Purge c =
    prepares c.prepare_purge.result c.map_err-in-Purge.result c.args.self.now c.prepare_purge.new.self (Purge (string_bytes c.in-Purge.base)) _ (ap action_of c.in-Purge.is) c.map_err-in-Purge.ensures.cases
    (rw c.deref-in-Purge.ensures at c.prepare_purge.ensures)
