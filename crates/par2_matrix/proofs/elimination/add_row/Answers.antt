use Rattle.par2_matrix.proofs.Common.{◌≡◌, length, get_or, rules, ◌∙◌, with_items_is, with_items, list_at, lists_of, read_at, written_here, written_changed}
use Rattle.par2_matrix.proofs.elimination.add_row.Goals as goal

pub returns-clause-changed : goal.returns-clause-changed
returns-clause-changed c = written_changed c.args.lists.now c.args.p _

pub returns-clause-added : goal.returns-clause-added
returns-clause-added c =
    let was = get_or c.args.lists.now c.args.p c.index-lists-p.result in
    let size : length c.mul_add_by.new.dst ≡ was.len = search rules in
    let after = written_here c.args.lists.now c.args.p (with_items was c.mul_add_by.new.dst) c.requires ∙ with_items_is was c.mul_add_by.new.dst size in
    let before : c.as_mut_slice-list.result.now ≡ list_at (lists_of c.args.lists.now) c.args.p = search (rules, read_at) in
    rw (after, ← before) c.mul_add_by.ensures

pub returns-clause-bytes : goal.returns-clause-bytes
returns-clause-bytes c =
    let was = get_or c.args.lists.now c.args.p c.index-lists-p.result in
    let size : length c.mul_add_by.new.dst ≡ was.len = search rules in
    let after = written_here c.args.lists.now c.args.p (with_items was c.mul_add_by.new.dst) c.requires ∙ with_items_is was c.mul_add_by.new.dst size in
    rw after c.fit_bytes.ensures
