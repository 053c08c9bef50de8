use Rattle.par2_files.proofs.Names.{arith, common_steps, is_before, ◌-◌, ◌∙◌, ap, map, take, drop, take_all, file_of, fingerprint_input, between, front_further}
use Rattle.par2_files.proofs.snapshot.Snapshot.pending_between.Goals as goal

pub returns : goal.returns
returns c = λ held.
    let items = c.args.self.now.files.items in
    let kept = c.args.self.now.kept in
    let start = c.count_before-start.result in
    let end = c.count_before.result in
    let front = c.count_before-start.ensures in
    let longer = c.count_before.ensures in
    let le = front_further (is_before c.args.from) (is_before c.args.to) _ start end front longer c.requires in
    let parts =
    c.loop-file.invariant
    ∙ ap (λ files. fingerprint_input (map file_of files)) (take_all c.loop-file.file-index (take (end - start) (drop start c.deref.result.now)) c.loop-file-test.false ∙ ap (λ files. take (end - start) (drop start files)) c.deref.ensures.value) in
    (_, (held, between items kept c.args.from c.args.to start end _ front longer le parts))

pub loop-file-preserved : goal.loop-file-preserved
loop-file-preserved c = grind (arith, common_steps)
