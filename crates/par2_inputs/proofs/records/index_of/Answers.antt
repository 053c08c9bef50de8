use Rattle.par2_inputs.proofs.Names.{sym, index_bytes, appended_all, appended_next}
use Rattle.par2_inputs.proofs.records.index_of.Goals as goal

pub loop-file-preserved : goal.loop-file-preserved
loop-file-preserved c = appended_next _ c.args.files.now c.loop-file.file-index c.file-item.result _ _ _ c.loop-file-test.true c.file-item.is c.loop-file.invariant c.in_ok-append_desc.ensures.ok

pub loop-entry-preserved : goal.loop-entry-preserved
loop-entry-preserved c = appended_next _ c.args.files.now c.loop-entry.entry-index c.entry-item.result _ _ _ c.loop-entry-test.true c.entry-item.is c.loop-entry.invariant c.in_ok-append_ifsc.ensures.ok

pub returns-clause-bytes : goal.returns-clause-bytes
returns-clause-bytes c =
    let descs = appended_all _ c.args.files.now c.loop-file.file-index _ _ c.loop-file-test.false c.loop-file.invariant in
    let ifscs = appended_all _ c.args.files.now c.loop-entry.entry-index _ _ c.loop-entry-test.false c.loop-entry.invariant in
    rw (c.in_ok-append_creator.ensures.ok, ifscs, descs, c.in_ok-append_main.ensures.ok, c.main_id-set_id.ensures, c.in_ok-index.ensures.items)
    (sym (index_bytes c.args.s c.args.files.now))
