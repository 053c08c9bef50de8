use Rattle.par2_inputs.proofs.Names.{◌∙◌, List, Input, AreRecords, input_file, md5, arith, length, length-map, map, subst, ap, record_of, take_all, take_all, take_all, take_all, digest_at, record_push}
use Rattle.par2_inputs.proofs.records.file_records.Goals as goal

pub file_record_by_md5-requires-clause-digest : goal.file_record_by_md5-requires-clause-digest
file_record_by_md5-requires-clause-digest c = digest_at c.args.inputs.now c.args.md5s.now c.loop-i.i _ c.index-inputs-i.result c.requires.md5s c.loop-i-test.true c.index-inputs-i.is

pub loop-i-preserved : goal.loop-i-preserved
loop-i-preserved c =
    rw c.in_ok-push.ensures.items (record_push c.args.s c.args.inputs.now c.loop-i.i c.index-inputs-i.result c.loop-i.records.items c.in_ok-record.record c.loop-i-test.true c.index-inputs-i.is c.loop-i.invariant (c.in_ok-record.ensures ∙ ap (λ name. record_of c.args.s (name, c.index-inputs-i.result.bytes.now)) c.as_str.ensures.bytes))

pub bounds-md5s-i : goal.bounds-md5s-i
bounds-md5s-i c =
    let bytes = λ (input : Input). input.bytes.now in
    let many = ap length c.requires.md5s in omega (arith, many, length-map (map bytes c.args.inputs.now) md5, length-map c.args.inputs.now bytes)

pub returns : goal.returns
returns c = subst (λ (inputs : List Input). AreRecords c.args.s (map input_file inputs) c.loop-i.records.items) (take_all c.loop-i.i c.args.inputs.now c.loop-i-test.false) c.loop-i.invariant
