use Rattle.par2_create.proofs.Names.{◌≡◌, ◌∙◌, ap, sym, refl, subst, inr, None, Option, Fault, DuplicateId, Some, map, string_bytes, files_of, input_file, inputs_fault, files_fault, ids_fault, duplicate_input, create_args_of, AreRecords, false≢true, buffers_of, md5, ids_accepted, ids_refused, inputs_by}
use Rattle.par2_create.proofs.create.records_of_inputs.Goals.{In_ok-records}
use Rattle.par2_create.proofs.create.records_of_inputs.Goals as goal

-- the inputs are the files of the names
files_are : (c : In_ok-records) → map input_file c.deref-7.result.now ≡ files_of c.args.folder.now.files (map string_bytes c.args.args.now.inputs.items)
files_are c =
    ap (map input_file) c.deref-7.ensures.value ∙ c.in_ok-inputs.ensures ∙ ap (files_of c.args.folder.now.files) (c.deref-3.ensures.value ∙ c.in_ok-names.ensures ∙ ap (map string_bytes) c.deref.ensures.value)

-- their File IDs decide
by_ids : (c : In_ok-records) (ids : Option Fault) → ids_fault (map input_file c.deref-7.result.now) ≡ ids → inputs_fault c.args.folder.now.files (create_args_of c.args.args.now) ≡ ids
by_ids c ids is =
    let a = create_args_of c.args.args.now in
    let folder = c.args.folder.now.files in
    let names : c.deref-2.result.now ≡ a.inputs = c.deref-2.ensures.value ∙ c.in_ok-names.ensures ∙ ap (map string_bytes) c.deref.ensures.value in
    let once : duplicate_input a.inputs ≡ None = ap duplicate_input (sym names) ∙ c.in_ok-no_duplicate.ensures.accepted in
    let files : map input_file c.deref-4.result.now ≡ files_of folder a.inputs = ap (map input_file) (c.deref-4.ensures.value ∙ sym c.deref-7.ensures.value) ∙ files_are c in
    let fine : files_fault folder a.slice (files_of folder a.inputs) ≡ None = ap (files_fault folder a.slice) (sym files) ∙ sym c.files_fault.ensures ∙ c.in_default.is in
    inputs_by folder a ids c.requires.words once fine (ap ids_fault (sym (files_are c)) ∙ is)

pub returns-in-Ok-clause-passed : goal.returns-in-Ok-clause-passed
returns-in-Ok-clause-passed c =
    by_ids (goal.at.returns-in-Ok-clause-passed c).In_ok-records None (ids_accepted _ _ c.in_ok-records.records.items c.in_ok-records.ensures (c.in-Ok.ensures.distinct.0 refl))

pub returns-in-Ok-clause-records : goal.returns-in-Ok-clause-records
returns-in-Ok-clause-records c =
    c.in-Ok.ensures.files c.args.args.now.slice _ (subst (λ files. AreRecords c.args.args.now.slice files c.in_ok-records.records.items) (files_are (goal.at.returns-in-Ok-clause-records c).In_ok-records) c.in_ok-records.ensures)

pub returns-clause-refused : goal.returns-clause-refused
returns-clause-refused c =
    inr (by_ids (goal.at.returns-clause-refused c).In_ok-records (Some DuplicateId) (ids_refused _ _ c.in_ok-records.records.items c.in_ok-records.ensures (λ once. false≢true (c.in-Err.ensures.distinct.1 once))))

pub file_records-requires-clause-md5s : goal.file_records-requires-clause-md5s
file_records-requires-clause-md5s c =
    c.deref-8.ensures.value ∙ c.in_ok-checkpointed.ensures.beside ∙ ap (map md5) (ap buffers_of c.deref-6.ensures.value ∙ c.in_ok-contents.ensures ∙ ap (map (λ input. input.bytes.now)) (c.deref-5.ensures.value ∙ sym c.deref-7.ensures.value))
