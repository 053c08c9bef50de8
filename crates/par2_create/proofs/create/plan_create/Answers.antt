use Rattle.par2_create.proofs.Names.{◌≡◌, ◌∙◌, ◌∷◌, inr, refl, sym, ap, ap₂, subst, true, Some, List, ℕ, map, string_bytes, None, Option, is_par_name, err_from_is_err_and, Folder, Create, CreateArgs, bad_name, early_refusal, refusal, after, create_args_of, Fault, Volume, long_name, existing, volumes_of, volume_names, output_names, are_applicable, effects, changes_of, create_applies, create_changes, ◌++◌, [], map-map, Change, put_change, recovery_packets, as_file, files_of, flat_map, head_fault, inputs_fault, ◌≤◌, length, length-map, packet, index_packets, main_id, record_of, in_id_order, all_slices, file_record_of, FileRecord, ◌+◌, RecordsInputs, refused_early, create_leads, All, length-md5, names_of, files_of_records, IsHead, AreInputs, head_passed, inputs_passed, few_slices, few_in_order, early_by, refused_by, long_without_base, volumes_end, written, create_written}
use Rattle.par2_create.proofs.create.plan_create.Goals.{In-Some, After-existing, In_ok-push_files}
use Rattle.par2_spec.proofs.ListsLaws as passed
use Rattle.par2_create.proofs.create.plan_create.Goals as goal

-- a bad argument is reported before memory is needed
early_word : (c : In-Some) → early_refusal c.args.folder.now.files (Create (create_args_of c.args.args.now)) ≡ Some c.in-Some.fault
early_word c =
    early_by c.args.folder.now.files _ None (Some c.in-Some.fault) c.in_ok-base.ensures.accepted (ap (λ words. bad_name (map string_bytes words)) (sym c.deref.ensures.value) ∙ sym c.bad_name.ensures ∙ c.in-Some.is)

-- the outputs' names are short enough, and are the ones that were looked up
abbrev AreNamed : Folder → CreateArgs → Option Fault → Type 0
AreNamed folder a answer = (long_name (output_names a) ≡ None) × (existing folder a.overwrite (output_names a) ≡ answer)

named : (c : After-existing) → AreNamed c.args.folder.now.files (create_args_of c.args.args.now) c.existing.result
named c =
    let a = create_args_of c.args.args.now in
    let name = c.in_ok-base.ensures.name in
    let volumes : c.deref-2.result.now ≡ volumes_of a.base a.first a.count = c.deref-2.ensures.value ∙ c.in_ok-volumes.ensures.volumes ∙ ap (λ base. volumes_of base a.first a.count) name in
    let names : c.in_ok-base.base ∷ volume_names c.deref-2.result.now ≡ output_names a = ap₂ (λ (base : List ℕ) (vs : List Volume). base ∷ volume_names vs) name volumes in (
      long_without_base a c.in_ok-base.ensures.accepted ∙ subst (λ base. long_name (volume_names (volumes_of base a.first a.count)) ≡ None) name c.in_ok-volumes.ensures.short,
      ap (existing c.args.folder.now.files a.overwrite) (sym names) ∙ sym c.existing.ensures,
    )

pub returns-in_err-base-clause-refused : goal.returns-in_err-base-clause-refused
returns-in_err-base-clause-refused c =
    passed.refused_by (λ y. head_fault (create_args_of c.args.args.now) ≡ Some y) (λ y. refusal c.args.folder.now.files (Create (create_args_of c.args.args.now)) ≡ Some y) c.from_residual.result c.in_err-base.field-0.0 (err_from_is_err_and c.from_residual.result c.from_residual.ensures.1) (inr c.in_err-base.ensures.refused)
    (λ head. refused_early c.args.folder.now.files (Create (create_args_of c.args.args.now)) c.in_err-base.field-0.0 (early_by c.args.folder.now.files (create_args_of c.args.args.now) (Some c.in_err-base.field-0.0) (bad_name (create_args_of c.args.args.now).inputs) head refl))

pub returns-in-Some-clause-refused : goal.returns-in-Some-clause-refused
returns-in-Some-clause-refused c =
    inr (refused_early c.args.folder.now.files (Create (create_args_of c.args.args.now)) c.in-Some.fault (early_word (goal.at.returns-in-Some-clause-refused c).In-Some))

pub records_of_inputs-requires-clause-slice : goal.records_of_inputs-requires-clause-slice
records_of_inputs-requires-clause-slice c = (head_passed _ c.in_ok-base.ensures.accepted).positive

pub returns-in_err-records-clause-refused : goal.returns-in_err-records-clause-refused
returns-in_err-records-clause-refused c =
    passed.refused_by (λ y. inputs_fault c.args.folder.now.files (create_args_of c.args.args.now) ≡ Some y) (λ y. refusal c.args.folder.now.files (Create (create_args_of c.args.args.now)) ≡ Some y) c.from_residual-in_err-records.result c.in_err-records.field-0.0 (err_from_is_err_and c.from_residual-in_err-records.result c.from_residual-in_err-records.ensures.1)
    c.in_err-records.ensures.refused (λ cause. refused_by c.args.folder.now.files (create_args_of c.args.args.now) None (Some c.in_err-records.field-0.0) _ _ c.in_ok-base.ensures.accepted cause refl refl)

pub volumes-requires-clause-base : goal.volumes-requires-clause-base
volumes-requires-clause-base c = subst (λ base. is_par_name base ≡ true) (sym c.in_ok-base.ensures.name) (head_passed _ c.in_ok-base.ensures.accepted).par_name

pub volumes-requires-clause-exponents : goal.volumes-requires-clause-exponents
volumes-requires-clause-exponents c = (head_passed _ c.in_ok-base.ensures.accepted).exponents

pub returns-in_err-volumes-clause-refused : goal.returns-in_err-volumes-clause-refused
returns-in_err-volumes-clause-refused c =
    let a = create_args_of c.args.args.now in
    let head = c.in_ok-base.ensures.accepted in
    passed.refused_by (λ y. long_name (volume_names (volumes_of c.in_ok-base.base a.first a.count)) ≡ Some y) (λ y. refusal c.args.folder.now.files (Create a) ≡ Some y) c.from_residual-in_err-volumes.result c.in_err-volumes.field-0.0 (err_from_is_err_and c.from_residual-in_err-volumes.result c.from_residual-in_err-volumes.ensures.1)
    c.in_err-volumes.ensures.refused (λ cause. refused_by c.args.folder.now.files a None None (Some c.in_err-volumes.field-0.0) _ head c.in_ok-records.ensures.passed
    (long_without_base a head ∙ subst (λ base. long_name (volume_names (volumes_of base a.first a.count)) ≡ Some c.in_err-volumes.field-0.0) c.in_ok-base.ensures.name cause) refl)

pub returns-in-Some-existing-clause-refused : goal.returns-in-Some-existing-clause-refused
returns-in-Some-existing-clause-refused c =
    let is = named (goal.at.returns-in-Some-existing-clause-refused c).After-existing in
    inr (refused_by c.args.folder.now.files (create_args_of c.args.args.now) None None None (Some c.in-Some-existing.fault) c.in_ok-base.ensures.accepted c.in_ok-records.ensures.passed is.0 (is.1 ∙ c.in-Some-existing.is))

pub returns-clause-accepted : goal.returns-clause-accepted
returns-clause-accepted c =
    let is = named (goal.at.returns-clause-accepted c).After-existing in
    refused_by c.args.folder.now.files (create_args_of c.args.args.now) None None None None c.in_ok-base.ensures.accepted c.in_ok-records.ensures.passed is.0 (is.1 ∙ c.in_default-existing.is)

few_records : (folder : Folder) (a : CreateArgs) (all records : List FileRecord) → RecordsInputs folder a all → head_fault a ≡ None → inputs_fault folder a ≡ None → records ≡ all → length records ≤ 32768
few_records folder a all records are head inputs same =
    let ordered = in_id_order (files_of folder a.inputs) in
    let size : length records ≡ length ordered = sym (length-map records file_record_of) ∙ ap length (ap (map file_record_of) same ∙ are) ∙ length-map ordered (record_of a.slice) in
    subst (λ n. n ≤ 32768) (sym size) (few_in_order folder a.slice a.inputs (inputs_passed _ _ inputs) (head_passed _ head).positive)

pub index_of-requires : goal.index_of-requires
index_of-requires c = few_records c.args.folder.now.files (create_args_of c.args.args.now) c.in_ok-records.records.items _ c.in_ok-records.ensures.records c.in_ok-base.ensures.accepted c.in_ok-records.ensures.passed c.deref-3.ensures.value

pub invariant_of-parts : goal.invariant_of-parts
invariant_of-parts c =
    let inputs = map string_bytes c.args.args.now.inputs.items in
    let a = create_args_of c.args.args.now in
    let asked : c.deref-5.result.now ≡ volumes_of a.base a.first a.count = c.deref-5.ensures.value ∙ c.in_ok-volumes.ensures.volumes ∙ ap (λ base. volumes_of base a.first a.count) c.in_ok-base.ensures.name in
    let folder = c.args.folder.now.files in
    let s = c.args.args.now.slice in
    let order = files_of_records s folder inputs c.deref-4.result.now (ap (map file_record_of) c.deref-4.ensures.value ∙ c.in_ok-records.ensures.records) in
    let head : IsHead (create_args_of c.args.args.now) = head_passed _ c.in_ok-base.ensures.accepted in
    let are : AreInputs folder s inputs = inputs_passed _ (create_args_of c.args.args.now) c.in_ok-records.ensures.passed in
    record {
      sixteen = ap length c.in_ok-set_id.ensures.id ∙ length-md5 _;
      positive = head.positive;
      fours = head.fours;
      small = head.small;
      exponents = subst (All (λ (volume : Volume). volume.first + volume.count ≤ 65536)) (sym asked) (volumes_end (string_bytes c.args.args.now.base) c.args.args.now.first c.args.args.now.count head.exponents);
      few = subst (λ n. n ≤ 32768) (sym (ap (λ files. length (all_slices s files)) order)) (few_slices folder s inputs are);
    }

-- the changes are those of the create
made : (c : In_ok-push_files) → c.push_files.new.changes ≡ create_changes c.args.folder.now.files (create_args_of c.args.args.now)
made c =
    let folder = c.args.folder.now.files in
    let a = create_args_of c.args.args.now in
    let asked : c.deref-5.result.now ≡ volumes_of a.base a.first a.count = c.deref-5.ensures.value ∙ c.in_ok-volumes.ensures.volumes ∙ ap (λ base. volumes_of base a.first a.count) c.in_ok-base.ensures.name in
    let index = c.in_ok-set_id.index.items in
    let id = c.in_ok-set_id.set_id in
    let volumes = c.deref-5.result.now in
    let s = c.args.args.now.slice in
    let records = map (record_of s) (in_id_order (files_of folder a.inputs)) in
    let buffers = all_slices s (files_of folder (names_of c.deref-4.result.now)) in
    let order = files_of_records s folder a.inputs c.deref-4.result.now (ap (map file_record_of) c.deref-4.ensures.value ∙ c.in_ok-records.ensures.records) in
    let are : map file_record_of c.deref-3.result.now ≡ records = ap (map file_record_of) c.deref-3.ensures.value ∙ c.in_ok-records.ensures.records in
    let is_index : index ≡ flat_map packet (index_packets s records) = c.in_ok-set_id.ensures.bytes ∙ ap (λ files. flat_map packet (index_packets s files)) are in
    let is_id : id ≡ main_id s records = c.in_ok-set_id.ensures.id ∙ ap (main_id s) are in
    let same : written folder c.in_ok-base.base index id s buffers volumes ≡ create_changes folder a = rw (c.in_ok-base.ensures.name, is_index, is_id, order, asked) (create_written folder a) in
    let put = put_change folder in
    let files = c.in_ok-files.files.items in
    let first : c.push.new.self ≡ put (c.in_ok-base.base, index) ∷ [] = c.in_ok-push.ensures.ok ∙ ap₂ (λ (cs : List Change) x. cs ++ x ∷ []) c.new-changes.ensures c.put_change.ensures in
    c.in_ok-push_files.ensures
    ∙ ap₂ (λ (cs added : List Change). cs ++ added) first (sym (map-map put as_file files) ∙ ap (map put) c.in_ok-files.ensures ∙ map-map put (λ (v : Volume). (v.name, index ++ flat_map packet (recovery_packets s id buffers v.first v.count))) volumes)
    ∙ same

pub returns-clause-changes : goal.returns-clause-changes
unfolding changes_of
returns-clause-changes c = made (goal.at.returns-clause-changes c).In_ok-push_files

pub returns-clause-applies : goal.returns-clause-applies
returns-clause-applies c = ap (are_applicable c.args.folder.now.files) (made (goal.at.returns-clause-applies c).In_ok-push_files) ∙ create_applies c.args.folder.now.files (create_args_of c.args.args.now)

pub returns-clause-leads : goal.returns-clause-leads
unfolding after
returns-clause-leads c = ap (effects c.args.folder.now.files) (made (goal.at.returns-clause-leads c).In_ok-push_files) ∙ create_leads c.args.folder.now.files (create_args_of c.args.args.now)
