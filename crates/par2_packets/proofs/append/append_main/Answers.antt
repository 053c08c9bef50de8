use Rattle.par2_packets.proofs.Names.{rules, ◌≡◌, ◌++◌, List, ℕ, map, sym, ap, ap₂, ◌∙◌, arith, flat_map, w32, to_le_bytes, length-map, take_all, file_record_of, FileRecord}
use Rattle.par2_spec.specs.Volumes as volumes
use Rattle.par2_packets.proofs.append.append_main.Goals as goal

pub returns-clause-ok : goal.returns-clause-ok
returns-clause-ok c =
    let files = c.args.files.now in
    let ids = λ (fs : List FileRecord). flat_map (λ (r : volumes.FileRecord). r.id) (map file_record_of fs) in
    let count = c.to_le_bytes-2.ensures ∙ ap (to_le_bytes w32) (sym (length-map files file_record_of)) in
    let front = c.in_ok-extend_from_slice.ensures.items ∙ ap₂ (λ (a b : List ℕ). a ++ b) (c.in_ok-body.ensures.items ∙ c.to_le_bytes.ensures) count in
    let body_is : c.loop-file.body.items ≡ volumes.main_bytes c.args.s (map file_record_of files) =
    c.loop-file.invariant ∙ ap₂ (λ (a b : List ℕ). a ++ b) front (ap ids (take_all c.loop-file.file-index files (omega (arith, c.loop-file-test.false)))) in
    search (rules, body_is)
