use Rattle.par2_packets.proofs.Common.{rules, ◌≡◌, ◌+◌, ◌++◌, length, map, take, subst, ap, ◌∙◌, List, ℕ, arith, flat_map, w32, w64, to_le_bytes, common_steps, Holds, md5, file_record_of}
use Rattle.par2_spec.specs.Volumes as volumes
use Rattle.par2_packets.proofs.record.main_id.Goals as goal

pub loop-file-init : goal.loop-file-init
loop-file-init c =
    let said : c.to_le_bytes.result ++ c.to_le_bytes-2.result ≡ to_le_bytes w64 c.args.s ++ to_le_bytes w32 (length c.args.files.now) = search rules in
    subst (Holds c.update-2.new.self) said (c.update-2.ensures _ (c.update.ensures _ c.new-hasher.ensures))

pub loop-file-preserved : goal.loop-file-preserved
loop-file-preserved c =
    let head : List ℕ = to_le_bytes w64 c.args.s ++ to_le_bytes w32 (length c.args.files.now) in
    let more : (head ++ flat_map (λ file. file.id) (map file_record_of (take c.loop-file.file-index c.args.files.now))) ++ c.file-item.result.id
    ≡ head ++ flat_map (λ file. file.id) (map file_record_of (take (c.loop-file.file-index + 1) c.args.files.now)) = grind (arith, common_steps) in
    subst (Holds c.update-in-loop-file.new.self) more (c.update-in-loop-file.ensures _ c.loop-file.invariant)

pub returns : goal.returns
returns c =
    let all : to_le_bytes w64 c.args.s ++ to_le_bytes w32 (length c.args.files.now) ++ flat_map (λ file. file.id) (map file_record_of (take c.loop-file.file-index c.args.files.now))
    ≡ volumes.main_bytes c.args.s (map file_record_of c.args.files.now) = grind (arith, common_steps) in
    c.finalize.ensures _ c.loop-file.invariant ∙ ap md5 all
