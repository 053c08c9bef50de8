use Rattle.recovery_calls.proofs.Common.{ℕ, List, length, ap, rules, arith, Bor, length-map}
use Rattle.par2_spec.specs.Prelude.{padded}
use Rattle.par2_solve.specs.BufferContents.{byte_lists}
use Rattle.par2_inputs.specs.Records.{slices_of_records}
use Rattle.par2_packets.specs.declared.record.FileRecord.{FileRecord}
use Rattle.recovery_calls.proofs.recovery_slice_of.Goals as goal

pub recovery_slice-requires-clause-slices : goal.recovery_slice-requires-clause-slices
recovery_slice-requires-clause-slices c =
    let s : ℕ = c.args.set.now.slice in
    let slices : List (Bor (List ℕ)) = c.in_ok-slices.slices.items in
    let buffers = length-map slices (λ (slice : Bor (List ℕ)). slice.now) in
    let all = length-map (byte_lists slices) (padded s) in
    let same = ap (λ (files : List FileRecord). length (slices_of_records c.args.folder.now.files s files)) c.deref.ensures.value in
    omega (arith, buffers, all, ap length c.in_ok-slices.ensures, same, c.can_combine.ensures.slices (search rules), c.len.ensures)
