use Rattle.par2_slices.proofs.Names.{◌/◌, ◌∙◌, ap, fold, get_or, length, sym, take_all, crc_byte, fold_more, grouped}
use Rattle.par2_slices.proofs.checksum.after_bytes.Goals as goal

pub loop-byte-preserved : goal.loop-byte-preserved
loop-byte-preserved c =
    c.after_byte-after.ensures ∙ ap (λ r. crc_byte r (get_or c.as_chunks.result.1.now c.loop-byte.byte-index 0)) c.loop-byte.invariant ∙ sym (fold_more c.as_chunks.result.1.now c.after_groups-after.result c.loop-byte.byte-index c.loop-byte-test.true)

pub returns : goal.returns
returns c =
    grouped c.args.remainder (length c.args.bytes.now / 16) c.after_groups-after.result c.loop-byte.after c.args.bytes.now c.as_chunks.result.1.now c.as_chunks.result.0.now c.as_chunks.ensures.front c.as_chunks.ensures.back c.after_groups-after.ensures (c.loop-byte.invariant ∙ ap (fold crc_byte c.after_groups-after.result) (take_all c.loop-byte.byte-index c.as_chunks.result.1.now c.loop-byte-test.false))
