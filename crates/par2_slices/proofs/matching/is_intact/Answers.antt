use Rattle.par2_slices.proofs.Names.{◌≡◌, ◌∙◌, length, length-take, ap, arith, slice_count, compared_is, intact_by_md5s, not_intact_by_crcs}
use Rattle.par2_slices.proofs.matching.is_intact.Goals as goal

pub invariant_of-compared : goal.invariant_of-compared
invariant_of-compared c =
    let size : c.args.size ≡ length c.args.bytes.now = omega arith in
    let count : c.slice_count.result ≡ slice_count c.args.s (length c.args.bytes.now) = c.slice_count.ensures ∙ ap (slice_count c.args.s) size in
    record { some = c.requires; count = omega (arith, count, c.min-count.ensures, length-take c.min-count.result c.args.pairs.now) }

pub returns-then-have_crc32s : goal.returns-then-have_crc32s
returns-then-have_crc32s c t size pairs =
    intact_by_md5s c.args.s t c.args.bytes.now _ c.have_md5s.result
    (let e : length c.args.bytes.now ≡ t.length = omega (arith, size) in e)
    (compared_is c.args.s t c.args.size c.slice_count.result c.min-count.result c.args.pairs.now size pairs c.slice_count.ensures c.min-count.ensures)
    (c.have_crc32s.ensures.0 c.if-have_crc32s.true)
    c.have_md5s.ensures

pub returns-else-have_crc32s : goal.returns-else-have_crc32s
returns-else-have_crc32s c t size pairs =
    not_intact_by_crcs c.args.s t c.args.bytes.now _ c.have_crc32s.result
    (compared_is c.args.s t c.args.size c.slice_count.result c.min-count.result c.args.pairs.now size pairs c.slice_count.ensures c.min-count.ensures)
    c.have_crc32s.ensures
    c.if-have_crc32s.false
