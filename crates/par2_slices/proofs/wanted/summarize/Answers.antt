use Rattle.par2_slices.proofs.Names.{arith, ap, ◌/◌, ◌%◌, ◌∙◌, bit_at, get_or, get_or-set_same, w32, bit_at_set_same, kept_by_clear, kept_by_set}
use Rattle.par2_slices.proofs.wanted.summarize.Goals as goal

pub returns-then-byte-eq0-clause-kept : goal.returns-then-byte-eq0-clause-kept
returns-then-byte-eq0-clause-kept c other differs is =
    kept_by_clear w32 c.args.bits.now (c.args.place / 32) (c.args.place % 32) (omega (arith, c.requires)) (omega arith) (other / 32) (other % 32) (omega arith) (λ both. differs (omega (arith, both.0, both.1))) is

pub returns-else-byte-eq0-clause-here : goal.returns-else-byte-eq0-clause-here
returns-else-byte-eq0-clause-here c some =
    let place = c.args.place in
    ap (λ word. bit_at word (place % 32)) (get_or-set_same c.args.bits.now (place / 32) _ 0 (omega (arith, c.requires)))
    ∙ bit_at_set_same w32 (get_or c.args.bits.now (place / 32) 0) (place % 32) (omega arith)

pub returns-else-byte-eq0-clause-kept : goal.returns-else-byte-eq0-clause-kept
returns-else-byte-eq0-clause-kept c other differs is = kept_by_set w32 c.args.bits.now (c.args.place / 32) (c.args.place % 32) (omega (arith, c.requires)) (omega arith) (other / 32) (other % 32) is
