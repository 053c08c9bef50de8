use Rattle.par2_journal_format.proofs.Names.{◌≤◌, length, arith, leb-true, name_is_short}
use Rattle.par2_journal_format.proofs.writing.append_name.Goals as goal

pub overflow_cast-string : goal.overflow_cast-string
overflow_cast-string c =
    let short : length c.args.name.now ≤ 255 = leb-true (length c.args.name.now) 255 (name_is_short c.args.name.now c.as_str-string.ensures.name) in
    rw c.as_str-string.ensures.bytes (omega (arith, short))
