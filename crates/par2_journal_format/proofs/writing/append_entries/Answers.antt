use Rattle.par2_journal_format.proofs.Names.{◌≡◌, ◌++◌, length, ap, subst, ◌∙◌, append_assoc, flat_map, w64, to_le_bytes, IsEntry, change_bytes, entry_bytes, wrote_more}
use Rattle.par2_journal_format.proofs.writing.append_entries.Goals as goal

pub loop-entry-preserved : goal.loop-entry-preserved
loop-entry-preserved c =
    let entry = c.entry-item.result in
    let out = c.loop-entry.out.items in
    let changes = c.in_ok-append_changes.ensures in
    let bytes : c.append_changes.new.out.items ≡ out ++ entry_bytes entry = rw (changes.each, c.as_slice.ensures, c.in_ok-append_number.ensures, c.len.ensures) (append_assoc out (to_le_bytes w64 (length entry)) (flat_map change_bytes entry)) in
    wrote_more c.args.entries.now c.loop-entry.entry-index IsEntry entry_bytes c.args.out.now.items out c.append_changes.new.out.items entry c.loop-entry-test.true c.entry-item.is c.loop-entry.invariant bytes (subst IsEntry c.as_slice.ensures changes.changes)
