use Rattle.par2_journal_format.proofs.Common.{List, ℕ, ◌++◌, ap, ◌∙◌, halfway_bytes, journal_bytes, part_from, front_bytes}
use Rattle.par2_journal_format.proofs.writing.body.Goals as goal

pub returns : goal.returns
unfolding journal_bytes front_bytes
returns c = λ j begins.
    let appended = c.in_ok-append_halfway.ensures in
    let is = begins.settled in (
      record { fingerprint = is.fingerprint; cursor = is.cursor; count = is.count; entries = is.entries; halfway = appended.halfway },
      appended.bytes ∙ ap (λ (front : List ℕ). front ++ halfway_bytes (part_from c.args.halfway)) (c.in_ok-reserve_exact.ensures.items ∙ begins.bytes),
    )
