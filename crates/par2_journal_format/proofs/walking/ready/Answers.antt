use Rattle.par2_journal_format.proofs.Names.{◌≡◌, ◌≤◌, length, take, drop, sym, subst, arith, IfOk, reverse, is_valid, leads, session_at, and_parts, leading_walks, places_before, places_behind, places_counted, sum_by}
use Rattle.par2_journal_format.proofs.walking.ready.Goals as goal

pub returns-clause-walks : goal.returns-clause-walks
returns-clause-walks c valid =
    let entries = c.args.entries.now in
    let n = c.args.cursor in
    let folder = c.reserve.new.self in
    let few = places_counted entries in
    let room : sum_by length entries ≤ folder.vacant = omega (arith, c.change_count.ensures, c.in_ok-reserve.ensures.ok) in
    let both = and_parts (leads folder.files (reverse (take n entries))) (leads folder.files (drop n entries)) (sym (subst (λ r. IfOk r (λ x. x ≡ is_valid (session_at folder.files n entries))) valid c.are_valid.ensures)) in
    record {
      back = leading_walks folder (reverse (take n entries)) both.0 (omega (arith, few, room, places_before entries n));
      forth = leading_walks folder (drop n entries) both.1 (omega (arith, few, room, places_behind entries n));
    }
