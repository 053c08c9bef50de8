use Rattle.par2_packets.proofs.Names.{◌≡◌, ◌<◌, ◌-◌, sym, ap, ◌∙◌, arith, rules, w128, from_le_bytes, IsNonDecreasingBy-from_sort_by_key, record_id_number, increasing, FileRecord, distinct_keys, moved_distinct, same_ids, rises_more, not_distinct}
use Rattle.par2_packets.proofs.record.sort_ids.Goals as goal

pub returns-then-number_of-clause-distinct : goal.returns-then-number_of-clause-distinct
returns-then-number_of-clause-distinct c =
    let first = c.index-files-i.result in
    let second = c.index-files-i-in-loop-i.result in
    let one = c.number_of.ensures in
    let other = c.number_of-in-loop-i.ensures in
    let same : first.id ≡ second.id =
    ap (λ (file : FileRecord). file.id) c.index-files-i.is ∙ same_ids _ _ one.size other.size one.bytes other.bytes (sym one.value ∙ c.if-number_of.true ∙ other.value)
    ∙ sym (ap (λ (file : FileRecord). file.id) c.index-files-i-in-loop-i.is) in
    let before : c.loop-i.i - 1 < c.loop-i.i = omega (arith, c.loop-i.auto.i) in (
      λ h. absurd (search rules),
      λ distinct. absurd (not_distinct (λ file. file.id) c.sort_unstable_by_key.new.self (c.loop-i.i - 1) c.loop-i.i first second before c.loop-i-test.true c.index-files-i.is c.index-files-i-in-loop-i.is same
          (moved_distinct (λ file. file.id) c.args.files.now c.sort_unstable_by_key.new.self c.sort_unstable_by_key.ensures.permutation distinct)),
    )

pub loop-i-preserved : goal.loop-i-preserved
loop-i-preserved c =
    let up = IsNonDecreasingBy-from_sort_by_key record_id_number _ c.sort_unstable_by_key.ensures.sorted (λ a r q k. search rules) in
    rises_more record_id_number c.sort_unstable_by_key.new.self c.loop-i.i c.index-files-i.result c.index-files-i-in-loop-i.result c.loop-i.auto.i c.loop-i-test.true up c.loop-i.invariant
    c.index-files-i.is c.index-files-i-in-loop-i.is (λ same. c.if-number_of.false (c.number_of.ensures.value ∙ sym (ap record_id_number c.index-files-i.is) ∙ same ∙ ap record_id_number c.index-files-i-in-loop-i.is ∙ sym c.number_of-in-loop-i.ensures.value))

pub returns-clause-rising : goal.returns-clause-rising
returns-clause-rising c = increasing record_id_number c.sort_unstable_by_key.new.self (λ k d within. c.loop-i.invariant k d (omega (arith, within, c.loop-i-test.false)))

pub returns-clause-distinct : goal.returns-clause-distinct
returns-clause-distinct c = (
  λ _. distinct_keys (λ file. file.id) (from_le_bytes w128) c.args.files.now c.sort_unstable_by_key.new.self c.sort_unstable_by_key.ensures.permutation
      (increasing record_id_number c.sort_unstable_by_key.new.self (λ k d within. c.loop-i.invariant k d (omega (arith, within, c.loop-i-test.false)))),
  λ _. search rules,
)
