use Rattle.par2_sets.proofs.AnswerNames.{ℕ, ◌≡◌, ◌≤◌, ◌∙◌, true, sym, subst, map, arith, rules, Ok, Some, IfOk, IsSound, is_slice_size, main_of, packet_view, set_view, set_from_packets, size_parts, all_read}
use Rattle.par2_sets.proofs.set.set_in.Goals.{In_ok-recovery_of}
use Rattle.par2_sets.proofs.set.set_in.Goals as goal

read : (c : In_ok-recovery_of) → set_from_packets c.args.id (map packet_view c.args.packets.now)
    ≡ Ok (set_view c.args.id c.slice_size-slice_size.result c.in_ok-targets_of.field-0.items c.in_ok-recovery_of.field-0.items)
read c =
    let packets = map packet_view c.args.packets.now in
    let main = c.in-Some.main in
    let has : main_of c.args.id packets ≡ Some main = sym c.main_of.ensures ∙ c.in-Some.is in
    all_read c.args.id packets main c.slice_size-slice_size.result _ c.in_ok-targets_of.field-0.items c.in_ok-recovery_of.field-0.items has c.slice_size-slice_size.ensures (search rules) c.in_ok-described.ensures (search rules) (search rules) c.in_ok-recovery_of.ensures.value

pub returns : goal.returns
returns c = read (goal.at.returns c).In_ok-recovery_of

pub invariant_of-result : goal.invariant_of-result
invariant_of-result c = record {
  rising = c.in_ok-recovery_of.ensures.rising;
  sound = subst (λ r. IfOk r IsSound) (read (goal.at.invariant_of-result c).In_ok-recovery_of) c.requires;
}
