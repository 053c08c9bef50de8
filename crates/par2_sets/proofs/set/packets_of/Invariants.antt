use Rattle.par2_sets.proofs.AnswerNames.{◌≡◌, filter, map, not, take, bytes_eq, packet_view, has_own, packets_in}
use Rattle.par2_sets.proofs.set.packets_of.Given as goal

abbrev pub invariant-loop-name : goal.invariant-loop-name
invariant-loop-name l =
    (map packet_view l.packets.items
    ≡ packets_in l.folder.files l.base (filter (λ name. not (bytes_eq name l.base)) (take l.name-index l.name-items)) l.id)
    × (l.own_files.items ≡ filter (has_own l.folder.files l.id) (take l.name-index l.name-items))
