use Rattle.par2_packets.proofs.Names.{◌≡◌, ◌+◌, ◌-◌, ◌≤◌, ℕ, List, [], length, true, false, ap, sym, ◌∙◌, arith, rest_of, packet_view, length-drop, begun, body_length, found, not_here, passed_to, magic_within, nothing}
use Rattle.par2_packets.proofs.Common.{drop}
use Rattle.par2_spec.specs.Packets as packets
use Rattle.par2_packets.proofs.scan.next_packet.Goals as goal

pub advance-requires-in-Some-packet_at : goal.advance-requires-in-Some-packet_at
advance-requires-in-Some-packet_at c =
    let here : List ℕ = rest_of c.advance.new.self in
    let begins : packets.begins_with_packet here ≡ true = sym c.in-Some-packet_at.ensures.begins in
    let size = body_length here (packet_view c.in-Some-packet_at.packet) begins c.in-Some-packet_at.ensures.first in
    omega (arith, size, (begun here begins).2, ap length c.in-Some-packet_at.ensures.kept)

pub returns-in-Some-packet_at : goal.returns-in-Some-packet_at
returns-in-Some-packet_at c =
    let bytes : List ℕ = c.rest.result.now in
    let here : List ℕ = rest_of c.advance.new.self in
    let size : ℕ = 64 + length c.in-Some-packet_at.packet.body.now in
    let at : here ≡ drop c.in-Some.place bytes = c.advance.ensures ∙ ap (drop c.in-Some.place) (sym c.rest.ensures) in
    let past : List ℕ = rest_of c.advance-in-Some-packet_at.new.self in
    let behind : past ≡ drop size here = c.advance-in-Some-packet_at.ensures ∙ ap (drop size) c.in-Some-packet_at.ensures.kept in
    sym c.loop-place.invariant ∙ ap packets.accepted (sym c.rest.ensures) ∙ sym (passed_to bytes _ here c.in-Some.place c.new-finder.ensures c.in-Some.ensures.0 at)
    ∙ found here (packet_view c.in-Some-packet_at.packet) past (sym c.in-Some-packet_at.ensures.begins) c.in-Some-packet_at.ensures.first behind

pub loop-place-smaller : goal.loop-place-smaller
loop-place-smaller c =
    let here : List ℕ = rest_of c.packet_at.new.cursor in
    let fewer : length (rest_of c.advance-in-Some.new.self) ≡ length here - 1 = ap length c.advance-in-Some.ensures ∙ length-drop 1 here in
    let most : length here ≡ length (rest_of c.loop-place.cursor) - c.in-Some.place =
    ap length c.packet_at.ensures.kept ∙ ap length c.advance.ensures ∙ length-drop c.in-Some.place (rest_of c.loop-place.cursor) in
    let within : c.in-Some.place + 8 ≤ length c.rest.result.now = magic_within c.rest.result.now _ c.in-Some.place c.new-finder.ensures c.in-Some.ensures.1 in
    let all : length c.rest.result.now ≡ length (rest_of c.loop-place.cursor) = ap length c.rest.ensures in
    omega (arith, fewer, most, all, within)

pub loop-place-preserved : goal.loop-place-preserved
loop-place-preserved c =
    let bytes : List ℕ = c.rest.result.now in
    let here : List ℕ = rest_of c.packet_at.new.cursor in
    let kept = c.packet_at.ensures.kept in
    let none : packets.begins_with_packet here ≡ false = ap packets.begins_with_packet kept ∙ sym c.in_default-packet_at.ensures.begins in
    let at : here ≡ drop c.in-Some.place bytes = kept ∙ c.advance.ensures ∙ ap (drop c.in-Some.place) (sym c.rest.ensures) in
    not_here here (rest_of c.advance-in-Some.new.self) none c.advance-in-Some.ensures
    ∙ passed_to bytes _ here c.in-Some.place c.new-finder.ensures c.in-Some.ensures.0 at ∙ ap packets.accepted c.rest.ensures ∙ c.loop-place.invariant

pub returns : goal.returns
returns c =
    let none : packets.accepted (rest_of c.loop-place.cursor) ≡ [] = ap packets.accepted (sym c.rest.ensures) ∙ nothing c.rest.result.now _ c.new-finder.ensures c.in_default.ensures in
    (sym c.loop-place.invariant ∙ none, none)
