use Rattle.par2_slices.proofs.Names.{List, ap, ap₂, sym, subst, ◌≡◌, ◌∙◌, ◌*◌, ◌/◌, ◌%◌, ◌^◌, ℕ, set, bit_and, bit_not, w8, Groups, Includes, gone, kept_by_remove, only_by_remove, without_bit}
use Rattle.par2_slices.proofs.wanted.Filter.remove.Goals as goal

pub returns : goal.returns
returns c =
    let crc = c.args.crc in
    let shift = c.args.self.now.shift in
    let bytes = c.args.self.now.bytes in
    let place = c.byte_at.ensures.place in
    let at = λ (other : ℕ) (groups : Groups). Includes groups other in
    let is : c.write.new.self ≡ without_bit shift crc bytes = ap₂ (λ (s : ℕ) (bs : List ℕ). record { shift = s; bytes = bs }) c.write.ensures.shift (c.write.ensures.bytes ∙ ap (λ (b : ℕ). set bytes (crc / 2 ^ shift) (bit_and b (bit_not w8 (1 * 2 ^ (crc % 8) % 2 ^ 8)))) c.byte_at.ensures.value) in
    record {
      shift = c.write.ensures.shift;
      gone = λ held. gone shift crc bytes place (subst (at crc) is held);
      kept = λ other differs held. subst (at other) (sym is) (kept_by_remove shift crc bytes place other differs held);
      only = λ other held. only_by_remove shift crc bytes place other (subst (at other) is held);
    }
