use Rattle.par2_slices.proofs.Names.{List, ap, ap₂, sym, subst, ◌≡◌, ◌∙◌, ◌*◌, ◌/◌, ◌%◌, ◌^◌, ℕ, set, bit_or, Groups, Includes, included, kept_by_insert, only_by_insert, with_bit}
use Rattle.par2_slices.proofs.wanted.Filter.insert.Goals as goal

pub returns : goal.returns
returns c =
    let crc = c.args.crc in
    let shift = c.args.self.now.shift in
    let bytes = c.args.self.now.bytes in
    let place = c.byte_at.ensures.place in
    let at = λ (other : ℕ) (groups : Groups). Includes groups other in
    let is : c.write.new.self ≡ with_bit shift crc bytes = ap₂ (λ (s : ℕ) (bs : List ℕ). record { shift = s; bytes = bs }) c.write.ensures.shift (c.write.ensures.bytes ∙ ap (λ (b : ℕ). set bytes (crc / 2 ^ shift) (bit_or b (1 * 2 ^ (crc % 8) % 2 ^ 8))) c.byte_at.ensures.value) in
    record {
      shift = c.write.ensures.shift;
      included = subst (at crc) (sym is) (included shift crc bytes place);
      kept = λ other held. subst (at other) (sym is) (kept_by_insert shift crc bytes place other held);
      only = λ other held. only_by_insert shift crc bytes place other (subst (at other) is held);
    }
