use Rattle.par2_slices.proofs.Names.{◌-◌, ◌/◌, ◌^◌, ℕ, List, take, drop, subst, sym, arith, Pair, HoldsGroup, PairPlace, within, ends_of, group_of}
use Rattle.par2_slices.proofs.wanted.Wanted.group.Goals as goal

pub returns : goal.returns
returns c =
    let crc : ℕ = c.args.crc in
    let start : ℕ = c.index.result.now in let end : ℕ = c.index-2.result.now in
    let pairs : List Pair = c.self.inside.pairs.items in
    let places : List PairPlace = c.self.inside.places.items in
    let ends = ends_of places _ (crc / 2 ^ 17) start end c.self.invariant.1 (within crc 17 c.ranges.crc.fits (omega arith)) c.index.ensures c.index-2.ensures in
    subst (λ (ps : List Pair). HoldsGroup ps crc (take (end - start) (drop start c.deref.result.now))) c.self.view_is (subst (λ (ps : List PairPlace). HoldsGroup pairs crc (take (end - start) (drop start ps))) (sym c.deref.ensures.value) (group_of pairs places crc start end c.self.invariant.0 ends.0 ends.1))
