use Rattle.par2_slices.proofs.Names.{rules, ◌≡◌, ◌+◌, ◌++◌, ◌∷◌, [], ◌∙◌, map, length, ap, sym, arith, range_with_len, map-range_with_len_more, IsNonDecreasingBy-from_sort_by_key, place_of, index_of}
use Rattle.par2_slices.proofs.wanted.places_of.Goals as goal

pub loop-index-preserved : goal.loop-index-preserved
loop-index-preserved c =
    let index = c.loop-index.index in c.in_ok-push.ensures.items ∙ ap (λ places. places ++ place_of c.args.pairs.now index ∷ []) c.loop-index.invariant ∙ sym (map-range_with_len_more (place_of c.args.pairs.now) 0 index index (let e : 0 + index ≡ index = omega arith in e))

pub returns : goal.returns
returns c =
    let all : c.loop-index.index ≡ length c.args.pairs.now = omega arith in
    index_of c.args.pairs.now c.loop-index.places.items c.sort_unstable_by_key.new.self.items (c.loop-index.invariant ∙ ap (λ n. map (place_of c.args.pairs.now) (range_with_len 0 n)) all) c.sort_unstable_by_key.ensures.permutation
    (IsNonDecreasingBy-from_sort_by_key (λ place. place.crc) _ c.sort_unstable_by_key.ensures.sorted (λ a r q k. search rules))
