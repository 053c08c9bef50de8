use Rattle.par2_slices.proofs.Names.{◌/◌, ◌^◌, ℕ, rules, arith, IsNonDecreasingBy, PairPlace, no_place, ltb, ltb-false, ltb-true, IsNonDecreasingBy-from_default, IsPartitionPoint-from_clause, IsPartitionedBy-ltb}
use Rattle.par2_slices.proofs.wanted.group_start.Goals as goal

pub returns : goal.returns
returns c =
    let places = c.args.places.now in
    let group_of : PairPlace → ℕ = λ place. place.crc / 2 ^ 17 in
    let rises : IsNonDecreasingBy group_of places = IsNonDecreasingBy-from_default group_of places no_place (λ i j up low. omega (arith, c.requires i j no_place up low)) in
    let cut = IsPartitionPoint-from_clause (λ place. ltb (group_of place) c.args.group) places c.partition_point.result c.partition_point.ensures.partitioned (IsPartitionedBy-ltb group_of places c.args.group rises) (λ a r q k. search rules) in
    record {
      bound = c.partition_point.ensures.bound;
      below = λ k low. ltb-true _ _ (cut.0 k no_place (omega arith) low);
      above = λ k low high. ltb-false _ _ (cut.1 k no_place low high);
    }
