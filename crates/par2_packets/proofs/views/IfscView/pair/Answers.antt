use Rattle.par2_packets.proofs.Names.{rules, length, ◌<◌, ◌^◌, ◌+◌, ◌*◌, ℕ, List, Some, sym, ap, ◌∙◌, arith, Pair, u32_at, pair_fits, pair_of_view}
use Rattle.par2_packets.proofs.views.IfscView.pair.Goals as goal

pub overflow_mul-at : goal.overflow_mul-at
overflow_mul-at c =
    let small : length c.self.inside.body.now < 2 ^ 63 = search (rules, arith) in
    omega (arith, small, pair_fits c.args.self.now c.self.inside.body.now c.args.k c.self.view_is c.self.invariant c.requires)

pub overflow_add-at : goal.overflow_add-at
overflow_add-at c =
    let small : length c.self.inside.body.now < 2 ^ 63 = search (rules, arith) in
    omega (arith, small, pair_fits c.args.self.now c.self.inside.body.now c.args.k c.self.view_is c.self.invariant c.requires)

pub block-requires : goal.block-requires
block-requires c = omega (arith, pair_fits c.args.self.now c.self.inside.body.now c.args.k c.self.view_is c.self.invariant c.requires)

pub u32_at-requires : goal.u32_at-requires
u32_at-requires c = omega (arith, pair_fits c.args.self.now c.self.inside.body.now c.args.k c.self.view_is c.self.invariant c.requires)

pub returns : goal.returns
returns c =
    pair_of_view c.args.self.now c.self.inside.body.now c.args.k c.self.view_is c.requires
    ∙ ap (λ (md5 : List ℕ). Some (let p : Pair = (md5, u32_at (16 + 20 * c.args.k + 16) c.self.inside.body.now) in p)) (sym c.block.ensures)
    ∙ ap (λ (crc : ℕ). Some (let p : Pair = (c.block.result, crc) in p)) (sym c.u32_at.ensures)
