use Rattle.par2_packets.proofs.Names.{rules, length, ◌<◌, ◌^◌, Some, sym, ap, ◌∙◌, arith, id_fits, id_of_view}
use Rattle.par2_packets.proofs.views.MainView.id.Goals as goal

pub overflow_mul-k : goal.overflow_mul-k
overflow_mul-k c =
    let small : length c.self.inside.body.now < 2 ^ 63 = search (rules, arith) in
    omega (arith, small, id_fits c.args.self.now c.self.inside.body.now c.args.k c.self.view_is c.self.invariant c.requires)

pub overflow_add-k : goal.overflow_add-k
overflow_add-k c =
    let small : length c.self.inside.body.now < 2 ^ 63 = search (rules, arith) in
    omega (arith, small, id_fits c.args.self.now c.self.inside.body.now c.args.k c.self.view_is c.self.invariant c.requires)

pub block-requires : goal.block-requires
block-requires c = id_fits c.args.self.now c.self.inside.body.now c.args.k c.self.view_is c.self.invariant c.requires

pub returns : goal.returns
returns c = id_of_view c.args.self.now c.self.inside.body.now c.args.k c.self.view_is c.requires ∙ ap (λ id. Some id) (sym c.block.ensures)
