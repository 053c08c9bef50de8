use Rattle.par2_transform.proofs.Additions.{group_apart}
use Rattle.par2_transform.proofs.outputs.Places.part.Goals as goal

pub invariant_of-result : goal.invariant_of-result
invariant_of-result c = record { apart = group_apart c.args.self.now.words c.args.from c.args.to c.args.self.now.places.now c.requires.order c.requires.end c.args.self.now.apart }
