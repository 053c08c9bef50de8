use Rattle.par2_gf16.proofs.Names.{ℕ, ◌*◌, ap, ◌∙◌, arith, mul, word_of, all_added, block_more, in_vector, product_past}
use Rattle.par2_gf16.proofs.factor.Factor.add_products.Goals as goal

pub loop-k-preserved : goal.loop-k-preserved
loop-k-preserved c =
    block_more (λ (p : ℕ). mul c.args.self.now (word_of c.args.vectors.now p)) c.args.dst.now c.loop-k.dst c.add_to.new.dst c.times.result c.loop-k.k
    (λ j low. c.times.ensures j low ∙ ap (mul c.args.self.now) (in_vector c.args.vectors.now c.loop-k.k j low)) c.loop-k.invariant c.add_to.ensures

pub returns : goal.returns
returns c =
    all_added (λ (p : ℕ). mul c.args.self.now (word_of c.args.vectors.now p)) c.args.dst.now c.loop-k.dst (32 * c.loop-k.k)
    (λ p past room. product_past c.args.self.now c.args.vectors.now p (omega arith)) c.loop-k.invariant
