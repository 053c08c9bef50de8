use Rattle.par2_gf16.proofs.Names.{ℕ, ◌*◌, ap, ◌∙◌, arith, mul, product-zero, word, word_past, all_added, block_more}
use Rattle.par2_gf16.proofs.tables.Gf.mul_add_by.Goals as goal

pub loop-k-preserved : goal.loop-k-preserved
loop-k-preserved c =
    block_more (λ (p : ℕ). mul c.args.factor.now (word p c.args.src.now)) c.args.dst.now c.loop-k.dst c.add_to.new.dst c.times.result c.loop-k.k
    (λ j low. c.times.ensures j low ∙ ap (mul c.args.factor.now) (c.padded-words.ensures j low)) c.loop-k.invariant c.add_to.ensures

pub returns : goal.returns
returns c =
    all_added (λ (p : ℕ). mul c.args.factor.now (word p c.args.src.now)) c.args.dst.now c.loop-k.dst (32 * c.loop-k.k)
    (λ p past room. ap (mul c.args.factor.now) (word_past c.args.src.now p (omega arith)) ∙ product-zero c.args.factor.now) c.loop-k.invariant
