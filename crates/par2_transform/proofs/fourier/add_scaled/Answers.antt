use Rattle.par2_transform.proofs.Names.{◌≡◌, sym, subst, mul, zero-product, RunAddedBy, each_start}
use Rattle.par2_transform.proofs.StepLaws.{run_none}
use Rattle.par2_transform.proofs.fourier.add_scaled.Goals as goal

pub returns-else-c-ne0 : goal.returns-else-c-ne0
returns-else-c-ne0 c =
    each_start (RunAddedBy (mul c.args.c) c.args.from c.args.to c.args.count) c.args.rows.now
    (λ f. run_none (mul c.args.c) c.args.from c.args.to c.args.count f (λ v. subst (λ k. mul k v ≡ 0) (sym c.if-c-ne0.false) (zero-product v)))
