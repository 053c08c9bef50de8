use Rattle.par2_solve.proofs.Names.{mul, part_added, refl, word_of, ℕ, ◌*◌, ◌-◌}
use Rattle.par2_solve.proofs.products.add_product.Goals as goal

pub returns : goal.returns
returns c =
    let columns = c.args.columns in
    part_added (λ (p : ℕ). mul c.args.factor (word_of c.args.source.now p)) c.args.target.now c.add_products.new.dst columns.from columns.to (2 * columns.to - 2 * columns.from) columns.order c.requires refl
    (rw c.new.ensures at c.add_products.ensures)
