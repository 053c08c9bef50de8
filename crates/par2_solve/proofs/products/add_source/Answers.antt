use Rattle.par2_solve.proofs.Names.{ap, arith, get_or, get_or_default, length, list_at, lists_of, next_target, read_at, rules, sym, with_items, with_items_is, word_of, written_changed, written_here, ◌-◌, ◌<◌, ◌∙◌, ◌≡◌}
use Rattle.par2_solve.proofs.products.add_source.Goals as goal

pub loop-r-preserved : goal.loop-r-preserved
loop-r-preserved c =
    let l = c.loop-r in
    let columns = c.args.columns in
    let was = get_or l.targets l.r c.index-targets-r.result in
    let new = c.add_product.new.target in
    let size : length new ≡ was.len = search rules in
    let place : l.r < length l.targets = search rules in
    let row : c.index-factors-r.result.items ≡ list_at (lists_of c.args.factors.now) l.r = search (rules, read_at) in
    let factor : c.index.result.now ≡ get_or (list_at (lists_of c.args.factors.now) l.r) c.args.k 0 =
    c.index.ensures ∙ sym (get_or_default c.index-factors-r.result.items c.args.k 0 _ (omega (arith, ap length row, c.requires.factors l.r (search rules)))) ∙ ap (λ xs. get_or xs c.args.k 0) row in
    let after = written_here l.targets l.r (with_items was new) place ∙ with_items_is was new size in
    let before : c.as_mut_slice.result.now ≡ list_at (lists_of l.targets) l.r = search (rules, read_at) in
    next_target (λ x. get_or (list_at (lists_of c.args.factors.now) x) c.args.k 0) (λ p. word_of c.args.source.now (p - columns.from)) (lists_of c.args.targets.now) (lists_of l.targets) _ columns.from columns.to l.r l.invariant (written_changed l.targets l.r _)
    (rw (after, ← before) (rw factor at c.add_product.ensures))

pub index-requires : goal.index-requires
index-requires c =
    let row : c.index-factors-r.result.items ≡ list_at (lists_of c.args.factors.now) c.loop-r.r = search (rules, read_at) in
    omega (arith, ap length row, c.requires.factors c.loop-r.r (search rules))

pub add_product-requires : goal.add_product-requires
add_product-requires c =
    let l = c.loop-r in
    let before : c.as_mut_slice.result.now ≡ list_at (lists_of l.targets) l.r = search (rules, read_at) in
    omega (arith, c.requires.room l.r (search rules), ap length (before ∙ l.invariant.rest l.r (omega arith)))
