use Rattle.par2_solve.proofs.Names.{Adds, AddsToEach, AreBlank, AreProducts, Global, List, Vec, ap, arith, byte_lists, length, length-byte_lists, length-lists_of, length-replicate, lists_of, products, rules, subst, sums_of_blank, sym, with_items_is, ℕ, ◌/◌, ◌∙◌, ◌≡◌}
use Rattle.par2_solve.proofs.products.products_of.Goals as goal

pub returns : goal.returns
returns c =
    let size = c.args.size.bytes in
    let factors = lists_of c.args.factors.now in
    let sources = byte_lists c.args.sources.now in
    let sums = c.in_ok-sums.sums in
    let new = c.add_matrix_product.new.targets in
    let same : length new ≡ sums.len = search rules in
    let blank = subst (λ n. AreBlank size n (lists_of sums.items)) (sym (length-lists_of c.args.factors.now)) c.in_ok-sums.ensures in
    let added = subst (λ n. Adds factors sources (lists_of sums.items) (lists_of new) 0 (size / 2) n) (sym (length-byte_lists c.args.sources.now))
    (subst (λ (old : List (Vec ℕ Global)). Adds factors sources (lists_of old) (lists_of new) 0 (size / 2) (length c.args.sources.now)) c.as_mut_slice.ensures.value c.in_ok-add_matrix_product.ensures) in
    let side = λ (r w : ℕ). products (length sources) factors sources r w in
    let each : AddsToEach side (lists_of sums.items) (lists_of new) = record {
      count = added.count;
      sizes = added.sizes;
      each = λ r w low fits.
          let long = ap (λ (xs : List ℕ). length xs) (blank.each r (omega (arith, low, blank.count))) ∙ length-replicate {A = ℕ} size 0 in
          added.inside r w low (omega arith) (omega (arith, long, fits)) fits;
    } in
    subst (λ (xs : List (Vec ℕ Global)). AreProducts size factors sources (lists_of xs)) (sym (with_items_is sums new same)) (sums_of_blank size (length factors) side (lists_of sums.items) (lists_of new) blank each)
