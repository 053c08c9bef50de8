use Rattle.par2_solve.proofs.Names.{AddsToEach, AreProducts, AreSums, Global, List, Vec, byte_lists, coefficient_products, length, length-byte_lists, lists_of, quotient_coefficient, quotient_rows, quotient_sum, rules, subst, sums_of_blank, sym, with_items_is, words_at, ℕ, ◌∙◌, ◌≡◌}
use Rattle.par2_solve.proofs.inverse.located_products.Goals as goal

pub returns : goal.returns
returns c =
    let locator = c.args.locator.now in
    let size = c.args.size.bytes in
    let sources = byte_lists c.args.sources.now in
    let new = c.add_quotient_sums.new.buffers in
    let blank = c.in_ok-sums.ensures in
    let reported = c.as_mut_slice.ensures.value in
    let many : c.len.result ≡ length locator.points.items = search rules in
    let same : length new ≡ c.in_ok-sums.sums.len = search rules in
    let given = λ (t p : ℕ). quotient_sum locator.numerators.sequence.items locator.points.items locator.factors.items (words_at sources p) t in
    let added : AddsToEach given (lists_of c.in_ok-sums.sums.items) (lists_of new) = subst (λ (xs : List (Vec ℕ Global)). AddsToEach given (lists_of xs) (lists_of new)) reported c.in_ok-add_quotient_sums.ensures in
    subst (λ (xs : List (Vec ℕ Global)). AreProducts size (quotient_rows locator.numerators.sequence.items locator.points.items locator.factors.items) sources (lists_of xs)) (sym (with_items_is c.in_ok-sums.sums new same))
    (coefficient_products (quotient_coefficient locator.numerators.sequence.items locator.points.items locator.factors.items) (length locator.points.items) (length locator.numerators.sequence.items) size sources (lists_of new) (length-byte_lists c.args.sources.now ∙ sym c.requires)
    (subst (λ n. AreSums size n (λ w r. given r w) (lists_of new)) many (sums_of_blank size c.len.result given (lists_of c.in_ok-sums.sums.items) (lists_of new) blank added)))
