use Rattle.par2_solve.proofs.Names.{AreProducts, AreSolvedBy, Global, IfOk-weaker, Inverts, IsInverseMatrix, List, Vec, byte_lists, length, length-byte_lists, lists_of, located_rows, rows_solve, same_count, subst, sym, words_at, ℕ, ◌∙◌}
use Rattle.par2_solve.proofs.inverse.Inverse.products.Goals as goal

pub returns-in-Rows : goal.returns-in-Rows
returns-in-Rows c =
    let n = c.args.size.bytes in
    let sources = byte_lists c.args.sources.now in
    IfOk-weaker c.products_of.result (λ sums. AreProducts n (lists_of c.deref.result.now) sources (lists_of sums.items)) (λ sums. (es : List ℕ) → AreSolvedBy c.args.self.now n es (words_at sources) (lists_of sums.items))
    (λ sums are es lost inverts.
    rows_solve n lost es (lists_of c.deref.result.now) sources (lists_of sums.items)
    (subst (λ (xs : List (Vec ℕ Global)). IsInverseMatrix lost es (lists_of xs)) (sym c.deref.ensures.value) (subst (Inverts lost es) c.in-Rows.is inverts)) c.buffers_fit.ensures
    (length-byte_lists c.args.sources.now ∙ sym (same_count lost es (length c.args.sources.now) c.args.self.now inverts c.requires)) are)
    c.products_of.ensures

pub returns-in-Located : goal.returns-in-Located
returns-in-Located c =
    let n = c.args.size.bytes in
    let sources = byte_lists c.args.sources.now in
    let rows = located_rows c.in-Located.locator in
    IfOk-weaker c.located_products.result (λ sums. AreProducts n rows sources (lists_of sums.items)) (λ sums. (es : List ℕ) → AreSolvedBy c.args.self.now n es (words_at sources) (lists_of sums.items))
    (λ sums are es lost inverts.
    rows_solve n lost es rows sources (lists_of sums.items) (subst (Inverts lost es) c.in-Located.is inverts).is_inverse c.buffers_fit.ensures
    (length-byte_lists c.args.sources.now ∙ sym (same_count lost es (length c.args.sources.now) c.args.self.now inverts c.requires)) are)
    c.located_products.ensures
