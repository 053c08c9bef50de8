use Rattle.par2_solve.proofs.Names.{AreByteLists, AreProducts, Bor, Filled, Global, List, Vec, ap, arith, byte_lists, falling_long, filled_solve, from_origin, length, length-byte_lists, length-lists_of, length-map, length-take-le, lists_of, locator, map, rows_solve, same_count, span, subst, sym, take, ℕ, ◌+◌, ◌∙◌, ◌≡◌}
use Rattle.par2_solve.proofs.holes.Filling.products.Goals.{After-deref-5}
use Rattle.par2_solve.proofs.holes.Filling.products.Goals as goal

run_is : (c : After-deref-5) → byte_lists c.deref-5.result.now ≡ map (from_origin (byte_lists c.args.sources.now) (lists_of c.in_ok-holes.holes.items)) (take (length (byte_lists c.args.sources.now)) c.args.self.now.origins.items)
run_is c =
    ap byte_lists c.deref-5.ensures.value ∙ (rw c.deref-4.ensures.value at c.in_ok-run.ensures)
    ∙ ap (λ n. map (from_origin (byte_lists c.args.sources.now) (lists_of c.in_ok-holes.holes.items)) (take n c.args.self.now.origins.items)) (sym (length-byte_lists c.args.sources.now))

long : (c : After-deref-5) → length c.deref-5.result.now ≡ length c.args.sources.now
long c =
    let n = length (byte_lists c.args.sources.now) in let is = c.requires.1.1 in let origins = is.origins.count in let fit = is.fit in let square = c.requires.2 in
    let same = length-byte_lists c.args.sources.now in
    sym (length-byte_lists c.deref-5.result.now) ∙ ap (λ (xs : List (List ℕ)). length xs) (run_is c) ∙ length-map (take n c.args.self.now.origins.items) (from_origin (byte_lists c.args.sources.now) (lists_of c.in_ok-holes.holes.items))
    ∙ length-take-le n c.args.self.now.origins.items (omega (arith, origins, fit, square, same)) ∙ same

pub right_sides-requires : goal.right_sides-requires
right_sides-requires c =
    let is = c.requires.1.1 in
    is.origins.count ∙ sym (ap (λ (xs : List ℕ). length xs) is.sequence ∙ falling_long (locator c.requires.1.0) (span c.requires.0 + 1))

pub located_products-requires : goal.located_products-requires
located_products-requires c = let is = c.requires.1.1 in is.run.wide ∙ sym is.square ∙ c.requires.2 ∙ sym (long (goal.at.located_products-requires c).After-deref-5)

pub returns : goal.returns
returns c = λ es lost is.
    let at = (goal.at.returns c).After-deref-5 in let filling = c.args.self.now in let sources = byte_lists c.args.sources.now in
    let right = lists_of c.in_ok-right.right.items in let holes = lists_of c.in_ok-holes.holes.items in let run = byte_lists c.deref-5.result.now in
    let sums = lists_of c.in_ok-sums.sums.items in let same = same_count lost es (length c.args.sources.now) (Filled filling) is c.requires in
    let sources_count = length-byte_lists c.args.sources.now ∙ sym same in
    let borrowed : byte_lists c.deref-3.result.now ≡ right = ap byte_lists c.deref-3.ensures.value ∙ c.in_ok-borrowed.ensures ∙ ap (λ (xs : List (Vec ℕ Global)). lists_of xs) c.deref-2.ensures.value in
    let source_bytes = c.buffers_fit.ensures in
    let run_bytes : AreByteLists run = subst (λ (xs : List (Bor (List ℕ))). AreByteLists (byte_lists xs)) (c.deref-6.ensures.value ∙ sym c.deref-5.ensures.value) c.buffers_fit-2.ensures in
    let right_bytes : AreByteLists right = subst (λ (xs : List (Vec ℕ Global)). AreByteLists (lists_of xs)) c.deref-7.ensures.value c.fit_lists.ensures in
    let hole_bytes : AreByteLists holes = subst (λ (xs : List (Vec ℕ Global)). AreByteLists (lists_of xs)) c.deref-8.ensures.value c.fit_lists-2.ensures in
    let sum_bytes : AreByteLists sums = subst (λ (xs : List (Vec ℕ Global)). AreByteLists (lists_of xs)) c.deref-9.ensures.value c.fit_lists-3.ensures in
    let holes_are : AreProducts c.args.size.bytes (lists_of filling.holes.items) right holes = rw (c.deref.ensures.value, borrowed) at c.in_ok-holes.ensures in
    filled_solve lost es filling c.args.size.bytes sources right holes run sums is sources_count source_bytes right_bytes hole_bytes sum_bytes c.in_ok-right.ensures holes_are (run_is at)
    (rows_solve c.args.size.bytes lost _ _ run sums is.run.is_inverse run_bytes (length-byte_lists c.deref-5.result.now ∙ long at ∙ sym same) c.in_ok-sums.ensures)

pub products_of-requires : goal.products_of-requires
products_of-requires c r low =
    let is = c.requires.1.1 in let count = ap (λ (xs : List (Vec ℕ Global)). length xs) c.deref.ensures.value in let rows = length-lists_of c.args.self.now.holes.items in
    let sides : length c.deref-3.result.now ≡ c.args.self.now.equations.count = sym (length-byte_lists c.deref-3.result.now)
    ∙ ap (λ (xs : List (List ℕ)). length xs) (ap byte_lists c.deref-3.ensures.value ∙ c.in_ok-borrowed.ensures ∙ ap (λ (xs : List (Vec ℕ Global)). lists_of xs) c.deref-2.ensures.value) ∙ c.in_ok-right.ensures.count in
    let row = is.holes.vectors r (let few = is.holes.count in omega (arith, low, count, rows, few)) in rw c.deref.ensures.value (omega (arith, sides, row.0))
