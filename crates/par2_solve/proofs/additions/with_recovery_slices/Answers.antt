use Rattle.par2_solve.proofs.Names.{AddsToEach, AreWhole, AreWholeBuffers, Bor, Global, HaveWords, List, Place, Vec, [], ap, ap₂, are_whole, arith, byte_lists, get_or, length, length-byte_lists, length-lists_of, lists_of, map-append, recovered, rules, subst, sym, take, take_all, take_more, with_items_is, ℕ, ◌++◌, ◌<◌, ◌∙◌, ◌∷◌, ◌≡◌}
use Rattle.par2_solve.proofs.additions.with_recovery_slices.Goals.{After-as_mut_slice}
use Rattle.par2_solve.proofs.additions.with_recovery_slices.Goals as goal

pub loop-k-preserved : goal.loop-k-preserved
loop-k-preserved c =
    let slices = byte_lists c.args.kept.now.slices.now in
    ap lists_of c.in_ok-push.ensures.items ∙ map-append (λ (x : Vec ℕ Global). x.items) c.loop-k.sums.items (c.in_ok-from_slice.field-0 ∷ [])
    ∙ ap₂ (λ (xs : List (List ℕ)) (x : List ℕ). xs ++ x ∷ []) c.loop-k.invariant (c.in_ok-from_slice.ensures.items ∙ c.source_at.ensures)
    ∙ sym (take_more slices c.loop-k.k [] (omega (arith, c.loop-k-test.true, length-byte_lists c.args.kept.now.slices.now)))

copies_are : (c : After-as_mut_slice) → lists_of c.as_mut_slice.result.now ≡ byte_lists c.args.kept.now.slices.now
copies_are c =
    let slices = byte_lists c.args.kept.now.slices.now in
    ap lists_of c.as_mut_slice.ensures.value ∙ c.loop-k.invariant ∙ take_all c.loop-k.k slices (omega (arith, c.loop-k-test.false, length-byte_lists c.args.kept.now.slices.now))

whole : (c : After-as_mut_slice) → AreWhole c.new-outputs.result c.as_mut_slice.result.now
whole c =
    let copies = c.as_mut_slice.result.now in
    let places = c.in_ok-places.places.items in
    let many = sym (length-lists_of copies) ∙ ap (λ (xs : List (List ℕ)). length xs) (copies_are c) ∙ length-byte_lists c.args.kept.now.slices.now in
    are_whole c.args.words c.new-outputs.result places copies (subst (λ n. AreWholeBuffers n places) (sym many) c.in_ok-places.ensures) (c.new-outputs.ensures.places ∙ c.deref.ensures.value) c.new-outputs.ensures.words
    (subst (HaveWords c.args.words) (sym (copies_are c)) c.requires)

pub invariant_of-targets : goal.invariant_of-targets
invariant_of-targets c = record { count = c.args.kept.now.count ∙ sym c.in_ok-places.ensures.count ∙ ap (λ (ps : List Place). length ps) (sym (c.new-outputs.ensures.places ∙ c.deref.ensures.value)) }

pub add_recovery-requires : goal.add_recovery-requires
add_recovery-requires c = (whole (goal.at.add_recovery-requires c).After-as_mut_slice).room

pub returns : goal.returns
returns c =
    let at = (goal.at.returns c).After-as_mut_slice in
    let new = c.add_recovery.new.buffers in
    let same : length new ≡ c.loop-k.sums.len = search rules in
    let given = λ (t p : ℕ). recovered (byte_lists c.args.transform.now.slices.now) (get_or c.args.kept.now.exponents.now t 0) p in
    subst (λ (xs : List (Vec ℕ Global)). AddsToEach given (byte_lists c.args.kept.now.slices.now) (lists_of xs)) (sym (with_items_is c.loop-k.sums new same))
    (subst (λ (old : List (List ℕ)). AddsToEach given old (lists_of new)) (copies_are at) ((whole at).each given new c.in_ok-add_recovery.ensures))
