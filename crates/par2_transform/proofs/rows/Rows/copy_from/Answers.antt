use Rattle.par2_transform.proofs.Names.{◌*◌, ◌∙◌, ap, sym, subst, List, length, with_items_is, AreCopied, CopiesVectors, Grid, WordVector, rows_copied, arith, ℕ, ◌≤◌, ◌^◌, GivesElements, word_of, copied_rewritten, kept_rows, place_is, rows_fit}
use Rattle.par2_transform.proofs.rows.Rows.copy_from.Goals as goal

pub returns : goal.returns
returns c =
    let inside = c.self.inside in
    let old = inside.vectors.items in
    let new = c.copy.new.dst in
    let count = c.place-count.result in
    let same = c.requires.same.words ∙ ap (λ (g : Grid). g.words) (sym c.self.view_is) in
    let source = c.deref.ensures.value ∙ ap (λ (g : Grid). g.vectors) c.other.view_is in
    let copied : CopiesVectors count c.args.other.now.vectors old new =
    subst (λ xs. CopiesVectors count xs old new) source (subst (λ xs. CopiesVectors count c.deref.result.now xs new) c.as_mut_slice.ensures.value c.copy.ensures) in
    rw (← c.self.view_is)
    (subst (λ (xs : List WordVector). AreCopied c.args.count c.args.other.now (record { levels = inside.levels; words = 32 * inside.width; vectors = old }) (record { levels = inside.levels; words = 32 * inside.width; vectors = xs })) (sym (with_items_is inside.vectors new (c.copy.auto.dst ∙ c.as_mut_slice.ensures.len)))
    (rows_copied inside.levels (32 * inside.width) c.args.count count c.args.other.now old new same (rw (← c.self.view_is) at c.place-count.ensures) copied))

pub copy-requires-clause-source : goal.copy-requires-clause-source
copy-requires-clause-source c =
    let inside = c.other.inside in
    let start_is = place_is c.args.count inside.width c.place-count.result (c.place-count.ensures ∙ ap (λ (n : ℕ). c.args.count * n) (sym c.requires.same.words ∙ sym (ap (λ (g : Grid). g.words) c.other.view_is))) in
    let few = subst (λ (n : ℕ). c.args.count ≤ 2 ^ n) (sym (ap (λ (g : Grid). g.levels) c.other.view_is ∙ c.requires.same.levels)) c.requires.count in
    omega (arith, rows_fit inside.levels inside.width 0 c.args.count inside.vectors.items c.other.invariant.0 (omega (arith, few)), start_is, ap (λ (xs : List WordVector). length xs) c.deref.ensures.value)

pub copy-requires-clause-room : goal.copy-requires-clause-room
copy-requires-clause-room c =
    let inside = c.self.inside in
    let start_is = place_is c.args.count inside.width c.place-count.result (rw (← c.self.view_is) at c.place-count.ensures) in
    let few : c.args.count ≤ 2 ^ inside.levels = rw (← c.self.view_is) at c.requires.count in
    omega (arith, rows_fit inside.levels inside.width 0 c.args.count inside.vectors.items c.self.invariant.0 (omega (arith, few)), start_is, ap (λ (xs : List WordVector). length xs) c.as_mut_slice.ensures.value)

pub invariant_of-self : goal.invariant_of-self
invariant_of-self c =
    let fits = subst (λ (xs : List WordVector). GivesElements (word_of xs)) (sym c.deref.ensures.value) c.other.invariant.0.fit in
    (kept_rows _ _ c.self.inside.vectors _ c.copy.new.dst c.self.invariant.0 c.as_mut_slice.ensures.value (copied_rewritten c.place-count.result c.deref.result.now _ _ c.copy.ensures fits) (c.copy.auto.dst ∙ c.as_mut_slice.ensures.len), c.self.invariant.1)
