use Rattle.par2_transform.proofs.Names.{rules, ℕ, ◌%◌, ◌*◌, ◌/◌, ◌≡◌, ◌∙◌, ap, sym, subst, List, WordVector, column, word_of, with_items_is, kept_rows, zero_column, zero_vectors, zeros_rewritten}
use Rattle.par2_transform.proofs.rows.Rows.clear.Goals as goal

zero : (c : goal.After-self-1) → (p : ℕ) → word_of c.fill.new.self p ≡ 0
zero c p = ap (λ (xs : List WordVector). word_of xs p) (c.fill.ensures.after (λ y is. search rules)) ∙ zero_vectors _ c.zeros.result c.zeros.ensures (p / 32) (p % 32)

pub invariant_of-self : goal.invariant_of-self
invariant_of-self c = (kept_rows _ _ c.self.inside.vectors _ c.fill.new.self c.self.invariant.0 c.as_mut_slice.ensures.value (zeros_rewritten _ _ c.fill.ensures.len (zero c)) (c.fill.ensures.len ∙ c.as_mut_slice.ensures.len), c.self.invariant.1)

pub returns-clause-zero : goal.returns-clause-zero
returns-clause-zero c =
    let inside = c.self.inside in
    let same = sym (with_items_is inside.vectors c.fill.new.self (c.fill.ensures.len ∙ c.as_mut_slice.ensures.len)) in
    subst (λ (xs : List WordVector). (k u : ℕ) → column (record { levels = inside.levels; words = 32 * inside.width; vectors = xs }) k u ≡ 0) same (zero_column (record { levels = inside.levels; words = 32 * inside.width; vectors = c.fill.new.self }) (zero c))
