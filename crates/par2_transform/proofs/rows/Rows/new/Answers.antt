use Rattle.par2_transform.proofs.Names.{rules, ◌%◌, ◌*◌, ◌/◌, ◌∙◌, ap, List, WordVector, word_of, zero_column, zero_vectors}
use Rattle.par2_transform.proofs.rows.Rows.new.Goals as goal

pub returns-clause-zero : goal.returns-clause-zero
returns-clause-zero c = zero_column (record { levels = c.args.levels; words = 32 * (c.args.words / 32); vectors = c.in_ok-vectors.vectors.items }) (λ p. ap (λ (xs : List WordVector). word_of xs p) (c.in_ok-vectors.ensures.items_if_clones_equal (λ y is. search rules)) ∙ zero_vectors _ c.zeros.result c.zeros.ensures (p / 32) (p % 32))
