use Rattle.par2_transform.proofs.Names.{◌∙◌, ◌-◌, ap, take, drop, word_of, row_column}
use Rattle.par2_transform.proofs.rows.Rows.row.Goals as goal

pub returns-clause-words : goal.returns-clause-words
returns-clause-words c = λ k.
    let inside = c.self.inside in
    let a = c.place.result in
    let b = c.place-2.result in
    ap (λ xs. word_of (take (b - a) (drop a xs)) k) c.deref.ensures.value
    ∙ rw (← c.self.view_is) (row_column inside.levels inside.width c.args.u a b inside.vectors.items k (rw (← c.self.view_is) at c.place.ensures) (rw (← c.self.view_is) at c.place-2.ensures))
