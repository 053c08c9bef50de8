use Rattle.par2_transform.proofs.Names.{◌+◌, ◌*◌, ◌^◌, ◌∙◌, ap, subst, AreValues, EachColumn, point, value, each_then, zero-mul-add, point-lt}
use Rattle.par2_transform.proofs.fourier.values_at_points.Goals as goal

pub returns : goal.returns
returns c =
    let k = c.levels-levels.result in
    let count = c.args.count in
    subst (λ n. EachColumn (AreValues count n) c.args.rows.now c.values_in_coset.new.rows) c.levels-levels.ensures.value
    (each_then c.to_combinations.ensures c.values_in_coset.ensures
    (λ f g h combination values short u low. values u low (λ a most. most) ∙ combination short (point (0 * 2 ^ k + u)) (point-lt _) ∙ ap (λ n. value (2 ^ k) f (point n)) (zero-mul-add (2 ^ k) u)))
