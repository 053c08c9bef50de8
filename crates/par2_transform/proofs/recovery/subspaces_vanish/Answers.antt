use Rattle.par2_transform.proofs.Names.{◌∙◌, ◌+◌, ap, sym, zero-add, ◌^◌, ◌*◌, bit_xor, bit_at, pow, field_sum_same, vanishing, powers_in, vanishing_point, leading_power}
use Rattle.par2_transform.proofs.recovery.subspaces_vanish.Goals as goal

pub returns-clause-on_cosets : goal.returns-clause-on_cosets
returns-clause-on_cosets c = vanishing_point

pub returns-clause-leading : goal.returns-clause-leading
returns-clause-leading c = λ i x h.
    leading_power i x h ∙ ap (bit_xor (vanishing i x)) (field_sum_same i (λ j. bit_at (powers_in i) j * pow x (2 ^ j)) (λ j. bit_at (powers_in i) j * pow x (0 + 2 ^ j))
    (λ j l. ap (λ n. bit_at (powers_in i) j * pow x n) (sym (zero-add (2 ^ j)))))
