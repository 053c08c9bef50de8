use Rattle.par2_inputs.proofs.Names.{◌≡◌, ◌<◌, refl, sym, subst, inl, inr, length, true, rules, cases_lt, false≢true, is_utf8, is_name, volume_at, is_utf8-from_IsUtf8, volume_is_name}
use Rattle.par2_inputs.proofs.inputs.volume_at.Goals as goal

pub returns-clause-refused : goal.returns-clause-refused
returns-clause-refused c =
    let volume = volume_at c.args.base.now c.args.first c.args.count c.args.i in
    let is : c.deref.result.now ≡ volume.name = search rules in
    let string : is_utf8 volume.name ≡ true = subst (λ x. is_utf8 x ≡ true) is (is_utf8-from_IsUtf8 c.deref.result.now c.deref.utf8) in
    let long : 255 < length volume.name = elim (cases_lt 255 (length volume.name)) as (λ _. 255 < length volume.name) [
      | inl more ↦ more
      | inr short ↦ absurd (false≢true (c.in-Err.ensures.variant.1 (subst (λ x. is_name x ≡ true) (sym is) (volume_is_name c.args.base.now volume.first volume.count c.as_str.ensures.name string short))))
    ] in
    inr (refl, long)
