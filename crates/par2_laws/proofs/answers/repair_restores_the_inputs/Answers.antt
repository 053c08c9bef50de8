use Rattle.par2_laws.proofs.Common.{◌≡◌, ◌∙◌, inl, inr, Some, sym, ap, subst, by_either, Memory, NotRepairable}
use Rattle.std.proofs.lemmas.Result.{IfErr-weaker, IfOk-weaker}
use Rattle.par2_spec.specs.Prelude.{KeepsFiles}
use Rattle.par2_laws.proofs.Damage.{gives_back, few_causes, leaves_choice}
use Rattle.par2_laws.proofs.answers.repair_restores_the_inputs.Goals as goal

pub returns : goal.returns
returns c = λ folder base extras purge answer is. record {
  restored = λ before a follows. IfOk-weaker answer _ _ (λ left repaired. subst (KeepsFiles a.inputs before) (sym repaired.left) (gives_back before folder a base extras follows purge repaired.accepted)) is.left;
  right = λ before a follows. IfErr-weaker answer _ _ (λ fault why. by_either why (λ memory. inl memory) (λ refused. inr (few_causes before folder a base extras follows purge fault refused))) is.refused;
  undetermined = λ before a missing rank follows. IfErr-weaker answer _ _ (λ fault why few. by_either why
      (λ memory. let clash : Memory ≡ NotRepairable missing rank = sym memory ∙ few in absurd (cc))
      (λ refused. leaves_choice before folder a base extras follows purge missing rank (refused ∙ ap Some few))) is.refused;
}
