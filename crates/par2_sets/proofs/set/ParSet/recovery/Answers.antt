use Rattle.par2_sets.proofs.AnswerNames.{◌≡◌, ◌∙◌, ◌<◌, length, sym, ap, subst, AllByRecursion, IsStrictlyIncreasing, entries, IsSound, set_exponents, set_recovery, all_weaker, kept_entries}
use Rattle.par2_sets.proofs.set.ParSet.recovery.Goals as goal

pub returns : goal.returns
returns c =
    let set = c.args.self.now in
    let items : c.deref.result.now ≡ c.self.inside.recovery.items = c.deref.ensures.value in
    let same : set_recovery c.deref.result.now ≡ entries set.recovery =
    ap set_recovery items ∙ sym (kept_entries c.self.inside.recovery.items c.self.invariant.rising) ∙ ap (λ s. entries s.recovery) c.self.view_is in
    let sound = subst IsSound c.self.view_is c.self.invariant.sound in record {
      value = same;
      rising = subst (λ rs. IsStrictlyIncreasing (set_exponents rs)) (sym items) c.self.invariant.rising;
      sizes = all_weaker _ (λ r. length r.1 ≡ set.slice_size) (λ r h. h.1) (set_recovery c.deref.result.now) (subst (AllByRecursion (λ r. (r.0 < 65536) × (length r.1 ≡ set.slice_size))) (sym same) sound.recovery);
    }
