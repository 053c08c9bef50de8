use Rattle.library_tests.proofs.Common.{◌≡◌, [], ◌∷◌, IsTrue, None, sym, subst, ◌∙◌, takes_all, state_after, change_refusal, inverse, takes_both, inverse_taken, state_back, change_of}
use Rattle.library_tests.proofs.ChangesBack.{back_taken}
use Rattle.library_tests.proofs.files.has_back_from_two.Goals as goal

pub has_along-requires : goal.has_along-requires
has_along-requires g c =
    let start = c.args.folder in
    let one = state_after start (change_of c.args.first) in
    let two = state_after one (change_of c.args.second) in
    let back_one = inverse start.files (change_of c.args.first) in
    let back_two = inverse one.files (change_of c.args.second) in
    let middle : c.apply.new.self ≡ one = c.in_ok-apply.ensures.folder in
    let accepted : change_refusal one (change_of c.args.second) ≡ None = subst (λ s. change_refusal s (change_of c.args.second) ≡ None) middle c.in_ok-apply-2.ensures.accepted in
    let last : IsTrue (takes_all one (back_one ∷ [])) = back_taken start (change_of c.args.first) c.in_ok-apply.ensures.accepted in
    let both : IsTrue (takes_all two (back_two ∷ back_one ∷ [])) =
    takes_both two back_two (back_one ∷ []) (inverse_taken one (change_of c.args.second) accepted)
    (subst (λ s. IsTrue (takes_all s (back_one ∷ []))) (sym (state_back one (change_of c.args.second) accepted)) last) in
    let there : c.apply-2.new.self ≡ two = c.in_ok-apply-2.ensures.folder ∙ (λ i. state_after (middle i) (change_of c.args.second)) in
    let second : change_of c.apply-2.new.change ≡ back_two = c.in_ok-apply-2.ensures.inverse ∙ (λ i. inverse (middle i).files (change_of c.args.second)) in
    let first : change_of c.apply.new.change ≡ back_one = c.in_ok-apply.ensures.inverse in
    rw (there, second, first) both
