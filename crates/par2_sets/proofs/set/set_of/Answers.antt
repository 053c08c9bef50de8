use Rattle.par2_sets.proofs.AnswerNames.{rules, ◌≡◌, ◌∙◌, ℕ, List, err_from_is_err_and, own_files, ok_or, main_of, is_slice_size, all_some, description_of, are_in_profile, target_of, NoDescription, NoChecksums, ◌>>=◌, map, Some, Ok, Err, Result, IfOk, refl, sym, ap, subst, arith, Fault, ParSet, IsSound, packet_view, set_from_packets, refused_by, unless, NoMain, BadSet, at_packets, first_id}
use Rattle.par2_sets.proofs.Common.{Packet}
use Rattle.par2_spec.specs.Sets as sets
use Rattle.par2_sets.proofs.set.set_of.Goals.{After-deref}
use Rattle.par2_sets.proofs.set.set_of.Goals as goal

in_step : (c : After-deref) → sets.set_of c.args.folder.now.files c.args.base.now ≡ set_from_packets c.in-Some.first.set_id (map packet_view c.deref.result.now)
in_step c =
    let files = c.args.folder.now.files in
    let first : first_id files c.args.base.now ≡ Some c.in-Some.first.set_id = grind arith in
    at_packets files c.args.base.now c.in-Some.first.set_id first
    ∙ ap (set_from_packets c.in-Some.first.set_id) (sym (ap (map packet_view) c.deref.ensures.value ∙ c.in_ok-packets.ensures.packets))

sound_if : (r : Result ParSet Fault) → ((set : ParSet) → r ≡ Ok set → IsSound set) → IfOk r IsSound
sound_if (Ok set) law = law set refl
sound_if (Err fault) law = tt

pub set_in-requires : goal.set_in-requires
set_in-requires c = sound_if _ (λ set e. c.set_is_sound.ensures c.args.folder.now.files c.args.base.now set (in_step c ∙ e))

pub returns-in_err-set-clause-refused : goal.returns-in_err-set-clause-refused
returns-in_err-set-clause-refused c =
    let step : Result ParSet Fault = set_from_packets c.in-Some.first.set_id (map packet_view c.deref.result.now) in
    refused_by (λ y. step ≡ Err y) (λ y. sets.set_of c.args.folder.now.files c.args.base.now ≡ Err y) _ c.in_err-set.field-0.0
    (err_from_is_err_and _ c.from_residual-in_err-set.ensures.1) c.in_err-set.ensures (λ h. in_step (goal.at.returns-in_err-set-clause-refused c).After-deref ∙ h)

pub returns-clause-read : goal.returns-clause-read
returns-clause-read c = in_step (goal.at.returns-clause-read c).After-deref ∙ c.in_ok-set.ensures

pub returns-clause-sound : goal.returns-clause-sound
returns-clause-sound c = c.set_is_sound.ensures c.args.folder.now.files c.args.base.now _ (in_step (goal.at.returns-clause-sound c).After-deref ∙ c.in_ok-set.ensures)

-- the set of some packets has their identifier
has_id : (id : List ℕ) (packets : List Packet) → IfOk (set_from_packets id packets) (λ set. set.id ≡ id)
has_id id packets =
    kept (ok_or (main_of id packets) NoMain) _ (λ main. kept (unless (is_slice_size main.slice_size) BadSet) _ (λ sized. kept (ok_or (all_some (map (description_of packets) main.ids)) NoDescription) _ (λ ds.
    kept (unless (are_in_profile main.slice_size ds) BadSet) _ (λ taken. kept (ok_or (all_some (map (target_of packets main.slice_size) ds)) NoChecksums) _ (λ targets. refl)))))
  where
    kept : {A : Type 0} (r : Result A Fault) (f : A → Result ParSet Fault) → ((x : A) → IfOk (f x) (λ set. set.id ≡ id)) → IfOk (r >>= f) (λ set. set.id ≡ id)
    kept (Ok x) f h = h x
    kept (Err fault) f h = tt

pub returns-clause-own : goal.returns-clause-own
returns-clause-own c =
    let id = subst (λ r. IfOk r (λ set. set.id ≡ c.in-Some.first.set_id)) c.in_ok-set.ensures (has_id c.in-Some.first.set_id (map packet_view c.deref.result.now)) in
    c.in_ok-packets.ensures.own ∙ ap (own_files c.args.folder.now.files) (sym id)

pub returns-in_default-clause-refused : goal.returns-in_default-clause-refused
unfolding sets.set_of
returns-in_default-clause-refused c = search rules
