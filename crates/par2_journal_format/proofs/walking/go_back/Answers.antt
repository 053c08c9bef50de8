use Rattle.par2_journal_format.proofs.Names.{◌≡◌, ◌≤◌, ◌-◌, take, drop, true, Bool, inr, refl, length, sym, ap, ◌∙◌, arith, pointwise, bytes_eq, length-map, not-false, not-true, FolderState, takes_all, are_applicable, takes_applicable, leads_through, change_of, changes_in, goes, goes_not, each_after, places_within, went_forth}
use Rattle.std.specs.Prelude.{List}
use Rattle.par2_files.specs.declared.change.Change.{Change}
use Rattle.par2_journal_format.proofs.walking.go_back.Goals.{After-ne}
use Rattle.par2_journal_format.proofs.walking.go_back.Goals as goal

-- changes that can be made are taken if there is a place for each
taken : (folder : FolderState) (way : List Change) (can : Bool) → can ≡ are_applicable folder.files (changes_in way) → can ≡ true → length way ≤ folder.vacant → takes_all folder (changes_in way) ≡ true
taken folder way can is so room = takes_applicable folder (changes_in way) (sym is ∙ so) (omega (arith, places_within (changes_in way), length-map way change_of, room))

-- whether the changes lead through the expected fingerprints
leads : (c : After-ne) → pointwise bytes_eq (take (length c.deref.result.now - 1) (drop 1 c.deref.result.now)) c.args.wanted.now ≡ leads_through c.args.folder.now.files (changes_in c.args.way.now) c.args.wanted.now
leads c =
    let way = changes_in c.args.way.now in
    let each : length c.args.wanted.now ≡ length way = omega (arith, c.requires, length-map c.args.way.now change_of) in
    goes c.reserve.new.self.files way c.args.wanted.now _ each (sym (c.in_ok-go_along.ensures _ c.of.ensures).reported ∙ c.if-not-branch.false) (each_after c.deref.result.now c.reserve.new.self.files way (c.deref.ensures.value ∙ c.in_ok-found.ensures.along))
    ∙ ap (λ f. leads_through f way c.args.wanted.now) c.reserve.ensures.files

-- ---- the goals

pub returns-then-not-branch-clause-refused : goal.returns-then-not-branch-clause-refused
returns-then-not-branch-clause-refused c =
    let way = changes_in c.args.way.now in
    inr (refl, ap (λ f. leads_through f way c.args.wanted.now) (sym c.reserve.ensures.files) ∙ sym (goes_not c.reserve.new.self.files way c.args.wanted.now (sym (c.in_ok-go_along.ensures _ c.of.ensures).reported ∙ c.if-not-branch.true)))

pub fingerprints-requires-clause-taken : goal.fingerprints-requires-clause-taken
fingerprints-requires-clause-taken c = taken c.reserve.new.self c.args.way.now c.in_ok-go_along.field-0 (c.in_ok-go_along.ensures _ c.of.ensures).reported c.if-not-branch.false (omega (arith, c.in_ok-reserve.ensures.ok))

pub returns-then-ne-clause-refused : goal.returns-then-ne-clause-refused
returns-then-ne-clause-refused c =
    inr (refl, sym (leads (goal.at.returns-then-ne-clause-refused c).After-ne) ∙ not-true _ (sym c.ne.ensures ∙ c.if-ne.true))

pub apply_all-requires : goal.apply_all-requires
apply_all-requires c = taken c.reserve.new.self c.args.way.now c.in_ok-go_along.field-0 (c.in_ok-go_along.ensures _ c.of.ensures).reported c.if-not-branch.false (omega (arith, c.in_ok-reserve.ensures.ok))

pub returns-clause-leads : goal.returns-clause-leads
returns-clause-leads c = sym (leads (goal.at.returns-clause-leads c).After-ne) ∙ not-false _ (sym c.ne.ensures ∙ c.if-ne.false)

pub returns-clause-went : goal.returns-clause-went
returns-clause-went c =
    went_forth c.args.folder.now.files c.reserve.new.self c.apply_all.new.self c.args.way.now c.apply_all.new.changes c.reserve.ensures.files
    (taken c.reserve.new.self c.args.way.now c.in_ok-go_along.field-0 (c.in_ok-go_along.ensures _ c.of.ensures).reported c.if-not-branch.false (omega (arith, c.in_ok-reserve.ensures.ok)))
    c.apply_all.ensures.folder c.apply_all.ensures.way_back
