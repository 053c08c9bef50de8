use Rattle.par2_repair.proofs.Names.{◌≡◌, ◌∙◌, List, [], ℕ, Bor, length, length-map, map, refl, sym, ap, ap₂, inl, inr, rules, subst, list_any, is_at, is_among, Option, nil_from_length, all-filter, buffers_of, lists_of, names_without_match, rebuilt, known, padded, slice_cmp, nat_cmp, contains, AllByRecursion, Target, with_lost_slices, none_rebuilt, targets_are, found_ones, all_slices, all_lengths, all_counted, no_names, no_fault}
use Rattle.par2_repair.proofs.restored.restored_files.Goals.{Then-is_empty, In_ok-slices}
use Rattle.par2_repair.proofs.restored.restored_files.Goals as goal

-- each incomplete target has a match
none : (c : Then-is_empty) → names_without_match c.args.incomplete.now ≡ []
none c =
    let keys : c.in_ok-unmatched.unmatched.keys ≡ [] = nil_from_length c.in_ok-unmatched.unmatched.keys (search rules) in
    no_names _ (λ q. sym (c.in_ok-unmatched.ensures q) ∙ ap (list_any (is_at (slice_cmp nat_cmp q))) keys)

pub returns-then-is_empty-clause-targets : goal.returns-then-is_empty-clause-targets
returns-then-is_empty-clause-targets c =
    let empty : c.new.result.items ≡ [] = search rules in
    empty ∙ sym (none_rebuilt c.args.folder.now.files c.args.set.now c.args.candidates.now (ap names_without_match (sym c.requires) ∙ none (goal.at.returns-then-is_empty-clause-targets c).Then-is_empty))

pub returns-then-is_empty-clause-determined : goal.returns-then-is_empty-clause-determined
returns-then-is_empty-clause-determined c = inl (none (goal.at.returns-then-is_empty-clause-determined c).Then-is_empty)

-- all slices, without the padding that they may lack
merged : (c : In_ok-slices) → buffers_of c.in_ok-slices.slices.items ≡ with_lost_slices (found_ones c.in_ok-survivors.survivors.known.items) (lists_of c.in-Ok.rebuilt.items)
merged c = c.in_ok-slices.ensures ∙ ap₂ (λ (ws : List (Option (Bor (List ℕ)))) (bs : List (List ℕ)). with_lost_slices (found_ones ws) bs) c.deref.ensures.value (ap lists_of c.deref-2.ensures.value)

pub cut_out-requires : goal.cut_out-requires
cut_out-requires c =
    ap length c.deref-3.ensures.value ∙ sym (length-map c.in_ok-slices.slices.items (λ (b : Bor (List ℕ)). b.now)) ∙ ap length (merged (goal.at.cut_out-requires c).In_ok-slices)
    ∙ all_counted c.args.folder.now.files c.args.set.now c.args.candidates.now c.in_ok-survivors.survivors c.in_ok-survivors.ensures.are (lists_of c.in-Ok.rebuilt.items) c.in-Ok.ensures.rebuilt

pub returns-clause-targets : goal.returns-clause-targets
returns-clause-targets c =
    let folder = c.args.folder.now.files in
    let set = c.args.set.now in
    let searched : List (List ℕ) = c.args.candidates.now in
    let all : map (padded set.slice_size) (buffers_of c.deref-3.result.now) ≡ rebuilt set (known folder set searched) =
    ap (map (padded set.slice_size)) (ap buffers_of c.deref-3.ensures.value ∙ merged (goal.at.returns-clause-targets c).In_ok-slices)
    ∙ all_slices folder set searched c.in_ok-survivors.survivors c.in_ok-survivors.ensures.are (lists_of c.in-Ok.rebuilt.items) c.in-Ok.ensures.rebuilt c.rebuilt_slices_agree.ensures in
    c.in_ok-cut_out.ensures ∙ targets_are folder set searched (contains (slice_cmp nat_cmp) c.in_ok-unmatched.unmatched) _
    (λ name. c.in_ok-unmatched.ensures name ∙ ap (λ (ms : List (Target × Option (List ℕ))). is_among (names_without_match ms) name) c.requires) all

pub returns-clause-lengths : goal.returns-clause-lengths
returns-clause-lengths c =
    subst (AllByRecursion (λ t. length t.1 ≡ t.0.length)) (sym c.in_ok-cut_out.ensures)
    (all-filter (λ (t : Target × List ℕ). length t.1 ≡ t.0.length) (λ t. contains (slice_cmp nat_cmp) c.in_ok-unmatched.unmatched t.0.name) _
    (all_lengths c.args.folder.now.files c.args.set.now c.args.candidates.now c.in_ok-survivors.survivors c.in_ok-survivors.ensures.are (lists_of c.in-Ok.rebuilt.items) c.in-Ok.ensures.rebuilt c.written_files_have_their_length.ensures _ (ap buffers_of c.deref-3.ensures.value ∙ merged (goal.at.returns-clause-lengths c).In_ok-slices)))

pub returns-clause-determined : goal.returns-clause-determined
returns-clause-determined c = inr (no_fault c.args.folder.now.files c.args.set.now c.args.candidates.now c.in_ok-survivors.survivors c.in_ok-survivors.ensures.are c.tests_say_the_words.ensures (c.in-Ok.ensures.enough refl))
