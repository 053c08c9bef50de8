use Rattle.par2_repair.proofs.Names.{◌≡◌, ◌∙◌, ◌++◌, ◌+◌, ◌<◌, ◌∷◌, [], List, ℕ, Bor, get_or, length, map, take, sym, ap, arith, concat, map_more, map-append, padded, buffers_of, take-again, take_all, concat_push}
use Rattle.par2_repair.proofs.restored.joined.Goals as goal

one_more : (s size : ℕ) (slices : List (Bor (List ℕ))) (i : ℕ) (d : Bor (List ℕ)) (old new : List ℕ) → i < length slices
    → old ≡ take size (concat (map (padded s) (buffers_of (take i slices)))) → new ≡ take size (old ++ padded s (get_or slices i d).now)
    → new ≡ take size (concat (map (padded s) (buffers_of (take (i + 1) slices))))
one_more s size slices i d old new low before made =
    let item : List ℕ = (get_or slices i d).now in
    let done : List (List ℕ) = map (padded s) (buffers_of (take i slices)) in
    made ∙ ap (λ xs. take size (xs ++ padded s item)) before ∙ take-again size (concat done) (padded s item)
    ∙ ap (take size) (sym (concat_push done (padded s item)))
    ∙ ap (λ xs. take size (concat xs)) (sym (map-append (padded s) (buffers_of (take i slices)) (item ∷ [])) ∙ ap (map (padded s)) (sym (map_more (λ (b : Bor (List ℕ)). b.now) slices i d low)))

pub loop-slice-init : goal.loop-slice-init
loop-slice-init c = c.in_ok-file.ensures.items ∙ sym (take_all {A = ℕ} c.args.size [] (omega arith))

pub loop-slice-preserved : goal.loop-slice-preserved
loop-slice-preserved c = one_more c.args.slice_size c.args.size c.args.slices.now c.loop-slice.slice-index _ _ _ c.loop-slice-test.true c.loop-slice.invariant c.in_ok-push_slice.ensures

pub returns : goal.returns
returns c = c.loop-slice.invariant ∙ ap (λ (ss : List (Bor (List ℕ))). take c.args.size (concat (map (padded c.args.slice_size) (buffers_of ss)))) (take_all c.loop-slice.slice-index c.args.slices.now c.loop-slice-test.false)
