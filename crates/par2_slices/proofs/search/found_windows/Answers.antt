use Rattle.par2_slices.proofs.Names.{◌≡◌, ◌∙◌, ◌≤◌, ◌++◌, ◌∷◌, [], ℕ, List, length, map, sym, ap, ap₂, subst, Option, IfSome, option_map, map-append, map_more, All-push, Pair, first_position, found, no_pair, pair_at, AreShort, IsWithin, Window, padded_window, padded_windows, buffers_of, window_in, position_of_pair, position_found, position_within}
use Rattle.par2_slices.proofs.search.found_windows.Goals as goal

pub window_at-requires : goal.window_at-requires
window_at-requires c =
    let s : ℕ = c.args.s in
    let buffers : List (List ℕ) = buffers_of c.args.buffers.now in
    let i : ℕ = c.loop-position.position-index in
    let its = position_of_pair s buffers c.args.pairs.now c.in_ok-positions.positions.items c.deref-position-items.result.now i (c.in_ok-positions.ensures ∙ ap (map (first_position s buffers)) c.in_ok-wanted.ensures) c.deref-position-items.ensures.value c.loop-position-test.true in
    subst (λ position. IfSome position (IsWithin buffers)) (sym its.1) (position_within s buffers (pair_at c.args.pairs.now i))

pub loop-position-preserved : goal.loop-position-preserved
loop-position-preserved c =
    let s : ℕ = c.args.s in
    let buffers : List (List ℕ) = buffers_of c.args.buffers.now in
    let pairs : List Pair = c.args.pairs.now in
    let i : ℕ = c.loop-position.position-index in
    let its = position_of_pair s buffers pairs c.in_ok-positions.positions.items c.deref-position-items.result.now i (c.in_ok-positions.ensures ∙ ap (map (first_position s buffers)) c.in_ok-wanted.ensures) c.deref-position-items.ensures.value c.loop-position-test.true in
    let window : padded_window s c.window_at.result ≡ found s buffers (pair_at pairs i) = c.window_at.ensures.value ∙ ap (option_map (window_in s buffers)) its.1 ∙ position_found s buffers (pair_at pairs i) in
    record {
      first =
          ap (padded_windows s) c.in_ok-push.ensures.items
          ∙ map-append (padded_window s) c.loop-position.windows.items (c.window_at.result ∷ [])
          ∙ ap₂ (λ (ws : List (Option (List ℕ))) w. ws ++ w ∷ []) c.loop-position.invariant.first window
          ∙ sym (map_more (found s buffers) pairs i no_pair its.0);
      short =
          let IsShort : Window → Type 0 = λ w. IfSome w (λ bytes. length bytes.now ≤ s) in
          subst (λ (ws : List Window). AreShort s ws) (sym c.in_ok-push.ensures.items) (All-push IsShort c.loop-position.windows.items c.window_at.result c.loop-position.invariant.short c.window_at.ensures.short);
    }
