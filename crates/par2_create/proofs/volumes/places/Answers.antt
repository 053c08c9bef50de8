use Rattle.par2_create.proofs.Names.{◌≡◌, ◌<◌, ◌∙◌, [], List, ℕ, Vec, Global, length, get_or, sym, ap, ap₂, arith, zero-add, length-map, length-replicate, get_or-map, get_or_default, enumerate_from, length-enumerate_from, get_or-enumerate_from, blank_volume, places_in, Volume, appended_all, appended_next, length-volume}
use Rattle.par2_create.proofs.volumes.places.Goals as goal

pub append_places-requires : goal.append_places-requires
append_places-requires c =
    let volumes : List Volume = c.args.parts.now.volumes.now in
    let buffers : List (Vec ℕ Global) = c.args.buffers.now in
    let i = c.loop-i.i in
    let volume : Volume = get_or volumes i c.index-parts-i.result in
    let content : Vec ℕ Global = c.index-buffers-i.result in
    let low = c.loop-i-test.true in
    let volume_bytes = blank_volume c.args.parts.now in
    let many = ap length c.requires in
    let there : i < length buffers = omega (arith, many, length-map buffers (λ (content : Vec ℕ Global). content.items), length-map volumes volume_bytes, low) in
    ap (λ (bytes : List ℕ). length bytes) (
    c.deref.ensures.value ∙ ap (λ (t : Vec ℕ Global). t.items) (c.index-buffers-i.is ∙ get_or_default buffers i _ content there) ∙ sym (get_or-map (λ (t : Vec ℕ Global). t.items) buffers i content [] there)
    ∙ ap (λ (xs : List (List ℕ)). get_or xs i []) c.requires ∙ get_or-map volume_bytes volumes i c.index-parts-i.result [] low)
    ∙ length-volume c.args.parts.now _ volume (λ _. length-replicate {A = ℕ} c.args.parts.now.slice 0)

pub loop-i-preserved : goal.loop-i-preserved
loop-i-preserved c =
    let volumes : List Volume = c.args.parts.now.volumes.now in
    let i : ℕ = c.loop-i.i in
    let volume : Volume = get_or volumes i c.index-parts-i.result in
    let low = c.loop-i-test.true in
    let zs = enumerate_from 0 volumes in
    let at : (i, volume) ≡ get_or zs i (i, volume) = ap₂ (λ (n : ℕ) (v : Volume). (n, v)) (sym (zero-add i)) (get_or_default volumes i _ volume low) ∙ sym (get_or-enumerate_from 0 volumes i _ low) in
    appended_next (places_in c.args.parts.now) zs i (i, volume) [] _ _ (omega (arith, length-enumerate_from 0 volumes, low)) at c.loop-i.invariant c.in_ok-append_places.ensures

pub returns : goal.returns
returns c =
    appended_all (places_in c.args.parts.now) (enumerate_from 0 c.args.parts.now.volumes.now) c.loop-i.i [] _ (omega (arith, length-enumerate_from 0 c.args.parts.now.volumes.now, c.loop-i-test.false)) c.loop-i.invariant
