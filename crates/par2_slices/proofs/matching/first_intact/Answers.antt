use Rattle.par2_slices.proofs.Names.{◌≡◌, ◌∙◌, ℕ, arith, length-map, subst, ◌<◌, Bool, List, [], length, get_or, sym, ap, Bor, at_drop_all, get_or-map, is_intact, first_intact, listed_at, buffers_of, first_here, first_later, None, ForSome, IsFirst}
use Rattle.par2_spec.specs.Sets as sets
use Rattle.par2_slices.proofs.matching.first_intact.Goals as goal

-- what is known of a buffer is known of it by its number
at_number : (s : ℕ) (buffers : List (Bor (List ℕ))) (t : sets.Target) (i : ℕ) (d : Bor (List ℕ)) (result : Bool) → i < length buffers → result ≡ is_intact s t (get_or buffers i d).now → is_intact s t (listed_at (buffers_of buffers) i) ≡ result
at_number s buffers t i d result within is = ap (is_intact s t) (get_or-map (λ (bytes : Bor (List ℕ)). bytes.now) buffers i d [] within) ∙ sym is

pub returns-then-is_intact_by : goal.returns-then-is_intact_by
returns-then-is_intact_by c t h =
    let n : ℕ = c.loop-i.i-index in
    let i : ℕ = get_or c.args.free.now n 0 in
    let within : i < length c.args.files.buffers.now = c.requires n 0 c.loop-i-test.true in
    sym (first_here c.args.files.s (buffers_of c.args.files.buffers.now) t c.args.free.now n c.loop-i-test.true (at_number c.args.files.s c.args.files.buffers.now t i _ c.is_intact_by.result within (c.is_intact_by.ensures t h) ∙ c.if-is_intact_by.true))
    ∙ c.loop-i.invariant t h

pub loop-i-preserved : goal.loop-i-preserved
loop-i-preserved c t h =
    let n : ℕ = c.loop-i.i-index in
    let i : ℕ = get_or c.args.free.now n 0 in
    let within : i < length c.args.files.buffers.now = c.requires n 0 c.loop-i-test.true in
    first_later c.args.files.s (buffers_of c.args.files.buffers.now) t c.args.free.now n c.loop-i-test.true (at_number c.args.files.s c.args.files.buffers.now t i _ c.is_intact_by.result within (c.is_intact_by.ensures t h) ∙ c.if-is_intact_by.false)
    ∙ c.loop-i.invariant t h

pub returns : goal.returns
returns c t h =
    sym (at_drop_all (first_intact c.args.files.s (buffers_of c.args.files.buffers.now) t) c.args.free.now c.loop-i.i-index c.loop-i-test.false)
    ∙ c.loop-i.invariant t h

pub bounds-files-i : goal.bounds-files-i
bounds-files-i c = c.requires c.loop-i.i-index 0 c.loop-i-test.true

pub bounds-files-i-in-loop-i : goal.bounds-files-i-in-loop-i
bounds-files-i-in-loop-i c = omega (arith, c.args.files.crcs.count, length-map c.args.files.buffers.now (λ (bytes : Bor (List ℕ)). bytes.now), c.requires c.loop-i.i-index 0 c.loop-i-test.true)

pub is_intact_by-requires-clause-first : goal.is_intact_by-requires-clause-first
is_intact_by-requires-clause-first c =
    let buffers = c.args.files.buffers.now in
    let bytes = λ (buffer : Bor (List ℕ)). buffer.now in
    let i : ℕ = get_or c.args.free.now c.loop-i.i-index 0 in
    let within : i < length buffers = c.requires c.loop-i.i-index 0 c.loop-i-test.true in
    subst (λ bytes. ForSome (get_or c.args.files.firsts.now i None) (IsFirst c.args.files.s bytes)) (get_or-map bytes buffers i _ [] within) (c.args.files.crcs.each i (omega (arith, within, length-map buffers bytes)))
