use Rattle.par2_transform.proofs.Names.{ℕ, ◌+◌, ◌-◌, ◌*◌, ◌%◌, ◌^◌, ◌<◌, ◌≤◌, ◌≡◌, sym, arith, subst, length, pow_pos, slice_index, listed_by, IfSome, lt-ltb, run_fits}
use Rattle.par2_transform.proofs.fourier.has_wanted.Goals as goal

-- the first number of the coset and their count, as shifts compute them
places : (i number : ℕ) → i ≤ 16 → number < 2 ^ (16 - i) → (number * 2 ^ i % 18446744073709551616 ≡ number * 2 ^ i) × (1 * 2 ^ i % 18446744073709551616 ≡ 2 ^ i) × (number * 2 ^ i + 2 ^ i ≤ 65536) × (0 < 2 ^ i)
places i number few low =
    let fits : number * 2 ^ i + 2 ^ i ≤ 65536 = run_fits 16 i number few low in
    let some : 0 < 2 ^ i = pow_pos i in
    (omega (arith, fits), omega (arith, fits), fits, some)

pub bounds-next-first : goal.bounds-next-first
bounds-next-first c =
    let long : length c.in-Some.next.now ≡ 65536 = subst (λ o. IfSome o (λ list. length list.now ≡ 65536)) c.in-Some.is c.requires.list in
    omega (arith, long, places c.args.i c.args.number c.requires.coset.level c.requires.coset.run)

pub returns : goal.returns
returns c u low listed =
    let first = c.args.number * 2 ^ c.args.i in
    let at = places c.args.i c.args.number c.requires.coset.level c.requires.coset.run in
    let here : slice_index c.in-Some.next.now first ≤ first + u = subst (λ o. listed_by o first ≤ first + u) c.in-Some.is (listed first (omega arith)) in
    lt-ltb (slice_index c.in-Some.next.now (first % 18446744073709551616)) (first % 18446744073709551616 + 1 * 2 ^ c.args.i % 18446744073709551616)
    (subst (λ n. slice_index c.in-Some.next.now n < n + 1 * 2 ^ c.args.i % 18446744073709551616) (sym at.0) (omega (arith, here, low, at)))
