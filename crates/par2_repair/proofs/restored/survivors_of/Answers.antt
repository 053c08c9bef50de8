use Rattle.par2_repair.proofs.Names.{◌≡◌, ◌∙◌, ◌%◌, List, length, map, sym, ap, ap₂, subst, arith, AllByRecursion, IsStrictlyIncreasing, length-map, Pair, all_pairs, bytes_of, found, known, Window, padded_window, buffers_of, recovered_of, exponents_of, size_even, short_present}
use Rattle.par2_repair.proofs.restored.survivors_of.Goals as goal

pub returns-clause-are : goal.returns-clause-are
unfolding known
returns-clause-are c =
    let set = c.args.set.now in
    let pairs : ◌≡◌ {A = List Pair} c.deref-2.result.now (all_pairs set) = c.deref-2.ensures.value ∙ c.in_ok-pairs.ensures in
    let buffers = ap buffers_of c.deref.ensures.value ∙ c.in_ok-buffers.ensures in
    record {
      sound = c.slice_size-slice_size.ensures.sound;
      size = c.slice_size-slice_size.ensures.value;
      known = c.in_ok-found_windows.ensures.first ∙ ap₂ (λ n ts. map (found n ts) c.deref-2.result.now) c.slice_size-slice_size.ensures.value buffers ∙ ap (map (found set.slice_size (map (bytes_of c.args.folder.now.files) c.args.candidates.now))) pairs;
      recovery = ap recovered_of c.in_ok-from_slice.ensures.items ∙ c.recovery.ensures.value;
    }

pub returns-clause-fit : goal.returns-clause-fit
unfolding known
returns-clause-fit c =
    let sound = c.slice_size-slice_size.ensures.sound in
    let size : c.slice_size-slice_size.result ≡ c.args.set.now.slice_size = c.slice_size-slice_size.ensures.value in
    let windows : List Window = c.in_ok-found_windows.field-0.items in
    let slices = c.in_ok-from_slice.field-0.items in
    let count : length windows ≡ length (all_pairs c.args.set.now) = sym (length-map windows (padded_window c.slice_size-slice_size.result)) ∙ ap length (returns-clause-are c).known ∙ length-map (all_pairs c.args.set.now) _ in
    record {
      count = omega (arith, count, sound.slices);
      even = subst (λ n. n % 2 ≡ 0) (sym size) (size_even c.args.set.now.slice_size sound.size);
      known = short_present c.slice_size-slice_size.result windows c.in_ok-found_windows.ensures.short;
      recovery = subst (λ n. AllByRecursion (λ r. length r.1 ≡ n) (recovered_of slices)) (sym size) (subst (λ rs. AllByRecursion (λ r. length r.1 ≡ c.args.set.now.slice_size) rs) (ap recovered_of (sym c.in_ok-from_slice.ensures.items)) c.recovery.ensures.sizes);
      exponents = subst IsStrictlyIncreasing (ap exponents_of (sym c.in_ok-from_slice.ensures.items)) c.recovery.ensures.rising;
    }
