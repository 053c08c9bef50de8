use Rattle.par2_repair.proofs.Names.{◌≡◌, ◌∙◌, ◌<◌, ◌+◌, ◌++◌, ◌∷◌, [], List, ℕ, Bor, true, false, cond, length, map, take, drop, get_or, sym, ap, arith, rules, concat, flat_map, filter, drop_all, drop_more, append-nil, length-append, take-map, drop-map, padded, buffers_of, contains, slice_cmp, nat_cmp, Pair, Target, walked, target_more}
use Rattle.par2_repair.proofs.restored.cut_out.Goals as goal

abbrev pairs_of : List Target → List Pair
pairs_of ts = flat_map (λ t. t.pairs) ts

pairs_left : (items : List Target) (i : ℕ) (t : Target) → i < length items → t ≡ get_or items i t
    → length (pairs_of (drop i items)) ≡ length t.pairs + length (pairs_of (drop (i + 1) items))
pairs_left items i t low is =
    ap (λ ts. length (pairs_of ts)) (drop_more items i t low ∙ ap (λ u. u ∷ drop (i + 1) items) (sym is)) ∙ length-append t.pairs (pairs_of (drop (i + 1) items))

-- slices that are cut out before they are padded
cut : (s : ℕ) (slices : List (Bor (List ℕ))) (first n : ℕ) → map (padded s) (buffers_of (take n (drop first slices))) ≡ take n (drop first (map (padded s) (buffers_of slices)))
cut s slices first n = grind (arith, take-map, drop-map)

pub loop-target-preserved : goal.loop-target-preserved
loop-target-preserved c =
    let s = c.args.set.now.slice_size in
    let slices : List (Bor (List ℕ)) = c.args.slices.now in
    let test = λ (x : Target × List ℕ). contains (slice_cmp nat_cmp) c.args.among.now x.0.name in
    let all : List (List ℕ) = map (padded s) (buffers_of slices) in
    let items : List Target = c.targets-target-items.result.now in
    let i = c.loop-target.target-index in
    let t : Target = c.target-item.result in
    let first = c.loop-target.first in
    let here : drop i items ≡ t ∷ drop (i + 1) items = drop_more items i t c.loop-target-test.true ∙ ap (λ x. x ∷ drop (i + 1) items) (sym c.target-item.is) in
    let many : length c.pairs-count.result.now ≡ length t.pairs = ap (λ (ps : List Pair). length ps) c.pairs-count.ensures in
    let left = pairs_left items i t c.loop-target-test.true c.target-item.is in
    let file : Target × List ℕ = (t, take t.length (concat (take (length t.pairs) (drop first all)))) in
    let old : List (Target × List ℕ) = c.loop-target.restored.items in
    let new : List (Target × List ℕ) = c.if-contains.restored.items in
    let made : new ≡ old ++ cond (test file) (file ∷ []) [] =
    elim c.if-contains.branch as (λ _. new ≡ old ++ cond (test file) (file ∷ []) []) [
      | goal.then-contains+in_ok-bytes+in_ok-push w ↦
          let own = cut s slices first (length t.pairs) in
          let yes : test file ≡ true = ap (contains (slice_cmp nat_cmp) c.args.among.now) (sym c.name.ensures) ∙ sym c.contains.ensures ∙ w.if-contains.true in
          let content : w.from-bytes.result ≡ file.1 = grind (arith, own, many, w.in_ok-bytes.ensures, w.from-bytes.ensures, w.slice_size.ensures.value, w.length.ensures) in
          let pushed : new ≡ old ++ (t, w.from-bytes.result) ∷ [] = search rules in
          pushed ∙ ap (λ b. old ++ (t, b) ∷ []) content ∙ ap (λ b. old ++ cond b (file ∷ []) []) (sym yes)
      | goal.else-contains w ↦
          let no : test file ≡ false = ap (contains (slice_cmp nat_cmp) c.args.among.now) (sym c.name.ensures) ∙ sym c.contains.ensures ∙ w.if-contains.false in
          let same : new ≡ old = search rules in
          same ∙ sym (append-nil old) ∙ ap (λ b. old ++ cond b (file ∷ []) []) (sym no)
    ] in
    record {
      targets = ap (λ n. new ++ filter test (walked (drop (i + 1) items) (drop (first + n) all))) many ∙ target_more test t (drop (i + 1) items) all first old new made
          ∙ ap (λ us. old ++ filter test (walked us (drop first all))) (sym here) ∙ c.loop-target.invariant.targets;
      long = omega (arith, many, left, c.loop-target.invariant.long);
    }

pub returns : goal.returns
returns c =
    let all : List (List ℕ) = map (padded c.args.set.now.slice_size) (buffers_of c.args.slices.now) in
    let kept = λ (ts : List Target) (slices : List (List ℕ)). filter (λ (x : Target × List ℕ). contains (slice_cmp nat_cmp) c.args.among.now x.0.name) (walked ts slices) in
    sym (ap (λ ts. c.loop-target.restored.items ++ kept ts (drop c.loop-target.first all)) (drop_all c.loop-target.target-index c.targets-target-items.result.now c.loop-target-test.false) ∙ append-nil c.loop-target.restored.items)
    ∙ c.loop-target.invariant.targets ∙ ap (λ ts. kept ts all) c.targets-target-items.ensures.value
