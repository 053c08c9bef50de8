use Rattle.par2_verify.proofs.Names.{◌≡◌, ◌∙◌, map, ap, ap₂, rules, tests, filter, is_none, list_any, IfOk-weaker, padded_windows, buffers_of, YieldsList-at, YieldsList-from_slice, YieldsList-from_zip, YieldsList-from_filter_map, fact_from_collect, bytes_of, found, eq_by_cmp, count_cmp, IsFromIterResult, lost_one, lost_among}
use Rattle.par2_verify.proofs.report.lost_pairs.Goals as goal

pub returns : goal.returns
returns c =
    let f = found c.args.set.now.slice_size (map (bytes_of c.args.folder.now.files) c.args.candidates.now) in
    let windows : padded_windows c.slice_size.result c.in_ok-windows.windows.items ≡ map f c.in_ok-pairs.pairs.items =
    c.in_ok-windows.ensures.first
    ∙ ap₂ (λ n ts. map (found n ts) c.deref-2.result.now) c.slice_size.ensures.value (ap buffers_of c.deref.ensures.value ∙ c.in_ok-buffers.ensures)
    ∙ ap (map f) c.deref-2.ensures.value in
    IfOk-weaker c.collect.result _ _ (λ lost is. λ pair. is.0 pair
    ∙ ap (list_any (eq_by_cmp count_cmp pair)) (lost_among c.slice_size.result f c.in_ok-pairs.pairs.items c.in_ok-windows.windows.items windows ∙ ap (filter (λ p. is_none (f p))) c.in_ok-pairs.ensures))
    (fact_from_collect (IsFromIterResult count_cmp) c.collect.result c.collect.ensures.ran
    (YieldsList-from_filter_map _ lost_one (YieldsList-at c.filter_map-lost.ensures.source (YieldsList-from_zip (YieldsList-from_slice c.in_ok-pairs.pairs.items cc) (YieldsList-from_slice c.in_ok-windows.windows.items cc))) c.filter_map-lost.ensures.closure (λ x r q k. search (rules, tests))))
