use Rattle.par2_matrix.proofs.Names.{◌≡◌, ◌+◌, ℕ, List, length, rules, refl, sym, ap, ◌∙◌, subst, with_items, with_items_is, Equations, CutDown, IsIndependent, IsDependent, echelon, echelon_of, IsReduced, system_of, lists_of, length-lists_of, IsTaken, offered, cuts, determines, follows}
use Rattle.par2_matrix.proofs.system.System.offer.Goals as goal

-- the rows and the right-hand sides after the equation was put in
abbrev new_rows : goal.After-self-3-1 → List (List ℕ)
new_rows c = lists_of (with_items c.self.inside.rows c.put_in.new.rows).items

abbrev new_right_sides : goal.After-self-3-1 → List (List ℕ)
new_right_sides c = lists_of (with_items c.self.inside.right_sides c.put_in.new.right_sides).items

columns_are : (c : goal.After-self-3-1) → length c.args.row.now ≡ length c.self.inside.rows.items
columns_are c = search (rules, (ap (λ (e : Equations). e.columns) c.self.view_is))

taken : (c : goal.After-self-3-1)
    → let s = c.self.inside in
    IsTaken (length s.rows.items) s.bytes s.rank c.in_ok-row.row.items c.args.right.items (lists_of s.rows.items) (lists_of s.right_sides.items) (new_rows c) (new_right_sides c)
taken c =
    let s = c.self.inside in
    let ed : length c.args.right.items ≡ s.bytes = search rules in
    let ea1 : c.deref_mut.result.now ≡ c.in_ok-row.row.items = search rules in
    let ea2 : c.deref_mut-2.result.now ≡ c.args.right.items = search rules in
    let en : length c.deref.result.now ≡ length s.rows.items = search rules in
    let lr : length c.prepare.new.row ≡ c.in_ok-row.row.len = search rules in
    let ls : length c.prepare.new.right ≡ c.args.right.len = search rules in
    let l4 : length c.put_in.new.rows ≡ s.rows.len = search rules in
    let l5 : length c.put_in.new.right_sides ≡ s.right_sides.len = search rules in
    offered (length s.rows.items) s.bytes s.rank (lists_of s.rows.items) (lists_of s.right_sides.items) _ _ _ _ _ _ _ _ (length c.deref.result.now)
    c.in_ok-row.row.items c.args.right.items c.deref_mut.result.now c.deref_mut-2.result.now c.prepare.new.row c.prepare.new.right _ _ c.in-Some.pivot
    c.self.invariant ea1 ea2 ed en (ap lists_of c.deref.ensures.value) (ap lists_of c.deref-2.ensures.value) c.in-Some.ensures.some
    (with_items_is c.in_ok-row.row c.prepare.new.row lr) (with_items_is c.args.right c.prepare.new.right ls)
    (ap lists_of c.deref_mut-3.ensures.value) (ap lists_of c.deref_mut-4.ensures.value)
    (ap lists_of (with_items_is s.rows c.put_in.new.rows l4)) (ap lists_of (with_items_is s.right_sides c.put_in.new.right_sides l5))
    c.put_in.ensures

columns_stay : (c : goal.After-self-3-1) → length (with_items c.self.inside.rows c.put_in.new.rows).items ≡ length c.self.inside.rows.items
columns_stay c = sym (length-lists_of _) ∙ (taken c).reduced.row_count

pub invariant_of-self : goal.invariant_of-self
invariant_of-self c =
    let s = c.self.inside in
    subst (λ n. IsReduced (echelon n s.bytes (s.rank + 1) (new_rows c) (new_right_sides c))) (sym (columns_stay c)) (taken c).reduced

pub returns-clause-kept : goal.returns-clause-kept
returns-clause-kept c is =
    let s = c.self.inside in
    let t = taken c in
    let size : length c.args.right.items ≡ s.bytes = search (rules, (ap (λ (e : Equations). e.bytes) c.self.view_is)) in
    let new : ℕ → Equations = λ n. system_of (echelon n s.bytes (s.rank + 1) (new_rows c) (new_right_sides c)) in
    let cut : CutDown (system_of (echelon_of s.bytes s.rank s.rows.items s.right_sides.items)) (new (length s.rows.items)) c.args.row.now c.args.right.items =
    cuts _ _ c.self.invariant t.reduced c.args.row.now c.in_ok-row.row.items c.args.right.items c.in_ok-row.ensures (columns_are c) t.row_bytes size t.right_bytes refl refl refl t.cut in
    subst (λ (old : Equations). CutDown old (new (length (with_items s.rows c.put_in.new.rows).items)) c.args.row.now c.args.right.items) c.self.view_is
    (subst (λ n. CutDown (system_of (echelon_of s.bytes s.rank s.rows.items s.right_sides.items)) (new n) c.args.row.now c.args.right.items) (sym (columns_stay c)) cut)

pub returns-clause-independent : goal.returns-clause-independent
returns-clause-independent c is =
    let s = c.self.inside in
    subst (λ (old : Equations). IsIndependent old c.args.row.now) c.self.view_is
    (determines _ c.self.invariant c.args.row.now c.in_ok-row.row.items c.in_ok-row.ensures (columns_are c) (taken c).reported)

pub returns-in_default-clause-dependent : goal.returns-in_default-clause-dependent
returns-in_default-clause-dependent c is =
    let size : length c.args.row.now ≡ length c.self.inside.rows.items = search (rules, (ap (λ (e : Equations). e.columns) c.self.view_is)) in
    subst (λ (old : Equations). IsDependent old c.args.row.now) c.self.view_is
    (follows _ c.self.invariant c.args.row.now c.in_ok-row.row.items c.in_ok-row.ensures size
    (rw (c.deref.ensures.value, c.deref_mut.ensures.value) at (c.in_default.ensures.none refl)))
