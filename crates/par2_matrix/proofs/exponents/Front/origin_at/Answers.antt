use Rattle.par2_matrix.proofs.Names.{Contains, Err, IsStrictlyIncreasing, ap, arith, found_among, found_place, get_or, hole_contained, holes_rise, is_hole, not, rises_between, searched, subst, sym, true, ◌+◌, ◌≡◌}
use Rattle.par2_matrix.proofs.exponents.Front.origin_at.Goals as goal

pub unwrap-requires : goal.unwrap-requires
unwrap-requires c =
    let es = c.args.self.now.numbers.now in
    let x = c.args.x in
    let hs = c.args.places.now in
    let e = get_or es 0 0 + x in
    let hole : is_hole es x ≡ true = sym (ap not (found_among es e (Err c.in-Err.field-0) (searched es e (Err c.in-Err.field-0) c.in-Err.ensures.position (λ i j low inside. let by = rises_between es c.args.self.now.rise i j low inside in omega (arith, by))))) in
    let rise : IsStrictlyIncreasing hs = subst IsStrictlyIncreasing (sym c.requires.places) (holes_rise es) in
    found_place hs x c.binary_search-in-Err.result (searched hs x c.binary_search-in-Err.result c.binary_search-in-Err.ensures.position (λ i j low within. let by = rises_between hs rise i j low within in omega (arith, by)))
    (subst (λ xs. Contains xs x) (sym c.requires.places) (hole_contained es x c.args.self.now.rise c.args.self.now.some c.requires.within hole))
