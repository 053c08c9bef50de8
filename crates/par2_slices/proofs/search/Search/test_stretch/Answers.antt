use Rattle.par2_slices.proofs.Names.{◌≡◌, ◌+◌, ◌*◌, ◌<◌, ◌≤◌, ◌∙◌, ℕ, List, ap, length, subst, sym, arith, mul-le-mul_right, IsScannedTo, Row, row_at, after-row, at-start, passed-to-end, passed-to-row}
use Rattle.par2_slices.proofs.search.Search.test_stretch.Goals as goal

pub loop-row-init : goal.loop-row-init
loop-row-init c =
    let search = c.args.self.now in
    at-start c.args.scan.now (c.args.start + c.args.k * c.args.len) c.args.rows.now search.found.items search.left search.filter search.batch.items c.requires.at

pub test-requires : goal.test-requires
test-requires c =
    let rows : List Row = c.args.rows.now in
    let j : ℕ = c.loop-row.row-index in
    let start : ℕ = c.args.start in
    let len : ℕ = c.args.len in
    let k : ℕ = c.args.k in
    let search = c.loop-row.self in
    let are = c.requires.rows in
    let low = are.below j c.loop-row-test.true in
    let at : ℕ = (row_at rows j).at in
    let whole : (k + 1) * len ≤ 4 * len = mul-le-mul_right len (omega (arith, c.requires.stretch)) in
    let place : (k + 1) * len ≡ k * len + len = omega arith in
    record {
      at = passed-to-row c.args.scan.now start len k j rows search.found.items search.left search.filter search.batch.items are c.requires.stretch c.loop-row-test.true c.loop-row.invariant;
      within = let inside : start + k * len + at < length c.args.scan.now.bytes.now = omega (arith, c.requires.within, whole, place, low) in inside;
      crc = are.crcs j c.loop-row-test.true k c.requires.stretch;
    }

pub loop-row-preserved : goal.loop-row-preserved
loop-row-preserved c =
    let rows : List Row = c.args.rows.now in
    let j : ℕ = c.loop-row.row-index in
    let after = c.test.new.self in
    let first : ℕ = c.args.start + c.args.k * c.args.len in
    let place : first + (row_at rows j).at + 1 ≡ first + ((row_at rows j).at + 1) = omega arith in
    subst (λ (o : ℕ). IsScannedTo c.args.scan.now o after.found.items after.left after.filter after.batch.items)
    (place ∙ ap (λ (r : ℕ). first + r) (sym (after-row rows j))) c.test.ensures

pub returns : goal.returns
returns c =
    let search = c.loop-row.self in
    passed-to-end c.args.scan.now c.args.start c.args.len c.args.k c.loop-row.row-index c.args.rows.now search.found.items search.left search.filter search.batch.items c.requires.rows c.requires.stretch (omega arith) c.loop-row.invariant
