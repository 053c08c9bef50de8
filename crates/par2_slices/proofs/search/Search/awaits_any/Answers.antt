use Rattle.par2_slices.proofs.Names.{rules, arith, ℕ, ◌<◌, length, false_from_ne_true, HaveAnswers, tests, MatchBool-at_false, MatchBool-at_true, YieldsList-from_slice, cases_from_any}
use Rattle.par2_slices.proofs.search.Search.awaits_any.Goals as goal

pub returns : goal.returns
returns c =
    let Have : ℕ → Type 0 = HaveAnswers c.args.wanted.now c.args.self.now.found.items in
    let either = cases_from_any _ _ _ (λ crc. Have crc → ⊥) Have c.any.ensures.ran (YieldsList-from_slice c.args.crcs cc) (λ x q k. search (rules, tests)) (λ x q k. search (rules, tests)) in (
      λ no k h. MatchBool-at_false _ _ (false_from_ne_true _ no) either k 0 (omega arith) (let inside : k < length c.args.crcs = omega (arith, h) in inside),
      λ have yes. let pending = MatchBool-at_true _ _ yes either in pending.2 0 (have pending.0 (let inside : pending.0 < 4 = omega (arith, pending.1) in inside)),
    )
