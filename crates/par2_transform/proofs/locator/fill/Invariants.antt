use Rattle.par2_transform.proofs.Common.{◌+◌, byte_lists, words_at, HaveFirst}
use Rattle.par2_transform.proofs.locator.fill.Given as goal

abbrev pub invariant-loop-s : goal.invariant-loop-s
invariant-loop-s l = HaveFirst l.s (λ c s. words_at (byte_lists l.sources) (l.from + c) s) l.fn.rows l.rows
