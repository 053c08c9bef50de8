use Rattle.par2_output.proofs.Common.{subst, sym, ℕ, rules, ◌<◌}
use Rattle.std.proofs.lemmas.Str.{IsUtf8-from_ascii}
use Rattle.std.specs.Prelude.{slice_index}
use Rattle.std.specs.Str.{IsUtf8}
use Rattle.hex.specs.Hex.{lower_digits}
use Rattle.hex.proofs.HexLemmas.{IsAscii-encode_with}
use Rattle.par2_output.proofs.report.write_set.Goals as goal

are_ascii : (i : ℕ) → slice_index lower_digits i < 128
are_ascii i = search rules

pub unreachable-requires : goal.unreachable-requires
unreachable-requires g c =
    c.in-Err-from_utf8.ensures.cases.0 (subst IsUtf8 (sym c.in-Ok.ensures.written) (IsUtf8-from_ascii _ (IsAscii-encode_with lower_digits _ are_ascii)))
