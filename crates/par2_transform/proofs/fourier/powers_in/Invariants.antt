use Rattle.par2_transform.proofs.Common.{◌≡◌, powers_in}
use Rattle.par2_transform.proofs.fourier.powers_in.Given as goal

abbrev pub invariant-loop : goal.invariant-loop
invariant-loop l = l.powers ≡ powers_in l.counter
