use Rattle.par2_files.proofs.Names.{AreTo, one_more}
use Rattle.par2_files.proofs.snapshot.Absorbing.push.Goals as goal
use Rattle.par2_files.proofs.snapshot.Absorbing.push.Goals.{then-len-eq-LANES+in_ok-absorb_all, else-len-eq-LANES}

pub returns : goal.returns
returns c = λ buffers bytes held reached.
    let absorbing = c.if-len-eq-LANES.self in
    let roomy : AreTo absorbing buffers = elim c.if-len-eq-LANES.branch [
      | then-len-eq-LANES+in_ok-absorb_all w ↦ rw w.self-is (w.in_ok-absorb_all.ensures.buffers buffers held)
      | else-len-eq-LANES w ↦ rw w.self-is held
    ] in
    rw c.in_ok-push.ensures.items (one_more absorbing.states.items absorbing.pendings.items buffers c.args.pending bytes roomy reached)
