use Rattle.par2_disk.proofs.Names.{◌≡◌, ◌≤◌, ℕ, List, ◌++◌, length, take, drop, arith, ◌∙◌, take-take, take-append-le, Consumes-kept, Consumes-trans}
use Rattle.par2_disk.proofs.current.read_within.Goals.{in-Ok+in_ok-extend_from_slice-in-Ok, in-Err}
use Rattle.par2_disk.proofs.current.read_within.Goals as goal

-- the first bytes of a block of which only a prefix was read
first_read : (n size : ℕ) (front rest : List ℕ) → n ≤ length front → n ≤ size → take n (take size (front ++ rest)) ≡ take n front
first_read n size front rest fits within = take-take n size (front ++ rest) within ∙ take-append-le n front rest fits

pub loop-preserved : goal.loop-preserved
loop-preserved g c = record {
  read =
      elim c.match-read.branch [
        | in-Ok+in_ok-extend_from_slice-in-Ok w ↦
            let block = c.loop.block in
            let front = c.read.new.buf in
            let bound = w.in-Ok.ensures.bound.0 in
            let first = first_read w.in-Ok.n block.len front (drop (length front) block.items) bound (omega (arith, bound)) in
            rw (w.bytes-is, w.in_ok-extend_from_slice-in-Ok.ensures.items, w.deref.ensures.value, first) (Consumes-trans _ _ _ _ _ c.loop.invariant.read w.in-Ok.ensures.bytes.0)
        | in-Err w ↦ rw w.bytes-is (Consumes-kept _ _ _ _ c.loop.invariant.read w.in-Err.ensures.bytes)
      ];
  room = c.loop.invariant.room;
}
