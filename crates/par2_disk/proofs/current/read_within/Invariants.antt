use Rattle.par2_disk.proofs.Names.{◌<◌, vec_len, Consumes}
use Rattle.par2_disk.proofs.current.read_within.Given as goal

abbrev pub invariant-loop : goal.invariant-loop
invariant-loop g l =
    record {
      read : Consumes (g.F.Read.remaining l.fn.file) (g.F.Read.remaining l.file) l.bytes.items;
      room : 0 < vec_len l.block;
    }
