use Rattle.par2_slices.proofs.Names.{◌∙◌, ℕ, List, map, take, sym, ap, ap₂, arith, map_more, take_all, Pair, first_position, pair_at, all_done, at_start, bytes_of, bytes_done}
use Rattle.par2_slices.proofs.search.find_among.Goals as goal

pub search_bytes-requires : goal.search_bytes-requires
search_bytes-requires c =
    let search = c.loop-buffer.search in
    record {
      at = at_start _ search.found.items search.left search.filter search.batch.items c.loop-buffer.invariant.tally
          (λ i h. c.loop-buffer.invariant.answers i h ∙ ap (λ s. first_position s (map bytes_of (take c.loop-buffer.buffer c.args.buffers.now)) (pair_at c.args.wanted.now i)) (sym c.in_ok-rolling.ensures.size))
          c.loop-buffer.invariant.empty;
      empty = c.loop-buffer.invariant.empty;
    }

pub loop-buffer-preserved : goal.loop-buffer-preserved
loop-buffer-preserved c =
    let search = c.search_bytes.new.self in
    record {
      tally = c.search_bytes.ensures.at.tally;
      empty = c.search_bytes.ensures.empty;
      answers = λ i h.
          bytes_done _ search.found.items search.left search.filter search.batch.items i c.search_bytes.ensures.at c.search_bytes.ensures.empty h
          ∙ ap₂ (λ s buffers. first_position s buffers (pair_at c.args.wanted.now i)) c.in_ok-rolling.ensures.size (sym (map_more bytes_of c.args.buffers.now c.loop-buffer.buffer _ c.loop-buffer-test.true));
    }

pub returns : goal.returns
returns c =
    let s : ℕ = c.args.s in
    let pairs : List Pair = c.args.wanted.now in
    all_done s (map bytes_of c.args.buffers.now) pairs c.loop-buffer.search.found.items c.loop-buffer.invariant.tally.len
    (λ i h. c.loop-buffer.invariant.answers i h ∙ ap (λ ts. first_position s (map bytes_of ts) (pair_at pairs i)) (take_all c.loop-buffer.buffer c.args.buffers.now (omega (arith, c.loop-buffer-test.false))))
