use Rattle.par2_md5_lanes.proofs.Names.{◌≡◌, ◌++◌, ◌*◌, ◌/◌, ◌%◌, ℕ, List, ap, arith, drop, length, length-append, take, ◌∙◌, bytes_left, message_of, goes_on, rest_goes_on}
use Rattle.par2_md5_lanes.proofs.midstate.Midstate.absorb.Goals as goal

pub returns : goal.returns
returns c = λ m held.
    let x = message_of c.args.parts.now in
    let state = c.args.self.now in
    let bytes = bytes_left c.new-feed.result in
    let used : state.length % 64 ≡ length m % 64 = omega (arith, held.0) in
    let bytes_is : bytes ≡ drop (length m / 64 * 64) m ++ x = c.new-feed.ensures ∙ ap (λ (a : List ℕ). a ++ x) (ap (λ (n : ℕ). take n state.rest) used ∙ held.1.1) in (
      omega (arith, held.0, c.length_of.ensures, length-append m x),
      (
        c.hashed-self.ensures.hash ∙ goes_on m x bytes state.hash held.1.0 bytes_is,
        rest_goes_on m x bytes c.hashed-self.new.block bytes_is c.hashed-self.ensures.rest,
      ),
    )
