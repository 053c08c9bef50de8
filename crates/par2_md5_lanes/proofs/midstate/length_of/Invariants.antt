use Rattle.par2_md5_lanes.proofs.Common.{◌≡◌, ◌%◌, ◌^◌, length, take, message_of}
use Rattle.par2_md5_lanes.proofs.midstate.length_of.Given as goal

abbrev pub invariant-loop-part : goal.invariant-loop-part
invariant-loop-part l = l.length ≡ length (message_of (take l.part-index l.parts)) % 2 ^ 64
