use Rattle.par2_packets.proofs.Names.{◌≡◌, ◌+◌, ◌*◌, min, arith, subst, AreDigested, all_digested, digested_further}
use Rattle.par2_packets.proofs.undigested.digest_recoveries.Goals as goal

pub loop-group-preserved : goal.loop-group-preserved
loop-group-preserved c =
    let group = c.loop-group.group in
    digested_further (68 + c.args.size) (min c.args.count (group * 1024)) (min c.args.count ((group + 1) * 1024)) (group * 1024) (group * 1024 + c.min.result)
    c.args.packets.now c.loop-group.packets c.digest_group.new.packets c.loop-group.invariant c.in_ok-digest_group.ensures (omega arith) (omega arith) (omega arith)

pub returns : goal.returns
returns c =
    let len = 68 + c.args.size in
    let all : min c.args.count (c.loop-group.group * 1024) ≡ c.args.count = omega (arith, c.loop-group-test.false, c.div_ceil-group-end.ensures) in
    all_digested len c.args.count c.args.packets.now c.loop-group.packets (omega arith)
    (subst (λ b. AreDigested len 0 b c.args.packets.now c.loop-group.packets) all c.loop-group.invariant)
