use Rattle.std.proofs.Common.{◌+◌, arith}
use Rattle.test_memory.proofs.InTurn.{found_within}
use Rattle.test_memory.proofs.in_turn.refuse_each.Goals as goal

pub returns-in-Some : goal.returns-in-Some
returns-in-Some g c = record {
  within = found_within (c.loop-before.before + 1) c.args.most c.run.result c.in-Some.found
      ((c.judge.ensures c.in-Some.found).0 c.in-Some.is) (omega arith) (omega arith);
}
