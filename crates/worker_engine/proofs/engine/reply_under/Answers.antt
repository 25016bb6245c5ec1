use Rattle.std.proofs.Common.{rules, arith}
use Rattle.worker_engine.proofs.Shelves.{shelf_some, shelf_none, kept_at, kept_same}
use Rattle.worker_engine.proofs.engine.reply_under.Goals as goal

pub returns-in_default-clause-replies : goal.returns-in_default-clause-replies
returns-in_default-clause-replies g c = search (arith, shelf_none)

pub returns-in_err-offers-clause-replies : goal.returns-in_err-offers-clause-replies
returns-in_err-offers-clause-replies g c = record {
  reply = search rules;
  lawful = search rules;
  is_kept = kept_at c.from_residual.result c.args.shards.now.entries c.args.ask.shard c.in-Some.kept.now c.in-Some.ensures.value;
}

pub returns-in_err-offers-clause-keeps : goal.returns-in_err-offers-clause-keeps
returns-in_err-offers-clause-keeps g c = search (arith, kept_same)

pub returns-clause-replies : goal.returns-clause-replies
returns-clause-replies g c = search (arith, shelf_some)

pub returns-clause-keeps : goal.returns-clause-keeps
returns-clause-keeps g c = search (arith, kept_same)
