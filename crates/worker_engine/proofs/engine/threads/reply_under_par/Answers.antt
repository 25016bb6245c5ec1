use Rattle.std.proofs.Common.{ap, ◌∙◌, rules, arith}
use Rattle.worker_engine.specs.Shelves.{shelf_list}
use Rattle.worker_engine.proofs.Shelves.{shelf_some, shelf_none, kept_at, kept_same}
use Rattle.worker_engine.proofs.engine.threads.reply_under_par.Goals as goal

pub returns-in_default-clause-replies : goal.returns-in_default-clause-replies
returns-in_default-clause-replies g c = search (arith, shelf_none)

pub returns-in_err-offers-clause-replies : goal.returns-in_err-offers-clause-replies
returns-in_err-offers-clause-replies g c = record {
  reply = search rules;
  lawful = search rules;
  is_kept = kept_at c.from_residual.result c.args.shards.now.entries c.args.ask.shard c.in-Some.kept.now c.in-Some.ensures.value;
}

pub returns-in_err-offers-clause-keeps : goal.returns-in_err-offers-clause-keeps
returns-in_err-offers-clause-keeps g c = search (arith, kept_same)

pub returns-clause-replies : goal.returns-clause-replies
returns-clause-replies g c = search (arith, shelf_some)

pub returns-clause-keeps : goal.returns-clause-keeps
returns-clause-keeps g c = record {
  shelf = ap shelf_list (c.get_mut.follows.holds c.offers_par.new.self).0
      ∙ kept_same _ c.args.shards.now.entries c.in-Some.kept.now c.offers_par.new.self c.in-Some.ensures.value c.offers_par.ensures.links;
  live = search rules;
}
