use Rattle.std.proofs.Common.{rules}
use Rattle.worker_engine.proofs.Shelves.{kept_by_retain}
use Rattle.worker_engine.proofs.engine.make_all_live.Goals as goal

pub returns-clause-shelf : goal.returns-clause-shelf
returns-clause-shelf g c = (kept_by_retain _ (λ f k v b w f' t. search rules) _ _ _ c.retain.ensures.filtered).0

pub returns-clause-live : goal.returns-clause-live
returns-clause-live g c = (kept_by_retain _ (λ f k v b w f' t. search rules) _ _ _ c.retain.ensures.filtered).1
