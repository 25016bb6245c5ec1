use Rattle.std.proofs.Common.{List, ap, ◌∙◌}
use Rattle.links.specs.declared.links.Link.{Link}
use Rattle.frames.specs.FrameValue.{ShardFrame}
use Rattle.worker_replies.specs.Serving.{ShelfList, shelf_of, shelf_with}
use Rattle.worker_engine.proofs.Shelves.{shelf_inserted, under_inserted}
use Rattle.worker_engine.proofs.engine.Engine.keep.Goals as goal

pub invariant_of-self-2 : goal.invariant_of-self-2
invariant_of-self-2 g c = under_inserted c.self.inside.shards.entries c.insert.new.self.entries c.args.number c.new-kept.result
    c.in_ok-insert.ensures.updates.0 c.self.inside.labels c.new-kept.ensures.live c.self.invariant

pub returns-clause-kept : goal.returns-clause-kept
returns-clause-kept g c =
    shelf_inserted c.self.inside.shards.entries c.insert.new.self.entries c.args.number c.new-kept.result c.in_ok-insert.ensures.updates.0
    ∙ ap (λ (k : ShelfList). shelf_with (shelf_of k) (ShardFrame c.args.number c.new-kept.result.links)) c.self.view_is
    ∙ ap (λ (l : List Link). shelf_with (shelf_of c.args.self.now) (ShardFrame c.args.number l)) (c.new-kept.ensures.links ∙ c.into_list.ensures)
