use Rattle.std.proofs.Common.{◌∙◌, arith}
use Rattle.std.proofs.lemmas.Result.{on_ok_weaker}
use Rattle.links.proofs.Covers.{cover_of_cover}
use Rattle.plain_run.proofs.KeptLinks.{ends_of_cover}
use Rattle.plain_run.proofs.keeper.KeeperKeep.keep.Goals as goal

-- what is left covers what came, so its endpoints are vertices

pub returns-then-len-long_list-clause-ends : goal.returns-then-len-long_list-clause-ends
returns-then-len-long_list-clause-ends g c = ends_of_cover c.args.vertices c.args.links.now.items _ c.requires.ends c.drop_some.ensures.cover

pub reduce-requires-clause-ends : goal.reduce-requires-clause-ends
reduce-requires-clause-ends g c = ends_of_cover c.args.vertices c.args.links.now.items _ c.requires.ends c.drop_some.ensures.cover

pub returns-clause-ends : goal.returns-clause-ends
returns-clause-ends g c = search (arith, ends_of_cover, on_ok_weaker)

pub returns-clause-cover : goal.returns-clause-cover
returns-clause-cover g c = on_ok_weaker c.reduce.result (λ cover. cover_of_cover _ _ _ c.drop_some.ensures.cover cover) c.reduce.ensures.cover

pub returns-clause-counted : goal.returns-clause-counted
returns-clause-counted g c = on_ok_weaker c.reduce.result (λ counted. c.drop_some.ensures.counted ∙ counted) c.reduce.ensures.counted
