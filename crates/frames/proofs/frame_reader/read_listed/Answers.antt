use Rattle.std.proofs.Common.{arith}
use Rattle.std.proofs.lemmas.Result.{IfOk-weaker, IfErr-weaker}
use Rattle.frames.specs.FrameValue.{value_of}
use Rattle.frames.proofs.ShardPieces.{says_links, came_by_head, refused_by_head, late_by_head}
use Rattle.frames.proofs.frame_reader.read_listed.Goals as goal

pub read_shard-requires-clause-few : goal.read_shard-requires-clause-few
read_shard-requires-clause-few g c = (says_links c.in-Some.spelling c.args.head.kind c.args.head.length _ c.in-Some.ensures.shard c.requires.possible c.links_in-most.ensures).few

pub returns-in-Some-clause-came : goal.returns-in-Some-clause-came
returns-in-Some-clause-came g c = search (arith, came_by_head, says_links)

pub returns-in-Some-clause-refused : goal.returns-in-Some-clause-refused
returns-in-Some-clause-refused g c = search (arith, refused_by_head, says_links)

pub returns-in-Some-clause-late : goal.returns-in-Some-clause-late
returns-in-Some-clause-late g c =
    let before = g.S.Source.state c.args.source.now in
    IfErr-weaker c.read_shard.result _ _
    (λ fault late.
    late_by_head c.in-Some.spelling c.args.head.kind c.args.head.length c.links_in-most.result c.in-Some.ensures.shard
    (says_links c.in-Some.spelling c.args.head.kind c.args.head.length _ c.in-Some.ensures.shard c.requires.possible c.links_in-most.ensures) before before
    fault late)
    c.read_shard.ensures.late
