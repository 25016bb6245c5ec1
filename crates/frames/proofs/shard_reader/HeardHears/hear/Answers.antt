use Rattle.std.proofs.Common.{arith}
use Rattle.frames.proofs.ShardPieces.{hears_none, hears_refused, hears_links}
use Rattle.frames.proofs.shard_reader.HeardHears.hear.Goals as goal

pub returns-in-None-clause-heard : goal.returns-in-None-clause-heard
returns-in-None-clause-heard g c = rw c.in-None.is (λ first bytes heard. (heard.0, hears_none c.args.self.now.spelling bytes c.args.piece.now c.requires.awaits heard.1))

pub returns-then-not-branch-clause-heard : goal.returns-then-not-branch-clause-heard
returns-then-not-branch-clause-heard g c = search (arith, hears_refused)

pub returns-else-not-branch-clause-heard : goal.returns-else-not-branch-clause-heard
returns-else-not-branch-clause-heard g c = search (arith, hears_links)
