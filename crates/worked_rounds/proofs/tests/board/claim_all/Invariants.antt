use Rattle.std.proofs.Common.{◌≡◌, ◌≤◌}
use Rattle.worked_rounds.proofs.tests.board.claim_all.Given as goal

abbrev pub invariant-loop-shard : goal.invariant-loop-shard
invariant-loop-shard l = record { board : l.seat.board ≡ l.initial.seat.board; number : l.seat.number ≡ l.initial.seat.number; few : l.wins ≤ l.shard }
