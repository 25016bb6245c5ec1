use Rattle.std.proofs.Common.{◌≡◌, ◌≤◌}
use Rattle.claim_board.specs.State.{AreSeats}
use Rattle.worked_rounds.proofs.tests.board.take_turns.Given as goal

abbrev pub invariant-loop-shard : goal.invariant-loop-shard
invariant-loop-shard l = record { seats : AreSeats l.board l.seats.items }
