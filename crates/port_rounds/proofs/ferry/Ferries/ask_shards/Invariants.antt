use Rattle.std.proofs.Common.{◌≡◌, ◌≤◌, true, vec_len}
use Rattle.std.specs.Prelude.{All, vec_capacity}
use Rattle.claim_board.specs.Machine.{held}
use Rattle.port_rounds.specs.Asks.{AnswersAsks, TakesExchange, ClosesPort, Takes, IsLight, shards_of}
use Rattle.port_rounds.specs.Ferries.{AreOnWay}
use Rattle.port_rounds.proofs.ferry.Ferries.ask_shards.Given as goal

abbrev pub invariant-loop-step : goal.invariant-loop-step
invariant-loop-step g l = record {
  asked : AnswersAsks g.P.Port (TakesExchange l.self.book.now) (ClosesPort l.self.book.now) l.fn.port l.port l.kept.items;
  opened : (g.P.Port.state l.port).is_open ≡ true;
  board : l.seat.board ≡ l.fn.seat.board;
  number : l.seat.number ≡ l.fn.seat.number;
  held : held l.seat.events ≡ shards_of l.kept.items;
  taken : All (Takes l.self.book.now) l.kept.items;
  light : g.P.Port.honest l.fn.port → All (IsLight l.self.book.now) l.kept.items;
  count : vec_len l.kept ≤ l.step;
  capacity : vec_capacity l.kept ≡ vec_capacity l.fn.kept;
  steps : l.step ≤ l.shards;
  way : AreOnWay l.first l.shards l.step (shards_of l.kept.items);
}
