use Rattle.std.proofs.Common.{◌≡◌, ◌≤◌, All, vec_len}
use Rattle.std.specs.Vec.{vec_capacity}
use Rattle.tcp_lines.specs.Lines.{unused}
use Rattle.tcp_lines.proofs.workers.Workers.start.Given as goal

-- there are as many lines as threads, at most one per iteration, and capacity for those of the iterations to come
abbrev pub invariant-loop : goal.invariant-loop
invariant-loop g l = record {
  few : vec_len l.lines ≤ l.counter;
  threads : vec_len l.threads ≡ vec_len l.lines;
  line_room : l.count ≤ vec_capacity l.lines;
  thread_room : l.count ≤ vec_capacity l.threads;
  unused : All (λ line. line ≡ unused) l.lines.items;
}
