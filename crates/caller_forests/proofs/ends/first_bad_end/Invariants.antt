use Rattle.std.proofs.Common.{ℕ, ◌<◌, get_or}
use Rattle.caller_forests.specs.Ends.{IsVertexFrom}
use Rattle.caller_forests.proofs.ends.first_bad_end.Given as goal

abbrev pub invariant-loop-i : goal.invariant-loop-i
invariant-loop-i l = (k : ℕ) → k < l.i → IsVertexFrom l.base l.n (get_or l.ends k 0)
