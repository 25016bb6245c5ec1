use Rattle.std.proofs.Common.{ℕ, ◌<◌, get_or}
use Rattle.links.specs.declared.links.Link.{Link}
use Rattle.caller_forests.specs.Candidates.{IsMarked}
use Rattle.caller_forests.proofs.candidates.mark.Given as goal

abbrev pub invariant-loop-i : goal.invariant-loop-i
invariant-loop-i l = (k : ℕ) (d : Link) → k < l.i → IsMarked l.marks (get_or l.links k d)
