use Rattle.std.proofs.Common.{ℕ, ◌<◌, get_or}
use Rattle.gr_text.specs.Graph.{HasEnds}
use Rattle.caller_forests.specs.Links.{arc_of}
use Rattle.caller_forests.specs.declared.given.GivenLink.{GivenLink}
use Rattle.caller_forests.proofs.ends.first_bad_link.Given as goal

abbrev pub invariant-loop-i : goal.invariant-loop-i
invariant-loop-i l = (k : ℕ) (d : GivenLink) → k < l.i → HasEnds l.n (arc_of (get_or l.links k d))
