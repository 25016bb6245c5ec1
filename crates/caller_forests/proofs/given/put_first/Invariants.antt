use Rattle.std.proofs.Common.{◌≡◌, ◌++◌, map, drop, take}
use Rattle.caller_forests.specs.Links.{given_of}
use Rattle.caller_forests.proofs.given.put_first.Given as goal

abbrev pub invariant-loop-i : goal.invariant-loop-i
invariant-loop-i l = l.given ≡ map given_of (take l.i l.links) ++ drop l.i l.initial.given
