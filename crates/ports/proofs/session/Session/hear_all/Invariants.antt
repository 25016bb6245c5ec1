-- The session goes on with the frames read so far, from the bytes that came before.
use Rattle.std.proofs.Common.{◌≡◌, ◌-◌, ◌≤◌, length}
use Rattle.ports.specs.EngineLines.{GoesOn, Extends}
use Rattle.ports.proofs.session.Session.hear_all.Given as goal

abbrev pub invariant-loop-frame : goal.invariant-loop-frame
invariant-loop-frame g l = record {
  within : l.self-inside.heard ≤ length l.self-inside.input.items;
  same_input : l.self-inside.input.items ≡ l.initial.self-inside.input.items;
  grew : Extends l.initial.self-inside.out.items l.self-inside.out.items;
  session : GoesOn (record { shelf = l.initial.self-inside.engine; input = l.initial.self-inside.input.items; heard = l.initial.self-inside.heard; written = l.initial.self-inside.out.items })
      (record { shelf = l.self-inside.engine; input = l.self-inside.input.items; heard = l.self-inside.heard; written = l.self-inside.out.items });
}

abbrev pub decreases-loop-frame : goal.decreases-loop-frame
decreases-loop-frame g l = length l.self-inside.input.items - l.self-inside.heard
