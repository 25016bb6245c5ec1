-- Labels of vertices by the components that edges in the caller's memory form.
use Rattle.std.specs.Prelude.{◌≡◌, ℕ, ℤ, pos, ◌<◌, ◌≤◌, ◌≤ℤ◌, List, length, Contains}
use Rattle.std.specs.Int.Signed.{◌<ℤ◌}
use Rattle.limits.specs.declared.TheConstants.{MAX_ARCS, MAX_VERTICES}
use Rattle.link_key.specs.Components.{AreLeastVertices}
use Rattle.caller_forests.specs.Links.{AreRight, HaveEnds, HaveNoLoop, CloseNoCycle}
use Rattle.caller_forests.specs.declared.given.GivenLink.{GivenLink}
use Rattle.caller_forests.specs.declared.refusals.CallRefusal.{CallRefusal}
use Rattle.caller_forests.specs.declared.refusals.CallRefusal.TheVariants.{NoMemory, BadEnd, TooManyVertices, TooManyLinks, Cycle}
use Rattle.caller_forests.specs.Refusals.{code_of}

-- each of the vertices 1 to n is labelled with the least of the vertices that the edges connect with it
pub record AreLabelsBy (n : ℕ) (given : List GivenLink) (label : List ℕ) : Type 0 where
  pub no_cycle : CloseNoCycle given
  pub least : AreLeastVertices n (Contains no_cycle.links) label

-- Why there are no labels: the first of these causes that applies. Out of memory is possible only if none of the first
-- three applies and no edge is a loop.
abbrev pub IsLabelsRefusal : ℕ → List GivenLink → CallRefusal → Type 0
IsLabelsRefusal n given TooManyVertices = MAX_VERTICES < n
IsLabelsRefusal n given TooManyLinks = (n ≤ MAX_VERTICES) × (MAX_ARCS < length given)
IsLabelsRefusal n given BadEnd = (n ≤ MAX_VERTICES) × (length given ≤ MAX_ARCS) × ¬ (HaveEnds n given)
IsLabelsRefusal n given NoMemory = AreRight n given × HaveNoLoop given
IsLabelsRefusal n given Cycle = AreRight n given × ¬ (CloseNoCycle given)
IsLabelsRefusal n given other = ⊥

-- the result is the code of such a cause
abbrev pub RefusesLabels : ℕ → List GivenLink → ℤ → Type 0
RefusesLabels n given answer = (why : CallRefusal) × (answer ≡ code_of why) × IsLabelsRefusal n given why

-- either the labels were written, or the result is the code of why there are none and the memory is unchanged
pub record AnswersLabels (given : List GivenLink) (before after : List ℕ) (answer : ℤ) : Type 0 where
  pub right : pos 0 ≤ℤ answer → AreRight (length before) given
  pub labelled : pos 0 ≤ℤ answer → AreLabelsBy (length before) given after
  pub counted : pos 0 ≤ℤ answer → answer ≡ pos (length before)
  -- In this order: too many vertices, too many edges, an endpoint that isn't a vertex, a loop, and last another cycle
  -- or out of memory.
  pub refused : answer <ℤ pos 0 → RefusesLabels (length before) given answer
  pub untouched : answer <ℤ pos 0 → after ≡ before
