-- Edges in the caller's memory, and the calls' results for them.
use Rattle.std.specs.Prelude.{◌≡◌, ◌≢◌, ℕ, ℤ, pos, ◌<◌, ◌≤◌, ◌≤ℤ◌, List, ◌++◌, map, drop, length, All}
use Rattle.std.specs.Int.Signed.{◌<ℤ◌}
use Rattle.limits.specs.declared.TheConstants.{MAX_ARCS, MAX_VERTICES}
use Rattle.links.specs.Arc.{Arc}
use Rattle.links.specs.Link.{AreLinksOf}
use Rattle.links.specs.Forest.{IsForestOf}
use Rattle.links.specs.Least.{sum_of_weights, IsLightest}
use Rattle.links.specs.declared.links.Link.{Link}
use Rattle.link_key.specs.Components.{IsAcyclic}
use Rattle.gr_text.specs.Graph.{HasEnds}
use Rattle.caller_forests.specs.declared.given.GivenLink.{GivenLink}
use Rattle.caller_forests.specs.declared.refusals.CallRefusal.{CallRefusal}
use Rattle.caller_forests.specs.declared.refusals.CallRefusal.TheVariants.{NoMemory, BadEnd, TooManyVertices, TooManyLinks}
use Rattle.caller_forests.specs.Refusals.{code_of}

-- the arc that a caller's edge is; its direction has no meaning
abbrev pub arc_of : GivenLink → Arc
arc_of l = record { tail = l.low; head = l.high; weight = l.weight }

abbrev pub arcs_of : List GivenLink → List Arc
arcs_of given = map arc_of given

-- the edge as the caller gets it back
abbrev pub given_of : Link → GivenLink
given_of l = record { weight = l.weight; low = l.low; high = l.high }

-- the endpoints of all edges are vertices of a graph with the vertices 1 to n
abbrev pub HaveEnds : ℕ → List GivenLink → Type 0
HaveEnds n given = All (λ l. HasEnds n (arc_of l)) given

-- the two endpoints of each edge differ
abbrev pub HaveNoLoop : List GivenLink → Type 0
HaveNoLoop given = All (λ l. l.low ≢ l.high) given

-- edges that close no cycle: none is a loop, and none occurs twice
pub record CloseNoCycle (given : List GivenLink) : Type 0 where
  pub no_loop : HaveNoLoop given
  pub links : List Link
  pub are_links : AreLinksOf (arcs_of given) links
  pub acyclic : IsAcyclic links

-- The minimum spanning forest of the edges before the call is at the front, in the order of their keys, and the edges
-- after it are unchanged. No spanning forest weighs less.
pub record HoldsForest (before after : List GivenLink) (count : ℕ) : Type 0 where
  pub links : List Link
  pub forest : List Link
  pub are_links : AreLinksOf (arcs_of before) links
  pub forest_is : IsForestOf links forest
  pub lightest : IsLightest links (sum_of_weights forest)
  pub first : after ≡ map given_of forest ++ drop (length forest) before
  pub counted : count ≡ length forest

-- edges that have a forest: there are not too many vertices or edges, and every endpoint is a vertex
abbrev pub AreRight : ℕ → List GivenLink → Type 0
AreRight n given = (n ≤ MAX_VERTICES) × (length given ≤ MAX_ARCS) × HaveEnds n given

-- why edges have no forest: the first of these causes that applies, or out of memory if none does
abbrev pub IsLinksRefusal : ℕ → List GivenLink → CallRefusal → Type 0
IsLinksRefusal n given TooManyVertices = MAX_VERTICES < n
IsLinksRefusal n given TooManyLinks = (n ≤ MAX_VERTICES) × (MAX_ARCS < length given)
IsLinksRefusal n given BadEnd = (n ≤ MAX_VERTICES) × (length given ≤ MAX_ARCS) × ¬ (HaveEnds n given)
IsLinksRefusal n given NoMemory = AreRight n given
IsLinksRefusal n given other = ⊥

-- the result is the number of the forest's edges, and the forest is at the front
abbrev pub FindsForest : ℕ → List GivenLink → List GivenLink → ℤ → Type 0
FindsForest n before after answer = AreRight n before × ((count : ℕ) × (answer ≡ pos count) × HoldsForest before after count)

-- the result is the code of why there is no forest
abbrev pub RefusesLinks : ℕ → List GivenLink → ℤ → Type 0
RefusesLinks n given answer = (why : CallRefusal) × (answer ≡ code_of why) × IsLinksRefusal n given why

-- either the forest is at the front, or the result is the code of why there is none and the edges are unchanged
pub record AnswersForest (n : ℕ) (before after : List GivenLink) (answer : ℤ) : Type 0 where
  pub found : pos 0 ≤ℤ answer → FindsForest n before after answer
  -- in this order: too many vertices, too many edges, an endpoint that isn't a vertex; out of memory only if none of
  -- these applies
  pub refused : answer <ℤ pos 0 → RefusesLinks n before answer
  pub untouched : answer <ℤ pos 0 → after ≡ before
