-- The merges of clusters by edges in the caller's memory.
use Rattle.std.specs.Prelude.{◌≡◌, ◌≢◌, ℕ, ℤ, pos, ◌<◌, ◌≤◌, ◌≤ℤ◌, List, length, AllPairs}
use Rattle.std.specs.Int.Signed.{◌<ℤ◌}
use Rattle.limits.specs.declared.TheConstants.{MAX_ARCS, MAX_VERTICES}
use Rattle.link_merges.specs.Merges.{AreMerges}
use Rattle.link_merges.specs.declared.merges.Merge.{Merge}
use Rattle.caller_forests.specs.Links.{AreRight, HaveEnds, HaveNoLoop, CloseNoCycle}
use Rattle.caller_forests.specs.declared.given.GivenLink.{GivenLink}
use Rattle.caller_forests.specs.declared.refusals.CallRefusal.{CallRefusal}
use Rattle.caller_forests.specs.declared.refusals.CallRefusal.TheVariants.{NoMemory, BadEnd, TooManyVertices, TooManyLinks, LengthsDiffer, Cycle, Descending}
use Rattle.caller_forests.specs.Refusals.{code_of}

abbrev pub NoneDescends : List GivenLink → Type 0
NoneDescends given = AllPairs (λ l m. l.weight ≤ℤ m.weight) given

-- the merges of the clusters of n points by these edges, taken in their order
pub record AreMergesBy (n : ℕ) (given : List GivenLink) (merges : List Merge) : Type 0 where
  pub no_cycle : CloseNoCycle given
  pub none_descends : NoneDescends given
  pub merges_are : AreMerges n no_cycle.links merges

-- edges that have merges, and an output array of the same length
pub record HaveMerges (n : ℕ) (given : List GivenLink) (room : ℕ) : Type 0 where
  pub as_many : room ≡ length given
  pub right : AreRight n given

-- Why there are no merges: the first of these causes that applies. Out of memory is possible only if none of the first
-- four applies and no edge is a loop.
abbrev pub IsMergesRefusal : ℕ → List GivenLink → ℕ → CallRefusal → Type 0
IsMergesRefusal n given room LengthsDiffer = room ≢ length given
IsMergesRefusal n given room TooManyVertices = (room ≡ length given) × (MAX_VERTICES < n)
IsMergesRefusal n given room TooManyLinks = (room ≡ length given) × (n ≤ MAX_VERTICES) × (MAX_ARCS < length given)
IsMergesRefusal n given room BadEnd = (room ≡ length given) × (n ≤ MAX_VERTICES) × (length given ≤ MAX_ARCS) × ¬ (HaveEnds n given)
IsMergesRefusal n given room NoMemory = HaveMerges n given room × HaveNoLoop given
IsMergesRefusal n given room Cycle = HaveMerges n given room × ¬ (CloseNoCycle given)
IsMergesRefusal n given room Descending = HaveMerges n given room × CloseNoCycle given × ¬ (NoneDescends given)
IsMergesRefusal n given room other = ⊥

-- the result is the code of why there are none
abbrev pub RefusesMerges : ℕ → List GivenLink → ℕ → ℤ → Type 0
RefusesMerges n given room answer = (why : CallRefusal) × (answer ≡ code_of why) × IsMergesRefusal n given room why

-- Either the merges were written, as many as edges, or the result is the code of why there are none and the memory is
-- unchanged.
pub record AnswersMerges (n : ℕ) (given : List GivenLink) (before after : List Merge) (answer : ℤ) : Type 0 where
  pub right : pos 0 ≤ℤ answer → HaveMerges n given (length before)
  pub found : pos 0 ≤ℤ answer → AreMergesBy n given after
  pub counted : pos 0 ≤ℤ answer → answer ≡ pos (length given)
  -- In this order: other numbers of merges and edges, too many vertices, too many edges, an endpoint that isn't a
  -- vertex, a loop. Then another cycle or out of memory, and last an edge that weighs less than one before it.
  pub refused : answer <ℤ pos 0 → RefusesMerges n given (length before) answer
  pub untouched : answer <ℤ pos 0 → after ≡ before
