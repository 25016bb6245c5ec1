-- The indices of a forest's edges among arcs.
use Rattle.std.specs.Prelude.{◌≡◌, ℕ, ℤ, pos, ◌<◌, ◌≤◌, ◌≤ℤ◌, ◌⊎◌, List, ◌++◌, drop, length, slice_index, slice_index_or, All}
use Rattle.std.specs.Int.Signed.{◌<ℤ◌}
use Rattle.limits.specs.declared.TheConstants.{MAX_ARCS, MAX_VERTICES}
use Rattle.links.specs.Arc.{Arc}
use Rattle.links.specs.Link.{AreLinksOf, key_of, arc_key}
use Rattle.links.specs.Forest.{IsForestOf}
use Rattle.links.specs.Least.{sum_of_weights, IsLightest}
use Rattle.links.specs.declared.links.Link.{Link}
use Rattle.gr_text.specs.Graph.{HasEnds}
use Rattle.caller_forests.specs.Arcs.{AreColumns, AreRightArcs, arcs_in}
use Rattle.caller_forests.specs.declared.refusals.CallRefusal.{CallRefusal}
use Rattle.caller_forests.specs.declared.refusals.CallRefusal.TheVariants.{NoMemory, BadEnd, TooManyVertices, TooManyLinks, LengthsDiffer, TooFewPlaces}
use Rattle.caller_forests.specs.Refusals.{code_of}

-- the arc at this index is the edge: it has its key
abbrev pub IsLinkAt : List Arc → Link → ℕ → Type 0
IsLinkAt arcs l place = (d : Arc) → arc_key (slice_index_or arcs place d) ≡ key_of l

-- some arc is the edge
abbrev pub IsAmong : List Arc → Link → Type 0
IsAmong arcs l = (place : ℕ) × (place < length arcs) × IsLinkAt arcs l place

-- from `start` on, the first arc that is the edge has this index
pub record IsFirstFrom (start : ℕ) (arcs : List Arc) (l : Link) (place : ℕ) : Type 0 where
  pub behind : start ≤ place
  pub in_range : place < length arcs
  pub link : IsLinkAt arcs l place
  pub first : (earlier : ℕ) → start ≤ earlier → earlier < place → ¬ (IsLinkAt arcs l earlier)

-- each index is that of the first arc that is the edge, edge by edge
pub record AreFirstPlaces (arcs : List Arc) (links : List Link) (places : List ℕ) : Type 0 where
  pub number : length places ≡ length links
  pub each : (i : ℕ) (d : Link) → i < length links → IsFirstFrom 0 arcs (slice_index_or links i d) (slice_index places i)

-- The indices of the forest's edges are at the front, in the order of their keys, and what follows them is unchanged.
-- No spanning forest weighs less.
pub record HoldsPlaces (arcs : List Arc) (before after : List ℕ) (count : ℕ) : Type 0 where
  pub links : List Link
  pub forest : List Link
  pub places : List ℕ
  pub are_links : AreLinksOf arcs links
  pub forest_is : IsForestOf links forest
  pub lightest : IsLightest links (sum_of_weights forest)
  pub are_places : AreFirstPlaces arcs forest places
  pub first : after ≡ places ++ drop count before
  pub counted : count ≡ length forest

-- the edges of these arcs have a forest with more edges than this
abbrev pub HaveLongerForest : List Arc → ℕ → Type 0
HaveLongerForest arcs room = (links forest : List Link) × AreLinksOf arcs links × IsForestOf links forest × (room < length forest)

-- why there are no indices: the first of these causes that applies; if none does, out of memory or an output array that
-- is too small
abbrev pub IsArcsRefusal : ℕ → List Arc → ℕ → CallRefusal → Type 0
IsArcsRefusal n arcs room TooManyVertices = MAX_VERTICES < n
IsArcsRefusal n arcs room TooManyLinks = (n ≤ MAX_VERTICES) × (MAX_ARCS < length arcs)
IsArcsRefusal n arcs room BadEnd = (n ≤ MAX_VERTICES) × (length arcs ≤ MAX_ARCS) × ¬ (All (HasEnds n) arcs)
IsArcsRefusal n arcs room NoMemory = AreRightArcs n arcs
IsArcsRefusal n arcs room TooFewPlaces = AreRightArcs n arcs × HaveLongerForest arcs room
IsArcsRefusal n arcs room other = ⊥

-- the result is the number of the forest's edges, whose indices are at the front
abbrev pub FindsPlaces : ℕ → List Arc → List ℕ → List ℕ → ℤ → Type 0
FindsPlaces n arcs before after answer = AreRightArcs n arcs × ((count : ℕ) × (answer ≡ pos count) × HoldsPlaces arcs before after count)

-- the result is the code of why there are none: columns of different lengths, or what is wrong with their arcs
abbrev pub RefusesPlaces : ℕ → ℕ → List ℕ → List ℕ → List ℤ → ℕ → ℤ → Type 0
RefusesPlaces n base tails heads weights room answer =
    (¬ (AreColumns tails heads weights) × (answer ≡ code_of LengthsDiffer))
    ⊎ (AreColumns tails heads weights
    × ((why : CallRefusal) × (answer ≡ code_of why) × IsArcsRefusal n (arcs_in base tails heads weights) room why))

-- either the indices are at the front, or the result is the code of why there are none and the memory is unchanged
pub record AnswersPlaces (n base : ℕ) (tails heads : List ℕ) (weights : List ℤ) (before after : List ℕ) (answer : ℤ) : Type 0 where
  pub columns : pos 0 ≤ℤ answer → AreColumns tails heads weights
  pub found : pos 0 ≤ℤ answer → FindsPlaces n (arcs_in base tails heads weights) before after answer
  -- in this order: columns of different lengths, the causes for which the arcs have no forest, an output array that is
  -- too small
  pub refused : answer <ℤ pos 0 → RefusesPlaces n base tails heads weights (length before) answer
  pub untouched : answer <ℤ pos 0 → after ≡ before
