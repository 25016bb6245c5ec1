-- A solver, as contracts see it.
use Rattle.std.specs.Prelude.{◌≡◌, ◌≢◌, ℕ, suc, ◌+◌, ◌<◌, ◌≤◌, ◌^◌, ◌==◌, Bool, not, max, List, [], ◌++◌, length, AllPairs, Contains, Option, Some, None, slice_index_or}
use Rattle.std.specs.List.{find}
use Rattle.limits.specs.declared.TheConstants.{MAX_VERTICES}
use Rattle.links.specs.declared.links.Link.{Link}
use Rattle.links.specs.Link.{EndsUpTo, IsAscending}
use Rattle.links.specs.Labels.{label_of, AreApart}
use Rattle.round_theory.specs.LinkSet.{SameLinks, HasNoCycle, Spans}
use Rattle.round_theory.specs.Labelling.{IsLabelling}
use Rattle.round_theory.specs.Rounds.{TakenAfter, IsMergingRounds}
use Rattle.round_core.specs.Picks.{Picked, AreNoPicks}
use Rattle.round_core.specs.declared.solver.Turn.{Turn}
use Rattle.round_core.specs.declared.solver.Turn.TheVariants.{Merged, Done}
use Rattle.round_core.specs.declared.solver.SolveFault.{SolveFault}
use Rattle.round_core.specs.declared.solver.SolveFault.TheVariants.{Rounds, Missed, Memory}

-- how far a solver has come: the labels of the vertices, the links taken, in order, and the number of rounds that took
-- some
pub record Progress : Type 0 where
  pub labels : List ℕ
  pub taken : List Link
  pub rounds : ℕ

-- how far a solver with these parts has come
abbrev pub so_far : List ℕ → List Link → ℕ → Progress
so_far labels taken rounds = record { labels = labels; taken = taken; rounds = rounds }

abbrev pub vertices : Progress → ℕ
vertices p = length p.labels

-- What holds for each solver: the links taken are between its vertices, each once, and close no cycle. The labels are
-- the labelling by them, and no round was past the bound.
pub record IsProgress (p : Progress) : Type 0 where
  pub few_vertices : vertices p ≤ MAX_VERTICES
  pub ends : EndsUpTo (vertices p) p.taken
  pub labelling : IsLabelling (vertices p) (Contains p.taken) p.labels
  pub each_once : AllPairs (λ l m. l ≢ m) p.taken
  pub no_cycle : HasNoCycle (Contains p.taken)
  pub in_time : 2 ^ p.rounds ≤ max 1 (vertices p)

-- each of the vertices 1 to `n` is a component, and no link is taken
pub record IsAtStart (n : ℕ) (p : Progress) : Type 0 where
  pub labels : AreApart n p.labels
  pub taken : p.taken ≡ []
  pub rounds : p.rounds ≡ 0

-- `n` vertices can't have this many merging rounds: each of them at least halves the number of components that links
-- leave
abbrev pub IsPastBound : ℕ → ℕ → Type 0
IsPastBound n round = max 1 n < 2 ^ round

-- the link is the pick at index `i`, and at none before it
pub record IsFirstPickedAt (picks : List (Option Link)) (l : Link) (i : ℕ) : Type 0 where
  pub here : slice_index_or picks i None ≡ Some l
  pub first : (k : ℕ) → k < i → slice_index_or picks k None ≢ Some l

-- the least label that picks `l` is below the least one that picks `m`
abbrev pub IsPickedBefore : List (Option Link) → Link → Link → Type 0
IsPickedBefore picks l m = (i : ℕ) × (j : ℕ) × IsFirstPickedAt picks l i × IsFirstPickedAt picks m j × (i < j)

-- the picked links, each once, in the order of the least labels that pick them
pub record ArePickedOnce (picks : List (Option Link)) (links : List Link) : Type 0 where
  pub exact : SameLinks (Contains links) (Picked picks)
  pub in_order : AllPairs (IsPickedBefore picks) links

-- The solver took `count` links in one more round: exactly the picked ones, each once. The vertices that they connect
-- have one label.
pub record IsMerged (picks : List (Option Link)) (count : ℕ) (old new : Progress) : Type 0 where
  pub some : 0 < count
  pub added : List Link
  pub number : length added ≡ count
  pub picked : ArePickedOnce picks added
  pub taken : new.taken ≡ old.taken ++ added
  pub labelling : IsLabelling (vertices old) (Contains new.taken) new.labels
  pub rounds : new.rounds ≡ old.rounds + 1
  pub in_time : 2 ^ new.rounds ≤ max 1 (vertices old)

-- what a successful step did: it merged by the picks, or there were none and nothing changed
abbrev pub IsTurn : List (Option Link) → Progress → Progress → Turn → Type 0
IsTurn picks old new (Merged count) = IsMerged picks count old new
IsTurn picks old new Done = AreNoPicks picks × (new ≡ old)

-- why a step fails: its round is past the bound, or otherwise memory; it never fails if there are no picks
abbrev pub IsStepFault : Progress → List (Option Link) → SolveFault → Type 0
IsStepFault p picks (Rounds round) = (round ≡ p.rounds + 1) × IsPastBound (vertices p) round × ¬ (AreNoPicks picks)
IsStepFault p picks (Missed link) = ⊥
IsStepFault p picks Memory = (2 ^ (p.rounds + 1) ≤ max 1 (vertices p)) × ¬ (AreNoPicks picks)

-- whether the endpoints of the link have different labels
abbrev pub is_apart : List ℕ → Link → Bool
is_apart labels l = not (label_of labels l.low == label_of labels l.high)

-- the first link of the list whose endpoints have different labels
abbrev pub missed : List ℕ → List Link → Option Link
missed labels links = find (is_apart labels) links

-- the links taken, in the order of their keys: no link of the list is missed, so they span it, and they close no cycle
pub record IsFinished (p : Progress) (links forest : List Link) : Type 0 where
  pub none_missed : missed p.labels links ≡ None
  pub ascending : IsAscending forest
  pub same : SameLinks (Contains forest) (Contains p.taken)
  pub no_cycle : HasNoCycle (Contains forest)
  pub spans : Spans (Contains forest) links

-- why a solver can't be finished: a link of the list is missed, or otherwise memory
abbrev pub IsFinishFault : Progress → List Link → SolveFault → Type 0
IsFinishFault p links (Rounds round) = ⊥
IsFinishFault p links (Missed link) = missed p.labels links ≡ Some link
IsFinishFault p links Memory = missed p.labels links ≡ None

-- the links taken are those of this many rounds over the list, each of which took some
pub record HasRoundsOf (links : List Link) (p : Progress) : Type 0 where
  pub same : SameLinks (Contains p.taken) (TakenAfter (vertices p) links p.rounds)
  pub earlier : (k : ℕ) → k < p.rounds → ¬ (SameLinks (TakenAfter (vertices p) links (suc k)) (TakenAfter (vertices p) links k))

-- one more round over the list took links
pub record IsOneRoundMore (links : List Link) (old new : Progress) : Type 0 where
  pub same_vertices : vertices new ≡ vertices old
  pub rounds : new.rounds ≡ old.rounds + 1
  pub in_time : 2 ^ new.rounds ≤ max 1 (vertices old)
  pub right : HasRoundsOf links new

-- a round by the least links of the list took them; or there were none, so all merging rounds are done
abbrev pub IsRoundOf : List Link → Progress → Progress → Turn → Type 0
IsRoundOf links old new (Merged count) = IsOneRoundMore links old new
IsRoundOf links old new Done = (new ≡ old) × IsMergingRounds (vertices old) links old.rounds
