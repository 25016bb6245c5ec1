-- What a whole run does.
use Rattle.std.specs.Prelude.{◌≡◌, ◌≢◌, ℕ, ◌+◌, ◌≤◌, ◌⊎◌, ◌^◌, max, List, [], ◌∷◌, ◌++◌, length, All, Contains, Option}
use Rattle.links.specs.declared.links.Link.{Link}
use Rattle.links.specs.Cut.{joined}
use Rattle.links.specs.Forest.{IsForestOf}
use Rattle.links.specs.Least.{IsLightest}
use Rattle.links.specs.AnswerValue.{AnswerValue}
use Rattle.round_theory.specs.Offers.{Names}
use Rattle.round_theory.specs.Rounds.{IsMergingRounds}
use Rattle.round_core.specs.BookValue.{BookValue, hearing_of}
use Rattle.round_core.specs.Picks.{AreNoPicks}
use Rattle.round_core.specs.Solver.{Progress, IsProgress, vertices, IsTurn, IsStepFault, IsFinished, IsFinishFault, HasRoundsOf}
use Rattle.round_core.specs.declared.solver.Turn.{Turn}
use Rattle.round_core.specs.declared.solver.SolveFault.{SolveFault}
use Rattle.round_core.specs.declared.solver.SolveFault.TheVariants.{Memory}
use Rattle.round_theory.specs.declared.port.Port as Port
use Rattle.plain_run.specs.declared.report.Report.{Report}
use Rattle.port_rounds.specs.Lanes.{LaneState, ask_count, open_count}
use Rattle.port_rounds.specs.Rounds.{PicksInRound}
use Rattle.port_rounds.specs.Runs.{IsFullBook, MatchesBooks, AreLightBooks, PortsAnswer, RunsRounds, IsGivenBy, IsNamedIn}
use Rattle.port_rounds.specs.Chains.{IsNextBook, HasPicks, MergesFromStart}
use Rattle.port_rounds.specs.Reports.{IsReportOf}

abbrev pub AreHonest : {P : Type 0} → (P → Type 0) → List (LaneState P) → Type 0
AreHonest honest lanes = All (λ lane. honest lane.port) lanes

-- ---- one round

module _ {P A : Type 0} (port : Port.Ghosts P A) (cut : List (List Link)) where
  -- a round under the solver's labels, and a step of the solver by its picks
  pub record StepsOnce (old new : Progress) (before after : List (LaneState P)) (turn : Turn) (alone : ℕ) : Type 0 where
    pub picks : List (Option Link)
    pub progress : IsProgress old
    pub picked : PicksInRound port (old.rounds + 1) cut old.labels before after picks alone
    pub stepped : IsTurn picks old new turn

  -- however a round ended: what it did to the lanes' ports, and its book, as far as that was filled
  pub record AsksInRound (old : Progress) (before after : List (LaneState P)) : Type 0 where
    pub book : BookValue
    pub next : IsNextBook cut old book
    pub answers_at : ℕ → List AnswerValue
    pub ports : PortsAnswer port (book ∷ []) before after answers_at
    pub kept : MatchesBooks port.honest before (book ∷ []) answers_at

  -- a round under the solver's labels, whose picks the solver rejects
  pub record RefusesPicks (old : Progress) (before after : List (LaneState P)) (fault : SolveFault) : Type 0 where
    pub picks : List (Option Link)
    pub alone : ℕ
    pub progress : IsProgress old
    pub picked : PicksInRound port (old.rounds + 1) cut old.labels before after picks alone
    pub refused : IsStepFault old picks fault

  -- why a round fails: memory ran out, or the solver rejects the picks
  abbrev pub IsTurnFault : Progress → List (LaneState P) → List (LaneState P) → SolveFault → Type 0
  IsTurnFault old before after fault = (fault ≡ Memory) ⊎ RefusesPicks old before after fault

-- ---- rounds from the start of a run

-- The books about which a run asked. There are none; or there is a full one for each merging round, and that of the
-- solver's next round, as far as it was filled.
abbrev pub AreRunBooks : ℕ → List (List Link) → List BookValue → Type 0
AreRunBooks n cut books =
    (books ≡ [])
    ⊎ ((merging : List BookValue) × (solver : Progress) × (last : BookValue) × (books ≡ merging ++ last ∷ [])
    × All (IsFullBook cut) merging × MergesFromStart n merging solver × IsNextBook cut solver last)

-- the links taken are those of all merging rounds over the list
pub record HasAllRoundsOf (links : List Link) (p : Progress) : Type 0 where
  pub so_far : HasRoundsOf links p
  pub all : IsMergingRounds (vertices p) links p.rounds

-- an answer that one of the lanes kept names the link
abbrev pub IsNamedByLane : List (List Link) → ℕ → (ℕ → List AnswerValue) → Link → Type 0
IsNamedByLane cut lanes answers_at l = (answer : AnswerValue) × IsGivenBy lanes answers_at answer × Names (hearing_of cut answer) l

module _ {P A : Type 0} (port : Port.Ghosts P A) (n : ℕ) (cut : List (List Link)) (before after : List (LaneState P)) where
  -- merging rounds from a run's start, which led to this solver, and another whole round, of which these are the picks
  pub record PicksAfterRounds (solver : Progress) (picks : List (Option Link)) (answered alone : ℕ) : Type 0 where
    pub merging : List BookValue
    pub last : BookValue
    pub rounds : RunsRounds port cut before after (merging ++ last ∷ []) answered alone
    pub solved : MergesFromStart n merging solver
    pub picked : HasPicks solver last picks

  -- however a run ended: what it did to the lanes' ports, and the books that it filled
  pub record AsksInRun : Type 0 where
    pub books : List BookValue
    pub are_books : AreRunBooks n cut books
    pub answers_at : ℕ → List AnswerValue
    pub ports : PortsAnswer port books before after answers_at
    pub kept : MatchesBooks port.honest before books answers_at

  -- rounds of a run until one had no picks: for each link that the solver took, a book has an answer that names it
  pub record MergesAll (solver : Progress) (answered alone : ℕ) : Type 0 where
    pub picks : List (Option Link)
    pub went : PicksAfterRounds solver picks answered alone
    pub none : AreNoPicks picks
    pub number : length (went.merging ++ went.last ∷ []) ≡ solver.rounds + 1
    pub progress : IsProgress solver
    pub in_time : 2 ^ solver.rounds ≤ max 1 n
    pub vertices_are : vertices solver ≡ n
    pub named : All (IsNamedIn went.merging) solver.taken
    -- if each answer is light, whoever gave it
    pub right : AreLightBooks (went.merging ++ went.last ∷ []) → HasAllRoundsOf (joined cut) solver

  -- Rounds of a run, after which the solver rejects the picks of the last one; or there were none, and the solver can't
  -- be finished.
  pub record RefusesRun (fault : SolveFault) : Type 0 where
    pub solver : Progress
    pub picks : List (Option Link)
    pub answered : ℕ
    pub alone : ℕ
    pub went : PicksAfterRounds solver picks answered alone
    pub vertices_are : vertices solver ≡ n
    pub why : IsStepFault solver picks fault ⊎ (AreNoPicks picks × IsFinishFault solver (joined cut) fault)
    -- an error other than a lack of memory is caused by an answer that isn't light
    pub to_blame : fault ≢ Memory → ¬ (AreLightBooks (went.merging ++ went.last ∷ []))

  -- why a run has no forest: memory ran out, or what was answered in its rounds
  abbrev pub IsSolveFault : SolveFault → Type 0
  IsSolveFault fault = (fault ≡ Memory) ⊎ RefusesRun fault

  -- a successful run over the lanes: its forest, and its report
  pub record FindsForest (forest : List Link) (report : Report) : Type 0 where
    pub solver : Progress
    pub picks : List (Option Link)
    -- a merging round for each that is reported, and the last one, which had no picks
    pub went : PicksAfterRounds solver picks report.answered report.alone
    pub none : AreNoPicks picks
    pub rounds_are : report.rounds ≡ solver.rounds
    pub in_time : 2 ^ report.rounds ≤ max 1 n
    pub counts : IsReportOf n cut forest report
    -- the ports' counts of asks rose by `asked`, and `closed` ports were closed
    pub asked : ask_count port.state after ≡ ask_count port.state before + report.asked
    pub closed : open_count port.state after + report.closed ≡ open_count port.state before
    -- the links that the solver took, which are a spanning forest, whatever was answered
    pub finished : IsFinished solver (joined cut) forest
    pub from_list : All (Contains (joined cut)) forest
    -- if the coordinator scanned nothing, an answer that a lane kept names each link
    pub named : report.alone ≡ 0 → (l : Link) → Contains forest l → IsNamedByLane cut (length before) went.rounds.answers_at l
    -- if each answer is light, whoever gave it: this is the minimum spanning forest, no spanning forest weighs less,
    -- and the number of merging rounds is reported
    pub light_forest : AreLightBooks (went.merging ++ went.last ∷ []) → IsForestOf (joined cut) forest
    pub light_total : AreLightBooks (went.merging ++ went.last ∷ []) → IsLightest (joined cut) report.total
    pub light_rounds : AreLightBooks (went.merging ++ went.last ∷ []) → IsMergingRounds n (joined cut) report.rounds
    -- the same if all ports are honest
    pub honest_forest : AreHonest port.honest before → IsForestOf (joined cut) forest
    pub honest_total : AreHonest port.honest before → IsLightest (joined cut) report.total
    pub honest_rounds : AreHonest port.honest before → IsMergingRounds n (joined cut) report.rounds
