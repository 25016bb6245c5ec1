-- Rounds one after the other: new numbers of the components, then new numbers of these numbers.
use Rattle.std.proofs.Common.{◌≡◌, ℕ, ◌+◌, ◌++◌, Bool, List, length, sym, ◌∙◌, subst}
use Rattle.link_key.specs.declared.sequential.rounds.Open.{Open}
use Rattle.link_key.specs.Rounds.{IsStage}
use Rattle.links.specs.Labels.{renamed}
use Rattle.link_key.specs.OpenLinks.{links_of, marked, AreOpenOf, AreAllNumbers, StayOpen, LeadsOn}
use Rattle.link_key.proofs.Opened.{renamed_twice}
use Rattle.link_key.proofs.Stages.{renamed_labels}

module _ (candidates left rest : List Open) {last : ℕ} (numbers : List ℕ) {further : List ℕ} (all' : AreAllNumbers last further) where
  pub stay_open : StayOpen candidates numbers left → StayOpen left further rest → StayOpen candidates (renamed further numbers) rest
  stay_open one two d links labels are =
      subst (λ (now : List ℕ). AreOpenOf now d links rest) (sym (renamed_twice numbers further labels all'.none)) (two d links (renamed numbers labels) (one d links labels are))

  pub lead_on : {count mid : ℕ} (marks between after : List Bool) → length between ≡ length marks → length numbers ≡ count + 1 → AreAllNumbers mid numbers → StayOpen candidates numbers left
      → LeadsOn count candidates marks numbers left between → LeadsOn mid left between further rest after → LeadsOn count candidates marks (renamed further numbers) rest after
  lead_on {count} {mid} marks between after as_many len all stay one two d whole links later before labels fits up_to are stage =
      subst (λ (now : List ℕ). IsStage whole (links_of d links rest) later now (before ++ marked links after)) (sym (renamed_twice numbers further labels all'.none))
      (two d whole links later before (renamed numbers labels) (fits ∙ sym as_many) (renamed_labels len all up_to)
      (stay d links labels are) (one d whole links later before labels fits up_to are stage))
