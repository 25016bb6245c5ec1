-- Rounds by the least links of a whole list, until one picks nothing.
use Rattle.std.proofs.Common.{◌≡◌, ◌≢◌, ℕ, suc, ◌+◌, ◌-◌, ◌<◌, ◌≤◌, ◌^◌, ◌↔◌, Bool, true, false, not, cond, List}
use Rattle.std.proofs.Common.{[], ◌∷◌, ◌++◌, length, get_or, Contains, Some, None, refl, sym, ap, ◌∙◌, subst, inl, inr, arith, eq-eqb}
use Rattle.std.specs.Prelude.{Option}
use Rattle.std.proofs.lemmas.Bool.{cases_lt}
use Rattle.std.proofs.lemmas.List.{get_or_default}
use Rattle.std.proofs.lemmas.List.Elements.{All-contains}
use Rattle.links.specs.declared.links.Link.{Link}
use Rattle.links.specs.Link.{EndsUpTo}
use Rattle.links.specs.Labels.{label_of, AreLabels}
use Rattle.links.specs.Forest.{IsForestLink, IsForestOf}
use Rattle.links.proofs.Members.{contains_none, contains_head, contains_tail}
use Rattle.round_theory.specs.LinkSet.{IsPartOf, SameLinks}
use Rattle.round_theory.specs.Offers.{Leaves, IsPick}
use Rattle.round_theory.specs.Rounds.{TakenAfter, IsMergingRounds}
use Rattle.links.proofs.ForestSpans.{spanning_part_is_forest}
use Rattle.round_theory.proofs.Labels.{labelling_alike, labelling_is_labels}
use Rattle.round_theory.proofs.Leaving.{leaves_low, least_leaving_unique}
use Rattle.round_theory.proofs.OfferSteps.{left_label_is_vertex}
use Rattle.round_theory.proofs.Rounds.{adds_nothing, rounds_in_forest, round_in_time}
use Rattle.round_theory.proofs.RoundSteps.{AreRoundsSoFar, nothing_taken, round_adds, rounds_end, taken_more}
use Rattle.round_core.specs.Picks.{pick_of, Picked, IsPickOf, ArePicks, AreNoPicks}
use Rattle.round_core.specs.Solver.{Progress, vertices, IsProgress, IsAtStart, IsMerged, IsTurn, IsStepFault, is_apart, missed, IsFinished, IsFinishFault, HasRoundsOf, IsOneRoundMore, IsRoundOf}
use Rattle.round_core.specs.declared.solver.Turn.{Turn}
use Rattle.round_core.specs.declared.solver.Turn.TheVariants.{Merged, Done}
use Rattle.round_core.specs.declared.solver.SolveFault.{SolveFault}
use Rattle.round_core.specs.declared.solver.SolveFault.TheVariants.{Rounds, Missed, Memory}
use Rattle.round_core.proofs.Picking.{picked_there, picked_is_pick}
use Rattle.round_core.proofs.Missing.{none_leave}

-- the links picked from a list are its picks
module _ (labels : List ℕ) (links : List Link) (picks : List (Option Link)) (are_labels : AreLabels labels) (ends : EndsUpTo (length labels) links) (are : ArePicks labels (Contains links) picks) where
  is_picked : (l : Link) → IsPick labels (Contains links) l → Picked picks l
  is_picked l (c, least) =
      let end : l.high ≤ length labels = All-contains (λ (m : Link). m.high ≤ length labels) links l ends least.member in
      at (pick_of picks c) refl (are.least c (left_label_is_vertex labels l c are_labels end least.leaves))
    where
      at : (pick : Option Link) → pick_of picks c ≡ pick → IsPickOf labels (Contains links) c pick → Picked picks l
      at None is none = absurd (none l least.member least.leaves)
      at (Some m) is best = picked_there picks (c - 1) l (is ∙ ap Some (least_leaving_unique labels (Contains links) c m l best least))

  pub same_picked : SameLinks (Picked picks) (IsPick labels (Contains links))
  same_picked l = (picked_is_pick labels (Contains links) picks l are, is_picked l)

same_at : (links taken taken' : List Link) (n n' i i' : ℕ) → n' ≡ n → i' ≡ i → taken' ≡ taken → SameLinks (Contains taken) (TakenAfter n links i) → SameLinks (Contains taken') (TakenAfter n' links i')
same_at links taken taken' n n' i i' same_n same_i same_taken same = search arith

-- what the rounds so far took, and what the next one picks
module _ (links : List Link) (p : Progress) (picks : List (Option Link)) (is : IsProgress p)
    (ends : EndsUpTo (vertices p) links) (so_far : HasRoundsOf links p) (are : ArePicks p.labels (Contains links) picks) where
  are_labels : AreLabels p.labels
  are_labels = labelling_is_labels (vertices p) (Contains p.taken) p.labels is.few_vertices is.labelling

  next : (added : List Link) → SameLinks (Contains added) (Picked picks) → AreRoundsSoFar (vertices p) links p.taken added p.rounds
  next added same = record {
    same = so_far.same;
    next = (
      p.labels,
      is.labelling,
      λ l. (
        λ l_in. (same_picked p.labels links picks are_labels ends are l).0 ((same l).0 l_in),
        λ pick. (same l).1 ((same_picked p.labels links picks are_labels ends are l).1 pick),
      ),
    );
    earlier = so_far.earlier;
  }

  pub one_round : (new : Progress) (count : ℕ) → IsMerged picks count p new → IsOneRoundMore links p new
  one_round new count merged = record {
    same_vertices = merged.labelling.each_vertex;
    rounds = merged.rounds;
    in_time = merged.in_time;
    right = record {
      same = same_at links (p.taken ++ merged.added) new.taken (vertices p) (vertices new) (p.rounds + 1) new.rounds merged.labelling.each_vertex merged.rounds merged.taken
          (taken_more (vertices p) links p.taken merged.added p.rounds so_far.same (next merged.added merged.picked.exact).next);
      earlier = λ k lt. subst (λ m. ¬ (SameLinks (TakenAfter m links (suc k)) (TakenAfter m links k))) (sym merged.labelling.each_vertex) (elim (cases_lt k p.rounds) [
        | inl below ↦ so_far.earlier k below
        | inr le ↦
            let last : p.rounds ≡ k = omega (arith, lt, le, merged.rounds) in
            subst (λ j. ¬ (SameLinks (TakenAfter (vertices p) links (suc j)) (TakenAfter (vertices p) links j))) last
            (round_adds (vertices p) links p.taken merged.added p.rounds ends (next merged.added merged.picked.exact) (omega (arith, merged.some, merged.number)))
      ]);
    };
  }

  -- a round without picks is the one after the last
  pub no_round : AreNoPicks picks → IsMergingRounds (vertices p) links p.rounds
  no_round none = rounds_end (vertices p) links p.taken [] p.rounds ends (next [] same) refl
    where
      same : SameLinks (Contains []) (Picked picks)
      same l = (λ l_in. absurd (contains_none l l_in), λ picked. let is_none : Some l ≡ None = All-contains (λ (pick : Option Link). pick ≡ None) picks (Some l) none picked in absurd (cc))

  pub round_of : (new : Progress) (turn : Turn) → IsTurn picks p new turn → IsRoundOf links p new turn
  round_of new (Merged count) merged = one_round new count merged
  round_of new Done (none, same) = (same, no_round none)

  -- if there are picks, the round adds them, so it isn't past the bound
  pub only_memory : (fault : SolveFault) → IsStepFault p picks fault → fault ≡ Memory
  only_memory Memory refused = refl
  only_memory (Missed l) refused = absurd refused
  only_memory (Rounds round) (number, past, some) =
      let in_time = round_in_time (vertices p) links ends p.rounds adds in
      let next_round : suc p.rounds ≡ round = omega (arith, number) in
      let in_time' : 2 ^ round ≤ vertices p = subst (λ k. 2 ^ k ≤ vertices p) next_round in_time in
      absurd (omega (arith, in_time', past))
    where
      adds : ¬ (SameLinks (TakenAfter (vertices p) links (suc p.rounds)) (TakenAfter (vertices p) links p.rounds))
      adds same = some (λ i d lt. none_at i d lt)
        where
          stays : (l : Link) (c : ℕ) → Contains links l → ¬ (Leaves p.labels l c)
          stays = (adds_nothing (vertices p) links ends p.rounds p.labels
              (labelling_alike (vertices p) (Contains p.taken) (TakenAfter (vertices p) links p.rounds) p.labels so_far.same is.labelling)).0 same

          none : (pick : Option Link) → Contains picks pick → pick ≡ None
          none None pick_in = refl
          none (Some l) pick_in = let (c, least) = (same_picked p.labels links picks are_labels ends are l).0 pick_in in absurd (stays l c least.member least.leaves)

          none_at : (i : ℕ) (d : Option Link) → i < length picks → get_or picks i d ≡ None
          none_at i d lt = none (get_or picks i d) (i, lt, get_or_default picks i (get_or picks i d) d lt)

pub at_first : (links : List Link) (n : ℕ) (p : Progress) → IsAtStart n p → HasRoundsOf links p
at_first links n p start = search (arith, nothing_taken)

-- a link that is missed is one of the list, and its endpoints have different labels
missed_is : (labels : List ℕ) (links : List Link) (l : Link) → missed labels links ≡ Some l → Contains links l × (label_of labels l.low ≢ label_of labels l.high)
missed_is labels [] l found = absurd (cc)
missed_is labels (x ∷ links) l found = search (arith, cond, contains_head, not, eq-eqb, contains_tail, missed_is labels links l)

-- what is left after the rounds so far
module _ (links : List Link) (p : Progress) (is : IsProgress p) (ends : EndsUpTo (vertices p) links) (so_far : HasRoundsOf links p) where
  still : SameLinks (TakenAfter (vertices p) links (suc p.rounds)) (TakenAfter (vertices p) links p.rounds) ↔ ((l : Link) (c : ℕ) → Contains links l → ¬ (Leaves p.labels l c))
  still = adds_nothing (vertices p) links ends p.rounds p.labels (labelling_alike (vertices p) (Contains p.taken) (TakenAfter (vertices p) links p.rounds) p.labels so_far.same is.labelling)

  none_is : IsMergingRounds (vertices p) links p.rounds → (found : Option Link) → missed p.labels links ≡ found → missed p.labels links ≡ None
  none_is all None is_none = is_none
  none_is all (Some l) is_l = let (l_in, apart) = missed_is p.labels links l is_l in absurd (still.0 all.still l (label_of p.labels l.low) l_in (leaves_low p.labels l apart))

  -- no link is missed exactly if all rounds are done
  pub none_missed : (missed p.labels links ≡ None) ↔ IsMergingRounds (vertices p) links p.rounds
  none_missed = (
    λ none. record { still = still.1 (none_leave p.labels links none); first = so_far.earlier },
    λ all. none_is all (missed p.labels links) refl,
  )

  pub finish_only_memory : IsMergingRounds (vertices p) links p.rounds → (fault : SolveFault) → IsFinishFault p links fault → fault ≡ Memory
  finish_only_memory all Memory refused = refl
  finish_only_memory all (Rounds round) refused = absurd refused
  finish_only_memory all (Missed l) refused = let none = none_missed.1 all in absurd (cc)

-- rounds take only links of the forest, so if they span, they are the forest
pub is_forest : (links : List Link) (p : Progress) → HasRoundsOf links p → (forest : List Link) → IsFinished p links forest → IsForestOf links forest
is_forest links p so_far forest finished = record { ascending = finished.ascending; exact = spanning_part_is_forest links (Contains forest) part finished.spans }
  where
    part : IsPartOf (Contains forest) (IsForestLink links)
    part l l_in = rounds_in_forest (vertices p) links p.rounds l ((so_far.same l).0 ((finished.same l).0 l_in))

-- a round without picks leaves the solver as it was
pub record IsEnded (n : ℕ) (links : List Link) (p : Progress) : Type 0 where
  pub same_vertices : vertices p ≡ n
  pub so_far : HasRoundsOf links p
  pub all : IsMergingRounds (vertices p) links p.rounds

pub ended : (n : ℕ) (links : List Link) (old new : Progress) (turn : Turn) → vertices old ≡ n → HasRoundsOf links old → turn ≡ Done → IsRoundOf links old new turn → IsEnded n links new
ended n links old new turn same_vertices so_far is_done round = search arith
