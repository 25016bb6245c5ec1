-- A table with an entry for each label, and the offers that it makes.
use Rattle.std.proofs.Common.{◌≡◌, ◌≢◌, ℕ, ◌+◌, ◌<◌, ◌≤◌, ◌^◌, List, [], ◌∷◌, ◌++◌, length, get_or, Contains, sym, ap, ◌∙◌, subst, inl, inr, arith}
use Rattle.std.proofs.lemmas.Bool.{cases_lt}
use Rattle.std.proofs.lemmas.List.Elements.{Contains-get_or, Contains-append_left, Contains-push, Contains-push_cases}
use Rattle.std.proofs.lemmas.List.Quantifiers.{all_pairs_push}
use Rattle.links.specs.declared.links.Link.{Link}
use Rattle.links.specs.Link.{EndsUpTo}
use Rattle.links.specs.Labels.{AreLabels}
use Rattle.links.specs.Offers.{Offer}
use Rattle.links.proofs.Members.{contains_none}
use Rattle.round_theory.specs.Labelling.{IsVertex}
use Rattle.round_theory.specs.Offers.{IsLightOffer, AreLightOffers}
use Rattle.round_theory.proofs.Lists.{set_ends}
use Rattle.round_theory.proofs.OfferSteps.{left_label_is_vertex}
use Rattle.shard_scans.specs.declared.scanning.Best.{Best}
use Rattle.shard_scans.specs.Scanning.{no_best, IsBestPlace, best_of, AreBest}
use Rattle.shard_scans.specs.Tables.{IsKept, ArePlacesBelow}
use Rattle.shard_scans.proofs.BestSoFar.{best_is_light, none_leaves}
use Rattle.shard_scans.proofs.Scans.{kept_place, kept_none}

pub places_none : (bests : List Best) → ArePlacesBelow bests 1 []
places_none bests = search (arith, contains_none)

-- the next label has an empty entry
pub places_skip : (bests : List Best) (before : ℕ) (pairs : List Offer) → (get_or bests before no_best).place ≡ no_best.place
    → ArePlacesBelow bests (before + 1) pairs → ArePlacesBelow bests (before + 1 + 1) pairs
places_skip bests before pairs none are = record {
  ascending = are.ascending;
  exact = λ label place. (
    λ is_in. let had = (are.exact label place).0 is_in in (omega (arith, had.0), had.1),
    λ (lt, kept). (are.exact label place).1 (
      elim (cases_lt label (before + 1)) [
        | inl below ↦ below
        | inr past ↦ absurd (kept.some (sym kept.here ∙ subst (λ k. (get_or bests k no_best).place ≡ no_best.place) (omega (arith, past, lt)) none))
      ],
      kept,
    ),
  );
}

-- or an index is stored for the next label
pub places_push : (bests : List Best) (before place : ℕ) (pairs : List Offer) → (get_or bests before no_best).place ≡ place → place ≢ no_best.place
    → ArePlacesBelow bests (before + 1) pairs → ArePlacesBelow bests (before + 1 + 1) (pairs ++ (before + 1, place) ∷ [])
places_push bests before place pairs here some are = record {
  ascending = all_pairs_push (λ a b. a.0 < b.0) pairs (before + 1, place) are.ascending (λ k d lt. ((are.exact (get_or pairs k d).0 (get_or pairs k d).1).0 (Contains-get_or pairs k d lt)).0);
  exact = λ label other. (to label other, back label other);
}
  where
    kept : IsKept bests (before + 1) place
    kept = record { from_one = omega arith; here = subst (λ k. (get_or bests k no_best).place ≡ place) (omega arith) here; some = some }

    to : (label other : ℕ) → Contains (pairs ++ (before + 1, place) ∷ []) (label, other) → (label < before + 1 + 1) × IsKept bests label other
    to label other is_in = elim (Contains-push_cases pairs (before + 1, place) (label, other) is_in) [
      | inl old ↦ let had = (are.exact label other).0 old in (omega (arith, had.0), had.1)
      | inr same ↦ subst (λ (p : ℕ × ℕ). (p.0 < before + 1 + 1) × IsKept bests p.0 p.1) same (omega arith, kept)
    ]

    back : (label other : ℕ) → (label < before + 1 + 1) × IsKept bests label other → Contains (pairs ++ (before + 1, place) ∷ []) (label, other)
    back label other (lt, is) = elim (cases_lt label (before + 1)) [
      | inl below ↦ Contains-append_left pairs ((before + 1, place) ∷ []) (label, other) ((are.exact label other).1 (below, is))
      | inr le ↦
          let same : label ≡ before + 1 = omega (arith, lt, le) in
          let one : other ≡ place = sym is.here ∙ ap (λ k. (best_of bests k).place) same ∙ kept.here in
          subst (λ (p : ℕ × ℕ). Contains (pairs ++ (before + 1, place) ∷ []) p) (λ k. (sym same k, sym one k)) (Contains-push pairs (before + 1, place))
    ]

-- the link that is offered is the one at the best index, the first at which it is
pub same_place : (links : List Link) (labels : List ℕ) (label p place : ℕ) → IsBestPlace links labels 0 (length links) label p → IsLightOffer links labels label place → p ≡ place
same_place links labels label p place best (l, least, at) = search (arith, cases_lt)

-- the best indices are the light offers
module _ (links : List Link) (labels : List ℕ) (bests : List Best) (few : length links ≤ 2 ^ 24)
    (ends : EndsUpTo (length labels) links) (all : AreLabels labels) (are : AreBest links labels 0 (length links) bests) where
  kept_is_light : (label place : ℕ) → label < length bests + 1 → IsKept bests label place → IsLightOffer links labels label place
  kept_is_light label place lt kept =
      let vertex : IsVertex (length labels) label = (kept.from_one, omega (arith, lt, are.each_vertex)) in
      let best = kept_place links labels 0 (length links) label (best_of bests label) (are.best label vertex) (λ none. kept.some (sym kept.here ∙ none)) in
      best_is_light links labels label place (subst (IsBestPlace links labels 0 (length links) label) kept.here best)

  light_is_kept : (label place : ℕ) → IsLightOffer links labels label place → (label < length bests + 1) × IsKept bests label place
  light_is_kept label place (l, least, at) =
      let vertex = left_label_is_vertex labels l label all (set_ends (length labels) links ends l least.member) least.leaves in
      let keeps = are.best label vertex in
      let some : (best_of bests label).place ≢ no_best.place =
      λ none. none_leaves links labels label (kept_none links labels 0 (length links) label (best_of bests label) keeps few none) l least.member least.leaves in
      let same = same_place links labels label (best_of bests label).place place (kept_place links labels 0 (length links) label (best_of bests label) keeps some) (l, least, at) in
      (omega (arith, vertex, are.each_vertex), record { from_one = vertex.0; here = same; some = λ none. some (same ∙ none) })

  pub places_are_light : (pairs : List Offer) → ArePlacesBelow bests (length bests + 1) pairs → AreLightOffers links labels pairs
  places_are_light pairs places = record {
    ascending = places.ascending;
    exact = λ label place. (
      λ is_in. let (lt, kept) = (places.exact label place).0 is_in in kept_is_light label place lt kept,
      λ light. (places.exact label place).1 (light_is_kept label place light),
    );
  }
