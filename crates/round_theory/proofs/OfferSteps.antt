-- The offers and the picks, label by label.
use Rattle.std.proofs.Common.{◌≡◌, ℕ, ◌+◌, ◌<◌, ◌≤◌, ◌↔◌, List, [], ◌∷◌, ◌++◌, length, get_or, Contains, sym, subst, inl, inr, arith}
use Rattle.std.proofs.lemmas.Bool.{cases_lt}
use Rattle.std.proofs.lemmas.List.Elements.{Contains-get_or, Contains-append_left, Contains-push, Contains-push_cases}
use Rattle.std.proofs.lemmas.List.Quantifiers.{all_pairs_push}
use Rattle.links.specs.declared.links.Link.{Link}
use Rattle.links.specs.Link.{EndsUpTo}
use Rattle.links.specs.Labels.{label_of, AreLabels}
use Rattle.links.specs.Offers.{Offer, AreOffers}
use Rattle.links.proofs.Members.{contains_none}
use Rattle.round_theory.specs.Labelling.{IsVertex}
use Rattle.round_theory.specs.Offers.{Leaves, IsFirstPlace, IsLightOffer, AreLightOffers}
use Rattle.round_theory.proofs.Lists.{set_ends}
use Rattle.round_theory.proofs.Labels.{low_vertex, high_vertex}
use Rattle.round_theory.proofs.Leaving.{leaves_end, least_leaving_unique}

first_place_unique : (links : List Link) (l : Link) (i j : ℕ) → IsFirstPlace links l i → IsFirstPlace links l j → i ≡ j
first_place_unique links l i j at_i at_j = search (arith, cases_lt)

light_offer_unique : (links : List Link) (labels : List ℕ) (c i j : ℕ) → IsLightOffer links labels c i → IsLightOffer links labels c j → i ≡ j
light_offer_unique links labels c i j (l, least, at) (m, least', at') =
    let same = least_leaving_unique labels (Contains links) c l m least least' in
    first_place_unique links m i j (subst (λ k. IsFirstPlace links k i) same at) at'

-- if all labels are vertices, so is each label that a link leaves
pub left_label_is_vertex : (labels : List ℕ) (l : Link) (c : ℕ) → AreLabels labels → l.high ≤ length labels → Leaves labels l c → IsVertex (length labels) c
left_label_is_vertex labels l c are ends leaves = search (arith, leaves_end, low_vertex, high_vertex)

-- the offers for the labels below a bound
pub record AreOffersBelow (links : List Link) (labels : List ℕ) (bound : ℕ) (offers : List Offer) : Type 0 where
  pub ascending : AreOffers offers
  pub exact : (c i : ℕ) → Contains offers (c, i) ↔ ((c < bound) × IsLightOffer links labels c i)

module _ (links : List Link) (labels : List ℕ) (ends : EndsUpTo (length labels) links) (all : AreLabels labels) where
  offer_vertex : (c i : ℕ) → IsLightOffer links labels c i → IsVertex (length labels) c
  offer_vertex c i (l, least, at) = left_label_is_vertex labels l c all (set_ends (length labels) links ends l least.member) least.leaves

  pub offers_none : AreOffersBelow links labels 1 []
  offers_none = search (arith, contains_none, offer_vertex)

  pub offers_all : (bound : ℕ) (offers : List Offer) → length labels < bound → AreOffersBelow links labels bound offers → AreLightOffers links labels offers
  offers_all bound offers past are = record {
    ascending = are.ascending;
    exact = λ c i. (λ c_in. ((are.exact c i).0 c_in).1, λ offer. (are.exact c i).1 (omega (arith, offer_vertex c i offer, past), offer));
  }

-- no link leaves the next label
pub offers_skip : (links : List Link) (labels : List ℕ) (bound : ℕ) (offers : List Offer) → AreOffersBelow links labels bound offers
    → ((l : Link) → Contains links l → ¬ (Leaves labels l bound)) → AreOffersBelow links labels (bound + 1) offers
offers_skip links labels bound offers are none = record {
  ascending = are.ascending;
  exact = λ c i. (
    λ c_in. let had = (are.exact c i).0 c_in in (omega (arith, had.0), had.1),
    λ (lt, offer). (are.exact c i).1 (
      elim (cases_lt c bound) [
        | inl below ↦ below
        | inr le ↦ let same : c ≡ bound = omega (arith, lt) in absurd (none offer.0 offer.1.member (subst (Leaves labels offer.0) same offer.1.leaves))
      ],
      offer,
    ),
  );
}

-- or a light offer for the next label is added
pub offers_push : (links : List Link) (labels : List ℕ) (bound place : ℕ) (offers : List Offer) → AreOffersBelow links labels bound offers
    → IsLightOffer links labels bound place → AreOffersBelow links labels (bound + 1) (offers ++ (bound, place) ∷ [])
offers_push links labels bound place offers are light = record {
  ascending = all_pairs_push (λ a b. a.0 < b.0) offers (bound, place) are.ascending (λ k d lt. ((are.exact (get_or offers k d).0 (get_or offers k d).1).0 (Contains-get_or offers k d lt)).0);
  exact = λ c i. (to c i, back c i);
}
  where
    to : (c i : ℕ) → Contains (offers ++ (bound, place) ∷ []) (c, i) → (c < bound + 1) × IsLightOffer links labels c i
    to c i c_in = elim (Contains-push_cases offers (bound, place) (c, i) c_in) [
      | inl old ↦ let had = (are.exact c i).0 old in (omega (arith, had.0), had.1)
      | inr same ↦ subst (λ (p : ℕ × ℕ). (p.0 < bound + 1) × IsLightOffer links labels p.0 p.1) same (omega arith, light)
    ]

    back : (c i : ℕ) → (c < bound + 1) × IsLightOffer links labels c i → Contains (offers ++ (bound, place) ∷ []) (c, i)
    back c i (lt, offer) = elim (cases_lt c bound) [
      | inl below ↦ Contains-append_left offers ((bound, place) ∷ []) (c, i) ((are.exact c i).1 (below, offer))
      | inr le ↦
          let same : c ≡ bound = omega (arith, lt) in
          let one : i ≡ place = light_offer_unique links labels bound i place (subst (λ x. IsLightOffer links labels x i) same offer) light in
          subst (λ (p : ℕ × ℕ). Contains (offers ++ (bound, place) ∷ []) p) (λ k. (sym same k, sym one k)) (Contains-push offers (bound, place))
    ]
