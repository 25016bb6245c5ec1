-- A list of links has exactly one list of light offers.
use Rattle.std.proofs.Common.{◌≡◌, ℕ, zero, suc, ◌+◌, ◌<◌, List, [], ◌∷◌, ◌++◌, get_or, Contains, sym, ◌∙◌, subst, inl, inr, arith, add-one}
use Rattle.std.specs.Prelude.{All}
use Rattle.std.proofs.lemmas.List.{get_or_default}
use Rattle.std.proofs.lemmas.List.Elements.{Contains-get_or}
use Rattle.links.specs.declared.links.Link.{Link}
use Rattle.links.specs.Labels.{label_of}
use Rattle.links.specs.Offers.{Offer}
use Rattle.links.proofs.Members.{contains_cases, contains_none, same_ascending}
use Rattle.round_theory.specs.Offers.{Leaves, IsLightOffer, AreLightOffers, OffersLeaving}
use Rattle.round_theory.proofs.Leaving.{leaves_end, least_leaving}
use Rattle.round_theory.proofs.Cutting.{first_place}
use Rattle.round_theory.proofs.OfferSteps.{AreOffersBelow, offers_skip, offers_push}

pub light_offers_unique : (links : List Link) (labels : List ℕ) (a b : List Offer) → AreLightOffers links labels a → AreLightOffers links labels b → a ≡ b
light_offers_unique links labels a b is_a is_b =
    same_ascending (λ (o p : Offer). o.0 < p.0) (λ o lt. omega arith) (λ o p lt gt. omega arith) a b is_a.ascending is_b.ascending
    (λ o. (λ o_in. (is_b.exact o.0 o.1).1 ((is_a.exact o.0 o.1).0 o_in), λ o_in. (is_a.exact o.0 o.1).1 ((is_b.exact o.0 o.1).0 o_in)))

-- the light offers for the labels below a bound
record OffersBelow (links : List Link) (labels : List ℕ) (bound : ℕ) : Type 0 where
  offers : List Offer
  are : AreOffersBelow links labels bound offers

offers_below : (links : List Link) (labels : List ℕ) (bound : ℕ) → OffersBelow links labels bound
offers_below links labels zero = record {
  offers = [];
  are = record {
    ascending = λ i j d lt in_range. absurd (omega arith);
    exact = λ c i. (λ c_in. absurd (contains_none (c, i) c_in), λ (lt, offer). absurd (omega (arith, lt)));
  };
}
offers_below links labels (suc bound) = more (offers_below links labels bound)
  where
    more : OffersBelow links labels bound → OffersBelow links labels (suc bound)
    more had = elim (least_leaving labels links bound) [
      | inl found ↦
          let at = first_place links found.0 found.1.member in
          record {
            offers = had.offers ++ (bound, at.0) ∷ [];
            are = rw (add-one) at (offers_push links labels bound at.0 had.offers had.are (found.0, found.1, at.1));
          }
      | inr none ↦ record { offers = had.offers; are = rw (add-one) at (offers_skip links labels bound had.offers had.are none) }
    ]

-- a number above the labels of all endpoints
record EndsBound (labels : List ℕ) (links : List Link) : Type 0 where
  bound : ℕ
  above : (l : Link) → Contains links l → (label_of labels l.low < bound) × (label_of labels l.high < bound)

ends_bound : (labels : List ℕ) (links : List Link) → EndsBound labels links
ends_bound labels [] = record { bound = 0; above = λ l l_in. absurd (contains_none l l_in) }
ends_bound labels (x ∷ links) = more (ends_bound labels links)
  where
    more : EndsBound labels links → EndsBound labels (x ∷ links)
    more had = record {
      bound = had.bound + label_of labels x.low + label_of labels x.high + 1;
      above = λ l l_in. elim (contains_cases x l links l_in) [
        | inl is ↦ subst
            (λ (y : Link). (label_of labels y.low < had.bound + label_of labels x.low + label_of labels x.high + 1)
            × (label_of labels y.high < had.bound + label_of labels x.low + label_of labels x.high + 1)) (sym is) (omega arith, omega arith)
        | inr in_links ↦ let old = had.above l in_links in (omega (arith, old.0), omega (arith, old.1))
      ];
    }

-- Label by label, up to a number above the labels of all endpoints, since a link leaves only the labels of its
-- endpoints.
pub light_offers_exist : (links : List Link) (labels : List ℕ) → (offers : List Offer) × AreLightOffers links labels offers
light_offers_exist links labels =
    (had.offers, record { ascending = had.are.ascending; exact = λ c i. (λ c_in. ((had.are.exact c i).0 c_in).1, λ offer. (had.are.exact c i).1 (below c i offer, offer)) })
  where
    ends : EndsBound labels links
    ends = ends_bound labels links

    had : OffersBelow links labels ends.bound
    had = offers_below links labels ends.bound

    below : (c i : ℕ) → IsLightOffer links labels c i → c < ends.bound
    below c i (l, least, at) = elim (leaves_end labels l c least.leaves) [
      | inl low ↦ omega (arith, low, (ends.above l least.member).0)
      | inr high ↦ omega (arith, high, (ends.above l least.member).1)
    ]

-- a light offer names its link
pub light_offer_leaves : (links : List Link) (labels : List ℕ) (c i : ℕ) → IsLightOffer links labels c i → OffersLeaving links labels (c, i)
light_offer_leaves links labels c i (l, least, at) = search (arith, get_or_default)

pub light_offers_leave : (links : List Link) (labels : List ℕ) (offers : List Offer) → AreLightOffers links labels offers → All (OffersLeaving links labels) offers
light_offers_leave links labels offers are k d lt =
    let offer = get_or offers k d in
    light_offer_leaves links labels offer.0 offer.1 ((are.exact offer.0 offer.1).0 (Contains-get_or offers k d lt))
