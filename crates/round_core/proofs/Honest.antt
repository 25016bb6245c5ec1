-- Light offers are taken.
use Rattle.std.proofs.Common.{◌≡◌, ℕ, suc, true, List, [], ◌∷◌, get_or, Some, refl, inl, inr, arith, eq-eqb, ne_eqb}
use Rattle.std.specs.Prelude.{All, slice_get}
use Rattle.std.specs.List.{list_all}
use Rattle.std.proofs.lemmas.List.{get_or_default}
use Rattle.std.proofs.lemmas.Option.{slice_get-get_or}
use Rattle.links.specs.declared.links.Link.{Link}
use Rattle.links.specs.Labels.{label_of}
use Rattle.links.specs.Offers.{Offer}
use Rattle.links.specs.Cut.{links_at}
use Rattle.round_theory.specs.Offers.{Leaves, OffersLeaving}
use Rattle.round_theory.proofs.LightOffers.{light_offers_leave}
use Rattle.round_core.specs.BookValue.{is_leaving, is_offer, LightOffersAreTaken}

leaving_is : (labels : List ℕ) (c : ℕ) (l : Link) → Leaves labels l c → is_leaving labels c l ≡ true
leaving_is labels c l (inl (low, high)) = rw (eq-eqb (label_of labels l.low) c low, ne_eqb (label_of labels l.high) c high) refl
leaving_is labels c l (inr (low, high)) = rw (ne_eqb (label_of labels l.low) c low, eq-eqb (label_of labels l.high) c high) refl

offer_is : (links : List Link) (labels : List ℕ) (o : Offer) → OffersLeaving links labels o → is_offer links labels o ≡ true
offer_is [] labels o is = absurd (omega (arith, is.within))
offer_is (x ∷ links) labels o is =
    let some : slice_get (x ∷ links) o.1 ≡ Some (get_or (x ∷ links) o.1 x) = slice_get-get_or (x ∷ links) o.1 x is.within in
    let here : get_or (x ∷ links) o.1 (get_or (x ∷ links) o.1 x) ≡ get_or (x ∷ links) o.1 x = get_or_default (x ∷ links) o.1 (get_or (x ∷ links) o.1 x) x is.within in
    rw some (leaving_is labels o.0 (get_or (x ∷ links) o.1 x) (is.leaves (get_or (x ∷ links) o.1 x) here))

offers_are : (links : List Link) (labels : List ℕ) (offers : List Offer) → All (OffersLeaving links labels) offers → list_all (is_offer links labels) offers ≡ true
offers_are links labels [] all = refl
offers_are links labels (o ∷ offers) all =
    let here : is_offer links labels o ≡ true = offer_is links labels o (all 0 o (omega arith)) in
    let rest : list_all (is_offer links labels) offers ≡ true = offers_are links labels offers (λ i d lt. all (suc i) d (omega (arith, lt))) in
    rw (here, rest) refl

pub light_offers_are_taken : LightOffersAreTaken
light_offers_are_taken p s a missing round shard light =
    let offers = offers_are (links_at p.cut s) p.labels a.offers (light_offers_leave (links_at p.cut s) p.labels a.offers light) in
    rw (eq-eqb a.round p.round round, eq-eqb a.shard s shard, missing, offers) refl
