-- The light offers of a shard are lawful in an answer.
use Rattle.std.proofs.Common.{◌≡◌, ℕ, ◌*◌, ◌<◌, ◌≤◌, List, ◌++◌, length, map, get_or, Contains, sym, ap, ◌∙◌, subst, inl, inr, arith, length-append}
use Rattle.std.specs.Prelude.{All, ◌^◌}
use Rattle.std.specs.List.{IsDistinct}
use Rattle.std.proofs.Math.Dec.{eqb}
use Rattle.std.proofs.lemmas.List.{get_or-map, length-map}
use Rattle.std.proofs.lemmas.List.Elements.{Contains-get_or, Contains-append_left, Contains-append_right}
use Rattle.std.proofs.lemmas.Map.Keys.{IsDistinct-from_apart}
use Rattle.std.proofs.lemmas.Map.Views.{Contains-from_any, list_any-from_Contains}
use Rattle.std.proofs.lemmas.Map.Made.{length-le_from_is_member}
use Rattle.links.specs.declared.links.Link.{Link}
use Rattle.links.specs.Link.{EndsUpTo}
use Rattle.links.specs.Labels.{label_of, AreLabels}
use Rattle.links.specs.Offers.{Offer}
use Rattle.round_theory.specs.Offers.{IsLightOffer, AreLightOffers}
use Rattle.round_theory.proofs.Lists.{set_ends}
use Rattle.round_theory.proofs.Leaving.{leaves_end}
use Rattle.round_theory.proofs.OfferSteps.{left_label_is_vertex}
use Rattle.links.specs.AnswerValue.{AnswerValue}
use Rattle.frames.specs.Lawful.{IsU32, IsAnswer}
use Rattle.std.specs.Cmp.{IsEquivalence}
use Rattle.std.proofs.lemmas.Bool.{eqb-true, eq-eqb, ne_eqb}
use Rattle.std.proofs.lemmas.Bool.Decides.{eqb_tells}

numbers_apart : IsEquivalence eqb
numbers_apart = search (arith, eq-eqb, eqb_tells, ne_eqb, eqb, eqb-true)

Contains-map : {X Y : Type 0} (f : X → Y) (xs : List X) (x : X) → Contains xs x → Contains (map f xs) (f x)
Contains-map f xs x (k, lt, here) = (k, omega (arith, lt, length-map xs f), get_or-map f xs k x (f x) lt ∙ ap f here)

module _ (links : List Link) (labels : List ℕ) (offers : List Offer) (are : AreLightOffers links labels offers) where
  light_at : (o : Offer) → Contains offers o → IsLightOffer links labels o.0 o.1
  light_at o o_in = (are.exact o.0 o.1).0 o_in

  abbrev components : List ℕ
  components = map (λ (o : Offer). o.0) offers

  components_differ : IsDistinct eqb components
  components_differ = IsDistinct-from_apart eqb components (λ i j d lt in_range.
      let e : Offer = (d, 0) in
      let at_j : j < length offers = omega (arith, in_range, length-map offers (λ (o : Offer). o.0)) in
      let at_i : i < length offers = omega (arith, lt, at_j) in
      let i_is : get_or components i d ≡ (get_or offers i e).0 = get_or-map (λ (o : Offer). o.0) offers i e d at_i in
      let j_is : get_or components j d ≡ (get_or offers j e).0 = get_or-map (λ (o : Offer). o.0) offers j e d at_j in
      ne_eqb (get_or components i d) (get_or components j d) (λ same. omega (arith, same, i_is, j_is, are.ascending i j e lt at_j)))

  abbrev ends : List ℕ
  ends = map (λ (l : Link). label_of labels l.low) links ++ map (λ (l : Link). label_of labels l.high) links

  component_is_end : (c : ℕ) → Contains components c → Contains ends c
  component_is_end c (k, lt, here) =
      let e : Offer = (c, 0) in
      let at_k : k < length offers = omega (arith, lt, length-map offers (λ (o : Offer). o.0)) in
      let is : (get_or offers k e).0 ≡ c = sym (get_or-map (λ (o : Offer). o.0) offers k e c at_k) ∙ here in
      let (l, least, at) = light_at (get_or offers k e) (Contains-get_or offers k e at_k) in
      subst (Contains ends) is (elim (leaves_end labels l (get_or offers k e).0 least.leaves) [
        | inl low ↦ subst (Contains ends) (sym low) (Contains-append_left _ _ _ (Contains-map (λ (m : Link). label_of labels m.low) links l least.member))
        | inr high ↦ subst (Contains ends) (sym high) (Contains-append_right _ _ _ (Contains-map (λ (m : Link). label_of labels m.high) links l least.member))
      ])

  -- Each component is the label of an endpoint and has one offer, so there are at most two offers per link.
  pub few_offers : length offers ≤ 2 * length links
  few_offers =
      let most = length-le_from_is_member numbers_apart components ends components_differ
      (λ q has. list_any-from_Contains numbers_apart q ends (component_is_end q (Contains-from_any eqb-true q components has))) in
      omega (
        arith,
        most,
        length-map offers (λ (o : Offer). o.0),
        length-append (map (λ (l : Link). label_of labels l.low) links) (map (λ (l : Link). label_of labels l.high) links),
        length-map links (λ (l : Link). label_of labels l.low),
        length-map links (λ (l : Link). label_of labels l.high),
      )

  -- components are vertices, and indices are those of links
  pub offers_fit : length links ≤ 2 ^ 24 → AreLabels labels → EndsUpTo (length labels) links → All (λ o. IsU32 o.0 × IsU32 o.1) offers
  offers_fit few all up_to k d lt =
      let (l, least, at) = light_at (get_or offers k d) (Contains-get_or offers k d lt) in
      let vertex = left_label_is_vertex labels l (get_or offers k d).0 all (set_ends (length labels) links up_to l least.member) least.leaves in
      (omega (arith, vertex.1, all.few_vertices), omega (arith, at.within, few))

pub light_answer_is_lawful : (links : List Link) (labels : List ℕ) (answer : AnswerValue) → length links ≤ 2 ^ 24 → AreLabels labels → EndsUpTo (length labels) links
    → IsU32 answer.round → IsU32 answer.shard → AreLightOffers links labels answer.offers → IsAnswer answer
light_answer_is_lawful links labels answer few all up_to round shard are = search (arith, few_offers, offers_fit)
