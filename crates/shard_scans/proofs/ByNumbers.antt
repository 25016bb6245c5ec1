-- A pass over links by the numbers of their labels instead of the labels.
--
-- The numbers of the labels of all vertices are a coarser labelling: vertices of one label have one number. A link
-- whose endpoints have marked labels leaves a number exactly if it leaves that number's label, since marked labels have
-- numbers of their own. So the best indices by numbers are those by labels. Numbers ascend with the labels, and so do
-- the offers.
use Rattle.std.proofs.Common.{take_all, ◌≡◌, ◌≢◌, ℕ, ◌+◌, ◌-◌, ◌<◌, ◌≤◌, ◌^◌, ◌⊎◌, List, ◌++◌, length, get_or, take, drop, map, Contains, refl, sym, ap, ◌∙◌, subst, inl, inr, arith}
use Rattle.std.proofs.Math.Seq.{take-append_seam}
use Rattle.std.proofs.lemmas.List.{get_or-map, length-map, length-take, drop_more, drop_all, get_or_at, append-nil}
use Rattle.std.proofs.lemmas.List.Elements.{Contains-get_or}
use Rattle.links.specs.declared.links.Link.{Link}
use Rattle.links.specs.Link.{EndsUpTo}
use Rattle.links.specs.Labels.{label_of, Coarsens}
use Rattle.links.specs.Offers.{Offer}
use Rattle.round_theory.specs.Labelling.{IsVertex}
use Rattle.round_theory.specs.Offers.{Leaves, IsLightOffer, AreLightOffers}
use Rattle.round_theory.proofs.Leaving.{leaves_apart, leaves_end}
use Rattle.shard_scans.specs.declared.scanning.Best.{Best}
use Rattle.shard_scans.specs.Scanning.{no_best, IsBestPlace, best_of, AreBestUpTo}
use Rattle.shard_scans.specs.Tables.{IsKept, ArePlacesBelow}
use Rattle.shard_scans.specs.Numbers.{IsMarked, number_of, numbered_labels, HasItsName, offered, HasNumbers, AreNumbered}
use Rattle.shard_scans.proofs.BestSoFar.{best_is_light, none_leaves}
use Rattle.shard_scans.proofs.Scans.{kept_place, kept_none, end_at}
use Rattle.shard_scans.proofs.Tables.{same_place}
use Rattle.shard_scans.proofs.Numbering.{numbers_apart, ascends_back}

-- a slice that is written back replaces the whole list
pub written_back : {X : Type 0} (n : ℕ) (xs ys : List X) → length ys ≡ n → take n (ys ++ drop (length ys) xs) ≡ ys
written_back n xs ys size = subst (λ k. take k (ys ++ drop (length ys) xs) ≡ ys) size (take-append_seam ys (drop (length ys) xs))

-- a list whose first elements are overwritten by `f`
module _ {X : Type 0} (f : X → X) (xs ys : List X) (i : ℕ) (so_far : ys ≡ map f (take i xs) ++ drop i xs) where
  pub next_stands : (d : X) → i < length xs → get_or ys i d ≡ get_or xs i d
  next_stands d lt = search (arith, drop_more, get_or_at, length-map, length-take)

  pub all_over : length xs ≤ i → ys ≡ map f xs
  all_over le = so_far ∙ ap (λ t. map f t ++ drop i xs) (take_all i xs le) ∙ ap (λ t. map f xs ++ t) (drop_all i xs le) ∙ append-nil (map f xs)

module _ (marks labels : List ℕ) where
  -- the number of a vertex is that of its label
  pub own_label : (v : ℕ) → IsVertex (length labels) v → label_of (numbered_labels marks labels) v ≡ number_of marks (label_of labels v)
  own_label v vertex = get_or-map (number_of marks) labels (v - 1) 0 0 (omega (arith, vertex))

  pub own_coarsens : Coarsens (numbered_labels marks labels) labels
  own_coarsens = search (arith, length-map, own_label)

  module _ (names : List ℕ) (l : Link) (ends : l.high ≤ length labels) (has : (label_of labels l.low ≡ label_of labels l.high) ⊎ HasNumbers labels marks names l) where
    own_low : label_of (numbered_labels marks labels) l.low ≡ number_of marks (label_of labels l.low)
    own_low = own_label l.low (l.from_one, omega (arith, l.ascending, ends))

    own_high : label_of (numbered_labels marks labels) l.high ≡ number_of marks (label_of labels l.high)
    own_high = own_label l.high (omega (arith, l.from_one, l.ascending), ends)

    -- the link leaves the number of a label that it leaves
    pub leaves_own : (c : ℕ) → IsMarked marks c → Leaves labels l c → Leaves (numbered_labels marks labels) l (number_of marks c)
    leaves_own a1 a2 a3 = search (arith, own_low, numbers_apart, own_high)

    -- a number that it leaves is that of a label that it leaves
    pub leaves_back : (p : ℕ) → Leaves (numbered_labels marks labels) l p → (c : ℕ) × IsMarked marks c × HasItsName marks names c × (number_of marks c ≡ p) × Leaves labels l c
    leaves_back a1 a2 = search (arith, own_high, own_low)

    pub leaves_again : (c : ℕ) → IsMarked marks c → Leaves (numbered_labels marks labels) l (number_of marks c) → Leaves labels l c
    leaves_again c c_is leaves =
        let (d, d_is, named, same, out) = leaves_back (number_of marks c) leaves in
        subst (Leaves labels l) (numbers_apart marks d c d_is c_is same) out

module _ (links : List Link) (labels marks names : List ℕ) (ends : EndsUpTo (length labels) links) (has : AreNumbered links labels marks names) where
  -- the best index for a number is that for its label
  pub best_from_own : (c place : ℕ) → IsMarked marks c → IsBestPlace links (numbered_labels marks labels) 0 (length links) (number_of marks c) place → IsBestPlace links labels 0 (length links) c place
  best_from_own c place c_is best = record {
    link = best.link;
    here = best.here;
    from_start = best.from_start;
    before_end = best.before_end;
    in_list = best.in_list;
    leaves = leaves_again marks labels names best.link (end_at (length labels) links place best.link ends best.in_list best.here) (has place best.link best.in_list best.here) c c_is best.leaves;
    first = λ q m from_start before_end in_list read leaves.
        best.first q m from_start before_end in_list read (leaves_own marks labels names m (end_at (length labels) links q m ends in_list read) (has q m in_list read) c c_is leaves);
  }

  module _ (few : length links ≤ 2 ^ 24) (within : (c : ℕ) → IsMarked marks c → number_of marks c ≤ length names) (table : List Best)
      (best : AreBestUpTo (length names) links (numbered_labels marks labels) 0 (length links) table) where
    -- if an index is stored for a number, it is the best one for the label of the number
    kept_label : (p place : ℕ) → p < length table + 1 → IsKept table p place
        → (c : ℕ) × IsMarked marks c × HasItsName marks names c × (number_of marks c ≡ p) × IsBestPlace links labels 0 (length links) c place
    kept_label p place lt kept =
        let own = numbered_labels marks labels in
        let vertex : IsVertex (length names) p = (kept.from_one, omega (arith, lt, best.each_vertex)) in
        let b = kept_place links own 0 (length links) p (best_of table p) (best.best p vertex) (λ none. kept.some (sym kept.here ∙ none)) in
        let at = subst (IsBestPlace links own 0 (length links) p) kept.here b in
        let (c, c_is, named, number, leaves) =
        leaves_back marks labels names at.link (end_at (length labels) links place at.link ends at.in_list at.here) (has place at.link at.in_list at.here) p at.leaves in
        (c, c_is, named, number, best_from_own c place c_is (subst (λ k. IsBestPlace links own 0 (length links) k place) (sym number) at))

    left_has_number : (l : Link) (place c : ℕ) → place < length links → l ≡ get_or links place l → Leaves labels l c → IsMarked marks c × HasItsName marks names c
    left_has_number l place c in_list read leaves = search (arith, leaves_apart, leaves_end)

    -- a light offer is stored for the number of its label
    light_kept : (c place : ℕ) → IsLightOffer links labels c place → ((number_of marks c < length table + 1) × IsKept table (number_of marks c) place) × HasItsName marks names c
    light_kept c place (l, least, at) =
        let own = numbered_labels marks labels in
        let (c_is, named) = left_has_number l place c at.within (sym at.here) least.leaves in
        let p = number_of marks c in
        let vertex : IsVertex (length names) p = (omega arith, within c c_is) in
        let keeps = best.best p vertex in
        let leaves = leaves_own marks labels names l (end_at (length labels) links place l ends at.within (sym at.here)) (has place l at.within (sym at.here)) c c_is least.leaves in
        let some : (best_of table p).place ≢ no_best.place = λ none. none_leaves links own p (kept_none links own 0 (length links) p (best_of table p) keeps few none) l least.member leaves in
        let found = best_from_own c (best_of table p).place c_is (kept_place links own 0 (length links) p (best_of table p) keeps some) in
        let same = same_place links labels c (best_of table p).place place found (l, least, at) in
        ((omega (arith, vertex.1, best.each_vertex), record { from_one = omega arith; here = same; some = λ none. some (same ∙ none) }), named)

    module _ (pairs : List Offer) (places : ArePlacesBelow table (length table + 1) pairs) where
      -- the label and the index of each pair
      label_at : (k : ℕ) (d : Offer) → k < length pairs → (c : ℕ) × IsMarked marks c × (number_of marks c ≡ (get_or pairs k d).0)
          × IsBestPlace links labels 0 (length links) c (get_or pairs k d).1 × (get_or names ((get_or pairs k d).0 - 1) 0 ≡ c)
      label_at k d lt =
          let e = get_or pairs k d in
          let (below, kept) = (places.exact e.0 e.1).0 (Contains-get_or pairs k d lt) in
          let (c, c_is, named, number, b) = kept_label e.0 e.1 below kept in
          (c, c_is, number, b, ap (λ n. get_or names (n - 1) 0) (sym number) ∙ named)

      pub has_name : (k : ℕ) (d : Offer) → k < length pairs → IsVertex (length names) (get_or pairs k d).0
      has_name k d lt = let (c, c_is, number, b, name) = label_at k d lt in (omega (arith, number), omega (arith, number, within c c_is))

      -- so the pairs, by the names of the numbers, are the light offers
      light_by_numbers : AreLightOffers links labels (map (offered names) pairs)
      light_by_numbers = record { ascending = ascending; exact = λ c place. (to c place, back c place) }
        where
          ascending : (i j : ℕ) (d : Offer) → i < j → j < length (map (offered names) pairs) → (get_or (map (offered names) pairs) i d).0 < (get_or (map (offered names) pairs) j d).0
          ascending i j d lt in_range =
              let at_j : j < length pairs = omega (arith, in_range, length-map pairs (offered names)) in
              let at_i : i < length pairs = omega (arith, lt, at_j) in
              let i_is : (get_or (map (offered names) pairs) i d).0 ≡ get_or names ((get_or pairs i d).0 - 1) 0 = ap (λ (o : Offer). o.0) (get_or-map (offered names) pairs i d d at_i) in
              let j_is : (get_or (map (offered names) pairs) j d).0 ≡ get_or names ((get_or pairs j d).0 - 1) 0 = ap (λ (o : Offer). o.0) (get_or-map (offered names) pairs j d d at_j) in
              let (a, a_is, a_number, a_best, a_name) = label_at i d at_i in
              let (b, b_is, b_number, b_best, b_name) = label_at j d at_j in
              let less : a < b = ascends_back marks a b a_is b_is (omega (arith, a_number, b_number, places.ascending i j d lt at_j)) in
              omega (arith, i_is, j_is, a_name, b_name, less)

          to : (c place : ℕ) → Contains (map (offered names) pairs) (c, place) → IsLightOffer links labels c place
          to c place (k, lt, here) =
              let d : Offer = (c, place) in
              let at_k : k < length pairs = omega (arith, lt, length-map pairs (offered names)) in
              let is : offered names (get_or pairs k d) ≡ d = sym (get_or-map (offered names) pairs k d d at_k) ∙ here in
              let (a, a_is, number, best, name) = label_at k d at_k in
              let label : a ≡ c = sym name ∙ ap (λ (o : Offer). o.0) is in
              let at : (get_or pairs k d).1 ≡ place = ap (λ (o : Offer). o.1) is in
              best_is_light links labels c place (subst (IsBestPlace links labels 0 (length links) c) at (subst (λ n. IsBestPlace links labels 0 (length links) n (get_or pairs k d).1) label best))

          back : (c place : ℕ) → IsLightOffer links labels c place → Contains (map (offered names) pairs) (c, place)
          back c place light =
              let (kept, named) = light_kept c place light in
              let (k, lt, here) = (places.exact (number_of marks c) place).1 kept in
              let x : Offer = (number_of marks c, place) in
              let there : Contains (map (offered names) pairs) (offered names x) =
              (k, omega (arith, lt, length-map pairs (offered names)), get_or-map (offered names) pairs k x (offered names x) lt ∙ ap (offered names) here) in
              subst (λ (o : Offer). Contains (map (offered names) pairs) o) (λ j. (named j, place)) there

      -- and they still are after they are written back over the pairs
      pub written_light : (n : ℕ) (read written : List Offer) → length written ≡ n → read ≡ pairs
          → written ≡ map (offered names) read → AreLightOffers links labels (take n (written ++ drop (length written) pairs))
      written_light n read written size read_is written_is = search (arith, written_back, light_by_numbers)
