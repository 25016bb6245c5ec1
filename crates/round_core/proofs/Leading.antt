-- Where picks lead the roots: each to a root to which it is connected and whose pick is less, or to one that stays.
use Rattle.std.proofs.Common.{◌≡◌, ◌≢◌, ℕ, ◌+◌, ◌-◌, ◌*◌, ◌<◌, ◌≤◌, ◌^◌, ◌⊎◌, min, List, [], ◌∷◌, length, get_or, Contains}
use Rattle.std.proofs.Common.{Some, None, refl, sym, ap, ◌∙◌, subst, inl, inr, ◌↔◌, Bool, true, false, not, ltb, ◌&&◌, ◌||◌, arith}
use Rattle.std.specs.Prelude.{Option}
use Rattle.std.proofs.lemmas.Bool.{cases_lt, ltb-true, ltb-false}
use Rattle.links.specs.declared.links.Link.{Link}
use Rattle.links.specs.Link.{IsBelow}
use Rattle.links.specs.Labels.{label_of, AreLabels}
use Rattle.links.proofs.Keys.{trichotomy}
use Rattle.round_theory.specs.Labelling.{IsVertex, JoinsOver}
use Rattle.round_theory.specs.LinkSet.{LinkSet}
use Rattle.round_theory.specs.Offers.{Leaves, IsLeastLeaving, NoneLeaves}
use Rattle.round_theory.proofs.Leaving.{leaves_both_ends, leaves_apart}
use Rattle.round_core.specs.Picks.{pick_of, Picked, IsPickOf, ArePicks}
use Rattle.round_core.specs.Roots.{IsRoot, AreRoots, HasEndLabels, IsLed, Gives, AreParents, Descend}
use Rattle.round_core.specs.Solver.{IsFirstPickedAt}
use Rattle.round_core.proofs.HookWalks.{over_same}
use Rattle.round_core.proofs.PickNumbers.{number_of, has_number, below_is_less}
use Rattle.round_core.proofs.Picking.{place_of, picked_there, least_at, least_end, first_at, pick_dec}

-- a root's rank is the number of its pick's key, and of two equal ones its own
rank_of_pick : Option Link → ℕ
rank_of_pick None = 0
rank_of_pick (Some l) = number_of l

pub rank_of : List (Option Link) → ℕ → ℕ
rank_of picks c = rank_of_pick (pick_of picks c) * 2 ^ 32 + c

rank_below : (l m : Link) → IsBelow l m → rank_of_pick (Some l) < rank_of_pick (Some m)
unfolding rank_of_pick
rank_below l m below = below_is_less l m (number_of l) (number_of m) (has_number l) (has_number m) below

-- the other endpoint of a link that leaves label `c`
other_end : (labels : List ℕ) (l : Link) (c : ℕ) → Leaves labels l c → (d : ℕ) × HasEndLabels labels l c d
other_end labels l c (inl (low, other)) = (label_of labels l.high, inl (low, refl))
other_end labels l c (inr (other, high)) = (label_of labels l.low, inr (refl, high))

pub end_root : (labels : List ℕ) → AreLabels labels → (v : ℕ) → IsVertex (length labels) v → IsRoot labels (label_of labels v)
end_root labels are v vertex = search arith

pub low_vertex : (labels : List ℕ) (l : Link) → l.high ≤ length labels → IsVertex (length labels) l.low
low_vertex labels l end = (l.from_one, omega (arith, l.ascending, end))

pub high_vertex : (labels : List ℕ) (l : Link) → l.high ≤ length labels → IsVertex (length labels) l.high
high_vertex labels l end = (omega (arith, l.from_one, l.ascending), end)

pub ends_root : (labels : List ℕ) (l : Link) (c d : ℕ) → AreLabels labels → l.high ≤ length labels → HasEndLabels labels l c d → IsRoot labels c × IsRoot labels d
ends_root labels l c d are end (inl (low, high)) = search (arith, end_root, low_vertex, high_vertex)
ends_root labels l c d are end (inr (low, high)) = search (arith, end_root, high_vertex, low_vertex)

turned : (labels : List ℕ) (l : Link) (c d : ℕ) → HasEndLabels labels l c d → HasEndLabels labels l d c
turned labels l c d (inl ends) = inr ends
turned labels l c d (inr ends) = inl ends

-- a picked link connects the labels of its endpoints
joins_ends : (labels : List ℕ) (picks : List (Option Link)) (l : Link) (c d : ℕ) → Picked picks l → IsRoot labels c → IsRoot labels d → HasEndLabels labels l c d → JoinsOver labels (Picked picks) c d
joins_ends labels picks l c d picked c_root d_root (inl (low, high)) = (l ∷ [], (picked, tt), inl (c_root.1 ∙ sym low, high ∙ sym d_root.1))
joins_ends labels picks l c d picked c_root d_root (inr (low, high)) = (l ∷ [], (picked, tt), inr (c_root.1 ∙ sym high, low ∙ sym d_root.1))

same_other : (labels : List ℕ) (l : Link) (c d e : ℕ) → HasEndLabels labels l c d → HasEndLabels labels l c e → d ≡ e
same_other labels l c d e (inl (low, high)) (inl (low', high')) = sym high ∙ high'
same_other labels l c d e (inl (low, high)) (inr (low', high')) = sym high ∙ high' ∙ sym low ∙ low'
same_other labels l c d e (inr (low, high)) (inl (low', high')) = sym low ∙ low' ∙ sym high ∙ high'
same_other labels l c d e (inr (low, high)) (inr (low', high')) = sym low ∙ low'

-- where its pick leads a label
led_to : (labels : List ℕ) (picks : List (Option Link)) (c d p : ℕ) (l : Link) → pick_of picks c ≡ Some l
    → HasEndLabels labels l c d → (pick_of picks d ≡ Some l → p ≡ min c d) → (pick_of picks d ≢ Some l → p ≡ d) → IsLed labels picks c p
led_to labels picks c d p l here ends lesser apart = search (arith, min, same_other)

-- what is known of a root that has a pick
record HasPick (labels : List ℕ) (S : LinkSet) (picks : List (Option Link)) (c : ℕ) (l : Link) : Type 0 where
  least : IsLeastLeaving labels S c l
  picked : Picked picks l
  other : ℕ
  ends : HasEndLabels labels l c other
  root : IsRoot labels c
  other_root : IsRoot labels other
  leaves_other : Leaves labels l other

-- a link whose endpoints have different labels leaves the other one too
leaves_both : (labels : List ℕ) (l : Link) (c d : ℕ) → Leaves labels l c → HasEndLabels labels l c d → Leaves labels l d
leaves_both labels l c d leaves ends = search (arith, leaves_both_ends, leaves_apart)

module _ (labels : List ℕ) (S : LinkSet) (picks : List (Option Link)) (are_labels : AreLabels labels) (are : ArePicks labels S picks) where
  pub picked_at : (c : ℕ) (l : Link) → pick_of picks c ≡ Some l → Picked picks l
  picked_at c l here = picked_there picks (c - 1) l here

  has_pick : (c : ℕ) (l : Link) → IsVertex (length labels) c → pick_of picks c ≡ Some l → HasPick labels S picks c l
  has_pick c l vertex here =
      let least : IsLeastLeaving labels S c l = subst (IsPickOf labels S c) here (are.least c vertex) in
      let picked = picked_at c l here in
      let (d, ends) = other_end labels l c least.leaves in
      let (root, other_root) = ends_root labels l c d are_labels (are.ends l picked) ends in
      record { least = least; picked = picked; other = d; ends = ends; root = root; other_root = other_root; leaves_other = leaves_both labels l c d least.leaves ends }

  -- each picked link is the pick of a root
  root_of : (l : Link) → Picked picks l → (c : ℕ) × (pick_of picks c ≡ Some l) × HasPick labels S picks c l
  root_of l picked =
      let (i, here) = place_of picks l picked in
      let at = least_at labels S picks i l are here in
      let back : i + 1 - 1 ≡ i = omega arith in
      let pick : pick_of picks (i + 1) ≡ Some l = ap (λ k. get_or picks k None) back ∙ here in
      (i + 1, pick, has_pick (i + 1) l at.vertex pick)

  -- so an index that has a pick is that of a root
  pub root_at : (i : ℕ) (l : Link) → get_or picks i None ≡ Some l → IsRoot labels (i + 1)
  root_at i l here =
      let at = least_at labels S picks i l are here in
      let back : i + 1 - 1 ≡ i = omega arith in
      (has_pick (i + 1) l at.vertex (ap (λ k. get_or picks k None) back ∙ here)).root

  -- of the labels of a picked link's endpoints, the lesser takes it, or the only one that picks it
  module _ (c d : ℕ) (l : Link) (vertex : IsVertex (length labels) c) (here : pick_of picks c ≡ Some l) (ends : HasEndLabels labels l c d) where
    least_is : (low high : ℕ) → ((low ≡ c) × (high ≡ d)) ⊎ ((low ≡ d) × (high ≡ c)) → min low high ≡ min c d
    least_is low high (inl (is, is')) = omega (arith, is, is')
    least_is low high (inr (is, is')) = omega (arith, is, is')

    least_place : least_end labels l ≡ min c d - 1
    least_place = ap (λ m. m - 1) (least_is (label_of labels l.low) (label_of labels l.high) ends)

    first_here : (pick_of picks d ≢ Some l) ⊎ (c < d) → IsFirstPickedAt picks l (c - 1)
    first_here takes = first_at labels S picks (c - 1) l are here (test takes)
      where
        place : c ≤ d → least_end labels l ≡ c - 1
        place le = let at = least_place in omega (arith, at, le)

        other : d < c → least_end labels l ≡ d - 1
        other lt = let at = least_place in omega (arith, at, lt)

        test : (pick_of picks d ≢ Some l) ⊎ (c < d) → (least_end labels l ≡ c - 1) ⊎ (get_or picks (least_end labels l) None ≢ Some l)
        test (inr lt) = inl (place (omega (arith, lt)))
        test (inl not_there) = search (arith, cases_lt, other, place)

    apart : c ≢ d
    apart same = search (arith, leaves_apart, has_pick)

    not_first_here : 1 ≤ d → pick_of picks d ≡ Some l → d ≤ c → ¬ (IsFirstPickedAt picks l (c - 1))
    not_first_here one there le first = search (arith, apart, cases_lt)

    takes_where : (takes : Bool) → 1 ≤ d → (takes ≡ true → (pick_of picks d ≢ Some l) ⊎ (c < d)) → (takes ≡ false → (pick_of picks d ≡ Some l) × (d ≤ c)) → Gives picks c takes l
    takes_where takes one if_so if_not = search (arith, first_here, not_first_here)

    -- whether the labels have the same pick decides which takes it
    pub is_taker : (paired : Bool) → 1 ≤ d → (paired ≡ true) ↔ (pick_of picks c ≡ pick_of picks d) → Gives picks c (not paired || ltb c d) l
    is_taker true one same = takes_where (ltb c d) one (λ tested. inr (ltb-true c d tested)) (λ failed. (sym (same.0 refl) ∙ here, ltb-false c d failed))
    is_taker false one same = takes_where true one (λ _. inl (λ there. let wrong : false ≡ true = same.1 (here ∙ sym there) in absurd (cc))) (λ wrong. absurd (cc))

    -- and where they go
    pub is_led : (paired : Bool) (p : ℕ) → (paired ≡ true) ↔ (pick_of picks c ≡ pick_of picks d)
        → (((paired && ltb c d) ≡ true) × (p ≡ c)) ⊎ (((paired && ltb c d) ≡ false) × (p ≡ d)) → IsLed labels picks c p
    is_led true p same cases = led_to labels picks c d p l here ends (λ _. lesser cases) (λ not. absurd (not (sym (same.0 refl) ∙ here)))
      where
        lesser : (((true && ltb c d) ≡ true) × (p ≡ c)) ⊎ (((true && ltb c d) ≡ false) × (p ≡ d)) → p ≡ min c d
        lesser (inl (tested, is)) = let lt = ltb-true c d tested in omega (arith, lt, is)
        lesser (inr (failed, is)) = let ge = ltb-false c d failed in omega (arith, ge, is)
    is_led false p same (inl (wrong, is)) = absurd (cc)
    is_led false p same (inr (failed, is)) = led_to labels picks c d p l here ends (λ there. let wrong : false ≡ true = same.1 (here ∙ sym there) in absurd (cc)) (λ _. is)

  module _ (roots parents : List ℕ) (are_roots : AreRoots labels roots) (led : (c : ℕ) → Contains roots c → IsLed labels picks c (get_or parents c 0)) where
    abbrev up : ℕ → ℕ
    up c = get_or parents c 0

    lead : (c : ℕ) → IsRoot labels c → IsLed labels picks c (up c)
    lead c root = led c ((are_roots.exact c).1 root)

    -- if two labels pick the same link, both go to the lesser
    both_to : (c : ℕ) (l : Link) → (has : HasPick labels S picks c l) → pick_of picks c ≡ Some l → pick_of picks has.other ≡ Some l → (up c ≡ min c has.other) × (up has.other ≡ min c has.other)
    both_to c l has here there =
        let to : up c ≡ min c has.other = (lead c has.root).to_lesser l has.other here has.ends there in
        let back : up has.other ≡ min has.other c = (lead has.other has.other_root).to_lesser l c there (turned labels l c has.other has.ends) here in
        (to, omega (arith, back))

    one_of : (c d m : ℕ) → m ≡ min c d → (m ≡ c) ⊎ (m ≡ d)
    one_of c d m is = elim (cases_lt c d) [ inl lt ↦ inl (omega (arith, lt, is)) | inr ge ↦ inr (omega (arith, ge, is)) ]

    joined_up : (c : ℕ) → Contains roots c → JoinsOver labels (Picked picks) c (up c)
    joined_up c c_in = by_pick (pick_of picks c) refl
      where
        root : IsRoot labels c
        root = (are_roots.exact c).0 c_in

        stays : up c ≡ c → JoinsOver labels (Picked picks) c (up c)
        stays is = over_same labels (Picked picks) c (up c) (ap (label_of labels) (sym is))

        goes : (l : Link) → (has : HasPick labels S picks c l) → up c ≡ has.other → JoinsOver labels (Picked picks) c (up c)
        goes l has is = subst (JoinsOver labels (Picked picks) c) (sym is) (joins_ends labels picks l c has.other has.picked has.root has.other_root has.ends)

        by_pick : (pick : Option Link) → pick_of picks c ≡ pick → JoinsOver labels (Picked picks) c (up c)
        by_pick None is = stays ((lead c root).stays is)
        by_pick (Some l) is =
            let has = has_pick c l root.0 is in
            elim (pick_dec (pick_of picks has.other) l) [
              | inl there ↦ elim (one_of c has.other (up c) (both_to c l has is there).0) [ inl here ↦ stays here | inr other ↦ goes l has other ]
              | inr not_there ↦ goes l has ((lead c root).to_other l has.other is has.ends not_there)
            ]

    -- a value that is the same along parents is the same at both endpoints of a pick
    together_up : (f : ℕ → ℕ) → ((c : ℕ) → Contains roots c → f c ≡ f (up c)) → (l : Link) → Picked picks l → f (label_of labels l.low) ≡ f (label_of labels l.high)
    together_up f along l picked = at_ends has.ends same
      where
        c : ℕ
        c = (root_of l picked).0

        here : pick_of picks c ≡ Some l
        here = (root_of l picked).1

        has : HasPick labels S picks c l
        has = (root_of l picked).2

        f_up : (d : ℕ) → IsRoot labels d → f d ≡ f (up d)
        f_up d root = along d ((are_roots.exact d).1 root)

        same : f c ≡ f has.other
        same = elim (pick_dec (pick_of picks has.other) l) [
          | inl there ↦
              let both = both_to c l has here there in
              f_up c has.root ∙ ap f (both.0 ∙ sym both.1) ∙ sym (f_up has.other has.other_root)
          | inr not_there ↦ f_up c has.root ∙ ap f ((lead c has.root).to_other l has.other here has.ends not_there)
        ]

        at_ends : HasEndLabels labels l c has.other → f c ≡ f has.other → f (label_of labels l.low) ≡ f (label_of labels l.high)
        at_ends (inl (low, high)) e = ap f low ∙ e ∙ ap f (sym high)
        at_ends (inr (low, high)) e = ap f low ∙ sym e ∙ ap f (sym high)

    pub are_parents : AreParents labels roots picks parents
    are_parents = record { joined = joined_up; together = together_up }

    -- the other label's pick is less, if it isn't the same
    lower : (c : ℕ) (l : Link) → (has : HasPick labels S picks c l) → pick_of picks c ≡ Some l → pick_of picks has.other ≢ Some l → (pick : Option Link) → pick_of picks has.other ≡ pick
        → rank_of_pick (pick_of picks has.other) < rank_of_pick (pick_of picks c)
    lower c l has here not_there None there = search arith
    lower c l has here not_there (Some m) there =
        let least : IsLeastLeaving labels S has.other m = subst (IsPickOf labels S has.other) there (are.least has.other has.other_root.0) in
        let not_below : ¬ (IsBelow l m) = least.least l has.least.member has.leaves_other in
        let below : IsBelow m l = elim (trichotomy m l) [
          | inl below ↦ below
          | inr rest ↦ elim rest [ inl same ↦ absurd (not_there (there ∙ ap Some same)) | inr above ↦ absurd (not_below above) ]
        ] in
        subst (λ (x : Option Link). rank_of_pick x < rank_of_pick (pick_of picks c)) (sym there)
        (subst (λ (x : Option Link). rank_of_pick (Some m) < rank_of_pick x) (sym here) (rank_below m l below))

    -- So a root goes to one whose pick is less; or the greater of two with the same pick goes to the lesser; or it
    -- stays.
    pub descend_at_first : Descend roots (rank_of picks) parents
    unfolding rank_of
    descend_at_first c c_in = by_pick (pick_of picks c) refl
      where
        root : IsRoot labels c
        root = (are_roots.exact c).0 c_in

        goes : (d : ℕ) → up c ≡ d → rank_of picks d < rank_of picks c → (up c ≡ c) ⊎ (rank_of picks (up c) < rank_of picks c)
        goes d is less = inr (subst (λ p. rank_of picks p < rank_of picks c) (sym is) less)

        by_pick : (pick : Option Link) → pick_of picks c ≡ pick → (up c ≡ c) ⊎ (rank_of picks (up c) < rank_of picks c)
        by_pick None is = inl ((lead c root).stays is)
        by_pick (Some l) is =
            let has = has_pick c l root.0 is in
            elim (pick_dec (pick_of picks has.other) l) [
              | inl there ↦
                  let to : up c ≡ min c has.other = (both_to c l has is there).0 in
                  let same : rank_of_pick (pick_of picks has.other) ≡ rank_of_pick (pick_of picks c) = ap rank_of_pick (there ∙ sym is) in
                  elim (cases_lt has.other c) [
                    | inl less ↦ goes has.other (omega (arith, to, less)) (omega (arith, same, less))
                    | inr ge ↦ inl (omega (arith, to, ge))
                  ]
              | inr not_there ↦
                  let less = lower c l has is not_there (pick_of picks has.other) refl in
                  goes has.other ((lead c root).to_other l has.other is has.ends not_there) (omega (arith, less, has.other_root.0.1, are_labels.few_vertices))
            ]
