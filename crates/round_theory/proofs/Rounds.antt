-- Borůvka's rounds take a part of the forest, and end with all of it after at most log2 n rounds.
use Rattle.std.proofs.Common.{◌≡◌, ◌≢◌, ℕ, zero, suc, ◌+◌, ◌-◌, ◌^◌, ◌<◌, ◌≤◌, max, ◌⊎◌, ◌↔◌, List, [], ◌∷◌, ◌++◌, length, get_or, Contains, sym, ap, ◌∙◌, subst, inl, inr, arith}
use Rattle.std.proofs.lemmas.Bool.{cases_eq, cases_lt}
use Rattle.std.proofs.lemmas.List.Elements.{Contains-append_cases, Contains-append_left, Contains-append_right}
use Rattle.std.proofs.Math.Nat.{pow-suc}
use Rattle.links.specs.declared.links.Link.{Link}
use Rattle.links.specs.Link.{EndsUpTo}
use Rattle.links.specs.Walk.{Joins}
use Rattle.links.specs.Forest.{IsForestLink}
use Rattle.links.proofs.Members.{contains_cases, contains_head, contains_tail, contains_none}
use Rattle.links.proofs.Walks.{Decided, dec_along, joins_link, joins_more, joins_alike}
use Rattle.round_theory.specs.LinkSet.{LinkSet, IsPartOf, SameLinks, Spans}
use Rattle.links.specs.Labels.{label_of}
use Rattle.round_theory.specs.Labelling.{IsVertex, IsLabelling}
use Rattle.round_theory.specs.Offers.{Leaves, IsLeastLeaving, IsPick}
use Rattle.round_theory.specs.Rounds.{AreRoundPicks, TakenAfter, IsMergingRounds}
use Rattle.round_theory.proofs.Lists.{set_ends}
use Rattle.round_theory.proofs.Labels.{list_joins_dec, least_below, labelling_exists, labelling_unique, one_label, low_vertex, high_vertex, ends_label, labelling_alike}
use Rattle.round_theory.proofs.Leaving.{leaves_apart, leaves_end, leaves_low, leaves_high, least_leaving, least_leaving_exists, least_leaving_unique, least_leaving_in_forest, spans_where_none_leaves}
use Rattle.links.proofs.ForestSpans.{spanning_part_is_forest}
use Rattle.round_theory.proofs.Counting.{size_of, size_one, two_sizes, sizes_add}

-- a set that has a list of its members
pub record Listed (S : LinkSet) : Type 0 where
  pub members : List Link
  pub same : SameLinks (Contains members) S

pub lt_pow : (n : ℕ) → n < 2 ^ n
lt_pow zero = omega arith
lt_pow (suc n) = omega (arith, lt_pow n, pow-suc 2 n)

-- the picks of a list for one label: at most one
record PicksFor (labels : List ℕ) (links : List Link) (c : ℕ) : Type 0 where
  picks : List Link
  within : (l : Link) → Contains picks l → IsPick labels (Contains links) l
  all : (l : Link) → IsLeastLeaving labels (Contains links) c l → Contains picks l

picks_for : (labels : List ℕ) (links : List Link) (c : ℕ) → PicksFor labels links c
picks_for labels links c = elim (least_leaving labels links c) [
  | inl found ↦ record {
    picks = found.0 ∷ [];
    within = λ l l_in. elim (contains_cases found.0 l [] l_in) [
      | inl is ↦ (c, subst (IsLeastLeaving labels (Contains links) c) (sym is) found.1)
      | inr none ↦ absurd (contains_none l none)
    ];
    all = λ l is. subst (λ k. Contains (found.0 ∷ []) k) (least_leaving_unique labels (Contains links) c found.0 l found.1 is) (contains_head found.0 []);
  }
  | inr none ↦ record { picks = []; within = λ l l_in. absurd (contains_none l l_in); all = λ l is. absurd (none l is.member is.leaves) }
]

-- the picks for the labels of the endpoints of some links
record PicksAt (labels : List ℕ) (links some : List Link) : Type 0 where
  picks : List Link
  within : (l : Link) → Contains picks l → IsPick labels (Contains links) l
  low : (k l : Link) → Contains some k → IsLeastLeaving labels (Contains links) (label_of labels k.low) l → Contains picks l
  high : (k l : Link) → Contains some k → IsLeastLeaving labels (Contains links) (label_of labels k.high) l → Contains picks l

picks_at : (labels : List ℕ) (links some : List Link) → PicksAt labels links some
picks_at labels links [] = record { picks = []; within = λ l l_in. absurd (contains_none l l_in); low = λ k l k_in. absurd (contains_none k k_in); high = λ k l k_in. absurd (contains_none k k_in) }
picks_at labels links (x ∷ some) = more (picks_for labels links (label_of labels x.low)) (picks_for labels links (label_of labels x.high)) (picks_at labels links some)
  where
    more : PicksFor labels links (label_of labels x.low) → PicksFor labels links (label_of labels x.high) → PicksAt labels links some → PicksAt labels links (x ∷ some)
    more a b rest = record {
      picks = a.picks ++ (b.picks ++ rest.picks);
      within = λ l l_in. elim (Contains-append_cases a.picks (b.picks ++ rest.picks) l l_in) [
        | inl in_a ↦ a.within l in_a
        | inr later ↦ elim (Contains-append_cases b.picks rest.picks l later) [ inl in_b ↦ b.within l in_b | inr in_rest ↦ rest.within l in_rest ]
      ];
      low = λ k l k_in is. elim (contains_cases x k some k_in) [
        | inl same ↦ Contains-append_left a.picks (b.picks ++ rest.picks) l (a.all l (subst (λ (y : Link). IsLeastLeaving labels (Contains links) (label_of labels y.low) l) same is))
        | inr in_some ↦ Contains-append_right a.picks (b.picks ++ rest.picks) l (Contains-append_right b.picks rest.picks l (rest.low k l in_some is))
      ];
      high = λ k l k_in is. elim (contains_cases x k some k_in) [
        | inl same ↦ Contains-append_right a.picks (b.picks ++ rest.picks) l
            (Contains-append_left b.picks rest.picks l (b.all l (subst (λ (y : Link). IsLeastLeaving labels (Contains links) (label_of labels y.high) l) same is)))
        | inr in_some ↦ Contains-append_right a.picks (b.picks ++ rest.picks) l (Contains-append_right b.picks rest.picks l (rest.high k l in_some is))
      ];
    }

-- The picks of a list are finitely many: a pick is picked for the label of one of its own endpoints.
pub picks_listed : (labels : List ℕ) (links : List Link) → Listed (IsPick labels (Contains links))
picks_listed labels links = record { members = had.picks; same = λ l. (had.within l, λ pick. all l pick.0 pick.1) }
  where
    had : PicksAt labels links links
    had = picks_at labels links links

    all : (l : Link) (c : ℕ) → IsLeastLeaving labels (Contains links) c l → Contains had.picks l
    all l c is = elim (leaves_end labels l c is.leaves) [
      | inl low ↦ had.low l l is.member (subst (λ x. IsLeastLeaving labels (Contains links) x l) low is)
      | inr high ↦ had.high l l is.member (subst (λ x. IsLeastLeaving labels (Contains links) x l) high is)
    ]

-- whether a set with a list of its members joins two vertices is decidable
pub listed_joins_dec : (S : LinkSet) → Listed S → (u v : ℕ) → Decided (Joins S u v)
listed_joins_dec S listed u v =
    let alike = joins_alike (Contains listed.members) S listed.same u v in
    dec_along alike.0 alike.1 (list_joins_dec listed.members u v)

module _ (n : ℕ) (links : List Link) where
  -- what is taken after each round has a list of its members
  pub taken_listed : (i : ℕ) → Listed (TakenAfter n links i)
  taken_listed zero = record { members = []; same = λ l. (contains_none l, λ none. absurd none) }
  taken_listed (suc i) = next (taken_listed i)
    where
      next : Listed (TakenAfter n links i) → Listed (TakenAfter n links (suc i))
      next before = record { members = before.members ++ picks.members; same = λ l. (to l, back l) }
        where
          by_labels : (labels : List ℕ) × IsLabelling n (TakenAfter n links i) labels
          by_labels = labelling_exists n (TakenAfter n links i) (listed_joins_dec (TakenAfter n links i) before)

          picks : Listed (IsPick by_labels.0 (Contains links))
          picks = picks_listed by_labels.0 links

          to : (l : Link) → Contains (before.members ++ picks.members) l → TakenAfter n links (suc i) l
          to l l_in = elim (Contains-append_cases before.members picks.members l l_in) [
            | inl old ↦ inl ((before.same l).0 old)
            | inr pick ↦ inr (by_labels.0, by_labels.1, (picks.same l).0 pick)
          ]

          back : (l : Link) → TakenAfter n links (suc i) l → Contains (before.members ++ picks.members) l
          back l (inl old) = Contains-append_left before.members picks.members l ((before.same l).1 old)
          back l (inr (labels, is, pick)) =
              let same : labels ≡ by_labels.0 = labelling_unique n (TakenAfter n links i) labels by_labels.0 is by_labels.1 in
              Contains-append_right before.members picks.members l ((picks.same l).1 (subst (λ x. IsPick x (Contains links) l) same pick))

  pub round_labelling : (i : ℕ) → (labels : List ℕ) × IsLabelling n (TakenAfter n links i) labels
  round_labelling i = labelling_exists n (TakenAfter n links i) (listed_joins_dec (TakenAfter n links i) (taken_listed i))

  -- each round's links are in the forest, by the cut property
  pub rounds_in_forest : (i : ℕ) → IsPartOf (TakenAfter n links i) (IsForestLink links)
  rounds_in_forest zero l none = absurd none
  rounds_in_forest (suc i) l (inl old) = rounds_in_forest i l old
  rounds_in_forest (suc i) l (inr (labels, is, (c, least))) = least_leaving_in_forest links labels c l least

  -- what is taken stays taken
  pub rounds_keep : (i j : ℕ) → IsPartOf (TakenAfter n links i) (TakenAfter n links (j + i))
  rounds_keep i zero l is_in = let same : i ≡ 0 + i = omega arith in subst (λ k. TakenAfter n links k l) same is_in
  rounds_keep i (suc j) l is_in = let same : suc (j + i) ≡ suc j + i = omega arith in subst (λ k. TakenAfter n links k l) same (inl (rounds_keep i j l is_in))

  -- either a link of the list has endpoints with different labels, or no link of it leaves a label
  pub leaving_or_none : (labels : List ℕ) (some : List Link)
      → ((l : Link) × Contains some l × (label_of labels l.low ≢ label_of labels l.high)) ⊎ ((l : Link) → Contains some l → label_of labels l.low ≡ label_of labels l.high)
  leaving_or_none labels [] = inr (λ l l_in. absurd (contains_none l l_in))
  leaving_or_none labels (x ∷ some) = elim (cases_eq (label_of labels x.low) (label_of labels x.high)) [
    | inr apart ↦ inl (x, contains_head x some, apart)
    | inl same ↦ elim (leaving_or_none labels some) [
      | inl found ↦ inl (found.0, contains_tail x found.0 some found.1, found.2)
      | inr none ↦ inr (λ l l_in. elim (contains_cases x l some l_in) [ inl is ↦ subst (λ (y : Link). label_of labels y.low ≡ label_of labels y.high) (sym is) same | inr in_some ↦ none l in_some ])
    ]
  ]

  module _ (ends : EndsUpTo n links) where
    -- the endpoints of a taken link are in the same component
    taken_ends : (i : ℕ) (labels : List ℕ) → IsLabelling n (TakenAfter n links i) labels → (l : Link) → TakenAfter n links i l → label_of labels l.low ≡ label_of labels l.high
    taken_ends i labels is l taken = (ends_label n (TakenAfter n links i) labels is l (set_ends n links ends l (rounds_in_forest i l taken).0)).1 (joins_link (TakenAfter n links i) l taken)

    -- A round adds nothing exactly if no link leaves a label. If one does, the least such link is added, and it wasn't
    -- taken.
    pub adds_nothing : (i : ℕ) (labels : List ℕ) → IsLabelling n (TakenAfter n links i) labels
        → SameLinks (TakenAfter n links (suc i)) (TakenAfter n links i) ↔ ((l : Link) (c : ℕ) → Contains links l → ¬ (Leaves labels l c))
    adds_nothing i labels is = (to, λ none l. (back none l, λ old. inl old))
      where
        to : SameLinks (TakenAfter n links (suc i)) (TakenAfter n links i) → (l : Link) (c : ℕ) → Contains links l → ¬ (Leaves labels l c)
        to same l c l_in leaves =
            let best = least_leaving_exists links labels c l l_in leaves in
            leaves_apart labels best.0 c best.1.leaves (taken_ends i labels is best.0 ((same best.0).0 (inr (labels, is, (c, best.1)))))

        back : ((l : Link) (c : ℕ) → Contains links l → ¬ (Leaves labels l c)) → (l : Link) → TakenAfter n links (suc i) l → TakenAfter n links i l
        back none l (inl old) = old
        back none l (inr (labels', is', (c, least))) =
            let same : labels' ≡ labels = labelling_unique n (TakenAfter n links i) labels' labels is' is in
            absurd (none l c least.member (subst (λ x. Leaves x l c) same least.leaves))

    -- every component that a link leaves after i rounds has at least 2 ^ i vertices
    abbrev pub HasLargeComponents : ℕ → Type 0
    HasLargeComponents i = (labels : List ℕ) → IsLabelling n (TakenAfter n links i) labels → (l : Link) (c : ℕ) → Contains links l → Leaves labels l c → 2 ^ i ≤ size_of c labels

    -- at first each component has one vertex
    large_at_first : HasLargeComponents 0
    large_at_first labels is l c l_in leaves = search (arith, leaves_end, low_vertex, set_ends, high_vertex, size_of, size_one)

    -- In a round, each component that a link leaves is merged with another by its pick, which leaves that one too. So a
    -- component that a link leaves after the round contains two earlier such components.
    large_after_round : (i : ℕ) → HasLargeComponents i → HasLargeComponents (suc i)
    large_after_round i before new is_new l c l_in leaves = elim (leaves_end new l c leaves) [
      | inl low ↦ at_end l.low (low_vertex n l l_ends) (sym low) (leaves_low old l apart)
      | inr high ↦ at_end l.high (high_vertex n l l_ends) (sym high) (leaves_high old l apart)
    ]
      where
        l_ends : l.high ≤ n
        l_ends = set_ends n links ends l l_in

        old : List ℕ
        old = (round_labelling i).0

        is_old : IsLabelling n (TakenAfter n links i) old
        is_old = (round_labelling i).1

        -- vertices that the links taken after the round join have the same new label
        one_new : (u v : ℕ) → IsVertex n u → IsVertex n v → Joins (TakenAfter n links (suc i)) u v → label_of new u ≡ label_of new v
        one_new u v u_vertex v_vertex = (one_label n (TakenAfter n links (suc i)) new is_new u v u_vertex v_vertex).1

        -- vertices that were joined stay joined
        still : (u v : ℕ) → IsVertex n u → IsVertex n v → label_of old u ≡ label_of old v → label_of new u ≡ label_of new v
        still u v u_vertex v_vertex same =
            one_new u v u_vertex v_vertex
            (joins_more (TakenAfter n links i) (TakenAfter n links (suc i)) (λ k k_in. inl k_in) u v ((one_label n (TakenAfter n links i) old is_old u v u_vertex v_vertex).0 same))

        apart : label_of old l.low ≢ label_of old l.high
        apart same = leaves_apart new l c leaves (still l.low l.high (low_vertex n l l_ends) (high_vertex n l l_ends) same)

        -- u and x are in one old component, y is in another, and the round joins x and y
        two_joined : (u x y : ℕ) → IsVertex n u → IsVertex n x → IsVertex n y → label_of new u ≡ c → label_of old x ≡ label_of old u → label_of old y ≢ label_of old u
            → label_of new x ≡ label_of new y → 2 ^ i ≤ size_of (label_of old u) old → 2 ^ i ≤ size_of (label_of old y) old → 2 ^ suc i ≤ size_of c new
        two_joined u x y u_vertex x_vertex y_vertex has inside outside joined u_size y_size =
            let sum : size_of (label_of old u) old + size_of (label_of old y) old ≤ size_of c new =
            sizes_add (label_of old u) (label_of old y) c old new (is_old.each_vertex ∙ sym is_new.each_vertex) (λ same. outside (sym same)) from_u from_y in
            omega (arith, sum, u_size, y_size, pow-suc 2 i)
          where
            place : (labels : List ℕ) (k : ℕ) → label_of labels (k + 1) ≡ get_or labels k 0
            place labels k = let back : k + 1 - 1 ≡ k = omega arith in ap (λ j. get_or labels j 0) back

            vertex_at : (k : ℕ) → k < length old → IsVertex n (k + 1)
            vertex_at k lt = (omega arith, omega (arith, is_old.each_vertex))

            from_u : (k : ℕ) → k < length old → get_or old k 0 ≡ label_of old u → get_or new k 0 ≡ c
            from_u k lt same = sym (place new k) ∙ still (k + 1) u (vertex_at k lt) u_vertex (place old k ∙ same) ∙ has

            from_y : (k : ℕ) → k < length old → get_or old k 0 ≡ label_of old y → get_or new k 0 ≡ c
            from_y k lt same = sym (place new k) ∙ still (k + 1) y (vertex_at k lt) y_vertex (place old k ∙ same) ∙ sym joined ∙ still x u x_vertex u_vertex inside ∙ has

        at_end : (u : ℕ) → IsVertex n u → label_of new u ≡ c → Leaves old l (label_of old u) → 2 ^ suc i ≤ size_of c new
        at_end u u_vertex has left =
            let best = least_leaving_exists links old (label_of old u) l l_in left in
            by_pick best.0 best.1 best.1.leaves
          where
            by_pick : (k : Link) → IsLeastLeaving old (Contains links) (label_of old u) k → Leaves old k (label_of old u) → 2 ^ suc i ≤ size_of c new
            by_pick k is (inl (inside, outside)) =
                two_joined u k.low k.high u_vertex (low_vertex n k (set_ends n links ends k is.member)) (high_vertex n k (set_ends n links ends k is.member)) has inside outside
                (one_new k.low k.high (low_vertex n k (set_ends n links ends k is.member)) (high_vertex n k (set_ends n links ends k is.member))
                (joins_link (TakenAfter n links (suc i)) k (inr (old, is_old, (label_of old u, is)))))
                (before old is_old l (label_of old u) l_in left)
                (before old is_old k (label_of old k.high) is.member (leaves_high old k (leaves_apart old k (label_of old u) is.leaves)))
            by_pick k is (inr (outside, inside)) =
                two_joined u k.high k.low u_vertex (high_vertex n k (set_ends n links ends k is.member)) (low_vertex n k (set_ends n links ends k is.member)) has inside outside
                (sym (one_new k.low k.high (low_vertex n k (set_ends n links ends k is.member)) (high_vertex n k (set_ends n links ends k is.member))
                (joins_link (TakenAfter n links (suc i)) k (inr (old, is_old, (label_of old u, is))))))
                (before old is_old l (label_of old u) l_in left)
                (before old is_old k (label_of old k.low) is.member (leaves_low old k (leaves_apart old k (label_of old u) is.leaves)))

    pub large_components : (i : ℕ) → HasLargeComponents i
    large_components zero = large_at_first
    large_components (suc i) = large_after_round i (large_components i)

    -- Either a round adds nothing, or a link leaves two components, which together have at most n vertices.
    pub still_or_large : (i : ℕ) → SameLinks (TakenAfter n links (suc i)) (TakenAfter n links i) ⊎ (2 ^ suc i ≤ n)
    still_or_large i =
        let (labels, is) = round_labelling i in
        elim (leaving_or_none labels links) [
          | inl found ↦ inr (large labels is found.0 found.1 found.2)
          | inr none ↦ inl ((adds_nothing i labels is).1 (λ l c l_in leaves. leaves_apart labels l c leaves (none l l_in)))
        ]
      where
        large : (labels : List ℕ) → IsLabelling n (TakenAfter n links i) labels → (l : Link) → Contains links l → label_of labels l.low ≢ label_of labels l.high → 2 ^ suc i ≤ n
        large labels is l l_in apart = omega (
          arith,
          large_components i labels is l (label_of labels l.low) l_in (leaves_low labels l apart),
          large_components i labels is l (label_of labels l.high) l_in (leaves_high labels l apart),
          two_sizes (label_of labels l.low) (label_of labels l.high) labels apart,
          is.each_vertex,
          pow-suc 2 i,
        )

    pub still_dec : (i : ℕ) → Decided (SameLinks (TakenAfter n links (suc i)) (TakenAfter n links i))
    still_dec i =
        let (labels, is) = round_labelling i in
        elim (leaving_or_none labels links) [
          | inl found ↦ inr (λ same. (adds_nothing i labels is).0 same found.0 (label_of labels found.0.low) found.1 (leaves_low labels found.0 found.2))
          | inr none ↦ inl ((adds_nothing i labels is).1 (λ l c l_in leaves. leaves_apart labels l c leaves (none l l_in)))
        ]

    -- each of two such numbers is the least, so they are equal
    rounds_unique : (r q : ℕ) → IsMergingRounds n links r → IsMergingRounds n links q → q ≡ r
    rounds_unique r q is_r is_q = elim (cases_lt q r) [
      | inl lt ↦ absurd (is_r.first q lt is_q.still)
      | inr le ↦ elim (cases_lt r q) [ inl lt ↦ absurd (is_q.first r lt is_r.still) | inr le' ↦ omega arith ]
    ]

    -- Some round adds nothing: the n-th does, since 2 ^ (n + 1) is more than n.
    pub one_number_of_rounds : (r : ℕ) × IsMergingRounds n links r × ((q : ℕ) → IsMergingRounds n links q → q ≡ r)
    one_number_of_rounds = elim (least_below (λ i. SameLinks (TakenAfter n links (suc i)) (TakenAfter n links i)) still_dec (suc n)) [
      | inl found ↦ of_least found.0 found.1 found.2
      | inr none ↦ absurd (elim (still_or_large n) [ inl still ↦ none n (omega arith) still | inr large ↦ omega (arith, large, lt_pow n, pow-suc 2 n) ])
    ]
      where
        of_least : (r : ℕ) → SameLinks (TakenAfter n links (suc r)) (TakenAfter n links r) → ((k : ℕ) → SameLinks (TakenAfter n links (suc k)) (TakenAfter n links k) → r ≤ k)
            → (r : ℕ) × IsMergingRounds n links r × ((q : ℕ) → IsMergingRounds n links q → q ≡ r)
        of_least r still least =
            let is : IsMergingRounds n links r = record { still = still; first = λ k lt same. let le : r ≤ k = least k same in absurd (omega arith) } in
            (r, is, λ q is_q. rounds_unique r q is is_q)

    -- From that round on, no link leaves a component. So what is taken joins the endpoints of each link. It is a part
    -- of the forest that spans the list, and so the whole forest.
    pub forest_from_then_on : (r : ℕ) → IsMergingRounds n links r → (i : ℕ) → r ≤ i → SameLinks (TakenAfter n links i) (IsForestLink links)
    forest_from_then_on r is i le l = (rounds_in_forest i l, λ is_forest. later ((spanning_part_is_forest links (TakenAfter n links r) (rounds_in_forest r) spans l).1 is_forest))
      where
        later : TakenAfter n links r l → TakenAfter n links i l
        later taken = let same : i - r + r ≡ i = omega arith in subst (λ k. TakenAfter n links k l) same (rounds_keep r (i - r) l taken)

        spans : Spans (TakenAfter n links r) links
        spans =
            let (labels, is_labels) = round_labelling r in
            (spans_where_none_leaves n links (TakenAfter n links r) labels ends is_labels).1 ((adds_nothing r labels is_labels).0 is.still)

    -- The last merging round joined two components of the round before it.
    pub rounds_at_most : (r : ℕ) → IsMergingRounds n links r → 2 ^ r ≤ max 1 n
    rounds_at_most zero is = omega arith
    rounds_at_most (suc r) is = elim (still_or_large r) [
      | inl still ↦ absurd (is.first r (omega arith) still)
      | inr large ↦ omega (arith, large)
    ]

    pub round_in_time : (i : ℕ) → ¬ (SameLinks (TakenAfter n links (suc i)) (TakenAfter n links i)) → 2 ^ suc i ≤ n
    round_in_time i adds = elim (still_or_large i) [ inl still ↦ absurd (adds still) | inr large ↦ large ]

-- A step of a solver is a round if its labelling and its picks are the round's.
pub round_by_round : (n : ℕ) (links taken added : List Link) (i : ℕ) → SameLinks (Contains taken) (TakenAfter n links i)
    → AreRoundPicks n links taken added → SameLinks (Contains (taken ++ added)) (TakenAfter n links (suc i))
round_by_round n links taken added i before (labels, is, picks) l = (to, back)
  where
    is_round : IsLabelling n (TakenAfter n links i) labels
    is_round = labelling_alike n (Contains taken) (TakenAfter n links i) labels before is

    to : Contains (taken ++ added) l → TakenAfter n links (suc i) l
    to l_in = elim (Contains-append_cases taken added l l_in) [
      | inl old ↦ inl ((before l).0 old)
      | inr new ↦ inr (labels, is_round, (picks l).0 new)
    ]

    back : TakenAfter n links (suc i) l → Contains (taken ++ added) l
    back (inl old) = Contains-append_left taken added l ((before l).1 old)
    back (inr (labels', is', pick)) =
        let same : labels' ≡ labels = labelling_unique n (TakenAfter n links i) labels' labels is' is_round in
        Contains-append_right taken added l ((picks l).1 (subst (λ x. IsPick x (Contains links) l) same pick))

-- the least link of a set that leaves a label is also the least in each set with the same links
pub least_leaving_alike : (labels : List ℕ) (S R : LinkSet) (c : ℕ) (l : Link) → SameLinks S R → IsLeastLeaving labels S c l → IsLeastLeaving labels R c l
least_leaving_alike labels S R c l same is = record { member = (same l).0 is.member; leaves = is.leaves; least = λ m m_in. is.least m ((same m).1 m_in) }

-- Lists with the same links have the same rounds: under the same labels they have the same picks.
rounds_alike_to : (n : ℕ) (links other : List Link) → SameLinks (Contains links) (Contains other) → (i : ℕ)
    → SameLinks (TakenAfter n links i) (TakenAfter n other i) → IsPartOf (TakenAfter n links (suc i)) (TakenAfter n other (suc i))
rounds_alike_to n links other same i before l (inl old) = inl ((before l).0 old)
rounds_alike_to n links other same i before l (inr (labels, is, (c, least))) =
    inr (labels, labelling_alike n (TakenAfter n links i) (TakenAfter n other i) labels before is, (c, least_leaving_alike labels (Contains links) (Contains other) c l same least))

pub rounds_alike : (n : ℕ) (links other : List Link) → SameLinks (Contains links) (Contains other) → (i : ℕ) → SameLinks (TakenAfter n links i) (TakenAfter n other i)
rounds_alike n links other same zero l = (λ none. none, λ none. none)
rounds_alike n links other same (suc i) l =
    let before = rounds_alike n links other same i in
    (rounds_alike_to n links other same i before l, rounds_alike_to n other links (λ k. ((same k).1, (same k).0)) i (λ k. ((before k).1, (before k).0)) l)
