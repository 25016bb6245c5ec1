-- No spanning forest weighs less than the forest.
--
-- Put the forest's links into a spanning set without a cycle, one by one, in the order of their keys. If the set
-- already has the link, nothing changes. Otherwise, the set joins the link's endpoints. Links below it don't join them,
-- because it is a forest link. So a link above it is needed to join them, and no link that was put in earlier is above
-- it. The link replaces that one, which weighs at least as much.
--
-- At the end, the set is the forest, and no step made it heavier.
use Rattle.std.proofs.Common.{◌≡◌, ◌≢◌, ℕ, ℤ, pos, suc, ◌*◌, ◌^◌, ◌⊎◌, List, [], ◌∷◌, ◌++◌, length, Contains, get_or, fold, rules, Ordering, Less, Equal, Greater, int_cmp, nat_cmp, refl}
use Rattle.std.proofs.Common.{sym, ◌∙◌, subst, inl, inr, arith}
use Rattle.std.specs.Prelude.{◌+ℤ◌, neg_ℤ}
use Rattle.std.specs.Int.Signed.{◌≤ℤ◌, ◌<ℤ◌}
use Rattle.std.specs.Ordering.{ordering_then, MatchOrdering}
use Rattle.std.proofs.lemmas.Int.{ints}
use Rattle.std.proofs.lemmas.List.Kept.{AllPairs-cons}
use Rattle.std.proofs.lemmas.List.Elements.{Contains-get_or, Contains-append_cases, Contains-append_left, Contains-append_right}
use Rattle.links.specs.declared.links.Link.{Link}
use Rattle.links.specs.Link.{IsBelow, IsAscending}
use Rattle.links.specs.Walk.{Joins}
use Rattle.links.specs.Forest.{LinksBelow, IsForestLink, IsForestOf}
use Rattle.links.proofs.Members.{contains_cases, contains_head, contains_tail, contains_none, contains_dec}
use Rattle.links.proofs.Keys.{link_dec, trichotomy, below_dec, below_trans, below_irrefl, ascending_head, ascending_tail}
use Rattle.links.proofs.WideKeys.{int_ranks}
use Rattle.links.proofs.Walks.{WithLink, JoinsThrough, Decided, joins_link, joins_symm, joins_trans, joins_more, joins_replace, joins_one_more, joins_dec}
use Rattle.links.specs.LinkSet.{LinkSet, Without, IsPartOf, HasNoCycle, Spans}
use Rattle.links.specs.Least.{sum_of_weights, AreDistinct, IsTotalOf, IsSpanningForestOf, IsLightest, ForestIsLightest, NoCycleIsItsForest}
use Rattle.links.proofs.Cycles.{no_cycle_part, no_cycle_one_more}
use Rattle.links.proofs.ForestSpans.{forest_no_cycle, forest_spans}

-- ---- weights

-- a link that is below another doesn't weigh more
pub below_weighs : (l m : Link) → IsBelow l m → l.weight ≤ℤ m.weight
below_weighs l m below = search (arith, int_cmp, int_ranks, nat_cmp, ints)

-- the sum is the first link's weight plus the sum of the others
sum_from : (start : ℤ) (links : List Link) → fold (λ sum l. sum +ℤ l.weight) start links ≡ start +ℤ sum_of_weights links
sum_from start [] = omega (arith, ints)
sum_from start (l ∷ links) = search (arith, ints, sum_from (start +ℤ l.weight) links, sum_from (pos 0 +ℤ l.weight) links)

pub sum_cons : (l : Link) (links : List Link) → sum_of_weights (l ∷ links) ≡ l.weight +ℤ sum_of_weights links
sum_cons l links = let own = sum_from (pos 0 +ℤ l.weight) links in omega (arith, ints, own)

-- each weight is within 2^63 of 0, so the sum of n weights is within n * 2^63
pub record AddsUpWithin (n : ℕ) (sum : ℤ) : Type 0 where
  pub above : neg_ℤ (pos (n * 2 ^ 63)) ≤ℤ sum
  pub below : sum ≤ℤ pos (n * 2 ^ 63)

pub sum_within : (links : List Link) → AddsUpWithin (length links) (sum_of_weights links)
sum_within [] = record { above = omega (arith, ints); below = omega (arith, ints) }
sum_within (l ∷ links) = search (arith, sum_cons, ints, sum_within links)

-- ---- lists without one of their links

pub distinct_head : (l : Link) (ls : List Link) → AreDistinct (l ∷ ls) → (m : Link) → Contains ls m → l ≢ m
distinct_head l ls apart m (k, lt, at) = subst (λ x. l ≢ x) at (apart 0 (suc k) m (omega arith) (omega arith))

pub distinct_tail : (l : Link) (ls : List Link) → AreDistinct (l ∷ ls) → AreDistinct ls
distinct_tail l ls apart i j d lt in_range = apart (suc i) (suc j) d (omega arith) (omega arith)

-- a list of distinct links without one of them
record Others (links : List Link) (l : Link) : Type 0 where
  rest : List Link
  sum_is : sum_of_weights links ≡ l.weight +ℤ sum_of_weights rest
  -- each link of the rest is another link of the list
  within : (m : Link) → Contains rest m → Contains links m × (m ≢ l)
  keeps : (m : Link) → Contains links m → m ≢ l → Contains rest m
  distinct : AreDistinct rest

distinct_cons : (l : Link) (ls : List Link) → ((m : Link) → Contains ls m → l ≢ m) → AreDistinct ls → AreDistinct (l ∷ ls)
distinct_cons l ls other apart = AllPairs-cons (λ l m. l ≢ m) l ls (λ k d lt. other (get_or ls k d) (Contains-get_or ls k d lt)) apart

others_of : (links : List Link) (l : Link) → AreDistinct links → Contains links l → Others links l
others_of [] l apart is_in = absurd (contains_none l is_in)
others_of (k ∷ links) l apart is_in = elim (contains_cases k l links is_in) [
  | inl is ↦ record {
    rest = links;
    sum_is = subst (λ (x : Link). sum_of_weights (k ∷ links) ≡ x.weight +ℤ sum_of_weights links) (sym is) (sum_cons k links);
    within = λ m m_in. (contains_tail k m links m_in, λ same. distinct_head k links apart m m_in (sym (same ∙ is)));
    keeps = λ m m_in other. elim (contains_cases k m links m_in) [ inl same ↦ absurd (other (same ∙ sym is)) | inr in_links ↦ in_links ];
    distinct = distinct_tail k links apart;
  }
  | inr in_links ↦ behind in_links (others_of links l (distinct_tail k links apart) in_links)
]
  where
    behind : Contains links l → Others links l → Others (k ∷ links) l
    behind in_links others = record {
      rest = k ∷ others.rest;
      sum_is =
          let whole = sum_cons k links in
          let less = sum_cons k others.rest in
          let inner = others.sum_is in
          omega (arith, ints, whole, less, inner);
      within = λ m m_in. elim (contains_cases k m others.rest m_in) [
        | inl is ↦ (subst (Contains (k ∷ links)) (sym is) (contains_head k links), λ same. distinct_head k links apart l in_links (sym is ∙ same))
        | inr in_rest ↦ (contains_tail k m links (others.within m in_rest).0, (others.within m in_rest).1)
      ];
      keeps = λ m m_in other. elim (contains_cases k m links m_in) [
        | inl is ↦ subst (Contains (k ∷ others.rest)) (sym is) (contains_head k others.rest)
        | inr m_in' ↦ contains_tail k m others.rest (others.keeps m m_in' other)
      ];
      distinct = distinct_cons k others.rest (λ m m_in. distinct_head k links apart m (others.within m m_in).0) others.distinct;
    }

-- ---- a link that is needed

-- the links of the set that aren't in the list
abbrev Beside : LinkSet → List Link → LinkSet
Beside S R m = S m × ¬ (Contains R m)

-- A set without a cycle joins two vertices, and can do so without any single link of a list. Then it can do so without
-- all of them: a walk over one of these links and the walk around it would close a cycle.
all_spared : (S : LinkSet) (u v : ℕ) → HasNoCycle S → Joins S u v → (R : List Link) → ((t : Link) → Contains R t → S t × Joins (Without S t) u v) → Joins (Beside S R) u v
all_spared S u v none joined [] each = joins_more S (Beside S []) (λ m is_in. (is_in, contains_none m)) u v joined
all_spared S u v none joined (t ∷ R) each =
    through ((joins_one_more (Beside S (t ∷ R)) t u v).0 (joins_more (Beside S R) (WithLink (Beside S (t ∷ R)) t) split u v
    (all_spared S u v none joined R (λ m m_in. each m (contains_tail t m R m_in)))))
  where
    split : (m : Link) → Beside S R m → WithLink (Beside S (t ∷ R)) t m
    split m m_in = elim (link_dec m t) [
      | inl same ↦ inr same
      | inr other ↦ inl (m_in.0, λ in_all. elim (contains_cases t m R in_all) [ inl is ↦ other is | inr in_R ↦ m_in.1 in_R ])
    ]

    along : (x y : ℕ) → Joins (Beside S (t ∷ R)) x y → Joins (Without S t) x y
    along = joins_more (Beside S (t ∷ R)) (Without S t) (λ m m_in. (m_in.0, λ same. m_in.1 (subst (Contains (t ∷ R)) (sym same) (contains_head t R))))

    around : Joins (Without S t) u v
    around = (each t (contains_head t R)).1

    closes : Joins (Without S t) t.low t.high → ⊥
    closes = none t (each t (contains_head t R)).0

    through : JoinsThrough (Beside S (t ∷ R)) t u v → Joins (Beside S (t ∷ R)) u v
    through (inl others) = others
    through (inr (inl (to, from))) =
        absurd (closes (joins_trans (Without S t) t.low u t.high (joins_symm (Without S t) u t.low (along u t.low to))
        (joins_trans (Without S t) u v t.high around (joins_symm (Without S t) t.high v (along t.high v from)))))
    through (inr (inr (to, from))) =
        absurd (closes (joins_trans (Without S t) t.low v t.high (along t.low v from) (joins_trans (Without S t) v u t.high (joins_symm (Without S t) u v around) (along u t.high to))))

-- ---- the exchange

-- either a candidate above l is needed to join the endpoints of l, or no candidate above l is
find : (S : List Link) (l : Link) (candidates : List Link)
    → ((t : Link) × Contains candidates t × IsBelow l t × ¬ (Joins (Without (Contains S) t) l.low l.high))
    ⊎ ((t : Link) → Contains candidates t → IsBelow l t → Joins (Without (Contains S) t) l.low l.high)
find S l [] = inr (λ t t_in above. absurd (contains_none t t_in))
find S l (c ∷ candidates) = next (below_dec l c) (joins_dec (λ m. m ≢ c) differs S l.low l.high) (find S l candidates)
  where
    differs : (m : Link) → Decided (m ≢ c)
    differs m = elim (link_dec m c) [ inl same ↦ inr (λ other. other same) | inr other ↦ inl other ]

    next : Decided (IsBelow l c) → Decided (Joins (Without (Contains S) c) l.low l.high)
        → ((t : Link) × Contains candidates t × IsBelow l t × ¬ (Joins (Without (Contains S) t) l.low l.high))
        ⊎ ((t : Link) → Contains candidates t → IsBelow l t → Joins (Without (Contains S) t) l.low l.high)
        → ((t : Link) × Contains (c ∷ candidates) t × IsBelow l t × ¬ (Joins (Without (Contains S) t) l.low l.high))
        ⊎ ((t : Link) → Contains (c ∷ candidates) t → IsBelow l t → Joins (Without (Contains S) t) l.low l.high)
    next (inl above) (inr apart) rest = inl (c, contains_head c candidates, above, apart)
    next below joined (inl (t, t_in, t_above, apart)) = inl (t, contains_tail c t candidates t_in, t_above, apart)
    next (inl above) (inl joined) (inr spared) = inr (λ t t_in t_above. elim (contains_cases c t candidates t_in) [
      | inl is ↦ subst (λ x. Joins (Without (Contains S) x) l.low l.high) (sym is) joined
      | inr in_rest ↦ spared t in_rest t_above
    ])
    next (inr not_above) joined (inr spared) = inr (λ t t_in t_above. elim (contains_cases c t candidates t_in) [
      | inl is ↦ absurd (not_above (subst (IsBelow l) is t_above))
      | inr in_rest ↦ spared t in_rest t_above
    ])

-- the links of a list that are above l
record Above (l : Link) (links : List Link) : Type 0 where
  part : List Link
  within : (m : Link) → Contains part m → Contains links m × IsBelow l m
  covers : (m : Link) → Contains links m → IsBelow l m → Contains part m

above_of : (l : Link) (links : List Link) → Above l links
above_of l [] = record { part = []; within = λ m m_in. absurd (contains_none m m_in); covers = λ m m_in above. absurd (contains_none m m_in) }
above_of l (k ∷ links) = more (below_dec l k) (above_of l links)
  where
    more : Decided (IsBelow l k) → Above l links → Above l (k ∷ links)
    more (inl above) had = record {
      part = k ∷ had.part;
      within = λ m m_in. elim (contains_cases k m had.part m_in) [
        | inl is ↦ (subst (Contains (k ∷ links)) (sym is) (contains_head k links), subst (IsBelow l) (sym is) above)
        | inr in_part ↦ (contains_tail k m links (had.within m in_part).0, (had.within m in_part).1)
      ];
      covers = λ m m_in m_above. elim (contains_cases k m links m_in) [
        | inl is ↦ subst (Contains (k ∷ had.part)) (sym is) (contains_head k had.part)
        | inr in_links ↦ contains_tail k m had.part (had.covers m in_links m_above)
      ];
    }
    more (inr not_above) had = record {
      part = had.part;
      within = λ m m_in. (contains_tail k m links (had.within m m_in).0, (had.within m m_in).1);
      covers = λ m m_in m_above. elim (contains_cases k m links m_in) [
        | inl is ↦ absurd (not_above (subst (IsBelow l) is m_above))
        | inr in_links ↦ had.covers m in_links m_above
      ];
    }

-- If a set without a cycle joins the endpoints of a forest link that it doesn't have, it needs a link above it to do
-- so. Otherwise, it could do without all links above it, and the remaining links are below it.
needed : (links : List Link) (l : Link) → IsForestLink links l → (S : List Link) → HasNoCycle (Contains S) → IsPartOf (Contains S) (Contains links) → ¬ (Contains S l) → Joins (Contains S) l.low l.high
    → (t : Link) × Contains S t × IsBelow l t × ¬ (Joins (Without (Contains S) t) l.low l.high)
needed links l is S none part lacks joined = elim (find S l S) [
  | inl found ↦ found
  | inr spared ↦
      let above = above_of l S in
      absurd (is.1 (joins_more (Beside (Contains S) above.part) (LinksBelow links l) (left above) l.low l.high
      (all_spared (Contains S) l.low l.high none joined above.part (λ t t_in. ((above.within t t_in).0, spared t (above.within t t_in).0 (above.within t t_in).1)))))
]
  where
    left : (above : Above l S) → (m : Link) → Beside (Contains S) above.part m → LinksBelow links l m
    left above m m_in = search (arith, trichotomy)

-- the forest's links are in two lists: those that are already taken, and those that are left
record Taking (links taken left : List Link) : Type 0 where
  are : (m : Link) → Contains taken m ⊎ Contains left m → IsForestLink links m
  all : (m : Link) → IsForestLink links m → Contains taken m ⊎ Contains left m
  below : (m k : Link) → Contains taken m → Contains left k → IsBelow m k
  ascending : IsAscending left

-- a spanning forest that has the taken links, and these others
record Holding (links taken others : List Link) : Type 0 where
  none : HasNoCycle (Contains (taken ++ others))
  part : IsPartOf (Contains (taken ++ others)) (Contains links)
  spans : Spans (Contains (taken ++ others)) links
  distinct : AreDistinct others
  apart : (m : Link) → Contains others m → ¬ (Contains taken m)

take_next : (links taken : List Link) (l : Link) (left : List Link) → Taking links taken (l ∷ left) → Taking links (l ∷ taken) left
take_next links taken l left taking = record {
  are = λ m m_in. taking.are m (elim m_in [
    | inl in_taken ↦ elim (contains_cases l m taken in_taken) [ inl is ↦ inr (subst (Contains (l ∷ left)) (sym is) (contains_head l left)) | inr before ↦ inl before ]
    | inr in_left ↦ inr (contains_tail l m left in_left)
  ]);
  all = λ m is. elim (taking.all m is) [
    | inl in_taken ↦ inl (contains_tail l m taken in_taken)
    | inr in_left ↦ elim (contains_cases l m left in_left) [ inl same ↦ inl (subst (Contains (l ∷ taken)) (sym same) (contains_head l taken)) | inr behind ↦ inr behind ]
  ];
  below = λ m k m_in k_in. elim (contains_cases l m taken m_in) [
    | inl is ↦ subst (λ x. IsBelow x k) (sym is) (ascending_head l left taking.ascending k k_in)
    | inr before ↦ taking.below m k before (contains_tail l k left k_in)
  ];
  ascending = ascending_tail l left taking.ascending;
}

-- an exchange: one of the others, which doesn't weigh less, is replaced by the next link in the spanning forest
record Exchanged (links taken : List Link) (l : Link) (others : List Link) : Type 0 where
  given : Link
  heavier : l.weight ≤ℤ given.weight
  rest : List Link
  sum_is : sum_of_weights others ≡ given.weight +ℤ sum_of_weights rest
  holding : Holding links (l ∷ taken) rest

module _ (links taken : List Link) (l : Link) (left others : List Link) (taking : Taking links taken (l ∷ left)) (holding : Holding links taken others) where
  -- the set before the exchange, and the set after it
  abbrev Before : LinkSet
  Before = Contains (taken ++ others)

  abbrev After : (given : Link) → Others others given → LinkSet
  After given without = Contains (l ∷ taken ++ without.rest)

  -- the new set has the link, and all of the old set except the replaced link
  to_after : (given : Link) (without : Others others given) → Contains others given → (m : Link) → WithLink (Without Before given) l m → After given without m
  to_after given without is_in m (inr same) = subst (After given without) (sym same) (contains_head l (taken ++ without.rest))
  to_after given without is_in m (inl (m_in, other)) = contains_tail l m (taken ++ without.rest) (elim (Contains-append_cases taken others m m_in) [
    | inl in_taken ↦ Contains-append_left taken without.rest m in_taken
    | inr in_others ↦ Contains-append_right taken without.rest m (without.keeps m in_others other)
  ])

  -- the new set has nothing else
  of_after : (given : Link) (without : Others others given) → Contains others given → (m : Link) → After given without m → WithLink (Without Before given) l m
  of_after given without is_in m m_in = elim (contains_cases l m (taken ++ without.rest) m_in) [
    | inl is ↦ inr is
    | inr behind ↦ inl (elim (Contains-append_cases taken without.rest m behind) [
      | inl in_taken ↦ (Contains-append_left taken others m in_taken, λ same. holding.apart given is_in (subst (Contains taken) same in_taken))
      | inr in_rest ↦ (Contains-append_right taken others m (without.within m in_rest).0, (without.within m in_rest).1)
    ])
  ]

  -- the new set is a spanning forest if it has no cycle and joins the endpoints of the replaced link
  exchanged : (given : Link) (is_in : Contains others given) → l.weight ≤ℤ given.weight → ((m : Link) → Contains others m → m ≢ given → m ≢ l)
      → HasNoCycle (WithLink (Without Before given) l) → Joins (WithLink (Without Before given) l) given.low given.high → Exchanged links taken l others
  exchanged given is_in heavier other none joined = let without = others_of others given holding.distinct is_in in record {
    given = given;
    heavier = heavier;
    rest = without.rest;
    sum_is = without.sum_is;
    holding = record {
      none = no_cycle_part (After given without) (WithLink (Without Before given) l) (of_after given without is_in) none;
      part = λ m m_in. elim (of_after given without is_in m m_in) [
        | inl before ↦ holding.part m before.0
        | inr is ↦ subst (Contains links) (sym is) (taking.are l (inr (contains_head l left))).0
      ];
      spans = λ u v by_links. joins_replace Before (After given without) (by_after without) u v (holding.spans u v by_links);
      distinct = without.distinct;
      apart = λ m m_in in_taken. elim (contains_cases l m taken in_taken) [
        | inl is ↦ other m (without.within m m_in).0 (without.within m m_in).1 is
        | inr before ↦ holding.apart m (without.within m m_in).0 before
      ];
    };
  }
    where
      by_after : (without : Others others given) (m : Link) → Before m → Joins (After given without) m.low m.high
      by_after without m m_in = elim (link_dec m given) [
        | inl same ↦ subst (λ (x : Link). Joins (After given without) x.low x.high) (sym same)
            (joins_more (WithLink (Without Before given) l) (After given without) (to_after given without is_in) given.low given.high joined)
        | inr differs ↦ joins_link (After given without) m (to_after given without is_in m (inl (m_in, differs)))
      ]

  -- if the spanning forest already has the link, it replaces itself
  has_it : Contains others l → Exchanged links taken l others
  has_it is_in = exchanged l is_in (omega (arith, ints)) (λ m m_in differs. differs) (no_cycle_part (WithLink (Without Before l) l) Before back holding.none)
      (joins_link (WithLink (Without Before l) l) l (inr refl))
    where
      back : (m : Link) → WithLink (Without Before l) l m → Before m
      back m (inl m_in) = m_in.0
      back m (inr is) = subst Before (sym is) (Contains-append_right taken others l is_in)

  -- if it doesn't, the link replaces one that is needed to join the link's endpoints
  lacks_it : ¬ (Contains others l) → Exchanged links taken l others
  lacks_it lacks = from (needed links l is_forest (taken ++ others) holding.none holding.part outside joined)
    where
      is_forest : IsForestLink links l
      is_forest = taking.are l (inr (contains_head l left))

      outside : ¬ (Contains (taken ++ others) l)
      outside m_in = elim (Contains-append_cases taken others l m_in) [
        | inl in_taken ↦ below_irrefl l (taking.below l l in_taken (contains_head l left))
        | inr in_others ↦ lacks in_others
      ]

      joined : Joins Before l.low l.high
      joined = holding.spans l.low l.high (joins_link (Contains links) l is_forest.0)

      split : (t m : Link) → Before m → WithLink (Without Before t) t m
      split t m m_in = elim (link_dec m t) [ inl same ↦ inr same | inr other ↦ inl (m_in, other) ]

      from : ((t : Link) × Before t × IsBelow l t × ¬ (Joins (Without Before t) l.low l.high)) → Exchanged links taken l others
      from (t, t_in, above, apart) = elim (Contains-append_cases taken others t t_in) [
        | inl in_taken ↦ absurd (below_irrefl l (below_trans l t l above (taking.below t l in_taken (contains_head l left))))
        | inr in_others ↦ exchanged t in_others (below_weighs l t above) (λ m m_in differs is. lacks (subst (Contains others) is m_in))
            (no_cycle_one_more (Without Before t) l (no_cycle_part (Without Before t) Before (λ m m_in. m_in.0) holding.none) apart)
            (around ((joins_one_more (Without Before t) t l.low l.high).0 (joins_more Before (WithLink (Without Before t) t) (split t) l.low l.high joined)))
      ]
        where
          kept : (x y : ℕ) → Joins (Without Before t) x y → Joins (WithLink (Without Before t) l) x y
          kept = joins_more (Without Before t) (WithLink (Without Before t) l) (λ m m_in. inl m_in)

          own : Joins (WithLink (Without Before t) l) l.low l.high
          own = joins_link (WithLink (Without Before t) l) l (inr refl)

          around : JoinsThrough (Without Before t) t l.low l.high → Joins (WithLink (Without Before t) l) t.low t.high
          around (inl others_do) = absurd (apart others_do)
          around (inr (inl (to, on))) =
              joins_trans (WithLink (Without Before t) l) t.low l.low t.high (joins_symm (WithLink (Without Before t) l) l.low t.low (kept l.low t.low to))
              (joins_trans (WithLink (Without Before t) l) l.low l.high t.high own (joins_symm (WithLink (Without Before t) l) t.high l.high (kept t.high l.high on)))
          around (inr (inr (to, on))) =
              joins_trans (WithLink (Without Before t) l) t.low l.high t.high (kept t.low l.high on)
              (joins_trans (WithLink (Without Before t) l) l.high l.low t.high (joins_symm (WithLink (Without Before t) l) l.low l.high own) (kept l.low t.high to))

  exchange : Exchanged links taken l others
  exchange = elim (contains_dec link_dec others l) [ inl is_in ↦ has_it is_in | inr lacks ↦ lacks_it lacks ]

-- ---- the law

-- if the whole forest is taken, a spanning forest has no other links, because one more would close a cycle
no_others : (links taken others : List Link) → Taking links taken [] → Holding links taken others → others ≡ []
no_others links taken [] taking holding = refl
no_others links taken (l ∷ others) taking holding =
    absurd (holding.none l (Contains-append_right taken (l ∷ others) l (contains_head l others))
    (joins_more (IsForestLink links) (Without (Contains (taken ++ l ∷ others)) l) other l.low l.high
    (forest_spans links l.low l.high (joins_link (Contains links) l (holding.part l (Contains-append_right taken (l ∷ others) l (contains_head l others)))))))
  where
    in_taken : (m : Link) → IsForestLink links m → Contains taken m
    in_taken m is = elim (taking.all m is) [ inl in_it ↦ in_it | inr none ↦ absurd (contains_none m none) ]

    other : (m : Link) → IsForestLink links m → Without (Contains (taken ++ l ∷ others)) l m
    other m is = (Contains-append_left taken (l ∷ others) m (in_taken m is), λ same. holding.apart l (contains_head l others) (subst (Contains taken) same (in_taken m is)))

-- the remaining links don't weigh more than a spanning forest's others
no_heavier : (links taken left others : List Link) → Taking links taken left → Holding links taken others → sum_of_weights left ≤ℤ sum_of_weights others
no_heavier links taken [] others taking holding = subst (λ xs. sum_of_weights [] ≤ℤ sum_of_weights xs) (sym (no_others links taken others taking holding)) (omega (arith, ints))
no_heavier links taken (l ∷ left) others taking holding =
    let step = exchange links taken l left others taking holding in
    let rest = no_heavier links (l ∷ taken) left step.rest (take_next links taken l left taking) step.holding in
    let whole = sum_cons l left in
    let its = step.sum_is in
    let heavier = step.heavier in
    omega (arith, ints, rest, whole, its, heavier)

pub ascending_distinct : (links : List Link) → IsAscending links → AreDistinct links
ascending_distinct links up i j d lt in_range same = below_irrefl (get_or links i d) (subst (λ x. IsBelow (get_or links i d) x) (sym same) (up i j d lt in_range))

-- so the weight of an ascending list is the sum over the list
pub own_total : (links : List Link) (total : ℤ) → IsAscending links → total ≡ sum_of_weights links → IsTotalOf links total
own_total links total up is = record { once = links; distinct = ascending_distinct links up; members = λ l. (λ l_in. l_in, λ l_in. l_in); total_is = is }

pub forest_is_lightest : ForestIsLightest
forest_is_lightest links forest is = (spanning, total, lightest)
  where
    spanning : IsSpanningForestOf links forest
    spanning = record {
      from_list = λ l l_in. ((is.exact l).0 l_in).0;
      no_cycle = no_cycle_part (Contains forest) (IsForestLink links) (λ l l_in. (is.exact l).0 l_in) (forest_no_cycle links);
      spans = λ u v joined. joins_more (IsForestLink links) (Contains forest) (λ l l_is. (is.exact l).1 l_is) u v (forest_spans links u v joined);
    }

    total : IsTotalOf forest (sum_of_weights forest)
    total = own_total forest (sum_of_weights forest) is.ascending refl

    lightest : IsLightest links (sum_of_weights forest)
    lightest other its spans total_of = subst (λ z. sum_of_weights forest ≤ℤ z) (sym total_of.total_is) (no_heavier links [] forest total_of.once record {
      are = λ m m_in. elim m_in [ inl none ↦ absurd (contains_none m none) | inr in_forest ↦ (is.exact m).0 in_forest ];
      all = λ m m_is. inr ((is.exact m).1 m_is);
      below = λ m k none k_in. absurd (contains_none m none);
      ascending = is.ascending;
    } record {
      none = no_cycle_part (Contains total_of.once) (Contains other) (λ m m_in. (total_of.members m).0 m_in) spans.no_cycle;
      part = λ m m_in. spans.from_list m ((total_of.members m).0 m_in);
      spans = λ u v joined. joins_more (Contains other) (Contains total_of.once) (λ m m_in. (total_of.members m).1 m_in) u v (spans.spans u v joined);
      distinct = total_of.distinct;
      apart = λ m m_in none. contains_none m none;
    })

-- so no spanning forest weighs less than the forest
pub lightest_forest : (links forest : List Link) → IsForestOf links forest → IsLightest links (sum_of_weights forest)
lightest_forest links forest is = (forest_is_lightest links forest is).2

-- no link's endpoints are joined by the other links, and so not by those below it
pub no_cycle_is_its_forest : NoCycleIsItsForest
no_cycle_is_its_forest links forest none is l = (
  λ l_in. ((is.exact l).0 l_in).0,
  λ l_in. (is.exact l).1 (l_in, λ joined. none l l_in (joins_more (LinksBelow links l) (Without (Contains links) l) other l.low l.high joined)),
)
  where
    other : (m : Link) → LinksBelow links l m → Without (Contains links) l m
    other m m_in = (m_in.0, λ same. below_irrefl l (subst (λ x. IsBelow x l) same m_in.1))
