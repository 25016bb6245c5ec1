-- The number of a forest's links plus the number of its components is the number of vertices.
--
-- Without links, each vertex is a component of its own. Each added link whose endpoints aren't joined yet merges two
-- components into one.
--
-- The number of components doesn't depend on the choice of representatives. Each representative of one list is joined
-- to one of the other list, and no two are joined to the same.
use Rattle.std.proofs.Common.{◌≡◌, ℕ, zero, suc, ◌+◌, ◌≤◌, ◌⊎◌, ◌↔◌, List, [], ◌∷◌, length, Contains, get_or, refl, sym, ap, ◌∙◌, subst, inl, inr, arith}
use Rattle.std.specs.Prelude.{AllPairs}
use Rattle.std.proofs.lemmas.Bool.{cases_lt}
use Rattle.std.proofs.lemmas.List.Kept.{AllPairs-cons}
use Rattle.std.proofs.lemmas.List.Elements.{Contains-get_or, All-contains}
use Rattle.links.specs.declared.links.Link.{Link}
use Rattle.links.specs.Link.{EndsUpTo}
use Rattle.links.specs.Walk.{Joins}
use Rattle.links.specs.Forest.{IsForestLink, IsForestOf}
use Rattle.links.specs.Least.{AreDistinct}
use Rattle.links.specs.LinkSet.{LinkSet, Without, HasNoCycle}
use Rattle.links.specs.Components.{AreRepresentatives, EachHasComponents, LinksAndComponents}
use Rattle.links.proofs.Members.{contains_cases, contains_head, contains_tail, contains_none, ascends_head, ascends_tail}
use Rattle.links.proofs.Walks.{WithLink, JoinsThrough, joins_link, joins_refl, joins_symm, joins_trans, joins_more, joins_one_more, joins_equal, joins_alike}
use Rattle.links.proofs.Cycles.{no_cycle_part}
use Rattle.links.proofs.ForestSpans.{forest_no_cycle, forest_spans}
use Rattle.links.proofs.Least.{distinct_head, distinct_tail, ascending_distinct}
use Rattle.links.proofs.OneForest.{each_has_one_forest}

abbrev Apart : LinkSet → ℕ → ℕ → Type 0
Apart S u v = ¬ (Joins S u v)

-- a list without one of its vertices, if the set joins no two of them
record Others (S : LinkSet) (ones : List ℕ) (v : ℕ) : Type 0 where
  rest : List ℕ
  one_more : length ones ≡ length rest + 1
  within : (u : ℕ) → Contains rest u → Contains ones u
  keeps : (u : ℕ) → Contains ones u → (u ≡ v) ⊎ Contains rest u
  pairs : AllPairs (Apart S) rest
  apart : (u : ℕ) → Contains rest u → ¬ (Joins S v u)

others_of : (S : LinkSet) (ones : List ℕ) (v : ℕ) → AllPairs (Apart S) ones → Contains ones v → Others S ones v
others_of S [] v pairs v_in = absurd (contains_none v v_in)
others_of S (x ∷ xs) v pairs v_in = elim (contains_cases x v xs v_in) [
  | inl is ↦ record {
    rest = xs;
    one_more = omega arith;
    within = λ u u_in. contains_tail x u xs u_in;
    keeps = λ u u_in. elim (contains_cases x u xs u_in) [ inl same ↦ inl (same ∙ sym is) | inr in_xs ↦ inr in_xs ];
    pairs = ascends_tail (Apart S) x xs pairs;
    apart = λ u u_in joined. ascends_head (Apart S) x xs pairs u u_in (subst (λ y. Joins S y u) is joined);
  }
  | inr in_xs ↦ behind in_xs (others_of S xs v (ascends_tail (Apart S) x xs pairs) in_xs)
]
  where
    behind : Contains xs v → Others S xs v → Others S (x ∷ xs) v
    behind in_xs others = record {
      rest = x ∷ others.rest;
      one_more = omega (arith, others.one_more);
      within = λ u u_in. elim (contains_cases x u others.rest u_in) [
        | inl is ↦ subst (Contains (x ∷ xs)) (sym is) (contains_head x xs)
        | inr in_rest ↦ contains_tail x u xs (others.within u in_rest)
      ];
      keeps = λ u u_in. elim (contains_cases x u xs u_in) [
        | inl is ↦ inr (subst (Contains (x ∷ others.rest)) (sym is) (contains_head x others.rest))
        | inr in_list ↦ elim (others.keeps u in_list) [ inl same ↦ inl same | inr in_rest ↦ inr (contains_tail x u others.rest in_rest) ]
      ];
      pairs = AllPairs-cons (Apart S) x others.rest (λ k d lt. ascends_head (Apart S) x xs pairs (get_or others.rest k d)
          (others.within (get_or others.rest k d) (Contains-get_or others.rest k d lt))) others.pairs;
      apart = λ u u_in joined. elim (contains_cases x u others.rest u_in) [
        | inl is ↦ ascends_head (Apart S) x xs pairs v in_xs (joins_symm S v x (subst (Joins S v) is joined))
        | inr in_rest ↦ others.apart u in_rest joined
      ];
    }

-- ---- the number of components doesn't depend on the representatives

-- if each of some pairwise unjoined vertices is joined to one of a list, the list is at least as long
no_more : (S : LinkSet) (us xs : List ℕ) → AllPairs (Apart S) us → AllPairs (Apart S) xs
    → ((u : ℕ) → Contains us u → (x : ℕ) × Contains xs x × Joins S x u) → length us ≤ length xs
no_more S [] xs apart apart' each = omega arith
no_more S (u ∷ us) xs apart apart' each =
    let found = each u (contains_head u us) in
    let others = others_of S xs found.0 apart' found.1 in
    let fewer : length us ≤ length others.rest = no_more S us others.rest (ascends_tail (Apart S) u us apart) others.pairs (λ v v_in. next found others v v_in (each v (contains_tail u v us v_in))) in
    omega (arith, fewer, others.one_more)
  where
    next : (found : (x : ℕ) × Contains xs x × Joins S x u) (others : Others S xs found.0) (v : ℕ) → Contains us v
        → (x : ℕ) × Contains xs x × Joins S x v → (x : ℕ) × Contains others.rest x × Joins S x v
    next found others v v_in (x, x_in, joined) = elim (others.keeps x x_in) [
      | inl same ↦ absurd (ascends_head (Apart S) u us apart v v_in (joins_trans S u found.0 v (joins_symm S found.0 u found.2) (subst (λ y. Joins S y v) same joined)))
      | inr in_rest ↦ (x, in_rest, joined)
    ]

as_many : (n : ℕ) (S : LinkSet) (us xs : List ℕ) → AreRepresentatives n S us → AreRepresentatives n S xs → length us ≡ length xs
as_many n S us xs first second =
    let le = no_more S us xs first.apart second.apart (λ u u_in. let v = All-contains (λ x. (1 ≤ x) × (x ≤ n)) us u first.in_range u_in in second.each u v.0 v.1) in
    let ge = no_more S xs us second.apart first.apart (λ u u_in. let v = All-contains (λ x. (1 ≤ x) × (x ≤ n)) xs u second.in_range u_in in first.each u v.0 v.1) in
    omega (arith, le, ge)

-- two sets that join the same vertices have the same components
each_alike : (n : ℕ) (S R : LinkSet) (ones : List ℕ) → ((u v : ℕ) → Joins S u v ↔ Joins R u v) → AreRepresentatives n S ones → AreRepresentatives n R ones
each_alike n S R ones alike are = record {
  in_range = are.in_range;
  apart = λ i j d lt in_range joined. are.apart i j d lt in_range ((alike (get_or ones i d) (get_or ones j d)).1 joined);
  each = λ v low high. let found = are.each v low high in (found.0, found.1, (alike found.0 v).0 found.2);
}

-- ---- each link leaves one component less

-- the vertices n, n - 1 down to 1
vertices : ℕ → List ℕ
vertices zero = []
vertices (suc n) = suc n ∷ vertices n

all_vertices : (n : ℕ) → length (vertices n) ≡ n
unfolding vertices
all_vertices zero = refl
all_vertices (suc n) = ap suc (all_vertices n)

vertex_in_range : (n v : ℕ) → Contains (vertices n) v → (1 ≤ v) × (v ≤ n)
unfolding vertices
vertex_in_range zero v v_in = absurd (contains_none v v_in)
vertex_in_range (suc n) v v_in = elim (contains_cases (suc n) v (vertices n) v_in) [
  | inl is ↦ (omega (arith, is), omega (arith, is))
  | inr in_rest ↦ let rest = vertex_in_range n v in_rest in (rest.0, omega (arith, rest.1))
]

has_vertex : (n v : ℕ) → 1 ≤ v → v ≤ n → Contains (vertices n) v
unfolding vertices
has_vertex zero v low high = absurd (omega arith)
has_vertex (suc n) v low high = elim (cases_lt n v) [
  | inl last ↦ let is : suc n ≡ v = omega arith in subst (Contains (suc n ∷ vertices n)) is (contains_head (suc n) (vertices n))
  | inr le ↦ contains_tail (suc n) v (vertices n) (has_vertex n v low le)
]

vertices_apart : (S : LinkSet) → ((l : Link) → ¬ (S l)) → (n : ℕ) → AllPairs (Apart S) (vertices n)
unfolding vertices
vertices_apart S none zero = λ i j d lt in_range. absurd (omega arith)
vertices_apart S none (suc n) = AllPairs-cons (Apart S) (suc n) (vertices n)
    (λ k d lt joined.
    let low = (vertex_in_range n (get_or (vertices n) k d) (Contains-get_or (vertices n) k d lt)).1 in
    let same : suc n ≡ get_or (vertices n) k d = joins_equal S (λ x. x) (λ l l_in. absurd (none l l_in)) (suc n) (get_or (vertices n) k d) joined in
    omega (arith, low, same))
    (vertices_apart S none n)

each_by_itself : (n : ℕ) → AreRepresentatives n (Contains []) (vertices n)
each_by_itself n = record {
  in_range = λ k d lt. vertex_in_range n (get_or (vertices n) k d) (Contains-get_or (vertices n) k d lt);
  apart = vertices_apart (Contains []) (λ l. contains_none l) n;
  each = λ v low high. (v, has_vertex n v low high, joins_refl (Contains []) v);
}

-- When a link whose endpoints aren't joined is added, one of the representatives of their two components is left out.
module _ (n : ℕ) (S : LinkSet) (l : Link) (ones : List ℕ) (are : AreRepresentatives n S ones) (high : l.high ≤ n) (unjoined : ¬ (Joins S l.low l.high)) where
  abbrev More : LinkSet
  More = WithLink S l

  kept : (u v : ℕ) → Joins S u v → Joins More u v
  kept = joins_more S More (λ m m_in. inl m_in)

  fewer : (a b : ℕ) → Contains ones a → Joins S a l.low → Joins S b l.high → (others : Others S ones b) → AreRepresentatives n More others.rest
  fewer a b a_in to_low to_high others = record {
    in_range = λ k d lt. All-contains (λ x. (1 ≤ x) × (x ≤ n)) ones (get_or others.rest k d) are.in_range (others.within (get_or others.rest k d) (Contains-get_or others.rest k d lt));
    apart = λ i j d lt in_range joined. apart (get_or others.rest i d) (get_or others.rest j d) (Contains-get_or others.rest i d (omega arith)) (Contains-get_or others.rest j d in_range)
        (others.pairs i j d lt in_range) ((joins_one_more S l (get_or others.rest i d) (get_or others.rest j d)).0 joined);
    each = λ v from_one up_to_n. each v (are.each v from_one up_to_n);
  }
    where
      apart : (u v : ℕ) → Contains others.rest u → Contains others.rest v → ¬ (Joins S u v) → ¬ (JoinsThrough S l u v)
      apart u v u_in v_in not (inl joined) = not joined
      apart u v u_in v_in not (inr (inl (to, from))) = others.apart v v_in (joins_trans S b l.high v to_high from)
      apart u v u_in v_in not (inr (inr (to, from))) = others.apart u u_in (joins_trans S b l.high u to_high (joins_symm S u l.high to))

      a_left : Contains others.rest a
      a_left = elim (others.keeps a a_in) [
        | inl same ↦ absurd (unjoined (joins_trans S l.low a l.high (joins_symm S a l.low to_low) (subst (λ x. Joins S x l.high) (sym same) to_high)))
        | inr in_rest ↦ in_rest
      ]

      across : (v : ℕ) → Joins S b v → Joins More a v
      across v joined =
          joins_trans More a l.low v (kept a l.low to_low)
          (joins_trans More l.low l.high v (joins_link More l (inr refl)) (kept l.high v (joins_trans S l.high b v (joins_symm S b l.high to_high) joined)))

      each : (v : ℕ) → (u : ℕ) × Contains ones u × Joins S u v → (u : ℕ) × Contains others.rest u × Joins More u v
      each v (u, u_in, joined) = elim (others.keeps u u_in) [
        | inl same ↦ (a, a_left, across v (subst (λ x. Joins S x v) same joined))
        | inr in_rest ↦ (u, in_rest, kept u v joined)
      ]

  one_fewer : (fewer : List ℕ) × AreRepresentatives n More fewer × (length ones ≡ length fewer + 1)
  one_fewer =
      let low_in : l.low ≤ n = omega (arith, l.ascending, high) in
      let high_from : 1 ≤ l.high = omega (arith, l.from_one, l.ascending) in
      let a = are.each l.low l.from_one low_in in
      let b = are.each l.high high_from high in
      let others = others_of S ones b.0 are.apart b.1 in
      (others.rest, fewer a.0 b.0 a.1 a.2 b.2 others, others.one_more)

-- distinct links that close no cycle leave as many components as there are more vertices than links
pub components_left : (n : ℕ) (links : List Link) → EndsUpTo n links → AreDistinct links → HasNoCycle (Contains links)
    → (ones : List ℕ) × AreRepresentatives n (Contains links) ones × (length links + length ones ≡ n)
components_left n [] ends distinct none = (vertices n, each_by_itself n, let all = all_vertices n in omega (arith, all))
components_left n (l ∷ links) ends distinct none =
    let before = components_left n links (λ k d lt. ends (suc k) d (omega (arith, lt))) (distinct_tail l links distinct)
    (no_cycle_part (Contains links) (Contains (l ∷ links)) (λ m m_in. contains_tail l m links m_in) none) in
    let after = one_fewer n (Contains links) l before.0 before.1 (ends 0 l (omega arith)) unjoined in
    let sum = before.2 in
    let less = after.2 in
    (after.0, each_alike n (WithLink (Contains links) l) (Contains (l ∷ links)) after.0 alike after.1, omega (arith, sum, less))
  where
    unjoined : ¬ (Joins (Contains links) l.low l.high)
    unjoined joined = none l (contains_head l links) (joins_more (Contains links) (Without (Contains (l ∷ links)) l)
        (λ m m_in. (contains_tail l m links m_in, λ same. distinct_head l links distinct m m_in (sym same))) l.low l.high joined)

    alike : (u v : ℕ) → Joins (WithLink (Contains links) l) u v ↔ Joins (Contains (l ∷ links)) u v
    alike = joins_alike (WithLink (Contains links) l) (Contains (l ∷ links)) (λ m. (to m, contains_with m))
      where
        to : (m : Link) → WithLink (Contains links) l m → Contains (l ∷ links) m
        to m (inl m_in) = contains_tail l m links m_in
        to m (inr is) = subst (Contains (l ∷ links)) (sym is) (contains_head l links)

        contains_with : (m : Link) → Contains (l ∷ links) m → WithLink (Contains links) l m
        contains_with m m_in = elim (contains_cases l m links m_in) [ inl is ↦ inr is | inr in_links ↦ inl in_links ]

-- ---- the laws

-- a list has as many components as its forest leaves, and no other number
of_forest : (n : ℕ) (links forest : List Link) → EndsUpTo n links → IsForestOf links forest
    → (ones : List ℕ) × AreRepresentatives n (Contains links) ones × (length forest + length ones ≡ n)
of_forest n links forest ends is =
    let left = components_left n forest ends_of_forest (ascending_distinct forest is.ascending)
    (no_cycle_part (Contains forest) (IsForestLink links) (λ l l_in. (is.exact l).0 l_in) (forest_no_cycle links)) in
    (left.0, each_alike n (Contains forest) (Contains links) left.0 alike left.1, left.2)
  where
    in_links : (l : Link) → Contains forest l → Contains links l
    in_links l l_in = ((is.exact l).0 l_in).0

    ends_of_forest : EndsUpTo n forest
    ends_of_forest k d lt = All-contains (λ (l : Link). l.high ≤ n) links (get_or forest k d) ends (in_links (get_or forest k d) (Contains-get_or forest k d lt))

    alike : (u v : ℕ) → Joins (Contains forest) u v ↔ Joins (Contains links) u v
    alike u v = (
      joins_more (Contains forest) (Contains links) in_links u v,
      λ joined. joins_more (IsForestLink links) (Contains forest) (λ l l_is. (is.exact l).1 l_is) u v (forest_spans links u v joined),
    )

pub each_has_components : EachHasComponents
each_has_components n links ends =
    let forest = each_has_one_forest links in
    let left = of_forest n links forest.0 ends forest.1 in
    (length left.0, (left.0, left.1, refl))

pub links_and_components : LinksAndComponents
links_and_components n c links forest ends is (ones, are, number) =
    let left = of_forest n links forest ends is in
    let same = as_many n (Contains links) ones left.0 are left.1 in
    let sum = left.2 in
    omega (arith, number, same, sum)
