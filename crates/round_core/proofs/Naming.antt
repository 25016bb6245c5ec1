-- The least root under each parent, and the labels that follow from it.
use Rattle.std.proofs.Common.{◌≡◌, ◌≢◌, ℕ, zero, suc, ◌+◌, ◌-◌, ◌<◌, ◌≤◌, ◌==◌, Bool, true, false, List, length, get_or, set, map, Contains, refl, sym, ap, ◌∙◌, subst, inl, inr, arith}
use mir.Val.{bool_byte}
use Rattle.std.specs.Prelude.{Option, AllPairs, All, filter}
use Rattle.std.proofs.lemmas.Bool.{cases_eq, cases_lt, eqb-true, eq-eqb}
use Rattle.std.proofs.lemmas.List.Filters.{FiltersInPlace, FiltersInPlace-more_no, FiltersInPlace-more_set}
use Rattle.std.proofs.lemmas.List.{drop-set-lt, take-set, length-set, length-map, get_or-map, get_or-set_same, get_or-set_other, get_or_default}
use Rattle.std.proofs.lemmas.List.Elements.{Contains-get_or, All-contains}
use Rattle.std.proofs.lemmas.List.Kept.{AllPairs-filter}
use Rattle.links.specs.declared.links.Link.{Link}
use Rattle.links.specs.Labels.{label_of, AreLabels}
use Rattle.links.specs.Labels.{renamed}
use Rattle.links.proofs.Kept.{kept_in, kept_if}
use Rattle.round_theory.specs.Labelling.{IsVertex, JoinsOver, IsRelabelling, IsLeastJoinedOver}
use Rattle.round_core.specs.Picks.{Picked}
use Rattle.round_core.specs.Roots.{IsRoot, AreRoots, ArePointers, AreParents, AreSettled, IsLeastUnder, Relabels}
use Rattle.round_theory.proofs.Steps.{relabelling_is_labels}
use Rattle.round_core.proofs.HookWalks.{over_same, over_from, over_then, over_back, over_equal}
use Rattle.round_core.proofs.Leading.{end_root}

-- what holds for the roots at all indices holds for all roots
pub at_contained : (P : ℕ → Type 0) (roots : List ℕ) (k : ℕ) → length roots ≤ k → ((j : ℕ) → j < k → P (get_or roots j 0)) → (c : ℕ) → Contains roots c → P c
at_contained P roots k past all c (j, within, here) = subst P (get_or_default roots j 0 c within ∙ here) (all j (omega (arith, past, within)))

-- the vertices from 1 on ascend, and are exactly these
pub vertices_ascend : (vertices : List ℕ) → ((k : ℕ) → k < length vertices → get_or vertices k 0 ≡ k + 1) → AllPairs (λ b c. b < c) vertices
vertices_ascend vertices own i j d lt within = search (arith, get_or_default)

pub contained_is_vertex : (vertices : List ℕ) (c : ℕ) → ((k : ℕ) → k < length vertices → get_or vertices k 0 ≡ k + 1) → Contains vertices c → IsVertex (length vertices) c
contained_is_vertex vertices c own (j, within, here) =
    let is : j + 1 ≡ c = sym (own j within) ∙ get_or_default vertices j 0 c within ∙ here in
    (omega (arith, is), omega (arith, is, within))

pub vertex_is_contained : (vertices : List ℕ) (c : ℕ) → ((k : ℕ) → k < length vertices → get_or vertices k 0 ≡ k + 1) → IsVertex (length vertices) c → Contains vertices c
vertex_is_contained vertices c own vertex =
    let within : c - 1 < length vertices = omega (arith, vertex.0, vertex.1) in
    (c - 1, within, get_or_default vertices (c - 1) c 0 within ∙ own (c - 1) within ∙ (let e : c - 1 + 1 ≡ c = omega (arith, vertex.0) in e))

pub own_roots : (vertices labels : List ℕ) → length vertices ≡ length labels → ((k : ℕ) → k < length vertices → get_or vertices k 0 ≡ k + 1)
    → AreRoots labels (filter (λ c. label_of labels c == c) vertices)
own_roots vertices labels long own = record {
  ascending = AllPairs-filter (λ b c. b < c) (λ c. label_of labels c == c) vertices (vertices_ascend vertices own);
  exact = λ c. (to c, back c);
}
  where
    to : (c : ℕ) → Contains (filter (λ c. label_of labels c == c) vertices) c → IsRoot labels c
    to c c_in =
        let (among, itself) = kept_in (λ c. label_of labels c == c) vertices c c_in in
        (subst (λ n. IsVertex n c) long (contained_is_vertex vertices c own among), eqb-true (label_of labels c) c itself)

    back : (c : ℕ) → IsRoot labels c → Contains (filter (λ c. label_of labels c == c) vertices) c
    back c (vertex, itself) =
        kept_if (λ c. label_of labels c == c) vertices c (vertex_is_contained vertices c own (subst (λ n. IsVertex n c) (sym long) vertex)) (eq-eqb (label_of labels c) c itself)

-- `u` is the least of the roots from index `k` on with the parent `p`
pub record IsLeastFrom (roots parents : List ℕ) (k p u : ℕ) : Type 0 where
  pub root : Contains roots u
  pub same : get_or parents u 0 ≡ p
  pub least : (j : ℕ) → k ≤ j → j < length roots → get_or parents (get_or roots j 0) 0 ≡ p → u ≤ get_or roots j 0

-- the least of the roots from index `k` on with each parent is stored
pub record AreFoundFrom (roots parents least : List ℕ) (k : ℕ) : Type 0 where
  pub room : (c : ℕ) → Contains roots c → c < length least
  pub found : (j : ℕ) → k ≤ j → j < length roots → IsLeastFrom roots parents k (get_or parents (get_or roots j 0) 0) (get_or least (get_or parents (get_or roots j 0) 0) 0)

-- another root, which is less than those before
pub found_more : (roots parents least : List ℕ) (k c p : ℕ) → AllPairs (λ b c. b < c) roots → ArePointers roots parents → k < length roots → get_or roots k 0 ≡ c → get_or parents c 0 ≡ p
    → AreFoundFrom roots parents least (k + 1) → AreFoundFrom roots parents (set least p c) k
found_more roots parents least k c p ascending pointers k_in c_is p_is are = record {
  room = λ b b_in. subst (λ m. b < m) (sym (length-set least p c)) (are.room b b_in);
  found = λ j from within. elim (cases_eq (get_or parents (get_or roots j 0) 0) p) [
    | inl is ↦
        let here : get_or (set least p c) (get_or parents (get_or roots j 0) 0) 0 ≡ c = ap (λ q. get_or (set least p c) q 0) is ∙ get_or-set_same least p c 0 p_in in
        subst (IsLeastFrom roots parents k (get_or parents (get_or roots j 0) 0)) (sym here) (record {
          root = c_in;
          same = p_is ∙ sym is;
          least = λ i from' within' _. not_above i from' within';
        })
    | inr other ↦
        let kept : get_or (set least p c) (get_or parents (get_or roots j 0) 0) 0 ≡ get_or least (get_or parents (get_or roots j 0) 0) 0 =
        get_or-set_other least p (get_or parents (get_or roots j 0) 0) c 0 other in
        let later : k + 1 ≤ j = elim (cases_lt k j) [
          | inl lt ↦ omega (arith, lt)
          | inr ge ↦ let itself : j ≡ k = omega (arith, ge, from) in absurd (other (ap (λ i. get_or parents (get_or roots i 0) 0) itself ∙ ap (λ b. get_or parents b 0) c_is ∙ p_is))
        ] in
        let before = are.found j later within in
        subst (IsLeastFrom roots parents k (get_or parents (get_or roots j 0) 0)) (sym kept) (record {
          root = before.root;
          same = before.same;
          least = λ i from' within' same'. elim (cases_lt k i) [
            | inl lt ↦ before.least i (omega (arith, lt)) within' same'
            | inr ge ↦ let itself : i ≡ k = omega (arith, ge, from') in absurd (other (sym same' ∙ ap (λ m. get_or parents (get_or roots m 0) 0) itself ∙ ap (λ b. get_or parents b 0) c_is ∙ p_is))
          ];
        })
  ];
}
  where
    c_in : Contains roots c
    c_in = subst (Contains roots) c_is (Contains-get_or roots k 0 k_in)

    p_in : p < length least
    p_in = are.room p (subst (Contains roots) p_is (pointers.closed c c_in))

    not_above : (i : ℕ) → k ≤ i → i < length roots → c ≤ get_or roots i 0
    not_above i from within = elim (cases_lt k i) [
      | inl lt ↦ let less : get_or roots k 0 < get_or roots i 0 = ascending k i 0 lt within in omega (arith, less, c_is)
      | inr ge ↦ let itself : get_or roots k 0 ≡ get_or roots i 0 = ap (λ m. get_or roots m 0) (let e : k ≡ i = omega (arith, ge, from) in e) in omega (arith, itself, c_is)
    ]

pub found_all : (roots parents least : List ℕ) → AreFoundFrom roots parents least 0 → (c : ℕ) → Contains roots c → IsLeastUnder roots parents c (get_or least (get_or parents c 0) 0)
found_all roots parents least are c (j, within, here) = subst (λ b. IsLeastUnder roots parents b (get_or least (get_or parents b 0) 0)) (get_or_default roots j 0 c within ∙ here) (record {
  root = found.root;
  same = found.same;
  least = λ w (i, i_in, is) same.
      let at : get_or roots i 0 ≡ w = get_or_default roots i 0 w i_in ∙ is in
      subst (λ b. get_or least (get_or parents (get_or roots j 0) 0) 0 ≤ b) at (found.least i (omega arith) i_in (ap (λ b. get_or parents b 0) at ∙ same));
})
  where
    found : IsLeastFrom roots parents 0 (get_or parents (get_or roots j 0) 0) (get_or least (get_or parents (get_or roots j 0) 0) 0)
    found = are.found j (omega arith) within

-- the first `k` roots have the least root under their parent instead of it
pub record AreNamed (roots least old new : List ℕ) (k : ℕ) : Type 0 where
  pub long : length new ≡ length old
  pub named : (j : ℕ) → j < k → j < length roots → get_or new (get_or roots j 0) 0 ≡ get_or least (get_or old (get_or roots j 0) 0) 0
  pub rest : (j : ℕ) → k ≤ j → j < length roots → get_or new (get_or roots j 0) 0 ≡ get_or old (get_or roots j 0) 0

module _ (roots least old new : List ℕ) (k : ℕ) (ascending : AllPairs (λ b c. b < c) roots)
    (k_in : k < length roots) (c_in : get_or roots k 0 < length old) (are : AreNamed roots least old new k) where
  abbrev c : ℕ
  c = get_or roots k 0

  abbrev u : ℕ
  u = get_or least (get_or new c 0) 0

  apart : (j : ℕ) → j ≢ k → j < length roots → get_or roots j 0 ≢ c
  apart j other within same = search (arith, cases_lt)

  pub named_more : AreNamed roots least old (set new c u) (k + 1)
  named_more = search (arith, length-set, cases_lt, get_or-set_other, apart, set, get_or-set_same)

pub named_all : (roots least old new : List ℕ) (k : ℕ) → length roots ≤ k → AreNamed roots least old new k → (c : ℕ) → Contains roots c → get_or new c 0 ≡ get_or least (get_or old c 0) 0
named_all roots least old new k past are c (j, within, here) =
    subst (λ b. get_or new b 0 ≡ get_or least (get_or old b 0) 0) (get_or_default roots j 0 c within ∙ here) (are.named j (omega (arith, past, within)) within)

-- All vertices that the labels and the picks connect to a root have one parent, since all parents are settled. A vertex
-- is never less than its label, so the least root under that parent is the least vertex too.
pub least_joined : (labels roots parents : List ℕ) (picks : List (Option Link)) → AreLabels labels → AreRoots labels roots → AreParents labels roots picks parents → AreSettled roots parents
    → (c u : ℕ) → IsRoot labels c → IsLeastUnder roots parents c u → IsLeastJoinedOver (length labels) labels (Picked picks) c u
least_joined labels roots parents picks are are_roots are_parents settled c u root name = record {
  vertex = ((are_roots.exact u).0 name.root).0;
  joined = over_then labels (Picked picks) (Picked picks) (λ l l_in. l_in) c (get_or parents c 0) u (are_parents.joined c ((are_roots.exact c).1 root)) down;
  least = λ w vertex over.
      let le : u ≤ label_of labels w = name.least (label_of labels w) ((are_roots.exact (label_of labels w)).1 (end_root labels are w vertex)) (sym (one_parent w over)) in
      let at : label_of labels w ≤ w = (are.labelled w vertex.0 vertex.1).at_most_itself in
      omega (arith, le, at);
}
  where
    down : JoinsOver labels (Picked picks) (get_or parents c 0) u
    down = subst (λ p. JoinsOver labels (Picked picks) p u) name.same (over_back labels (Picked picks) u (get_or parents u 0) (are_parents.joined u name.root))

    one_parent : (w : ℕ) → JoinsOver labels (Picked picks) c w → get_or parents c 0 ≡ get_or parents (label_of labels w) 0
    one_parent w over = ap (λ b. get_or parents b 0) (sym root.1)
        ∙ over_equal labels (Picked picks) (λ b. get_or parents b 0) (are_parents.together (λ b. get_or parents b 0) (λ b b_in. sym (settled b b_in))) c w over

-- the name of each root, at the root's index, is the least vertex to which the components of the labels and the picks
-- connect it
abbrev AreNames : List ℕ → List (Option Link) → List ℕ → Type 0
AreNames labels picks names = (c : ℕ) → IsRoot labels c → IsLeastJoinedOver (length labels) labels (Picked picks) c (get_or names c 0)

-- The labels by these names: what is connected to a vertex is connected to its label.
relabelled_by_names : (labels names new : List ℕ) (picks : List (Option Link)) → AreLabels labels → AreNames labels picks names → new ≡ map (λ c. get_or names c 0) labels
    → IsRelabelling (length labels) labels (Picked picks) new
relabelled_by_names labels names new picks are named new_is = record {
  each_vertex = ap length new_is ∙ length-map labels (λ c. get_or names c 0);
  least = λ v vertex.
      let root = end_root labels are v vertex in
      let name = named (label_of labels v) root in
      subst (IsLeastJoinedOver (length labels) labels (Picked picks) v) (sym (new_at v vertex)) (record {
        vertex = name.vertex;
        joined = over_from labels (Picked picks) v (label_of labels v) (get_or names (label_of labels v) 0) (sym root.1) name.joined;
        least = λ w w_vertex over. name.least w w_vertex (over_from labels (Picked picks) (label_of labels v) v w root.1 over);
      });
}
  where
    new_at : (v : ℕ) → IsVertex (length labels) v → label_of new v ≡ get_or names (label_of labels v) 0
    new_at v vertex = ap (λ xs. label_of xs v) new_is ∙ get_or-map (λ c. get_or names c 0) labels (v - 1) 0 0 (omega (arith, vertex.0, vertex.1))

-- the roots that label themselves under the new labels too are the roots of those
pub kept_roots : (labels roots new : List ℕ) (picks : List (Option Link)) → AreLabels labels → AreLabels new → AreRoots labels roots → IsRelabelling (length labels) labels (Picked picks) new
    → AreRoots new (filter (λ c. label_of new c == c) roots)
kept_roots labels roots new picks are are_new are_roots is = record {
  ascending = AllPairs-filter (λ b c. b < c) (λ c. label_of new c == c) roots are_roots.ascending;
  exact = λ c. (to c, back c);
}
  where
    to : (c : ℕ) → Contains (filter (λ c. label_of new c == c) roots) c → IsRoot new c
    to c c_in =
        let (in_roots, own) = kept_in (λ c. label_of new c == c) roots c c_in in
        let vertex : IsVertex (length labels) c = ((are_roots.exact c).0 in_roots).0 in
        (subst (λ n. IsVertex n c) (sym is.each_vertex) vertex, eqb-true (label_of new c) c own)

    back : (c : ℕ) → IsRoot new c → Contains (filter (λ c. label_of new c == c) roots) c
    back c (vertex, own) =
        let here : IsVertex (length labels) c = subst (λ n. IsVertex n c) is.each_vertex vertex in
        let old = are.labelled c here.0 here.1 in
        let label : label_of labels c ≤ c = old.at_most_itself in
        let joined : JoinsOver labels (Picked picks) c (label_of labels c) = over_same labels (Picked picks) c (label_of labels c) (sym old.own) in
        let root = end_root labels are c here in
        let least : label_of new c ≤ label_of labels c = (is.least c here).least (label_of labels c) root.0 joined in
        let same : label_of labels c ≡ c = omega (arith, label, least, own) in
        kept_if (λ c. label_of new c == c) roots c ((are_roots.exact c).1 (here, same)) (eq-eqb (label_of new c) c own)

-- A vertex is written after those retained, and counted if it passes.
pub kept_by_test : (p : ℕ → Bool) (xs ys : List ℕ) (k k' i x : ℕ) → FiltersInPlace p xs ys k i
    → i < length ys → x ≡ get_or ys i x → k' ≡ k + bool_byte (p x) → FiltersInPlace p xs (set ys k x) k' (i + 1)
kept_by_test p xs ys k k' i x so_far within at count = by_test (p x) refl
  where
    by_test : (b : Bool) → p x ≡ b → FiltersInPlace p xs (set ys k x) k' (i + 1)
    by_test true is =
        let more : k + 1 ≡ k' = sym (count ∙ ap (λ b. k + bool_byte b) is) in
        subst (λ n. FiltersInPlace p xs (set ys k x) n (i + 1)) more (FiltersInPlace-more_set {x = x} so_far within is at)
    by_test false is =
        let passed : FiltersInPlace p xs ys k (i + 1) = FiltersInPlace-more_no {x = x} so_far within is at in
        let same : k ≡ k' = omega (arith, count ∙ ap (λ b. k + bool_byte b) is) in
        let before = so_far.behind in
        subst (λ n. FiltersInPlace p xs (set ys k x) n (i + 1)) same (record {
          front = take-set ys k x ∙ passed.front;
          rest = drop-set-lt (i + 1) ys k x (omega (arith, before)) ∙ passed.rest;
          behind = passed.behind;
          within = passed.within;
          long = length-set ys k x ∙ passed.long;
        })

-- a number above all roots is above all labels
labels_within : (labels roots : List ℕ) (m : ℕ) → AreLabels labels → AreRoots labels roots → All (λ c. c < m) roots → All (λ c. c < m) labels
labels_within labels roots m are are_roots within k d lt =
    let back : k + 1 - 1 ≡ k = omega arith in
    let at : get_or labels k d ≡ label_of labels (k + 1) = get_or_default labels k d 0 lt ∙ ap (λ j. get_or labels j 0) (sym back) in
    let root = end_root labels are (k + 1) (omega arith, omega (arith, lt)) in
    subst (λ c. c < m) (sym at) (All-contains (λ c. c < m) roots (label_of labels (k + 1)) within ((are_roots.exact (label_of labels (k + 1))).1 root))

-- there are no more roots than vertices: the root at index `j` is above `j`
pub roots_few : (labels roots : List ℕ) → AreRoots labels roots → length roots ≤ length labels
roots_few labels roots are = elim (cases_lt 0 (length roots)) [
  | inl some ↦
      let last : length roots - 1 < length roots = omega (arith, some) in
      let above : length roots - 1 < get_or roots (length roots - 1) 0 = at (length roots - 1) last in
      let vertex : get_or roots (length roots - 1) 0 ≤ length labels = (root (length roots - 1) last).0.1 in
      omega (arith, above, vertex)
  | inr none ↦ omega (arith, none)
]
  where
    root : (j : ℕ) → j < length roots → IsRoot labels (get_or roots j 0)
    root j lt = (are.exact (get_or roots j 0)).0 (Contains-get_or roots j 0 lt)

    at : (j : ℕ) → j < length roots → j < get_or roots j 0
    at zero lt = (root 0 lt).0.0
    at (suc j) lt = search (arith, at j)

pub roots_within : (labels roots : List ℕ) (n : ℕ) → n ≡ length labels → AreRoots labels roots → All (IsVertex n) roots
roots_within labels roots n is are k d lt = subst (λ m. IsVertex m (get_or roots k d)) (sym is) ((are.exact (get_or roots k d)).0 (Contains-get_or roots k d lt)).0

-- roots are below any number above the number of vertices
pub roots_below : (labels roots : List ℕ) (n m : ℕ) → n ≡ length labels → n < m → AreRoots labels roots → All (λ c. c < m) roots
roots_below labels roots n m is above are k d lt = let vertex = roots_within labels roots n is are k d lt in omega (arith, vertex.1, above)

pub relabels : (labels roots names : List ℕ) (picks : List (Option Link)) → AreLabels labels → AreRoots labels roots
    → All (λ c. c < length names) roots → AreNames labels picks names → Relabels labels picks names
relabels labels roots names picks are are_roots within named = record {
  within = labels_within labels roots (length names) are are_roots within;
  relabelling = is;
  labelled = relabelling_is_labels (length labels) (Picked picks) labels (renamed names labels) are.few_vertices is;
}
  where
    is : IsRelabelling (length labels) labels (Picked picks) (renamed names labels)
    is = relabelled_by_names labels names (renamed names labels) picks are named refl
