-- If it is decidable what a set of links joins, the set has exactly one labelling.
use Rattle.std.proofs.Common.{◌^◌, ◌≡◌, ℕ, zero, suc, ◌+◌, ◌-◌, ◌<◌, ◌≤◌, ◌⊎◌, ◌↔◌, List, map, length, get_or, Contains, sym, ◌∙◌, subst, inl, inr, arith}
use Rattle.std.specs.List.{range_with_len}
use Rattle.std.proofs.lemmas.Grind.{same_number_lists}
use Rattle.std.proofs.lemmas.List.FromFn.{length-map-range_with_len, get_or-map-range_with_len}
use Rattle.std.proofs.lemmas.Bool.{cases_lt}
use Rattle.links.specs.declared.links.Link.{Link}
use Rattle.links.specs.Walk.{Joins}
use Rattle.links.proofs.Walks.{Decided, Passing, joins_refl, joins_symm, joins_trans, joins_alike, joins_least, joins_dec, dec_along}
use Rattle.round_theory.specs.LinkSet.{LinkSet, SameLinks}
use Rattle.links.specs.Labels.{label_of, IsLabelled, AreLabels}
use Rattle.round_theory.specs.Labelling.{IsVertex, IsLeastJoined, IsLabelling}

-- whether the links of a list join two vertices is decidable
pub list_joins_dec : (links : List Link) (u v : ℕ) → Decided (Joins (Contains links) u v)
list_joins_dec links u v =
    dec_along (at.0) (at.1) (joins_dec (λ _. Unit {0}) (λ _. inl tt) links u v)
  where
    at : Joins (Passing links (λ _. Unit {0})) u v ↔ Joins (Contains links) u v
    at = joins_alike (Passing links (λ _. Unit {0})) (Contains links) (λ l. (λ is_in. is_in.0, λ is_in. (is_in, tt))) u v

-- the least number with a decidable property, if a number below the bound has it
pub least_below : (P : ℕ → Type 0) → ((u : ℕ) → Decided (P u)) → (k : ℕ) → ((u : ℕ) × P u × ((w : ℕ) → P w → u ≤ w)) ⊎ ((w : ℕ) → w < k → ¬ (P w))
least_below P test zero = inr (λ w lt. absurd (omega arith))
least_below P test (suc k) = elim (least_below P test k) [
  | inl found ↦ inl found
  | inr none ↦ elim (test k) [
    | inl here ↦ inl (k, here, λ w p. elim (cases_lt w k) [ inl lt ↦ absurd (none w lt p) | inr le ↦ le ])
    | inr fails ↦ inr (λ w lt p. elim (cases_lt w k) [ inl lt' ↦ none w lt' p | inr le ↦ let same : w ≡ k = omega arith in fails (subst P same p) ])
  ]
]

-- the least vertex that is joined to v: v itself is joined to v, so one exists
pub least_joined : (S : LinkSet) → ((u v : ℕ) → Decided (Joins S u v)) → (v : ℕ) → (u : ℕ) × IsLeastJoined S v u
least_joined S test v = elim (least_below (Joins S v) (test v) (suc v)) [
  | inl found ↦ (found.0, record { joined = found.1; least = found.2 })
  | inr none ↦ absurd (none v (omega arith) (joins_refl S v))
]

-- the list of f 1, f 2 up to f n
pub vertex_list : (ℕ → ℕ) → ℕ → List ℕ
vertex_list f n = map f (range_with_len 1 n)

pub length-vertex_list : (f : ℕ → ℕ) (n : ℕ) → length (vertex_list f n) ≡ n
unfolding vertex_list
length-vertex_list f n = length-map-range_with_len f 1 n

pub label_of-vertex_list : (f : ℕ → ℕ) (n v : ℕ) → IsVertex n v → label_of (vertex_list f n) v ≡ f v
unfolding vertex_list
label_of-vertex_list f n v (low, high) = get_or-map-range_with_len f 1 n (v - 1) v 0 (omega arith) (omega arith)

pub labelling_exists : (n : ℕ) (S : LinkSet) → ((u v : ℕ) → Decided (Joins S u v)) → (labels : List ℕ) × IsLabelling n S labels
labelling_exists n S test = (
  vertex_list (λ v. (least_joined S test v).0) n,
  record {
    each_vertex = length-vertex_list (λ v. (least_joined S test v).0) n;
    least = λ v vertex. subst (IsLeastJoined S v) (sym (label_of-vertex_list (λ v. (least_joined S test v).0) n v vertex)) (least_joined S test v).1;
  },
)

-- two lists of labels with the same length and the same label of each vertex are equal
pub same_labels : (n : ℕ) (a b : List ℕ) → length a ≡ n → length b ≡ n → ((v : ℕ) → IsVertex n v → label_of a v ≡ label_of b v) → a ≡ b
same_labels n a b a_long b_long each = same_number_lists a b (a_long ∙ sym b_long) (λ k lt.
    let back : k + 1 - 1 ≡ k = omega arith in
    subst (λ j. get_or a j 0 ≡ get_or b j 0) back (each (k + 1) (omega arith, omega arith)))

pub labelling_unique : (n : ℕ) (S : LinkSet) (a b : List ℕ) → IsLabelling n S a → IsLabelling n S b → a ≡ b
labelling_unique n S a b is_a is_b = same_labels n a b is_a.each_vertex is_b.each_vertex (λ v vertex.
    let at_a = is_a.least v vertex in
    let at_b = is_b.least v vertex in
    let le : label_of a v ≤ label_of b v = at_a.least (label_of b v) at_b.joined in
    let ge : label_of b v ≤ label_of a v = at_b.least (label_of a v) at_a.joined in
    omega arith)

-- a labelling by a set is a labelling by each set with the same links
pub labelling_alike : (n : ℕ) (S R : LinkSet) (labels : List ℕ) → SameLinks S R → IsLabelling n S labels → IsLabelling n R labels
labelling_alike n S R labels same is = record {
  each_vertex = is.each_vertex;
  least = λ v vertex. record {
    joined = (joins_alike S R same v (label_of labels v)).0 (is.least v vertex).joined;
    least = λ w joined. (is.least v vertex).least w ((joins_alike S R same v w).1 joined);
  };
}

-- Two vertices have the same label exactly if the set joins them. Each is joined to its label, and joined vertices are
-- joined to the same vertices.
pub one_label : (n : ℕ) (S : LinkSet) (labels : List ℕ) → IsLabelling n S labels → (u v : ℕ) → IsVertex n u → IsVertex n v → (label_of labels u ≡ label_of labels v) ↔ Joins S u v
one_label n S labels is u v u_vertex v_vertex = (to, back)
  where
    at_u : IsLeastJoined S u (label_of labels u)
    at_u = is.least u u_vertex

    at_v : IsLeastJoined S v (label_of labels v)
    at_v = is.least v v_vertex

    to : label_of labels u ≡ label_of labels v → Joins S u v
    to same = joins_trans S u (label_of labels u) v at_u.joined (subst (λ x. Joins S x v) (sym same) (joins_symm S v (label_of labels v) at_v.joined))

    back : Joins S u v → label_of labels u ≡ label_of labels v
    back joined =
        let le : label_of labels u ≤ label_of labels v = at_u.least (label_of labels v) (joins_trans S u v (label_of labels v) joined at_v.joined) in
        let ge : label_of labels v ≤ label_of labels u = at_v.least (label_of labels u) (joins_trans S v u (label_of labels u) (joins_symm S u v joined) at_u.joined) in
        omega arith

-- the endpoints of a link are vertices
pub low_vertex : (n : ℕ) (l : Link) → l.high ≤ n → IsVertex n l.low
low_vertex n l le = (l.from_one, omega (arith, l.ascending, le))

pub high_vertex : (n : ℕ) (l : Link) → l.high ≤ n → IsVertex n l.high
high_vertex n l le = (omega (arith, l.from_one, l.ascending), le)

-- the endpoints of a link have the same label exactly if the set joins them
pub ends_label : (n : ℕ) (S : LinkSet) (labels : List ℕ) → IsLabelling n S labels → (l : Link) → l.high ≤ n → (label_of labels l.low ≡ label_of labels l.high) ↔ Joins S l.low l.high
ends_label n S labels is l le = one_label n S labels is l.low l.high (low_vertex n l le) (high_vertex n l le)

-- the vertices that a vertex is joined to are at least 1, as the endpoints of each link are
pub joined_from_one : (S : LinkSet) (u v : ℕ) → Joins S u v → 1 ≤ u → 1 ≤ v
joined_from_one S u v joined = (joins_least S (λ x y. (1 ≤ x) ↔ (1 ≤ y)) (λ x. (λ p. p, λ p. p)) (λ x y e. (e.1, e.0)) (λ x y z e f. (λ p. f.0 (e.0 p), λ p. e.1 (f.1 p)))
    (λ l is_in. (λ _. omega (arith, l.from_one, l.ascending), λ _. l.from_one)) u v joined).0

pub label_has_itself : (n : ℕ) (S : LinkSet) (labels : List ℕ) → IsLabelling n S labels → (v : ℕ) → IsVertex n v → IsLabelled labels v
label_has_itself n S labels is v vertex =
    let at = is.least v vertex in
    let low : 1 ≤ label_of labels v = joined_from_one S v (label_of labels v) at.joined vertex.0 in
    let high : label_of labels v ≤ v = at.least v (joins_refl S v) in
    let le : label_of labels v ≤ n = omega (arith, vertex.1, high) in
    record {
      from_one = low;
      at_most_itself = high;
      own = (one_label n S labels is (label_of labels v) v (low, le) vertex).1 (joins_symm S v (label_of labels v) at.joined);
    }

pub labelling_is_labels : (n : ℕ) (S : LinkSet) (labels : List ℕ) → n ≤ 2 ^ 26 → IsLabelling n S labels → AreLabels labels
labelling_is_labels n S labels few is = record {
  few_vertices = omega (arith, is.each_vertex);
  labelled = λ v low high. label_has_itself n S labels is v (low, omega (arith, is.each_vertex, high));
}
