-- A labelling made link by link. At first each vertex labels itself, and each link replaces the greater label of its
-- endpoints by the lesser.
use Rattle.std.proofs.Common.{◌≡◌, ◌≢◌, ℕ, ◌+◌, ◌-◌, ◌<◌, ◌≤◌, ◌⊎◌, ◌==◌, ◌↔◌, min, max, cond, List, []}
use Rattle.std.proofs.Common.{◌∷◌, ◌++◌, length, get_or, take, Contains, refl, sym, ap, ◌∙◌, subst, inl, inr, arith, eq-eqb, ne_eqb}
use Rattle.std.specs.Prelude.{if◌then◌else◌}
use Rattle.std.proofs.lemmas.Bool.{cases_eq, cases_lt}
use Rattle.std.proofs.lemmas.List.{take_more}
use Rattle.std.proofs.lemmas.List.Elements.{Contains-append_left, Contains-push, Contains-push_cases}
use Rattle.links.specs.declared.links.Link.{Link}
use Rattle.links.specs.Walk.{Joins}
use Rattle.links.proofs.Members.{contains_none}
use Rattle.links.proofs.Walks.{WithLink, joins_same, joins_symm, joins_trans, joins_link, joins_more, joins_equal, joins_one_more}
use Rattle.round_theory.specs.LinkSet.{LinkSet, SameLinks}
use Rattle.links.specs.Labels.{label_of, AreApart}
use Rattle.round_theory.specs.Labelling.{IsVertex, IsLeastJoined, IsLabelling}
use Rattle.round_theory.proofs.Labels.{one_label, low_vertex, high_vertex, labelling_alike}

-- without links each vertex labels itself
pub labelling_none : (n : ℕ) (labels : List ℕ) → length labels ≡ n → ((k : ℕ) → k < length labels → get_or labels k 0 ≡ k + 1) → IsLabelling n (Contains []) labels
labelling_none n labels long own = record {
  each_vertex = long;
  least = λ v vertex.
      let itself : label_of labels v ≡ v = own (v - 1) (omega (arith, vertex.0, vertex.1)) ∙ omega (arith, vertex.0) in
      record {
        joined = joins_same (Contains []) v (label_of labels v) (sym itself);
        least = λ w joined. let same : v ≡ w = joins_equal (Contains []) (λ x. x) (λ l l_in. absurd (contains_none l l_in)) v w joined in omega (arith, itself, same);
      };
}

-- labels by which each vertex labels itself are the labelling by no links
pub apart_by_no_links : (n : ℕ) (labels : List ℕ) → AreApart n labels ↔ IsLabelling n (Contains []) labels
apart_by_no_links n labels = (
  λ apart. labelling_none n labels apart.vertices
      (λ k lt. let back : k + 1 - 1 ≡ k = omega arith in subst (λ j. get_or labels j 0 ≡ k + 1) back (apart.itself (k + 1) (omega arith) (omega (arith, apart.vertices)))),
  λ is. record {
    vertices = is.each_vertex;
    itself = λ v low high. sym (joins_equal (Contains []) (λ x. x) (λ l l_in. absurd (contains_none l l_in)) v (label_of labels v) (is.least v (low, high)).joined);
  },
)

-- vertices with label `from` get label `to`, and all others keep theirs
pub record IsMoved (n from to : ℕ) (old new : List ℕ) : Type 0 where
  pub each_vertex : length new ≡ n
  pub moved : (v : ℕ) → IsVertex n v → label_of old v ≡ from → label_of new v ≡ to
  pub kept : (v : ℕ) → IsVertex n v → label_of old v ≢ from → label_of new v ≡ label_of old v

pub moved_by_test : (n from to : ℕ) (old new : List ℕ) → length old ≡ n → length new ≡ n
    → ((k : ℕ) → k < length old → get_or new k 0 ≡ (if get_or old k 0 == from then to else get_or old k 0)) → IsMoved n from to old new
moved_by_test n from to old new old_long new_long each = search (arith, cond, eq-eqb, ne_eqb)

-- One link is added: the greater label of its endpoints is replaced by the lesser. Each vertex stays joined to its
-- label. All vertices that the link newly joins to it are at least one of the two labels, and so at least the lesser.
module _ (n : ℕ) (S : LinkSet) (old new : List ℕ) (l : Link) (is : IsLabelling n S old) (l_ends : l.high ≤ n)
    (moved : IsMoved n (max (label_of old l.low) (label_of old l.high)) (min (label_of old l.low) (label_of old l.high)) old new) where
  abbrev a : ℕ
  a = label_of old l.low

  abbrev b : ℕ
  b = label_of old l.high

  at_low : IsLeastJoined S l.low a
  at_low = is.least l.low (low_vertex n l l_ends)

  at_high : IsLeastJoined S l.high b
  at_high = is.least l.high (high_vertex n l l_ends)

  old_joined : (u v : ℕ) → Joins S u v → Joins (WithLink S l) u v
  old_joined = joins_more S (WithLink S l) (λ m m_in. inl m_in)

  -- the link joins the two labels
  labels_joined : Joins (WithLink S l) a b
  labels_joined =
      joins_trans (WithLink S l) a l.low b (joins_symm (WithLink S l) l.low a (old_joined l.low a at_low.joined))
      (joins_trans (WithLink S l) l.low l.high b (joins_link (WithLink S l) l (inr refl)) (old_joined l.high b at_high.joined))

  greater_to_lesser : Joins (WithLink S l) (max a b) (min a b)
  greater_to_lesser = search (arith, cases_lt, max, min, labels_joined, joins_symm)

  -- a new label isn't greater than the old one
  not_greater : (v : ℕ) → IsVertex n v → label_of new v ≤ label_of old v
  not_greater v vertex = search (arith, cases_eq, max)

  -- a vertex with the label of either endpoint gets the lesser of the two
  lesser_of : (v : ℕ) → IsVertex n v → (label_of old v ≡ a) ⊎ (label_of old v ≡ b) → label_of new v ≡ min a b
  lesser_of v vertex either = search (arith, cases_eq, max)

  pub labelling_one_more : IsLabelling n (WithLink S l) new
  labelling_one_more = record {
    each_vertex = moved.each_vertex;
    least = λ v vertex. record { joined = to_label v vertex; least = λ w joined. not_after v vertex w ((joins_one_more S l v w).0 joined) };
  }
    where
      to_label : (v : ℕ) → IsVertex n v → Joins (WithLink S l) v (label_of new v)
      to_label v vertex = elim (cases_eq (label_of old v) (max a b)) [
        | inl same ↦ subst (Joins (WithLink S l) v) (sym (moved.moved v vertex same))
            (joins_trans (WithLink S l) v (max a b) (min a b) (subst (Joins (WithLink S l) v) same (old_joined v (label_of old v) (is.least v vertex).joined)) greater_to_lesser)
        | inr other ↦ subst (Joins (WithLink S l) v) (sym (moved.kept v vertex other)) (old_joined v (label_of old v) (is.least v vertex).joined)
      ]

      not_after : (v : ℕ) → IsVertex n v → (w : ℕ) → Joins S v w ⊎ (Joins S v l.low × Joins S l.high w) ⊎ (Joins S v l.high × Joins S l.low w) → label_of new v ≤ w
      not_after v vertex w (inl joined) = omega (arith, not_greater v vertex, (is.least v vertex).least w joined)
      not_after v vertex w (inr (inl (to, from))) =
          omega (arith, lesser_of v vertex (inl ((one_label n S old is v l.low vertex (low_vertex n l l_ends)).1 to)), at_high.least w from)
      not_after v vertex w (inr (inr (to, from))) =
          omega (arith, lesser_of v vertex (inr ((one_label n S old is v l.high vertex (high_vertex n l l_ends)).1 to)), at_low.least w from)

-- the links of a prefix of the list, and the next link
prefix_with_link : (links : List Link) (i : ℕ) (x : Link) → i < length links → x ≡ get_or links i x → SameLinks (WithLink (Contains (take i links)) x) (Contains (take (i + 1) links))
prefix_with_link links i x within read l = (to, back)
  where
    prefix : take i links ++ x ∷ [] ≡ take (i + 1) links
    prefix = sym (take_more links i x within ∙ ap (λ y. take i links ++ y ∷ []) (sym read))

    to : WithLink (Contains (take i links)) x l → Contains (take (i + 1) links) l
    to (inl in_prefix) = subst (λ xs. Contains xs l) prefix (Contains-append_left (take i links) (x ∷ []) l in_prefix)
    to (inr same) = subst (λ xs. Contains xs l) prefix (subst (Contains (take i links ++ x ∷ [])) (sym same) (Contains-push (take i links) x))

    back : Contains (take (i + 1) links) l → WithLink (Contains (take i links)) x l
    back l_in = elim (Contains-push_cases (take i links) x l (subst (λ xs. Contains xs l) (sym prefix) l_in)) [ inl in_prefix ↦ inl in_prefix | inr same ↦ inr (sym same) ]

-- the labels after the next link of a list
pub labelling_more : (n : ℕ) (links : List Link) (i : ℕ) (x : Link) (old new : List ℕ) → i < length links → x ≡ get_or links i x → x.high ≤ n → IsLabelling n (Contains (take i links)) old
    → IsMoved n (max (label_of old x.low) (label_of old x.high)) (min (label_of old x.low) (label_of old x.high)) old new → IsLabelling n (Contains (take (i + 1) links)) new
labelling_more n links i x old new within read ends is moved =
    labelling_alike n (WithLink (Contains (take i links)) x) (Contains (take (i + 1) links)) new (prefix_with_link links i x within read)
    (labelling_one_more n (Contains (take i links)) old new x is ends moved)
