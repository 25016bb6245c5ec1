-- Adding links to a set: what they join over its components, and that picks close no cycle.
use Rattle.std.proofs.Common.{refl, ◌^◌, ◌≤◌, arith, ◌≡◌, ◌≢◌, ℕ, ◌⊎◌, ◌↔◌, List, [], ◌∷◌, ◌++◌, Contains, sym, ap, ◌∙◌, inl, inr}
use Rattle.std.specs.List.{AllByRecursion}
use Rattle.std.proofs.lemmas.List.Elements.{Contains-append_cases, Contains-append_left, Contains-append_right}
use Rattle.links.specs.declared.links.Link.{Link}
use Rattle.links.specs.Link.{IsBelow, EndsUpTo}
use Rattle.links.specs.Walk.{IsWalk, Joins}
use Rattle.links.proofs.Walks.{joins_trans, joins_link, joins_link_back, joins_more, joins_least, joins_alike}
use Rattle.round_theory.specs.LinkSet.{LinkSet, Either, IsPartOf, SameLinks, HasNoCycle}
use Rattle.links.specs.Labels.{label_of, IsLabelled, AreLabels}
use Rattle.round_theory.specs.Labelling.{IsVertex, IsLabelling, IsWalkOver, JoinsOver, IsRelabelling}
use Rattle.round_theory.specs.Offers.{IsLeastLeaving, IsPick}
use Rattle.round_theory.proofs.Lists.{HasEndsUpTo, set_ends}
use Rattle.links.proofs.Cycles.{no_cycle_part, no_cycle_either}
use Rattle.round_theory.proofs.Labels.{same_labels, one_label, low_vertex, high_vertex, ends_label, labelling_alike}
use Rattle.round_theory.proofs.Leaving.{crossing_ends, leaves_apart, leaves_end}

-- the links of two concatenated lists
pub append_either : (xs ys : List Link) → SameLinks (Contains (xs ++ ys)) (Either (Contains xs) (Contains ys))
append_either xs ys l = (λ is_in. Contains-append_cases xs ys l is_in, back)
  where
    back : Either (Contains xs) (Contains ys) l → Contains (xs ++ ys) l
    back (inl in_xs) = Contains-append_left xs ys l in_xs
    back (inr in_ys) = Contains-append_right xs ys l in_ys

pub ends_either : (n : ℕ) (S P : LinkSet) → HasEndsUpTo n S → HasEndsUpTo n P → HasEndsUpTo n (Either S P)
ends_either a1 a2 a3 a4 a5 a6 a7 = search arith

-- a vertex is joined only to vertices
pub joined_vertex : (n : ℕ) (S : LinkSet) → HasEndsUpTo n S → (u v : ℕ) → Joins S u v → IsVertex n u → IsVertex n v
joined_vertex n S ends u v joined =
    (joins_least S (λ x y. IsVertex n x ↔ IsVertex n y) (λ x. (λ p. p, λ p. p)) (λ x y e. (e.1, e.0)) (λ x y z e f. (λ p. f.0 (e.0 p), λ p. e.1 (f.1 p)))
    (λ l is_in. (λ _. high_vertex n l (ends l is_in), λ _. low_vertex n l (ends l is_in))) u v joined).0

-- a walk over links between components can begin at any vertex of the first component
over_from : (labels : List ℕ) (u u' : ℕ) (walk : List Link) (v : ℕ) → label_of labels u ≡ label_of labels u' → IsWalkOver labels u' walk v → IsWalkOver labels u walk v
over_from labels u u' [] v same is = same ∙ is
over_from labels u u' (l ∷ walk) v same (inl (at, leads)) = inl (same ∙ at, leads)
over_from labels u u' (l ∷ walk) v same (inr (at, leads)) = inr (same ∙ at, leads)

module _ (n : ℕ) (S P : LinkSet) (labels : List ℕ) (S_ends : HasEndsUpTo n S) (P_ends : HasEndsUpTo n P) (is : IsLabelling n S labels) where
  -- along a walk over both sets: a link of S stays in its component, and a link of P is a step of the walk over P
  over_from_joined : (u v : ℕ) → Joins (Either S P) u v → JoinsOver labels P u v
  over_from_joined u v (walk, all, leads) = along u walk all leads
    where
      same : (l : Link) → S l → label_of labels l.low ≡ label_of labels l.high
      same l in_S = (ends_label n S labels is l (S_ends l in_S)).1 (joins_link S l in_S)

      along : (u : ℕ) (walk : List Link) → AllByRecursion (Either S P) walk → IsWalk u walk v → JoinsOver labels P u v
      along u [] all at = ([], tt, ap (label_of labels) at)
      along u (l ∷ walk) (inl in_S, all) (inl (at, leads)) =
          let rest = along l.high walk all leads in
          (rest.0, rest.1, over_from labels u l.high rest.0 v (ap (label_of labels) at ∙ same l in_S) rest.2)
      along u (l ∷ walk) (inl in_S, all) (inr (at, leads)) =
          let rest = along l.low walk all leads in
          (rest.0, rest.1, over_from labels u l.low rest.0 v (ap (label_of labels) at ∙ sym (same l in_S)) rest.2)
      along u (l ∷ walk) (inr in_P, all) (inl (at, leads)) = let rest = along l.high walk all leads in (l ∷ rest.0, (in_P, rest.1), inl (ap (label_of labels) at, rest.2))
      along u (l ∷ walk) (inr in_P, all) (inr (at, leads)) = let rest = along l.low walk all leads in (l ∷ rest.0, (in_P, rest.1), inr (ap (label_of labels) at, rest.2))

  -- in the other direction: if a step begins in the component where the one before it ended, S joins the two vertices
  joined_from_over : (u v : ℕ) → IsVertex n u → IsVertex n v → JoinsOver labels P u v → Joins (Either S P) u v
  joined_from_over u v u_vertex v_vertex (walk, all, leads) = along u walk u_vertex all leads
    where
      inside : (x y : ℕ) → IsVertex n x → IsVertex n y → label_of labels x ≡ label_of labels y → Joins (Either S P) x y
      inside x y x_vertex y_vertex one = joins_more S (Either S P) (λ l in_S. inl in_S) x y ((one_label n S labels is x y x_vertex y_vertex).0 one)

      along : (u : ℕ) (walk : List Link) → IsVertex n u → AllByRecursion P walk → IsWalkOver labels u walk v → Joins (Either S P) u v
      along u [] u_vertex all one = inside u v u_vertex v_vertex one
      along u (l ∷ walk) u_vertex (in_P, all) (inl (at, leads)) =
          joins_trans (Either S P) u l.low v (inside u l.low u_vertex (low_vertex n l (P_ends l in_P)) at)
          (joins_trans (Either S P) l.low l.high v (joins_link (Either S P) l (inr in_P)) (along l.high walk (high_vertex n l (P_ends l in_P)) all leads))
      along u (l ∷ walk) u_vertex (in_P, all) (inr (at, leads)) =
          joins_trans (Either S P) u l.high v (inside u l.high u_vertex (high_vertex n l (P_ends l in_P)) at)
          (joins_trans (Either S P) l.high l.low v (joins_link_back (Either S P) l (inr in_P)) (along l.low walk (low_vertex n l (P_ends l in_P)) all leads))

  -- the labelling by both sets joins the components of S by P
  relabelling_from_labelling : (new : List ℕ) → IsLabelling n (Either S P) new → IsRelabelling n labels P new
  relabelling_from_labelling new by_both = record {
    each_vertex = by_both.each_vertex;
    least = λ v vertex.
        let at = by_both.least v vertex in
        record {
          vertex = joined_vertex n (Either S P) (ends_either n S P S_ends P_ends) v (label_of new v) at.joined vertex;
          joined = over_from_joined v (label_of new v) at.joined;
          least = λ w w_vertex over. at.least w (joined_from_over v w vertex w_vertex over);
        };
  }

  labelling_from_relabelling : (new : List ℕ) → IsRelabelling n labels P new → IsLabelling n (Either S P) new
  labelling_from_relabelling new re = record {
    each_vertex = re.each_vertex;
    least = λ v vertex.
        let at = re.least v vertex in
        record {
          joined = joined_from_over v (label_of new v) vertex at.vertex at.joined;
          least = λ w joined. at.least w (joined_vertex n (Either S P) (ends_either n S P S_ends P_ends) v w joined vertex) (over_from_joined v w joined);
        };
  }

pub joined_by_steps : (n : ℕ) (taken added : List Link) (labels : List ℕ) → EndsUpTo n taken → EndsUpTo n added → IsLabelling n (Contains taken) labels
    → (u v : ℕ) → IsVertex n u → IsVertex n v → Joins (Contains (taken ++ added)) u v ↔ JoinsOver labels (Contains added) u v
joined_by_steps n taken added labels taken_ends added_ends is u v u_vertex v_vertex = (
  λ joined. over_from_joined n (Contains taken) (Contains added) labels (set_ends n taken taken_ends) (set_ends n added added_ends) is u v (same.0 joined),
  λ over. same.1 (joined_from_over n (Contains taken) (Contains added) labels (set_ends n taken taken_ends) (set_ends n added added_ends) is u v u_vertex v_vertex over),
)
  where
    same : Joins (Contains (taken ++ added)) u v ↔ Joins (Either (Contains taken) (Contains added)) u v
    same = joins_alike (Contains (taken ++ added)) (Either (Contains taken) (Contains added)) (append_either taken added) u v

pub relabelled_by_steps : (n : ℕ) (taken added : List Link) (labels : List ℕ) → EndsUpTo n taken → EndsUpTo n added
    → IsLabelling n (Contains taken) labels → (new : List ℕ) → IsLabelling n (Contains (taken ++ added)) new ↔ IsRelabelling n labels (Contains added) new
relabelled_by_steps n taken added labels taken_ends added_ends is new = (
  λ by_both. relabelling_from_labelling n (Contains taken) (Contains added) labels (set_ends n taken taken_ends) (set_ends n added added_ends) is new
      (labelling_alike n (Contains (taken ++ added)) (Either (Contains taken) (Contains added)) new (append_either taken added) by_both),
  λ re. labelling_alike n (Either (Contains taken) (Contains added)) (Contains (taken ++ added)) new (λ l. ((append_either taken added l).1, (append_either taken added l).0))
      (labelling_from_relabelling n (Contains taken) (Contains added) labels (set_ends n taken taken_ends) (set_ends n added added_ends) is new re),
)

-- what components and links join is an equivalence relation
over_refl : (labels : List ℕ) (P : LinkSet) (u : ℕ) → JoinsOver labels P u u
over_refl labels P u = ([], tt, refl)

over_trans : (labels : List ℕ) (P : LinkSet) (u v w : ℕ) → JoinsOver labels P u v → JoinsOver labels P v w → JoinsOver labels P u w
over_trans labels P u v w (walk, all, leads) (rest, rest_all, rest_leads) = along u walk all leads
  where
    along : (u : ℕ) (walk : List Link) → AllByRecursion P walk → IsWalkOver labels u walk v → JoinsOver labels P u w
    along u [] all one = (rest, rest_all, over_from labels u v rest w one rest_leads)
    along u (l ∷ walk) (in_P, all) (inl (at, leads)) = let on = along l.high walk all leads in (l ∷ on.0, (in_P, on.1), inl (at, on.2))
    along u (l ∷ walk) (in_P, all) (inr (at, leads)) = let on = along l.low walk all leads in (l ∷ on.0, (in_P, on.1), inr (at, on.2))

pub relabelling_unique : (n : ℕ) (P : LinkSet) (old a b : List ℕ) → IsRelabelling n old P a → IsRelabelling n old P b → a ≡ b
relabelling_unique n P old a b is_a is_b = same_labels n a b is_a.each_vertex is_b.each_vertex (λ v vertex.
    let at_a = is_a.least v vertex in
    let at_b = is_b.least v vertex in
    let le : label_of a v ≤ label_of b v = at_a.least (label_of b v) at_b.vertex at_b.joined in
    let ge : label_of b v ≤ label_of a v = at_b.least (label_of a v) at_a.vertex at_a.joined in
    omega arith)

pub relabelling_is_labels : (n : ℕ) (P : LinkSet) (old new : List ℕ) → n ≤ 2 ^ 26 → IsRelabelling n old P new → AreLabels new
relabelling_is_labels n P old new few re = record {
  few_vertices = omega (arith, re.each_vertex);
  labelled = λ v low high. labelled v (low, omega (arith, re.each_vertex, high));
}
  where
    labelled : (v : ℕ) → IsVertex n v → IsLabelled new v
    labelled v vertex =
        let at = re.least v vertex in
        let again = re.least (label_of new v) at.vertex in
        let le : label_of new (label_of new v) ≤ label_of new v = again.least (label_of new v) at.vertex (over_refl old P (label_of new v)) in
        let ge : label_of new v ≤ label_of new (label_of new v) =
        at.least (label_of new (label_of new v)) again.vertex (over_trans old P v (label_of new v) (label_of new (label_of new v)) at.joined again.joined) in
        record { from_one = at.vertex.0; at_most_itself = at.least v vertex (over_refl old P v); own = omega arith }

-- A pick leaves a component of the taken links, so they don't join its endpoints.
pub pick_apart : (n : ℕ) (S O : LinkSet) (labels : List ℕ) → HasEndsUpTo n S → IsLabelling n S labels → (l : Link) → IsPick labels O l → ¬ (S l)
pick_apart n S O labels ends is l (c, least) in_S =
    leaves_apart labels l c least.leaves ((ends_label n S labels is l (ends l in_S)).1 (joins_link S l in_S))

-- If picks are added in the order of their keys, their endpoints are never joined yet. A walk between the endpoints of
-- a pick leaves the component that picked it by another offered link. That link isn't smaller, because the pick is the
-- least.
pub picks_close_no_cycle : (n : ℕ) (S O : LinkSet) (labels : List ℕ) → HasEndsUpTo n S → IsLabelling n S labels → HasNoCycle S → HasNoCycle (Either S (IsPick labels O))
picks_close_no_cycle n S O labels ends is none = no_cycle_either S (IsPick labels O) none closes
  where
    closes : (m : Link) → IsPick labels O m → (Q : List Link) → ((q : Link) → Contains Q q → IsPick labels O q × IsBelow q m) → ¬ (Joins (Either S (Contains Q)) m.low m.high)
    closes m (c, least) Q each joined =
        let out = crossing_ends labels (Either S (Contains Q)) c m least.leaves joined in
        elim out.member [
          | inl in_S ↦ leaves_apart labels out.link c out.leaves ((ends_label n S labels is out.link (ends out.link in_S)).1 (joins_link S out.link in_S))
          | inr in_Q ↦ least.least out.link (each out.link in_Q).0.1.member out.leaves (each out.link in_Q).1
        ]

pub added_close_no_cycle : (O : LinkSet) (n : ℕ) (taken added : List Link) (labels : List ℕ) → EndsUpTo n taken → IsLabelling n (Contains taken) labels
    → HasNoCycle (Contains taken) → IsPartOf (Contains added) (IsPick labels O) → HasNoCycle (Contains (taken ++ added))
added_close_no_cycle O n taken added labels ends is none part =
    no_cycle_part (Contains (taken ++ added)) (Either (Contains taken) (IsPick labels O)) to
    (picks_close_no_cycle n (Contains taken) O labels (set_ends n taken ends) is none)
  where
    to : IsPartOf (Contains (taken ++ added)) (Either (Contains taken) (IsPick labels O))
    to l is_in = elim ((append_either taken added l).0 is_in) [ inl in_taken ↦ inl in_taken | inr in_added ↦ inr (part l in_added) ]

pub pick_is_new : (O : LinkSet) (n : ℕ) (taken : List Link) (labels : List ℕ) → EndsUpTo n taken → IsLabelling n (Contains taken) labels → (l : Link) → IsPick labels O l → O l × ¬ (Contains taken l)
pick_is_new O n taken labels ends is l pick = (pick.1.member, pick_apart n (Contains taken) O labels (set_ends n taken ends) is l pick)

pub picked_from_both_sides : (O : LinkSet) (labels : List ℕ) (c d : ℕ) (l : Link) → IsLeastLeaving labels O c l → IsLeastLeaving labels O d l
    → c ≢ d → ((c ≡ label_of labels l.low) × (d ≡ label_of labels l.high)) ⊎ ((c ≡ label_of labels l.high) × (d ≡ label_of labels l.low))
picked_from_both_sides O labels c d l for_c for_d other = search (arith, leaves_end)
