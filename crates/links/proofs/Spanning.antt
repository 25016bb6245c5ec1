-- A part of the forest that spans the list is the whole forest.
use Rattle.std.proofs.Common.{◌≡◌, ◌≢◌, ℕ, zero, suc, ◌≤◌, ◌⊎◌, ◌↔◌, List, [], ◌∷◌, length, Contains, sym, subst, inl, inr, arith}
use Rattle.std.proofs.lemmas.List.Elements.{All-from_recursion, recursion_from_All, All-contains, All-contains_itself}
use Rattle.links.specs.declared.links.Link.{Link}
use Rattle.links.specs.Link.{IsBelow}
use Rattle.links.specs.Walk.{Joins}
use Rattle.links.specs.Forest.{LinksBelow, IsForestLink}
use Rattle.links.proofs.Members.{contains_dec, contains_none}
use Rattle.links.proofs.Keys.{link_dec, trichotomy, below_trans}
use Rattle.links.proofs.Greatest.{HasGreatest, greatest_of}
use Rattle.links.proofs.Walks.{WithLink, JoinsThrough, joins_link, joins_symm, joins_trans, joins_more, joins_one_more}

-- the links of a walk that joins two vertices
pub record Walked (S : Link → Type 0) (u v : ℕ) : Type 0 where
  pub walk : List Link
  pub within : (m : Link) → Contains walk m → S m
  pub joined : Joins (Contains walk) u v

pub walked : (S : Link → Type 0) (u v : ℕ) → Joins S u v → Walked S u v
walked S u v (walk, all, leads) = record {
  walk = walk;
  within = λ m m_in. All-contains S walk m (All-from_recursion S walk all) m_in;
  joined = (walk, recursion_from_All (Contains walk) walk (All-contains_itself walk), leads);
}

-- If other links of the forest don't join the endpoints of a link without the greatest of them, they don't with it
-- either. If the greatest is below the link, all of them are, and the link is in the forest. Otherwise, it is above the
-- link. If the others don't join the link's endpoints without it, they and the link join its endpoints, and all of
-- these are below it.
by_greatest : (links : List Link) (l : Link) → IsForestLink links l → (Q : List Link) (top : HasGreatest Q)
    → ((q : Link) → Contains Q q → IsForestLink links q × (q ≢ l)) → ¬ (Joins (Contains top.others) l.low l.high) → ¬ (Joins (Contains Q) l.low l.high)
by_greatest links l is Q top each fewer joined = by_order (trichotomy top.greatest l)
  where
    with_greatest : (m : Link) → Contains Q m → WithLink (Contains top.others) top.greatest m
    with_greatest m m_in = elim (top.rest m m_in) [ inl same ↦ inr same | inr other ↦ inl other ]

    to_below : IsBelow top.greatest l → (m : Link) → Contains Q m → LinksBelow links l m
    to_below below m m_in = elim (top.rest m m_in) [
      | inl same ↦ ((each m m_in).0.0, subst (λ k. IsBelow k l) (sym same) below)
      | inr other ↦ ((each m m_in).0.0, below_trans m top.greatest l (top.below m other).1 below)
    ]

    along : (u v : ℕ) → Joins (Contains top.others) u v → Joins (LinksBelow links top.greatest) u v
    along = joins_more (Contains top.others) (LinksBelow links top.greatest) (λ m m_in. ((each m (top.below m m_in).0).0.0, (top.below m m_in).1))

    not_around : ¬ (Joins (LinksBelow links top.greatest) top.greatest.low top.greatest.high)
    not_around = (each top.greatest top.member).0.1

    closes : IsBelow l top.greatest → JoinsThrough (Contains top.others) top.greatest l.low l.high → ⊥
    closes above (inl others) = fewer others
    closes above (inr (inl (to, from))) =
        let S = LinksBelow links top.greatest in
        let g = top.greatest in
        not_around (joins_trans S g.low l.low g.high (joins_symm S l.low g.low (along l.low g.low to))
        (joins_trans S l.low l.high g.high (joins_link S l (is.0, above)) (joins_symm S g.high l.high (along g.high l.high from))))
    closes above (inr (inr (to, from))) =
        let S = LinksBelow links top.greatest in
        let g = top.greatest in
        not_around (joins_trans S g.low l.high g.high (along g.low l.high from) (joins_trans S l.high l.low g.high (joins_symm S l.low l.high (joins_link S l (is.0, above))) (along l.low g.high to)))

    by_order : IsBelow top.greatest l ⊎ (top.greatest ≡ l) ⊎ IsBelow l top.greatest → ⊥
    by_order (inl below) = is.1 (joins_more (Contains Q) (LinksBelow links l) (to_below below) l.low l.high joined)
    by_order (inr (inl same)) = (each top.greatest top.member).1 same
    by_order (inr (inr above)) = closes above ((joins_one_more (Contains top.others) top.greatest l.low l.high).0
        (joins_more (Contains Q) (WithLink (Contains top.others) top.greatest) with_greatest l.low l.high joined))

others_dont_join : (links : List Link) (l : Link) → IsForestLink links l → (fuel : ℕ) (Q : List Link) → length Q ≤ fuel
    → ((q : Link) → Contains Q q → IsForestLink links q × (q ≢ l)) → ¬ (Joins (Contains Q) l.low l.high)
others_dont_join links l is fuel [] small each joined = is.1 (joins_more (Contains []) (LinksBelow links l) (λ m m_in. absurd (contains_none m m_in)) l.low l.high joined)
others_dont_join links l is zero (q ∷ Q) small each joined = absurd (omega arith)
others_dont_join links l is (suc fuel) (q ∷ Q) small each joined =
    let top = greatest_of q Q in
    let fewer : length top.others ≤ fuel = omega (arith, top.shorter) in
    by_greatest links l is (q ∷ Q) top each (others_dont_join links l is fuel top.others fewer (λ m m_in. each m (top.below m m_in).0)) joined

-- The part joins the endpoints of each forest link by a walk. No walk over other forest links does, so the part has the
-- link.
pub spanning_part : (links : List Link) (P : Link → Type 0) → ((l : Link) → P l → IsForestLink links l)
    → ((u v : ℕ) → Joins (Contains links) u v → Joins P u v) → (l : Link) → P l ↔ IsForestLink links l
spanning_part links P part spans l = (part l, taken)
  where
    taken : IsForestLink links l → P l
    taken is =
        let around = walked P l.low l.high (spans l.low l.high (joins_link (Contains links) l is.0)) in
        elim (contains_dec link_dec around.walk l) [
          | inl in_walk ↦ around.within l in_walk
          | inr not_in ↦ absurd (others_dont_join links l is (length around.walk) around.walk (omega arith)
              (λ m m_in. (part m (around.within m m_in), λ same. not_in (subst (λ x. Contains around.walk x) same m_in))) around.joined)
        ]
