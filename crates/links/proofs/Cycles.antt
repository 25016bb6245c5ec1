-- Sets of links without a cycle.
use Rattle.std.proofs.Common.{◌≡◌, ◌≢◌, ℕ, zero, suc, ◌≤◌, ◌⊎◌, List, [], ◌∷◌, length, Contains, sym, ◌∙◌, subst, inl, inr, arith}
use Rattle.links.specs.declared.links.Link.{Link}
use Rattle.links.specs.Link.{IsBelow}
use Rattle.links.specs.Walk.{Joins}
use Rattle.links.proofs.Members.{contains_cases, contains_head, contains_tail, contains_none}
use Rattle.links.proofs.Keys.{link_dec}
use Rattle.links.proofs.Walks.{WithLink, joins_link, joins_symm, joins_trans, joins_more, joins_one_more}
use Rattle.links.specs.LinkSet.{LinkSet, Either, Without, IsPartOf, HasNoCycle}
use Rattle.links.proofs.Greatest.{greatest_of}
use Rattle.links.proofs.Spanning.{walked}
use Rattle.links.proofs.Sublists.{part_in}

pub no_cycle_part : (S T : LinkSet) → IsPartOf S T → HasNoCycle T → HasNoCycle S
no_cycle_part S T part none l is_in joined =
    none l (part l is_in) (joins_more (Without S l) (Without T l) (λ m within. (part m within.0, within.1)) l.low l.high joined)

-- Adding a link whose endpoints the set doesn't join closes no cycle. The link itself closes none. Suppose that the
-- endpoints of another link are joined by the rest. Then a walk over the new link joins them, and this walk and the
-- other link join the new link's endpoints.
pub no_cycle_one_more : (S : LinkSet) (l : Link) → HasNoCycle S → ¬ (Joins S l.low l.high) → HasNoCycle (WithLink S l)
no_cycle_one_more S l none apart m is_in joined = elim (link_dec m l) [
  | inl is ↦ apart (subst (λ (k : Link). Joins S k.low k.high) is (joins_more (Without (WithLink S l) m) S (of_old is) m.low m.high joined))
  | inr other ↦ closes (old other is_in) ((joins_one_more (Without S m) l m.low m.high).0 (joins_more (Without (WithLink S l) m) (WithLink (Without S m) l) new m.low m.high joined))
]
  where
    old : {k : Link} → k ≢ l → WithLink S l k → S k
    old other (inl in_S) = in_S
    old other (inr is) = absurd (other is)

    of_old : m ≡ l → (k : Link) → Without (WithLink S l) m k → S k
    of_old is k (k_in, other) = old (λ same. other (same ∙ sym is)) k_in

    new : (k : Link) → Without (WithLink S l) m k → WithLink (Without S m) l k
    new k (inl in_S, other) = inl (in_S, other)
    new k (inr is, other) = inr is

    whole : (u v : ℕ) → Joins (Without S m) u v → Joins S u v
    whole = joins_more (Without S m) S (λ k within. within.0)

    closes : S m → Joins (Without S m) m.low m.high ⊎ (Joins (Without S m) m.low l.low × Joins (Without S m) l.high m.high) ⊎ (Joins (Without S m) m.low l.high × Joins (Without S m) l.low m.high) → ⊥
    closes in_S (inl others) = none m in_S others
    closes in_S (inr (inl (to, from))) =
        apart (joins_trans S l.low m.low l.high (joins_symm S m.low l.low (whole m.low l.low to))
        (joins_trans S m.low m.high l.high (joins_link S m in_S) (joins_symm S l.high m.high (whole l.high m.high from))))
    closes in_S (inr (inr (to, from))) =
        apart (joins_trans S l.low m.high l.high (whole l.low m.high from) (joins_trans S m.high m.low l.high (joins_symm S m.low m.high (joins_link S m in_S)) (whole m.low l.high to)))

-- no link of P has its endpoints joined by S and links of P that are below it
abbrev pub Ascends : LinkSet → LinkSet → Type 0
Ascends S P = (m : Link) → P m → (Q : List Link) → ((q : Link) → Contains Q q → P q × IsBelow q m) → ¬ (Joins (Either S (Contains Q)) m.low m.high)

-- the same for finitely many links of P, with the greatest one last
no_cycle_list : (S P : LinkSet) → HasNoCycle S → Ascends S P → (fuel : ℕ) (Q : List Link) → length Q ≤ fuel → ((q : Link) → Contains Q q → P q) → HasNoCycle (Either S (Contains Q))
no_cycle_list S P none ascends fuel [] small each = no_cycle_part (Either S (Contains [])) S old none
  where
    old : (k : Link) → Either S (Contains []) k → S k
    old k (inl in_S) = in_S
    old k (inr in_Q) = absurd (contains_none k in_Q)
no_cycle_list S P none ascends zero (q ∷ Q) small each = absurd (omega arith)
no_cycle_list S P none ascends (suc fuel) (q ∷ Q) small each =
    let top = greatest_of q Q in
    let fewer : length top.others ≤ fuel = omega (arith, top.shorter) in
    no_cycle_part (Either S (Contains (q ∷ Q))) (WithLink (Either S (Contains top.others)) top.greatest)
    (λ k k_in. elim k_in [
      | inl in_S ↦ inl (inl in_S)
      | inr in_Q ↦ elim (top.rest k in_Q) [ inl is ↦ inr is | inr in_others ↦ inl (inr in_others) ]
    ])
    (no_cycle_one_more (Either S (Contains top.others)) top.greatest
    (no_cycle_list S P none ascends fuel top.others fewer (λ k k_in. each k (top.below k k_in).0))
    (ascends top.greatest (each top.greatest top.member) top.others (λ k k_in. (each k (top.below k k_in).0, (top.below k k_in).1))))

-- Links are added to a set without a cycle in the order of their keys, and the endpoints of each aren't joined yet.
-- Then the set still has no cycle: a cycle would have only finitely many of the added links, so it would be in a finite
-- part.
pub no_cycle_either : (S P : LinkSet) → HasNoCycle S → Ascends S P → HasNoCycle (Either S P)
no_cycle_either S P none ascends l is_in joined =
    let around = walked (Without (Either S P) l) l.low l.high joined in
    let links = l ∷ around.walk in
    let some = part_in S P links (λ m m_in. elim (contains_cases l m around.walk m_in) [ inl is ↦ subst (Either S P) (sym is) is_in | inr in_walk ↦ (around.within m in_walk).0 ]) in
    no_cycle_list S P none ascends (length some.part) some.part (omega arith) some.within l (some.covers l (contains_head l around.walk))
    (joins_more (Contains around.walk) (Without (Either S (Contains some.part)) l) (λ m m_in.
    (some.covers m (contains_tail l m around.walk m_in), (around.within m m_in).1)) l.low l.high around.joined)
