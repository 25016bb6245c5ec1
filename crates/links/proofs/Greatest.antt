-- The greatest link of a list.
use Rattle.std.proofs.Common.{◌≡◌, ◌<◌, ◌⊎◌, List, [], ◌∷◌, length, Contains, sym, ◌∙◌, subst, inl, inr, arith}
use Rattle.links.specs.declared.links.Link.{Link}
use Rattle.links.specs.Link.{IsBelow}
use Rattle.links.proofs.Members.{contains_cases, contains_head, contains_tail, contains_none}
use Rattle.links.proofs.Keys.{trichotomy, below_trans}

-- a list's greatest link, and the others, which are all below it
pub record HasGreatest (links : List Link) : Type 0 where
  pub greatest : Link
  pub others : List Link
  pub member : Contains links greatest
  pub below : (m : Link) → Contains others m → Contains links m × IsBelow m greatest
  pub rest : (m : Link) → Contains links m → (m ≡ greatest) ⊎ Contains others m
  pub shorter : length others < length links

-- after a link is added in front, the greater of the two is the greatest
greatest_more : (l : Link) (links : List Link) → HasGreatest links → HasGreatest (l ∷ links)
greatest_more l links had = elim (trichotomy l had.greatest) [
  | inl lower ↦ record {
    greatest = had.greatest;
    others = l ∷ had.others;
    member = contains_tail l had.greatest links had.member;
    below = λ m m_in. elim (contains_cases l m had.others m_in) [
      | inl is ↦ (subst (λ k. Contains (l ∷ links) k) (sym is) (contains_head l links), subst (λ k. IsBelow k had.greatest) (sym is) lower)
      | inr in_others ↦ (contains_tail l m links (had.below m in_others).0, (had.below m in_others).1)
    ];
    rest = λ m m_in. elim (contains_cases l m links m_in) [
      | inl is ↦ inr (subst (λ k. Contains (l ∷ had.others) k) (sym is) (contains_head l had.others))
      | inr in_links ↦ elim (had.rest m in_links) [ inl is ↦ inl is | inr in_others ↦ inr (contains_tail l m had.others in_others) ]
    ];
    shorter = omega (arith, had.shorter);
  }
  | inr rest ↦ elim rest [
    | inl same ↦ record {
      greatest = had.greatest;
      others = had.others;
      member = contains_tail l had.greatest links had.member;
      below = λ m m_in. (contains_tail l m links (had.below m m_in).0, (had.below m m_in).1);
      rest = λ m m_in. elim (contains_cases l m links m_in) [ inl is ↦ inl (is ∙ same) | inr in_links ↦ had.rest m in_links ];
      shorter = omega (arith, had.shorter);
    }
    | inr higher ↦ record {
      greatest = l;
      others = had.greatest ∷ had.others;
      member = contains_head l links;
      below = λ m m_in. elim (contains_cases had.greatest m had.others m_in) [
        | inl is ↦ (contains_tail l m links (subst (λ k. Contains links k) (sym is) had.member), subst (λ k. IsBelow k l) (sym is) higher)
        | inr in_others ↦ (contains_tail l m links (had.below m in_others).0, below_trans m had.greatest l (had.below m in_others).1 higher)
      ];
      rest = λ m m_in. elim (contains_cases l m links m_in) [
        | inl is ↦ inl is
        | inr in_links ↦ inr (elim (had.rest m in_links) [
          | inl is ↦ subst (λ k. Contains (had.greatest ∷ had.others) k) (sym is) (contains_head had.greatest had.others)
          | inr in_others ↦ contains_tail had.greatest m had.others in_others
        ])
      ];
      shorter = omega (arith, had.shorter);
    }
  ]
]

pub greatest_of : (l : Link) (links : List Link) → HasGreatest (l ∷ links)
greatest_of l [] = record {
  greatest = l;
  others = [];
  member = contains_head l [];
  below = λ m m_in. absurd (contains_none m m_in);
  rest = λ m m_in. contains_cases l m [] m_in;
  shorter = omega arith;
}
greatest_of l (k ∷ links) = greatest_more l (k ∷ links) (greatest_of k links)
