-- The least leaving link of the union of two sets.
use Rattle.std.proofs.Common.{List, ◌++◌, ℕ, ◌↔◌, sym, subst, inl, inr, arith}
use Rattle.std.proofs.lemmas.List.Elements.{Contains-append_cases, Contains-append_left, Contains-append_right}
use Rattle.links.specs.declared.links.Link.{Link}
use Rattle.links.specs.Link.{IsBelow}
use Rattle.round_theory.specs.LinkSet.{LinkSet, Either, SameLinks}
use Rattle.round_theory.specs.Offers.{Leaves, IsLeastLeaving, NoneLeaves, IsLesser, Hearing, Names, IsNamed}
use Rattle.round_theory.proofs.Leaving.{least_leaving_unique}
use Rattle.round_theory.proofs.Cutting.{any_from, not_between}

-- the links that two concatenated lists of hearings name
pub named_either : (first second : List Hearing) → SameLinks (IsNamed (first ++ second)) (Either (IsNamed first) (IsNamed second))
named_either first second l = (to, back)
  where
    to : IsNamed (first ++ second) l → Either (IsNamed first) (IsNamed second) l
    to (k, h, lt, at, names) = elim (Contains-append_cases first second h (k, lt, at)) [
      | inl in_first ↦ inl (any_from (λ (h : Hearing). Names h l) first h in_first names)
      | inr in_second ↦ inr (any_from (λ (h : Hearing). Names h l) second h in_second names)
    ]

    back : Either (IsNamed first) (IsNamed second) l → IsNamed (first ++ second) l
    back (inl (k, h, lt, at, names)) = any_from (λ (h : Hearing). Names h l) (first ++ second) h (Contains-append_left first second h (k, lt, at)) names
    back (inr (k, h, lt, at, names)) = any_from (λ (h : Hearing). Names h l) (first ++ second) h (Contains-append_right first second h (k, lt, at)) names

-- a set's least link stays the least of both sets, if no link of the other set that leaves the label is below it
pub least_stays : (S T U : LinkSet) → SameLinks U (Either S T) → (labels : List ℕ) (c : ℕ) (l : Link)
    → IsLeastLeaving labels S c l → ((m : Link) → T m → Leaves labels m c → ¬ (IsBelow m l)) → IsLeastLeaving labels U c l
least_stays S T U both labels c l is others = search arith

-- the least link of both sets is the least link of a set that has it
pub least_of_part : (S T U : LinkSet) → SameLinks U (Either S T) → (labels : List ℕ) (c : ℕ) (l : Link) → S l → IsLeastLeaving labels U c l → IsLeastLeaving labels S c l
least_of_part S T U both labels c l in_S is = record { member = in_S; leaves = is.leaves; least = λ m m_in. is.least m ((both m).1 (inl m_in)) }

pub either_turned : (S T U : LinkSet) → SameLinks U (Either S T) → SameLinks U (Either T S)
either_turned S T U both l = search arith

-- The least link of both sets is the least of the set that has it, and isn't above the least of the other. In the other
-- direction, a link that isn't above the other set's least isn't above any of its links.
pub least_of_both : (S T U : LinkSet) → SameLinks U (Either S T) → (labels : List ℕ) (c : ℕ) (l m : Link)
    → IsLeastLeaving labels S c l → IsLeastLeaving labels T c m → (k : Link) → IsLeastLeaving labels U c k ↔ IsLesser l m k
least_of_both S T U both labels c l m is_l is_m k = (to, back)
  where
    to : IsLeastLeaving labels U c k → IsLesser l m k
    to is = elim ((both k).0 is.member) [
      | inl in_S ↦
          let same = least_leaving_unique labels S c k l (least_of_part S T U both labels c k in_S is) is_l in
          inl (same, subst (λ x. ¬ (IsBelow m x)) same (is.least m ((both m).1 (inr is_m.member)) is_m.leaves))
      | inr in_T ↦
          let same = least_leaving_unique labels T c k m (least_of_part T S U (either_turned S T U both) labels c k in_T is) is_m in
          inr (same, subst (λ x. ¬ (IsBelow l x)) same (is.least l ((both l).1 (inl is_l.member)) is_l.leaves))
    ]

    back : IsLesser l m k → IsLeastLeaving labels U c k
    back (inl (same, not_below)) =
        subst (IsLeastLeaving labels U c) (sym same)
        (least_stays S T U both labels c l is_l (λ x x_in leaves. not_between m l x not_below (is_m.least x x_in leaves)))
    back (inr (same, not_below)) =
        subst (IsLeastLeaving labels U c) (sym same)
        (least_stays T S U (either_turned S T U both) labels c m is_m (λ x x_in leaves. not_between l m x not_below (is_l.least x x_in leaves)))

-- if no link of the second set leaves the label
pub least_of_first : (S T U : LinkSet) → SameLinks U (Either S T) → (labels : List ℕ) (c : ℕ) → NoneLeaves labels T c → (k : Link) → IsLeastLeaving labels U c k ↔ IsLeastLeaving labels S c k
least_of_first S T U both labels c none k = search (arith, least_stays, least_of_part)

pub least_of_second : (S T U : LinkSet) → SameLinks U (Either S T) → (labels : List ℕ) (c : ℕ) → NoneLeaves labels S c → (k : Link) → IsLeastLeaving labels U c k ↔ IsLeastLeaving labels T c k
least_of_second S T U both = least_of_first T S U (either_turned S T U both)
