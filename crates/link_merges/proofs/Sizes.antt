-- How many vertices clusters have together.
use Rattle.std.proofs.Common.{◌≢◌, ℕ, ◌+◌, ◌<◌, ◌≤◌, ◌⊎◌, ◌↔◌, eqb, List, [], ◌∷◌, ◌++◌, length, get_or, Contains, sym, ap₂, ◌∙◌, subst, inl, inr, arith}
use Rattle.std.specs.Prelude.{AllPairs}
use Rattle.std.proofs.lemmas.Bool.{ne_eqb, eqb-true}
use Rattle.std.proofs.lemmas.List.{length-append}
use Rattle.std.proofs.lemmas.List.Elements.{Contains-append_left, Contains-append_right, Contains-append_cases, Contains-get_or}
use Rattle.std.proofs.lemmas.List.Kept.{AllPairs-cons}
use Rattle.std.proofs.lemmas.Map.Steps.{length-le_from_distinct_below}
use Rattle.std.proofs.lemmas.Map.Keys.{IsDistinct-from_apart}
use Rattle.std.proofs.lemmas.Map.Views.{Contains-from_any}
use Rattle.links.proofs.Members.{contains_head, contains_tail, ascends_head, ascends_tail}
use Rattle.link_merges.specs.Merges.{HasSize}

abbrev pub Differ : ℕ → ℕ → Type 0
Differ u v = u ≢ v

few_below : (n : ℕ) (members : List ℕ) → AllPairs Differ members → ((v : ℕ) → Contains members v → v < n) → length members ≤ n
few_below n members distinct within =
    length-le_from_distinct_below members n
    (IsDistinct-from_apart eqb members (λ i j d lt in_list. ne_eqb _ _ (distinct i j d lt in_list)))
    (λ q found. within q (Contains-from_any (λ x y same. eqb-true x y same) q members found))

-- if all numbers with a property are below n, at most n have it
pub size_few : (n : ℕ) (P : ℕ → Type 0) (size : ℕ) → ((v : ℕ) → P v → v < n) → HasSize P size → size ≤ n
size_few n P size within has =
    let few = few_below n has.numbers has.distinct (λ v v_in. within v ((has.exact v).0 v_in)) in
    let counted = has.counted in
    omega (arith, few, counted)

-- the numbers of two lists that have none in common
apart_both : (xs ys : List ℕ) → AllPairs Differ xs → AllPairs Differ ys → ((v : ℕ) → Contains xs v → ¬ (Contains ys v)) → AllPairs Differ (xs ++ ys)
apart_both [] ys of_xs of_ys apart = of_ys
apart_both (x ∷ xs) ys of_xs of_ys apart =
    AllPairs-cons Differ x (xs ++ ys) (λ k d lt. differs (get_or (xs ++ ys) k d) (Contains-get_or (xs ++ ys) k d lt))
    (apart_both xs ys (ascends_tail Differ x xs of_xs) of_ys (λ v v_in. apart v (contains_tail x v xs v_in)))
  where
    differs : (v : ℕ) → Contains (xs ++ ys) v → x ≢ v
    differs v v_in = elim (Contains-append_cases xs ys v v_in) [
      | inl in_xs ↦ ascends_head Differ x xs of_xs v in_xs
      | inr in_ys ↦ λ same. apart x (contains_head x xs) (subst (Contains ys) (sym same) in_ys)
    ]

-- the size of a union of disjoint sets is the sum of their sizes
pub size_both : (P Q R : ℕ → Type 0) (a b : ℕ) → HasSize P a → HasSize Q b → ((v : ℕ) → P v → ¬ (Q v)) → ((v : ℕ) → R v ↔ (P v ⊎ Q v)) → HasSize R (a + b)
size_both P Q R a b of_p of_q apart are = record {
  numbers = of_p.numbers ++ of_q.numbers;
  distinct = apart_both of_p.numbers of_q.numbers of_p.distinct of_q.distinct (λ v in_p in_q. apart v ((of_p.exact v).0 in_p) ((of_q.exact v).0 in_q));
  exact = λ v. (to v, λ v_is. back v ((are v).0 v_is));
  counted = length-append of_p.numbers of_q.numbers ∙ ap₂ (λ (x y : ℕ). x + y) of_p.counted of_q.counted;
}
  where
    to : (v : ℕ) → Contains (of_p.numbers ++ of_q.numbers) v → R v
    to v v_in = (are v).1 (elim (Contains-append_cases of_p.numbers of_q.numbers v v_in) [
      | inl in_p ↦ inl ((of_p.exact v).0 in_p)
      | inr in_q ↦ inr ((of_q.exact v).0 in_q)
    ])

    back : (v : ℕ) → P v ⊎ Q v → Contains (of_p.numbers ++ of_q.numbers) v
    back v (inl is) = Contains-append_left of_p.numbers of_q.numbers v ((of_p.exact v).1 is)
    back v (inr is) = Contains-append_right of_p.numbers of_q.numbers v ((of_q.exact v).1 is)

-- sets with the same numbers have the same size
pub size_same : (P Q : ℕ → Type 0) (size : ℕ) → HasSize P size → ((v : ℕ) → P v ↔ Q v) → HasSize Q size
size_same P Q size has are = search arith
