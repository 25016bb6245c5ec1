-- Each list of links has exactly one forest.
use Rattle.std.proofs.Common.{◌≡◌, ◌+◌, ◌≤◌, ◌⊎◌, length, ◌↔◌, List, [], ◌∷◌, Contains, get_or, sym, ◌∙◌, subst, inl, inr, arith}
use Rattle.std.proofs.lemmas.List.Kept.{AllPairs-cons}
use Rattle.std.proofs.lemmas.List.Elements.{Contains-get_or}
use Rattle.links.specs.declared.links.Link.{Link}
use Rattle.links.specs.Link.{IsBelow, IsAscending}
use Rattle.links.specs.Walk.{Joins}
use Rattle.links.specs.Forest.{LinksBelow, IsForestOf, EachHasOneForest}
use Rattle.links.proofs.Members.{contains_cases, contains_head, contains_tail, contains_none}
use Rattle.links.proofs.Keys.{trichotomy, below_dec, below_trans, ascending_head, ascending_tail, same_members}
use Rattle.links.proofs.Walks.{Decided, joins_dec}

-- a link in front of others that are all above it
ascending_cons : (l : Link) (ls : List Link) → ((m : Link) → Contains ls m → IsBelow l m) → IsAscending ls → IsAscending (l ∷ ls)
ascending_cons l ls below up = AllPairs-cons IsBelow l ls (λ k d lt. below (get_or ls k d) (Contains-get_or ls k d lt)) up

-- the links of the list, and l
record Inserted (l : Link) (ls : List Link) : Type 0 where
  all : List Link
  ascending : IsAscending all
  members : (m : Link) → Contains all m ↔ (m ≡ l) ⊎ Contains ls m
  few : length all ≤ length ls + 1

-- A link is inserted into an ascending list before the first link above it, and isn't inserted if it is already there.
insert : (l : Link) (ls : List Link) → IsAscending ls → Inserted l ls
insert l [] up = record { all = l ∷ []; ascending = ascending_cons l [] (λ m is_in. absurd (contains_none m is_in)) up; members = λ m. (contains_cases l m [], to m); few = omega arith }
  where
    to : (m : Link) → (m ≡ l) ⊎ Contains [] m → Contains (l ∷ []) m
    to m (inl is) = subst (Contains (l ∷ [])) (sym is) (contains_head l [])
    to m (inr is_in) = absurd (contains_none m is_in)
insert l (x ∷ xs) up = elim (trichotomy l x) [
  | inl below ↦ record { all = l ∷ x ∷ xs; ascending = ascending_cons l (x ∷ xs) (below_all below) up; members = λ m. (contains_cases l m (x ∷ xs), in_front m); few = omega arith }
  | inr rest ↦ elim rest [
    | inl same ↦ record { all = x ∷ xs; ascending = up; members = λ m. (λ is_in. inr is_in, in_place same m); few = omega arith }
    | inr above ↦ after above (insert l xs (ascending_tail x xs up))
  ]
]
  where
    below_all : IsBelow l x → (m : Link) → Contains (x ∷ xs) m → IsBelow l m
    below_all below m is_in = elim (contains_cases x m xs is_in) [
      | inl is ↦ subst (IsBelow l) (sym is) below
      | inr in_xs ↦ below_trans l x m below (ascending_head x xs up m in_xs)
    ]

    in_front : (m : Link) → (m ≡ l) ⊎ Contains (x ∷ xs) m → Contains (l ∷ x ∷ xs) m
    in_front m (inl is) = subst (Contains (l ∷ x ∷ xs)) (sym is) (contains_head l (x ∷ xs))
    in_front m (inr is_in) = contains_tail l m (x ∷ xs) is_in

    in_place : l ≡ x → (m : Link) → (m ≡ l) ⊎ Contains (x ∷ xs) m → Contains (x ∷ xs) m
    in_place same m (inl is) = subst (Contains (x ∷ xs)) (sym (is ∙ same)) (contains_head x xs)
    in_place same m (inr is_in) = is_in

    after : IsBelow x l → Inserted l xs → Inserted l (x ∷ xs)
    after above inner = record { all = x ∷ inner.all; ascending = ascending_cons x inner.all head inner.ascending; members = λ m. (to m, back m); few = let fewer = inner.few in omega (arith, fewer) }
      where
        head : (m : Link) → Contains inner.all m → IsBelow x m
        head m is_in = elim ((inner.members m).0 is_in) [
          | inl is ↦ subst (IsBelow x) (sym is) above
          | inr in_xs ↦ ascending_head x xs up m in_xs
        ]

        to : (m : Link) → Contains (x ∷ inner.all) m → (m ≡ l) ⊎ Contains (x ∷ xs) m
        to m is_in = elim (contains_cases x m inner.all is_in) [
          | inl is ↦ inr (subst (Contains (x ∷ xs)) (sym is) (contains_head x xs))
          | inr in_all ↦ elim ((inner.members m).0 in_all) [
            | inl is ↦ inl is
            | inr in_xs ↦ inr (contains_tail x m xs in_xs)
          ]
        ]

        back : (m : Link) → (m ≡ l) ⊎ Contains (x ∷ xs) m → Contains (x ∷ inner.all) m
        back m (inl is) = contains_tail x m inner.all ((inner.members m).1 (inl is))
        back m (inr is_in) = elim (contains_cases x m xs is_in) [
          | inl is ↦ subst (Contains (x ∷ inner.all)) (sym is) (contains_head x inner.all)
          | inr in_xs ↦ contains_tail x m inner.all ((inner.members m).1 (inr in_xs))
        ]

-- the links of the list that pass a test, in ascending order
record Sifted (P : Link → Type 0) (links : List Link) : Type 0 where
  all : List Link
  ascending : IsAscending all
  members : (m : Link) → Contains all m ↔ Contains links m × P m
  few : length all ≤ length links

sift_more : (P : Link → Type 0) (l : Link) (links : List Link) → Decided (P l) → Sifted P links → Sifted P (l ∷ links)
sift_more P l links tested rest = elim tested [
  | inl passes ↦ joined passes (insert l rest.all rest.ascending)
  | inr fails ↦ record {
    all = rest.all;
    ascending = rest.ascending;
    members = λ m.
        (λ is_in. let old = (rest.members m).0 is_in in (contains_tail l m links old.0, old.1), without fails m);
    few = let fewer = rest.few in omega (arith, fewer);
  }
]
  where
    without : (P l → ⊥) → (m : Link) → Contains (l ∷ links) m × P m → Contains rest.all m
    without fails m (is_in, passes) = elim (contains_cases l m links is_in) [
      | inl is ↦ absurd (fails (subst P is passes))
      | inr in_links ↦ (rest.members m).1 (in_links, passes)
    ]

    joined : P l → Inserted l rest.all → Sifted P (l ∷ links)
    joined passes more = record { all = more.all; ascending = more.ascending; members = λ m. (to m, back m); few = let one = more.few in let fewer = rest.few in omega (arith, one, fewer) }
      where
        to : (m : Link) → Contains more.all m → Contains (l ∷ links) m × P m
        to m is_in = elim ((more.members m).0 is_in) [
          | inl is ↦ (subst (Contains (l ∷ links)) (sym is) (contains_head l links), subst P (sym is) passes)
          | inr in_rest ↦ let old = (rest.members m).0 in_rest in (contains_tail l m links old.0, old.1)
        ]

        back : (m : Link) → Contains (l ∷ links) m × P m → Contains more.all m
        back m (is_in, passes') = elim (contains_cases l m links is_in) [
          | inl is ↦ (more.members m).1 (inl is)
          | inr in_links ↦ (more.members m).1 (inr ((rest.members m).1 (in_links, passes')))
        ]

sift : (P : Link → Type 0) → ((l : Link) → Decided (P l)) → (links : List Link) → Sifted P links
sift P test [] = record {
  all = [];
  ascending = λ i j d lt in_range. absurd (omega arith);
  members = λ m. (λ is_in. absurd (contains_none m is_in), λ is. absurd (contains_none m is.0));
  few = omega arith;
}
sift P test (l ∷ links) = sift_more P l links (test l) (sift P test links)

-- whether smaller links join the endpoints of a link of the list is decidable
apart_dec : (links : List Link) (l : Link) → Decided (¬ (Joins (LinksBelow links l) l.low l.high))
apart_dec links l = elim (joins_dec (λ m. IsBelow m l) (λ m. below_dec m l) links l.low l.high) [
  | inl joined ↦ inr (λ apart. apart joined)
  | inr apart ↦ inl apart
]

-- the links whose endpoints smaller links don't join, in ascending order
the_forest : (links : List Link) → Sifted (λ l. ¬ (Joins (LinksBelow links l) l.low l.high)) links
the_forest links = sift (λ l. ¬ (Joins (LinksBelow links l) l.low l.high)) (apart_dec links) links

-- These links are the forest. Every other forest is an ascending list with the same members.
no_other : (links other : List Link) → IsForestOf links other → other ≡ (the_forest links).all
no_other links other is = same_members other (the_forest links).all is.ascending (the_forest links).ascending
    (λ l. (λ is_in. ((the_forest links).members l).1 ((is.exact l).0 is_in), λ is_in. (is.exact l).1 (((the_forest links).members l).0 is_in)))

pub each_has_one_forest : EachHasOneForest
each_has_one_forest links = ((the_forest links).all, record { ascending = (the_forest links).ascending; exact = (the_forest links).members }, no_other links)

-- the forest has at most as many links as the list
pub forest_few : (links forest : List Link) → IsForestOf links forest → length forest ≤ length links
forest_few links forest is = subst (λ (xs : List Link). length xs ≤ length links) (sym (no_other links forest is)) (the_forest links).few
