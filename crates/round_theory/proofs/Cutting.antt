-- The light offers of the shards of a list name its least leaving links.
use Rattle.std.proofs.Common.{◌≢◌, ℕ, zero, suc, ◌<◌, ◌⊎◌, ◌↔◌, List, [], ◌∷◌, ◌++◌, slice_index_or, Contains, flat_map, IsPermutation, sym, subst, inl, inr, arith}
use Rattle.std.proofs.lemmas.List.Elements.{All-contains, Contains-append_cases, Contains-append_left, Contains-append_right}
use Rattle.std.specs.Prelude.{Any}
use Rattle.std.proofs.lemmas.List.Sorted.{IsPermutation-sym, Contains-permutation, All-permutation}
use Rattle.links.specs.declared.links.Link.{Link}
use Rattle.links.specs.Link.{IsBelow}
use Rattle.links.proofs.Members.{contains_cases, contains_head, contains_none}
use Rattle.links.proofs.Keys.{link_dec, trichotomy, below_trans}
use Rattle.round_theory.specs.LinkSet.{LinkSet, SameLinks}
use Rattle.round_theory.specs.Offers.{Leaves, IsLeastLeaving, IsFirstPlace, AreLightOffers, Hearing, Names, IsNamed, HaveLinksOf, AreAllLight}
use Rattle.round_theory.proofs.Leaving.{least_leaving_exists}

-- an element with a property, and its index
pub any_from : {X : Type 0} (P : X → Type 0) (xs : List X) (x : X) → Contains xs x → P x → Any P xs
any_from P xs x (k, lt, at) here = (k, x, lt, at, here)

pub any_permutation : {X : Type 0} (P : X → Type 0) (xs ys : List X) → IsPermutation xs ys → Any P xs → Any P ys
any_permutation P xs ys moved (k, x, lt, at, here) = any_from P ys x (Contains-permutation xs ys x moved (k, lt, at)) here

any_cons : {X : Type 0} (P : X → Type 0) (y : X) (xs : List X) → Any P (y ∷ xs) → P y ⊎ Any P xs
any_cons a1 a2 a3 a4 = search arith

any_more : {X : Type 0} (P : X → Type 0) (y : X) (xs : List X) → Any P xs → Any P (y ∷ xs)
any_more P y xs (k, x, lt, at, here) = (suc k, x, omega arith, at, here)

-- an element is in one of the lists exactly if it is in their concatenation
pub flat_map_contains : {X Y : Type 0} (f : X → List Y) (xs : List X) (y : Y) → Contains (flat_map f xs) y ↔ Any (λ x. Contains (f x) y) xs
flat_map_contains f [] y = (λ is_in. absurd (contains_none y is_in), λ some. absurd (omega (arith, some.2)))
flat_map_contains f (x ∷ xs) y = (to (flat_map_contains f xs y).0, back (flat_map_contains f xs y).1)
  where
    to : (Contains (flat_map f xs) y → Any (λ z. Contains (f z) y) xs) → Contains (f x ++ flat_map f xs) y → Any (λ z. Contains (f z) y) (x ∷ xs)
    to rest is_in = elim (Contains-append_cases (f x) (flat_map f xs) y is_in) [
      | inl here ↦ any_from (λ z. Contains (f z) y) (x ∷ xs) x (contains_head x xs) here
      | inr later ↦ any_more (λ z. Contains (f z) y) x xs (rest later)
    ]

    back : (Any (λ z. Contains (f z) y) xs → Contains (flat_map f xs) y) → Any (λ z. Contains (f z) y) (x ∷ xs) → Contains (f x ++ flat_map f xs) y
    back rest some = elim (any_cons (λ z. Contains (f z) y) x xs some) [
      | inl here ↦ Contains-append_left (f x) (flat_map f xs) y here
      | inr later ↦ Contains-append_right (f x) (flat_map f xs) y (rest later)
    ]

-- each link of a list has a first index
pub first_place : (links : List Link) (l : Link) → Contains links l → (i : ℕ) × IsFirstPlace links l i
first_place [] l is_in = absurd (contains_none l is_in)
first_place (k ∷ links) l is_in = elim (link_dec k l) [
  | inl same ↦ (0, record { within = omega arith; here = same; first = λ j lt. absurd (omega arith) })
  | inr other ↦ elim (contains_cases k l links is_in) [
    | inl is ↦ absurd (other (sym is))
    | inr in_links ↦ let rest = first_place links l in_links in (suc rest.0, record { within = omega (arith, rest.1.within); here = rest.1.here; first = later other rest.0 rest.1 })
  ]
]
  where
    later : k ≢ l → (i : ℕ) → IsFirstPlace links l i → (j : ℕ) → j < suc i → slice_index_or (k ∷ links) j l ≢ l
    later other i is zero lt = other
    later other i is (suc j) lt = is.first j (omega arith)

-- if the least link of a set that leaves c is in a smaller set, it is the least there too
least_of_fewer : (labels : List ℕ) (S R : LinkSet) (c : ℕ) (l : Link) → ((m : Link) → S m → R m) → S l → IsLeastLeaving labels R c l → IsLeastLeaving labels S c l
least_of_fewer labels S R c l more is_in is = record { member = is_in; leaves = is.leaves; least = λ m m_in. is.least m (more m m_in) }

-- a named link is in the shard
pub named_in_shard : (h : Hearing) (l : Link) → Names h l → Contains h.shard l
named_in_shard h l names = (names.place, names.within, names.here)

-- light offers name the least link of the shard that leaves a label
light_names : (labels : List ℕ) (h : Hearing) → AreLightOffers h.shard labels h.offers → (c : ℕ) (l : Link) → IsLeastLeaving labels (Contains h.shard) c l → Names h l
light_names labels h light c l is =
    let at = first_place h.shard l is.member in
    record { label = c; place = at.0; offered = (light.exact c at.0).1 (l, is, at.1); within = at.1.within; here = at.1.here }

-- if k isn't below l and m isn't below k, then m isn't below l
pub not_between : (k l m : Link) → ¬ (IsBelow k l) → ¬ (IsBelow m k) → ¬ (IsBelow m l)
not_between k l m k_not m_not below = search (arith, trichotomy, below_trans)

-- The least link of the list that leaves c is the least of its shard, so it is named. The named links are in the list,
-- so none of them is less. In the other direction, no link of a shard that leaves c is less than the link that the
-- shard's offers name for c.
pub light_offers_suffice : (links : List Link) (labels : List ℕ) (heard : List Hearing) → HaveLinksOf heard links
    → AreAllLight labels heard → (c : ℕ) (l : Link) → IsLeastLeaving labels (IsNamed heard) c l ↔ IsLeastLeaving labels (Contains links) c l
light_offers_suffice links labels heard covers light c l = (to, back)
  where
    light_at : (h : Hearing) → Contains heard h → AreLightOffers h.shard labels h.offers
    light_at h h_in = All-contains (λ h. AreLightOffers h.shard labels h.offers) heard h light h_in

    in_links : (m : Link) → IsNamed heard m → Contains links m
    in_links m (k, h, lt, at, names) = (covers m).1 (k, h, lt, at, named_in_shard h m names)

    to : IsLeastLeaving labels (IsNamed heard) c l → IsLeastLeaving labels (Contains links) c l
    to is = record { member = in_links l is.member; leaves = is.leaves; least = λ m m_in leaves. in_shard m leaves ((covers m).0 m_in) }
      where
        in_shard : (m : Link) → Leaves labels m c → Any (λ h. Contains h.shard m) heard → ¬ (IsBelow m l)
        in_shard m leaves (k, h, lt, at, m_in) =
            let best = least_leaving_exists h.shard labels c m m_in leaves in
            not_between best.0 l m
            (is.least best.0 (k, h, lt, at, light_names labels h (light_at h (k, lt, at)) c best.0 best.1) best.1.leaves)
            (best.1.least m m_in leaves)

    named : Any (λ h. Contains h.shard l) heard → IsLeastLeaving labels (Contains links) c l → IsNamed heard l
    named (k, h, lt, at, l_in) is = (
      k,
      h,
      lt,
      at,
      light_names labels h (light_at h (k, lt, at)) c l
          (least_of_fewer labels (Contains h.shard) (Contains links) c l (λ m m_in. (covers m).1 (k, h, lt, at, m_in)) l_in is),
    )

    back : IsLeastLeaving labels (Contains links) c l → IsLeastLeaving labels (IsNamed heard) c l
    back is = least_of_fewer labels (IsNamed heard) (Contains links) c l in_links (named ((covers l).0 is.member) is) is

pub any_cut_any_order : (labels : List ℕ) (cut heard : List Hearing) → IsPermutation cut heard → AreAllLight labels cut
    → (c : ℕ) (l : Link) → IsLeastLeaving labels (IsNamed heard) c l ↔ IsLeastLeaving labels (Contains (flat_map (λ h. h.shard) cut)) c l
any_cut_any_order labels cut heard moved light =
    light_offers_suffice (flat_map (λ h. h.shard) cut) labels heard covers (All-permutation (λ h. AreLightOffers h.shard labels h.offers) cut heard moved light)
  where
    covers : (l : Link) → Contains (flat_map (λ h. h.shard) cut) l ↔ Any (λ h. Contains h.shard l) heard
    covers l = (
      λ is_in. any_permutation (λ h. Contains h.shard l) cut heard moved ((flat_map_contains (λ h. h.shard) cut l).0 is_in),
      λ some. (flat_map_contains (λ h. h.shard) cut l).1 (any_permutation (λ h. Contains h.shard l) heard cut (IsPermutation-sym cut heard moved) some),
    )

pub order_of_hearing_is_free : (first second : List Hearing) → IsPermutation first second → SameLinks (IsNamed first) (IsNamed second)
order_of_hearing_is_free first second moved l = (
  any_permutation (λ h. Names h l) first second moved,
  any_permutation (λ h. Names h l) second first (IsPermutation-sym first second moved),
)
