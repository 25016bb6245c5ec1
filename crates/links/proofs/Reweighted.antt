-- If weights are changed but keep their order, the forest has the same indices.
use Rattle.std.proofs.Common.{◌≡◌, ℕ, ℤ, ◌<◌, List, [], ◌∷◌, length, Contains, get_or, Ordering, Less, Equal, Greater, int_cmp, nat_cmp, refl, sym, ap, ap₂, ◌∙◌, subst, inl, inr, arith}
use Rattle.std.specs.Int.Signed.{◌<ℤ◌}
use Rattle.std.specs.Ordering.{ordering_then, MatchOrdering}
use Rattle.std.proofs.lemmas.Int.{ints}
use Rattle.std.proofs.lemmas.List.{length-map, get_or-map}
use Rattle.std.proofs.lemmas.List.Elements.{Contains-get_or}
use Rattle.links.specs.declared.links.Link.{Link}
use Rattle.links.specs.Link.{Key, key_of, IsBelow, IsAscending}
use Rattle.links.specs.Walk.{Joins}
use Rattle.links.specs.Forest.{LinksBelow, IsForestLink, IsForestOf}
use Rattle.links.specs.LinkSet.{LinkSet}
use Rattle.links.specs.Reweighted.{KeepsOrder, reweighted_key, AreReweighted, ForestOfReweighted, PlacesOfReweighted}
use Rattle.links.proofs.Members.{contains_head, contains_tail}
use Rattle.links.proofs.Keys.{link_eq, trichotomy, below_irrefl, below_asymm, same_members}
use Rattle.links.proofs.WideKeys.{int_ranks}
use Rattle.links.proofs.Walks.{joins_link, joins_replace}

-- the order of keys
abbrev key_order : Key → Key → Ordering
key_order k j = ordering_then (int_cmp k.0 j.0) (ordering_then (nat_cmp k.1 j.1) (nat_cmp k.2 j.2))

ranks_less : (x y : ℤ) → x <ℤ y → int_cmp x y ≡ Less
ranks_less x y less = search (arith, int_cmp, int_ranks, ints)

ranks_equal : (x : ℤ) → int_cmp x x ≡ Equal
ranks_equal x = search (arith, int_cmp, int_ranks, ints)

-- links with the same key are equal
one_key : (l m : Link) → key_of l ≡ key_of m → l ≡ m
one_key l m same = link_eq l m (ap (λ (k : Key). k.0) same) (ap (λ (k : Key). k.1) same) (ap (λ (k : Key). k.2) same)

-- ---- the links of the two lists

module _ (f : ℤ → ℤ) where
  -- l with its weight changed
  abbrev IsReweighted : Link → Link → Type 0
  IsReweighted l m = key_of m ≡ reweighted_key f l

  as_long : (xs ys : List Link) → AreReweighted f xs ys → length ys ≡ length xs
  as_long xs ys are = sym (length-map ys key_of) ∙ ap length are ∙ length-map xs (reweighted_key f)

  at_place : (xs ys : List Link) → AreReweighted f xs ys → (i : ℕ) (d : Link) → i < length xs → IsReweighted (get_or xs i d) (get_or ys i d)
  at_place xs ys are i d lt =
      let lt' : i < length ys = omega (arith, lt, as_long xs ys are) in
      sym (get_or-map key_of ys i d (key_of d) lt') ∙ ap (λ ks. get_or ks i (key_of d)) are ∙ get_or-map (reweighted_key f) xs i d (key_of d) lt

  changed_one : (xs ys : List Link) → AreReweighted f xs ys → (l : Link) → Contains xs l → (m : Link) × Contains ys m × IsReweighted l m
  changed_one xs ys are l (k, lt, at) =
      let lt' : k < length ys = omega (arith, lt, as_long xs ys are) in
      (get_or ys k l, Contains-get_or ys k l lt', at_place xs ys are k l lt ∙ ap (reweighted_key f) at)

  own_one : (xs ys : List Link) → AreReweighted f xs ys → (m : Link) → Contains ys m → (l : Link) × Contains xs l × IsReweighted l m
  own_one xs ys are m (k, lt, at) =
      let lt' : k < length xs = omega (arith, lt, as_long xs ys are) in
      (get_or xs k m, Contains-get_or xs k m lt', sym (ap key_of at) ∙ at_place xs ys are k m lt')

  -- links of a list, with their weights changed
  all_changed : (links changed : List Link) → AreReweighted f links changed → (xs : List Link) → ((l : Link) → Contains xs l → Contains links l) → (ys : List Link) × AreReweighted f xs ys
  all_changed links changed are [] among = ([], refl)
  all_changed links changed are (x ∷ xs) among =
      let one = changed_one links changed are x (among x (contains_head x xs)) in
      let rest = all_changed links changed are xs (λ l l_in. among l (contains_tail x l xs l_in)) in
      (one.0 ∷ rest.0, ap₂ (λ k ks. k ∷ ks) one.2 rest.1)

module _ (f : ℤ → ℤ) (links changed : List Link) (keeps : KeepsOrder f links) (are : AreReweighted f links changed) where
  -- ---- their order

  keys_below : (l m : Link) → Contains links l → Contains links m → IsBelow l m → key_order (reweighted_key f l) (reweighted_key f m) ≡ Less
  keys_below l m l_in m_in below = search (arith, int_cmp, int_ranks, nat_cmp, ranks_less, ranks_equal)

  below_changed : (l m l' m' : Link) → Contains links l → Contains links m → IsReweighted f l l' → IsReweighted f m m' → IsBelow l m → IsBelow l' m'
  below_changed l m l' m' l_in m_in l_is m_is below = ap₂ key_order l_is m_is ∙ keys_below l m l_in m_in below

  one_changed : (l m l' m' : Link) → IsReweighted f l l' → IsReweighted f m m' → l ≡ m → l' ≡ m'
  one_changed l m l' m' l_is m_is same = one_key l' m' (l_is ∙ ap (reweighted_key f) same ∙ sym m_is)

  below_own : (l m l' m' : Link) → Contains links l → Contains links m → IsReweighted f l l' → IsReweighted f m m' → IsBelow l' m' → IsBelow l m
  below_own l m l' m' l_in m_in l_is m_is below = search (arith, trichotomy, below_irrefl, one_changed, below_asymm, below_changed)

  one_own : (l m l' m' : Link) → Contains links l → Contains links m → IsReweighted f l l' → IsReweighted f m m' → l' ≡ m' → l ≡ m
  one_own l m l' m' l_in m_in l_is m_is same = elim (trichotomy l m) [
    | inl below ↦ absurd (below_irrefl m' (subst (λ k. IsBelow k m') same (below_changed l m l' m' l_in m_in l_is m_is below)))
    | inr rest ↦ elim rest [
      | inl is ↦ is
      | inr above ↦ absurd (below_irrefl m' (subst (IsBelow m') same (below_changed m l m' l' m_in l_in m_is l_is above)))
    ]
  ]

  -- ---- the forests

  -- a link of a set joins the endpoints that a key names, if they are the link's
  joins_ends : (S : LinkSet) (m : Link) (k : Key) → S m → k.1 ≡ m.low → k.2 ≡ m.high → Joins S k.1 k.2
  joins_ends S m k m_in low high = subst (λ u. Joins S u k.2) (sym low) (subst (λ v. Joins S m.low v) (sym high) (joins_link S m m_in))

  forest_link_changed : (l l' : Link) → Contains links l → Contains changed l' → IsReweighted f l l' → IsForestLink links l → IsForestLink changed l'
  forest_link_changed l l' l_in l'_in l_is is = (
    l'_in,
    λ joined. is.1 (subst (λ (k : Key). Joins (LinksBelow links l) k.1 k.2) l_is
        (joins_replace (LinksBelow changed l') (LinksBelow links l) own l'.low l'.high joined)),
  )
    where
      own : (m' : Link) → LinksBelow changed l' m' → Joins (LinksBelow links l) m'.low m'.high
      own m' (m'_in, below) = let one = own_one f links changed are m' m'_in in
          joins_ends (LinksBelow links l) one.0 (key_of m') (one.1, below_own one.0 l m' l' one.1 l_in one.2 l_is below) (ap (λ (k : Key). k.1) one.2) (ap (λ (k : Key). k.2) one.2)

  forest_link_own : (l l' : Link) → Contains links l → IsReweighted f l l' → IsForestLink changed l' → IsForestLink links l
  forest_link_own l l' l_in l_is is = (
    l_in,
    λ joined. is.1 (subst (λ (k : Key). Joins (LinksBelow changed l') k.1 k.2) (sym l_is)
        (joins_replace (LinksBelow links l) (LinksBelow changed l') other l.low l.high joined)),
  )
    where
      other : (m : Link) → LinksBelow links l m → Joins (LinksBelow changed l') m.low m.high
      other m (m_in, below) = let one = changed_one f links changed are m m_in in
          joins_ends (LinksBelow changed l') one.0 (key_of m) (one.1, below_changed m l one.0 l' m_in l_in one.2 l_is below) (sym (ap (λ (k : Key). k.1) one.2)) (sym (ap (λ (k : Key). k.2) one.2))

  -- the forest's links with changed weights are the forest of the list with changed weights
  changed_forest : (forest other : List Link) → IsForestOf links forest → AreReweighted f forest other → IsForestOf changed other
  changed_forest forest other is same = record { ascending = ascending; exact = λ m. (to m, from m) }
    where
      among : (l : Link) → Contains forest l → Contains links l
      among l l_in = ((is.exact l).0 l_in).0

      ascending : IsAscending other
      ascending i j d lt in_range =
          let in_forest : j < length forest = omega (arith, in_range, as_long f forest other same) in
          below_changed (get_or forest i d) (get_or forest j d) (get_or other i d) (get_or other j d)
          (among (get_or forest i d) (Contains-get_or forest i d (omega (arith, lt, in_forest)))) (among (get_or forest j d) (Contains-get_or forest j d in_forest))
          (at_place f forest other same i d (omega (arith, lt, in_forest))) (at_place f forest other same j d in_forest)
          (is.ascending i j d lt in_forest)

      to : (m : Link) → Contains other m → IsForestLink changed m
      to m m_in =
          let own = own_one f forest other same m m_in in
          let there = changed_one f links changed are own.0 (among own.0 own.1) in
          let m_there = subst (Contains changed) (one_key there.0 m (there.2 ∙ sym own.2)) there.1 in
          forest_link_changed own.0 m (among own.0 own.1) m_there own.2 ((is.exact own.0).0 own.1)

      from : (m : Link) → IsForestLink changed m → Contains other m
      from m m_is =
          let own = own_one f links changed are m m_is.0 in
          let there = changed_one f forest other same own.0 ((is.exact own.0).1 (forest_link_own own.0 m own.1 own.2 m_is)) in
          subst (Contains other) (one_key there.0 m (there.2 ∙ sym own.2)) there.1

pub forest_of_reweighted : ForestOfReweighted
forest_of_reweighted f links changed keeps are forest other is its =
    let moved = all_changed f links changed are forest (λ l l_in. ((is.exact l).0 l_in).0) in
    let moved_is = changed_forest f links changed keeps are forest moved.0 is moved.1 in
    let one = same_members moved.0 other moved_is.ascending its.ascending (λ l. (λ l_in. (its.exact l).1 ((moved_is.exact l).0 l_in), λ l_in. (moved_is.exact l).1 ((its.exact l).0 l_in))) in
    subst (AreReweighted f forest) one moved.1

pub places_of_reweighted : PlacesOfReweighted
places_of_reweighted f links changed keeps are forest other is its i k d i_in k_in =
    let same = forest_of_reweighted f links changed keeps are forest other is its in
    let l = get_or links i d in
    let m = get_or forest k d in
    let l' = get_or changed i d in
    let m' = get_or other k d in
    let l_is = at_place f links changed are i d i_in in
    let m_is = at_place f forest other same k d k_in in
    let l_in = Contains-get_or links i d i_in in
    let m_in = ((is.exact m).0 (Contains-get_or forest k d k_in)).0 in
    (one_changed f links changed keeps are l m l' m' l_is m_is, one_own f links changed keeps are l m l' m' l_in m_in l_is m_is)
