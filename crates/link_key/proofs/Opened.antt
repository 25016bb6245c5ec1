-- Links with the labels of their endpoints: what a new numbering of the labels leaves of them.
use Rattle.std.proofs.Common.{◌≡◌, ℕ, ◌+◌, ◌<◌, ◌≤◌, ◌==◌, pos, true, not, List, [], ◌∷◌, map, Contains, length, get_or, is_lt, refl, sym, ap, ap₂, ◌∙◌, subst, inl, inr, arith}
use Rattle.std.specs.List.{filter, All}
use Rattle.std.specs.List.Sorted.{IsSorted}
use Rattle.std.proofs.lemmas.Int.{ints}
use Rattle.std.proofs.lemmas.List.{same_lists, get_or-map, get_or_default, length-map, get_or_past}
use Rattle.std.proofs.lemmas.Bool.{cases_lt}
use Rattle.std.proofs.lemmas.List.Elements.{All-contains, All-filter, All-map}
use Rattle.std.proofs.lemmas.List.Kept.{IsSortedBy-filter}
use Rattle.std.proofs.lemmas.List.Sorted.{ranks_by}
use Rattle.std.proofs.lemmas.Bool.Decides.{nat_tests}
use Rattle.links.specs.declared.links.Link.{Link}
use Rattle.link_key.specs.declared.sequential.rounds.Open.{Open}
use Rattle.links.specs.Link.{key_cmp}
use Rattle.link_key.specs.Rounds.{HasOneLabel}
use Rattle.links.specs.Labels.{renamed}
use Rattle.link_key.specs.OpenLinks.{link_of, links_of, open_cmp, renumbered, is_open, AreOpened, IsLabelled, AreLabelled, AreOpenOf, IsBetween, AreBetween, AreAllNumbers}
use Rattle.links.proofs.Members.{contains_cases, contains_head, contains_tail, contains_none}
use Rattle.links.proofs.Keys.{key_cmp_total}
use Rattle.link_key.proofs.Stages.{renamed_to, renamed_len}
use Rattle.links.proofs.Kept.{kept_in, kept_if}

in_map : {X Y : Type 0} (f : X → Y) (xs : List X) (x : X) → Contains xs x → Contains (map f xs) (f x)
in_map f [] x x_in = absurd (contains_none x x_in)
in_map f (y ∷ xs) x x_in = elim (contains_cases y x xs x_in) [
  | inl is ↦ subst (λ z. Contains (f y ∷ map f xs) (f z)) (sym is) (contains_head (f y) (map f xs))
  | inr later ↦ contains_tail (f y) (f x) (map f xs) (in_map f xs x later)
]

from_map : {X Y : Type 0} (f : X → Y) (xs : List X) (z : Y) → Contains (map f xs) z → (x : X) × Contains xs x × (f x ≡ z)
from_map f [] z z_in = absurd (contains_none z z_in)
from_map f (y ∷ xs) z z_in = elim (contains_cases (f y) z (map f xs) z_in) [
  | inl is ↦ (y, contains_head y xs, sym is)
  | inr later ↦ let found = from_map f xs z later in (found.0, contains_tail y found.0 xs found.1, found.2)
]

-- a link, for indices past the end of a list
pub some_link : Link
some_link = record {
  weight = pos 0;
  low = 1;
  high = 2;
  from_one = omega arith;
  ascending = omega arith;
  in_limit = omega arith;
  weight_fits = omega (arith, ints);
}

no_link : Open
no_link = record { low = 0; high = 0; rank = 0 }

-- the open link at an index
module _ {label : ℕ → ℕ} {links : List Link} {candidates : List Open} (are : AreOpened label links candidates) where
  place : (k : ℕ) → k < length candidates → k < length links
  place k lt = subst (λ n. k < n) are.len lt

  link_is : (d : Link) (o : Open) (k : ℕ) → k < length links → link_of d links (get_or candidates k o) ≡ get_or links k d
  link_is d o k lt = ap (link_of d links) (are.each k o d lt)

  pub links_opened : (d : Link) → links_of d links candidates ≡ links
  links_opened d = same_lists (links_of d links candidates) links (length-map candidates (link_of d links) ∙ are.len) (λ k d' lt.
      let k_in : k < length candidates = subst (λ n. k < n) (length-map candidates (link_of d links)) lt in
      get_or-map (link_of d links) candidates k no_link d' k_in ∙ link_is d no_link k (place k k_in) ∙ get_or_default links k d d' (place k k_in))

  pub opened_between : {n bound : ℕ} → All (λ (l : Link). l.high ≤ n) links → ((v : ℕ) → 0 < v → v ≤ n → (0 < label v) × (label v < bound)) → AreBetween bound (length links) candidates
  opened_between {n} {bound} ends labels k o lt =
      let lt' = place k lt in
      let l = get_or links k some_link in
      let ascending = l.ascending in
      let from_one = l.from_one in
      let most = ends k some_link lt' in
      let low = labels l.low (omega (arith, from_one)) (omega (arith, ascending, most)) in
      let high = labels l.high (omega (arith, from_one, ascending)) most in
      subst (IsBetween bound (length links)) (sym (are.each k o some_link lt')) (low.0, low.1, high.0, high.1, lt')

  -- if these are the labels of the vertices
  pub opened_of : {n : ℕ} (labels : List ℕ) → length labels ≡ n + 1 → ((v : ℕ) → v < length labels → get_or labels v 0 ≡ label v)
      → All (λ (l : Link). l.high ≤ n) links → IsSorted key_cmp links → (d : Link) → AreOpenOf labels d links candidates
  opened_of {n} labels len same ends order d = (sorted, labelled)
    where
      sorted : IsSorted (open_cmp d links) candidates
      sorted k o from to =
          let to' = place (k + 1) to in
          let here = link_is d o k (omega (arith, to')) in
          let next = link_is d o (k + 1) to' in
          rw (here, next) (order k d from to')

      labelled : AreLabelled labels d links candidates
      labelled k o lt =
          let lt' = place k lt in
          let l = get_or links k d in
          let ascending = l.ascending in
          let most = ends k d lt' in
          let high_in : l.high < length labels = omega (arith, len, most) in
          let low_in : l.low < length labels = omega (arith, ascending, high_in) in
          subst (λ (p : Open). IsLabelled labels (link_of d links p) p) (sym (are.each k o d lt')) (high_in, same l.low low_in, same l.high high_in)

-- open links ascend as their links do
pub sorted_links : (d : Link) (links : List Link) (candidates : List Open) → IsSorted (open_cmp d links) candidates → IsSorted key_cmp (links_of d links candidates)
sorted_links d links candidates order k d' from to =
    let to' : k + 1 < length candidates = subst (λ n. k + 1 < n) (length-map candidates (link_of d links)) to in
    let here = get_or-map (link_of d links) candidates k no_link d' (omega (arith, to')) in
    let next = get_or-map (link_of d links) candidates (k + 1) no_link d' to' in
    rw (here, next) (order k no_link from to')

module _ (numbers : List ℕ) (candidates : List Open) where
  left : List Open
  left = filter is_open (map (renumbered numbers) candidates)

  pub left_sorted : (d : Link) (links : List Link) → IsSorted (open_cmp d links) candidates → IsSorted (open_cmp d links) (filter is_open (map (renumbered numbers) candidates))
  left_sorted d links order = IsSortedBy-filter (λ o p. is_lt (open_cmp d links o p)) (ranks_by key_cmp_total (link_of d links)) is_open (map (renumbered numbers) candidates) moved
    where
      moved : IsSorted (open_cmp d links) (map (renumbered numbers) candidates)
      moved k o from to =
          let to' : k + 1 < length candidates = subst (λ n. k + 1 < n) (length-map candidates (renumbered numbers)) to in
          let here = get_or-map (renumbered numbers) candidates k o o (omega (arith, to')) in
          let next = get_or-map (renumbered numbers) candidates (k + 1) o o to' in
          rw (here, next) (order k o from to')

  -- their new labels are numbers
  pub left_between : {bound len last : ℕ} → AreBetween bound len candidates → length numbers ≡ bound
      → AreAllNumbers last numbers → AreBetween (last + 1) len (filter is_open (map (renumbered numbers) candidates))
  left_between {bound} {len} {last} ends same all =
      All-filter is_open (IsBetween (last + 1) len) (map (renumbered numbers) candidates)
      (All-map (IsBetween (last + 1) len) (renumbered numbers) candidates (λ k o lt. number (get_or candidates k o) (ends k o lt)))
    where
      number : (o : Open) → IsBetween bound len o → IsBetween (last + 1) len (renumbered numbers o)
      number o at =
          let low = all.at_most o.low in
          let high = all.at_most o.high in
          (all.some o.low at.0 (subst (λ k. o.low < k) (sym same) at.1), omega (arith, low), all.some o.high at.2 (subst (λ k. o.high < k) (sym same) at.3), omega (arith, high), at.4)

  module _ (labels : List ℕ) (d : Link) (links : List Link) (labelled : AreLabelled labels d links candidates) where
    at_ends : (o : Open) → Contains candidates o → IsLabelled labels (link_of d links o) o
    at_ends o o_in = All-contains (λ (p : Open). IsLabelled labels (link_of d links p) p) candidates o labelled o_in

    new_ends : (o : Open) → IsLabelled labels (link_of d links o) o
        → (get_or (renamed numbers labels) (link_of d links o).low 0 ≡ get_or numbers o.low 0) × (get_or (renamed numbers labels) (link_of d links o).high 0 ≡ get_or numbers o.high 0)
    new_ends o at = search (arith, renamed_to)

    pub left_labelled : AreLabelled (renamed numbers labels) d links (filter is_open (map (renumbered numbers) candidates))
    left_labelled =
        All-filter is_open P (map (renumbered numbers) candidates) (All-map P (renumbered numbers) candidates (λ k o lt. (
          subst (λ n. (link_of d links (get_or candidates k o)).high < n) (sym (renamed_len numbers labels)) (labelled k o lt).0,
          (new_ends (get_or candidates k o) (labelled k o lt)).0,
          (new_ends (get_or candidates k o) (labelled k o lt)).1,
        )))
      where
        P : Open → Type 0
        P o = IsLabelled (renamed numbers labels) (link_of d links o) o

    -- the remaining links are exactly those that are apart by the new labels
    pub left_in : (l : Link) → Contains (links_of d links (filter is_open (map (renumbered numbers) candidates))) l
        → Contains (links_of d links candidates) l × ¬ (HasOneLabel (renamed numbers labels) l)
    left_in l l_in =
        let found = from_map (link_of d links) (filter is_open (map (renumbered numbers) candidates)) l l_in in
        let o' = found.0 in
        let kept = kept_in is_open (map (renumbered numbers) candidates) o' found.1 in
        let old = from_map (renumbered numbers) candidates o' kept.0 in
        let o = old.0 in
        let same : link_of d links o ≡ l = ap (link_of d links) old.2 ∙ found.2 in
        let is = new_ends o (at_ends o old.1) in
        let passes : is_open (renumbered numbers o) ≡ true = ap is_open old.2 ∙ kept.1 in
        subst (λ (m : Link). Contains (links_of d links candidates) m × ¬ (HasOneLabel (renamed numbers labels) m)) same (
          in_map (link_of d links) candidates o old.1,
          λ one. differ (get_or numbers o.low 0) (get_or numbers o.high 0) passes (sym is.0 ∙ one ∙ is.1),
        )
      where
        differ : (a b : ℕ) → not (a == b) ≡ true → a ≡ b → ⊥
        differ a b passes same = grind (arith, nat_tests)

    pub left_if : (l : Link) → Contains (links_of d links candidates) l → ¬ (HasOneLabel (renamed numbers labels) l)
        → Contains (links_of d links (filter is_open (map (renumbered numbers) candidates))) l
    left_if l l_in apart =
        let found = from_map (link_of d links) candidates l l_in in
        let o = found.0 in
        let is = new_ends o (at_ends o found.1) in
        let differ : get_or numbers o.low 0 ≡ get_or numbers o.high 0 → ⊥ = λ same. apart (subst (HasOneLabel (renamed numbers labels)) found.2 (is.0 ∙ same ∙ sym is.1)) in
        let passes = test (get_or numbers o.low 0) (get_or numbers o.high 0) differ in
        subst (Contains (links_of d links (filter is_open (map (renumbered numbers) candidates)))) found.2
        (in_map (link_of d links) (filter is_open (map (renumbered numbers) candidates)) (renumbered numbers o)
        (kept_if is_open (map (renumbered numbers) candidates) (renumbered numbers o) (in_map (renumbered numbers) candidates o found.1) passes))
      where
        test : (a b : ℕ) → (a ≡ b → ⊥) → not (a == b) ≡ true
        test a b apart' = grind (arith, nat_tests)

-- one renaming after the other is the renaming by the numbers of the numbers
renamed_at : (numbers further : List ℕ) (c : ℕ) → get_or further 0 0 ≡ 0 → get_or (renamed further numbers) c 0 ≡ get_or further (get_or numbers c 0) 0
renamed_at numbers further c none = search (arith, cases_lt, renamed_to, get_or_past, renamed_len)

pub renamed_twice : (numbers further labels : List ℕ) → get_or further 0 0 ≡ 0 → renamed (renamed further numbers) labels ≡ renamed further (renamed numbers labels)
renamed_twice numbers further [] none = refl
renamed_twice numbers further (c ∷ labels) none = ap₂ (λ (k : ℕ) (ks : List ℕ). k ∷ ks) (renamed_at numbers further c none) (renamed_twice numbers further labels none)

pub renamed_numbers : {count last : ℕ} {numbers further : List ℕ} → AreAllNumbers count numbers
    → length further ≡ count + 1 → last ≤ count → AreAllNumbers last further → AreAllNumbers last (renamed further numbers)
renamed_numbers {count} {last} {numbers} {further} are len few all = search (arith, renamed_at, renamed_len)

pub none_left : {X : Type 0} (xs : List X) → length xs ≡ 0 → xs ≡ []
none_left [] none = refl
none_left (x ∷ xs) none = absurd (omega (arith, none))
