-- What a set of links joins: the equivalence relation on vertices that the links generate.
use Rattle.std.proofs.Common.{◌≡◌, ℕ, ◌⊎◌, ◌↔◌, List, [], ◌∷◌, Contains, refl, sym, ap, ◌∙◌, subst, inl, inr, arith}
use Rattle.std.specs.List.{AllByRecursion}
use Rattle.std.proofs.lemmas.Bool.{cases_eq}
use Rattle.links.specs.declared.links.Link.{Link}
use Rattle.links.specs.Walk.{IsWalk, Joins}
use Rattle.links.proofs.Members.{contains_cases, contains_head, contains_tail, contains_none}

pub joins_refl : (S : Link → Type 0) (u : ℕ) → Joins S u u
joins_refl S u = ([], tt, refl)

pub joins_same : (S : Link → Type 0) (u v : ℕ) → u ≡ v → Joins S u v
joins_same S u v same = ([], tt, same)

-- a link of the set joins its endpoints
pub joins_link : (S : Link → Type 0) (l : Link) → S l → Joins S l.low l.high
joins_link S l is_in = (l ∷ [], (is_in, tt), inl (refl, refl))

pub joins_link_back : (S : Link → Type 0) (l : Link) → S l → Joins S l.high l.low
joins_link_back S l is_in = (l ∷ [], (is_in, tt), inr (refl, refl))

pub joins_trans : (S : Link → Type 0) (u v w : ℕ) → Joins S u v → Joins S v w → Joins S u w
joins_trans S u v w (walk, all, leads) then_on = along u walk all leads
  where
    along : (u : ℕ) (walk : List Link) → AllByRecursion S walk → IsWalk u walk v → Joins S u w
    along u [] all same = subst (λ x. Joins S x w) (sym same) then_on
    along u (l ∷ walk) (is_in, all) (inl (at, leads)) = let rest = along l.high walk all leads in (l ∷ rest.0, (is_in, rest.1), inl (at, rest.2))
    along u (l ∷ walk) (is_in, all) (inr (at, leads)) = let rest = along l.low walk all leads in (l ∷ rest.0, (is_in, rest.1), inr (at, rest.2))

-- Every equivalence relation that holds between the endpoints of each link of a set holds between any two vertices that
-- the set joins. The proof goes along the walk, link by link.
pub joins_least : (S : Link → Type 0) (R : ℕ → ℕ → Type 0) → ((u : ℕ) → R u u) → ((u v : ℕ) → R u v → R v u) → ((u v w : ℕ) → R u v → R v w → R u w)
    → ((l : Link) → S l → R l.low l.high) → (u v : ℕ) → Joins S u v → R u v
joins_least S R same back on ends u v (walk, all, leads) = along u walk all leads
  where
    along : (u : ℕ) (walk : List Link) → AllByRecursion S walk → IsWalk u walk v → R u v
    along u [] all is = subst (λ x. R u x) is (same u)
    along u (l ∷ walk) (is_in, all) (inl (at, leads)) = subst (λ x. R x v) (sym at) (on l.low l.high v (ends l is_in) (along l.high walk all leads))
    along u (l ∷ walk) (is_in, all) (inr (at, leads)) = subst (λ x. R x v) (sym at) (on l.high l.low v (back l.low l.high (ends l is_in)) (along l.low walk all leads))

pub joins_symm : (S : Link → Type 0) (u v : ℕ) → Joins S u v → Joins S v u
joins_symm S u v (walk, all, leads) = along u walk all leads
  where
    along : (u : ℕ) (walk : List Link) → AllByRecursion S walk → IsWalk u walk v → Joins S v u
    along u [] all is = joins_same S v u (sym is)
    along u (l ∷ walk) (is_in, all) (inl (at, leads)) = subst (λ x. Joins S v x) (sym at) (joins_trans S v l.high l.low (along l.high walk all leads) (joins_link_back S l is_in))
    along u (l ∷ walk) (is_in, all) (inr (at, leads)) = subst (λ x. Joins S v x) (sym at) (joins_trans S v l.low l.high (along l.low walk all leads) (joins_link S l is_in))

-- each link of a walk is replaced by a walk over other links
pub joins_replace : (S R : Link → Type 0) → ((l : Link) → S l → Joins R l.low l.high) → (u v : ℕ) → Joins S u v → Joins R u v
joins_replace S R by_walk = joins_least S (Joins R) (joins_refl R) (joins_symm R) (joins_trans R) by_walk

pub joins_more : (S R : Link → Type 0) → ((l : Link) → S l → R l) → (u v : ℕ) → Joins S u v → Joins R u v
joins_more S R more = joins_replace S R (λ l is_in. joins_link R l (more l is_in))

pub joins_alike : (S R : Link → Type 0) → ((l : Link) → S l ↔ R l) → (u v : ℕ) → Joins S u v ↔ Joins R u v
joins_alike S R alike u v = (joins_more S R (λ l. (alike l).0) u v, joins_more R S (λ l. (alike l).1) u v)

-- a function that is equal at both endpoints of each link is equal at joined vertices
pub joins_equal : {X : Type 0} (S : Link → Type 0) (f : ℕ → X) → ((l : Link) → S l → f l.low ≡ f l.high) → (u v : ℕ) → Joins S u v → f u ≡ f v
joins_equal S f equal = joins_least S (λ u v. f u ≡ f v) (λ u. refl) (λ u v e. sym e) (λ u v w e e'. e ∙ e') equal

-- joined by the set, or by a walk over one added link in either direction
abbrev pub JoinsThrough : (Link → Type 0) → Link → ℕ → ℕ → Type 0
JoinsThrough S l u v = Joins S u v ⊎ (Joins S u l.low × Joins S l.high v) ⊎ (Joins S u l.high × Joins S l.low v)

-- a walk over the link from its lower endpoint, continued from its higher endpoint
from_low : (S : Link → Type 0) (l : Link) (u v : ℕ) → u ≡ l.low → JoinsThrough S l l.high v → JoinsThrough S l u v
from_low a1 a2 a3 a4 a5 a6 = search (arith, joins_same)

-- a walk over the link from its higher endpoint, continued from its lower endpoint
from_high : (S : Link → Type 0) (l : Link) (u v : ℕ) → u ≡ l.high → JoinsThrough S l l.low v → JoinsThrough S l u v
from_high a1 a2 a3 a4 a5 a6 = search (arith, joins_same)

-- a walk over the set, followed by what is joined through a link
through_after : (S : Link → Type 0) (l : Link) (u v w : ℕ) → Joins S u v → JoinsThrough S l v w → JoinsThrough S l u w
through_after S l u v w first (inl joined) = inl (joins_trans S u v w first joined)
through_after S l u v w first (inr (inl (to, from))) = inr (inl (joins_trans S u v l.low first to, from))
through_after S l u v w first (inr (inr (to, from))) = inr (inr (joins_trans S u v l.high first to, from))

abbrev pub WithLink : (Link → Type 0) → Link → Link → Type 0
WithLink S l m = S m ⊎ (m ≡ l)

-- along a walk over the set with one added link
walk_through : (S : Link → Type 0) (l : Link) (v u : ℕ) (walk : List Link) → AllByRecursion (WithLink S l) walk → IsWalk u walk v → JoinsThrough S l u v
walk_through S l v u [] all is = inl (joins_same S u v is)
walk_through S l v u (m ∷ walk) (inl is_in, all) (inl (at, leads)) =
    subst (λ x. JoinsThrough S l x v) (sym at) (through_after S l m.low m.high v (joins_link S m is_in) (walk_through S l v m.high walk all leads))
walk_through S l v u (m ∷ walk) (inl is_in, all) (inr (at, leads)) =
    subst (λ x. JoinsThrough S l x v) (sym at) (through_after S l m.high m.low v (joins_link_back S m is_in) (walk_through S l v m.low walk all leads))
walk_through S l v u (m ∷ walk) (inr is, all) (inl (at, leads)) =
    from_low S l u v (at ∙ ap (λ (x : Link). x.low) is) (subst (λ (x : Link). JoinsThrough S l x.high v) is (walk_through S l v m.high walk all leads))
walk_through S l v u (m ∷ walk) (inr is, all) (inr (at, leads)) =
    from_high S l u v (at ∙ ap (λ (x : Link). x.high) is) (subst (λ (x : Link). JoinsThrough S l x.low v) is (walk_through S l v m.low walk all leads))

-- An added link joins exactly what is joined without it or by a walk that takes it once. If a walk takes the link
-- again, the part in between is a detour.
pub joins_one_more : (S : Link → Type 0) (l : Link) (u v : ℕ) → Joins (WithLink S l) u v ↔ JoinsThrough S l u v
joins_one_more S l u v = (λ joined. walk_through S l v u joined.0 joined.1 joined.2, back)
  where
    kept : (x y : ℕ) → Joins S x y → Joins (WithLink S l) x y
    kept = joins_more S (WithLink S l) (λ m is_in. inl is_in)

    back : JoinsThrough S l u v → Joins (WithLink S l) u v
    back (inl joined) = kept u v joined
    back (inr (inl (to, from))) = joins_trans (WithLink S l) u l.low v (kept u l.low to) (joins_trans (WithLink S l) l.low l.high v (joins_link (WithLink S l) l (inr refl)) (kept l.high v from))
    back (inr (inr (to, from))) = joins_trans (WithLink S l) u l.high v (kept u l.high to) (joins_trans (WithLink S l) l.high l.low v (joins_link_back (WithLink S l) l (inr refl)) (kept l.low v from))

abbrev pub Decided : Type 0 → Type 0
Decided P = P ⊎ (¬ P)

both_dec : {P Q : Type 0} → Decided P → Decided Q → Decided (P × Q)
both_dec a1 a2 = search arith

three_dec : {P Q R : Type 0} → Decided P → Decided Q → Decided R → Decided (P ⊎ Q ⊎ R)
three_dec a1 a2 a3 = search arith

-- if two propositions are equivalent and one is decidable, so is the other
pub dec_along : {P Q : Type 0} → (P → Q) → (Q → P) → Decided P → Decided Q
dec_along a1 a2 a3 = search arith

-- the links of the list that pass a test
abbrev pub Passing : List Link → (Link → Type 0) → Link → Type 0
Passing links P m = Contains links m × P m

-- Whether the links of a list that pass a test join two vertices is decidable, by induction on the list. Without links,
-- only equal vertices are joined. What an added link joins is described above.
pub joins_dec : (P : Link → Type 0) → ((l : Link) → Decided (P l)) → (links : List Link) (u v : ℕ) → Decided (Joins (Passing links P) u v)
joins_dec P test [] u v = elim (cases_eq u v) [
  | inl same ↦ inl (joins_same (Passing [] P) u v same)
  | inr other ↦ inr (λ joined. other (joins_equal (Passing [] P) (λ x. x) (λ l is_in. absurd (contains_none l is_in.0)) u v joined))
]
joins_dec P test (l ∷ links) u v = elim (test l) [
  | inl passes ↦ dec_along
      (λ joined. joins_more (WithLink (Passing links P) l) (Passing (l ∷ links) P) (with_to passes) u v ((joins_one_more (Passing links P) l u v).1 joined))
      (λ joined. (joins_one_more (Passing links P) l u v).0 (joins_more (Passing (l ∷ links) P) (WithLink (Passing links P) l) to_with u v joined))
      (three_dec (joins_dec P test links u v) (both_dec (joins_dec P test links u l.low) (joins_dec P test links l.high v))
      (both_dec (joins_dec P test links u l.high) (joins_dec P test links l.low v)))
  | inr fails ↦ dec_along
      (joins_more (Passing links P) (Passing (l ∷ links) P) (λ m is_in. (contains_tail l m links is_in.0, is_in.1)) u v)
      (joins_more (Passing (l ∷ links) P) (Passing links P) (without fails) u v)
      (joins_dec P test links u v)
]
  where
    with_to : P l → (m : Link) → WithLink (Passing links P) l m → Passing (l ∷ links) P m
    with_to passes m (inl is_in) = (contains_tail l m links is_in.0, is_in.1)
    with_to passes m (inr is) = (subst (λ x. Contains (l ∷ links) x) (sym is) (contains_head l links), subst P (sym is) passes)

    to_with : (m : Link) → Passing (l ∷ links) P m → WithLink (Passing links P) l m
    to_with m (is_in, passes) = elim (contains_cases l m links is_in) [
      | inl is ↦ inr is
      | inr in_links ↦ inl (in_links, passes)
    ]

    without : (P l → ⊥) → (m : Link) → Passing (l ∷ links) P m → Passing links P m
    without fails m (is_in, passes) = elim (contains_cases l m links is_in) [
      | inl is ↦ absurd (fails (subst P is passes))
      | inr in_links ↦ (in_links, passes)
    ]
