-- Membership in a list, one element at a time.
use Rattle.std.proofs.Common.{◌≡◌, zero, suc, ◌⊎◌, ◌↔◌, List, [], ◌∷◌, Contains, refl, sym, ap₂, ◌∙◌, subst, inl, inr, ⊎_elim, arith}
use Rattle.std.specs.Prelude.{AllPairs}

-- what a list with an element added in front contains
pub contains_cases : {X : Type 0} (y x : X) (ys : List X) → Contains (y ∷ ys) x → (x ≡ y) ⊎ Contains ys x
contains_cases a1 a2 a3 a4 = search arith

pub contains_head : {X : Type 0} (y : X) (ys : List X) → Contains (y ∷ ys) y
contains_head y ys = (0, omega arith, refl)

pub contains_tail : {X : Type 0} (y x : X) (ys : List X) → Contains ys x → Contains (y ∷ ys) x
contains_tail y x ys (k, lt, e) = (suc k, omega arith, e)

pub contains_none : {X : Type 0} (x : X) → Contains [] x → ⊥
contains_none x (k, lt, e) = omega arith

-- if equality of elements is decidable, membership is decidable
pub contains_dec : {X : Type 0} → ((x y : X) → (x ≡ y) ⊎ (¬ (x ≡ y))) → (xs : List X) (x : X) → Contains xs x ⊎ (¬ (Contains xs x))
contains_dec same [] x = inr (contains_none x)
contains_dec same (y ∷ ys) x = elim (same x y) [
  | inl is ↦ inl (subst (Contains (y ∷ ys)) (sym is) (contains_head y ys))
  | inr other ↦ elim (contains_dec same ys x) [
    | inl in_ys ↦ inl (contains_tail y x ys in_ys)
    | inr outside ↦ inr (λ in_all. ⊎_elim other outside (contains_cases y x ys in_all))
  ]
]

-- the first element of an ascending list is before every other element
pub ascends_head : {X : Type 0} (R : X → X → Type 0) (x : X) (xs : List X) → AllPairs R (x ∷ xs) → (y : X) → Contains xs y → R x y
ascends_head R x xs up y (k, lt, at) = subst (R x) at (up 0 (suc k) y (omega arith) (omega arith))

pub ascends_tail : {X : Type 0} (R : X → X → Type 0) (x : X) (xs : List X) → AllPairs R (x ∷ xs) → AllPairs R xs
ascends_tail R x xs up i j d lt in_range = up (suc i) (suc j) d (omega arith) (omega arith)

-- Two ascending lists with the same members are equal. The first element of each is before all its other members, and
-- no tail contains its list's first element.
pub same_ascending : {X : Type 0} (R : X → X → Type 0) → ((x : X) → ¬ (R x x)) → ((x y : X) → R x y → ¬ (R y x)) → (xs ys : List X) → AllPairs R xs
    → AllPairs R ys → ((x : X) → Contains xs x ↔ Contains ys x) → xs ≡ ys
same_ascending {X = X} R irrefl asymm [] [] up up' same = refl
same_ascending {X = X} R irrefl asymm [] (y ∷ ys) up up' same = absurd (contains_none y ((same y).1 (contains_head y ys)))
same_ascending {X = X} R irrefl asymm (x ∷ xs) [] up up' same = absurd (contains_none x ((same x).0 (contains_head x xs)))
same_ascending {X = X} R irrefl asymm (x ∷ xs) (y ∷ ys) up up' same =
    ap₂ (λ z zs. z ∷ zs) heads (same_ascending R irrefl asymm xs ys (ascends_tail R x xs up) (ascends_tail R y ys up') (λ z. (to z, back z)))
  where
    heads : x ≡ y
    heads = elim (contains_cases y x ys ((same x).0 (contains_head x xs))) [
      | inl is ↦ is
      | inr in_ys ↦ elim (contains_cases x y xs ((same y).1 (contains_head y ys))) [
        | inl is ↦ sym is
        | inr in_xs ↦ absurd (asymm x y (ascends_head R x xs up y in_xs) (ascends_head R y ys up' x in_ys))
      ]
    ]

    to : (z : X) → Contains xs z → Contains ys z
    to z in_xs = elim (contains_cases y z ys ((same z).0 (contains_tail x z xs in_xs))) [
      | inl is ↦ absurd (irrefl x (subst (R x) (is ∙ sym heads) (ascends_head R x xs up z in_xs)))
      | inr in_ys ↦ in_ys
    ]

    back : (z : X) → Contains ys z → Contains xs z
    back z in_ys = elim (contains_cases x z xs ((same z).1 (contains_tail y z ys in_ys))) [
      | inl is ↦ absurd (irrefl y (subst (R y) (is ∙ heads) (ascends_head R y ys up' z in_ys)))
      | inr in_xs ↦ in_xs
    ]
