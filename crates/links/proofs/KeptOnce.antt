-- Lists from which links that repeat the one before them are dropped.
use Rattle.std.proofs.Common.{◌≡◌, ℕ, ◌+◌, ◌-◌, ◌<◌, ◌≤◌, ◌⊎◌, Bool, true, false, List, [], ◌∷◌, ◌++◌, Contains, take, set, length, get_or, inl, inr, refl, sym, ap, ◌∙◌, subst, arith}
use mir.Val.{bool_byte}
use Rattle.std.proofs.lemmas.List.{take_more, take_more_set, take-set, get_or-take, length-take-le}
use Rattle.std.proofs.lemmas.List.Elements.{Contains-get_or, Contains-append_cases, Contains-append_left, Contains-append_right}
use Rattle.links.specs.LinkSet.{SameLinks}
use Rattle.links.specs.declared.links.Link.{Link}
use Rattle.links.proofs.Members.{contains_cases, contains_none}

-- if a link is appended to two lists with the same links, they still have the same links
both_more : (xs ys : List Link) (x : Link) → SameLinks (Contains xs) (Contains ys) → SameLinks (Contains (xs ++ x ∷ [])) (Contains (ys ++ x ∷ []))
both_more xs ys x same l = (more xs ys (λ m. (same m).0), more ys xs (λ m. (same m).1))
  where
    more : (xs ys : List Link) → ((m : Link) → Contains xs m → Contains ys m) → Contains (xs ++ x ∷ []) l → Contains (ys ++ x ∷ []) l
    more xs ys to here = elim (Contains-append_cases xs (x ∷ []) l here) [
      | inl in_xs ↦ Contains-append_left ys (x ∷ []) l (to l in_xs)
      | inr last ↦ Contains-append_right ys (x ∷ []) l last
    ]

in_already : (xs ys : List Link) (x : Link) → Contains ys x → SameLinks (Contains xs) (Contains ys) → SameLinks (Contains (xs ++ x ∷ [])) (Contains ys)
in_already xs ys x there same l = (
  λ here. elim (Contains-append_cases xs (x ∷ []) l here) [
    | inl in_xs ↦ (same l).0 in_xs
    | inr last ↦ elim (contains_cases x l [] last) [
      | inl is ↦ subst (Contains ys) (sym is) there
      | inr none ↦ absurd (contains_none l none)
    ]
  ],
  λ in_ys. Contains-append_left xs (x ∷ []) l ((same l).1 in_ys),
)

-- a number to which a truth value is added stays the same, unless the value is true
pub counted_unless : (b : Bool) (n : ℕ) (P : Type 0) → (b ≡ false → P) → ((n + bool_byte b ≡ n) × P) ⊎ (n + bool_byte b ≡ n + 1)
counted_unless a1 a2 a3 a4 = search arith

-- the next link is written after the kept ones, and counted unless it repeats the last of them
pub once_more : (start now : List Link) {i kept kept' : ℕ} (x : Link) → i < length start → x ≡ get_or start i x → kept < length now → 1 ≤ kept
    → ((kept' ≡ kept) × (x ≡ get_or now (kept - 1) x)) ⊎ (kept' ≡ kept + 1) → SameLinks (Contains (take i start)) (Contains (take kept now))
    → SameLinks (Contains (take (i + 1) start)) (Contains (take kept' (set now kept x)))
once_more start now {i} {kept} {kept'} x i_in is kept_in some counted same =
    subst (λ (xs : List Link). SameLinks (Contains xs) (Contains (take kept' (set now kept x)))) (sym (take_more start i x i_in ∙ ap (λ y. take i start ++ y ∷ []) (sym is))) (step counted)
  where
    last : (x ≡ get_or now (kept - 1) x) → Contains (take kept now) x
    last repeats =
        let long = length-take-le kept now (omega (arith, kept_in)) in
        let here = Contains-get_or (take kept now) (kept - 1) x (omega (arith, some, long)) in
        subst (Contains (take kept now)) (get_or-take kept now (kept - 1) x (omega (arith, some)) ∙ sym repeats) here

    step : ((kept' ≡ kept) × (x ≡ get_or now (kept - 1) x)) ⊎ (kept' ≡ kept + 1) → SameLinks (Contains (take i start ++ x ∷ [])) (Contains (take kept' (set now kept x)))
    step (inl (fixed, repeats)) =
        subst (λ (ys : List Link). SameLinks (Contains (take i start ++ x ∷ [])) (Contains ys)) (sym (ap (λ n. take n (set now kept x)) fixed ∙ take-set now kept x))
        (in_already (take i start) (take kept now) x (last repeats) same)
    step (inr more) =
        subst (λ (ys : List Link). SameLinks (Contains (take i start ++ x ∷ [])) (Contains ys)) (sym (ap (λ n. take n (set now kept x)) more ∙ take_more_set now kept x kept_in))
        (both_more (take i start) (take kept now) x same)
