-- Links that are marked by their indices.
use Rattle.std.proofs.Common.{◌≡◌, zero, suc, ℕ, ◌+◌, ◌<◌, ◌⊎◌, ◌↔◌, Bool, true, false, if◌then◌else◌, List, [], ◌∷◌, ◌++◌}
use Rattle.std.proofs.Common.{Contains, length, get_or, set, take, replicate, get_or-set_same, get_or-set_other, refl, sym, ap, ◌∙◌, subst, inl, inr, arith}
use Rattle.std.proofs.lemmas.List.{append-nil, get_or_default, take_more_set, take-set}
use Rattle.std.proofs.lemmas.Bool.{cases_eq}
use Rattle.std.proofs.lemmas.List.Elements.{Contains-append_left, Contains-append_right, Contains-append_cases, Contains-push, Contains-push_cases}
use mathlib.Core.Bool.{false≢true}
use mir.Val.{bool_byte}
use Rattle.links.specs.declared.links.Link.{Link}
use Rattle.link_key.specs.OpenLinks.{marked}
use Rattle.links.proofs.Members.{contains_cases, contains_head, contains_tail, contains_none}

-- a marked link has an index with a mark
abbrev IsMarked : List Link → List Bool → Link → Type 0
IsMarked links marks l = (k : ℕ) × (k < length links) × (get_or marks k false ≡ true) × (get_or links k l ≡ l)

marked_at : (links : List Link) (marks : List Bool) (l : Link) → Contains (marked links marks) l → IsMarked links marks l
marked_at [] marks l l_in = absurd (contains_none l l_in)
marked_at (m ∷ links) [] l l_in = absurd (contains_none l l_in)
marked_at (m ∷ links) (true ∷ marks) l l_in = elim (contains_cases m l (marked links marks) l_in) [
  | inl is ↦ (0, omega arith, refl, sym is)
  | inr later ↦ let (k, k_in, has, is) = marked_at links marks l later in (suc k, omega (arith, k_in), has, is)
]
marked_at (m ∷ links) (false ∷ marks) l l_in = let (k, k_in, has, is) = marked_at links marks l l_in in (suc k, omega (arith, k_in), has, is)

marked_if : (links : List Link) (marks : List Bool) (l : Link) → IsMarked links marks l → Contains (marked links marks) l
marked_if [] marks l (k, k_in, has, is) = absurd (omega (arith, k_in))
marked_if (m ∷ links) [] l (k, k_in, has, is) = absurd (false≢true has)
marked_if (m ∷ links) (true ∷ marks) l (zero, k_in, has, is) = subst (Contains (m ∷ marked links marks)) is (contains_head m (marked links marks))
marked_if (m ∷ links) (false ∷ marks) l (zero, k_in, has, is) = absurd (false≢true has)
marked_if (m ∷ links) (true ∷ marks) l (suc k, k_in, has, is) = contains_tail m l (marked links marks) (marked_if links marks l (k, omega (arith, k_in), has, is))
marked_if (m ∷ links) (false ∷ marks) l (suc k, k_in, has, is) = marked_if links marks l (k, omega (arith, k_in), has, is)

pub marked_none : (links : List Link) (n : ℕ) → marked links (replicate n false) ≡ []
marked_none [] n = refl
marked_none (m ∷ links) zero = refl
marked_none (m ∷ links) (suc n) = marked_none links n

-- One more index is marked, and its link is added.
module _ (links : List Link) (marks : List Bool) (r : ℕ) (x : Link) (r_in : r < length links) (len : length links ≡ length marks) (at : get_or links r x ≡ x) where
  still : (l : Link) → IsMarked links marks l → IsMarked links (set marks r true) l
  still l (k, k_in, has, is) = search (arith, cases_eq, set, get_or-set_same, get_or-set_other)

  new : IsMarked links (set marks r true) x
  new = (r, r_in, get_or-set_same marks r true false (omega (arith, r_in, len)), at)

  old : (l : Link) → IsMarked links (set marks r true) l → Contains (marked links marks) l ⊎ (x ≡ l)
  old l (k, k_in, has, is) = search (arith, cases_eq, get_or_default, marked_if, get_or-set_other)

  pub mark_one : (before : List Link) (l : Link) → Contains ((before ++ marked links marks) ++ x ∷ []) l ↔ Contains (before ++ marked links (set marks r true)) l
  mark_one before l = (to, back)
    where
      to : Contains ((before ++ marked links marks) ++ x ∷ []) l → Contains (before ++ marked links (set marks r true)) l
      to l_in = elim (Contains-push_cases (before ++ marked links marks) x l l_in) [
        | inl had ↦ elim (Contains-append_cases before (marked links marks) l had) [
          | inl earlier ↦ Contains-append_left before (marked links (set marks r true)) l earlier
          | inr here ↦ Contains-append_right before (marked links (set marks r true)) l (marked_if links (set marks r true) l (still l (marked_at links marks l here)))
        ]
        | inr is ↦ subst (Contains (before ++ marked links (set marks r true))) is (Contains-append_right before (marked links (set marks r true)) x (marked_if links (set marks r true) x new))
      ]

      back : Contains (before ++ marked links (set marks r true)) l → Contains ((before ++ marked links marks) ++ x ∷ []) l
      back l_in = elim (Contains-append_cases before (marked links (set marks r true)) l l_in) [
        | inl earlier ↦ Contains-append_left (before ++ marked links marks) (x ∷ []) l (Contains-append_left before (marked links marks) l earlier)
        | inr here ↦ elim (old l (marked_at links (set marks r true) l here)) [
          | inl had ↦ Contains-append_left (before ++ marked links marks) (x ∷ []) l (Contains-append_right before (marked links marks) l had)
          | inr is ↦ subst (Contains ((before ++ marked links marks) ++ x ∷ [])) is (Contains-push (before ++ marked links marks) x)
        ]
      ]

marked_next : (links : List Link) (marks : List Bool) (i : ℕ) (x : Link) → i < length links → i < length marks → x ≡ get_or links i x
    → marked (take (suc i) links) (take (suc i) marks) ≡ marked (take i links) (take i marks) ++ (if get_or marks i false then x ∷ [] else [])
marked_next [] marks i x i_in i_in' is = absurd (omega (arith, i_in))
marked_next (m ∷ links) [] i x i_in i_in' is = absurd (omega (arith, i_in'))
marked_next (m ∷ links) (b ∷ marks) zero x i_in i_in' is = ap (λ (l : Link). if b then l ∷ [] else []) (sym is)
marked_next (m ∷ links) (true ∷ marks) (suc i) x i_in i_in' is = ap (λ (xs : List Link). m ∷ xs) (marked_next links marks i x (omega (arith, i_in)) (omega (arith, i_in')) is)
marked_next (m ∷ links) (false ∷ marks) (suc i) x i_in i_in' is = marked_next links marks i x (omega (arith, i_in)) (omega (arith, i_in')) is

-- the next link is written after the earlier marked links, and counted if it is marked
pub marked_behind : (links : List Link) (marks : List Bool) (now : List Link) {i kept kept' : ℕ} (x : Link) → i < length links → i < length marks → x ≡ get_or links i x → kept < length now
    → take kept now ≡ marked (take i links) (take i marks) → kept' ≡ kept + bool_byte (get_or marks i false) → take kept' (set now kept x) ≡ marked (take (i + 1) links) (take (i + 1) marks)
marked_behind links marks now {i} {kept} {kept'} x i_in i_in' is kept_in so_far counts =
    by_mark (get_or marks i false) counts ∙ sym (ap (λ n. marked (take n links) (take n marks)) next ∙ marked_next links marks i x i_in i_in' is)
  where
    next : i + 1 ≡ suc i
    next = omega arith

    by_mark : (b : Bool) → kept' ≡ kept + bool_byte b → take kept' (set now kept x) ≡ marked (take i links) (take i marks) ++ (if b then x ∷ [] else [])
    by_mark true one = ap (λ n. take n (set now kept x)) one ∙ take_more_set now kept x kept_in ∙ ap (λ (xs : List Link). xs ++ x ∷ []) so_far
    by_mark false none = ap (λ n. take n (set now kept x)) (none ∙ omega arith) ∙ take-set now kept x ∙ so_far ∙ sym (append-nil (marked (take i links) (take i marks)))
