-- A fact about each element of a list, and a relation at each index of two.
use Rattle.std.proofs.Common.{◌≡◌, ℕ, suc, ◌<◌, List, [], ◌∷◌, ◌++◌, length, get_or, sym, subst, arith}
use Rattle.std.specs.List.{All, AllZip}
use Rattle.std.proofs.lemmas.List.Elements.{All-nil, All-cons, AllZip-get_or, length_all_zip}

pub one : {X : Type 0} (P : X → Type 0) (x : X) → P x → All P (x ∷ [])
one P x p = All-cons P x [] p (All-nil P)

pub each_cons : {X Y : Type 0} (R : X → Y → Type 0) (zs : List X) (x : X) (y : Y) (xs : List X) (ys : List Y) → zs ≡ x ∷ xs → R x y → AllZip R xs ys → AllZip R zs (y ∷ ys)
each_cons R zs x y xs ys e r rest = subst (λ ws. AllZip R ws (y ∷ ys)) (sym e) (r, rest)

pub each_refl : {X : Type 0} (R : X → X → Type 0) (xs : List X) → ((x : X) → R x x) → AllZip R xs xs
each_refl R [] h = tt
each_refl R (x ∷ xs) h = (h x, each_refl R xs h)

pub each_none : {X : Type 0} (R : X → X → Type 0) (xs : List X) → length xs ≡ 0 → AllZip R xs xs
each_none R [] none = tt
each_none R (x ∷ xs) none = absurd (omega arith)

pub each_then : {X Y Z : Type 0} (R : X → Y → Type 0) (S : Y → Z → Type 0) (T : X → Z → Type 0) → ((x : X) (y : Y) (z : Z) → R x y → S y z → T x z)
    → (xs : List X) (ys : List Y) (zs : List Z) → AllZip R xs ys → AllZip S ys zs → AllZip T xs zs
each_then R S T h [] [] [] p q = tt
each_then R S T h [] [] (z ∷ zs) p q = absurd q
each_then R S T h [] (y ∷ ys) zs p q = absurd p
each_then R S T h (x ∷ xs) [] zs p q = absurd p
each_then R S T h (x ∷ xs) (y ∷ ys) [] p q = absurd q
each_then R S T h (x ∷ xs) (y ∷ ys) (z ∷ zs) p q = (h x y z p.0 q.0, each_then R S T h xs ys zs p.1 q.1)

pub each_length : {X : Type 0} (R : X → X → Type 0) (xs ys : List X) → AllZip R xs ys → length ys ≡ length xs
each_length R xs ys p = sym (length_all_zip R xs ys p)

pub each_at : {X : Type 0} (R : X → X → Type 0) (xs ys : List X) → AllZip R xs ys → (i : ℕ) (d : X) → i < length xs → R (get_or xs i d) (get_or ys i d)
each_at R xs ys p i d b = AllZip-get_or R xs ys i d d p b

pub each_from : {X : Type 0} (R : X → X → Type 0) (xs ys : List X) → length ys ≡ length xs → ((i : ℕ) (d : X) → i < length xs → R (get_or xs i d) (get_or ys i d)) → AllZip R xs ys
each_from R [] [] l h = tt
each_from R [] (y ∷ ys) l h = absurd (omega arith)
each_from R (x ∷ xs) [] l h = absurd (omega arith)
each_from R (x ∷ xs) (y ∷ ys) l h = (h 0 x (omega arith), each_from R xs ys (omega arith) (λ i d b. h (suc i) d (omega arith)))

pub each_append : {X : Type 0} (R : X → X → Type 0) (xs ys us vs : List X) → AllZip R xs ys → AllZip R us vs → AllZip R (xs ++ us) (ys ++ vs)
each_append R [] [] us vs p q = q
each_append R [] (y ∷ ys) us vs p q = absurd p
each_append R (x ∷ xs) [] us vs p q = absurd p
each_append R (x ∷ xs) (y ∷ ys) us vs p q = (p.0, each_append R xs ys us vs p.1 q)

pub each_map : {X Y : Type 0} (R S : X → Y → Type 0) → ((x : X) (y : Y) → R x y → S x y) → (xs : List X) (ys : List Y) → AllZip R xs ys → AllZip S xs ys
each_map R S h [] [] p = tt
each_map R S h [] (y ∷ ys) p = absurd p
each_map R S h (x ∷ xs) [] p = absurd p
each_map R S h (x ∷ xs) (y ∷ ys) p = (h x y p.0, each_map R S h xs ys p.1)
