-- What holds for each element of a list, and what for parts of the list.
use Rattle.std.proofs.Common.{List, [], ◌∷◌, ◌++◌}
use Rattle.std.specs.List.{AllByRecursion}

pub All-both : {X : Type 0} (P : X → Type 0) (xs ys : List X) → AllByRecursion P xs → AllByRecursion P ys → AllByRecursion P (xs ++ ys)
All-both P [] ys px py = py
All-both P (x ∷ xs) ys px py = (px.0, All-both P xs ys px.1 py)

pub All-push : {X : Type 0} (P : X → Type 0) (xs : List X) (x : X) → AllByRecursion P xs → P x → AllByRecursion P (xs ++ x ∷ [])
All-push P xs x all p = All-both P xs (x ∷ []) all (p, tt)

pub All-parts : {X : Type 0} (P : X → Type 0) (xs ys : List X) → AllByRecursion P (xs ++ ys) → AllByRecursion P xs × AllByRecursion P ys
All-parts P [] ys all = (tt, all)
All-parts P (x ∷ xs) ys all = let (front, rest) = All-parts P xs ys all.1 in ((all.0, front), rest)
