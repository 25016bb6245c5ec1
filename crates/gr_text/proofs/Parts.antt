-- What follows a part of a line may continue its last field, or begin with a blank.
use Rattle.std.proofs.Common.{◌≡◌, ℕ, List, [], ◌∷◌, ◌++◌, refl, ap, sym, ◌∙◌, subst, append_assoc, append-nil, true, false, arith}
use Rattle.gr_text.specs.Fields.{IsBlank, IsFieldByte, AreFields}
use Rattle.gr_text.specs.PartialLine.{with_field, AreParts, is_begun}

-- no byte yet: what follows has its own fields
pub AreParts-none : AreParts [] [] []
AreParts-none [] after others fields begins are = are
AreParts-none (b ∷ more) after others fields begins are =
    ([], after, tt, (λ (e : b ∷ more ≡ []). cc), fields, refl, begins, are)

-- one more byte of the last field
pub AreParts-byte : (part : List ℕ) (fields : List (List ℕ)) (last : List ℕ) (b : ℕ) → AreParts part fields last → IsFieldByte b → AreParts (part ++ b ∷ []) fields (last ++ b ∷ [])
AreParts-byte part fields last b parts is_field more after others all begins are = search (arith, append_assoc)

-- a blank in front changes no fields
blank_first : (b : ℕ) (line : List ℕ) (fields : List (List ℕ)) → IsBlank b → AreFields line fields → AreFields (b ∷ line) fields
blank_first b line [] blank are = (blank, are)
blank_first b line (field ∷ fields) blank (blanks, after, all, some, is_field, is, begins, others) =
    (b ∷ blanks, after, (blank, all), some, is_field, ap (λ (xs : List ℕ). b ∷ xs) is, begins, others)

with_none : (fields : List (List ℕ)) (more : List ℕ) (others : List (List ℕ)) → with_field fields more ++ others ≡ fields ++ with_field [] more ++ others
with_none a1 a2 a3 = search (arith, append-nil)

-- a blank ends the last field
pub AreParts-blank : (part : List ℕ) (fields : List (List ℕ)) (last : List ℕ) (b : ℕ) → AreParts part fields last → IsBlank b → AreParts (part ++ b ∷ []) (with_field fields last) []
AreParts-blank part fields last b parts blank more after others all begins are =
    let tail : AreFields (b ∷ (more ++ after)) (with_field [] more ++ others) =
    blank_first b (more ++ after) (with_field [] more ++ others) blank (AreParts-none more after others all begins are) in
    let whole : AreFields ((part ++ []) ++ (b ∷ (more ++ after))) (with_field fields (last ++ []) ++ (with_field [] more ++ others)) =
    parts [] (b ∷ (more ++ after)) (with_field [] more ++ others) tt blank tail in
    let bytes : (part ++ []) ++ (b ∷ (more ++ after)) ≡ ((part ++ b ∷ []) ++ more) ++ after = simp (append_assoc, append-nil) in
    let same : with_field fields (last ++ []) ++ (with_field [] more ++ others) ≡ with_field (with_field fields last) more ++ others =
    ap (λ (xs : List ℕ). with_field fields xs ++ (with_field [] more ++ others)) (append-nil last)
    ∙ sym (append_assoc (with_field fields last) (with_field [] more) others) ∙ sym (with_none (with_field fields last) more others) in
    subst (λ (xs : List ℕ). AreFields xs (with_field (with_field fields last) more ++ others)) bytes
    (subst (AreFields ((part ++ []) ++ (b ∷ (more ++ after)))) same whole)

-- if no more comes, these are all the fields
pub AreParts-whole : (part : List ℕ) (fields : List (List ℕ)) (last : List ℕ) → AreParts part fields last → AreFields part (with_field fields last)
AreParts-whole part fields last parts =
    let whole : AreFields ((part ++ []) ++ []) (with_field fields (last ++ []) ++ []) = parts [] [] [] tt tt tt in
    let bytes : (part ++ []) ++ [] ≡ part = simp append-nil in
    let same : with_field fields (last ++ []) ++ [] ≡ with_field fields last = simp append-nil in
    subst (λ (xs : List ℕ). AreFields xs (with_field fields last)) bytes (subst (AreFields ((part ++ []) ++ [])) same whole)

pub is_begun-push : (part : List ℕ) (b : ℕ) → true ≡ is_begun (part ++ b ∷ [])
is_begun-push [] b = refl
is_begun-push (x ∷ part) b = refl

pub not_begun : (part : List ℕ) → is_begun part ≡ false → part ≡ []
not_begun a1 a2 = search arith
