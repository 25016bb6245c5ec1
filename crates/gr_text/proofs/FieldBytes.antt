-- What a field can still become after one more byte.
use Rattle.std.proofs.Common.{◌≡◌, ◌≢◌, ℕ, ◌+◌, ◌*◌, ◌-◌, ◌<◌, inl, inr, List, [], ◌∷◌, ◌++◌, refl, ap, sym, ◌∙◌, arith, append_assoc, append-nil, codes, fold, subst}
use Rattle.std.specs.List.{AllByRecursion}
use Rattle.gr_text.specs.Fields.{IsDigit, Writes}
use Rattle.std.proofs.lemmas.List.Sums.{fold-append}
use Rattle.gr_text.proofs.Alls.{All-push, All-parts}
use Rattle.gr_text.specs.Word.{IsToken, BeginsComment, WordMeans}
use Rattle.gr_text.specs.declared.words.Word.{Word}
use Rattle.gr_text.specs.declared.words.Word.TheVariants as word

pub BeginsComment-more : (bytes : List ℕ) (b : ℕ) → BeginsComment bytes → BeginsComment (bytes ++ b ∷ [])
BeginsComment-more bytes b (others, e) = (others ++ b ∷ [], ap (λ (xs : List ℕ). xs ++ b ∷ []) e)

pub fold-more : (xs : List ℕ) (a b : ℕ) → fold (λ n b. 10 * n + (b - 48)) a (xs ++ b ∷ []) ≡ 10 * fold (λ n b. 10 * n + (b - 48)) a xs + (b - 48)
fold-more xs a b = fold-append (λ n b. 10 * n + (b - 48)) a xs (b ∷ [])

-- one more digit
pub Writes-more : (digits : List ℕ) (b n : ℕ) → Writes digits n → IsDigit b → Writes (digits ++ b ∷ []) (10 * n + (b - 48))
Writes-more [] b n w d = absurd (w.0 refl)
Writes-more (x ∷ xs) b n w d =
    (λ (e : (x ∷ xs) ++ b ∷ [] ≡ []). cc, All-push IsDigit (x ∷ xs) b w.1 d, fold-more (x ∷ xs) 0 b ∙ ap (λ (k : ℕ). 10 * k + (b - 48)) w.2)

-- the first digit
pub Writes-one : (b : ℕ) → IsDigit b → Writes (b ∷ []) (b - 48)
Writes-one b d = (λ (e : b ∷ [] ≡ []). cc, (d, tt), omega arith)

-- bytes that never become a token, whatever follows
abbrev pub NeverToken : List ℕ → Type 0
NeverToken bytes = (bytes ≢ []) × ((more : List ℕ) → ¬ (IsToken (bytes ++ more)))

-- digits and then another byte
pub number_broken : (digits : List ℕ) (b n : ℕ) → Writes digits n → ¬ (IsDigit b) → NeverToken (digits ++ b ∷ [])
number_broken [] b n w other = absurd (w.0 refl)
number_broken (x ∷ xs) b n w other = (
  λ (e : (x ∷ xs) ++ b ∷ [] ≡ []). cc,
  λ more token. elim token [
    | inl e ↦ (let h : x ≡ 112 = cc in omega (arith, w.1.0))
    | inr (inl e) ↦ (let h : x ≡ 97 = cc in omega (arith, w.1.0))
    | inr (inr (inl e)) ↦ (let h : x ≡ 115 = cc in omega (arith, w.1.0))
    | inr (inr (inr (inl (others, e)))) ↦ (let h : x ≡ 99 = cc in omega (arith, w.1.0))
    | inr (inr (inr (inr (z, inl (k, writes, e))))) ↦
        other (All-parts IsDigit (x ∷ xs) (b ∷ more) (subst (AllByRecursion IsDigit) (append_assoc (x ∷ xs) (b ∷ []) more) writes.1)).1.0
    | inr (inr (inr (inr (z, inr (ds, k, e, writes, f))))) ↦ (let h : x ≡ 45 = cc in omega (arith, w.1.0))
  ],
)

-- a minus sign, digits and then another byte
pub negative_broken : (bytes digits : List ℕ) (b n : ℕ) → bytes ≡ 45 ∷ digits → Writes digits n → ¬ (IsDigit b) → NeverToken (bytes ++ b ∷ [])
negative_broken [] digits b n is w other = absurd (cc)
negative_broken (x ∷ xs) digits b n is w other =
    let minus : x ≡ 45 = cc in
    let rest : xs ≡ digits = cc in (
      λ (e : (x ∷ xs) ++ b ∷ [] ≡ []). cc,
      λ more token. elim token [
        | inl e ↦ (let h : x ≡ 112 = cc in omega arith)
        | inr (inl e) ↦ (let h : x ≡ 97 = cc in omega arith)
        | inr (inr (inl e)) ↦ (let h : x ≡ 115 = cc in omega arith)
        | inr (inr (inr (inl (others, e)))) ↦ (let h : x ≡ 99 = cc in omega arith)
        | inr (inr (inr (inr (z, inl (k, writes, e))))) ↦ omega (arith, writes.1.0)
        | inr (inr (inr (inr (z, inr (ds, k, e, writes, f))))) ↦
            (let tail : (xs ++ b ∷ []) ++ more ≡ ds = cc in
            other (All-parts IsDigit xs (b ∷ more) (subst (AllByRecursion IsDigit) (sym tail ∙ append_assoc xs (b ∷ []) more) writes.1)).1.0)
      ],
    )

-- equal lists have equal heads
pub head_is : (a b : ℕ) (xs ys : List ℕ) → a ∷ xs ≡ b ∷ ys → a ≡ b
head_is a b xs ys e = cc

-- the first byte of a field with this `Word`
abbrev Head : Word → ℕ → Type 0
Head word.Empty b = b < 0
Head word.LetterP b = b ≡ 112
Head word.LetterA b = b ≡ 97
Head word.LetterS b = b ≡ 115
Head word.Sp b = b ≡ 115
Head word.Comment b = b ≡ 99
Head (word.Number kept) b = IsDigit b
Head word.Minus b = b ≡ 45
Head (word.Negative kept) b = b ≡ 45
Head word.Other b = Unit {0}

head_of : (w : Word) (b : ℕ) (rest : List ℕ) → WordMeans w (b ∷ rest) → Head w b
head_of a1 a2 a3 a4 = search (arith, head_is)

-- a field that writes a number is stored as one
pub kept_as_number : (w : Word) (field : List ℕ) (n : ℕ) → WordMeans w field → Writes field n → (kept : ℕ) × (w ≡ word.Number kept)
kept_as_number (word.Number kept) field n means writes = (kept, refl)
kept_as_number word.Other field n means writes = absurd (means.1 [] (subst IsToken (sym (append-nil field)) (inr (inr (inr (inr (_, inl (n, writes, refl))))))))
kept_as_number w [] n means writes = absurd (writes.0 refl)
kept_as_number w (b ∷ rest) n means writes = absurd (let head : Head w b = head_of w b rest means in grind (arith, writes.1.0))

-- a field that writes a number with a minus sign is stored as one
pub kept_as_negative : (w : Word) (field digits : List ℕ) (n : ℕ) → WordMeans w field → field ≡ 45 ∷ digits → Writes digits n → (kept : ℕ) × (w ≡ word.Negative kept)
kept_as_negative (word.Negative kept) field digits n means is writes = (kept, refl)
kept_as_negative word.Minus field digits n means is writes = absurd (writes.0 (let e : codes "-" ≡ 45 ∷ digits = sym means ∙ is in cc))
kept_as_negative word.Other field digits n means is writes = absurd (means.1 [] (subst IsToken (sym (append-nil field)) (inr (inr (inr (inr (_, inr (digits, n, is, writes, refl))))))))
kept_as_negative w field digits n means is writes = absurd (let head : Head w 45 = head_of w 45 digits (subst (WordMeans w) is means) in grind arith)

-- the `Word` of single fields
pub kept_as_sp : (w : Word) (field : List ℕ) → WordMeans w field → field ≡ codes "sp" → w ≡ word.Sp
kept_as_sp word.Sp field means is = refl
kept_as_sp word.LetterS field means is = absurd (let e : codes "s" ≡ codes "sp" = sym means ∙ is in cc)
kept_as_sp word.Other field means is = absurd (means.1 [] (subst IsToken (sym (append-nil field)) (inr (inr (inl is)))))
kept_as_sp w field means is = absurd (let head : Head w 115 = head_of w 115 (112 ∷ []) (subst (WordMeans w) is means) in grind arith)

pub kept_as_p : (w : Word) (field : List ℕ) → WordMeans w field → field ≡ codes "p" → w ≡ word.LetterP
kept_as_p word.LetterP field means is = refl
kept_as_p word.Other field means is = absurd (means.1 [] (subst IsToken (sym (append-nil field)) (inl is)))
kept_as_p w field means is = absurd (let head : Head w 112 = head_of w 112 [] (subst (WordMeans w) is means) in grind arith)

pub kept_as_a : (w : Word) (field : List ℕ) → WordMeans w field → field ≡ codes "a" → w ≡ word.LetterA
kept_as_a word.LetterA field means is = refl
kept_as_a word.Other field means is = absurd (means.1 [] (subst IsToken (sym (append-nil field)) (inr (inl is))))
kept_as_a w field means is = absurd (let head : Head w 97 = head_of w 97 [] (subst (WordMeans w) is means) in grind arith)

pub kept_as_comment : (w : Word) (field : List ℕ) → WordMeans w field → BeginsComment field → w ≡ word.Comment
kept_as_comment word.Comment field means begins = refl
kept_as_comment word.Other field means begins = absurd (means.1 [] (subst IsToken (sym (append-nil field)) (inr (inr (inr (inl begins))))))
kept_as_comment w field means (others, is) = absurd (let head : Head w 99 = head_of w 99 others (subst (WordMeans w) is means) in grind arith)
