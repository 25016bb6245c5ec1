-- A usual arc line: its fields, its bytes, and that it is read as a whole.
use Rattle.std.proofs.Common.{◌≡◌, ◌≢◌, ℕ, suc, ◌+◌, ◌-◌, ◌%◌, ◌^◌, ◌<◌, ◌≤◌, inl, inr, List, [], ◌∷◌, ◌++◌, refl, ap, sym, ◌∙◌, subst, arith, append_assoc, codes, length, take, drop, get_or}
use Rattle.std.specs.List.{AllByRecursion}
use Rattle.std.proofs.lemmas.List.{length-take-le, take_more, take-append-drop, drop-append-le, take_rest}
use Rattle.std.proofs.Math.Nat.{pow-le-pow_right}
use Rattle.std.proofs.Math.Seq.{take-append-add}
use Rattle.gr_text.specs.Lines.{line_feed, IsLine, ended}
use Rattle.gr_text.specs.Fields.{IsFieldByte, BeginsBlank, AreFields, IsDigit, number_written}
use Rattle.gr_text.specs.PartialLine.{IsWhole}
use Rattle.gr_text.specs.UsualArc.{IsShort, IsShortSigned, IsLineEnd, IsUsualArc, BeginsWithShort, BeginsWithShortSigned, HasShortBefore, HasNoShort, HasNoLast, HasNoShortSigned}
use Rattle.gr_text.specs.declared.words.LineFields.TheVariants.{ArcWhole}
use Rattle.gr_text.specs.declared.words.Signed.{Signed}
use Rattle.gr_text.proofs.Alls.{All-both, All-parts}
use Rattle.gr_text.proofs.Unique.{prefix_unique}

all_as : (P Q : ℕ → Type 0) → ((b : ℕ) → P b → Q b) → (xs : List ℕ) → AllByRecursion P xs → AllByRecursion Q xs
all_as P Q weaker [] all = tt
all_as P Q weaker (x ∷ xs) all = (weaker x all.0, all_as P Q weaker xs all.1)

-- neither a blank nor a line feed
abbrev Inner : ℕ → Type 0
Inner b = 32 < b

inner_of_digit : (b : ℕ) → IsDigit b → Inner b
inner_of_digit b digit = omega (arith, digit.0)

field_of_inner : (b : ℕ) → Inner b → IsFieldByte b
field_of_inner b inner blank = elim blank [ inl e ↦ omega arith | inr (inl e) ↦ omega arith | inr (inr e) ↦ omega arith ]

no_feed_of_inner : (b : ℕ) → Inner b → b ≢ line_feed
no_feed_of_inner b inner is = omega arith

-- the bytes of a number, with or without a sign
pub record IsInner (field : List ℕ) : Type 0 where
  pub some : field ≢ []
  pub all : AllByRecursion Inner field

inner_of_short : (field : List ℕ) → IsShort field → IsInner field
inner_of_short field short = record { some = short.some; all = all_as IsDigit Inner inner_of_digit field short.digits }

inner_of_signed : (field : List ℕ) → IsShortSigned field → IsInner field
inner_of_signed a1 a2 = search (arith, inner_of_short, all_as, inner_of_digit)

-- a field after a space
behind_space : (field after : List ℕ) (others : List (List ℕ)) → IsInner field → BeginsBlank after → AreFields after others → AreFields (32 ∷ (field ++ after)) (field ∷ others)
behind_space field after others inner begins are =
    (32 ∷ [], after, (inl refl, tt), inner.some, all_as Inner IsFieldByte field_of_inner field inner.all, refl, begins, are)

-- the end of a line is blank, and has no line feed
blank_end : (end : List ℕ) → IsLineEnd end → BeginsBlank end × AreFields end []
blank_end a1 a2 = search arith

line_end : (end : List ℕ) → IsLineEnd end → IsLine end
line_end a1 a2 = search arith

usual_fields : (line : List ℕ) → (usual : IsUsualArc line) → AreFields line (codes "a" ∷ usual.tail ∷ usual.head ∷ usual.weight ∷ [])
usual_fields line usual =
    let tail = usual.tail in
    let head = usual.head in
    let weight = usual.weight in
    let end = usual.end in
    let blank = blank_end end usual.ends in
    let last = behind_space weight end [] (inner_of_signed weight usual.short_weight) blank.0 blank.1 in
    let two = behind_space head (32 ∷ (weight ++ end)) (weight ∷ []) (inner_of_short head usual.short_head) (inl refl) last in
    let three = behind_space tail (32 ∷ (head ++ 32 ∷ (weight ++ end))) (head ∷ weight ∷ []) (inner_of_short tail usual.short_tail) (inl refl) two in
    subst (λ (xs : List ℕ). AreFields xs (codes "a" ∷ tail ∷ head ∷ weight ∷ [])) (sym usual.spelled)
    ([], 32 ∷ (tail ++ 32 ∷ (head ++ 32 ∷ (weight ++ end))), tt, (λ (e : codes "a" ≡ []). cc), (field_of_inner 97 (omega arith), tt), refl, inl refl, three)

-- a usual line has no line feed
pub usual_is_line : (line : List ℕ) → IsUsualArc line → IsLine line
usual_is_line line usual =
    let P : ℕ → Type 0 = λ b. b ≢ line_feed in
    let no_feed : (field : List ℕ) → IsInner field → AllByRecursion P field = λ field inner. all_as Inner P no_feed_of_inner field inner.all in
    let space : P 32 = λ e. omega arith in
    let letter : P 97 = λ e. omega arith in
    let weight = usual.weight ++ usual.end in
    let last = All-both P usual.weight usual.end (no_feed usual.weight (inner_of_signed usual.weight usual.short_weight)) (line_end usual.end usual.ends) in
    let two = All-both P usual.head (32 ∷ weight) (no_feed usual.head (inner_of_short usual.head usual.short_head)) (space, last) in
    let three = All-both P usual.tail (32 ∷ (usual.head ++ 32 ∷ weight)) (no_feed usual.tail (inner_of_short usual.tail usual.short_tail)) (space, two) in
    subst (AllByRecursion P) (sym usual.spelled) (letter, (space, three))

-- how it begins a text
usual_spelled : (line rest tail head weight end : List ℕ) → line ≡ codes "a " ++ (tail ++ 32 ∷ (head ++ 32 ∷ (weight ++ end)))
    → ended line ++ rest ≡ codes "a " ++ (tail ++ 32 ∷ (head ++ 32 ∷ (weight ++ (end ++ line_feed ∷ rest))))
usual_spelled line rest tail head weight end is = search (arith, append_assoc)

-- The bytes that were read are such a line.
pub usual_found : (bytes fields second third rest : List ℕ) (u v : ℕ) (w : Signed) → bytes ≡ 97 ∷ 32 ∷ fields → BeginsWithShort u 32 fields second → BeginsWithShort v 32 second third
    → BeginsWithShortSigned w third rest
    → (line : List ℕ) × IsUsualArc line × IsWhole (ArcWhole u v w) line × (bytes ≡ ended line ++ rest)
usual_found bytes fields second third rest u v w begins (tail, short_tail, keeps_tail, is_tail) (head, short_head, keeps_head, is_head) (weight, short_weight, keeps_weight, (end, ends, is_weight)) =
    let line : List ℕ = codes "a " ++ (tail ++ 32 ∷ (head ++ 32 ∷ (weight ++ end))) in
    let usual : IsUsualArc line = record {
      tail = tail;
      head = head;
      weight = weight;
      end = end;
      spelled = refl;
      short_tail = short_tail;
      short_head = short_head;
      short_weight = short_weight;
      ends = ends;
    } in (
      line,
      usual,
      (codes "a" ∷ tail ∷ head ∷ weight ∷ [], usual_fields line usual, (tail, head, weight, refl, keeps_tail, keeps_head, keeps_weight)),
      begins ∙ ap (λ (xs : List ℕ). 97 ∷ 32 ∷ xs) (is_tail ∙ ap (λ (xs : List ℕ). tail ++ 32 ∷ xs) (is_head ∙ ap (λ (xs : List ℕ). head ++ 32 ∷ xs) is_weight))
          ∙ sym (usual_spelled line rest tail head weight end refl),
    )

space_no_digit : ¬ (IsDigit 32)
space_no_digit digit = omega (arith, digit.0)

-- what follows a short number
behind : (kept stop : ℕ) (bytes after field rest : List ℕ) → ¬ (IsDigit stop) → BeginsWithShort kept stop bytes after → IsShort field → bytes ≡ field ++ stop ∷ rest → after ≡ rest
behind kept stop bytes after field rest no_digit (field', short', keeps, is') short is =
    let both = prefix_unique IsDigit field' field (stop ∷ after) (stop ∷ rest) short'.digits short.digits no_digit no_digit (sym is' ∙ is) in
    let tails : stop ∷ after ≡ stop ∷ rest = both.1 in cc

-- No short number is before the end of a line if none is before a line feed, or before a carriage return and a line
-- feed.
pub never_last : (bytes : List ℕ) → HasNoShort line_feed bytes → ((field rest : List ℕ) → IsShort field → bytes ≢ field ++ 13 ∷ line_feed ∷ rest) → HasNoLast bytes
never_last a1 a2 a3 a4 a5 a6 a7 = search arith

return_no_digit : ¬ (IsDigit 13)
return_no_digit digit = omega (arith, digit.0)

pub never_feed : (kept : ℕ) (bytes after : List ℕ) → BeginsWithShort kept 13 bytes after → ((rest : List ℕ) → after ≢ line_feed ∷ rest)
    → (field rest : List ℕ) → IsShort field → bytes ≢ field ++ 13 ∷ line_feed ∷ rest
never_feed kept bytes after begins other field rest short is = other rest (behind kept 13 bytes after field (line_feed ∷ rest) return_no_digit begins short is)

-- what follows the first letter of a usual line
behind_letter : (bytes fields line rest : List ℕ) → (usual : IsUsualArc line) → bytes ≡ 97 ∷ 32 ∷ fields → bytes ≡ ended line ++ rest
    → fields ≡ usual.tail ++ 32 ∷ (usual.head ++ 32 ∷ (usual.weight ++ (usual.end ++ line_feed ∷ rest)))
behind_letter bytes fields line rest usual begins is = search (arith, usual_spelled)

-- No usual line begins bytes that lack one of its fields.
pub never_head : (bytes fields second : List ℕ) (u : ℕ) → bytes ≡ 97 ∷ 32 ∷ fields → BeginsWithShort u 32 fields second
    → ((field rest : List ℕ) → IsShort field → second ≢ field ++ 32 ∷ rest) → (line rest : List ℕ) → IsUsualArc line → bytes ≢ ended line ++ rest
never_head bytes fields second u begins tail never line rest usual is =
    let last = usual.weight ++ (usual.end ++ line_feed ∷ rest) in
    never usual.head last usual.short_head
    (behind u 32 fields second usual.tail (usual.head ++ 32 ∷ last) space_no_digit tail usual.short_tail
    (behind_letter bytes fields line rest usual begins is))

pub never_weight : (bytes fields second third : List ℕ) (u v : ℕ) → bytes ≡ 97 ∷ 32 ∷ fields → BeginsWithShort u 32 fields second → BeginsWithShort v 32 second third
    → HasNoShortSigned third → (line rest : List ℕ) → IsUsualArc line → bytes ≢ ended line ++ rest
never_weight bytes fields second third u v begins tail head never line rest usual is =
    let last = usual.weight ++ (usual.end ++ line_feed ∷ rest) in
    never usual.weight rest usual.short_weight (
      usual.end,
      usual.ends,
      behind v 32 second third usual.head last space_no_digit head usual.short_head
          (behind u 32 fields second usual.tail (usual.head ++ 32 ∷ last) space_no_digit tail usual.short_tail (behind_letter bytes fields line rest usual begins is)),
    )

-- bytes, split at an index
pub at_place : (xs : List ℕ) (i : ℕ) → i < length xs → xs ≡ take i xs ++ get_or xs i 0 ∷ drop (i + 1) xs
at_place xs i within =
    sym (take-append-drop (i + 1) xs) ∙ ap (λ (ys : List ℕ). ys ++ drop (i + 1) xs) (take_more xs i 0 within) ∙ append_assoc (take i xs) (get_or xs i 0 ∷ []) (drop (i + 1) xs)

-- The bytes before `stop` are one to nineteen digits, and what is stored of them is their number.
pub short_before : (kept stop place : ℕ) (xs : List ℕ) → place < length xs → length xs ≤ 20 → 1 ≤ place → get_or xs place 0 ≡ stop
    → AllByRecursion IsDigit (take place xs) → kept ≡ number_written (take place xs) % 2 ^ 64 → number_written (take place xs) < 10 ^ place
    → HasShortBefore kept place stop xs
short_before kept stop place xs within few some here digits is below = search (arith, length-take-le, pow-le-pow_right, at_place)

-- All bytes are digits.
pub never_all : (stop : ℕ) (xs : List ℕ) → ¬ (IsDigit stop) → AllByRecursion IsDigit xs → HasNoShort stop xs
never_all stop xs no_digit all field rest short is =
    let parts = All-parts IsDigit field (stop ∷ rest) (subst (AllByRecursion IsDigit) is all) in no_digit parts.1.0

-- The first byte that isn't a digit isn't `stop`, or no digit comes before it.
pub never_other : (stop : ℕ) (xs : List ℕ) (i : ℕ) → ¬ (IsDigit stop) → i < length xs → AllByRecursion IsDigit (take i xs) → ¬ (IsDigit (get_or xs i 0)) → (get_or xs i 0 ≡ stop → i ≡ 0)
    → HasNoShort stop xs
never_other stop xs i no_digit within all other none field rest short is =
    let both = prefix_unique IsDigit (take i xs) field (get_or xs i 0 ∷ drop (i + 1) xs) (stop ∷ rest) all short.digits other no_digit (sym (at_place xs i within) ∙ is) in
    let tails : get_or xs i 0 ∷ drop (i + 1) xs ≡ stop ∷ rest = both.1 in
    let same : get_or xs i 0 ≡ stop = cc in
    let zero : i ≡ 0 = none same in
    short.some (sym both.0 ∙ ap (λ (k : ℕ). take k xs) zero)

pub never_empty : (bytes : List ℕ) (b : ℕ) (rest : List ℕ) → length bytes < 1 → bytes ≢ b ∷ rest
never_empty a1 a2 a3 a4 a5 = search arith

-- If no number is before the end of a line, none is with a minus sign either.
pub never_minus : (bytes digits : List ℕ) → bytes ≡ 45 ∷ digits → HasNoLast digits → HasNoShortSigned bytes
never_minus bytes digits begins none field rest (inl short) (end, ends, is) =
    elim field as (λ f. IsShort f → bytes ≡ f ++ (end ++ line_feed ∷ rest) → ⊥) [
      | [] ↦ λ it same. it.some refl
      | b ∷ others ↦ λ it same. (let minus : b ≡ 45 = cc in omega (arith, it.digits.0))
    ] short is
never_minus bytes digits begins none field rest (inr (others, minus, short)) (end, ends, is) =
    none others rest short (end, ends, let whole : 45 ∷ digits ≡ 45 ∷ (others ++ (end ++ line_feed ∷ rest)) = sym begins ∙ is ∙ ap (λ (xs : List ℕ). xs ++ (end ++ line_feed ∷ rest)) minus in cc)

pub never_plus : (bytes : List ℕ) → ((digits : List ℕ) → bytes ≢ 45 ∷ digits) → HasNoLast bytes → HasNoShortSigned bytes
never_plus bytes other none field rest (inl short) ends = none field rest short ends
never_plus bytes other none field rest (inr (digits, minus, short)) (end, ends, is) = search arith

-- bytes, split after the first ones
pub begins_one : (xs : List ℕ) (a : ℕ) → 1 ≤ length xs → get_or xs 0 0 ≡ a → xs ≡ a ∷ take (length xs - 1) (drop 1 xs)
begins_one [] a some first = absurd (omega arith)
begins_one (x ∷ xs) a some first = ap (λ (y : ℕ). y ∷ xs) first ∙ ap (λ (ys : List ℕ). a ∷ ys) (sym (take_rest (x ∷ xs) 1))

pub begins_two : (xs : List ℕ) (a b : ℕ) → 2 ≤ length xs → get_or xs 0 0 ≡ a → get_or xs 1 0 ≡ b → xs ≡ a ∷ b ∷ take (length xs - 2) (drop 2 xs)
begins_two [] a b some first second = absurd (omega arith)
begins_two (x ∷ []) a b some first second = absurd (omega arith)
begins_two (x ∷ y ∷ xs) a b some first second = search (arith, take_rest)

-- A number before `stop` in the first twenty bytes is there in all bytes too.
pub found_in_front : (kept stop place : ℕ) (xs : List ℕ) → HasShortBefore kept place stop (take 20 xs) → BeginsWithShort kept stop xs (drop (place + 1) xs)
found_in_front kept stop place xs (within, (field, short, keeps, is)) =
    let few : place + 1 ≤ length (take 20 xs) = omega arith in
    let rest = drop-append-le (place + 1) (take 20 xs) (drop 20 xs) few in
    let begins = ap (λ (ys : List ℕ). ys ++ drop 20 xs) is ∙ append_assoc field (stop ∷ drop (place + 1) (take 20 xs)) (drop 20 xs) ∙ ap (λ (ys : List ℕ). field ++ stop ∷ ys) (sym rest) in
    subst (λ (ys : List ℕ). BeginsWithShort kept stop ys (drop (place + 1) ys)) (take-append-drop 20 xs) (field, short, keeps, begins)

pub none_in_front : (stop : ℕ) (xs : List ℕ) → HasNoShort stop (take 20 xs) → HasNoShort stop xs
none_in_front stop xs none field rest short is =
    let more = 19 - length field in
    let all : 20 ≡ length field + suc more = omega (arith, short.few) in
    none field (take more rest) short (ap (take 20) is ∙ ap (λ (k : ℕ). take k (field ++ stop ∷ rest)) all ∙ take-append-add field (stop ∷ rest) (suc more))
