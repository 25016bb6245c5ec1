-- Joined texts of the same lengths have equal parts, and the text of a number determines the number.
use Rattle.std.proofs.Common.{◌≡◌, ℕ, ◌+◌, ◌*◌, ◌^◌, ◌<◌, ◌≤◌, ℤ, pos, neg_ℤ, int_le, int_lt, ◌&&◌, true, false, IsTrue, List, [], ◌∷◌, ◌++◌, length, get_or, take, drop, refl, sym, ap, ◌∙◌}
use Rattle.std.proofs.Common.{append_assoc, arith, FitsSigned}
use Rattle.std.specs.Int.{w16, w32, w64, to_be_bytes, from_be_bytes, cast_unsigned, cast_signed}
use Rattle.std.specs.List.{flat_map, AllByRecursion}
use Rattle.std.proofs.Common.{inl, inr}
use Rattle.std.proofs.lemmas.Bool.{cases_lt, cases_Bool, and_parts, cond-true, cond-false}
use Rattle.std.proofs.lemmas.List.{take_at, drop_at, length-append, length-take, take-append-drop, get_or-drop, get_or-take, get_or_past}
use Rattle.std.proofs.lemmas.Int.{ints, to_z-of_z, of_z-to_z}
use Rattle.std.proofs.Math.Facts.{Fits-of_z}
use Rattle.std.proofs.lemmas.Nat.{be_bytes_2, be_bytes_4, be_bytes_8, from_be_bytes-to_be_bytes_2, from_be_bytes-to_be_bytes_4, from_be_bytes-to_be_bytes_8}
use Rattle.links.specs.declared.links.Link.{Link}
use Rattle.links.specs.Offers.{Offer}
use Rattle.links.proofs.Keys.{link_eq}
use Rattle.frames.specs.FrameText.{u16_text, u32_text, i32_text, i64_text, is_narrow, are_narrow, link_text, wide_link_text, links_text, offer_text}
use Rattle.frames.specs.Lawful.{IsU32}

-- two parts of the same length
pub parts_same : {X : Type 0} (a b x y : List X) → length a ≡ length b → a ++ x ≡ b ++ y → (a ≡ b) × (x ≡ y)
parts_same a b x y len same = (
  sym (take_at a x (length b) len) ∙ ap (take (length b)) same ∙ take_at b y (length b) refl,
  sym (drop_at a x (length b) len) ∙ ap (drop (length b)) same ∙ drop_at b y (length b) refl,
)

-- ---- numbers

abbrev pub IsBytes : List ℕ → Type 0
IsBytes bytes = (i : ℕ) → get_or bytes i 0 < 256

pub u16_length : (n : ℕ) → length (u16_text n) ≡ 2
unfolding u16_text
u16_length n = refl

pub u32_length : (n : ℕ) → length (u32_text n) ≡ 4
unfolding u32_text
u32_length n = refl

pub three_length : (a b c : ℕ) (list : List ℕ) → length (u32_text a ++ (u32_text b ++ (u32_text c ++ list))) ≡ 12 + length list
three_length a b c list = omega (
  arith,
  length-append (u32_text a) (u32_text b ++ (u32_text c ++ list)),
  length-append (u32_text b) (u32_text c ++ list),
  length-append (u32_text c) list,
  u32_length a,
  u32_length b,
  u32_length c,
)

pub u16_again : (n : ℕ) → n < 2 ^ 16 → from_be_bytes w16 (u16_text n) ≡ n
unfolding u16_text
u16_again n lt = from_be_bytes-to_be_bytes_2 n lt

pub u32_again : (n : ℕ) → n < 2 ^ 32 → from_be_bytes w32 (u32_text n) ≡ n
unfolding u32_text
u32_again n lt = from_be_bytes-to_be_bytes_4 n lt

pub u16_back : (bytes : List ℕ) → length bytes ≡ 2 → IsBytes bytes → u16_text (from_be_bytes w16 bytes) ≡ bytes
unfolding u16_text
u16_back bytes len fits = be_bytes_2 bytes _ len fits refl

pub u32_back : (bytes : List ℕ) → length bytes ≡ 4 → IsBytes bytes → u32_text (from_be_bytes w32 bytes) ≡ bytes
unfolding u32_text
u32_back bytes len fits = be_bytes_4 bytes _ len fits refl

pub u32_prefix : (m n : ℕ) (x y : List ℕ) → IsU32 m → IsU32 n → u32_text m ++ x ≡ u32_text n ++ y → (m ≡ n) × (x ≡ y)
u32_prefix m n x y first second same =
    let parts = parts_same (u32_text m) (u32_text n) x y (u32_length m ∙ sym (u32_length n)) same in
    (sym (u32_again m first) ∙ ap (from_be_bytes w32) parts.0 ∙ u32_again n second, parts.1)

pub u16_prefix : (m n : ℕ) (x y : List ℕ) → m < 2 ^ 16 → n < 2 ^ 16 → u16_text m ++ x ≡ u16_text n ++ y → (m ≡ n) × (x ≡ y)
u16_prefix m n x y first second same =
    let parts = parts_same (u16_text m) (u16_text n) x y (u16_length m ∙ sym (u16_length n)) same in
    (sym (u16_again m first) ∙ ap (from_be_bytes w16) parts.0 ∙ u16_again n second, parts.1)

pub bits_below : (z : ℤ) → FitsSigned w32 z → IsU32 (cast_unsigned w32 z)
bits_below z fits = omega (arith, Fits-of_z {w = w32} {z = z} fits)

pub i32_prefix : (m n : ℤ) (x y : List ℕ) → FitsSigned w32 m → FitsSigned w32 n → i32_text m ++ x ≡ i32_text n ++ y → (m ≡ n) × (x ≡ y)
i32_prefix m n x y first second same = search (arith, u32_prefix, bits_below, to_z-of_z)

pub i64_length : (z : ℤ) → length (i64_text z) ≡ 8
unfolding i64_text
i64_length z = refl

i64_again : (z : ℤ) → FitsSigned w64 z → cast_signed w64 (from_be_bytes w64 (i64_text z)) ≡ z
unfolding i64_text
i64_again z fits = ap (cast_signed w64) (from_be_bytes-to_be_bytes_8 (cast_unsigned w64 z) (omega (arith, Fits-of_z {w = w64} {z = z} fits))) ∙ to_z-of_z w64 z fits

pub i64_prefix : (m n : ℤ) (x y : List ℕ) → FitsSigned w64 m → FitsSigned w64 n → i64_text m ++ x ≡ i64_text n ++ y → (m ≡ n) × (x ≡ y)
i64_prefix m n x y first second same =
    let parts = parts_same (i64_text m) (i64_text n) x y (i64_length m ∙ sym (i64_length n)) same in
    (sym (i64_again m first) ∙ ap (λ (t : List ℕ). cast_signed w64 (from_be_bytes w64 t)) parts.0 ∙ i64_again n second, parts.1)

-- ---- weights

-- the weight fits the narrow text, and the wide one
abbrev pub FitsNarrow : Link → Type 0
FitsNarrow l = FitsSigned w32 l.weight

abbrev pub FitsWide : Link → Type 0
FitsWide l = FitsSigned w64 l.weight

pub fits_by_test : (z : ℤ) → (int_le (neg_ℤ (pos (2 ^ 31))) z && int_lt z (pos (2 ^ 31))) ≡ true → FitsSigned w32 z
fits_by_test z test = search (arith, and_parts, int_le, neg_ℤ, int_lt, ints)

pub narrow_fit : (links : List Link) → IsTrue (are_narrow links) → AllByRecursion FitsNarrow links
narrow_fit [] narrow = tt
narrow_fit (l ∷ links) narrow =
    let parts = and_parts (is_narrow l) (are_narrow links) narrow in
    (fits_by_test l.weight parts.0, narrow_fit links parts.1)

pub wide_fit : (links : List Link) → AllByRecursion FitsWide links
wide_fit [] = tt
wide_fit (l ∷ links) = (l.weight_fits, wide_fit links)

-- ---- items of lists

pub link_prefix : (l m : Link) (x y : List ℕ) → FitsNarrow l → FitsNarrow m → link_text l ++ x ≡ link_text m ++ y → (l ≡ m) × (x ≡ y)
link_prefix l m x y first second same = search (arith, append_assoc, u32_prefix, i32_prefix, link_eq)

pub wide_link_prefix : (l m : Link) (x y : List ℕ) → FitsWide l → FitsWide m → wide_link_text l ++ x ≡ wide_link_text m ++ y → (l ≡ m) × (x ≡ y)
wide_link_prefix l m x y first second same = search (arith, append_assoc, u32_prefix, i64_prefix, link_eq)

abbrev pub FitsOffer : Offer → Type 0
FitsOffer o = IsU32 o.0 × IsU32 o.1

pub offer_prefix : (o p : Offer) (x y : List ℕ) → FitsOffer o → FitsOffer p → offer_text o ++ x ≡ offer_text p ++ y → (o ≡ p) × (x ≡ y)
offer_prefix o p x y first second same = search (arith, u32_prefix, append_assoc)

pub link_length : (l : Link) → length (link_text l) ≡ 12
link_length l = omega (
  arith,
  length-append (u32_text l.low) (u32_text l.high ++ i32_text l.weight),
  length-append (u32_text l.high) (i32_text l.weight),
  u32_length l.low,
  u32_length l.high,
  u32_length (cast_unsigned w32 l.weight),
)

pub wide_link_length : (l : Link) → length (wide_link_text l) ≡ 16
wide_link_length l = omega (
  arith,
  length-append (u32_text l.low) (u32_text l.high ++ i64_text l.weight),
  length-append (u32_text l.high) (i64_text l.weight),
  u32_length l.low,
  u32_length l.high,
  i64_length l.weight,
)

pub offer_length : (o : Offer) → length (offer_text o) ≡ 8
offer_length o = omega (arith, length-append (u32_text o.0) (u32_text o.1), u32_length o.0, u32_length o.1)

pub items_length : {X : Type 0} (text : X → List ℕ) (n : ℕ) → ((x : X) → length (text x) ≡ n) → (xs : List X) → length (flat_map text xs) ≡ n * length xs
items_length text n each [] = omega arith
items_length text n each (x ∷ xs) = omega (arith, length-append (text x) (flat_map text xs), each x, items_length text n each xs)

-- the links of a shard in their spelling
pub narrow_text : (links : List Link) → are_narrow links ≡ true → links_text links ≡ flat_map link_text links
narrow_text links narrow = cond-true (are_narrow links) (flat_map link_text links) (flat_map wide_link_text links) narrow

pub wide_text : (links : List Link) → are_narrow links ≡ false → links_text links ≡ flat_map wide_link_text links
wide_text links wide = cond-false (are_narrow links) (flat_map link_text links) (flat_map wide_link_text links) wide

pub narrow_length : (links : List Link) → are_narrow links ≡ true → length (links_text links) ≡ 12 * length links
narrow_length links narrow = ap length (narrow_text links narrow) ∙ items_length link_text 12 link_length links

pub wide_length : (links : List Link) → are_narrow links ≡ false → length (links_text links) ≡ 16 * length links
wide_length links wide = ap length (wide_text links wide) ∙ items_length wide_link_text 16 wide_link_length links

pub links_length : (links : List Link) → length (links_text links) ≤ 16 * length links
links_length links = elim (cases_Bool (are_narrow links)) [ inl narrow ↦ omega (arith, narrow_length links narrow) | inr wide ↦ omega (arith, wide_length links wide) ]

-- if each text determines its value, a list of such texts determines their list
pub items_same : {X : Type 0} (text : X → List ℕ) (n : ℕ) (Fits : X → Type 0) → 0 < n → ((x : X) → length (text x) ≡ n)
    → ((a b : X) (x y : List ℕ) → Fits a → Fits b → text a ++ x ≡ text b ++ y → (a ≡ b) × (x ≡ y))
    → (xs ys : List X) → AllByRecursion Fits xs → AllByRecursion Fits ys → flat_map text xs ≡ flat_map text ys → xs ≡ ys
items_same text n Fits some each prefix [] [] first second same = refl
items_same text n Fits some each prefix [] (y ∷ ys) first second same = absurd (omega (arith, ap length same, length-append (text y) (flat_map text ys), each y))
items_same text n Fits some each prefix (x ∷ xs) [] first second same = absurd (omega (arith, ap length same, length-append (text x) (flat_map text xs), each x))
items_same text n Fits some each prefix (x ∷ xs) (y ∷ ys) first second same =
    let parts = prefix x y (flat_map text xs) (flat_map text ys) first.0 second.0 same in
    let rest = items_same text n Fits some each prefix xs ys first.1 second.1 parts.1 in
    λ i. parts.0 i ∷ rest i

-- ---- numbers at the prefix

pub IsBytes-drop : (n : ℕ) (bytes : List ℕ) → IsBytes bytes → IsBytes (drop n bytes)
IsBytes-drop n bytes fits i = rw get_or-drop (fits (n + i))

pub IsBytes-take : (n : ℕ) (bytes : List ℕ) → IsBytes bytes → IsBytes (take n bytes)
IsBytes-take n bytes fits i = search (arith, cases_lt, get_or-take, get_or_past, length-take)

pub u16_split : (bytes rest : List ℕ) → 2 ≤ length bytes → IsBytes bytes → rest ≡ drop 2 bytes → bytes ≡ u16_text (from_be_bytes w16 (take 2 bytes)) ++ rest
u16_split bytes rest enough fits behind =
    let prefix : u16_text (from_be_bytes w16 (take 2 bytes)) ≡ take 2 bytes = u16_back (take 2 bytes) (omega (arith, length-take 2 bytes)) (IsBytes-take 2 bytes fits) in
    sym (take-append-drop 2 bytes) ∙ ap (λ (t : List ℕ). take 2 bytes ++ t) (sym behind) ∙ ap (λ (t : List ℕ). t ++ rest) (sym prefix)

pub u32_split : (bytes rest : List ℕ) → 4 ≤ length bytes → IsBytes bytes → rest ≡ drop 4 bytes → bytes ≡ u32_text (from_be_bytes w32 (take 4 bytes)) ++ rest
u32_split bytes rest enough fits behind =
    let prefix : u32_text (from_be_bytes w32 (take 4 bytes)) ≡ take 4 bytes = u32_back (take 4 bytes) (omega (arith, length-take 4 bytes)) (IsBytes-take 4 bytes fits) in
    sym (take-append-drop 4 bytes) ∙ ap (λ (t : List ℕ). take 4 bytes ++ t) (sym behind) ∙ ap (λ (t : List ℕ). t ++ rest) (sym prefix)

pub i64_split : (bytes rest : List ℕ) → 8 ≤ length bytes → IsBytes bytes → rest ≡ drop 8 bytes → bytes ≡ i64_text (cast_signed w64 (from_be_bytes w64 (take 8 bytes))) ++ rest
unfolding i64_text
i64_split bytes rest enough fits behind = search (arith, of_z-to_z, be_bytes_8, length-take, take-append-drop)
