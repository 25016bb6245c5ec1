-- Lists of items, written and read.
use Rattle.std.proofs.Common.{◌≡◌, ℕ, zero, suc, ◌+◌, ◌*◌, ◌/◌, ◌%◌, ◌^◌, ◌<◌, ◌≤◌, ℤ, Bool, true, false, ◌&&◌, IsTrue, List, [], ◌∷◌, ◌++◌, length, map, take, drop, get_or, All, refl, sym}
use Rattle.std.proofs.Common.{ap, subst, ◌∙◌, append_assoc, append-nil, arith}
use Rattle.std.specs.Int.{w32, from_be_bytes, cast_signed, cast_unsigned}
use Rattle.std.specs.List.{flat_map, AllByRecursion}
use Rattle.std.specs.Simd.{first_chunks}
use Rattle.std.proofs.lemmas.Bool.{and_parts}
use Rattle.std.proofs.lemmas.Int.{of_z-to_z}
use Rattle.std.proofs.lemmas.List.{length-append, nil_from_length, take-append-drop, length-drop, length-take, take_more, flat_map_more}
use Rattle.std.proofs.lemmas.Slice.{take-put_mid}
use borrow.Rule.Slice.PartMut.{put_mid}
use Rattle.std.proofs.lemmas.List.Elements.{All-append, All-cons, All-nil, All-from_recursion}
use Rattle.std.proofs.lemmas.Grind.{flat_map-append}
use Rattle.links.specs.declared.links.Link.{Link}
use Rattle.frames.specs.FrameText.{u32_text, i32_text, i64_text, is_narrow, are_narrow, offer_text}
use Rattle.frames.specs.Lawful.{IsU32}
use Rattle.frames.specs.Refusals.{AreNoLinks, IsNoLink}
use Rattle.frames.proofs.Texts.{IsBytes, IsBytes-drop, IsBytes-take, u32_length, u32_back, u32_prefix, i64_length, items_same, parts_same, FitsOffer, offer_length}
use Rattle.frames.proofs.OneText.{two_prefix}
use Rattle.links.specs.Offers.{Offer}

-- ---- numbers, read

pub numbers_back : (k : ℕ) (bytes : List ℕ) → length bytes ≡ 4 * k → IsBytes bytes → flat_map u32_text (map (from_be_bytes w32) (first_chunks 4 k bytes)) ≡ bytes
numbers_back zero bytes len fits = sym (nil_from_length bytes (omega arith))
numbers_back (suc k) bytes len fits =
    let prefix = u32_back (take 4 bytes) (omega (arith, length-take 4 bytes)) (IsBytes-take 4 bytes fits) in
    let rest = numbers_back k (drop 4 bytes) (omega (arith, length-drop 4 bytes)) (IsBytes-drop 4 bytes fits) in
    ap (λ (t : List ℕ). u32_text (from_be_bytes w32 (take 4 bytes)) ++ t) rest ∙ ap (λ (t : List ℕ). t ++ drop 4 bytes) prefix ∙ take-append-drop 4 bytes

number_below : (bytes : List ℕ) → IsBytes bytes → IsU32 (from_be_bytes w32 bytes)
number_below bytes fits = omega (arith, fits 0, fits 1, fits 2, fits 3)

numbers_fit : (k : ℕ) (bytes : List ℕ) → IsBytes bytes → AllByRecursion IsU32 (map (from_be_bytes w32) (first_chunks 4 k bytes))
numbers_fit zero bytes fits = tt
numbers_fit (suc k) bytes fits = (number_below (take 4 bytes) (IsBytes-take 4 bytes fits), numbers_fit k (drop 4 bytes) (IsBytes-drop 4 bytes fits))

pub numbers_are : (bytes numbers : List ℕ) → length bytes % 4 ≡ 0 → IsBytes bytes → numbers ≡ map (from_be_bytes w32) (first_chunks 4 (length bytes / 4) bytes)
    → (flat_map u32_text numbers ≡ bytes) × All IsU32 numbers
numbers_are bytes numbers whole fits are = (
  ap (flat_map u32_text) are ∙ numbers_back (length bytes / 4) bytes (omega arith) fits,
  subst (All IsU32) (sym are) (All-from_recursion IsU32 _ (numbers_fit (length bytes / 4) bytes fits)),
)

each_fits : (numbers : List ℕ) → ((i : ℕ) → get_or numbers i 0 < 2 ^ 32) → AllByRecursion IsU32 numbers
each_fits [] fit = tt
each_fits (n ∷ numbers) fit = (fit 0, each_fits numbers (λ i. fit (suc i)))

pub numbers_found : (bytes numbers : List ℕ) → length bytes % 4 ≡ 0 → IsBytes bytes → ((i : ℕ) → get_or numbers i 0 < 2 ^ 32) → flat_map u32_text numbers ≡ bytes
    → numbers ≡ map (from_be_bytes w32) (first_chunks 4 (length bytes / 4) bytes)
numbers_found bytes numbers whole fits fit spelled =
    items_same u32_text 4 IsU32 (omega arith) u32_length u32_prefix numbers _ (each_fits numbers fit) (numbers_fit (length bytes / 4) bytes fits)
    (spelled ∙ sym (numbers_back (length bytes / 4) bytes (omega arith) fits))

-- ---- links, written

pub three_joined : (all a b c x y z : List ℕ) → all ≡ a ++ (b ++ (c ++ [])) → a ≡ x → b ≡ y → c ≡ z → all ≡ x ++ (y ++ z)
three_joined all a b c x y z is first second third = search (arith, append-nil)

pub three_put : (t0 t1 t2 t3 a b c x y z : List ℕ) → t1 ≡ t0 ++ a → t2 ≡ t1 ++ b → t3 ≡ t2 ++ c → a ≡ x → b ≡ y → c ≡ z → t3 ≡ t0 ++ (x ++ (y ++ z))
three_put t0 t1 t2 t3 a b c x y z e1 e2 e3 first second third = search (arith, append_assoc)

-- ---- weights of 32 bits

and-assoc : (a b c : Bool) → (a && (b && c)) ≡ ((a && b) && c)
and-assoc a1 a2 a3 = search arith

and-true : (a : Bool) → (a && true) ≡ a
and-true a1 = search arith

pub narrow-append : (a b : List Link) → are_narrow (a ++ b) ≡ (are_narrow a && are_narrow b)
narrow-append [] b = refl
narrow-append (l ∷ a) b = ap (λ (t : Bool). is_narrow l && t) (narrow-append a b) ∙ and-assoc (is_narrow l) (are_narrow a) (are_narrow b)

pub narrow_more : (links : List Link) (i : ℕ) (d : Link) → i < length links → are_narrow (take (i + 1) links) ≡ (are_narrow (take i links) && is_narrow (get_or links i d))
narrow_more links i d more =
    ap are_narrow (take_more links i d more) ∙ narrow-append (take i links) (get_or links i d ∷ []) ∙ ap (λ (t : Bool). are_narrow (take i links) && t) (and-true (is_narrow (get_or links i d)))

pub narrow_at : (links : List Link) (i : ℕ) (d : Link) → IsTrue (are_narrow links) → i < length links → IsTrue (is_narrow (get_or links i d))
narrow_at [] i d narrow within = absurd (omega arith)
narrow_at (l ∷ links) zero d narrow within = (and_parts (is_narrow l) (are_narrow links) narrow).0
narrow_at (l ∷ links) (suc i) d narrow within = narrow_at links i d (and_parts (is_narrow l) (are_narrow links) narrow).1 (omega arith)

-- ---- links, read

pub link_unlike : (weighed : ℤ → List ℕ) (low high : ℕ) (bytes rest rest' : List ℕ) → IsU32 low → IsU32 high → bytes ≡ u32_text low ++ rest → rest ≡ u32_text high ++ rest'
    → (1 ≤ low → low < high → high ≤ 2 ^ 26 → ⊥) → IsNoLink (λ l. u32_text l.low ++ (u32_text l.high ++ weighed l.weight)) bytes
link_unlike weighed low high bytes rest rest' wide wide' first second never l same = search (arith, two_prefix)

-- the weight is that of these bits
pub link_back : (low high bits : ℕ) (z : ℤ) (bytes rest rest' rest'' : List ℕ) → IsU32 bits → z ≡ cast_signed w32 bits → length bytes ≡ 12
    → bytes ≡ u32_text low ++ rest → rest ≡ u32_text high ++ rest' → rest' ≡ u32_text bits ++ rest'' → u32_text low ++ (u32_text high ++ i32_text z) ≡ bytes
link_back low high bits z bytes rest rest' rest'' wide is len first second third = search (arith, nil_from_length, length-append, u32_length, append-nil, of_z-to_z)

pub wide_link_back : (low high : ℕ) (z : ℤ) (bytes rest rest' rest'' : List ℕ) → length bytes ≡ 16
    → bytes ≡ u32_text low ++ rest → rest ≡ u32_text high ++ rest' → rest' ≡ i64_text z ++ rest'' → u32_text low ++ (u32_text high ++ i64_text z) ≡ bytes
wide_link_back low high z bytes rest rest' rest'' len first second third = search (arith, nil_from_length, length-append, u32_length, i64_length, append-nil)

module _ (spelled : Link → List ℕ) (size : ℕ) (some : 0 < size) (each : (l : Link) → length (spelled l) ≡ size) where
  -- after links that were read, bytes that encode no link
  none_behind : (read links : List Link) (prefix behind : List ℕ) → length prefix ≡ size → IsNoLink spelled prefix
      → flat_map spelled links ≡ flat_map spelled read ++ (prefix ++ behind) → ⊥
  none_behind read [] prefix behind len none same =
      omega (arith, some, ap length same, length-append (flat_map spelled read) (prefix ++ behind), length-append prefix behind)
  none_behind [] (l ∷ links) prefix behind len none same =
      none l (parts_same (spelled l) prefix (flat_map spelled links) behind (each l ∙ sym len) same).0
  none_behind (r ∷ read) (l ∷ links) prefix behind len none same = search (arith, parts_same, append_assoc, none_behind read links prefix behind len none)

  pub no_links_behind : (read : List Link) (bytes rest prefix behind : List ℕ) → flat_map spelled read ++ rest ≡ bytes → prefix ≡ take size rest → behind ≡ drop size rest
      → length prefix ≡ size → IsNoLink spelled prefix → AreNoLinks spelled bytes
  no_links_behind read bytes rest prefix behind so_far first second len none links same =
      let split : rest ≡ prefix ++ behind = sym (take-append-drop size rest) ∙ ap (λ (t : List ℕ). t ++ drop size rest) (sym first) ∙ ap (λ (t : List ℕ). prefix ++ t) (sym second) in
      none_behind read links prefix behind len none (same ∙ sym so_far ∙ ap (λ (t : List ℕ). flat_map spelled read ++ t) split)

-- ---- offers, written

-- the bytes of another offer, after those of the first ones
pub offer_put : (bytes cell : List ℕ) (offers : List Offer) (i k : ℕ) (d : Offer) → length bytes ≡ 8 * length offers → i < length offers → cell ≡ offer_text (get_or offers i d)
    → take (8 * i) bytes ≡ flat_map offer_text (take i offers) → take (8 * (i + 1)) (put_mid (8 * i) k bytes cell) ≡ flat_map offer_text (take (i + 1) offers)
offer_put bytes cell offers i k d room more is so_far =
    let next = get_or offers i d in
    take-put_mid (8 * i) k bytes cell (8 * (i + 1)) (omega (arith, ap length is, offer_length next)) (omega (arith, room, more))
    ∙ ap (λ (t : List ℕ). t ++ cell) so_far ∙ ap (λ (t : List ℕ). flat_map offer_text (take i offers) ++ t) is
    ∙ flat_map_more offer_text [] (take i offers) next ∙ ap (flat_map offer_text) (sym (take_more offers i d more))

-- ---- offers, read

pub offer_more : (new old : List Offer) (component place : ℕ) (bytes rest rest' rest'' : List ℕ) → flat_map offer_text old ++ rest ≡ bytes
    → rest ≡ u32_text component ++ rest' → rest' ≡ u32_text place ++ rest'' → new ≡ old ++ (component, place) ∷ [] → flat_map offer_text new ++ rest'' ≡ bytes
offer_more new old component place bytes rest rest' rest'' so_far first second is = search (arith, flat_map-append, append-nil, append_assoc)

pub fits_more : (new old : List Offer) (component place : ℕ) → All FitsOffer old → FitsOffer (component, place) → new ≡ old ++ (component, place) ∷ [] → All FitsOffer new
fits_more new old component place before this is = subst (All FitsOffer) (sym is)
    (All-append FitsOffer old ((component, place) ∷ []) before (All-cons FitsOffer (component, place) [] this (All-nil FitsOffer)))
