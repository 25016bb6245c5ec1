-- Numbers of marked labels, which ascend as the labels do.
use Rattle.std.proofs.Common.{◌≡◌, ◌≢◌, ℕ, zero, suc, ◌+◌, ◌-◌, ◌*◌, ◌/◌, ◌%◌, ◌^◌, ◌<◌, ◌≤◌, ◌⊎◌, List, length, get_or, set, bit_or, count_ones, refl, sym, ap, ◌∙◌, subst, inl, inr, arith, w64}
use Rattle.std.specs.Prelude.{◌↔◌}
use Rattle.std.specs.Int.{bit_at}
use Rattle.std.proofs.lemmas.Bool.{cases_eq, cases_lt}
use Rattle.std.proofs.lemmas.List.{get_or-set_same, get_or-set_other, get_or_past, get_or_default, length-set}
use Rattle.std.proofs.lemmas.Nat.{ones_cat, mod-pow-add, mod_below, pow_pos}
use Rattle.std.proofs.lemmas.Nat.Bits.{bit_at_set_same, bit_at_set_other}
use Rattle.std.proofs.lemmas.List.{get_or-map, length-map, map-set, set-get_or}
use Rattle.std.proofs.lemmas.Nat.{one_shl}
use Rattle.links.specs.Labels.{label_of, AreLabels}
use Rattle.round_theory.specs.Labelling.{IsVertex}
use Rattle.shard_scans.proofs.Written.{label_vertex}
use Rattle.shard_scans.specs.declared.numbers.MarkWord.{MarkWord}
use Rattle.shard_scans.specs.Numbers.{marks_of, IsMarked, marked_to, marked_in, AreCounted, number_of, HasItsName, new_name}

no_ones : count_ones 0 ≡ 0
unfolding lib.Count.ones
no_ones = refl

one_one : count_ones 1 ≡ 1
unfolding lib.Count.ones
one_one = refl

ones_next : (w k : ℕ) → count_ones (w % 2 ^ (1 + k)) ≡ bit_at w k + count_ones (w % 2 ^ k)
ones_next w k = search (arith, count_ones, ones_cat, mod_below, pow_pos, cases_eq, no_ones, one_one, mod-pow-add)

module _ (marks : List ℕ) where
  marked_more : (a k : ℕ) → marked_to marks a ≤ marked_to marks (k + a)
  marked_more a zero = let same : zero + a ≡ a = omega arith in subst (λ n. marked_to marks a ≤ marked_to marks n) (sym same) (omega arith)
  marked_more a (suc k) =
      let next : suc k + a ≡ suc (k + a) = omega arith in
      subst (λ n. marked_to marks a ≤ marked_to marks n) (sym next) (omega (arith, marked_more a k))

  pub marked_rise : (a b : ℕ) → a ≤ b → marked_to marks a ≤ marked_to marks b
  marked_rise a b le =
      let at : b - a + a ≡ b = omega (arith, le) in
      subst (λ k. marked_to marks a ≤ marked_to marks k) at (marked_more a (b - a))

  -- a marked label is counted
  counts_itself : (c : ℕ) → IsMarked marks c → number_of marks c ≡ marked_to marks c
  counts_itself c is = search arith

  -- the first `k` labels of a word
  pub marked_within : (at k : ℕ) → k ≤ 64 → marked_to marks (k + at * 64) ≡ count_ones (get_or marks at 0 % 2 ^ k) + marked_to marks (at * 64)
  marked_within at zero le =
      let same : zero + at * 64 ≡ at * 64 = omega arith in
      let none : get_or marks at 0 % 2 ^ 0 ≡ 0 = omega arith in
      let ones : count_ones (get_or marks at 0 % 2 ^ 0) ≡ 0 = ap count_ones none ∙ no_ones in
      omega (arith, ones, ap (marked_to marks) same)
  marked_within at (suc k) le =
      let next : suc k + at * 64 ≡ suc (k + at * 64) = omega arith in
      let word : (k + at * 64) / 64 ≡ at = omega (arith, le) in
      let bit : (k + at * 64) % 64 ≡ k = omega (arith, le) in
      let one : 1 + k ≡ suc k = omega arith in
      ap (marked_to marks) next
      ∙ ap (λ n. n + bit_at (get_or marks ((k + at * 64) / 64) 0) ((k + at * 64) % 64)) (marked_within at k (omega (arith, le)))
      ∙ ap (λ i. count_ones (get_or marks at 0 % 2 ^ k) + marked_to marks (at * 64) + bit_at (get_or marks i 0) ((k + at * 64) % 64)) word
      ∙ ap (λ i. count_ones (get_or marks at 0 % 2 ^ k) + marked_to marks (at * 64) + bit_at (get_or marks at 0) i) bit
      ∙ turn (count_ones (get_or marks at 0 % 2 ^ k)) (marked_to marks (at * 64)) (bit_at (get_or marks at 0) k)
      ∙ ap (λ n. n + marked_to marks (at * 64)) (sym (ones_next (get_or marks at 0) k))
      ∙ ap (λ n. count_ones (get_or marks at 0 % 2 ^ n) + marked_to marks (at * 64)) one
    where
      turn : (a b c : ℕ) → a + b + c ≡ c + a + b
      turn a b c = omega arith

  -- the number of a marked label is at most the number of marks
  pub number_within : (c : ℕ) → IsMarked marks c → number_of marks c ≤ marked_in marks (length marks)
  number_within c is = omega (arith, counts_itself c is, marked_rise c (length marks * 64) (omega (arith, is.in_words)))

  pub numbers_ascend : (c d : ℕ) → IsMarked marks c → c < d → number_of marks c < number_of marks d
  numbers_ascend c d is lt = omega (arith, counts_itself c is, marked_rise c (d - 1) (omega (arith, lt)))

  pub numbers_apart : (c d : ℕ) → IsMarked marks c → IsMarked marks d → number_of marks c ≡ number_of marks d → c ≡ d
  numbers_apart c d c_is d_is same = search (arith, cases_lt, numbers_ascend)

  pub ascends_back : (c d : ℕ) → IsMarked marks c → IsMarked marks d → number_of marks c < number_of marks d → c < d
  ascends_back c d c_is d_is lt = search (arith, cases_lt, cases_eq, numbers_ascend)

abbrev pub with_bit : ℕ → ℕ → ℕ
with_bit word at = bit_or word (1 * 2 ^ at % 18446744073709551616)

module _ (marks : List ℕ) (label : ℕ) (from_one : 1 ≤ label) (within : (label - 1) / 64 < length marks) where
  abbrev at : ℕ
  at = (label - 1) / 64

  abbrev bit : ℕ
  bit = (label - 1) % 64

  abbrev new : List ℕ
  new = set marks at (with_bit (get_or marks at 0) bit)

  small : (k : ℕ) → k % 64 < 64
  small k = omega arith

  long : length new ≡ length marks
  long = length-set marks at (with_bit (get_or marks at 0) bit)

  here : get_or new at 0 ≡ with_bit (get_or marks at 0) bit
  here = get_or-set_same marks at (with_bit (get_or marks at 0) bit) 0 within

  itself : IsMarked new label
  itself = record {
    from_one = from_one;
    in_words = omega (arith, within, long);
    bit = ap (λ w. bit_at w bit) here ∙ bit_at_set_same w64 (get_or marks at 0) bit (small (label - 1));
  }

  other_bit : (c : ℕ) → 1 ≤ c → c ≢ label → bit_at (get_or new ((c - 1) / 64) 0) ((c - 1) % 64) ≡ bit_at (get_or marks ((c - 1) / 64) 0) ((c - 1) % 64)
  other_bit c c_from_one other = elim (cases_eq ((c - 1) / 64) at) [
    | inl one ↦
        let apart : (c - 1) % 64 ≢ bit = λ same. other (omega (arith, one, same, c_from_one, from_one)) in
        subst (λ w. bit_at (get_or new w 0) ((c - 1) % 64) ≡ bit_at (get_or marks w 0) ((c - 1) % 64)) (sym one)
        (ap (λ w. bit_at w ((c - 1) % 64)) here ∙ bit_at_set_other w64 (get_or marks at 0) bit (small (label - 1)) ((c - 1) % 64) apart)
    | inr far ↦ ap (λ w. bit_at w ((c - 1) % 64)) (get_or-set_other marks at ((c - 1) / 64) (with_bit (get_or marks at 0) bit) 0 far)
  ]

  pub mark_more : (c : ℕ) → IsMarked new c ↔ ((c ≡ label) ⊎ IsMarked marks c)
  mark_more c = search (arith, cases_eq, itself, long, other_bit)

abbrev marks_in : MarkWord → ℕ
marks_in w = w.marks

marks_set : (words : List MarkWord) (i bit : ℕ) (w new : MarkWord) → i < length words → w ≡ get_or words i w → new.marks ≡ with_bit w.marks bit
    → marks_of (set words i new) ≡ set (marks_of words) i (with_bit (get_or (marks_of words) i 0) bit)
marks_set words i bit w new within read new_is = search (arith, map-set, set, get_or-map)

-- the marks of the words after the bit of a label is set in its word
module _ (words : List MarkWord) (label : ℕ) (from_one : 1 ≤ label) (within : (label - 1) / 64 < length words) (w new : MarkWord) (read : w ≡ get_or words ((label - 1) / 64) w)
    (new_is : new.marks ≡ with_bit w.marks ((label - 1) % 64)) where
  in_marks : (label - 1) / 64 < length (marks_of words)
  in_marks = omega (arith, within, length-map words marks_in)

  pub word_marks : (d : ℕ) → IsMarked (marks_of (set words ((label - 1) / 64) new)) d ↔ ((d ≡ label) ⊎ IsMarked (marks_of words) d)
  word_marks d =
      subst (λ m. IsMarked m d ↔ ((d ≡ label) ⊎ IsMarked (marks_of words) d)) (sym (marks_set words ((label - 1) / 64) ((label - 1) % 64) w new within read new_is))
      (mark_more (marks_of words) label from_one in_marks d)

pub number_is : (inside words : List MarkWord) (c : ℕ) (w : MarkWord) → inside ≡ words → AreCounted words → (c - 1) / 64 < length words → w ≡ get_or inside ((c - 1) / 64) w
    → (w.before + count_ones (w.marks % (1 * 2 ^ ((c - 1) % 64) % 18446744073709551616)) + 1 ≡ number_of (marks_of words) c) × (number_of (marks_of words) c ≤ 2 ^ 28 + 65)
number_is inside words c w same counted within inside_read =
    let at = (c - 1) / 64 in
    let bit = (c - 1) % 64 in
    let read : w ≡ get_or words at w = inside_read ∙ ap (λ (t : List MarkWord). get_or t at w) same in
    let before : w.before ≡ marked_in (marks_of words) at = ap (λ (x : MarkWord). x.before) read ∙ counted.before at w within in
    let marks : w.marks ≡ get_or (marks_of words) at 0 = ap marks_in read ∙ sym (get_or-map marks_in words at w 0 within) in
    let shift : 1 * 2 ^ bit % 18446744073709551616 ≡ 2 ^ bit = one_shl bit 64 (omega arith) in
    let ones : count_ones (w.marks % (1 * 2 ^ bit % 18446744073709551616)) ≡ count_ones (get_or (marks_of words) at 0 % 2 ^ bit) =
    ap (λ n. count_ones (w.marks % n)) shift ∙ ap (λ m. count_ones (m % 2 ^ bit)) marks in
    let there : bit + at * 64 ≡ c - 1 = omega arith in
    let all : marked_to (marks_of words) (c - 1) ≡ count_ones (get_or (marks_of words) at 0 % 2 ^ bit) + marked_in (marks_of words) at =
    ap (marked_to (marks_of words)) (sym there) ∙ marked_within (marks_of words) at bit (omega arith) in
    (omega (arith, before, ones, all), omega (arith, marked_rise (marks_of words) (c - 1) (length words * 64) (omega (arith, within)), counted.few))

-- the number of a marked label is an index of the names
pub number_within_names : (words : List MarkWord) (names : List ℕ) → length names ≡ marked_in (marks_of words) (length words)
    → (c : ℕ) → IsMarked (marks_of words) c → number_of (marks_of words) c ≤ length names
number_within_names words names size c is = search (arith, length-map, number_within)

pub number_has_place : (words : List MarkWord) (names : List ℕ) (c : ℕ) → length names ≡ marked_in (marks_of words) (length words)
    → IsMarked (marks_of words) c → number_of (marks_of words) c - 1 < length names
number_has_place words names c size is = omega (arith, number_within_names words names size c is)

-- a name is written, and the others stay
module _ (marks names : List ℕ) (d : ℕ) (d_is : IsMarked marks d) where
  pub named_here : number_of marks d - 1 < length names → HasItsName marks (set names (number_of marks d - 1) d) d
  named_here within = get_or-set_same names (number_of marks d - 1) d 0 within

  pub named_stays : (c : ℕ) → IsMarked marks c → HasItsName marks names c → HasItsName marks (set names (number_of marks d - 1) d) c
  named_stays c c_is is = search (arith, cases_eq, numbers_apart, cases_lt, set, named_here, get_or_past, get_or-set_other)

-- another word says how many labels are marked before it
module _ (words : List MarkWord) (i total : ℕ) (w : MarkWord) (within : i < length words) (read : w ≡ get_or words i w) (total_is : total ≡ marked_in (marks_of words) i) where
  abbrev noted : MarkWord
  noted = record { marks = w.marks; before = total }

  pub noted_marks : marks_of (set words i noted) ≡ marks_of words
  noted_marks =
      map-set marks_in words i noted
      ∙ ap (set (marks_of words) i) (ap marks_in read ∙ sym (get_or-map marks_in words i w 0 within))
      ∙ set-get_or (marks_of words) i 0

  pub noted_total : w.marks < 2 ^ 64 → total + count_ones w.marks ≡ marked_in (marks_of (set words i noted)) (i + 1)
  noted_total fits =
      let here : w.marks ≡ get_or (marks_of words) i 0 = ap marks_in read ∙ sym (get_or-map marks_in words i w 0 within) in
      let whole : w.marks % 2 ^ 64 ≡ w.marks = omega (arith, fits) in
      let ones : count_ones (get_or (marks_of words) i 0 % 2 ^ 64) ≡ count_ones w.marks = ap (λ m. count_ones (m % 2 ^ 64)) (sym here) ∙ ap count_ones whole in
      let next : 64 + i * 64 ≡ (i + 1) * 64 = omega arith in
      let all : marked_in (marks_of words) (i + 1) ≡ count_ones (get_or (marks_of words) i 0 % 2 ^ 64) + marked_in (marks_of words) i =
      ap (marked_to (marks_of words)) (sym next) ∙ marked_within (marks_of words) i 64 (omega arith) in
      let sum : total + count_ones w.marks ≡ marked_in (marks_of words) (i + 1) = omega (arith, total_is, ones, all) in
      sum ∙ ap (λ m. marked_in m (i + 1)) (sym noted_marks)

  pub told_before : ((k : ℕ) (d : MarkWord) → k < i → (get_or words k d).before ≡ marked_in (marks_of words) k)
      → (k : ℕ) (d : MarkWord) → k < i + 1 → (get_or (set words i noted) k d).before ≡ marked_in (marks_of (set words i noted)) k
  told_before before k d lt = search (arith, cases_lt, get_or-set_other, noted_marks, set, get_or-set_same)

-- a new name is in one of the words
pub new_name_has_word : (labels : List ℕ) (name words : ℕ) → AreLabels labels → words ≡ length labels / 64 + 1 → (1 ≤ new_name labels name) × ((new_name labels name - 1) / 64 < words)
new_name_has_word labels name words are size = search (arith, cases_lt, label_vertex, get_or_default, get_or_past)
