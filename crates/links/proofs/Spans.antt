-- Cuts: what a test of each span says about each shard, and that the joined shards are the list.
use Rattle.std.proofs.Common.{◌≡◌, refl, sym, ap, ap₂, ◌∙◌, subst, inl, inr, ℕ, zero, suc, ◌+◌, ◌-◌, ◌*◌, ◌/◌, ◌<◌, ◌≤◌, Bool, true, false, ◌&&◌, List, [], ◌∷◌, ◌++◌, length, map, drop, get_or, arith}
use Rattle.std.specs.Prelude.{nat_le, eqb, ltb, leb, if◌then◌else◌, Some, None}
use Rattle.std.specs.List.{slice_range, list_all}
use Rattle.std.proofs.Math.ListN.{drop_of_length-le}
use Rattle.std.proofs.lemmas.List.{length-map, length-take}
use Rattle.std.proofs.Math.Nat.{mul-div_cancel_left, div-mul-le_self, add-mul-div_left, zero-div, one-mul, mul_comm, add-mul}
use Rattle.std.proofs.lemmas.Nat.{le-div}
use Rattle.std.proofs.Math.ListN.{get_or-append}
use Rattle.std.proofs.Math.Seq.{get_or-append_seam}
use Rattle.std.proofs.lemmas.List.Folds.{drop_split}
use Rattle.std.proofs.lemmas.Bool.{leb-true, le-leb, cases_lt}
use Rattle.std.proofs.lemmas.Bool.Decides.{nat_tests}
use Rattle.limits.specs.declared.TheConstants.{MAX_SHARDS, MAX_SHARD_LINKS}
use Rattle.links.specs.declared.links.Link.{Link}
use Rattle.links.specs.Cut.{joined, links_at, spans_from, links_in, shards_at, is_in_order, is_small, places_refusal, even_refusal, IsEvenCut}
use Rattle.links.specs.declared.cuts.CutFault.TheVariants.{NoShards, TooManyShards, ShardTooLarge, BadPlaces}

-- if a conjunction of two tests is true, so are both tests
pub both_first : (a b : Bool) → (a && b) ≡ true → a ≡ true
both_first a1 a2 a3 = search arith

pub both_second : (a b : Bool) → (a && b) ≡ true → b ≡ true
both_second a1 a2 a3 = search arith

-- if every span passes a test, so does the span at index i
pub test_at : (p : (ℕ × ℕ) → Bool) (from len : ℕ) (places : List ℕ) (i : ℕ) → i ≤ length places
    → list_all p (spans_from from len places) ≡ true → p (get_or (from ∷ places) i 0, get_or (places ++ len ∷ []) i 0) ≡ true
test_at p from len [] zero h all = both_first _ _ all
test_at p from len [] (suc i) h all = absurd (omega (arith, h))
test_at p from len (q ∷ places) zero h all = both_first _ _ all
test_at p from len (q ∷ places) (suc i) h all = test_at p q len places i (omega (arith, h)) (both_second _ _ all)

-- if the span at every index passes a test, every span does
pub test_all : (p : (ℕ × ℕ) → Bool) (from len : ℕ) (places : List ℕ)
    → ((i : ℕ) → i ≤ length places → p (get_or (from ∷ places) i 0, get_or (places ++ len ∷ []) i 0) ≡ true)
    → list_all p (spans_from from len places) ≡ true
test_all p from len [] each = rw (each 0 (omega arith)) refl
test_all p from len (q ∷ places) each =
    let rest : list_all p (spans_from q len places) ≡ true = test_all p q len places (λ i h. each (suc i) (omega (arith, h))) in
    let here : p (from, q) ≡ true = each 0 (omega arith) in
    rw (here, rest) refl

-- if no shard ends before it begins, none begins or ends past the end of the list
pub begins_within : (from len : ℕ) (places : List ℕ) → list_all is_in_order (spans_from from len places) ≡ true → from ≤ len
begins_within from len [] all = leb-true from len (both_first _ _ all)
begins_within from len (q ∷ places) all =
    let here : from ≤ q = leb-true from q (both_first _ _ all) in
    let rest : q ≤ len = begins_within q len places (both_second _ _ all) in
    omega arith

pub ends_within : (from len : ℕ) (places : List ℕ) (i : ℕ) → list_all is_in_order (spans_from from len places) ≡ true
    → i ≤ length places → get_or (places ++ len ∷ []) i 0 ≤ len
ends_within from len [] zero all h = omega arith
ends_within from len [] (suc i) all h = omega arith
ends_within from len (q ∷ places) zero all h = begins_within q len places (both_second _ _ all)
ends_within from len (q ∷ places) (suc i) all h = ends_within q len places i (both_second _ _ all) (omega (arith, h))

-- the shards from an index on are the list from that index on
pub joined_from : (links : List Link) (from : ℕ) (places : List ℕ) → list_all is_in_order (spans_from from (length links) places) ≡ true
    → joined (map (links_in links) (spans_from from (length links) places)) ≡ drop from links
joined_from links from [] all =
    let h : from ≤ length links = leb-true from (length links) (both_first _ _ all) in
    let s : drop from links ≡ slice_range links from (length links) ++ drop (length links) links = drop_split links from (length links) h in
    let n : drop (length links) links ≡ [] = drop_of_length-le links (omega arith) in
    sym (s ∙ ap (λ t. slice_range links from (length links) ++ t) n)
joined_from links from (q ∷ places) all =
    let h : from ≤ q = leb-true from q (both_first _ _ all) in
    let rest : joined (map (links_in links) (spans_from q (length links) places)) ≡ drop q links = joined_from links q places (both_second _ _ all) in
    ap (λ t. slice_range links from q ++ t) rest ∙ sym (drop_split links from q h)

pub shards_joined : (links : List Link) (places : List ℕ) → list_all is_in_order (spans_from 0 (length links) places) ≡ true
    → joined (shards_at links places) ≡ links
shards_joined links places all = joined_from links 0 places all

-- there is one span more than there are indices
pub spans_length : (from len : ℕ) (places : List ℕ) → length (spans_from from len places) ≡ length places + 1
spans_length from len [] = refl
spans_length from len (q ∷ places) = ap suc (spans_length q len places) ∙ omega arith

pub shards_length : (links : List Link) (places : List ℕ) → length (shards_at links places) ≡ length places + 1
shards_length links places = length-map (spans_from 0 (length links) places) (links_in links) ∙ spans_length 0 (length links) places

-- a shard's links are those of its span
pub shard_from : (links : List Link) (from : ℕ) (places : List ℕ) (i : ℕ) → i ≤ length places
    → links_at (map (links_in links) (spans_from from (length links) places)) i ≡ slice_range links (get_or (from ∷ places) i 0) (get_or (places ++ length links ∷ []) i 0)
shard_from links from [] zero h = refl
shard_from links from [] (suc i) h = absurd (omega (arith, h))
shard_from links from (q ∷ places) zero h = refl
shard_from links from (q ∷ places) (suc i) h = shard_from links q places i (omega (arith, h))

-- what is true of a cut that is allowed
pub record IsAllowed (len : ℕ) (places : List ℕ) : Type 0 where
  pub few : length places < MAX_SHARDS
  pub in_order : list_all is_in_order (spans_from 0 len places) ≡ true
  pub small : list_all is_small (spans_from 0 len places) ≡ true

unrefused : (a b c : Bool) → (if a then Some TooManyShards else (if b then (if c then None else Some ShardTooLarge) else Some BadPlaces)) ≡ None
    → (a ≡ false) × (b ≡ true) × (c ≡ true)
unrefused a1 a2 a3 a4 = search arith

pub allowed : (len : ℕ) (places : List ℕ) → places_refusal len places ≡ None → IsAllowed len places
allowed len places e = search (arith, unrefused, nat_tests)

pub not_refused : (len : ℕ) (places : List ℕ) → IsAllowed len places → places_refusal len places ≡ None
not_refused len places is = search (arith, nat_tests)

-- ---- even shards

-- the indices between even shards
pub record AreEven (len count : ℕ) (places : List ℕ) : Type 0 where
  pub some : 0 < count
  pub number : length places + 1 ≡ count
  pub each : (k : ℕ) → k < length places → get_or places k 0 ≡ (k + 1) * len / count

pub even_begins : (len count : ℕ) (places : List ℕ) → AreEven len count places → (i : ℕ) → i ≤ length places
    → get_or (0 ∷ places) i 0 ≡ i * len / count
even_begins a1 a2 a3 a4 a5 a6 = search (arith, zero-div)

pub even_ends : (len count : ℕ) (places : List ℕ) → AreEven len count places → (i : ℕ) → i ≤ length places
    → get_or (places ++ len ∷ []) i 0 ≡ (i + 1) * len / count
even_ends len count places are i h = elim (cases_lt i (length places)) [
  | inl lt ↦ get_or-append places (len ∷ []) 0 i lt ∙ are.each i lt
  | inr not_lt ↦
      let last : length places ≡ i = omega (arith, h, not_lt) in
      let all : i + 1 ≡ count = omega (arith, last, are.number) in
      subst (λ (k : ℕ). get_or (places ++ len ∷ []) k 0 ≡ (i + 1) * len / count) last
      (get_or-append_seam places len [] 0 ∙ sym (ap (λ k. k * len / count) all ∙ mul-div_cancel_left len are.some))
]

pub even_step : (len count i : ℕ) → 0 < count → (i * len / count ≤ (i + 1) * len / count)
    × (len ≤ MAX_SHARD_LINKS * count → (i + 1) * len / count ≤ i * len / count + MAX_SHARD_LINKS)
even_step len count i some =
    let next : (i + 1) * len ≡ i * len + len = add-mul i 1 len ∙ ap (λ t. i * len + t) (one-mul len) in
    let low : i * len / count * count ≤ i * len = div-mul-le_self (i * len) count in (
      le-div (i * len / count) ((i + 1) * len) count some (omega (arith, next, low)),
      λ fits.
          let more : i * len + count * MAX_SHARD_LINKS ≡ i * len + MAX_SHARD_LINKS * count = ap (λ t. i * len + t) (mul_comm count MAX_SHARD_LINKS) in
          let sum : (i * len + count * MAX_SHARD_LINKS) / count ≡ i * len / count + MAX_SHARD_LINKS = add-mul-div_left (i * len) MAX_SHARD_LINKS some in
          let up : (i + 1) * len / count ≤ (i * len + count * MAX_SHARD_LINKS) / count = div-mono ((i + 1) * len) (i * len + count * MAX_SHARD_LINKS) count some (omega (arith, next, more, fits)) in
          omega (arith, sum, up),
    )
  where
    div-mono : (a b c : ℕ) → 0 < c → a ≤ b → a / c ≤ b / c
    div-mono a b c pos le = let low : a / c * c ≤ a = div-mul-le_self a c in le-div (a / c) b c pos (omega (arith, low, le))

pub even_allowed : (len count : ℕ) (places : List ℕ) → AreEven len count places → count ≤ MAX_SHARDS → len ≤ MAX_SHARD_LINKS * count → IsAllowed len places
even_allowed len count places are few fits = record {
  few = omega (arith, are.number, few);
  in_order = test_all is_in_order 0 len places (λ i h.
      let b = even_begins len count places are i h in
      let e = even_ends len count places are i h in
      let le = (even_step len count i are.some).0 in
      rw (b, e) (le-leb _ _ le));
  small = test_all is_small 0 len places (λ i h.
      let b = even_begins len count places are i h in
      let e = even_ends len count places are i h in
      let le : (i + 1) * len / count ≤ i * len / count + MAX_SHARD_LINKS = (even_step len count i are.some).1 fits in
      rw (b, e) (le-leb _ _ (omega (arith, le))));
}

pub even_cut : (links : List Link) (count : ℕ) (places : List ℕ) → AreEven (length links) count places → IsEvenCut links count (shards_at links places)
even_cut links count places are = search (arith, shards_length, shard_from, ap₂, even_begins, even_ends)

even_unrefused : (a b c : Bool) → (if a then Some NoShards else (if b then Some TooManyShards else (if c then Some ShardTooLarge else None))) ≡ None
    → (a ≡ false) × (b ≡ false) × (c ≡ false)
even_unrefused a1 a2 a3 a4 = search arith

pub even_limits : (len count : ℕ) → even_refusal len count ≡ None → (0 < count) × (count ≤ MAX_SHARDS) × (len ≤ MAX_SHARD_LINKS * count)
even_limits len count e = search (arith, even_unrefused, nat_tests)

-- a span has at most as many links as indices
pub part_few : (links : List Link) (from to : ℕ) → length (slice_range links from to) ≤ to - from
part_few links from to = let few = length-take (to - from) (drop from links) in omega (arith, few)
