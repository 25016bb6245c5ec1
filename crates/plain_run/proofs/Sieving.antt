-- What a sieve lets through covers the list that was sifted.
use Rattle.std.proofs.Common.{◌≡◌, ℕ, ◌+◌, ◌-◌, ◌<◌, ◌≤◌, ◌⊎◌, ◌==◌, ◌&&◌, not, Bool, true, false, cond, List, []}
use Rattle.std.proofs.Common.{◌∷◌, ◌++◌, Contains, take, drop, set, length, get_or, inl, inr, refl, sym, ap, ap₂, ◌∙◌, subst, arith}
use mir.Val.{bool_byte}
use Rattle.std.specs.List.{filter}
use Rattle.std.specs.Int.Signed.{lt_z}
use Rattle.std.proofs.Math.Nat.{eq-or-lt_of_le}
use Rattle.std.proofs.Math.Seq.{take-append_seam, drop-append_seam}
use Rattle.std.proofs.lemmas.Int.{ints}
use Rattle.std.proofs.lemmas.Bool.Decides.{nat_tests}
use Rattle.std.proofs.lemmas.List.{append-nil, append_assoc, take_more, take_more_set, take-set, get_or-take, get_or_default, length-take-le}
use Rattle.std.proofs.lemmas.List.Elements.{All-drop, filter-append, All-contains, All-contains_itself, All-filter, Contains-get_or, Contains-append_cases, Contains-append_left, Contains-append_right}
use Rattle.links.specs.declared.links.Link.{Link}
use Rattle.links.specs.Covers.{LinksNotAbove, IsCoveredBy}
use Rattle.links.specs.Labels.{label_of}
use Rattle.links.specs.Link.{IsBelow, EndsUpTo, IsAscending}
use Rattle.links.specs.Walk.{Joins}
use Rattle.links.specs.WideKey.{wide_key}
use Rattle.links.proofs.Keys.{trichotomy, below_asymm, below_irrefl, below_trans}
use Rattle.links.proofs.Members.{contains_cases, contains_head, contains_none, contains_tail}
use Rattle.links.proofs.Walks.{joins_link, joins_more, joins_symm, joins_trans}
use Rattle.links.proofs.WideKeys.{wide_below}
use Rattle.link_key.specs.Components.{AreLeastVertices}
use Rattle.gr_text.specs.Kept.{BeginsSo}
use Rattle.plain_run.specs.Sieve.{IsSieveOf, Passes, stays}
use Rattle.plain_run.specs.declared.sieve.Sieve.{Sieve}

-- an element that passes is counted
pub counted_by : (b : Bool) (n n' : ℕ) → n' ≡ n + bool_byte b → ((n' ≡ n) × (b ≡ false)) ⊎ ((n' ≡ n + 1) × (b ≡ true))
counted_by a1 a2 a3 a4 = search arith

-- An element that passes a test is written after those kept before it, and counted. One that doesn't pass is also
-- written there, but not counted.
pub written_behind : {X : Type 0} (p : X → Bool) (before start now : List X) {i kept kept' : ℕ} (x : X) → i < length start → x ≡ get_or start i x → kept < length now
    → take kept now ≡ before ++ filter p (take i start) → ((kept' ≡ kept) × (p x ≡ false)) ⊎ ((kept' ≡ kept + 1) × (p x ≡ true))
    → take kept' (set now kept x) ≡ before ++ filter p (take (i + 1) start)
written_behind {X} p before start now {i} {kept} {kept'} x i_in is kept_in so_far counted = elim counted [
  | inl (same, fails) ↦ ap (λ n. take n (set now kept x)) same ∙ take-set now kept x ∙ so_far ∙ ap
      (λ (xs : List X). before ++ xs) (sym (one_more ∙ ap seen fails ∙ append-nil (filter p (take i start))))
  | inr (more, passes) ↦
      ap (λ n. take n (set now kept x)) more ∙ take_more_set now kept x kept_in ∙ ap (λ xs. xs ++ x ∷ []) so_far ∙ append_assoc before (filter p (take i start)) (x ∷ [])
      ∙ ap (λ (xs : List X). before ++ xs) (sym (one_more ∙ ap seen passes))
]
  where
    seen : Bool → List X
    seen b = filter p (take i start) ++ cond b (x ∷ []) []

    one_more : filter p (take (i + 1) start) ≡ filter p (take i start) ++ filter p (x ∷ [])
    one_more = ap (filter p) (take_more start i x i_in ∙ ap (λ y. take i start ++ y ∷ []) (sym is)) ∙ filter-append p (take i start) (x ∷ [])

-- ---- what passes a test is kept

kept_or : {X : Type 0} (p : X → Bool) (y x : X) (ys : List X) (b : Bool) → p y ≡ b → (Contains ys x → Contains (filter p ys) x) → Contains (y ∷ ys) x → p x ≡ true
    → Contains (cond b (y ∷ filter p ys) (filter p ys)) x
kept_or p y x ys true is later here passes = elim (contains_cases y x ys here) [
  | inl same ↦ subst (Contains (y ∷ filter p ys)) (sym same) (contains_head y (filter p ys))
  | inr behind ↦ contains_tail y x (filter p ys) (later behind)
]
kept_or p y x ys false is later here passes = elim (contains_cases y x ys here) [
  | inl same ↦ let both : true ≡ false = sym passes ∙ ap p same ∙ is in cc
  | inr behind ↦ later behind
]

kept : {X : Type 0} (p : X → Bool) (xs : List X) (x : X) → Contains xs x → p x ≡ true → Contains (filter p xs) x
kept p [] x here passes = absurd (contains_none x here)
kept p (y ∷ ys) x here passes = kept_or p y x ys (p y) refl (λ behind. kept p ys x behind passes) here passes

kept_of : {X : Type 0} (p : X → Bool) (xs : List X) (x : X) → Contains (filter p xs) x → Contains xs x
kept_of p xs x here = All-contains (Contains xs) (filter p xs) x (All-filter p (Contains xs) xs (All-contains_itself xs)) here

-- ---- an edge that doesn't stay is above one, and its endpoints have the same label

by_tests : (same less : Bool) → not (same && less) ≡ false → (same ≡ true) × (less ≡ true)
by_tests a1 a2 a3 = search arith

one_number : (a b : ℕ) → (a == b) ≡ true → a ≡ b
one_number a b same = grind (arith, nat_tests)

above : (h l : Link) → lt_z (wide_key h) (wide_key l) ≡ true → IsBelow h l
above h l less = search (arith, trichotomy, wide_below, ints)

goes_by : (labels : List ℕ) (h l : Link) → stays labels h l ≡ false → (label_of labels l.low ≡ label_of labels l.high) × IsBelow h l
goes_by labels h l goes = search (arith, by_tests, one_number, above)

-- ---- more edges connect what fewer edges connect

pub sieve_more : (labels : List ℕ) (h : Link) (links more : List Link) → ((m : Link) → Contains links m → Contains more m) → IsSieveOf labels h links → IsSieveOf labels h more
sieve_more labels h links more grows sieve u v u1 un v1 vn same =
    joins_more (LinksNotAbove links h) (LinksNotAbove more h) (λ m m_is. (grows m m_is.0, m_is.1)) u v (sieve u v u1 un v1 vn same)

-- ---- the edges that stay cover all

module _ (labels : List ℕ) (h : Link) (first rest : List Link) (sieve : IsSieveOf labels h first) (ends : EndsUpTo (length labels) rest) where
  joined_or : (l : Link) → Contains rest l → (b : Bool) → stays labels h l ≡ b → Joins (LinksNotAbove (first ++ filter (stays labels h) rest) l) l.low l.high
  joined_or l here true is =
      joins_link (LinksNotAbove (first ++ filter (stays labels h) rest) l) l (Contains-append_right first (filter (stays labels h) rest) l (kept (stays labels h) rest l here is), below_irrefl l)
  joined_or l here false is =
      let (same, below) = goes_by labels h l is in
      let high = All-contains (λ (m : Link). m.high ≤ length labels) rest l ends here in
      joins_more (LinksNotAbove first h) (LinksNotAbove (first ++ filter (stays labels h) rest) l)
      (λ m m_is. (Contains-append_left first (filter (stays labels h) rest) m m_is.0, λ over. m_is.1 (below_trans h l m below over))) l.low l.high
      (sieve l.low l.high l.from_one (omega (arith, high, l.ascending)) (omega (arith, l.from_one, l.ascending)) high same)

  pub sifted_covers : IsCoveredBy (first ++ rest) (first ++ filter (stays labels h) rest)
  sifted_covers = record {
    among = λ l l_in. elim (Contains-append_cases first (filter (stays labels h) rest) l l_in) [
      | inl in_first ↦ Contains-append_left first rest l in_first
      | inr in_rest ↦ Contains-append_right first rest l (kept_of (stays labels h) rest l in_rest)
    ];
    joined = λ l l_in. elim (Contains-append_cases first rest l l_in) [
      | inl in_first ↦ joins_link (LinksNotAbove (first ++ filter (stays labels h) rest) l) l (Contains-append_left first (filter (stays labels h) rest) l in_first, below_irrefl l)
      | inr in_rest ↦ joined_or l in_rest (stays labels h l) refl
    ];
  }

-- a list that was sifted
pub sifts : {A : Type 0} (sieve : Sieve A) (old new : List Link) (count : ℕ) → EndsUpTo (length sieve.labels) old → BeginsSo (Passes sieve) old
    → new ≡ take sieve.passed old ++ filter (stays sieve.labels sieve.heaviest) (drop sieve.passed old) → count ≡ length new
    → IsCoveredBy old new × Passes (record sieve { passed = count }) new
sifts {A} sieve old new count ends begins new_is counted =
    let labels = sieve.labels in
    let h = sieve.heaviest in
    let p = stays labels h in
    let first = begins.first in
    let more = begins.more in (
      subst (λ (xs : List Link). IsCoveredBy xs new) (sym begins.are)
          (subst (λ (xs : List Link). IsCoveredBy (first ++ more) xs) (sym is)
          (sifted_covers labels h first more joined (subst (EndsUpTo (length labels)) behind (All-drop (λ (m : Link). m.high ≤ length labels) sieve.passed old ends)))),
      record { count = counted; joined = subst (IsSieveOf labels h) (sym is) (sieve_more labels h first (first ++ filter p more) (Contains-append_left first (filter p more)) joined) },
    )
  where
    joined : IsSieveOf sieve.labels sieve.heaviest begins.first
    joined = begins.known.joined

    front : take sieve.passed old ≡ begins.first
    front = ap₂ (λ n (xs : List Link). take n xs) begins.known.count begins.are ∙ take-append_seam begins.first begins.more

    behind : drop sieve.passed old ≡ begins.more
    behind = ap₂ (λ n (xs : List Link). drop n xs) begins.known.count begins.are ∙ drop-append_seam begins.first begins.more

    is : new ≡ begins.first ++ filter (stays sieve.labels sieve.heaviest) begins.more
    is = new_is ∙ ap₂ (λ (xs ys : List Link). xs ++ filter (stays sieve.labels sieve.heaviest) ys) front behind

-- ---- the components of the first edges of an ascending list are a sieve of it

in_front : (count : ℕ) (links : List Link) (h m : Link) → 0 < count → count ≤ length links → IsAscending links → h ≡ get_or links (count - 1) h → Contains (take count links) m
    → LinksNotAbove links h m
in_front count links h m some in_range up is (k, lt, at) =
    let long = length-take-le count links in_range in
    let k_in : k < count = omega (arith, lt, long) in
    let k_below : k < length links = omega (arith, k_in, in_range) in
    let to_last : k ≤ count - 1 = omega (arith, k_in) in
    let here : get_or links k m ≡ m = sym (get_or-take count links k m k_in) ∙ at in
    let here' : get_or links k h ≡ m = get_or_default links k h m k_below ∙ here in (
      subst (Contains links) here (Contains-get_or links k m k_below),
      λ over. elim (eq-or-lt_of_le to_last) [
        | inl last ↦ let same : h ≡ m = is ∙ ap (λ i. get_or links i h) (sym last) ∙ here' in below_irrefl h (subst (IsBelow h) (sym same) over)
        | inr earlier ↦
            let below = up k (count - 1) h earlier (omega (arith, some, in_range)) in
            below_asymm h m over (subst (λ x. IsBelow x h) here' (subst (IsBelow (get_or links k h)) (sym is) below))
      ],
    )

pub sieve_of_lightest : (n count : ℕ) (links : List Link) (h : Link) (labels : List ℕ) → 0 < count → count ≤ length links → IsAscending links → h ≡ get_or links (count - 1) h
    → AreLeastVertices n (Contains (take count links)) labels → IsSieveOf labels h links
sieve_of_lightest n count links h labels some in_range up is are u v u1 un v1 vn same =
    let light = Contains (take count links) in
    let to_n = are.vertices in
    let of_u = (are.least u u1 (omega (arith, un, to_n))).joined in
    let of_v = (are.least v v1 (omega (arith, vn, to_n))).joined in
    joins_more light (LinksNotAbove links h) (λ m here. in_front count links h m some in_range up is here) u v
    (joins_trans light u (label_of labels u) v of_u (subst (λ w. Joins light w v) (sym same) (joins_symm light v (label_of labels v) of_v)))
