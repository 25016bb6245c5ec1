-- The best index for a label, as the links at more indices of a list are scanned.
use Rattle.std.proofs.Common.{◌≡◌, ℕ, ◌+◌, ◌<◌, ◌≤◌, List, length, get_or, Contains, true, false, Ordering, Less, Equal}
use Rattle.std.proofs.Common.{Greater, is_le, is_lt, Option, Some, None, refl, sym, ap, ◌∙◌, subst, inl, inr, arith}
use Rattle.std.specs.Ordering.{ordering_reverse}
use Rattle.std.proofs.lemmas.Bool.{cases_lt}
use Rattle.std.proofs.lemmas.List.{get_or_default}
use Rattle.links.specs.declared.links.Link.{Link}
use Rattle.links.specs.Link.{IsBelow, key_cmp}
use Rattle.links.proofs.Keys.{key_cmp_total, trichotomy, below_irrefl, below_asymm, below_trans}
use Rattle.round_theory.specs.Offers.{Leaves, IsLightOffer}
use Rattle.shard_scans.specs.Scanning.{ComesFirst, IsBestPlace, NoneLeavesIn, IsBest}

pub one_read : (links : List Link) (i : ℕ) (l m : Link) → i < length links → l ≡ get_or links i l → m ≡ get_or links i m → l ≡ m
one_read links i l m within l_read m_read = l_read ∙ get_or_default links i l m within ∙ sym m_read

le_false : (o : Ordering) → is_le o ≡ false → o ≡ Greater
le_false a1 a2 = search arith

-- what the test for `<=` of two links says
pub not_below_from_le : (l x : Link) → is_le (key_cmp l x) ≡ true → ¬ (IsBelow x l)
not_below_from_le l x le below = let at_most : is_le Greater ≡ true = subst (λ (o : Ordering). is_le o ≡ true) (key_cmp_total.antisymm l x ∙ ap ordering_reverse below) le in cc

pub not_below_from_lt : (l x : Link) → is_lt (key_cmp x l) ≡ false → ¬ (IsBelow x l)
not_below_from_lt l x test below = let less : is_lt Less ≡ false = subst (λ (o : Ordering). is_lt o ≡ false) below test in cc

pub below_from_gt : (l x : Link) → is_le (key_cmp l x) ≡ false → IsBelow x l
below_from_gt l x gt = key_cmp_total.antisymm x l ∙ ap ordering_reverse (le_false (key_cmp l x) gt)

-- a link that comes before another, which comes before a third
below_then_first : (l x m : Link) (p q : ℕ) → IsBelow x l → ComesFirst l p m q → IsBelow x m
below_then_first a1 a2 a3 a4 a5 a6 a7 = search (arith, below_trans)

pub first_then_first : (l x m : Link) (p i q : ℕ) → ComesFirst l p x i → ComesFirst x i m q → ComesFirst l p m q
first_then_first a1 a2 a3 a4 a5 a6 a7 a8 = search (arith, below_trans)

-- a link that isn't below an earlier one comes after it
pub first_from_le : (l x : Link) (p i : ℕ) → ¬ (IsBelow x l) → p ≤ i → ComesFirst l p x i
first_from_le l x p i not_below le = search (arith, trichotomy)

pub best_alone : (links : List Link) (labels : List ℕ) (c i : ℕ) (x : Link) → i < length links → x ≡ get_or links i x → Leaves labels x c → IsBestPlace links labels i (i + 1) c i
best_alone links labels c i x within read leaves = record {
  link = x;
  here = read;
  from_start = omega arith;
  before_end = omega arith;
  in_list = within;
  leaves = leaves;
  first = λ q m from_start before_end in_list m_read m_leaves.
      let same : q ≡ i = omega (arith, from_start, before_end) in
      inr (one_read links i x m within read (subst (λ k. m ≡ get_or links k m) same m_read), omega (arith, from_start));
}

module _ (links : List Link) (labels : List ℕ) (c from at to : ℕ) where
  -- it comes before each link at the later indices that leaves the label
  pub best_longer : (p : ℕ) → at ≤ to → (is : IsBestPlace links labels from at c p)
      → ((q : ℕ) (m : Link) → at ≤ q → q < to → q < length links → m ≡ get_or links q m → Leaves labels m c → ComesFirst is.link p m q) → IsBestPlace links labels from to c p
  best_longer p le is first = record {
    link = is.link;
    here = is.here;
    from_start = is.from_start;
    before_end = omega (arith, is.before_end, le);
    in_list = is.in_list;
    leaves = is.leaves;
    first = λ q m from_start before_end in_list read leaves. elim (cases_lt q at) [
      | inl lt ↦ is.first q m from_start lt in_list read leaves
      | inr later ↦ first q m later before_end in_list read leaves
    ];
  }

  -- no link at the later indices leaves the label
  pub best_goes_on : (best : Option ℕ) → at ≤ to → NoneLeavesIn links labels at to c → IsBest links labels from at c best → IsBest links labels from to c best
  best_goes_on None le none is = λ q m from_start before_end in_list read leaves. elim (cases_lt q at) [
    | inl lt ↦ is q m from_start lt in_list read leaves
    | inr later ↦ none q m later before_end in_list read leaves
  ]
  best_goes_on (Some p) le none is = best_longer p le is (λ q m later before_end in_list read leaves. absurd (none q m later before_end in_list read leaves))

  module _ (i : ℕ) (le : from ≤ at) (next : IsBestPlace links labels at to c i) where
    -- it comes before each link at the earlier indices that leaves the label
    best_later : ((q : ℕ) (m : Link) → from ≤ q → q < at → q < length links → m ≡ get_or links q m → Leaves labels m c → ComesFirst next.link i m q) → IsBestPlace links labels from to c i
    best_later earlier = record {
      link = next.link;
      here = next.here;
      from_start = omega (arith, le, next.from_start);
      before_end = next.before_end;
      in_list = next.in_list;
      leaves = next.leaves;
      first = λ q m from_start before_end in_list read leaves. elim (cases_lt q at) [
        | inl lt ↦ earlier q m from_start lt in_list read leaves
        | inr later ↦ next.first q m later before_end in_list read leaves
      ];
    }

    -- no link at the earlier indices leaves it
    pub best_first : NoneLeavesIn links labels from at c → IsBestPlace links labels from to c i
    best_first none = best_later (λ q m from_start lt in_list read leaves. absurd (none q m from_start lt in_list read leaves))

    module _ (p : ℕ) (is : IsBestPlace links labels from at c p) where
      -- the earlier one stays
      pub best_stays : ¬ (IsBelow next.link is.link) → IsBestPlace links labels from to c p
      best_stays not_below = record {
        link = is.link;
        here = is.here;
        from_start = is.from_start;
        before_end = omega (arith, is.before_end, next.from_start, next.before_end);
        in_list = is.in_list;
        leaves = is.leaves;
        first = λ q m from_start before_end in_list read leaves. elim (cases_lt q at) [
          | inl lt ↦ is.first q m from_start lt in_list read leaves
          | inr later ↦
              first_then_first is.link next.link m p i q
              (first_from_le is.link next.link p i not_below (omega (arith, is.before_end, next.from_start)))
              (next.first q m later before_end in_list read leaves)
        ];
      }

      -- the later one is less
      pub best_new : IsBelow next.link is.link → IsBestPlace links labels from to c i
      best_new below = best_later (λ q m from_start lt in_list read leaves. inl (below_then_first is.link next.link m p q below (is.first q m from_start lt in_list read leaves)))

-- the best index of the whole list is the first index of the least link that leaves the label
pub best_is_light : (links : List Link) (labels : List ℕ) (c p : ℕ) → IsBestPlace links labels 0 (length links) c p → IsLightOffer links labels c p
best_is_light links labels c p is = (
  is.link,
  record {
    member = (p, is.in_list, sym is.here);
    leaves = is.leaves;
    least = λ m (q, within, read) leaves below. elim (is.first q m (omega arith) within within (sym read) leaves) [
      | inl lower ↦ below_asymm m is.link below lower
      | inr (same, le) ↦ below_irrefl m (subst (IsBelow m) same below)
    ];
  },
  record {
    within = is.in_list;
    here = sym is.here;
    first = λ k lt same. elim (is.first k is.link (omega arith) (omega (arith, lt, is.in_list)) (omega (arith, lt, is.in_list)) (sym same) is.leaves) [
      | inl below ↦ below_irrefl is.link below
      | inr (_, le) ↦ absurd (omega (arith, le, lt))
    ];
  },
)

pub none_leaves : (links : List Link) (labels : List ℕ) (c : ℕ) → NoneLeavesIn links labels 0 (length links) c → (l : Link) → Contains links l → ¬ (Leaves labels l c)
none_leaves links labels c none l (q, within, read) leaves = none q l (omega arith) within within (sym read) leaves
