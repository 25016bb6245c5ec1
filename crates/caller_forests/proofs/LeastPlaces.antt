-- Edges merged with candidates in the order of their keys, and the least index of each edge among the candidates so
-- far.
use Rattle.std.proofs.Common.{◌≡◌, zero, suc, ℕ, ◌+◌, ◌*◌, ◌%◌, ◌^◌, ◌<◌, ◌≤◌, ◌⊎◌, ℤ, Bool, true, false, cond, Less, Equal, Greater, is_lt, int_cmp, List, [], ◌∷◌, ◌++◌, Contains, length}
use Rattle.std.proofs.Common.{get_or, set, take, min, refl, sym, ap, ◌∙◌, subst, inl, inr, get_or-set_same, get_or-set_other, arith}
use Rattle.std.specs.Int.{bit_at}
use Rattle.std.specs.Int.Bits.{bit_or}
use Rattle.std.specs.Int.Signed.{◌<ℤ◌, lt_z}
use Rattle.std.proofs.lemmas.Int.{ints}
use Rattle.std.proofs.lemmas.Bool.{cases_eq, cases_lt, true≢false}
use mir.Val.{bool_byte}
use Rattle.std.proofs.lemmas.List.{take_more_set, take-set}
use Rattle.std.proofs.lemmas.List.Elements.{Contains-get_or, Contains-push, Contains-push_cases, Contains-append_left}
use Rattle.std.proofs.lemmas.Nat.Bits.{bit_at_or, bit_at-lt}
use Rattle.std.proofs.lemmas.List.Sorted.{ranks_by, sorted_far}
use Rattle.std.proofs.lemmas.Cmp.{int_cmp_total}
use Rattle.links.specs.Arc.{Arc}
use Rattle.links.specs.Link.{IsAscending, key_of, arc_key}
use Rattle.links.specs.WideKey.{wide_key}
use Rattle.links.specs.declared.links.Link.{Link}
use Rattle.links.proofs.WideKeys.{wide_below, wide_one}
use Rattle.caller_forests.specs.declared.candidates.Candidate.{Candidate}
use Rattle.caller_forests.specs.Places.{IsLinkAt}
use Rattle.caller_forests.specs.Candidates.{IsMarked, AreInKeyOrder, AreOfArcs, HasCandidate, IsLeastOf}
use Rattle.caller_forests.proofs.Givens.{one_key}
use Rattle.caller_forests.proofs.FirstPlaces.{one_place}

not_less : (x y : ℤ) → is_lt (int_cmp x y) ≡ false → lt_z x y ≡ false
not_less x y = by_tests (lt_z x y) (lt_z y x)
  where
    by_tests : (a b : Bool) → is_lt (cond a Less (cond b Greater Equal)) ≡ false → a ≡ false
    by_tests true b never = absurd (true≢false never)
    by_tests false b never = refl

-- no candidate has a smaller key than one before it
ordered : (found : List Candidate) → AreInKeyOrder found → (j k : ℕ) (e : Candidate) → j ≤ k → k < length found
    → lt_z (wide_key (get_or found k e).link) (wide_key (get_or found j e).link) ≡ false
ordered found up j k e le k_in =
    not_less (wide_key (get_or found k e).link) (wide_key (get_or found j e).link)
    (sorted_far _ (ranks_by int_cmp_total (λ (c : Candidate). wide_key c.link)) found up j k e le k_in)

-- the edges before i are below the candidates from j on
abbrev pub IsBehind : List Link → List Candidate → ℕ → ℕ → Type 0
IsBehind links found i j = (t k : ℕ) (d : Link) (e : Candidate) → t < i → t < length links → j ≤ k → k < length found
    → wide_key (get_or links t d) <ℤ wide_key (get_or found k e).link

-- the least of `before` and of the indices of the edge's candidates before j
pub record LeastBefore (found : List Candidate) (j : ℕ) (l : Link) (before after : ℕ) : Type 0 where
  pub no_more : after ≤ before
  pub least : (k : ℕ) (e : Candidate) → k < j → (get_or found k e).link ≡ l → after ≤ (get_or found k e).place
  pub one : (after ≡ before) ⊎ ((k : ℕ) × (k < j) × ((e : Candidate) → ((get_or found k e).link ≡ l) × ((get_or found k e).place ≡ after)))

-- one more candidate, of another edge
pub other_more : (found : List Candidate) (j : ℕ) (l : Link) (before after : ℕ) → ((e : Candidate) → (get_or found j e).link ≡ l → ⊥)
    → LeastBefore found j l before after → LeastBefore found (j + 1) l before after
other_more found j l before after other had = record {
  no_more = had.no_more;
  least = λ k e lt same. elim (cases_eq k j) [
    | inl here ↦ absurd (other e (subst (λ m. (get_or found m e).link ≡ l) here same))
    | inr earlier ↦ had.least k e (omega (arith, lt, earlier)) same
  ];
  one = elim had.one [
    | inl is ↦ inl is
    | inr (k, lt, at) ↦ inr (k, omega (arith, lt), at)
  ];
}

-- one more candidate, of this edge
this_more : (found : List Candidate) (j : ℕ) (l : Link) (before after place : ℕ) → ((e : Candidate) → ((get_or found j e).link ≡ l) × ((get_or found j e).place ≡ place))
    → LeastBefore found j l before after → LeastBefore found (j + 1) l before (min after place)
this_more found j l before after place this had = record {
  no_more = let no_more = had.no_more in omega (arith, no_more);
  least = λ k e lt same. elim (cases_eq k j) [
    | inl here ↦ let is : (get_or found k e).place ≡ place = ap (λ m. (get_or found m e).place) here ∙ (this e).1 in omega (arith, is)
    | inr earlier ↦ let least = had.least k e (omega (arith, lt, earlier)) same in omega (arith, least)
  ];
  one = elim (cases_lt place after) [
    | inl less ↦ let falls : place ≡ min after place = omega (arith, less) in inr (j, omega arith, λ e. ((this e).0, (this e).1 ∙ falls))
    | inr ge ↦
        let stays : min after place ≡ after = omega (arith, ge) in
        elim had.one [
          | inl is ↦ inl (stays ∙ is)
          | inr (k, lt, at) ↦ inr (k, omega (arith, lt), λ e. ((at e).0, (at e).1 ∙ sym stays))
        ]
  ];
}

-- no candidate of the edge is left
pub none_left : (found : List Candidate) (j : ℕ) (l : Link) (before after : ℕ) → ((k : ℕ) (e : Candidate) → j ≤ k → k < length found → (get_or found k e).link ≡ l → ⊥)
    → j ≤ length found → LeastBefore found j l before after → IsLeastOf found l before after
none_left found j l before after none j_in had = record {
  no_more = had.no_more;
  least = λ c (k, k_in, at) same. elim (cases_lt k j) [
    | inl lt ↦ subst (λ (c' : Candidate). after ≤ c'.place) at (had.least k c lt (ap (λ (c' : Candidate). c'.link) at ∙ same))
    | inr ge ↦ absurd (none k c ge k_in (ap (λ (c' : Candidate). c'.link) at ∙ same))
  ];
  one = elim had.one [
    | inl is ↦ inl is
    | inr (k, lt, at) ↦
        let e : Candidate = record { link = l; place = 0 } in
        let c = get_or found k e in
        inr (c, Contains-get_or found k e (omega (arith, lt, j_in)), (at e).0, (at e).1)
  ];
}

-- the edge at i, and the candidate at j
module _ (links : List Link) (found : List Candidate) (i j : ℕ) (link : Link) (c : Candidate) (i_in : i < length links) (j_in : j < length found)
    (at_i : (d : Link) → get_or links i d ≡ link) (at_j : (e : Candidate) → get_or found j e ≡ c) (behind : IsBehind links found i j) where
  number_i : (t : ℕ) (d : Link) → t ≡ i → wide_key (get_or links t d) ≡ wide_key link
  number_i t d here = ap (λ m. wide_key (get_or links m d)) here ∙ ap wide_key (at_i d)

  number_j : (e : Candidate) → wide_key (get_or found j e).link ≡ wide_key c.link
  number_j e = ap (λ (c' : Candidate). wide_key c'.link) (at_j e)

  -- the edge is below the candidate
  pub link_past : AreInKeyOrder found → wide_key link <ℤ wide_key c.link → IsBehind links found (i + 1) j
  link_past in_order less t k d e lt t_in le k_in = elim (cases_eq t i) [
    | inl here ↦
        let no_less = ordered found in_order j k e le k_in in
        let first = number_j e in
        let is = number_i t d here in
        omega (arith, ints, less, first, is, no_less)
    | inr earlier ↦ behind t k d e (omega (arith, lt, earlier)) t_in le k_in
  ]

  -- the loop passes the candidate
  pub candidate_past : IsBehind links found i (j + 1)
  candidate_past t k d e lt t_in le k_in = behind t k d e lt t_in (omega (arith, le)) k_in

  -- the candidate is below the edge, so it is none of the edges
  pub no_link : IsAscending links → lt_z (wide_key link) (wide_key c.link) ≡ false → ¬ (wide_key link ≡ wide_key c.link)
      → (t : ℕ) (d : Link) → t < length links → (e : Candidate) → (get_or found j e).link ≡ get_or links t d → ⊥
  no_link up no_less differ t d t_in e same =
      let first = number_j e in
      let is : wide_key (get_or found j e).link ≡ wide_key (get_or links t d) = ap wide_key same in
      elim (cases_lt t i) [
        | inl before ↦ let less = behind t j d e before t_in (omega arith) j_in in omega (arith, ints, less, is)
        | inr ge ↦ elim (cases_eq t i) [
          | inl here ↦ differ (sym (number_i t d here) ∙ sym is ∙ first)
          | inr other ↦
              let less = wide_below (get_or links i d) (get_or links t d) (up i t d (omega (arith, ge, other)) t_in) in
              let here = number_i i d refl in
              omega (arith, ints, less, is, first, here, no_less)
        ]
      ]

  -- the candidate is this edge, and no other one
  pub no_other : IsAscending links → wide_key link ≡ wide_key c.link → (t : ℕ) (d : Link) → t < length links → ¬ (t ≡ i)
      → (e : Candidate) → (get_or found j e).link ≡ get_or links t d → ⊥
  no_other up same t d t_in other e is =
      other (one_place links t i d up t_in i_in (sym is ∙ wide_one (get_or found j e).link link (number_j e ∙ sym same) ∙ sym (at_i d)))

  -- the candidate is the edge
  module _ (up : IsAscending links) (same : wide_key link ≡ wide_key c.link) (before places : List ℕ) (number : length places ≡ length links) (v : ℕ) (v_is : v ≡ min (get_or places i 0) c.place)
      (had : (t : ℕ) (d : Link) → t < length links → LeastBefore found j (get_or links t d) (get_or before t 0) (get_or places t 0)) where
    here : (d : Link) → LeastBefore found (j + 1) (get_or links i d) (get_or before i 0) (get_or (set places i v) i 0)
    here d = subst (LeastBefore found (j + 1) (get_or links i d) (get_or before i 0)) (sym (get_or-set_same places i v 0 (omega (arith, i_in, number)) ∙ v_is))
        (this_more found j (get_or links i d) (get_or before i 0) (get_or places i 0) c.place
        (λ e. (ap (λ (c' : Candidate). c'.link) (at_j e) ∙ sym (wide_one link c.link same) ∙ sym (at_i d), ap (λ (c' : Candidate). c'.place) (at_j e))) (had i d i_in))

    pub least_more : (t : ℕ) (d : Link) → t < length links → LeastBefore found (j + 1) (get_or links t d) (get_or before t 0) (get_or (set places i v) t 0)
    least_more t d t_in = elim (cases_eq t i) [
      | inl is ↦ subst (λ m. LeastBefore found (j + 1) (get_or links m d) (get_or before m 0) (get_or (set places i v) m 0)) (sym is) (here d)
      | inr other ↦ subst (LeastBefore found (j + 1) (get_or links t d) (get_or before t 0)) (sym (get_or-set_other places i t v 0 other))
          (other_more found j (get_or links t d) (get_or before t 0) (get_or places t 0) (no_other up same t d t_in other) (had t d t_in))
    ]

-- a mark that is set stays set, and so do those before it
mark_stays : (a b s : ℕ) → bit_at a s ≡ 1 → bit_at (bit_or a b) s ≡ 1
mark_stays a b s is = let or = bit_at_or a b s in let few = bit_at-lt b s in omega (arith, or, few, is)

mark_put : (a b s : ℕ) → bit_at b s ≡ 1 → bit_at (bit_or a b) s ≡ 1
mark_put a b s is = let or = bit_at_or a b s in let few = bit_at-lt a s in omega (arith, or, few, is)

pub mark_more : (marks : List ℕ) (x m : Link) (b : ℕ) → x.low < length marks → bit_at b (x.high % 8) ≡ 1 → IsMarked marks m ⊎ (m ≡ x)
    → IsMarked (set marks x.low (bit_or (get_or marks x.low 0) b)) m
mark_more marks x m b in_range bit had =
    let old = get_or marks x.low 0 in
    let s = m.high % 8 in
    elim (cases_eq m.low x.low) [
      | inl here ↦ subst (λ v. bit_at v s ≡ 1) (sym (ap (λ j. get_or (set marks x.low (bit_or old b)) j 0) here ∙ get_or-set_same marks x.low (bit_or old b) 0 in_range))
          (elim had [
            | inl was ↦ mark_stays old b s (subst (λ j. bit_at (get_or marks j 0) s ≡ 1) here was)
            | inr is ↦ mark_put old b s (subst (λ (l : Link). bit_at b (l.high % 8) ≡ 1) (sym is) bit)
          ])
      | inr other ↦ elim had [
        | inl was ↦ subst (λ v. bit_at v s ≡ 1) (sym (get_or-set_other marks x.low m.low (bit_or old b) 0 other)) was
        | inr is ↦ absurd (other (ap (λ (l : Link). l.low) is))
      ]
    ]

-- the bit for a remainder modulo 8
pub bit_of : (k : ℕ) → k < 8 → bit_at (1 * 2 ^ k % 256) k ≡ 1
bit_of zero lt = refl
bit_of (suc zero) lt = refl
bit_of (suc (suc zero)) lt = refl
bit_of (suc (suc (suc zero))) lt = refl
bit_of (suc (suc (suc (suc zero)))) lt = refl
bit_of (suc (suc (suc (suc (suc zero))))) lt = refl
bit_of (suc (suc (suc (suc (suc (suc zero)))))) lt = refl
bit_of (suc (suc (suc (suc (suc (suc (suc zero))))))) lt = refl
bit_of (suc (suc (suc (suc (suc (suc (suc (suc k)))))))) lt = absurd (omega (arith, lt))

-- among the arcs from `from` to `to`, no edge of the list is missed
abbrev pub NoneMissed : List Arc → List Link → ℕ → ℕ → List Candidate → Type 0
NoneMissed arcs links from to found = (place : ℕ) (m : Link) → from ≤ place → place < to → IsLinkAt arcs m place → Contains links m → HasCandidate found m place

module _ (arcs : List Arc) (links : List Link) (from place : ℕ) (found : List Candidate) where
  -- one more arc, which isn't an edge of the list
  pub dropped_more : ((m : Link) → Contains links m → IsLinkAt arcs m place → ⊥) → NoneMissed arcs links from place found → NoneMissed arcs links from (place + 1) found
  dropped_more none had p m ge lt is m_in = elim (cases_eq p place) [
    | inl here ↦ absurd (none m m_in (subst (IsLinkAt arcs m) here is))
    | inr earlier ↦ had p m ge (omega (arith, lt, earlier)) is m_in
  ]

  -- one more arc, which is kept
  module _ (c : Candidate) (c_place : c.place ≡ place) (key : (d : Arc) → key_of c.link ≡ arc_key (get_or arcs place d)) where
    pub kept_more : NoneMissed arcs links from place found → NoneMissed arcs links from (place + 1) (found ++ c ∷ [])
    kept_more had p m ge lt is m_in = elim (cases_eq p place) [
      | inl here ↦
          let arc : Arc = record { tail = 0; head = 0; weight = m.weight } in
          (c, Contains-push found c, one_key c.link m (key arc ∙ ap (λ k. arc_key (get_or arcs k arc)) (sym here) ∙ is arc), c_place ∙ sym here)
      | inr earlier ↦
          let has = had p m ge (omega (arith, lt, earlier)) is m_in in
          (has.0, Contains-append_left found (c ∷ []) has.0 has.1, has.2, has.3)
    ]

    pub kept_arcs : place < length arcs → AreOfArcs arcs found → AreOfArcs arcs (found ++ c ∷ [])
    kept_arcs lt had c' c'_in = elim (Contains-push_cases found c c' c'_in) [
      | inl before ↦ had c' before
      | inr is ↦ subst (λ (c'' : Candidate). (c''.place < length arcs) × IsLinkAt arcs c''.link c''.place) is
          (subst (λ p. (p < length arcs) × IsLinkAt arcs c.link p) (sym c_place) (lt, λ d. sym (key d)))
    ]

  -- one more arc, which is kept or not; it is kept if it is an edge of the list
  pub sifted_more : (c : Candidate) → c.place ≡ place → ((d : Arc) → key_of c.link ≡ arc_key (get_or arcs place d)) → (kept : Bool) → (Contains links c.link → kept ≡ true)
      → place < length arcs → AreOfArcs arcs found → NoneMissed arcs links from place found
      → AreOfArcs arcs (cond kept (found ++ c ∷ []) found) × NoneMissed arcs links from (place + 1) (cond kept (found ++ c ∷ []) found)
  sifted_more c c_place key true told lt of_arcs had = (kept_arcs c c_place key lt of_arcs, kept_more c c_place key had)
  sifted_more c c_place key false told lt of_arcs had =
      let arc : Arc = record { tail = 0; head = 0; weight = c.link.weight } in
      (of_arcs, dropped_more (λ m m_in is. true≢false (sym (told (subst (Contains links) (one_key m c.link (sym (is arc) ∙ sym (key arc))) m_in)))) had)

-- the front of `found` after a candidate is written, and counted if it is kept
pub sifted : (kept : Bool) (found : List Candidate) (count : ℕ) (c : Candidate) → count < length found
    → take (count + bool_byte kept) (set found count c) ≡ cond kept (take count found ++ c ∷ []) (take count found)
sifted true found count c lt = take_more_set found count c lt
sifted false found count c lt = let same : count + 0 ≡ count = omega arith in ap (λ m. take m (set found count c)) same ∙ take-set found count c

pub byte_few : (kept : Bool) → bool_byte kept ≤ 1
byte_few true = omega arith
byte_few false = omega arith
