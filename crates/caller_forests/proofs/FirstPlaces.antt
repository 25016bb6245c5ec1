-- The first indices of edges among arcs.
use Rattle.std.proofs.Common.{◌≡◌, ℕ, ◌-◌, ◌^◌, ◌<◌, ◌≤◌, ◌⊎◌, Bool, true, false, List, Contains, length, get_or, min, max, refl, sym, ap, ◌∙◌, subst, inl, inr, arith}
use Rattle.std.specs.List.{filter}
use Rattle.std.specs.List.Sorted.{IsPermutation}
use mathlib.Core.Bool.{false≢true}
use Rattle.std.proofs.lemmas.Bool.{cases_eq, cases_lt}
use Rattle.std.proofs.lemmas.Bool.Decides.{nat_tests}
use Rattle.std.proofs.lemmas.List.{get_or-map, length-map, get_or_default}
use Rattle.std.proofs.lemmas.List.Elements.{Contains-get_or}
use Rattle.std.proofs.lemmas.List.Sorted.{Contains-permutation, IsPermutation-sym}
use Rattle.limits.specs.declared.TheConstants.{MAX_ARCS}
use Rattle.links.specs.Arc.{Arc}
use Rattle.links.specs.Link.{Key, AreLinksOf, IsAscending, IsBelow, key_of, arc_key, is_no_loop}
use Rattle.links.specs.declared.links.Link.{Link}
use Rattle.links.proofs.Keys.{below_irrefl}
use Rattle.links.proofs.Kept.{kept_in}
use Rattle.caller_forests.specs.declared.candidates.Candidate.{Candidate}
use Rattle.caller_forests.specs.Candidates.{AreOfArcs, HasCandidate, IsLeastOf}
use Rattle.caller_forests.specs.Places.{IsLinkAt, IsAmong, IsFirstFrom}

-- a loop isn't an edge
pub loop_no_link : (arcs : List Arc) (k : ℕ) (d : Arc) (l : Link) → is_no_loop (get_or arcs k d) ≡ false → IsLinkAt arcs l k → ⊥
loop_no_link arcs k d l loop is =
    let a = get_or arcs k d in
    let same : arc_key a ≡ key_of l = is d in
    let low : min a.tail a.head ≡ l.low = ap (λ (key : Key). key.1) same in
    let high : max a.tail a.head ≡ l.high = ap (λ (key : Key). key.2) same in
    let ascending = l.ascending in
    differ a.tail a.head l.low l.high loop low high ascending
  where
    differ : (t h low high : ℕ) → is_no_loop (record { tail = t; head = h; weight = (get_or arcs k d).weight }) ≡ false → min t h ≡ low → max t h ≡ high → low < high → ⊥
    differ t h low high loop is_low is_high lt = elim (cases_eq t h) [
      | inl same ↦ omega (arith, same, is_low, is_high, lt)
      | inr other ↦ grind (arith, nat_tests, loop, other)
    ]

-- the arcs' edges are among the arcs
pub links_among : (arcs : List Arc) (links : List Link) → AreLinksOf arcs links → (l : Link) → Contains links l → IsAmong arcs l
links_among arcs links are l (k, k_in, at) =
    let kept = filter is_no_loop arcs in
    let same : length links ≡ length kept = sym (length-map links key_of) ∙ ap length are ∙ length-map kept arc_key in
    let k_in' : k < length kept = omega (arith, k_in, same) in
    let d : Arc = record { tail = 0; head = 0; weight = l.weight } in
    let a = get_or kept k d in
    let key : arc_key a ≡ key_of l =
    sym (get_or-map arc_key kept k d (key_of l) k_in') ∙ ap (λ (keys : List Key). get_or keys k (key_of l)) (sym are) ∙ get_or-map key_of links k l (key_of l) k_in ∙ ap key_of at in
    let found = (kept_in is_no_loop arcs a (Contains-get_or kept k d k_in')).0 in
    let place = found.0 in
    let is : get_or arcs place a ≡ a = found.2 in
    (place, found.1, λ e. ap arc_key (get_or_default arcs place e a found.1 ∙ is) ∙ key)

-- the least index of the edge among the arcs before `to`, or the greatest value if there is none
pub record IsLeastUpTo (to : ℕ) (arcs : List Arc) (l : Link) (place : ℕ) : Type 0 where
  pub one : (place ≡ 2 ^ 32 - 1) ⊎ ((place < length arcs) × IsLinkAt arcs l place)
  pub least : (k : ℕ) → k < to → k < length arcs → IsLinkAt arcs l k → place ≤ k

-- the candidates of the arcs from `from` to `to`, which are then sorted, take these arcs into account
pub least_next : (arcs : List Arc) (found sorted : List Candidate) (from to : ℕ) (l : Link) (before after : ℕ) → AreOfArcs arcs found → IsPermutation found sorted
    → ((place : ℕ) → from ≤ place → place < to → place < length arcs → IsLinkAt arcs l place → HasCandidate found l place)
    → IsLeastOf sorted l before after → IsLeastUpTo from arcs l before → IsLeastUpTo to arcs l after
least_next arcs found sorted from to l before after of_arcs same none_missed is had = record {
  one = elim is.one [
    | inl stays ↦ subst (λ v. (v ≡ 2 ^ 32 - 1) ⊎ ((v < length arcs) × IsLinkAt arcs l v)) (sym stays) had.one
    | inr (c, c_in, c_link, c_place) ↦
        let at = of_arcs c (Contains-permutation sorted found c (IsPermutation-sym found sorted same) c_in) in
        inr (subst (λ v. v < length arcs) c_place at.0, subst (IsLinkAt arcs l) c_place (subst (λ m. IsLinkAt arcs m c.place) c_link at.1))
  ];
  least = λ k lt k_in at. elim (cases_lt k from) [
    | inl earlier ↦ let least = had.least k earlier k_in at in let no_more = is.no_more in omega (arith, least, no_more)
    | inr ge ↦
        let has = none_missed k ge lt k_in at in
        subst (λ v. after ≤ v) has.3 (is.least has.0 (Contains-permutation found sorted has.0 same has.1) has.2)
  ];
}

-- after all arcs, the least index is the first one, if the edge is among the arcs
pub first_of : (arcs : List Arc) (l : Link) (to place : ℕ) → length arcs ≤ MAX_ARCS → length arcs ≤ to → IsAmong arcs l → IsLeastUpTo to arcs l place → IsFirstFrom 0 arcs l place
first_of arcs l to place few all (k, k_in, is) had =
    let le = had.least k (omega (arith, k_in, all)) k_in is in
    elim had.one [
      | inl none ↦ absurd (omega (arith, none, le, k_in, few))
      | inr (lt, at) ↦ record {
        behind = omega arith;
        in_range = lt;
        link = at;
        first = λ earlier ge before there.
            let least = had.least earlier (omega (arith, before, lt, all)) (omega (arith, before, lt)) there in
            omega (arith, least, before);
      }
    ]

-- two indices of an ascending list have different edges
pub one_place : (links : List Link) (i j : ℕ) (d : Link) → IsAscending links → i < length links → j < length links → get_or links i d ≡ get_or links j d → i ≡ j
one_place links i j d up i_in j_in same = elim (cases_lt i j) [
  | inl lt ↦ absurd (below_irrefl (get_or links j d) (subst (λ l. IsBelow l (get_or links j d)) same (up i j d lt j_in)))
  | inr ge ↦ elim (cases_lt j i) [
    | inl lt ↦ absurd (below_irrefl (get_or links i d) (subst (λ l. IsBelow l (get_or links i d)) (sym same) (up j i d lt i_in)))
    | inr le ↦ omega (arith, ge, le)
  ]
]

-- a test that isn't true is false
pub not_true : (b : Bool) → (b ≡ true → false ≡ true) → b ≡ false
not_true true never = absurd (false≢true (never refl))
not_true false never = refl
