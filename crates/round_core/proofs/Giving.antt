-- The links that roots pick, each given by the least root that picks it.
use Rattle.std.proofs.Common.{◌≡◌, ℕ, ◌+◌, ◌-◌, ◌<◌, ◌≤◌, ◌↔◌, Bool, true, false, List, [], ◌∷◌, ◌++◌, length}
use Rattle.std.proofs.Common.{get_or, take, take_all, set, length-append, Contains, refl, Some, None, sym, ap, ◌∙◌, subst, inl, inr, arith}
use mir.Val.{bool_byte}
use Rattle.std.specs.Prelude.{Option, All}
use Rattle.std.proofs.lemmas.Bool.{cases_eq, cases_lt}
use Rattle.std.proofs.lemmas.List.{append_assoc, get_or_default, get_or_past, get_or-set_same, get_or-set_other, length-set, take-set, take_more_set, take_at}
use Rattle.std.proofs.lemmas.List.Elements.{Contains-append_left, Contains-push, Contains-push_cases, Contains-get_or, All-contains}
use Rattle.std.proofs.lemmas.List.Quantifiers.{all_pairs_push}
use Rattle.links.specs.declared.links.Link.{Link}
use Rattle.links.specs.Labels.{AreLabels}
use Rattle.round_theory.specs.LinkSet.{LinkSet}
use Rattle.round_theory.specs.Offers.{IsNamed}
use Rattle.round_theory.proofs.Labels.{labelling_is_labels}
use Rattle.round_core.specs.Picks.{pick_of, ArePicks, ArePicksOfHearings, AreNoPicks, HaveAllPicks}
use Rattle.round_core.specs.Roots.{IsRoot, AreRoots, IsLed, IsLedBy, Gives, TakesPicked, IsGiven, AreGiven, CanStep}
use Rattle.round_core.specs.Solver.{Progress, vertices, IsProgress, IsFirstPickedAt, IsPickedBefore, ArePickedOnce}
use Rattle.round_core.proofs.Leading.{root_at}
use Rattle.round_core.proofs.Picking.{place_of, picked_there, first_place}

-- the index of the pick of root `j`
abbrev pub place_at : List ℕ → ℕ → ℕ
place_at roots j = get_or roots j 0 - 1

pub given_skip : (picks : List (Option Link)) (roots : List ℕ) (k : ℕ) (links : List Link)
    → ((l : Link) → ¬ (IsFirstPickedAt picks l (place_at roots k))) → AreGiven picks roots k links → AreGiven picks roots (k + 1) links
given_skip picks roots k links none are = record {
  exact = λ l. (λ l_in. let (j, lt, within, first) = (are.exact l).0 l_in in (j, omega (arith, lt), within, first), back l);
  in_order = are.in_order;
}
  where
    back : (l : Link) → IsGiven picks roots (k + 1) l → Contains links l
    back l (j, lt, within, first) = elim (cases_eq j k) [
      | inl is ↦ absurd (none l (subst (λ i. IsFirstPickedAt picks l (place_at roots i)) is first))
      | inr other ↦ (are.exact l).1 (j, omega (arith, lt, other), within, first)
    ]

pub given_more : (picks : List (Option Link)) (labels roots : List ℕ) (k : ℕ) (links : List Link) (l : Link)
    → AreRoots labels roots → k < length roots → IsFirstPickedAt picks l (place_at roots k) → AreGiven picks roots k links
    → AreGiven picks roots (k + 1) (links ++ l ∷ [])
given_more picks labels roots k links l are_roots k_in here are = record {
  exact = λ m. (to m, back m);
  in_order = all_pairs_push (IsPickedBefore picks) links l are.in_order (λ i d lt.
      let (j, below, within, first) = (are.exact (get_or links i d)).0 (Contains-get_or links i d lt) in (place_at roots j, place_at roots k, first, here, before j below within));
}
  where
    before : (j : ℕ) → j < k → j < length roots → place_at roots j < place_at roots k
    before j below within =
        let less : get_or roots j 0 < get_or roots k 0 = are_roots.ascending j k 0 below k_in in
        let root : IsRoot labels (get_or roots j 0) = (are_roots.exact (get_or roots j 0)).0 (Contains-get_or roots j 0 within) in
        omega (arith, less, root.0.0)

    to : (m : Link) → Contains (links ++ l ∷ []) m → IsGiven picks roots (k + 1) m
    to m m_in = elim (Contains-push_cases links l m m_in) [
      | inl earlier ↦ let (j, lt, within, first) = (are.exact m).0 earlier in (j, omega (arith, lt), within, first)
      | inr is ↦ (k, omega arith, k_in, subst (λ x. IsFirstPickedAt picks x (place_at roots k)) is here)
    ]

    back : (m : Link) → IsGiven picks roots (k + 1) m → Contains (links ++ l ∷ []) m
    back m (j, lt, within, first) = elim (cases_eq j k) [
      | inl is ↦
          let there : get_or picks (place_at roots k) None ≡ Some m = ap (λ i. get_or picks (place_at roots i) None) (sym is) ∙ first.here in
          let both : Some l ≡ Some m = sym here.here ∙ there in
          let same : l ≡ m = cc in
          subst (Contains (links ++ l ∷ [])) same (Contains-push links l)
      | inr other ↦ Contains-append_left links (l ∷ []) m ((are.exact m).1 (j, omega (arith, lt, other), within, first))
    ]

-- after all roots gave their links, these are all links picked, since no other vertex has a pick
pub given_all : (picks : List (Option Link)) (S : LinkSet) (labels roots : List ℕ) (k : ℕ) (links : List Link) → AreLabels labels → ArePicks labels S picks → AreRoots labels roots → length roots ≤ k
    → AreGiven picks roots k links → ArePickedOnce picks links
given_all picks S labels roots k links are_labels are_picks are_roots past are = record {
  exact = λ l. (
    λ l_in. let (j, lt, within, first) = (are.exact l).0 l_in in picked_there picks (place_at roots j) l first.here,
    λ picked.
        let (i, here) = place_of picks l picked in
        let (j, le, first) = first_place picks i l here in
        let (m, within, at) = (are_roots.exact (j + 1)).1 (root_at labels S picks are_labels are_picks j l first.here) in
        let root : get_or roots m 0 ≡ j + 1 = get_or_default roots m 0 (j + 1) within ∙ at in
        let place : j ≡ place_at roots m = omega (arith, root) in
        (are.exact l).1 (m, omega (arith, within, past), within, subst (IsFirstPickedAt picks l) place first),
  );
  in_order = are.in_order;
}

-- if no root has a pick, no vertex has one
pub none_of_roots : (picks : List (Option Link)) (S : LinkSet) (labels roots : List ℕ) → AreLabels labels
    → ArePicks labels S picks → AreRoots labels roots → All (λ c. pick_of picks c ≡ None) roots ↔ AreNoPicks picks
none_of_roots picks S labels roots are_labels are_picks are_roots = (to, back)
  where
    back : AreNoPicks picks → All (λ c. pick_of picks c ≡ None) roots
    back none k d lt = elim (cases_lt (get_or roots k d - 1) (length picks)) [
      | inl within ↦ none (get_or roots k d - 1) None within
      | inr past ↦ get_or_past picks (get_or roots k d - 1) None past
    ]

    to : All (λ c. pick_of picks c ≡ None) roots → AreNoPicks picks
    to none i d lt = at (get_or picks i d) (get_or_default picks i None d lt)
      where
        at : (x : Option Link) → get_or picks i None ≡ x → x ≡ None
        at None is = sym is ∙ is
        at (Some l) is =
            let root = (are_roots.exact (i + 1)).1 (root_at labels S picks are_labels are_picks i l is) in
            let back : i + 1 - 1 ≡ i = omega arith in
            let wrong : Some l ≡ None = sym is ∙ ap (λ k. get_or picks k None) (sym back) ∙ All-contains (λ c. pick_of picks c ≡ None) roots (i + 1) none root in
            absurd (cc)

pub none_in_progress : (p : Progress) (roots : List ℕ) (picks : List (Option Link)) (r : Bool) → IsProgress p → AreRoots p.labels roots → ArePicksOfHearings p.labels picks
    → (r ≡ true) ↔ All (λ c. pick_of picks c ≡ None) roots → (r ≡ true) ↔ AreNoPicks picks
none_in_progress p roots picks r is are_roots (heard, are) decides =
    let none = none_of_roots picks (IsNamed heard) p.labels roots (labelling_is_labels (vertices p) (Contains p.taken) p.labels is.few_vertices is.labelling) are are_roots in
    (λ yes. none.0 (decides.0 yes), λ none_picked. decides.1 (none.1 none_picked))

-- only roots have picks
pub all_at_roots : (p : Progress) (roots : List ℕ) (picks : List (Option Link)) → IsProgress p → AreRoots p.labels roots → ArePicksOfHearings p.labels picks → HaveAllPicks picks roots
all_at_roots p roots picks is are_roots (heard, are) i l here =
    (are_roots.exact (i + 1)).1 (root_at p.labels (IsNamed heard) picks (labelling_is_labels (vertices p) (Contains p.taken) p.labels is.few_vertices is.labelling) are i l here)

-- the links taken before, then those that the first `i` roots give, and then capacity for those of the others
pub record HaveGiven (picks : List (Option Link)) (roots : List ℕ) (i : ℕ) (before items : List Link) (count : ℕ) : Type 0 where
  pub within : i ≤ length roots
  pub room : length items ≡ length before + length roots
  pub added : List Link
  pub behind : take count items ≡ before ++ added
  pub number : count ≡ length before + length added
  pub few : length added ≤ i
  pub given : AreGiven picks roots i added

-- a list with more capacity after it still begins with its elements
pub with_room : (old rest new : List Link) (n m : ℕ) → length old ≡ n → n ≤ m → new ≡ take m old ++ rest → take n new ≡ old
with_room old rest new n m long le is = search (arith, take_all, take_at)

-- The pick of the next root is written after those that were given so far, and counted if the root takes it.
pub next_written : (picks : List (Option Link)) (labels roots : List ℕ) (i : ℕ) (before items : List Link) (count count' : ℕ) (l : Link) (takes : Bool) → AreRoots labels roots → i < length roots
    → Gives picks (get_or roots i 0) takes l → count' ≡ count + bool_byte takes → HaveGiven picks roots i before items count → HaveGiven picks roots (i + 1) before (set items count l) count'
next_written picks labels roots i before items count count' l true are_roots lt gives count_is have =
    let number = have.number in
    let few = have.few in
    let room = have.room in
    let more : length (have.added ++ l ∷ []) ≡ length have.added + 1 = length-append have.added (l ∷ []) in
    record {
      within = omega (arith, lt);
      room = length-set items count l ∙ have.room;
      added = have.added ++ l ∷ [];
      behind = ap (λ n. take n (set items count l)) count_is ∙ take_more_set items count l
          (omega (arith, number, few, room, lt)) ∙ ap (λ xs. xs ++ l ∷ []) have.behind ∙ append_assoc before have.added (l ∷ []);
      number = omega (arith, number, more, count_is);
      few = omega (arith, few, more);
      given = given_more picks labels roots i have.added l are_roots lt (gives.first refl) have.given;
    }
next_written picks labels roots i before items count count' l false are_roots lt gives count_is have =
    let number = have.number in
    let few = have.few in
    let same : count' ≡ count = omega (arith, count_is) in
    record {
      within = omega (arith, lt);
      room = length-set items count l ∙ have.room;
      added = have.added;
      behind = ap (λ n. take n (set items count l)) same ∙ take-set items count l ∙ have.behind;
      number = omega (arith, number, same);
      few = omega (arith, few);
      given = given_skip picks roots i have.added (gives.none refl) have.given;
    }

-- all roots gave their links, after those taken before
pub all_given : (picks : List (Option Link)) (labels roots : List ℕ) (i : ℕ) (before items : List Link) (count : ℕ) → CanStep labels roots picks → length roots ≤ i
    → HaveGiven picks roots i before items count → TakesPicked picks (length roots) before (take count items)
all_given picks labels roots i before items count can past have = record {
  added = have.added;
  behind = have.behind;
  few = let few = have.few in let within = have.within in omega (arith, few, within);
  once = let (heard, are) = can.picked in given_all picks (IsNamed heard) labels roots i have.added can.labelled are can.are_roots past have.given;
}

-- A root that is led where its pick leads it stays so while others are, and so does each that was led before.
pub led_more : (labels : List ℕ) (picks : List (Option Link)) (roots parents : List ℕ) (i p : ℕ) → get_or roots i 0 < length parents → IsLed labels picks (get_or roots i 0) p → IsRoot labels p
    → ((k : ℕ) → k < i → IsLedBy labels picks parents (get_or roots k 0)) → (k : ℕ) → k < i + 1 → IsLedBy labels picks (set parents (get_or roots i 0) p) (get_or roots k 0)
led_more labels picks roots parents i p within led root before k lt = search (arith, cases_eq, set, get_or-set_same, cases_lt, get_or-set_other)
