-- A pass by first touch over links in the order of their keys, link by link.
use Rattle.std.proofs.Common.{◌≡◌, ℕ, ◌+◌, ◌<◌, ◌≤◌, ◌⊎◌, ◌↔◌, ◌==◌, if◌then◌else◌, Bool, true, false, List, [], ◌∷◌}
use Rattle.std.proofs.Common.{◌++◌, Contains, length, get_or, take, is_lt, get_or-take, length-take, refl, sym, ap, ◌∙◌, subst, inl, inr, arith}
use Rattle.std.proofs.lemmas.List.Sums.{sum_by-le}
use Rattle.std.specs.List.Sorted.{IsSorted}
use Rattle.std.proofs.lemmas.List.{get_or_past, get_or_default, take_more}
use Rattle.std.proofs.lemmas.List.Sorted.{sorted_far, ranks_by}
use mathlib.Core.Bool.{false≢true}
use Rattle.std.proofs.lemmas.List.Elements.{Contains-append_left, Contains-push, Contains-push_cases}
use Rattle.std.proofs.lemmas.Bool.{cases_eq, cases_lt}
use Rattle.links.specs.declared.links.Link.{Link}
use Rattle.links.specs.Link.{IsBelow, key_cmp}
use Rattle.links.specs.Walk.{Joins}
use Rattle.link_key.specs.Rounds.{HasOneLabel}
use Rattle.link_key.specs.Rounds.{LeavesLabel, IsLeastOut, AreJoinedWhereOne}
use Rattle.link_key.specs.OpenLinks.{AreNumbers, ShareNumber, AreTouched, number_at, zeros}
use Rattle.links.proofs.Members.{contains_none}
use Rattle.links.proofs.Keys.{key_cmp_total}
use Rattle.links.proofs.Walks.{joins_link, joins_symm, joins_trans, joins_more}

-- a table without numbers has none past its end either
pub none_anywhere : (numbers : List ℕ) → ((c : ℕ) → c < length numbers → get_or numbers c 0 ≡ 0) → (c : ℕ) → get_or numbers c 0 ≡ 0
none_anywhere numbers none c = search (arith, cases_lt, get_or_past)

-- the number of labels without a number is at most the number of labels
zeros_few : (numbers : List ℕ) → zeros numbers ≤ length numbers
zeros_few numbers =
    let few = sum_by-le (λ (k : ℕ). if k == 0 then 1 else 0) 1 numbers (λ k d lt. one (get_or numbers k d == 0)) in
    omega (arith, few)
  where
    one : (b : Bool) → (if b then 1 else 0) ≤ 1
    one true = omega arith
    one false = omega arith

-- before any link is looked at
pub numbers_none : (numbers : List ℕ) → ((c : ℕ) → c < length numbers → get_or numbers c 0 ≡ 0) → AreNumbers 0 numbers
numbers_none numbers none = search (arith, none_anywhere, zeros_few)

pub touched_none : (labels : List ℕ) (rest : List Link) (numbers : List ℕ) (before : List Link)
    → ((c : ℕ) → c < length numbers → get_or numbers c 0 ≡ 0) → AreTouched labels rest [] numbers before before
touched_none labels rest numbers before none = search (arith, contains_none, none_anywhere)

module _ {a b last last' : ℕ} {numbers numbers' : List ℕ} (share : ShareNumber a b last numbers last' numbers') where
  abbrev Choice : Type 0
  Choice = ((share.number ≡ get_or numbers a 0) × (0 < share.number) × (last' ≡ last)) ⊎ ((share.number ≡ get_or numbers b 0) × (0 < share.number) × (last' ≡ last)) ⊎
      ((share.number ≡ last + 1) × (last' ≡ last + 1) × (get_or numbers a 0 ≡ 0) × (get_or numbers b 0 ≡ 0))

  -- an assigned number stays
  pub number_stays : (c : ℕ) → 0 < get_or numbers c 0 → get_or numbers' c 0 ≡ get_or numbers c 0
  number_stays c some = search (arith, cases_eq)

  -- the shared number isn't 0, and it is at most the last number
  pub shared_some : 0 < share.number
  shared_some = search arith

  shared_most : AreNumbers last numbers → share.number ≤ last'
  shared_most are = search arith

  last_grows : last ≤ last'
  last_grows = search arith

  -- a label with a number keeps having one
  pub some_stays : (c : ℕ) → 0 < get_or numbers c 0 → 0 < get_or numbers' c 0
  some_stays c some = subst (λ k. 0 < k) (sym (number_stays c some)) some

  pub shared_numbers : 0 < a → 0 < b → last' + zeros numbers' ≤ last + zeros numbers → AreNumbers last numbers → AreNumbers last' numbers'
  shared_numbers a_some b_some fewer are = search (arith, cases_eq, shared_most, last_grows)

-- a label that a link leaves is the label of one of its endpoints
leaves_end : (labels : List ℕ) (m : Link) (c : ℕ) → LeavesLabel labels m c → (get_or labels m.low 0 ≡ c) ⊎ (get_or labels m.high 0 ≡ c)
leaves_end a1 a2 a3 a4 = search arith

-- The next link, and the labels of its endpoints.
pub record Next (labels : List ℕ) (rest seen : List Link) (x : Link) : Type 0 where
  pub member : Contains rest x
  pub before : (m : Link) → Contains rest m → IsBelow m x → Contains seen m
  pub low_in : x.low < length labels
  pub high_in : x.high < length labels

-- It is the link after those seen so far.
pub next_of : (labels : List ℕ) (rest : List Link) (i : ℕ) (x : Link) → IsSorted key_cmp rest → x.high < length labels → i < length rest → x ≡ get_or rest i x → Next labels rest (take i rest) x
next_of labels rest i x order high_in in_range is = record {
  member = (i, in_range, sym is);
  before = before;
  low_in = low_in;
  high_in = high_in;
}
  where
    low_in : x.low < length labels
    low_in = let ascending = x.ascending in omega (arith, ascending, high_in)

    before : (m : Link) → Contains rest m → IsBelow m x → Contains (take i rest) m
    before m (k, lt, at) below = elim (cases_lt k i) [
      | inl earlier ↦ (k, omega (arith, earlier, in_range, length-take i rest), get_or-take i rest k m earlier ∙ at)
      | inr later ↦
          let far = sorted_far (λ l m. is_lt (key_cmp l m)) (ranks_by key_cmp_total (λ l. l)) rest order i k m later lt in
          let here : get_or rest i m ≡ x = get_or_default rest i m x in_range ∙ sym is in
          absurd (false≢true (sym (rw (at, here) at far) ∙ ap is_lt below))
    ]

-- the links seen, including it
pub seen_with : (rest : List Link) (i : ℕ) (x : Link) → i < length rest → x ≡ get_or rest i x → take (i + 1) rest ≡ take i rest ++ x ∷ []
seen_with rest i x in_range is = take_more rest i x in_range ∙ ap (λ l. take i rest ++ l ∷ []) (sym is)

module _ {labels : List ℕ} {rest seen : List Link} {numbers : List ℕ} {before after : List Link} {x : Link}
    (next : Next labels rest seen x) (so_far : AreTouched labels rest seen numbers before after) where
  -- Both components were touched before: the link isn't taken.
  pub touched_passed : 0 < number_at labels numbers x.low → 0 < number_at labels numbers x.high → AreTouched labels rest (seen ++ x ∷ []) numbers before after
  touched_passed low_had high_had = record {
    touched = λ l l_in. elim (Contains-push_cases seen x l l_in) [
      | inl old ↦ so_far.touched l old
      | inr is ↦ subst (λ (k : Link). (0 < number_at labels numbers k.low) × (0 < number_at labels numbers k.high)) is (low_had, high_had)
    ];
    kept = so_far.kept;
    least = so_far.least;
    joined = so_far.joined;
  }

  -- One of them wasn't touched: the link is taken.
  pub touched_taken : {last last' : ℕ} {numbers' : List ℕ} → AreNumbers last numbers
      → ShareNumber (get_or labels x.low 0) (get_or labels x.high 0) last numbers last' numbers' → AreTouched labels rest (seen ++ x ∷ []) numbers' before (after ++ x ∷ [])
  touched_taken {last} {last'} {numbers'} are share = record {
    touched = λ l l_in. elim (Contains-push_cases seen x l l_in) [
      | inl old ↦ let had = so_far.touched l old in (some_stays share (get_or labels l.low 0) had.0, some_stays share (get_or labels l.high 0) had.1)
      | inr is ↦ subst (λ (k : Link). (0 < number_at labels numbers' k.low) × (0 < number_at labels numbers' k.high)) is
          (subst (λ k. 0 < k) (sym share.first) some, subst (λ k. 0 < k) (sym share.second) some)
    ];
    kept = λ l l_in. Contains-append_left after (x ∷ []) l (so_far.kept l l_in);
    least = least;
    joined = joined;
  }
    where
      a : ℕ
      a = get_or labels x.low 0

      b : ℕ
      b = get_or labels x.high 0

      S : Link → Type 0
      S = Contains (after ++ x ∷ [])

      some : 0 < share.number
      some = shared_some share

      -- no earlier link touched a label that has no number
      untouched : (c : ℕ) → get_or numbers c 0 ≡ 0 → (m : Link) → Contains rest m → LeavesLabel labels m c → ¬ (IsBelow m x)
      untouched c none m m_in leaves below =
          let had = so_far.touched m (next.before m m_in below) in
          elim (leaves_end labels m c leaves) [
            | inl at ↦ let some_at : 0 < get_or numbers c 0 = subst (λ k. 0 < get_or numbers k 0) at had.0 in omega (arith, none, some_at)
            | inr at ↦ let some_at : 0 < get_or numbers c 0 = subst (λ k. 0 < get_or numbers k 0) at had.1 in omega (arith, none, some_at)
          ]

      itself : ¬ (HasOneLabel labels x) → (c : ℕ) × IsLeastOut labels rest c x
      itself apart = elim share.free [
        | inl none ↦ (a, record { member = next.member; leaves = inl (refl, λ same. apart (sym same)); least = untouched a none })
        | inr none ↦ (b, record { member = next.member; leaves = inr (apart, refl); least = untouched b none })
      ]

      least : (l : Link) → Contains (after ++ x ∷ []) l → Contains before l ⊎ (Contains rest l × (¬ (HasOneLabel labels l) → (c : ℕ) × IsLeastOut labels rest c l))
      least l l_in = elim (Contains-push_cases after x l l_in) [
        | inl old ↦ so_far.least l old
        | inr is ↦ inr (subst (λ k. Contains rest k × (¬ (HasOneLabel labels k) → (c : ℕ) × IsLeastOut labels rest c k)) is (next.member, itself))
      ]

      joined : AreJoinedWhereOne labels before → (u v : ℕ) → u < length labels → v < length labels
          → 0 < number_at labels numbers' u → number_at labels numbers' u ≡ number_at labels numbers' v → Joins S u v
      joined one u v u_in v_in had same = elim (cases_eq (number_at labels numbers' u) share.number) [
        | inl shared ↦ joins_trans S u x.low v (near u u_in shared) (joins_symm S v x.low (near v v_in (sym same ∙ shared)))
        | inr other ↦
            let at_u = kept_number u other in
            let at_v = kept_number v (λ is. other (same ∙ is)) in
            old_joined u v u_in v_in (subst (λ k. 0 < k) at_u had) (sym at_u ∙ same ∙ at_v)
      ]
        where
          more : (u v : ℕ) → Joins (Contains after) u v → Joins S u v
          more = joins_more (Contains after) S (λ m m_in. Contains-append_left after (x ∷ []) m m_in)

          old_joined : (u v : ℕ) → u < length labels → v < length labels → 0 < number_at labels numbers u → number_at labels numbers u ≡ number_at labels numbers v → Joins S u v
          old_joined u v u_in v_in had same = more u v (so_far.joined one u v u_in v_in had same)

          one_label : (u v : ℕ) → u < length labels → v < length labels → get_or labels u 0 ≡ get_or labels v 0 → Joins S u v
          one_label u v u_in v_in same = more u v (joins_more (Contains before) (Contains after) so_far.kept u v (one u v u_in v_in same))

          back : Joins S x.high x.low
          back = joins_symm S x.low x.high (joins_link S x (Contains-push after x))

          -- a label with a number other than the shared one had that number before
          kept_number : (w : ℕ) → ¬ (number_at labels numbers' w ≡ share.number) → number_at labels numbers' w ≡ number_at labels numbers w
          kept_number w other = share.others (get_or labels w 0) (λ is. other (ap (λ k. get_or numbers' k 0) is ∙ share.first)) (λ is. other (ap (λ k. get_or numbers' k 0) is ∙ share.second))

          -- a label that had the shared number before
          old_near : (w : ℕ) → w < length labels → number_at labels numbers w ≡ share.number → Joins S w x.low
          old_near w w_in is = elim share.old [
            | inl given ↦ old_joined w x.low w_in next.low_in (subst (λ k. 0 < k) (sym is) some) (is ∙ given.0)
            | inr rest ↦ elim rest [
              | inl given ↦ joins_trans S w x.high x.low (old_joined w x.high w_in next.high_in (subst (λ k. 0 < k) (sym is) some) (is ∙ given.0)) back
              | inr new ↦ let most = are.at_most (get_or labels w 0) in let next_one = new.0 in absurd (omega (arith, is, most, next_one))
            ]
          ]

          near : (w : ℕ) → w < length labels → number_at labels numbers' w ≡ share.number → Joins S w x.low
          near w w_in is = elim (cases_eq (get_or labels w 0) a) [
            | inl at_low ↦ one_label w x.low w_in next.low_in at_low
            | inr not_low ↦ elim (cases_eq (get_or labels w 0) b) [
              | inl at_high ↦ joins_trans S w x.high x.low (one_label w x.high w_in next.high_in at_high) back
              | inr not_high ↦ old_near w w_in (sym (share.others (get_or labels w 0) not_low not_high) ∙ is)
            ]
          ]

-- the result is the same if the links are taken in another order, or some repeatedly
pub touched_same : {labels : List ℕ} {rest seen : List Link} {numbers : List ℕ} {before after after' : List Link}
    → ((l : Link) → Contains after l ↔ Contains after' l) → AreTouched labels rest seen numbers before after → AreTouched labels rest seen numbers before after'
touched_same {labels} {rest} {seen} {numbers} {before} {after} {after'} same are = record {
  touched = are.touched;
  kept = λ l l_in. (same l).0 (are.kept l l_in);
  least = λ l l_in. are.least l ((same l).1 l_in);
  joined = λ one u v u_in v_in had is. joins_more (Contains after) (Contains after') (λ l. (same l).0) u v (are.joined one u v u_in v_in had is);
}
