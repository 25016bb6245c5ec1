-- The numbers of picks, into which links are counted one at a time.
use Rattle.std.proofs.Common.{◌≡◌, ◌≢◌, ℕ, ◌+◌, ◌-◌, ◌<◌, ◌≤◌, min, List, [], ◌∷◌, ◌++◌, length, map, get_or, set, Contains, Some, None, sym, ◌∙◌, subst, inl, inr, arith}
use Rattle.std.specs.Prelude.{Option, All}
use Rattle.std.proofs.lemmas.Bool.{cases_eq, cases_lt}
use Rattle.std.proofs.lemmas.Int.{ints}
use Rattle.std.proofs.lemmas.List.{length-map, get_or-map, get_or_default, length-set, get_or-set_same, get_or-set_other}
use Rattle.std.proofs.lemmas.List.Elements.{Contains-append_left, Contains-push, Contains-push_cases}
use Rattle.links.specs.declared.links.Link.{Link}
use Rattle.links.specs.Labels.{label_of}
use Rattle.links.proofs.Members.{contains_none}
use Rattle.round_theory.specs.LinkSet.{LinkSet, SameLinks}
use Rattle.round_theory.specs.Labelling.{IsVertex}
use Rattle.round_theory.specs.Offers.{Leaves}
use Rattle.round_theory.proofs.Leaving.{leaves_apart, leaves_end, leaves_low, leaves_high}
use Rattle.round_theory.proofs.Rounds.{least_leaving_alike}
use Rattle.round_core.specs.Picks.{pick_of, IsPickOf, ArePicks}
use Rattle.round_core.specs.PickNumbers.{IsKeyNumber, no_pick, IsPickNumber, pick_in}
use Rattle.round_core.specs.OwnPicks.{IsCountedIn, IsNumberOf, AreLeastNumbers, Counts}
use Rattle.round_core.proofs.PickNumbers.{number_of, has_number, no_pick_is_none, key_is_pick, key_below_no_pick, below_is_less}

-- the numbers after the one at index `i` was lowered to `k`, if that is less
record IsLowered (old new : List ℕ) (i k : ℕ) : Type 0 where
  long : length new ≡ length old
  here : get_or new i 0 ≡ min (get_or old i 0) k
  others : (j : ℕ) → j ≢ i → get_or new j 0 ≡ get_or old j 0

lowered : (old : List ℕ) (i v k : ℕ) → i < length old → v ≡ min (get_or old i 0) k → IsLowered old (set old i v) i k
lowered old i v k lt is = search (arith, length-set, get_or-set_same, get_or-set_other)

no_more : (old new : List ℕ) (i k : ℕ) → IsLowered old new i k → (j : ℕ) → get_or new j 0 ≤ get_or old j 0
no_more old new i k low j = search (arith, cases_eq)

-- lowered to the number of a link that leaves its label
from_lowered : (labels : List ℕ) (links : List Link) (l : Link) (old new : List ℕ) (c k : ℕ) → 1 ≤ c → IsLowered old new (c - 1) k → Contains links l → Leaves labels l c → IsKeyNumber l k
    → ((j : ℕ) → j < length old → IsNumberOf labels links (j + 1) (get_or old j 0)) → (j : ℕ) → j < length new → IsNumberOf labels links (j + 1) (get_or new j 0)
from_lowered labels links l old new c k one low l_in leaves key from j lt = elim (cases_eq j (c - 1)) [
  | inl is ↦ elim (cases_lt k (get_or old j 0)) [
    | inl less ↦
        let now : get_or new j 0 ≡ k = let e = here is in omega (arith, e, less) in
        let label : c ≡ j + 1 = omega (arith, is, one) in
        inr (l, l_in, subst (Leaves labels l) label leaves, subst (IsKeyNumber l) (sym now) key)
    | inr ge ↦ stays (let e = here is in omega (arith, e, ge))
  ]
  | inr other ↦ stays (low.others j other)
]
  where
    here : j ≡ c - 1 → get_or new j 0 ≡ min (get_or old j 0) k
    here is = subst (λ m. get_or new m 0 ≡ min (get_or old m 0) k) (sym is) low.here

    stays : get_or new j 0 ≡ get_or old j 0 → IsNumberOf labels links (j + 1) (get_or new j 0)
    stays same = subst (IsNumberOf labels links (j + 1)) (sym same) (from j (omega (arith, lt, low.long)))

of_more : (labels : List ℕ) (seen : List Link) (l : Link) (c k : ℕ) → IsNumberOf labels seen c k → IsNumberOf labels (seen ++ l ∷ []) c k
of_more labels seen l c k (inl none) = inl none
of_more labels seen l c k (inr (m, m_in, leaves, key)) = inr (m, Contains-append_left seen (l ∷ []) m m_in, leaves, key)

-- a link is counted for the labels of both of its endpoints, if these differ
module _ (labels numbers : List ℕ) (l : Link) (m a b v w : ℕ) (end : l.high ≤ length labels) (apart : label_of labels l.low ≢ label_of labels l.high) (long : length numbers ≡ length labels)
    (a_is : a ≡ label_of labels l.low) (b_is : b ≡ label_of labels l.high) (a_in : IsVertex (length labels) a) (b_in : IsVertex (length labels) b) (key : IsKeyNumber l m)
    (v_is : v ≡ min (get_or numbers (a - 1) 0) m) (w_is : w ≡ min (get_or (set numbers (a - 1) v) (b - 1) 0) m) where
  abbrev once : List ℕ
  once = set numbers (a - 1) v

  abbrev twice : List ℕ
  twice = set once (b - 1) w

  first : IsLowered numbers once (a - 1) m
  first = lowered numbers (a - 1) v m (omega (arith, a_in.0, a_in.1, long)) v_is

  second : IsLowered once twice (b - 1) m
  second = lowered once (b - 1) w m (omega (arith, b_in.0, b_in.1, long, first.long)) w_is

  itself : (c k : ℕ) → Leaves labels l c → IsKeyNumber l k → get_or twice (c - 1) 0 ≤ k
  itself c k leaves k_is = elim (leaves_end labels l c leaves) [
    | inl is ↦
        let le = no_more once twice (b - 1) m second (a - 1) in
        let here = first.here in
        subst (λ d. get_or twice (d - 1) 0 ≤ k) (a_is ∙ sym is) (omega (arith, ints, le, here, key, k_is))
    | inr is ↦
        let here = second.here in
        subst (λ d. get_or twice (d - 1) 0 ≤ k) (b_is ∙ sym is) (omega (arith, ints, here, key, k_is))
  ]

  pub counted_one : Counts labels (l ∷ []) numbers twice
  counted_one seen are = record {
    each_vertex = second.long ∙ first.long ∙ long;
    from =
        from_lowered labels (seen ++ l ∷ []) l once twice b m b_in.0 second (Contains-push seen l) (subst (Leaves labels l) (sym b_is) (leaves_high labels l apart)) key
        (from_lowered labels (seen ++ l ∷ []) l numbers once a m a_in.0 first (Contains-push seen l) (subst (Leaves labels l) (sym a_is) (leaves_low labels l apart)) key
        (λ j lt. of_more labels seen l (j + 1) (get_or numbers j 0) (are.from j lt)));
    counted = λ q q_in. elim (Contains-push_cases seen l q q_in) [
      | inl before ↦ record {
        end = (are.counted q before).end;
        least = λ c k leaves q_is.
            let was = (are.counted q before).least c k leaves q_is in
            let le = no_more numbers once (a - 1) m first (c - 1) in
            let le' = no_more once twice (b - 1) m second (c - 1) in
            omega (arith, was, le, le');
      }
      | inr same ↦ subst (IsCountedIn labels twice) same (record { end = end; least = itself })
    ];
  }

-- a link whose endpoints have one label leaves none, and changes no number
pub counted_none : (labels : List ℕ) (seen : List Link) (l : Link) (numbers : List ℕ) → l.high ≤ length labels → label_of labels l.low ≡ label_of labels l.high
    → AreLeastNumbers labels seen numbers → AreLeastNumbers labels (seen ++ l ∷ []) numbers
counted_none labels seen l numbers end same are = record {
  each_vertex = are.each_vertex;
  from = λ j lt. of_more labels seen l (j + 1) (get_or numbers j 0) (are.from j lt);
  counted = λ q q_in. elim (Contains-push_cases seen l q q_in) [
    | inl before ↦ are.counted q before
    | inr is ↦ subst (IsCountedIn labels numbers) is (record { end = end; least = λ c k leaves key. absurd (leaves_apart labels l c leaves same) })
  ];
}

-- if all numbers are that of no pick, they are the least of no links
pub none_are_least : (labels numbers : List ℕ) → length numbers ≡ length labels → All (λ k. k ≡ no_pick) numbers → AreLeastNumbers labels [] numbers
none_are_least labels numbers long none = record { each_vertex = long; from = λ i lt. inl (none i 0 lt); counted = λ l l_in. absurd (contains_none l l_in) }

pub are_numbers : (labels : List ℕ) (links : List Link) (numbers : List ℕ) → AreLeastNumbers labels links numbers → All IsPickNumber numbers
are_numbers labels links numbers are i d lt = subst IsPickNumber (get_or_default numbers i 0 d lt) (elim (are.from i lt) [
  | inl none ↦ inl none
  | inr (l, _, _, key) ↦ inr (l, key)
])

-- The picks of the least numbers are those of the links: no link that leaves a label has a lesser number than its pick.
are_picks : (labels : List ℕ) (links : List Link) (numbers : List ℕ) → AreLeastNumbers labels links numbers → ArePicks labels (Contains links) (map pick_in numbers)
are_picks labels links numbers are = record {
  each_vertex = length-map numbers pick_in ∙ are.each_vertex;
  ends = λ l (i, lt, at).
      let within : i < length numbers = omega (arith, lt, length-map numbers pick_in) in
      let picked : pick_in (get_or numbers i 0) ≡ Some l = sym (get_or-map pick_in numbers i 0 (Some l) within) ∙ at in
      elim (are.from i within) [
        | inl none ↦ let wrong : None ≡ Some l = sym (no_pick_is_none (get_or numbers i 0) none) ∙ picked in absurd (cc)
        | inr (m, m_in, _, key) ↦
            let both : Some m ≡ Some l = sym (key_is_pick m (get_or numbers i 0) key) ∙ picked in
            let same : m ≡ l = cc in
            subst (λ (q : Link). q.high ≤ length labels) same (are.counted m m_in).end
      ];
  least = λ c vertex.
      let within : c - 1 < length numbers = omega (arith, vertex.0, vertex.1, are.each_vertex) in
      let number : ℕ = get_or numbers (c - 1) 0 in
      let pick : pick_of (map pick_in numbers) c ≡ pick_in number = get_or-map pick_in numbers (c - 1) 0 None within in
      let label : c - 1 + 1 ≡ c = omega (arith, vertex.0) in
      subst (IsPickOf labels (Contains links) c) (sym pick) (elim (are.from (c - 1) within) [
        | inl none ↦ subst (IsPickOf labels (Contains links) c) (sym (no_pick_is_none number none)) (λ q q_in leaves.
            let le = (are.counted q q_in).least c (number_of q) leaves (has_number q) in
            let less = key_below_no_pick q (number_of q) (has_number q) in
            omega (arith, le, less, none))
        | inr (l, l_in, leaves, key) ↦ subst (IsPickOf labels (Contains links) c) (sym (key_is_pick l number key)) (record {
          member = l_in;
          leaves = subst (Leaves labels l) label leaves;
          least = λ q q_in q_leaves below.
              let le = (are.counted q q_in).least c (number_of q) q_leaves (has_number q) in
              let less = below_is_less q l (number_of q) number (has_number q) key below in
              omega (arith, le, less);
        })
      ]);
}

pub picks_are : (labels labels' : List ℕ) (links links' : List Link) (numbers items : List ℕ) (picks : List (Option Link))
    → labels ≡ labels' → links ≡ links' → items ≡ numbers → picks ≡ map pick_in items
    → AreLeastNumbers labels links numbers → ArePicks labels' (Contains links') picks
picks_are labels labels' links links' numbers items picks same_labels same_links same_items picks_is are = rw (picks_is, same_items, ← same_labels, ← same_links) (are_picks labels links numbers are)

-- picks of sets with the same links
pub picks_alike : (labels : List ℕ) (S T : LinkSet) (best : List (Option Link)) → SameLinks S T → ArePicks labels S best → ArePicks labels T best
picks_alike labels S T best same are = search (arith, least_leaving_alike)
