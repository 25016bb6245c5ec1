-- Picks that are found by the components for which links are offered.
use Rattle.std.proofs.Common.{◌≡◌, ℕ, ◌+◌, ◌-◌, ◌<◌, ◌≤◌, ◌≢◌, ◌⊎◌, ◌↔◌, min, Bool, true, false, List, [], length, map, get_or, set, Contains, Some, refl, sym, ap, ◌∙◌, subst, inl, inr, arith}
use Rattle.std.specs.Prelude.{Option, All, Any, MatchBool, IsTrue, slice_get}
use Rattle.std.proofs.lemmas.Int.{ints}
use Rattle.std.specs.List.{list_all}
use Rattle.std.specs.Option.{option_to_list}
use Rattle.std.proofs.lemmas.Bool.{cases_lt, cases_eq}
use Rattle.std.proofs.lemmas.Option.{slice_get_cases, slice_get_read}
use Rattle.std.proofs.lemmas.List.{get_or_default, get_or-set_same, get_or-set_other}
use Rattle.std.proofs.lemmas.List.Elements.{All-contains, All-contains_itself}
use Rattle.links.specs.declared.links.Link.{Link}
use Rattle.links.specs.Labels.{label_of}
use Rattle.links.specs.Offers.{Offer}
use Rattle.links.specs.Cut.{links_at}
use Rattle.links.proofs.Members.{contains_head}
use Rattle.links.specs.AnswerValue.{AnswerValue}
use Rattle.round_theory.specs.Offers.{Leaves}
use Rattle.round_theory.proofs.Cutting.{any_from, flat_map_contains}
use Rattle.round_theory.proofs.Leaving.{leaves_end, leaves_low, leaves_high}
use Rattle.round_core.proofs.Books.{leaves_if, all_at, offered, offer_at, in_option, map_contains, map_from}
use Rattle.round_core.specs.PickNumbers.{IsKeyNumber, no_pick}
use Rattle.round_core.specs.BookValue.{is_leaving, is_offer, named_links, all_named, IsRight, CanCount}
use Rattle.round_core.specs.OwnPicks.{IsPlaced, IsOfferedBy, IsOfferedIn, AreTakenFrom, IsCountedIn, AreCountedIn, AreLeastNumbers}

pub offers_at : (links : List Link) (offers : List Offer) (i : ℕ) (l : Link) → i < length offers → (get_or offers i (0, 0)).1 < length links → l ≡ get_or links (get_or offers i (0, 0)).1 l
    → IsOfferedBy links offers (get_or offers i (0, 0)).0 l
offers_at links offers i l lt within here =
    let o : Offer = get_or offers i (0, 0) in
    (o.1, All-contains_itself offers i (0, 0) lt, slice_get_read links (length links) o.1 l refl within here)

-- another vertex has the lesser of its number and that of a link that is offered for it
pub taken_more : (offered : ℕ → Link → Type 0) (start own x k : ℕ) (old part : List ℕ) (l : Link) → own < length part → x ≡ get_or part own 0 → offered (start + own + 1) l → IsKeyNumber l k
    → AreTakenFrom offered start old part → AreTakenFrom offered start old (set part own (min x k))
taken_more offered start own x k old part l within x_is is key before = λ i lt.
    let v : ℕ = min x k in
    let P : ℕ → ℕ → Type 0 = λ j w. (w ≡ get_or old j 0) ⊎ ((m : Link) × offered (start + j + 1) m × IsKeyNumber m w) in
    elim (cases_eq i own) [
      | inl same ↦
          let new : get_or (set part own v) i 0 ≡ v = ap (λ j. get_or (set part own v) j 0) same ∙ get_or-set_same part own v 0 within in
          elim (cases_lt k x) [
            | inl less ↦
                let is_k : v ≡ k = omega (arith, less) in
                inr (l, subst (λ j. offered (start + j + 1) l) (sym same) is, subst (IsKeyNumber l) (sym (new ∙ is_k)) key)
            | inr ge ↦
                let is_x : v ≡ x = omega (arith, ge) in
                subst (P i) (sym (new ∙ is_x ∙ x_is ∙ ap (λ j. get_or part j 0) (sym same))) (before i lt)
          ]
      | inr other ↦ subst (P i) (sym (get_or-set_other part own i v 0 other)) (before i lt)
    ]

-- what is taken after something else is taken from the beginning
pub taken_then : (offered : ℕ → Link → Type 0) (start : ℕ) (old mid new : List ℕ) → length mid ≡ length old
    → AreTakenFrom offered start old mid → AreTakenFrom offered start mid new → AreTakenFrom offered start old new
taken_then offered start old mid new long first second = λ i lt. elim (second i (omega (arith, lt, long))) [
  | inl stayed ↦ subst (λ (w : ℕ). (w ≡ get_or old i 0) ⊎ ((m : Link) × offered (start + i + 1) m × IsKeyNumber m w)) (sym stayed) (first i lt)
  | inr is ↦ inr is
]

-- and what is offered by one answer is offered by the answers
pub taken_of_answer : (cut : List (List Link)) (answers : List AnswerValue) (i : ℕ) (a : AnswerValue) (start : ℕ) (old new : List ℕ) → i < length answers → a ≡ get_or answers i a
    → AreTakenFrom (IsOfferedBy (links_at cut a.shard) a.offers) start old new → AreTakenFrom (IsOfferedIn cut answers) start old new
taken_of_answer cut answers i a start old new lt at taken = λ j in_old. elim (taken j in_old) [
  | inl stayed ↦ inl stayed
  | inr (l, offered, key) ↦ inr (l, any_from (λ (b : AnswerValue). IsOfferedBy (links_at cut b.shard) b.offers (start + j + 1) l) answers a (i, lt, sym at) offered, key)
]

-- a link that is offered for a label is one that the offers name, and leaves the label
pub offered_leaves : (links : List Link) (labels : List ℕ) (offers : List Offer) (c : ℕ) (l : Link) → list_all (is_offer links labels) offers ≡ true → IsOfferedBy links offers c l
    → Contains (named_links links offers) l × Leaves labels l c
offered_leaves links labels offers c l all (place, (i, lt, at), some) =
    let passed : is_offer links labels (get_or offers i (c, place)) ≡ true = all_at (is_offer links labels) offers i (c, place) lt all in
    let test : is_offer links labels (c, place) ≡ true = subst (λ (o : Offer). is_offer links labels o ≡ true) at passed in
    let leaving : is_leaving labels c l ≡ true = rw some at test in (
      (flat_map_contains (λ (x : Offer). option_to_list (slice_get links x.1)) offers l).1
          (any_from (λ (x : Offer). Contains (option_to_list (slice_get links x.1)) l) offers (c, place) (i, lt, at)
          (subst (λ (x : Option Link). Contains (option_to_list x) l) (sym some) (contains_head l []))),
      leaves_if labels c l leaving,
    )

pub offered_leaves_in : (cut : List (List Link)) (labels : List ℕ) (answers : List AnswerValue) (c : ℕ) (l : Link)
    → CanCount cut labels answers → IsOfferedIn cut answers c l → Contains (all_named cut answers) l × Leaves labels l c
offered_leaves_in cut labels answers c l can (i, a, lt, at, offered) =
    let right : IsRight a.round cut labels a = subst (λ (b : AnswerValue). IsRight b.round cut labels b) at (can.right i a lt) in
    let here = offered_leaves (links_at cut a.shard) labels a.offers c l right.offers offered in (
      (flat_map_contains (λ (b : AnswerValue). named_links (links_at cut b.shard) b.offers) answers l).1
          (any_from (λ (b : AnswerValue). Contains (named_links (links_at cut b.shard) b.offers) l) answers a (i, lt, at) here.0),
      here.1,
    )

-- the numbers taken are the least, if no link that is offered is less than one of its own
pub taken_are_least : (cut : List (List Link)) (labels : List ℕ) (answers : List AnswerValue) (old new : List ℕ)
    → CanCount cut labels answers → length old ≡ length labels → length new ≡ length old → All (λ k. k ≡ no_pick) old
    → AreTakenFrom (IsOfferedIn cut answers) 0 old new → AreCountedIn labels new (all_named cut answers) → AreLeastNumbers labels (all_named cut answers) new
taken_are_least cut labels answers old new can each long none taken counted = record {
  each_vertex = long ∙ each;
  from = λ i lt.
      let within : i < length old = omega (arith, lt, long) in
      elim (taken i within) [
        | inl stayed ↦ inl (stayed ∙ none i 0 within)
        | inr (l, offered, key) ↦
            let label : 0 + i + 1 ≡ i + 1 = omega arith in
            let here = offered_leaves_in cut labels answers (i + 1) l can (subst (λ c. IsOfferedIn cut answers c l) label offered) in
            inr (l, here.0, here.1, key)
      ];
  counted = counted;
}

-- ---- checked one after the other

-- a link that leaves labels is counted if it isn't less than the numbers of both
pub counted_by : (labels numbers : List ℕ) (l : Link) (m a b : ℕ) → l.high ≤ length labels
    → label_of labels l.low ≢ label_of labels l.high → a ≡ label_of labels l.low → b ≡ label_of labels l.high → IsKeyNumber l m
    → (get_or numbers (a - 1) 0 ≤ m) × (get_or numbers (b - 1) 0 ≤ m) ↔ IsCountedIn labels numbers l
counted_by labels numbers l m a b end apart a_is b_is key = search (arith, leaves_end, leaves_low, leaves_high, ints)

-- the links of offers are counted if a check of each offer finds that the link it names is
pub all_counted : (labels numbers : List ℕ) (links : List Link) (offers : List Offer) (b : Bool) {X : Type 0} (now : X → Offer) (xs : List X)
    → map now xs ≡ offers → list_all (is_offer links labels) offers ≡ true
    → MatchBool b (All (λ x. (l : Link) → slice_get links (now x).1 ≡ Some l → IsTrue true ↔ IsCountedIn labels numbers l) xs)
    (Any (λ x. (l : Link) → slice_get links (now x).1 ≡ Some l → IsTrue false ↔ IsCountedIn labels numbers l) xs)
    → IsTrue b ↔ AreCountedIn labels numbers (named_links links offers)
all_counted labels numbers links offers true now xs are leaving all = (
  λ _ l l_in.
      let (k, o, lt, at, named) = (flat_map_contains (λ (o : Offer). option_to_list (slice_get links o.1)) offers l).0 l_in in
      let (x, x_in, is) = map_from now xs k o (rw are lt) (rw are at) in
      (All-contains (λ y. (m : Link) → slice_get links (now y).1 ≡ Some m → IsTrue true ↔ IsCountedIn labels numbers m) xs x all x_in l
      (ap (λ (p : Offer). slice_get links p.1) is ∙ in_option (slice_get links o.1) l named)).0 refl,
  λ _. refl,
)
all_counted labels numbers links offers false now xs are leaving (k, x, lt, at, not) = (
  λ wrong. absurd (cc),
  λ counted.
      let (i, i_lt, i_at) = subst (λ os. Contains os (now x)) are (map_contains now xs x (k, lt, at)) in
      let passed : is_offer links labels (now x) ≡ true = subst (λ (o : Offer). is_offer links labels o ≡ true) i_at (all_at (is_offer links labels) offers i (now x) i_lt leaving) in
      let offer = offered links labels (now x) passed in
      elim ((slice_get_cases links (now x).1).1) [
        | inl (l, within, some, here) ↦
            (not l some).1 (counted l ((flat_map_contains (λ (o : Offer). option_to_list (slice_get links o.1)) offers l).1
            (any_from (λ (o : Offer). Contains (option_to_list (slice_get links o.1)) l) offers (now x) (i, i_lt, i_at)
            (subst (λ (o : Option Link). Contains (option_to_list o) l) (sym some) (contains_head l [])))))
        | inr (past, none) ↦ absurd (omega (arith, past, offer.within))
      ],
)

-- and those of answers are if a check of each answer finds that the links it names are
pub all_answers_counted : (cut : List (List Link)) (labels numbers : List ℕ) (answers : List AnswerValue) (b : Bool) {X : Type 0} (now : X → AnswerValue) (xs : List X) → map now xs ≡ answers
    → MatchBool b (All (λ x. IsTrue true ↔ AreCountedIn labels numbers (named_links (links_at cut (now x).shard) (now x).offers)) xs)
    (Any (λ x. IsTrue false ↔ AreCountedIn labels numbers (named_links (links_at cut (now x).shard) (now x).offers)) xs)
    → IsTrue b ↔ AreCountedIn labels numbers (all_named cut answers)
all_answers_counted cut labels numbers answers true now xs are all = (
  λ _ l l_in.
      let named : AnswerValue → List Link = λ a. named_links (links_at cut a.shard) a.offers in
      let (k, a, lt, at, named_in) = (flat_map_contains named answers l).0 l_in in
      let (x, x_in, is) = map_from now xs k a (rw are lt) (rw are at) in
      (All-contains (λ y. IsTrue true ↔ AreCountedIn labels numbers (named (now y))) xs x all x_in).0 refl l (subst (λ b. Contains (named b) l) (sym is) named_in),
  λ _. refl,
)
all_answers_counted cut labels numbers answers false now xs are (k, x, lt, at, not) = (
  λ wrong. absurd (cc),
  λ counted.
      let named : AnswerValue → List Link = λ a. named_links (links_at cut a.shard) a.offers in
      let here : Contains answers (now x) = subst (λ heard. Contains heard (now x)) are (map_contains now xs x (k, lt, at)) in
      not.1 (λ l l_in. counted l ((flat_map_contains named answers l).1 (any_from (λ a. Contains (named a) l) answers (now x) here l_in))),
)

pub placed_of : (cut : List (List Link)) (labels : List ℕ) (answers : List AnswerValue) → CanCount cut labels answers → All (IsPlaced cut) answers
placed_of cut labels answers can i a lt =
    let b : AnswerValue = get_or answers i a in
    let right : IsRight b.round cut labels b = can.right i a lt in
    record {
      within = right.within;
      places = λ j o in_range.
          let offer = offer_at (links_at cut b.shard) labels b.offers j in_range right.offers in
          subst (λ (x : Offer). x.1 < length (links_at cut b.shard)) (get_or_default b.offers j (0, 0) o in_range) offer.within;
    }
