-- A round's book: how it begins, and what the answers that it stores name.
use Rattle.std.proofs.Common.{◌≡◌, ◌≢◌, ℕ, zero, suc, ◌+◌, ◌<◌, ◌≤◌, ◌↔◌, Bool, true, false, not, cond, ◌&&◌, List, [], ◌∷◌}
use Rattle.std.proofs.Common.{◌++◌, length, map, replicate, get_or, take, Contains, Some, None, refl, sym, ap, ◌∙◌, subst, inl, inr, eq-eqb, ne_eqb, arith}
use Rattle.std.specs.Prelude.{Option, All, count_by, slice_get}
use Rattle.std.specs.List.{list_all}
use Rattle.std.specs.Option.{option_to_list}
use Rattle.std.proofs.lemmas.Bool.{cases_eq}
use Rattle.std.proofs.lemmas.List.{length-replicate, get_or-replicate, flat_map_more, take_more, get_or_default, length-map, get_or-map}
use Rattle.std.proofs.lemmas.List.Sums.{sum_by-cons}
use Rattle.std.proofs.lemmas.Option.{slice_get_cases, slice_get_read}
use Rattle.limits.specs.declared.TheConstants.{MAX_SHARDS}
use Rattle.links.specs.declared.links.Link.{Link}
use Rattle.links.specs.Link.{EndsUpTo}
use Rattle.links.specs.Labels.{label_of, AreLabels}
use Rattle.links.specs.Offers.{Offer}
use Rattle.links.specs.Cut.{links_at}
use Rattle.links.proofs.Members.{contains_head, contains_tail, contains_none}
use Rattle.links.specs.AnswerValue.{AnswerValue}
use Rattle.round_theory.specs.LinkSet.{SameLinks}
use Rattle.round_theory.specs.Offers.{Leaves, Hearing, Names, IsNamed}
use Rattle.round_theory.proofs.Cutting.{any_from, flat_map_contains}
use Rattle.round_theory.proofs.Leaving.{leaves_apart}
use Rattle.round_core.specs.Picks.{ArePicks, AreNoPicks}
use Rattle.round_core.specs.PickNumbers.{no_pick, pick_in}
use Rattle.round_core.specs.OwnPicks.{CanCountInto, AreLeastNumbers}
use Rattle.round_core.proofs.Counts.{picks_are, picks_alike}
use Rattle.round_core.specs.BookValue.{opened, is_leaving, is_offer, BookValue, hearing_of, hearings, named_links, all_named, CanCount, IsBookValue, IsBook}

all_missing : (k : ℕ) → count_by not (replicate k false) ≡ k
all_missing zero = refl
all_missing (suc k) = let n = sum_by-cons (λ (x : Bool). cond (not x) 1 0) false (replicate k false) in let m = all_missing k in omega (arith, n, m)

pub book_opened : (round room : ℕ) (cut : List (List Link)) (labels looked_up : List ℕ) (taken : List Bool) (answers : List AnswerValue) (best : List (Option Link))
    → AreLabels labels → All (EndsUpTo (length labels)) cut → length cut ≤ MAX_SHARDS → taken ≡ replicate
    (length cut) false → answers ≡ [] → length cut ≤ room → length best ≡ length labels → AreNoPicks best
    → looked_up ≡ labels → IsBook (record { round = round; cut = cut; labels = labels; taken = taken; answers = answers }) looked_up room best
book_opened round room cut labels looked_up taken answers best are ends few taken_is answers_is room_is best_len best_is same = search (arith, length-replicate, all_missing, get_or-replicate)

-- if a test holds for all, it holds for each
pub all_at : {X : Type 0} (p : X → Bool) (xs : List X) (i : ℕ) (d : X) → i < length xs → list_all p xs ≡ true → p (get_or xs i d) ≡ true
all_at p [] i d lt all = absurd (omega (arith, lt))
all_at p (x ∷ xs) zero d lt all = search arith
all_at p (x ∷ xs) (suc i) d lt all = search (arith, all_at p xs i d)

-- the link that an offer names
pub record IsOffered (links : List Link) (labels : List ℕ) (place : ℕ) : Type 0 where
  pub within : place < length links
  pub apart : (d : Link) → label_of labels (get_or links place d).low ≢ label_of labels (get_or links place d).high

-- the test of an offer, as a relation
pub leaves_if : (labels : List ℕ) (c : ℕ) (l : Link) → is_leaving labels c l ≡ true → Leaves labels l c
leaves_if labels c l test = search (arith, cases_eq, eq-eqb, ne_eqb)

pub offered : (links : List Link) (labels : List ℕ) (o : Offer) → is_offer links labels o ≡ true → IsOffered links labels o.1
offered links labels o test = search (arith, slice_get_cases, get_or_default, leaves_apart, leaves_if)

pub one_more_named : (links : List Link) (offers : List Offer) (i : ℕ) (o : Offer) (l : Link) → i < length offers → o ≡ get_or offers i o → o.1 < length links → l ≡ get_or links o.1 l
    → named_links links (take (i + 1) offers) ≡ named_links links (take i offers) ++ l ∷ []
one_more_named links offers i o l lt at within here =
    let next : take (i + 1) offers ≡ take i offers ++ o ∷ [] = take_more offers i o lt ∙ ap (λ x. take i offers ++ x ∷ []) (sym at) in
    let read : slice_get links o.1 ≡ Some l = slice_get_read links (length links) o.1 l refl within here in
    let more = flat_map_more (λ (x : Offer). option_to_list (slice_get links x.1)) [] (take i offers) o in
    ap (named_links links) next ∙ sym more ∙ ap (λ x. named_links links (take i offers) ++ option_to_list x) read

pub one_more_answer : (cut : List (List Link)) (answers : List AnswerValue) (i : ℕ) (a : AnswerValue) → i < length answers → a ≡ get_or answers i a
    → all_named cut (take (i + 1) answers) ≡ all_named cut (take i answers) ++ named_links (links_at cut a.shard) a.offers
one_more_answer cut answers i a lt at =
    let next : take (i + 1) answers ≡ take i answers ++ a ∷ [] = take_more answers i a lt ∙ ap (λ x. take i answers ++ x ∷ []) (sym at) in
    let more = flat_map_more (λ (x : AnswerValue). named_links (links_at cut x.shard) x.offers) [] (take i answers) a in
    ap (all_named cut) next ∙ sym more

pub in_option : (o : Option Link) (l : Link) → Contains (option_to_list o) l → o ≡ Some l
in_option None l l_in = absurd (contains_none l l_in)
in_option (Some m) l (zero, lt, at) = ap Some at
in_option (Some m) l (suc k, lt, at) = absurd (omega (arith, lt))

-- an offer names exactly the link at its index
named_by : (h : Hearing) (l : Link) → Contains (named_links h.shard h.offers) l ↔ Names h l
named_by h l = (to, back)
  where
    to : Contains (named_links h.shard h.offers) l → Names h l
    to l_in =
        let (k, o, lt, at, o_in) = (flat_map_contains (λ (x : Offer). option_to_list (slice_get h.shard x.1)) h.offers l).0 l_in in
        let some : slice_get h.shard o.1 ≡ Some l = in_option (slice_get h.shard o.1) l o_in in
        elim ((slice_get_cases h.shard o.1).1) [
          | inl (x, within, is, here) ↦
              let same : x ≡ l = let both : Some x ≡ Some l = sym is ∙ some in cc in
              record { label = o.0; place = o.1; offered = (k, lt, at); within = within; here = subst (λ (m : Link). get_or h.shard o.1 m ≡ m) same here }
          | inr (past, none) ↦ let no : None ≡ Some l = sym none ∙ some in absurd (cc)
        ]

    back : Names h l → Contains (named_links h.shard h.offers) l
    back names =
        let some : slice_get h.shard names.place ≡ Some l = slice_get_read h.shard (length h.shard) names.place l refl names.within (sym names.here) in
        (flat_map_contains (λ (x : Offer). option_to_list (slice_get h.shard x.1)) h.offers l).1
        (any_from (λ (x : Offer). Contains (option_to_list (slice_get h.shard x.1)) l) h.offers (names.label, names.place) names.offered
        (subst (λ (x : Option Link). Contains (option_to_list x) l) (sym some) (contains_head l [])))

-- the elements of a list that is made element by element
pub map_contains : {X Y : Type 0} (f : X → Y) (xs : List X) (x : X) → Contains xs x → Contains (map f xs) (f x)
map_contains f xs x (k, lt, at) = (k, rw (length-map xs f) lt, get_or-map f xs k x (f x) lt ∙ ap f at)

pub map_from : {X Y : Type 0} (f : X → Y) (xs : List X) (k : ℕ) (y : Y) → k < length (map f xs) → get_or (map f xs) k y ≡ y → (x : X) × Contains xs x × (f x ≡ y)
map_from f [] k y lt at = absurd (omega (arith, lt))
map_from f (x ∷ xs) zero y lt at = (x, contains_head x xs, at)
map_from f (x ∷ xs) (suc k) y lt at = let (z, z_in, is) = map_from f xs k y (omega (arith, lt)) at in (z, contains_tail x z xs z_in, is)

pub same_named : (cut : List (List Link)) (answers : List AnswerValue) → SameLinks (Contains (all_named cut answers)) (IsNamed (map (hearing_of cut) answers))
same_named cut answers l = (to, back)
  where
    to : Contains (all_named cut answers) l → IsNamed (map (hearing_of cut) answers) l
    to l_in =
        let (k, a, lt, at, a_in) = (flat_map_contains (λ (x : AnswerValue). named_links (links_at cut x.shard) x.offers) answers l).0 l_in in
        any_from (λ (h : Hearing). Names h l) (map (hearing_of cut) answers) (hearing_of cut a) (map_contains (hearing_of cut) answers a (k, lt, at))
        ((named_by (hearing_of cut a) l).0 a_in)

    back : IsNamed (map (hearing_of cut) answers) l → Contains (all_named cut answers) l
    back (k, h, lt, at, names) =
        let (a, a_in, is) = map_from (hearing_of cut) answers k h lt at in
        (flat_map_contains (λ (x : AnswerValue). named_links (links_at cut x.shard) x.offers) answers l).1
        (any_from (λ (x : AnswerValue). Contains (named_links (links_at cut x.shard) x.offers) l) answers a a_in
        ((named_by (hearing_of cut a) l).1 (subst (λ (h : Hearing). Names h l) (sym is) names)))

-- the offers of an answer name links that leave a component
pub offer_at : (links : List Link) (labels : List ℕ) (offers : List Offer) (i : ℕ) → i < length offers
    → list_all (is_offer links labels) offers ≡ true → IsOffered links labels (get_or offers i (0, 0)).1
offer_at links labels offers i lt all = offered links labels (get_or offers i (0, 0)) (all_at (is_offer links labels) offers i (0, 0) lt all)

-- the answers of a book can be counted under the labels that it looks up, into the numbers of its picks
pub can_close : (p : BookValue) (looked_up : List ℕ) (room : ℕ) (best : List (Option Link)) (answers : List AnswerValue) (items numbers : List ℕ)
    → IsBook p looked_up room best → answers ≡ p.answers → numbers ≡ items
    → length items ≡ length best → All (λ k. k ≡ no_pick) items → CanCountInto p.cut looked_up answers numbers
can_close p looked_up room best answers items numbers is answers_are numbers_are long none = search arith

-- the least numbers of the links that its answers name are those of the picks of what it heard
pub picks_of_numbers : (p : BookValue) (looked_up : List ℕ) (answers : List AnswerValue) (numbers items : List ℕ) (picks : List (Option Link))
    → looked_up ≡ p.labels → answers ≡ p.answers → items ≡ numbers → picks ≡ map pick_in items
    → AreLeastNumbers looked_up (all_named p.cut answers) numbers → ArePicks p.labels (IsNamed (hearings p)) picks
picks_of_numbers p looked_up answers numbers items picks same_labels same_answers same_items picks_is least =
    picks_alike p.labels (Contains (all_named p.cut p.answers)) (IsNamed (hearings p)) picks (same_named p.cut p.answers)
    (picks_are looked_up p.labels (all_named p.cut answers) (all_named p.cut p.answers) numbers items picks same_labels (ap (all_named p.cut) same_answers) same_items picks_is least)
