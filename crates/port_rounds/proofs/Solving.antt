-- What the rounds of a run mean for its end.
use Rattle.std.proofs.Common.{◌≡◌, ℕ, zero, suc, ◌+◌, ◌-◌, ◌*◌, ◌<◌, ◌≤◌, ◌^◌, List, [], ◌∷◌, ◌++◌, length, get_or, refl, ap, sym, subst, ◌∙◌, arith, length-append, Some, None}
use Rattle.std.specs.Prelude.{All, Any, Contains, Option, map}
use Rattle.std.proofs.Math.Nat.{mul-le-mul_right}
use Rattle.std.proofs.lemmas.List.{get_or_default, get_or_append_left}
use Rattle.std.proofs.lemmas.List.Elements.{All-append, All-contains, All-contains_itself, Contains-append_left, Contains-append_right}
use Rattle.links.specs.declared.links.Link.{Link}
use Rattle.links.specs.Cut.{joined}
use Rattle.links.specs.AnswerValue.{AnswerValue}
use Rattle.round_theory.specs.LinkSet.{SameLinks}
use Rattle.round_theory.specs.Labelling.{IsVertex}
use Rattle.round_theory.specs.Offers.{Hearing, Names, IsNamed}
use Rattle.round_core.specs.BookValue.{BookValue, opened, hearing_of, hearings}
use Rattle.round_core.proofs.Full.{full_book_has_all_links}
use Rattle.round_core.specs.Picks.{pick_of, Picked, IsPickOf, ArePicks}
use Rattle.round_theory.specs.declared.port.Port as Port
use Rattle.port_rounds.specs.Lanes.{LaneState}
use Rattle.port_rounds.specs.Bounds.{HasRoomForRound}
use Rattle.port_rounds.specs.Runs.{IsFullBook, IsGivenBy, IsNamedIn, RunsRounds}
use Rattle.port_rounds.proofs.Lasting.{one_at_most}
use Rattle.port_rounds.proofs.Running.{opened_misses}

-- ---- the links that are taken

any_of_map : {X Y : Type 0} (P : Y → Type 0) (f : X → Y) (xs : List X) → Any P (map f xs) → (x : X) × Contains xs x × P (f x)
any_of_map P f [] some = absurd (omega (arith, some.2))
any_of_map P f (x ∷ xs) (zero, y, lt, at, here) = (x, (0, omega arith, refl), subst P (sym at) here)
any_of_map P f (x ∷ xs) (suc k, y, lt, at, here) =
    let r = any_of_map P f xs (k, y, omega arith, at, here) in
    (r.0, (suc r.1.0, (let b = r.1.1 in omega arith), r.1.2), r.2)

within : (picks : List (Option Link)) (i : ℕ) (l : Link) → get_or picks i None ≡ Some l → i < length picks
within [] i l here = absurd (cc)
within (x ∷ picks) zero l here = omega arith
within (x ∷ picks) (suc i) l here = (let b = within picks i l here in omega arith)

-- a link that is picked is one that an answer named
pub picked_named : (labels : List ℕ) (heard : List Hearing) (picks : List (Option Link)) (l : Link) → ArePicks labels (IsNamed heard) picks → Picked picks l → IsNamed heard l
picked_named labels heard picks l are picked =
    let i : ℕ = picked.0 in
    let there : i < length picks = picked.1 in
    let here : get_or picks i None ≡ Some l = get_or_default picks i None (Some l) there ∙ picked.2 in
    let vertex : IsVertex (length labels) (i + 1) = (omega arith, (let e = are.each_vertex in omega arith)) in
    let place : i + 1 - 1 ≡ i = omega arith in
    let pick : pick_of picks (i + 1) ≡ Some l = ap (λ k. get_or picks k None) place ∙ here in
    (subst (IsPickOf labels (IsNamed heard) (i + 1)) pick (are.least (i + 1) vertex)).member

pub named_more : (books : List BookValue) (book : BookValue) (labels : List ℕ) (picks : List (Option Link)) (taken added : List Link) → ArePicks labels (IsNamed (hearings book)) picks
    → SameLinks (Contains added) (Picked picks) → All (IsNamedIn books) taken → All (IsNamedIn (books ++ book ∷ [])) (taken ++ added)
named_more books book labels picks taken added are same all =
    let more = books ++ book ∷ [] in
    All-append (IsNamedIn more) taken added
    (λ i d b. (let q = all i d b in (q.0, Contains-append_left books (book ∷ []) q.0 q.1, q.2)))
    (λ i d b. (
    let l = get_or added i d in
    let c : Contains added l = All-contains_itself added i d b in
    (book, Contains-append_right books (book ∷ []) book (0, omega arith, refl), picked_named labels (hearings book) picks l are ((same l).0 c))))

pub all_front : {X : Type 0} (P : X → Type 0) (xs ys : List X) → All P (xs ++ ys) → All P xs
all_front P xs ys all i d b = subst P (get_or_append_left xs ys d i b) (all i d (omega (arith, length-append xs ys)))

any_more : {X : Type 0} (P Q : X → Type 0) (xs : List X) → ((x : X) → P x → Q x) → Any P xs → Any Q xs
any_more P Q xs h (k, y, lt, at, here) = (k, y, lt, at, h y here)

-- a link that an answer of a full book names is one of the cut
pub from_cut : (cut : List (List Link)) (books : List BookValue) (l : Link) → All (IsFullBook cut) books → IsNamedIn books l → Contains (joined cut) l
from_cut cut books l whole named =
    let book = named.0 in
    let is : IsFullBook cut book = All-contains (IsFullBook cut) books book whole named.1 in
    let there : Any (λ (h : Hearing). Contains h.shard l) (hearings book) =
    any_more (λ h. Names h l) (λ h. Contains h.shard l) (hearings book) (λ h names. (names.place, names.within, names.here)) named.2 in
    subst (λ (c : List (List Link)). Contains (joined c) l) is.cut_is ((full_book_has_all_links book is.value is.all l).1 there)

module _ {P A : Type 0} (port : Port.Ghosts P A) where
  -- if the coordinator scanned nothing, a lane kept the answer that named it
  pub named_given : (cut : List (List Link)) (xs ys : List (LaneState P)) (books : List BookValue) (answered alone : ℕ) (u : RunsRounds port cut xs ys books answered alone)
      → alone ≡ 0 → (l : Link) → IsNamedIn books l → (answer : AnswerValue) × IsGivenBy (length xs) u.answers_at answer × Names (hearing_of cut answer) l
  named_given cut xs ys books answered alone u none l named =
      let book = named.0 in
      let whole : IsFullBook cut book = All-contains (IsFullBook cut) books book u.whole named.1 in
      let given : All (IsGivenBy (length xs) u.answers_at) book.answers =
      All-contains (λ (b : BookValue). All (IsGivenBy (length xs) u.answers_at) b.answers) books book (u.given none) named.1 in
      let r = any_of_map (λ h. Names h l) (hearing_of book.cut) book.answers named.2 in
      (r.0, All-contains (IsGivenBy (length xs) u.answers_at) book.answers r.0 given r.1, subst (λ (c : List (List Link)). Names (hearing_of c r.0) l) whole.cut_is r.2)

  -- ---- the counts can rise enough for another round

  pub wide_still : (cut : List (List Link)) (round : ℕ) (labels : List ℕ) (xs ys : List (LaneState P)) (books : List BookValue) (answered alone : ℕ)
      → RunsRounds port cut xs ys books answered alone → length cut ≤ 4096 → length books ≤ 32
      → All (λ (lane : LaneState P). (port.state lane.port).cut ≡ cut) xs → All (λ (lane : LaneState P). (port.state lane.port).asks < 2 ^ 63) xs
      → All (λ (lane : LaneState P). HasRoomForRound port.state (opened round cut labels) lane.port) ys
  wide_still cut round labels xs ys books answered alone u small few cuts counts i d b =
      let n = u.ports.same_lanes in
      let v = u.ports.each i d (omega arith) in
      let c = cuts i d (omega arith) in
      let asks = v.asks in
      let most = one_at_most (port.state (get_or xs i d).port).is_open in
      let count = counts i d (omega arith) in
      let kept = u.few i in
      let all = u.counted in
      let product : length books * length cut ≤ 32 * length cut = mul-le-mul_right (length cut) few in
      let misses = opened_misses round cut labels in
      record { cut = v.cut ∙ c; count = omega arith }
