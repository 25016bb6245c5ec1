-- Each step of a seat keeps the rule: its event is appended to the run.
use Rattle.std.proofs.Common.{◌≡◌, ◌≢◌, ◌↔◌, ℕ, suc, ◌+◌, ◌-◌, ◌<◌, ◌≤◌, ◌==◌, cond, List, [], ◌∷◌, ◌++◌, length, set, Option, Some, None, Contains, refl, sym, ap, ◌∙◌, subst, ⊎_elim, arith}
use Rattle.std.proofs.Common.{true≢false, add-one, add-zero, length-set, get_or-set_same, get_or-set_other}
use Rattle.std.specs.Prelude.{slice_index}
use mathlib.Core.Option.{some, none, some-injective}
use lib.ListN.{get_elem?}
use prog.Atomic.{either}
use Rattle.std.proofs.lemmas.Bool.{eqb-true, eq-eqb, ne_eqb, cases_eq, cases_lt}
use Rattle.std.proofs.lemmas.Bool.Decides.{not_from_Decides}
use Rattle.atomic_table.specs.Table.{State, Me, Step, step, Act, Valid, Allows, stepped, carried_after}
use Rattle.atomic_table.specs.Table.Act.{keeps}
use Rattle.atomic_table.proofs.Lists.{at_set, set_here, set_else}
use Rattle.claim_board.specs.declared.claim.Claim.{Claim}
use Rattle.claim_board.specs.declared.claim.Claim.TheVariants.{Held}
use Rattle.claim_board.specs.declared.event.Event.{Event}
use Rattle.claim_board.specs.declared.event.Event.TheVariants.{Win, Turned, GiveBack}
use Rattle.claim_board.specs.declared.rule.Size.{Size}
use Rattle.claim_board.specs.declared.rule.View.{View}
use Rattle.claim_board.specs.Machine.{seat_of, owner_after, owner, IsAllowed, IsRun, of_seat, held_after, held}
use Rattle.claim_board.specs.Rule.{word_of, Knows, IsSeatedAt, AgreesWithRun, lone, first_events, with_event, Claimed, GivenBack}
use Rattle.claim_board.specs.Shards.{has_shard}
use Rattle.claim_board.specs.Kept.{among, IsSeat}
use Rattle.claim_board.proofs.Lists.{at_within, among_decides}
use Rattle.claim_board.proofs.Runs.{owner-push, held-push, of_seat-mine, of_seat-other, IsRun-push, owns, Some-owns, owner_has}

abbrev pub shard_of : Event → ℕ
shard_of (Win seat shard) = shard
shard_of (Turned seat shard by) = shard
shard_of (GiveBack seat shard) = shard

-- an event doesn't change the owner of another shard
owner_other : (event : Event) (shard : ℕ) (now : Option ℕ) → shard_of event ≢ shard → owner_after shard now event ≡ now
owner_other a1 a2 a3 a4 = search (arith, ne_eqb)

words_after : (run : List Event) (event : Event) (row : List ℕ) (shard new t : ℕ) → ((s : ℕ) → slice_index row s ≡ word_of (owner run s)) → shard_of event ≡ shard → shard < length row
    → new ≡ word_of (owner_after shard (owner run shard) event) → slice_index (set row shard new) t ≡ word_of (owner (run ++ event ∷ []) t)
words_after run event row shard new t words of within is = search (arith, get_or-set_same, owner-push, get_or-set_other, owner_other, cases_eq)

-- a seat without events owns nothing, so an owner is a seat of the board
pub not_owner : (run : List Event) (shard seat : ℕ) → IsRun run → of_seat seat run ≡ [] → owner run shard ≡ Some seat → ⊥
not_owner run shard seat is_run none_of is = true≢false (sym (eq-eqb seat seat refl) ∙ ap (owns seat) (sym is) ∙ owner_has run is_run seat shard ∙ ap (λ es. among shard (held es)) none_of)

pub owner_below : (size : Size) (row : List ℕ) (views : List View) (rule : AgreesWithRun size row views) (shard other : ℕ) → owner rule.run shard ≡ Some other → other < size.seats
owner_below size row views rule shard other is =
    ⊎_elim (λ (h : other < size.seats). h) (λ (h : size.seats ≤ other). absurd (not_owner rule.run shard other rule.is_run (rule.others other h) is)) (cases_lt other size.seats)

-- a view of one number has no other number
lone_knows : (size : Size) (seat number : ℕ) (events list : List Event) → Knows (lone size seat events) number list → (number ≡ seat) × (events ≡ list)
lone_knows a1 a2 a3 a4 a5 a6 = search (arith, add-zero)

module _ (key size : Size) (row : List ℕ) (views : List View) (rule : AgreesWithRun key row views) (id seat : ℕ) (events : List Event) (at : get_elem? views id ≡ some (lone size seat events)) where
  -- what the rule says of the seat that makes the step
  pub mine : (rule.place seat ≡ id) × (of_seat seat rule.run ≡ events) × (size ≡ key)
  mine = rule.known id (lone size seat events) seat events at (0, sym (add-zero seat), refl)

  seated_after : (event : Event) (place number : ℕ) → IsSeatedAt views place number → IsSeatedAt (set views id (lone size seat (events ++ event ∷ []))) place number
  seated_after event place number old =
      let new = lone size seat (events ++ event ∷ []) in
      ⊎_elim
      (λ (e : place ≡ id).
      let view_is : lone size seat events ≡ old.0 = some-injective (lone size seat events) old.0 (sym at ∙ ap (get_elem? views) (sym e) ∙ old.2) in
      let k = lone_knows size seat number events old.1 (subst (λ (v : View). Knows v number old.1) (sym view_is) old.3) in
      (new, events ++ event ∷ [], ap (get_elem? (set views id new)) e ∙ set_here views id new (at_within views id (lone size seat events) at), (0, k.0 ∙ sym (add-zero seat), refl)))
      (λ (apart : place ≢ id). (old.0, old.1, set_else views id place new apart ∙ old.2, old.3))
      (cases_eq place id)

  -- The event is appended to the run, where it is allowed. It changes only the word of its shard, to the word of the
  -- new owner. The event is also appended in the view of its seat. A view at another index has other numbers, because
  -- each number has only one index, so the events of its numbers stay the same.
  pub with_next : (event : Event) (shard new : ℕ) → seat_of event ≡ seat → shard_of event ≡ shard → seat < size.seats → shard < size.shards → IsAllowed rule.run event
      → new ≡ word_of (owner_after shard (owner rule.run shard) event) → AgreesWithRun key (set row shard new) (set views id (lone size seat (events ++ event ∷ [])))
  with_next event shard new by of seat_within shard_within allowed is = record {
    run = rule.run ++ event ∷ [];
    is_run = IsRun-push rule.run event rule.is_run allowed;
    shards = length-set row shard new ∙ rule.shards;
    words = λ t. words_after rule.run event row shard new t rule.words of (subst (λ n. shard < n) (ap (λ (s : Size). s.shards) mine.2 ∙ sym rule.shards) shard_within) is;
    place = rule.place;
    known = λ place view number list there knows. ⊎_elim
        (λ (t : (place ≡ id) × (lone size seat (events ++ event ∷ []) ≡ view)).
        let k = lone_knows size seat number (events ++ event ∷ []) list (subst (λ (v : View). Knows v number list) (sym t.1) knows) in (
          ap rule.place k.0 ∙ mine.0 ∙ sym t.0,
          ap (λ n. of_seat n (rule.run ++ event ∷ [])) k.0 ∙ of_seat-mine seat rule.run event by ∙ ap (λ es. es ++ event ∷ []) mine.1 ∙ k.1,
          ap (λ (v : View). v.size) (sym t.1) ∙ mine.2,
        ))
        (λ (t : (place ≢ id) × (get_elem? views place ≡ some view)).
        let old = rule.known place view number list t.1 knows in
        (old.0, of_seat-other number rule.run event (λ e. t.0 (sym old.0 ∙ ap rule.place (sym e ∙ by) ∙ mine.0)) ∙ old.1, old.2))
        (at_set views id place (lone size seat (events ++ event ∷ [])) view there);
    seated = λ number within. seated_after event (rule.place number) number (rule.seated number within);
    others = λ number past. of_seat-other number rule.run event
        (λ e. let s : seat ≡ number = sym by ∙ e in let k : size.seats ≡ key.seats = ap (λ (s : Size). s.seats) mine.2 in absurd (omega arith)) ∙ rule.others number past;
  }

  -- the seat is the owner exactly if its list has the shard
  pub list_owner : (shard : ℕ) → owns seat (owner rule.run shard) ≡ among shard (held events)
  list_owner shard = owner_has rule.run rule.is_run seat shard ∙ ap (λ es. among shard (held es)) mine.1

  -- an owner is a seat of the board
  pub owner_within : (shard other : ℕ) → owner rule.run shard ≡ Some other → other < size.seats
  owner_within shard other is = subst (λ (s : Size). other < s.seats) (sym mine.2) (owner_below key row views rule shard other is)

-- ---- what the table requires of each step

abbrev pub Rules : Size → State (Unit {0}) View → Type 0
Rules key s = AgreesWithRun key s.words s.views

-- the step succeeds if the word n was found
abbrev Goes : Size → State (Unit {0}) View → ℕ → Me (Unit {0}) View → ℕ → (ℕ → ℕ) → (ℕ → Me (Unit {0}) View → Type 0) → ℕ → Type 0
Goes key s id me shard new then n = (w : View) × (a : Act (Unit {0})) × Valid s.homes me.1 a × Rules key (stepped s shard (new n) id me.1 w a) × then n (w, carried_after me.1 a)

claim_goes : (key size : Size) (slots id seat shard : ℕ) (events : List Event) → seat < size.seats → shard < size.shards → (s : State (Unit {0}) View) (rule : Rules key s)
    → get_elem? s.views id ≡ some (lone size seat events) → (now : Option ℕ) → owner rule.run shard ≡ now
    → Goes key s id (lone size seat events, []) shard (λ n. either (n == 0) (seat + 1) n) (Claimed (step slots shard 0 (seat + 1) none) (lone size seat events, [])) (word_of now)
claim_goes key size slots id seat shard events seat_within shard_within s rule at None is = (
  lone size seat (events ++ Win seat shard ∷ []),
  keeps,
  tt,
  with_next key size s.words s.views rule id seat events at (Win seat shard) shard (seat + 1) refl refl seat_within shard_within is
      (add-one seat ∙ sym (ap (λ b. word_of (cond b (Some seat) (owner rule.run shard))) (eq-eqb shard shard refl))),
  (refl, not_from_Decides (among shard (held events)) (among_decides shard (held events)) (sym (list_owner key size s.words s.views rule id seat events at shard) ∙ ap (owns seat) is)),
)
claim_goes key size slots id seat shard events seat_within shard_within s rule at (Some other) is =
    let agrees : (other == seat) ≡ among shard (held events) = sym (ap (owns seat) is) ∙ list_owner key size s.words s.views rule id seat events at shard in
    let held_decides = among_decides shard (held events) in (
      lone size seat (events ++ Turned seat shard other ∷ []),
      keeps,
      tt,
      with_next key size s.words s.views rule id seat events at (Turned seat shard other) shard (either (suc other == 0) (seat + 1) (suc other)) refl refl seat_within shard_within is
          (ap (λ b. either b (seat + 1) (suc other)) (ne_eqb (suc other) 0 (λ e. absurd (omega arith))) ∙ sym (ap word_of is)),
      (
        refl,
        owner_within key size s.words s.views rule id seat events at shard other is,
        ((λ e. held_decides.0 (sym agrees ∙ eq-eqb other seat e)), (λ has. eqb-true other seat (agrees ∙ held_decides.1 has))),
      ),
    )

pub claim_allowed : (key size : Size) (slots id seat shard : ℕ) (events : List Event) → seat < size.seats → shard < size.shards
    → Allows (Rules key) slots id (lone size seat events, []) shard (λ n. either (n == 0) (seat + 1) n) (Claimed (step slots shard 0 (seat + 1) none) (lone size seat events, []))
claim_allowed key size slots id seat shard events seat_within shard_within s rule len at small =
    subst (Goes key s id (lone size seat events, []) shard (λ n. either (n == 0) (seat + 1) n) (Claimed (step slots shard 0 (seat + 1) none) (lone size seat events, []))) (sym (rule.words shard))
    (claim_goes key size slots id seat shard events seat_within shard_within s rule at (owner rule.run shard) refl)

pub give_back_allowed : (key size : Size) (slots id seat shard : ℕ) (events : List Event) → seat < size.seats → shard < size.shards → Contains (held events) shard
    → Allows (Rules key) slots id (lone size seat events, []) shard (λ n. either (n == (seat + 1)) 0 n) (GivenBack (step slots shard (seat + 1) 0 none) (lone size seat events, []))
give_back_allowed key size slots id seat shard events seat_within shard_within has s rule len at small =
    let is : owner rule.run shard ≡ Some seat = Some-owns seat (owner rule.run shard) (list_owner key size s.words s.views rule id seat events at shard ∙ (among_decides shard (held events)).1 has) in
    let found : slice_index s.words shard ≡ seat + 1 = rule.words shard ∙ ap word_of is ∙ sym (add-one seat) in (
      lone size seat (events ++ GiveBack seat shard ∷ []),
      keeps,
      tt,
      with_next key size s.words s.views rule id seat events at (GiveBack seat shard) shard
          (either (slice_index s.words shard == (seat + 1)) 0 (slice_index s.words shard)) refl refl seat_within shard_within is
          (ap (λ b. either b 0 (slice_index s.words shard)) (eq-eqb (slice_index s.words shard) (seat + 1) found)
          ∙ sym (ap (λ b. word_of (cond b None (owner rule.run shard))) (eq-eqb shard shard refl))),
      refl,
    )

-- the same for a view that is known to have only one number
pub claim_allowed_as : (key : Size) (slots id seat shard : ℕ) (me : Me (Unit {0}) View) → me ≡ (lone me.0.size seat (first_events me.0.lists), []) → seat < me.0.size.seats → shard < me.0.size.shards
    → Allows (Rules key) slots id me shard (λ n. either (n == 0) (seat + 1) n) (Claimed (step slots shard 0 (seat + 1) none) me)
claim_allowed_as key slots id seat shard me alone seat_within shard_within =
    subst (λ m. Allows (Rules key) slots id m shard (λ n. either (n == 0) (seat + 1) n) (Claimed (step slots shard 0 (seat + 1) none) m)) (sym alone)
    (claim_allowed key me.0.size slots id seat shard (first_events me.0.lists) seat_within shard_within)

pub give_back_allowed_as : (key : Size) (slots id seat shard : ℕ) (me : Me (Unit {0}) View) → me ≡ (lone me.0.size seat (first_events me.0.lists), [])
    → seat < me.0.size.seats → shard < me.0.size.shards → Contains (held (first_events me.0.lists)) shard
    → Allows (Rules key) slots id me shard (λ n. either (n == (seat + 1)) 0 n) (GivenBack (step slots shard (seat + 1) 0 none) me)
give_back_allowed_as key slots id seat shard me alone seat_within shard_within has =
    subst (λ m. Allows (Rules key) slots id m shard (λ n. either (n == (seat + 1)) 0 n) (GivenBack (step slots shard (seat + 1) 0 none) m)) (sym alone)
    (give_back_allowed key me.0.size slots id seat shard (first_events me.0.lists) seat_within shard_within has)

-- ---- what a step shows, as the contracts put it

-- a seat after an event of its own, with the corresponding bits
pub seat_after : (before after : Me (Unit {0}) View) (number : ℕ) (bits new : List ℕ) (event : Event) → IsSeat before number bits → after ≡ (with_event before.0 event, before.1)
    → ((shard : ℕ) → has_shard new shard ≡ among shard (held_after (held (first_events before.0.lists)) event)) → IsSeat after number new
seat_after before after number bits new event is after_is agrees = search (arith, held-push)

-- the seat that owned the shard is the caller's own exactly if its list has the shard
pub claimed_own : (s : Step (Unit {0})) (before after : Me (Unit {0}) View) (found : ℕ) → found ≢ 0 → Claimed s before found after
    → ◌≡◌ {A = Claim} (Held (found - 1)) (Held before.0.first) ↔ Contains (held (first_events before.0.lists)) s.word
claimed_own a1 a2 a3 a4 a5 a6 = search arith
