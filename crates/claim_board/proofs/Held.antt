-- Laws of runs: each shard has one owner, and is in its owner's list once.
use Rattle.std.proofs.Common.{◌≡◌, ◌≢◌, ℕ, ◌<◌, ◌≤◌, ◌==◌, not, cond, Bool, true, false, List, [], ◌∷◌, ◌++◌, AllPairs, Contains, refl, sym, ap, ◌∙◌, subst, ⊎_elim, arith, append_assoc, append-nil}
use Rattle.std.proofs.lemmas.Bool.{eq-eqb, cases_lt}
use Rattle.std.proofs.lemmas.List.Elements.{Contains-get_or, Contains-append_cases, Contains-append_right, Contains-push_cases}
use Rattle.std.proofs.lemmas.List.Kept.{AllPairs-filter}
use Rattle.std.proofs.lemmas.List.Quantifiers.{all_pairs_push}
use Rattle.claim_board.specs.declared.event.Event.{Event}
use Rattle.claim_board.specs.declared.event.Event.TheVariants.{Win, Turned, GiveBack}
use Rattle.claim_board.specs.Machine.{seat_of, owner, IsAllowed, IsRun, of_seat, held}
use Rattle.claim_board.specs.Laws.{OwnerIsHolder, HeldByOneSeat, HeldOnce, NoOtherEvents, HandedOn}
use Rattle.claim_board.proofs.Lists.{among_decides}
use Rattle.claim_board.proofs.Runs.{IsRun-none, IsRun-push, held-push, of_seat-push, owns, Some-owns, owner_has}

pub owner_is_holder : OwnerIsHolder
owner_is_holder run is_run seat shard = (
  (λ e. (among_decides shard (held (of_seat seat run))).0 (sym (owner_has run is_run seat shard) ∙ ap (owns seat) e ∙ eq-eqb seat seat refl)),
  (λ has. Some-owns seat (owner run shard) (owner_has run is_run seat shard ∙ (among_decides shard (held (of_seat seat run))).1 has)),
)

pub held_by_one_seat : HeldByOneSeat
held_by_one_seat run is_run one other shard first second =
    let same = sym ((owner_is_holder run is_run one shard).1 first) ∙ (owner_is_holder run is_run other shard).1 second in
    cc

-- ---- each shard once

-- a shard that is won was in no list, so now it occurs once
next_once : (run : List Event) (event : Event) (seat : ℕ) (b : Bool) → (seat_of event == seat) ≡ b → IsRun run → IsAllowed run event
    → AllPairs (λ a b. a ≢ b) (held (of_seat seat run)) → AllPairs (λ a b. a ≢ b) (held (of_seat seat run ++ cond b (event ∷ []) []))
next_once run event seat false is is_run allowed old = subst (λ (es : List Event). AllPairs (λ a b. a ≢ b) (held es)) (sym (append-nil (of_seat seat run))) old
next_once run (Win by of) seat true is is_run allowed old =
    subst (AllPairs (λ a b. a ≢ b)) (sym (held-push (of_seat seat run) (Win by of)))
    (all_pairs_push (λ a b. a ≢ b) (held (of_seat seat run)) of old
    (λ k d within same.
    let has : Contains (held (of_seat seat run)) of = subst (Contains (held (of_seat seat run))) same (Contains-get_or (held (of_seat seat run)) k d within) in
    let owned = sym allowed ∙ (owner_is_holder run is_run seat of).1 has in
    cc))
next_once run (Turned by of to) seat true is is_run allowed old = subst (AllPairs (λ a b. a ≢ b)) (sym (held-push (of_seat seat run) (Turned by of to))) old
next_once run (GiveBack by of) seat true is is_run allowed old = subst (AllPairs (λ a b. a ≢ b)) (sym (held-push (of_seat seat run) (GiveBack by of)))
    (AllPairs-filter (λ a b. a ≢ b) (λ s. not (s == of)) (held (of_seat seat run)) old)

IsRun-front : (run later : List Event) → IsRun (run ++ later) → IsRun run
IsRun-front run later is before event rest e = is before event (rest ++ later) (ap (λ es. es ++ later) e ∙ append_assoc before (event ∷ rest) later)

once-append : (run later : List Event) → IsRun (run ++ later) → ((seat : ℕ) → AllPairs (λ a b. a ≢ b) (held (of_seat seat run)))
    → (seat : ℕ) → AllPairs (λ a b. a ≢ b) (held (of_seat seat (run ++ later)))
once-append run [] is old seat = subst (λ (r : List Event). AllPairs (λ a b. a ≢ b) (held (of_seat seat r))) (sym (append-nil run)) (old seat)
once-append run (event ∷ later) is old seat =
    let whole : (run ++ event ∷ []) ++ later ≡ run ++ event ∷ later = append_assoc run (event ∷ []) later in
    let next : (seat : ℕ) → AllPairs (λ a b. a ≢ b) (held (of_seat seat (run ++ event ∷ []))) =
    λ number. subst (λ (es : List Event). AllPairs (λ a b. a ≢ b) (held es)) (sym (of_seat-push number run event))
    (next_once run event number (seat_of event == number) refl (IsRun-front run (event ∷ later) is) (is run event later refl) (old number)) in
    subst (λ (r : List Event). AllPairs (λ a b. a ≢ b) (held (of_seat seat r))) whole (once-append (run ++ event ∷ []) later (subst IsRun (sym whole) is) next seat)

pub held_once : HeldOnce
held_once run is_run seat = once-append [] run is_run (λ number i j d before within. absurd (omega arith)) seat

-- ---- no other events

still_there : (b : Bool) (first event : Event) (events : List Event) → Contains events event → Contains (cond b (first ∷ events) events) event
still_there true first event events has = Contains-append_right (first ∷ []) events event has
still_there false first event events has = has

first_there : (first event : Event) (events : List Event) → first ≡ event → Contains (cond (seat_of first == seat_of event) (first ∷ events) events) event
first_there first event events is = rw (is, eq-eqb (seat_of event) (seat_of event) refl) (0, omega arith, refl)

-- an event of a run is one of its seat's events
of_own : (run : List Event) (event : Event) → Contains run event → Contains (of_seat (seat_of event) run) event
of_own [] event has = let k = has.1 in absurd (omega arith)
of_own (first ∷ run) event has =
    ⊎_elim
    (λ (here : Contains (first ∷ []) event). ⊎_elim
    (λ (none : Contains [] event). let k = none.1 in absurd (omega arith))
    (λ (is : first ≡ event). first_there first event (of_seat (seat_of event) run) is)
    (Contains-push_cases [] first event here))
    (λ (later : Contains run event). still_there (seat_of first == seat_of event) first event (of_seat (seat_of event) run) (of_own run event later))
    (Contains-append_cases (first ∷ []) run event has)

pub no_other_events : NoOtherEvents
no_other_events size row views rule event has =
    let own : Contains (of_seat (seat_of event) rule.run) event = of_own rule.run event has in
    ⊎_elim
    (λ (within : seat_of event < size.seats).
    let old = rule.seated (seat_of event) within in
    (rule.place (seat_of event), old.0, old.1, old.2, old.3, subst (λ (es : List Event). Contains es event) (rule.known (rule.place (seat_of event)) old.0 (seat_of event) old.1 old.2 old.3).1 own))
    (λ (past : size.seats ≤ seat_of event).
    let none : Contains [] event = subst (λ (es : List Event). Contains es event) (rule.others (seat_of event) past) own in
    let k = none.1 in
    absurd (omega arith))
    (cases_lt (seat_of event) size.seats)

-- ---- a worked run

pub handed_on_is : HandedOn
handed_on_is = record {
  is_run =
      IsRun-push (Win 0 0 ∷ Turned 1 0 0 ∷ Turned 0 0 0 ∷ GiveBack 0 0 ∷ []) (Win 1 0)
      (IsRun-push (Win 0 0 ∷ Turned 1 0 0 ∷ Turned 0 0 0 ∷ []) (GiveBack 0 0)
      (IsRun-push (Win 0 0 ∷ Turned 1 0 0 ∷ []) (Turned 0 0 0) (IsRun-push (Win 0 0 ∷ []) (Turned 1 0 0) (IsRun-push [] (Win 0 0) IsRun-none refl) refl) refl) refl) refl;
  owner_is = refl;
  first = refl;
  second = refl;
}
