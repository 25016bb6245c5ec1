-- Runs of the machine: adding one event, and that the owner of a shard is the seat whose list has it.
use Rattle.std.proofs.Common.{◌≡◌, ◌≢◌, ◌⊎◌, ℕ, ◌==◌, ◌||◌, not, cond, Bool, true, false, List, [], ◌∷◌, ◌++◌, Option, Some, None, refl, sym, ap, ◌∙◌, subst, inl, inr, ⊎_elim, append_assoc}
use Rattle.std.proofs.Common.{append-nil, arith}
use Rattle.std.proofs.lemmas.Bool.{eqb-true, eqb-false, eq-eqb, ne_eqb}
use Rattle.std.proofs.lemmas.Grind.{fold-append}
use Rattle.std.proofs.lemmas.List.Elements.{filter-append}
use Rattle.claim_board.specs.declared.event.Event.{Event}
use Rattle.claim_board.specs.declared.event.Event.TheVariants.{Win, Turned, GiveBack}
use Rattle.claim_board.specs.Machine.{seat_of, owner_after, owner, IsAllowed, IsRun, of_seat, held_after, held}
use Rattle.claim_board.specs.Kept.{among}
use Rattle.claim_board.proofs.Lists.{among-push, among-filter}

-- ---- adding one event

pub owner-push : (run : List Event) (event : Event) (shard : ℕ) → owner (run ++ event ∷ []) shard ≡ owner_after shard (owner run shard) event
owner-push run event shard = fold-append (owner_after shard) None run (event ∷ [])

pub held-push : (events : List Event) (event : Event) → held (events ++ event ∷ []) ≡ held_after (held events) event
held-push events event = fold-append held_after [] events (event ∷ [])

pub of_seat-push : (seat : ℕ) (run : List Event) (event : Event) → of_seat seat (run ++ event ∷ []) ≡ of_seat seat run ++ cond (seat_of event == seat) (event ∷ []) []
of_seat-push seat run event = filter-append (λ e. seat_of e == seat) run (event ∷ [])

pub of_seat-mine : (seat : ℕ) (run : List Event) (event : Event) → seat_of event ≡ seat → of_seat seat (run ++ event ∷ []) ≡ of_seat seat run ++ event ∷ []
of_seat-mine seat run event is = of_seat-push seat run event ∙ ap (λ b. of_seat seat run ++ cond b (event ∷ []) []) (eq-eqb (seat_of event) seat is)

pub of_seat-other : (seat : ℕ) (run : List Event) (event : Event) → seat_of event ≢ seat → of_seat seat (run ++ event ∷ []) ≡ of_seat seat run
of_seat-other seat run event is = of_seat-push seat run event ∙ ap (λ b. of_seat seat run ++ cond b (event ∷ []) []) (ne_eqb (seat_of event) seat is) ∙ append-nil (of_seat seat run)

-- an event of a longer list is its last event, or one of the earlier events
last_or_before : (run before later : List Event) (last event : Event) → run ++ last ∷ [] ≡ before ++ event ∷ later
    → ((before ≡ run) × (event ≡ last)) ⊎ ((rest : List Event) × (run ≡ before ++ event ∷ rest))
last_or_before [] [] later last event e = inl (refl, cc)
last_or_before [] (b ∷ []) later last event e = absurd (cc)
last_or_before [] (b ∷ c ∷ bs) later last event e = absurd (cc)
last_or_before (r ∷ rs) [] later last event e = let same : r ≡ event = cc in inr (rs, ap (λ x. x ∷ rs) same)
last_or_before (r ∷ rs) (b ∷ bs) later last event e =
    let same : r ≡ b = cc in
    let rest : rs ++ last ∷ [] ≡ bs ++ event ∷ later = cc in
    ⊎_elim
    (λ (t : (bs ≡ rs) × (event ≡ last)). let t0 = t.0 in let t1 = t.1 in inl (cc, t1))
    (λ (t : (more : List Event) × (rs ≡ bs ++ event ∷ more)). let t1 = t.1 in inr (t.0, cc))
    (last_or_before rs bs later last event rest)

pub IsRun-push : (run : List Event) (last : Event) → IsRun run → IsAllowed run last → IsRun (run ++ last ∷ [])
IsRun-push run last is_run allowed before event later e = search (arith, last_or_before)

pub IsRun-none : IsRun []
IsRun-none [] event later e = absurd (cc)
IsRun-none (b ∷ bs) event later e = absurd (cc)

-- ---- the owner of a shard is the seat whose list has it
-- The proof is by induction on the events. A win makes its seat the owner of its shard, and appends the shard to that
-- seat's list. The shard had no owner before, so by the induction hypothesis it was in no list. A failed claim changes
-- neither owners nor lists. Giving a shard back frees it and removes it from the owner's list. No other list had it.

abbrev pub owns : ℕ → Option ℕ → Bool
owns seat None = false
owns seat (Some other) = other == seat

pub Some-owns : (seat : ℕ) (now : Option ℕ) → owns seat now ≡ true → now ≡ Some seat
Some-owns a1 a2 a3 = search (arith, eqb-true)

-- Each event keeps owners and lists in agreement. The event is given as two tests: b says that it is the seat's, and c
-- that it concerns the shard.
abbrev Agree : List Event → ℕ → ℕ → Type 0
Agree run seat shard = owns seat (owner run shard) ≡ among shard (held (of_seat seat run))

or_true : (b : Bool) → (b || true) ≡ true
or_true a1 = search arith

or_false : (b : Bool) → (b || false) ≡ b
or_false a1 = search arith

win_agrees : (run : List Event) (seat shard by of : ℕ) (b c : Bool) → (by == seat) ≡ b → (of == shard) ≡ c → owner run of ≡ None → Agree run seat shard
    → owns seat (cond c (Some by) (owner run shard)) ≡ among shard (held (of_seat seat run ++ cond b (Win by of ∷ []) []))
win_agrees a1 a2 a3 a4 a5 a6 a7 a8 a9 a10 a11 = search (arith, held-push, among-push, or_true, or_false, append-nil, eqb-true)

turned_agrees : (run : List Event) (seat shard by of to : ℕ) (b : Bool) → Agree run seat shard
    → owns seat (owner run shard) ≡ among shard (held (of_seat seat run ++ cond b (Turned by of to ∷ []) []))
turned_agrees a1 a2 a3 a4 a5 a6 a7 a8 = search (arith, held-push, append-nil)

back_agrees : (run : List Event) (seat shard by of : ℕ) (b c : Bool) → (by == seat) ≡ b → (of == shard) ≡ c → owner run of ≡ Some by → Agree run seat shard
    → owns seat (cond c None (owner run shard)) ≡ among shard (held (of_seat seat run ++ cond b (GiveBack by of ∷ []) []))
back_agrees a1 a2 a3 a4 a5 a6 a7 a8 a9 a10 a11 = search (arith, held-push, among-filter, not, eq-eqb, eqb-true, ne_eqb, eqb-false, append-nil)

next_agrees : (run : List Event) (event : Event) (seat shard : ℕ) → IsAllowed run event → Agree run seat shard
    → owns seat (owner_after shard (owner run shard) event) ≡ among shard (held (of_seat seat run ++ cond (seat_of event == seat) (event ∷ []) []))
next_agrees a1 a2 a3 a4 a5 a6 = search (arith, win_agrees, turned_agrees, back_agrees)

agree-push : (run : List Event) (event : Event) → IsAllowed run event → ((seat shard : ℕ) → Agree run seat shard) → (seat shard : ℕ) → Agree (run ++ event ∷ []) seat shard
agree-push run event allowed old seat shard = search (arith, owner-push, next_agrees, of_seat-push)

agree-append : (run later : List Event) → IsRun (run ++ later) → ((seat shard : ℕ) → Agree run seat shard) → (seat shard : ℕ) → Agree (run ++ later) seat shard
agree-append run [] is old seat shard = subst (λ (r : List Event). Agree r seat shard) (sym (append-nil run)) (old seat shard)
agree-append run (event ∷ later) is old seat shard =
    let whole : (run ++ event ∷ []) ++ later ≡ run ++ event ∷ later = append_assoc run (event ∷ []) later in
    subst (λ (r : List Event). Agree r seat shard) whole
    (agree-append (run ++ event ∷ []) later (subst IsRun (sym whole) is) (agree-push run event (is run event later refl) old) seat shard)

pub owner_has : (run : List Event) → IsRun run → (seat shard : ℕ) → owns seat (owner run shard) ≡ among shard (held (of_seat seat run))
owner_has run is seat shard = agree-append [] run is (λ p s. refl) seat shard
