-- What is true of every run of the board.
use Rattle.std.specs.Prelude.{◌≡◌, ◌≢◌, ◌↔◌, ℕ, List, [], ◌∷◌, Some, AllPairs, Contains}
use mathlib.Core.Option.{some}
use lib.ListN.{get_elem?}
use Rattle.claim_board.specs.declared.event.Event.{Event}
use Rattle.claim_board.specs.declared.event.Event.TheVariants.{Win, Turned, GiveBack}
use Rattle.claim_board.specs.declared.rule.Size.{Size}
use Rattle.claim_board.specs.declared.rule.View.{View}
use Rattle.claim_board.specs.Machine.{seat_of, owner, IsRun, of_seat, held}
use Rattle.claim_board.specs.Rule.{Knows, AgreesWithRun}

-- the owner of a shard is the seat whose list has it
abbrev pub OwnerIsHolder : Type 0
OwnerIsHolder = (run : List Event) → IsRun run → (seat shard : ℕ) → (owner run shard ≡ Some seat) ↔ Contains (held (of_seat seat run)) shard

-- no shard is in the lists of two seats
abbrev pub HeldByOneSeat : Type 0
HeldByOneSeat =
    (run : List Event) → IsRun run → (one other shard : ℕ)
    → Contains (held (of_seat one run)) shard → Contains (held (of_seat other run)) shard → one ≡ other

-- no shard is in a seat's list twice
abbrev pub HeldOnce : Type 0
HeldOnce = (run : List Event) → IsRun run → (seat : ℕ) → AllPairs (λ a b. a ≢ b) (held (of_seat seat run))

-- some view has the event's seat, with this event among the seat's events
abbrev pub IsOfView : List View → Event → Type 0
IsOfView views event =
    (at : ℕ) × (view : View) × (events : List Event)
    × (get_elem? views at ≡ some view) × Knows view (seat_of event) events × Contains events event

-- between any two steps, some run leaves the words as they are, and every event of it is in a view
abbrev pub NoOtherEvents : Type 0
NoOtherEvents =
    (size : Size) (row : List ℕ) (views : List View) (rule : AgreesWithRun size row views) (event : Event)
    → Contains rule.run event → IsOfView views event

-- seat 0 wins shard 0, seat 1 and then seat 0 fail to claim it, seat 0 gives it back, and seat 1 wins it
abbrev pub handed_on : List Event
handed_on = Win 0 0 ∷ Turned 1 0 0 ∷ Turned 0 0 0 ∷ GiveBack 0 0 ∷ Win 1 0 ∷ []

-- this is a run, and after it seat 1 owns the shard
pub record HandedOn : Type 0 where
  pub is_run : IsRun handed_on
  pub owner_is : owner handed_on 0 ≡ Some 1
  pub first : held (of_seat 0 handed_on) ≡ []
  pub second : held (of_seat 1 handed_on) ≡ 0 ∷ []
