-- The board as a machine of one thread: who owns each shard, the three kinds of event, and their runs.
use Rattle.std.specs.Prelude.{◌≡◌, ℕ, ◌==◌, not, if◌then◌else◌, List, [], ◌∷◌, ◌++◌, fold, filter, Option, Some, None}
use Rattle.claim_board.specs.declared.event.Event.{Event}
use Rattle.claim_board.specs.declared.event.Event.TheVariants.{Win, Turned, GiveBack}

-- the seat that made the step
abbrev pub seat_of : Event → ℕ
seat_of (Win seat shard) = seat
seat_of (Turned seat shard by) = seat
seat_of (GiveBack seat shard) = seat

-- who owns a shard after one more event
abbrev pub owner_after : ℕ → Option ℕ → Event → Option ℕ
owner_after shard now (Win seat s) = if s == shard then Some seat else now
owner_after shard now (Turned seat s by) = now
owner_after shard now (GiveBack seat s) = if s == shard then None else now

-- who owns a shard after all these events: at first nobody does
abbrev pub owner : List Event → ℕ → Option ℕ
owner run shard = fold (owner_after shard) None run

-- a free shard can be won, a claim of an owned shard fails, and only the owner can give a shard back
abbrev pub IsAllowed : List Event → Event → Type 0
IsAllowed run (Win seat shard) = owner run shard ≡ None
IsAllowed run (Turned seat shard by) = owner run shard ≡ Some by
IsAllowed run (GiveBack seat shard) = owner run shard ≡ Some seat

-- each event is allowed after the events before it
abbrev pub IsRun : List Event → Type 0
IsRun run = (before : List Event) (event : Event) (later : List Event) → run ≡ before ++ event ∷ later → IsAllowed before event

-- the events of one seat, in their order
abbrev pub of_seat : ℕ → List Event → List Event
of_seat seat run = filter (λ event. seat_of event == seat) run

-- the shards of a seat after one more event of its own, the newest last
abbrev pub held_after : List ℕ → Event → List ℕ
held_after shards (Win seat shard) = shards ++ shard ∷ []
held_after shards (Turned seat shard by) = shards
held_after shards (GiveBack seat shard) = filter (λ s. not (s == shard)) shards

-- the shards that a seat owns after its own events, in the order in which it won them
abbrev pub held : List Event → List ℕ
held events = fold held_after [] events
