use Rattle.std.proofs.Common.{◌≡◌, ℕ, ◌+◌, ◌*◌, ◌/◌, ◌<◌, length, get_or}
use Rattle.links.proofs.cuts.even_places.Given as goal

abbrev pub invariant-loop-i : goal.invariant-loop-i
invariant-loop-i g l = (length l.places.items + 1 ≡ l.i) × ((k : ℕ) → k + 1 < l.i → get_or l.places.items k 0 ≡ (k + 1) * l.links / l.count)
