use Rattle.std.proofs.Common.{◌≡◌, ℕ, ◌+◌, ◌<◌, List, length}
use Rattle.links.specs.declared.links.Link.{Link}
use Rattle.link_merges.specs.Halves.{now_of, IsInNone, AreJoined, LeadsOn}
use Rattle.link_merges.proofs.halves.lead_on.Given as goal

abbrev pub invariant-loop-i : goal.invariant-loop-i
invariant-loop-i l = record {
  in_range : (c : ℕ) → c < length l.now → now_of l.now c < length l.now;
  others : (c : ℕ) → IsInNone l.rows c → now_of l.now c ≡ c;
  leads : (n k : ℕ) (links : List Link) → l.name ≡ n + k → AreJoined n links k l.rows → LeadsOn n links (k + l.i) (k + length l.rows) l.now;
}
