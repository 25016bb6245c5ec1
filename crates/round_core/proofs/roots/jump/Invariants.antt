use Rattle.std.proofs.Common.{◌≡◌, ℕ, ◌<◌, true, false, get_or}
use Rattle.round_core.specs.Roots.{IsSettled}
use Rattle.round_core.proofs.Jumping.{HaveJumped, LowersRanks}
use Rattle.round_core.proofs.roots.jump.Given as goal

abbrev pub invariant-loop-root : goal.invariant-loop-root
invariant-loop-root l = record {
  jumped : HaveJumped l.roots l.initial.parents l.parents;
  lower : l.moved ≡ true → LowersRanks l.roots l.initial.parents l.parents;
  settled : l.moved ≡ false → (k : ℕ) → k < l.root-index → IsSettled l.parents (get_or l.roots k 0);
}
