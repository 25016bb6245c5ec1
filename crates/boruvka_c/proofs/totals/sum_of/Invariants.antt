use Rattle.std.proofs.Common.{◌≡◌, ◌*◌, ◌^◌, ◌≤ℤ◌, pos, take}
use Rattle.std.specs.Prelude.{neg_ℤ}
use Rattle.boruvka_c.specs.Totals.{sum_of_given}
use Rattle.boruvka_c.proofs.totals.sum_of.Given as goal

-- the edges passed so far; each adds less than 2^63
abbrev pub invariant-loop-link : goal.invariant-loop-link
invariant-loop-link l = record {
  sum : l.sum ≡ sum_of_given (take l.link-index l.links);
  above : neg_ℤ (pos (l.link-index * 2 ^ 63)) ≤ℤ l.sum;
  below : l.sum ≤ℤ pos (l.link-index * 2 ^ 63);
}
