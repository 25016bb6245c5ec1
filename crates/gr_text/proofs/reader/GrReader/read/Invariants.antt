-- the reader has read the text and what was taken of the piece
use Rattle.std.proofs.Common.{◌≡◌, ℕ, List, ◌+◌, ◌≤◌, ◌++◌, length}
use Rattle.gr_text.specs.LinesSoFar.{Swap}
use Rattle.gr_text.specs.Reader.{Stands}
use Rattle.gr_text.proofs.reader.GrReader.read.Given as goal

abbrev pub invariant-loop-line : goal.invariant-loop-line
invariant-loop-line g l =
    let kept = l.self-inside in
    record {
      limit : kept.limit ≡ l.fn.self.limit;
      fed : kept.fed ≡ l.fn.self.fed + length l.piece;
      fault : kept.fault ≡ l.fn.self.fault;
      within : kept.fed ≤ kept.limit;
      few_lines : kept.number + length l.rest ≤ kept.fed + 1;
      stands : (swap : Swap) (text : List ℕ) → Stands swap l.fn.self text → (done : List ℕ) × (l.piece ≡ done ++ l.rest)
          × Stands swap (record { limit = kept.limit; fed = kept.fed; number = kept.number; partial = kept.partial; so_far = kept.so_far; fault = kept.fault })
          (text ++ done);
    }

abbrev pub decreases-loop-line : goal.decreases-loop-line
decreases-loop-line g l = length l.rest
