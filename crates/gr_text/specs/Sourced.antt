-- What is read of a source.
use Rattle.std.specs.Prelude.{◌≡◌, ℕ, ◌+◌, ◌≤◌, ◌⊎◌, ◌==◌, List, length, count_by, Result, Err, IsErrAnd}
use Rattle.byte_streams.specs.Streams.{SourceState, Gave}
use Rattle.gr_text.specs.Lines.{line_feed}
use Rattle.gr_text.specs.Graph.{GraphValue}
use Rattle.gr_text.specs.Fault.{HasLawfulLines}
use Rattle.gr_text.specs.Reader.{IsRead, StopsBy}
use Rattle.gr_text.specs.declared.faults.ReadFault.{ReadFault}
use Rattle.gr_text.specs.declared.faults.ReadFault.TheVariants as fault

-- the source gave these bytes, no more than the limit, and ended; this is the result of reading them as a whole text
pub record IsReadToEnd (limit : ℕ) (outcome : Result GraphValue ReadFault) (before after : SourceState) : Type 0 where
  pub bytes : List ℕ
  pub gave : Gave 0 1 bytes before after
  pub within : length bytes ≤ limit
  pub read : IsRead limit bytes outcome

-- the source gave these bytes, which are not read further for this reason
pub record IsReadUpTo (limit : ℕ) (why : ReadFault) (before after : SourceState) : Type 0 where
  pub bytes : List ℕ
  pub gave : Gave 0 0 bytes before after
  pub stops : StopsBy why limit bytes

-- The source gave these bytes, and then a read failed. The lines that had ended were valid, and `line` is the line of
-- the next byte.
pub record BreaksOff (limit line : ℕ) (before after : SourceState) : Type 0 where
  pub bytes : List ℕ
  pub gave : Gave 1 0 bytes before after
  pub within : length bytes ≤ limit
  pub lawful : HasLawfulLines bytes
  pub next : line ≡ 1 + count_by (λ b. b == line_feed) bytes

-- The result of reading at most `limit` bytes of a source: it was read to its end, or up to an error, or until a read
-- failed.
abbrev pub IsReadOf : ℕ → Result GraphValue ReadFault → SourceState → SourceState → Type 0
IsReadOf limit outcome before after = IsReadToEnd limit outcome before after
    ⊎ IsErrAnd outcome (λ why. IsReadUpTo limit why before after)
    ⊎ ((line : ℕ) × (outcome ≡ Err (fault.Source line)) × BreaksOff limit line before after)
