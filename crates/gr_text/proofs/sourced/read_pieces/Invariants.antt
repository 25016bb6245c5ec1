use Rattle.std.proofs.Common.{◌≡◌, ◌-◌, ◌≤◌}
use Rattle.byte_streams.specs.Streams.{SourceState}
use Rattle.gr_text.specs.Following.{Follows, IsKeeping}
use Rattle.gr_text.proofs.sourced.read_pieces.Given as goal

-- the reader was fed what the source gave here
abbrev pub invariant-loop-read : goal.invariant-loop-read
invariant-loop-read g l =
    let source = g.S.Source in
    let keep = g.K.Keep in
    record {
      can : source.can_read l.source;
      limit : l.reader.limit ≡ l.fn.reader.limit;
      few : l.read ≤ l.reader.fed;
      within : l.read ≤ l.reader.limit;
      keeps : IsKeeping keep l.keeper l.reader;
      followed : (before : SourceState) → Follows keep l.fn.keeper 0 l.fn.reader before (source.state l.fn.source)
          → Follows keep l.keeper 0 l.reader before (source.state l.source);
    }

abbrev pub decreases-loop-read : goal.decreases-loop-read
decreases-loop-read g l = l.enough - l.read
