-- How the bytes and lines of a text are written to a sink, part by part.
use Rattle.std.specs.Prelude.{◌≡◌, ℕ, ◌+◌, ◌*◌, ◌<◌, ◌≤◌, List, [], ◌∷◌, ◌++◌, length, take, drop, Result, IsOk, IfOk, IfErr, OnOk}
use Rattle.std.specs.List.{flat_map, AllByRecursion}
use Rattle.byte_streams.specs.Streams.{SinkState, Took, HadNoSetback}
use Rattle.links.specs.declared.links.Link.{Link}
use Rattle.gr_text.specs.ForestText.{link_line}
use Rattle.gr_text.specs.Written.{written_count}
use Rattle.gr_text.specs.declared.parallel_writer.TheConstants.{PART_ROOM}
use Rattle.gr_text.specs.declared.spelled.SpelledLines.{SpelledLines}
use Rattle.gr_text.specs.declared.writer.WriteFault.{WriteFault}

-- these bytes were written to the sink and added to a count of `count` others
pub record HandsOn (count total : ℕ) (bytes : List ℕ) (before after : SinkState) : Type 0 where
  pub took : Took 0 bytes before after
  pub counted : total ≡ written_count (count + length bytes)

-- a prefix of these bytes was written to the sink and counted, and then the sink failed
pub record HandsPrefix (count total : ℕ) (bytes : List ℕ) (before after : SinkState) : Type 0 where
  pub sent : ℕ
  pub within : sent ≤ length bytes
  pub counted : total ≡ written_count (count + sent)
  pub took : Took 1 (take sent bytes) before after

-- A call with this result wrote these bytes to a sink. The sink can be written to again if `ready`.
pub record HandsOut (count : ℕ) (bytes : List ℕ) (result : Result ℕ WriteFault) (before after : SinkState) (ready : Type 0) : Type 0 where
  pub whole : IfOk result (λ total. HandsOn count total bytes before after)
  pub part : IfErr result (λ fault. HandsPrefix count fault.written bytes before after)
  pub ends_ok : HadNoSetback before after → IsOk result
  pub again : OnOk result ready

-- a call with this result wrote the lines of the first of these edges to a sink, at least one line
pub record PutsLines (count : ℕ) (links : List Link) (result : Result (ℕ × ℕ) WriteFault) (before after : SinkState) (ready : Type 0) : Type 0 where
  pub some : IfOk result (λ put. (0 < put.1) × (put.1 ≤ length links))
  pub whole : IfOk result (λ put. HandsOn count put.0 (flat_map link_line (take put.1 links)) before after)
  pub part : IfErr result (λ fault. HandsPrefix count fault.written (flat_map link_line links) before after)
  pub ends_ok : HadNoSetback before after → IsOk result
  pub again : OnOk result ready

-- a buffer begins with the lines of the first of these edges, as many as fit
pub record AreSpelled (links : List Link) (spelled : SpelledLines) (room : List ℕ) : Type 0 where
  pub within : spelled.links ≤ length links
  pub fit : spelled.bytes ≤ length room
  pub short : spelled.bytes ≤ spelled.links * 64
  pub full : spelled.links < length links → length room < spelled.bytes + 64
  pub lines : take spelled.bytes room ≡ flat_map link_line (take spelled.links links)

-- the first `bytes` bytes of a part's buffer are the lines of all of these edges
pub record IsPart (links : List Link) (bytes : ℕ) (room : List ℕ) : Type 0 where
  pub fit : bytes ≤ PART_ROOM
  pub lines : take bytes room ≡ flat_map link_line links

-- the text of the parts in a buffer, given the number of bytes of each part
abbrev pub text_of_parts : List ℕ → List ℕ → List ℕ
text_of_parts [] room = []
text_of_parts (bytes ∷ others) room = take bytes room ++ text_of_parts others (drop PART_ROOM room)

-- each part fits into its buffer, and together the parts are the lines of these edges
abbrev pub AreSpelledParts : List Link → List ℕ → List ℕ → Type 0
AreSpelledParts links bytes room =
    AllByRecursion (λ part. part ≤ PART_ROOM) bytes × (text_of_parts bytes room ≡ flat_map link_line links)
