use Rattle.std.proofs.Common.{◌≡◌, All, map, take, false}
use Rattle.std.specs.Prelude.{IsSome, option_map}
use Rattle.std.specs.String.{string_bytes}
use Rattle.boruvka.specs.Joined.{inputs}
use Rattle.boruvka.specs.Streams.{IsUntold}
use Rattle.boruvka.proofs.Joining.{Keeps, times}
use Rattle.boruvka.proofs.joined.add_files.Given as goal

abbrev pub invariant-loop-file : goal.invariant-loop-file
invariant-loop-file g l = record {
  count : l.parts.files ≡ l.file-index;
  keeps : Keeps (g.I.Source.state l.initial.input.source) (take l.file-index (map (option_map string_bytes) l.files)) l.was_read l.parts (g.I.Source.state l.input.source);
  fresh : l.was_read ≡ false → l.input.source ≡ l.initial.input.source;
  inputs : inputs (take l.file-index (map (option_map string_bytes) l.files)) ≡ times l.was_read;
  unread : All IsSome l.files → l.was_read ≡ false;
  untold : l.chosen.progress ≡ false → IsUntold l.initial.input l.input × (l.input.progress.now.is_wanted ≡ false);
}
