use Rattle.std.proofs.Common.{◌≡◌, take, map}
use Rattle.std.specs.Prelude.{option_map}
use Rattle.std.specs.String.{string_bytes}
use Rattle.program_words.specs.Arguments.{file_of}
use Rattle.program_words.proofs.arguments.files_of.Given as goal

abbrev pub invariant-loop-name : goal.invariant-loop-name
invariant-loop-name l = map (option_map string_bytes) l.files.items ≡ map file_of (map (λ name. name.now) (take l.name-index l.names))
