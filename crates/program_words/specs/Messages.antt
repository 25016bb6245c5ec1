-- The lines that say what a run did or what went wrong, and the effect of writing them.
use Rattle.std.specs.Prelude.{◌≡◌, ℕ, ◌/◌, ◌%◌, ◌⊎◌, if◌then◌else◌, List, [], ◌∷◌, ◌++◌, codes, decimal}
use Rattle.std.specs.Char.{digit_char, encode_utf8, is_control}
use Rattle.std.specs.List.{flat_map}
use Rattle.std.specs.Str.{chars}
use Rattle.byte_streams.specs.Streams.{SinkState, Took, WentOut}
use Rattle.plain_run.specs.FaultText.{fault_text, part_text}
use Rattle.plain_run.specs.ReportText.{report_text}
use Rattle.plain_run.specs.declared.fault.PartFault.{PartFault}
use Rattle.plain_run.specs.declared.fault.RunFault.{RunFault}
use Rattle.plain_run.specs.declared.report.Report.{Report}

-- the whole text was written, or a first part of it before the sink failed
abbrev pub IsWritten : List ℕ → SinkState → SinkState → Type 0
IsWritten text before after = Took 0 text before after ⊎ ((written : ℕ) × WentOut written text before after)

-- a first part of a text was written, and this is left of it
abbrev pub IsPartWritten : List ℕ → List ℕ → SinkState → SinkState → Type 0
IsPartWritten text left before after = (gone : List ℕ) × Took 0 gone before after × (text ≡ gone ++ left)

abbrev pub report_line : Report → List ℕ
report_line report = report_text report ++ 10 ∷ []

-- how many million bytes were read, and how the line ends; after a CR the next line is written over it
abbrev pub progress_line : ℕ → List ℕ → List ℕ
progress_line read end = codes "read " ++ decimal (read / 1000000) ++ codes " MB" ++ end

-- a message as a line, after the program's name
abbrev pub message_line : List ℕ → List ℕ
message_line message = codes "boruvka: " ++ message ++ 10 ∷ []

-- the line for an argument that isn't UTF-8
abbrev pub no_text_line : List ℕ
no_text_line = message_line (codes "an argument is not UTF-8")

-- the line of standard input that is named a second time
abbrev pub given_twice_line : List ℕ
given_twice_line = message_line (codes "- is given twice")

-- the line for an error
abbrev pub fault_line : RunFault → List ℕ
fault_line why = message_line (fault_text why)

abbrev pub hex_of : ℕ → List ℕ
hex_of byte = codes "\\x" ++ digit_char (byte / 16) ∷ digit_char (byte % 16) ∷ []

-- a character in UTF-8, with its bytes in hex digits if it is a control character: U+0000 to U+001F, and U+007F to
-- U+009F
abbrev pub escaped_char : ℕ → List ℕ
escaped_char c = if is_control c then flat_map hex_of (encode_utf8 c) else encode_utf8 c

-- a text with its control characters in hex digits
abbrev pub escaped : List ℕ → List ℕ
escaped text = flat_map escaped_char (chars text)

-- the line for a file with this name that can't be opened
abbrev pub unopened_line : List ℕ → List ℕ
unopened_line name = message_line (codes "cannot open " ++ escaped name)

-- the line for a file with this name that can't be part of the graph
abbrev pub part_line : List ℕ → PartFault → List ℕ
part_line name why = message_line (escaped name ++ codes ": " ++ part_text why)
