-- The texts of errors.
use Rattle.std.specs.Prelude.{ℕ, List, ◌++◌, codes, decimal}
use Rattle.gr_text.specs.declared.faults.GrKind.{GrKind}
use Rattle.gr_text.specs.declared.faults.GrKind.TheVariants.{UnknownLine, NoProblemYet, SecondProblem, BadProblem, TooLarge, BadArc, EndOutOfRange, WeightOutOfRange, TooManyArcs, MissingProblem, MissingArcs}
use Rattle.gr_text.specs.declared.faults.GrFault.{GrFault}
use Rattle.gr_text.specs.declared.faults.ReadFault.{ReadFault}
use Rattle.gr_text.specs.declared.faults.ReadFault.TheVariants as read

abbrev pub kind_text : GrKind → List ℕ
kind_text UnknownLine = codes "UnknownLine"
kind_text NoProblemYet = codes "NoProblemYet"
kind_text SecondProblem = codes "SecondProblem"
kind_text BadProblem = codes "BadProblem"
kind_text TooLarge = codes "TooLarge"
kind_text BadArc = codes "BadArc"
kind_text EndOutOfRange = codes "EndOutOfRange"
kind_text WeightOutOfRange = codes "WeightOutOfRange"
kind_text TooManyArcs = codes "TooManyArcs"
kind_text MissingProblem = codes "MissingProblem"
kind_text MissingArcs = codes "MissingArcs"

-- the line number, and what is wrong with the line
abbrev pub line_text : GrFault → List ℕ
line_text f = codes "line " ++ decimal f.line ++ codes ": " ++ kind_text f.kind

-- why there is no graph
abbrev pub read_text : ReadFault → List ℕ
read_text (read.Gr f) = line_text f
read_text (read.Source line) = codes "line " ++ decimal line ++ codes ": read failed"
read_text read.TooLong = codes "file is too long"
read_text read.Memory = codes "no memory"

-- how many bytes of a text were written
abbrev pub unwritten_text : ℕ → List ℕ
unwritten_text written = codes "write failed after " ++ decimal written ++ codes " bytes"
