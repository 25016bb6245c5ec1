-- The codes and the texts of errors.
use Rattle.std.specs.Prelude.{ℕ, ℤ, negsuc, List, codes}
use Rattle.gr_text.specs.FaultText.{kind_text}
use Rattle.gr_text.specs.declared.faults.GrKind.TheVariants.{UnknownLine, NoProblemYet, SecondProblem, BadProblem, TooLarge, BadArc, EndOutOfRange, WeightOutOfRange, TooManyArcs, MissingProblem, MissingArcs}
use Rattle.caller_forests.specs.declared.refusals.CallRefusal.{CallRefusal}
use Rattle.caller_forests.specs.declared.refusals.CallRefusal.TheVariants.{NoMemory, BadEnd, TooManyVertices, TooManyLinks, TooLong, Line, LengthsDiffer, TooFewPlaces, Cycle, Descending, Overlap}

-- The codes and texts as in the header. The codes are -1 to -21 (`negsuc k` is -(k + 1)). The text for an invalid line
-- is the name that the program prints.
abbrev pub row_of : CallRefusal → ℤ × List ℕ
row_of NoMemory = (negsuc 0, codes "no memory")
row_of BadEnd = (negsuc 1, codes "an endpoint isn't a vertex")
row_of TooManyVertices = (negsuc 2, codes "too many vertices")
row_of TooManyLinks = (negsuc 3, codes "too many links")
row_of TooLong = (negsuc 4, codes "the text is too long")
row_of (Line UnknownLine) = (negsuc 5, kind_text UnknownLine)
row_of (Line NoProblemYet) = (negsuc 6, kind_text NoProblemYet)
row_of (Line SecondProblem) = (negsuc 7, kind_text SecondProblem)
row_of (Line BadProblem) = (negsuc 8, kind_text BadProblem)
row_of (Line TooLarge) = (negsuc 9, kind_text TooLarge)
row_of (Line BadArc) = (negsuc 10, kind_text BadArc)
row_of (Line EndOutOfRange) = (negsuc 11, kind_text EndOutOfRange)
row_of (Line WeightOutOfRange) = (negsuc 12, kind_text WeightOutOfRange)
row_of (Line TooManyArcs) = (negsuc 13, kind_text TooManyArcs)
row_of (Line MissingProblem) = (negsuc 14, kind_text MissingProblem)
row_of (Line MissingArcs) = (negsuc 15, kind_text MissingArcs)
row_of LengthsDiffer = (negsuc 16, codes "array lengths differ")
row_of TooFewPlaces = (negsuc 17, codes "the output array is too small")
row_of Cycle = (negsuc 18, codes "links contain a cycle")
row_of Descending = (negsuc 19, codes "links aren't sorted by weight")
row_of Overlap = (negsuc 20, codes "an output overlaps an input")

abbrev pub code_of : CallRefusal → ℤ
code_of why = (row_of why).0

abbrev pub refusal_text : CallRefusal → List ℕ
refusal_text why = (row_of why).1
