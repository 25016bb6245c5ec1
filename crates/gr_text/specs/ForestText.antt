-- The text of a forest.
use Rattle.std.specs.Prelude.{ℕ, List, ◌++◌, length, codes, decimal}
use Rattle.std.specs.List.{flat_map}
use Rattle.std.specs.Fmt.{signed_decimal}
use Rattle.links.specs.declared.links.Link.{Link}
use Rattle.gr_text.specs.Lines.{ended}

-- the first line: the numbers of vertices and of edges
abbrev pub header_of : ℕ → ℕ → List ℕ
header_of n k = ended (codes "p sp " ++ decimal n ++ codes " " ++ decimal k)

-- the line of an edge: its lower endpoint, its higher endpoint and its weight
abbrev pub link_line : Link → List ℕ
link_line l = ended (codes "a " ++ decimal l.low ++ codes " " ++ decimal l.high ++ codes " " ++ signed_decimal l.weight)

-- the text of a forest of n vertices: the first line, then a line per edge, in order
abbrev pub forest_text : ℕ → List Link → List ℕ
forest_text n forest = header_of n (length forest) ++ flat_map link_line forest
