-- Bytes that are only arc lines.
use Rattle.std.specs.Prelude.{◌≡◌, ℕ, ◌≤◌, List, [], ◌∷◌, ◌++◌, map, length, take, Option, IfSome, option_to_list}
use Rattle.std.specs.List.{AllByRecursion}
use Rattle.links.specs.Arc.{Arc}
use Rattle.links.specs.Link.{AreLinksOf}
use Rattle.links.specs.declared.links.Link.{Link}
use Rattle.gr_text.specs.Lines.{IsLine, ended, EndsLines}
use Rattle.gr_text.specs.Statement.{ArcLine, Says, Say}
use Rattle.gr_text.specs.Graph.{IsArcOf}
use Rattle.gr_text.specs.declared.arc_lines.ArcLines.{ArcLines}

-- The bytes are `count` lines, each ended by a line feed. Each line gives an arc of a graph of n vertices, and the
-- links are the edges of these arcs.
pub record AreArcLines (n count : ℕ) (bytes : List ℕ) (links : List Link) : Type 0 where
  pub lines : List (List ℕ)
  pub arcs : List Arc
  pub cut : EndsLines bytes lines []
  pub say : Say lines (map ArcLine arcs)
  pub each : AllByRecursion (IsArcOf n) arcs
  pub each_line : length lines ≡ count
  pub each_arc : length arcs ≡ count
  pub of_arcs : AreLinksOf arcs links

-- the bytes are such lines, and their edges are at the start of the buffer
pub record FillsRoom (n : ℕ) (bytes : List ℕ) (found : ArcLines) (room : List Link) : Type 0 where
  pub within : found.links ≤ length room
  pub few : found.lines ≤ length bytes
  pub are : AreArcLines n found.lines bytes (take found.links room)

-- the buffer keeps its length; if the call returns a value, the bytes are such lines, and their edges are at its start
pub record FillsOrNot (n : ℕ) (bytes : List ℕ) (answer : Option ArcLines) (old new : List Link) : Type 0 where
  pub len : length new ≡ length old
  pub found : IfSome answer (λ found. FillsRoom n bytes found new)

-- edges were appended to a list; if the call returns a count, the bytes are that many such lines, and these are their
-- edges
pub record AppendsOrNot (n : ℕ) (bytes : List ℕ) (answer : Option ℕ) (old new : List Link) : Type 0 where
  pub more : List Link
  pub appended : new ≡ old ++ more
  pub found : IfSome answer (λ count. (count ≤ length bytes) × AreArcLines n count bytes more)

-- The bytes begin with such a line, and `rest` is what follows it. `link` is the edge of its arc, or none for a loop.
pub record BeginsWithArc (n : ℕ) (bytes : List ℕ) (link : Option Link) (rest : List ℕ) : Type 0 where
  pub line : List ℕ
  pub arc : Arc
  pub is_line : IsLine line
  pub begins : bytes ≡ ended line ++ rest
  pub says : Says line (ArcLine arc)
  pub is_arc : IsArcOf n arc
  pub of_arc : AreLinksOf (arc ∷ []) (option_to_list link)
