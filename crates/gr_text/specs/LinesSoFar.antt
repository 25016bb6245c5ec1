-- What the lines that were read describe, and what one more line adds.
use Rattle.std.specs.Prelude.{◌≡◌, ℕ, ◌+◌, ◌<◌, ◌≤◌, List, [], length, Option, Some, None, IfSome, option_to_list, ◌++◌, ◌∷◌, Result, MatchResult}
use Rattle.limits.specs.declared.TheConstants.{MAX_ARCS, MAX_VERTICES}
use Rattle.links.specs.Arc.{Arc}
use Rattle.links.specs.Link.{AreLinksOf, EndsUpTo}
use Rattle.links.specs.declared.links.Link.{Link}
use Rattle.gr_text.specs.Lines.{EndsLines}
use Rattle.gr_text.specs.PartialLine.{IsWhole}
use Rattle.gr_text.specs.Statement.{Problem, ArcLine, IsSilent, Says, Say}
use Rattle.gr_text.specs.Graph.{GraphValue, with_links, IsArcOf, AreLawfulLines}
use Rattle.gr_text.specs.Fault.{IsFaultAfter, IsWrongArc, Lacks}
use Rattle.gr_text.specs.declared.faults.ReadFault.{ReadFault}
use Rattle.gr_text.specs.declared.faults.ReadFault.TheVariants as fault
use Rattle.gr_text.specs.declared.sizes.ProblemSize.{ProblemSize}
use Rattle.gr_text.specs.declared.verdicts.Verdict.{Verdict}
use Rattle.gr_text.specs.declared.verdicts.Verdict.TheVariants as verdict
use Rattle.gr_text.specs.Word.{AreKeptOf}
use Rattle.gr_text.specs.declared.faults.GrKind.{GrKind}
use Rattle.gr_text.specs.declared.words.LineFields.{LineFields}
use Rattle.gr_text.specs.declared.words.Signed.{Signed}

-- the lines state this problem, or none, and this many arcs
abbrev pub AreTallied : Option ProblemSize → ℕ → List (List ℕ) → Type 0
AreTallied None count lines = Say lines [] × (count ≡ 0)
AreTallied (Some size) count lines = (arcs : List Arc) × AreLawfulLines lines size.vertices size.arcs arcs × (length arcs ≡ count)

-- what a verdict promises after any lines: a problem comes first; an edge has endpoints in range, and the stated number
-- of arcs leaves space for it
abbrev pub FitsAfter : Verdict → Option ProblemSize → ℕ → Type 0
FitsAfter verdict.Silent size count = Unit {0}
FitsAfter (verdict.Begins new) size count = size ≡ None
FitsAfter (verdict.Adds link) size count = (old : ProblemSize) × (size ≡ Some old) × IfSome link (λ l. l.high ≤ old.vertices) × (count < old.arcs)
FitsAfter (verdict.Faulty kind) size count = Unit {0}

-- what holds for any stored lines: at most as many arcs as the problem states, at most as many edges as arcs, and
-- endpoints in range
abbrev pub IsWithinSize : Option ProblemSize → ℕ → List Link → Type 0
IsWithinSize None count links = (count ≡ 0) × (links ≡ [])
IsWithinSize (Some size) count links = (count ≤ size.arcs) × EndsUpTo size.vertices links × (length links ≤ count)

-- what one more line adds to these
abbrev pub Judges : Verdict → Option ProblemSize → ℕ → List (List ℕ) → List ℕ → Type 0
Judges verdict.Silent size count lines line = IsSilent line
Judges (verdict.Begins new) size count lines line = (size ≡ None) × Says line (Problem new.vertices new.arcs)
    × (new.vertices ≤ MAX_VERTICES) × (new.arcs ≤ MAX_ARCS)
Judges (verdict.Adds link) None count lines line = ⊥
Judges (verdict.Adds link) (Some size) count lines line =
    (arc : Arc) × Says line (ArcLine arc) × IsArcOf size.vertices arc × (count < size.arcs) × AreLinksOf (arc ∷ []) (option_to_list link)
Judges (verdict.Faulty kind) size count lines line = IsFaultAfter lines line kind

-- for any arc of which these numbers are stored, this is its edge, or what is wrong with it in a graph of n vertices
abbrev pub JudgesArc : Result (Option Link) GrKind → ℕ → ℕ → ℕ → Signed → Type 0
JudgesArc result n u v w =
    (arc : Arc) → AreKeptOf u v w arc
    → MatchResult result (λ link. IsArcOf n arc × AreLinksOf (arc ∷ []) (option_to_list link)) (λ kind. IsWrongArc n arc kind)

-- the same for each such line, after any lines that state this problem, or none, and this many arcs
abbrev pub JudgesEach : Verdict → Option ProblemSize → ℕ → (List ℕ → Type 0) → Type 0
JudgesEach verdict size count IsSuch =
    (lines : List (List ℕ)) (line : List ℕ) → AreTallied size count lines → IsSuch line → Judges verdict size count lines line

-- What is stored of whole lines: what their problem line states, after it has come, how many arc lines they have, and
-- the edges of these.
pub record LinesSoFarValue : Type 0 where
  pub size : Option ProblemSize
  pub count : ℕ
  pub links : List Link

-- the lines state this problem, or none, and arcs that give these edges
abbrev pub AreKept : Option ProblemSize → ℕ → List Link → List (List ℕ) → Type 0
AreKept None count links lines = Say lines [] × (count ≡ 0) × (links ≡ [])
AreKept (Some size) count links lines =
    (arcs : List Arc) × AreLawfulLines lines size.vertices size.arcs arcs × (length arcs ≡ count) × AreLinksOf arcs links

-- edges that were read, and those that replaced them
pub record Swap : Type 0 where
  pub gone : List Link
  pub put : List Link

abbrev pub no_swap : Swap
no_swap = record { gone = []; put = [] }

-- the links are all edges that were read, except that the first of them were swapped
pub record DifferBy (swap : Swap) (all links : List Link) : Type 0 where
  pub more : List Link
  pub all_are : all ≡ swap.gone ++ more
  pub links_are : links ≡ swap.put ++ more

-- this is what is stored of the lines, except for a swap of edges
abbrev pub KeepsLinesBut : Swap → LinesSoFarValue → List (List ℕ) → Type 0
KeepsLinesBut swap kept lines = (all : List Link) × DifferBy swap all kept.links × AreKept kept.size kept.count all lines

-- why a line wasn't taken: its error, or out of memory
abbrev pub IsLineFault : ReadFault → ℕ → List (List ℕ) → List ℕ → Type 0
IsLineFault (fault.Gr f) number lines line = (f.line ≡ number) × IsFaultAfter lines line f.kind
IsLineFault (fault.Source number') number lines line = ⊥
IsLineFault fault.TooLong number lines line = ⊥
IsLineFault fault.Memory number lines line = Unit {0}

-- a line with this number after these lines was taken, so that this is stored of all, or it has this error
abbrev pub IsTaken : {X : Type 0} → Result X ReadFault → Swap → LinesSoFarValue → ℕ → List (List ℕ) → List ℕ → Type 0
IsTaken result swap kept number lines line = MatchResult result (λ _. KeepsLinesBut swap kept (lines ++ line ∷ [])) (λ e. IsLineFault e number lines line)

-- a line with this number was taken after any lines of which `old` is stored, or it has this error
abbrev pub TakesLine : {X : Type 0} → Result X ReadFault → ℕ → LineFields → LinesSoFarValue → LinesSoFarValue → Type 0
TakesLine result number line old new =
    (swap : Swap) (lines : List (List ℕ)) (bytes : List ℕ) → KeepsLinesBut swap old lines → IsWhole line bytes
    → IsTaken result swap new number lines bytes

-- one more arc is stored, which gives this edge, or is a loop
abbrev pub AddsLink : LinesSoFarValue → LinesSoFarValue → Option Link → Type 0
AddsLink old new link = (new.size ≡ old.size) × (new.count ≡ old.count + 1) × (new.links ≡ old.links ++ option_to_list link)

-- The bytes are `count` lines, each ended by a line feed. After any lines of which `old` is stored, `new` is stored of
-- all.
pub record AddsLines (count : ℕ) (bytes : List ℕ) (old new : LinesSoFarValue) : Type 0 where
  pub lines : List (List ℕ)
  pub cut : EndsLines bytes lines []
  pub each_line : length lines ≡ count
  pub few : count ≤ length bytes
  pub gives : (swap : Swap) (before : List (List ℕ)) → KeepsLinesBut swap old before → KeepsLinesBut swap new (before ++ lines)

abbrev pub IsGraphOfLines : List (List ℕ) → GraphValue → Type 0
IsGraphOfLines lines graph = (arcs : List Arc) × AreLawfulLines lines graph.vertices (length arcs) arcs × AreLinksOf arcs graph.links

-- the same, except for a swap of edges
abbrev pub IsGraphOfLinesBut : Swap → List (List ℕ) → GraphValue → Type 0
IsGraphOfLinesBut swap lines graph = (all : List Link) × DifferBy swap all graph.links × IsGraphOfLines lines (with_links all graph)

-- why whole lines have no graph: what is missing after them
abbrev pub IsLack : ReadFault → ℕ → List (List ℕ) → Type 0
IsLack (fault.Gr f) number lines = (f.line ≡ number) × Lacks lines f.kind
IsLack (fault.Source number') number lines = ⊥
IsLack fault.TooLong number lines = ⊥
IsLack fault.Memory number lines = ⊥

-- for any whole lines of which this is stored: this is their graph, or this is missing after them, at the line with
-- this number
abbrev pub GivesGraph : Result GraphValue ReadFault → ℕ → LinesSoFarValue → Type 0
GivesGraph result number kept =
    (swap : Swap) (lines : List (List ℕ)) → KeepsLinesBut swap kept lines
    → MatchResult result (λ graph. IsGraphOfLinesBut swap lines graph) (λ e. IsLack e number lines)
