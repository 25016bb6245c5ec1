-- New lines to engines, numbered from 0, and what a run over them leaves in memory.
use Rattle.std.proofs.Common.{◌≡◌, ℕ, List, [], ◌∷◌, ◌++◌, length, inl, inr, Some, None, Err, refl, sym, subst, arith, length-append}
use Rattle.std.proofs.lemmas.Bool.{cases_lt}
use Rattle.std.proofs.lemmas.List.{get_or_append_left, get_or_push}
use Rattle.std.proofs.lemmas.List.Elements.{All-push}
use Rattle.byte_streams.specs.Streams.{SourceState, SinkState, only_held}
use Rattle.byte_streams.proofs.Streaming.{gave_to_end, took_known}
use Rattle.gr_text.specs.ForestText.{forest_text}
use Rattle.gr_text.specs.Graph.{GraphValue}
use Rattle.links.specs.declared.links.Link.{Link}
use Rattle.ports.specs.EngineLines.{EngineLineState, line_of, engine_line, IsEngineLine}
use Rattle.wires.specs.Lines.{IsFresh, HasKnownBytes}
use Rattle.plain_run.specs.Files.{IsFileOf, IsForestTextOf}
use Rattle.plain_run.specs.Outcomes.{streams, IsDone, IsLeast}
use Rattle.forest_run.specs.LinesRun.{IsUnhindered}
use Rattle.forest_run.specs.WiredLines.{AreServed}
use Rattle.plain_run.specs.declared.fault.RunFault.{RunFault}
use Rattle.plain_run.specs.declared.fault.RunFault.TheVariants as fault

abbrev pub AreEngines : List EngineLineState → Type 0
AreEngines lines = AreServed engine_line lines

-- all bytes of a line to an engine are known; so one more such line stands for the worker of the next number
pub engine_more : (lines : List EngineLineState) (line : EngineLineState) (number : ℕ) → number ≡ length lines → AreEngines lines → IsEngineLine number line → IsFresh (line_of line)
    → AreEngines (lines ++ line ∷ [])
engine_more lines line number at served is fresh = (
  All-push (λ l. IsFresh (line_of l) × HasKnownBytes (line_of l)) lines line served.0 (fresh, record { sent = refl; got = refl }),
  λ worker d b. elim (cases_lt worker (length lines)) [
    | inl before ↦ subst (IsEngineLine worker) (sym (get_or_append_left lines (line ∷ []) d worker before)) (served.1 worker d before)
    | inr past ↦
        let last : length lines ≡ worker = omega (arith, length-append lines (line ∷ [])) in
        let same : number ≡ worker = omega (arith, at, last) in
        subst (IsEngineLine worker) (sym (get_or_push lines line d worker last)) (subst (λ k. IsEngineLine k line) same is)
  ],
)

-- if a source had these bytes and an empty sink took the forest's text, the sink has the text of the bytes' forest
pub text_is : (says : GraphValue → List Link → Type 0) (bytes text : List ℕ) (s t : SourceState) (a b : SinkState)
    → s.left ≡ Some bytes → a.held ≡ Some [] → b.held ≡ Some text → IsDone IsLeast says (streams s a) (streams t b) → IsForestTextOf bytes text
text_is says bytes text s t a b known empty held ran =
    let same : ran.bytes ≡ bytes = sym (gave_to_end 0 1 bytes ran.bytes s t known (omega arith) ran.read) in
    let out = took_known 0 [] (forest_text ran.graph.vertices ran.forest) a b empty ran.written in
    (ran.graph, ran.forest, record { file = subst (λ (xs : List ℕ). IsFileOf xs ran.graph) same ran.file; least = ran.found_is }, cc)

-- an error that fits a run into a sink of which only the bytes are known fits one into a sink of which nothing is known
pub unhindered : (why : RunFault) (a b : SinkState) → IsUnhindered {X = Unit {0}} (Err why) a b → IsUnhindered {X = Unit {0}} (Err why) (only_held None) (only_held None)
unhindered (fault.Read why) a b is = is
unhindered (fault.Cut why) a b is = is
unhindered (fault.Rounds round) a b is = absurd is
unhindered (fault.Missed link) a b is = absurd is
unhindered fault.Memory a b is = tt
unhindered (fault.Write written) a b is = λ calm. let never = calm.1 in cc
