-- What lines state after one more comes.
use Rattle.std.proofs.Common.{◌≡◌, ℕ, ◌+◌, ◌<◌, ◌≤◌, inl, inr, List, [], ◌∷◌, ◌++◌, refl, ap, sym, ◌∙◌}
use Rattle.std.proofs.Common.{subst, arith, append-nil, map, length, Option, Some, None, cond, true, false, Bool, Result, Ok, Err, MatchResult}
use Rattle.std.specs.Prelude.{option_to_list}
use Rattle.std.specs.List.{filter}
use Rattle.std.proofs.lemmas.List.{map-append, length_push}
use Rattle.std.proofs.lemmas.List.Elements.{filter-append}
use Rattle.limits.specs.declared.TheConstants.{MAX_ARCS, MAX_VERTICES}
use Rattle.links.specs.Arc.{Arc}
use Rattle.links.specs.Link.{Key, key_of, arc_key, is_no_loop, AreLinksOf}
use Rattle.links.specs.declared.links.Link.{Link}
use Rattle.gr_text.specs.Statement.{Statement, Problem, ArcLine, IsSilent, Says, Say}
use Rattle.gr_text.specs.Graph.{IsArcOf, AreLawfulLines}
use Rattle.gr_text.specs.LinesSoFar.{LinesSoFarValue, AreTallied, Swap, AreKept, KeepsLinesBut, Judges, AddsLink, IsLineFault}
use Rattle.gr_text.proofs.Alls.{All-push}
use Rattle.gr_text.proofs.Swaps.{differ_more}
use Rattle.gr_text.specs.declared.sizes.ProblemSize.{ProblemSize}
use Rattle.gr_text.specs.declared.faults.ReadFault.{ReadFault}
use Rattle.gr_text.specs.declared.faults.ReadFault.TheVariants as fault
use Rattle.gr_text.specs.declared.verdicts.Verdict.TheVariants as verdict

-- a silent line adds nothing
pub Say-silent : (lines : List (List ℕ)) (line : List ℕ) (ss : List Statement) → Say lines ss → IsSilent line → Say (lines ++ line ∷ []) ss
Say-silent [] line ss say silent = inl (silent, say)
Say-silent (first ∷ lines) line ss (inl (quiet, say)) silent = inl (quiet, Say-silent lines line ss say silent)
Say-silent (first ∷ lines) line ss (inr (s, others, says, say, is)) silent = inr (s, others, says, Say-silent lines line others say silent, is)

-- a line that makes a statement adds it
pub Say-more : (lines : List (List ℕ)) (line : List ℕ) (ss : List Statement) (s : Statement) → Say lines ss → Says line s → Say (lines ++ line ∷ []) (ss ++ s ∷ [])
Say-more [] line ss s say says = inr (s, [], says, refl, ap (λ (xs : List Statement). xs ++ s ∷ []) say)
Say-more (first ∷ lines) line ss s (inl (quiet, say)) says = inl (quiet, Say-more lines line ss s say says)
Say-more (first ∷ lines) line ss s (inr (t, others, first_says, say, is)) says = search (arith, Say-more lines line others s say says)

-- lines that state the same as valid ones, and a silent line after valid ones
pub AreLawfulLines-like : (lines others : List (List ℕ)) (n m : ℕ) (arcs : List Arc) → AreLawfulLines lines n m arcs → Say others (Problem n m ∷ map ArcLine arcs) → AreLawfulLines others n m arcs
AreLawfulLines-like lines others n m arcs lawful say = search arith

pub AreLawfulLines-silent : (lines : List (List ℕ)) (line : List ℕ) (n m : ℕ) (arcs : List Arc) → AreLawfulLines lines n m arcs → IsSilent line → AreLawfulLines (lines ++ line ∷ []) n m arcs
AreLawfulLines-silent lines line n m arcs lawful silent = AreLawfulLines-like lines _ n m arcs lawful (Say-silent lines line _ lawful.say silent)

-- the problem line
pub AreLawfulLines-problem : (lines : List (List ℕ)) (line : List ℕ) (n m : ℕ) → Say lines [] → Says line (Problem n m) → n ≤ MAX_VERTICES → m ≤ MAX_ARCS → AreLawfulLines (lines ++ line ∷ []) n m []
AreLawfulLines-problem lines line n m say says vertices arc_lines = record {
  say = Say-more lines line [] (Problem n m) say says;
  vertices = vertices;
  arc_lines = arc_lines;
  no_more = omega arith;
  each = tt;
}

-- an arc line
pub AreLawfulLines-arc : (lines : List (List ℕ)) (line : List ℕ) (n m : ℕ) (arcs : List Arc) (arc : Arc) → AreLawfulLines lines n m arcs
    → Says line (ArcLine arc) → IsArcOf n arc → length arcs < m → AreLawfulLines (lines ++ line ∷ []) n m (arcs ++ arc ∷ [])
AreLawfulLines-arc lines line n m arcs arc lawful says is_arc room = record {
  say = subst (λ (ss : List Statement). Say (lines ++ line ∷ []) (Problem n m ∷ ss)) (sym (map-append ArcLine arcs (arc ∷ [])))
      (Say-more lines line (Problem n m ∷ map ArcLine arcs) (ArcLine arc) lawful.say says);
  vertices = lawful.vertices;
  arc_lines = lawful.arc_lines;
  no_more = omega (arith, length_push arcs arc);
  each = All-push (IsArcOf n) arcs arc lawful.each is_arc;
}

-- the edges together with the edge of one more arc
pub AreLinksOf-loop : (arcs : List Arc) (links : List Link) (arc : Arc) → AreLinksOf arcs links → is_no_loop arc ≡ false → AreLinksOf (arcs ++ arc ∷ []) links
AreLinksOf-loop arcs links arc are loop = search (arith, append-nil, cond, filter-append)

pub AreLinksOf-link : (arcs : List Arc) (links : List Link) (arc : Arc) (link : Link) → AreLinksOf arcs links
    → is_no_loop arc ≡ true → key_of link ≡ arc_key arc → AreLinksOf (arcs ++ arc ∷ []) (links ++ link ∷ [])
AreLinksOf-link arcs links arc link are no_loop key = search (arith, map-append, cond, filter-append)

pub AreLinksOf-append : (arcs more : List Arc) (links others : List Link) → AreLinksOf arcs links → AreLinksOf more others → AreLinksOf (arcs ++ more) (links ++ others)
AreLinksOf-append arcs more links others are also = search (arith, map-append, filter-append)

pub counts_of : (size : Option ProblemSize) (count : ℕ) (links : List Link) (lines : List (List ℕ)) → AreKept size count links lines → AreTallied size count lines
counts_of a1 a2 a3 a4 a5 = search arith

pub KeepsLinesBut-silent : (size : Option ProblemSize) (count : ℕ) (links : List Link) (lines : List (List ℕ)) (line : List ℕ)
    → AreKept size count links lines → IsSilent line → AreKept size count links (lines ++ line ∷ [])
KeepsLinesBut-silent None count links lines line (say, zero_count, none) silent = (Say-silent lines line [] say silent, zero_count, none)
KeepsLinesBut-silent (Some size) count links lines line (arcs, lawful, counted, are) silent =
    (arcs, AreLawfulLines-silent lines line size.vertices size.arcs arcs lawful silent, counted, are)

pub KeepsLinesBut-problem : (size : Option ProblemSize) (new : ProblemSize) (count : ℕ) (links : List Link) (lines : List (List ℕ)) (line : List ℕ)
    → AreKept size count links lines → Judges (verdict.Begins new) size count lines line
    → AreKept (Some new) count links (lines ++ line ∷ [])
KeepsLinesBut-problem None new count links lines line (say, zero_count, none) (is, says, vertices, arcs) =
    ([], AreLawfulLines-problem lines line new.vertices new.arcs say says vertices arcs, sym zero_count, ap (map key_of) none)
KeepsLinesBut-problem (Some size) new count links lines line gives (is, says, vertices, arcs) = absurd (cc)

KeepsLinesBut-arc : (size size' : Option ProblemSize) (count count' : ℕ) (old new : List Link) (lines : List (List ℕ)) (line : List ℕ) (link : Option Link)
    → AreKept size count old lines → Judges (verdict.Adds link) size count lines line → size' ≡ size → count' ≡ count + 1
    → new ≡ old ++ option_to_list link → AreKept size' count' new (lines ++ line ∷ [])
KeepsLinesBut-arc None size' count count' old new lines line link gives judged same more adds = absurd judged
KeepsLinesBut-arc (Some size) size' count count' old new lines line link (arcs, lawful, counted, are) (arc, says, is_arc, room, of_arc) same more adds =
    subst (λ (s : Option ProblemSize). AreKept s count' new (lines ++ line ∷ [])) (sym same) (
      arcs ++ arc ∷ [],
      AreLawfulLines-arc lines line size.vertices size.arcs arcs arc lawful says is_arc (omega arith),
      omega (arith, length_push arcs arc),
      subst (AreLinksOf (arcs ++ arc ∷ [])) (sym adds) (AreLinksOf-append arcs (arc ∷ []) old (option_to_list link) are of_arc),
    )

pub arc_taken : {X : Type 0} {swap : Swap} (r : Result X ReadFault) (old new : LinesSoFarValue) (lines : List (List ℕ)) (line : List ℕ) (link : Option Link) (number : ℕ)
    → MatchResult r (λ _. AddsLink old new link) (λ e. e ≡ fault.Memory)
    → KeepsLinesBut swap old lines → Judges (verdict.Adds link) old.size old.count lines line
    → MatchResult r (λ _. KeepsLinesBut swap new (lines ++ line ∷ [])) (λ e. IsLineFault e number lines line)
arc_taken (Ok x) old new lines line link number (same, more, adds) (all, by, gives) judged =
    let now = all ++ option_to_list link in
    (now, differ_more (option_to_list link) new.links by adds, KeepsLinesBut-arc old.size new.size old.count new.count all now lines line link gives judged same more refl)
arc_taken (Err e) old new lines line link number is gives judged = rw is tt
