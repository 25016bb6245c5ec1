-- Arc lines of several parts of the bytes, put together, and what they add to the whole lines so far.
use Rattle.std.proofs.Common.{◌≡◌, ℕ, ◌+◌, ◌-◌, ◌≤◌, inl, inr, List, [], ◌∷◌, ◌++◌, refl, ap, sym, ◌∙◌, subst, arith, map, length, take, Option, Some, length-append, append_assoc, not}
use Rattle.std.specs.Prelude.{option_to_list, All}
use Rattle.std.specs.List.{AllByRecursion, filter}
use Rattle.std.proofs.lemmas.List.{map-append, length-map, get_or-map}
use Rattle.std.proofs.lemmas.List.Elements.{All-append, All-filter, All-from_recursion, All-map}
use Rattle.std.proofs.lemmas.List.Filters.{length-filter_both}
use Rattle.links.specs.Arc.{Arc}
use Rattle.links.specs.Link.{Key, key_of, arc_key, is_no_loop, AreLinksOf, EndsUpTo}
use Rattle.links.specs.declared.links.Link.{Link}
use Rattle.gr_text.specs.Lines.{ended}
use Rattle.gr_text.specs.Statement.{Statement, Problem, ArcLine, Say}
use Rattle.gr_text.specs.Graph.{IsArcOf}
use Rattle.gr_text.specs.ArcLines.{AreArcLines, AppendsOrNot, FillsRoom, BeginsWithArc}
use Rattle.gr_text.specs.LinesSoFar.{AreKept, IsWithinSize}
use Rattle.gr_text.specs.declared.arc_lines.ArcLines.{ArcLines}
use Rattle.gr_text.specs.declared.sizes.ProblemSize.{ProblemSize}
use Rattle.gr_text.proofs.Alls.{All-both}
use Rattle.gr_text.proofs.Cuts.{EndsLines-none, EndsLines-more, EndsLines-line}
use Rattle.gr_text.proofs.Steps.{AreLinksOf-append}

-- what lines state, one part after the other
pub Say-append : (lines others : List (List ℕ)) (ss ts : List Statement) → Say lines ss → Say others ts → Say (lines ++ others) (ss ++ ts)
Say-append [] others ss ts say also = subst (λ (xs : List Statement). Say others (xs ++ ts)) (sym say) also
Say-append (line ∷ lines) others ss ts (inl (quiet, say)) also = inl (quiet, Say-append lines others ss ts say also)
Say-append (line ∷ lines) others ss ts (inr (s, more, says, say, is)) also = search (arith, Say-append lines others more ts say also)

-- no bytes, one line, and one part after another
pub arcs_none : (n : ℕ) → AreArcLines n 0 [] []
arcs_none n = record { lines = []; arcs = []; cut = EndsLines-none; say = refl; each = tt; each_line = refl; each_arc = refl; of_arcs = refl }

pub arcs_one : (n : ℕ) (bytes : List ℕ) (link : Option Link) (rest : List ℕ) → (first : BeginsWithArc n bytes link rest) → AreArcLines n 1 (ended first.line) (option_to_list link)
arcs_one n bytes link rest first = record {
  lines = first.line ∷ [];
  arcs = first.arc ∷ [];
  cut = EndsLines-line [] [] [] first.line EndsLines-none first.is_line;
  say = inr (ArcLine first.arc, [], first.says, refl, refl);
  each = (first.is_arc, tt);
  each_line = refl;
  each_arc = refl;
  of_arcs = first.of_arc;
}

pub arcs_append : (n k m : ℕ) (xs ys : List ℕ) (links others : List Link) → AreArcLines n k xs links → AreArcLines n m ys others → AreArcLines n (k + m) (xs ++ ys) (links ++ others)
arcs_append n k m xs ys links others a b = record {
  lines = a.lines ++ b.lines;
  arcs = a.arcs ++ b.arcs;
  cut = EndsLines-more xs ys a.lines b.lines [] [] a.cut b.cut;
  say = subst (Say (a.lines ++ b.lines)) (sym (map-append ArcLine a.arcs b.arcs)) (Say-append a.lines b.lines (map ArcLine a.arcs) (map ArcLine b.arcs) a.say b.say);
  each = All-both (IsArcOf n) a.arcs b.arcs a.each b.each;
  each_line = omega (arith, length-append a.lines b.lines, a.each_line, b.each_line);
  each_arc = omega (arith, length-append a.arcs b.arcs, a.each_arc, b.each_arc);
  of_arcs = AreLinksOf-append a.arcs b.arcs links others a.of_arcs b.of_arcs;
}

-- one more line
pub arcs_more : (n k : ℕ) (done rest : List ℕ) (links : List Link) (link : Option Link) (after : List ℕ) → AreArcLines n k done links → (first : BeginsWithArc n rest link after)
    → AreArcLines n (k + 1) (done ++ ended first.line) (links ++ option_to_list link)
arcs_more n k done rest links link after are first = arcs_append n k 1 done (ended first.line) links (option_to_list link) are (arcs_one n rest link after first)

-- arcs have at most as many edges, and these have the arcs' endpoints
pub links_few : (arcs : List Arc) (links : List Link) → AreLinksOf arcs links → length links ≤ length arcs
links_few arcs links are =
    let kept = filter is_no_loop arcs in
    omega (arith, length-map links key_of, length-map kept arc_key, ap length are, length-filter_both is_no_loop (λ a. not (is_no_loop a)) (λ a. refl) arcs)

pub links_within : (n : ℕ) (arcs : List Arc) (links : List Link) → AllByRecursion (IsArcOf n) arcs → AreLinksOf arcs links → EndsUpTo n links
links_within n arcs links each are k d lt =
    let High : Key → Type 0 = λ key. key.2 ≤ n in
    let kept = filter is_no_loop arcs in
    let arcs_of : All (IsArcOf n) kept = All-filter is_no_loop (IsArcOf n) arcs (All-from_recursion (IsArcOf n) arcs each) in
    let keys : All High (map arc_key kept) =
    All-map High arc_key kept (λ i a within. let ends = (arcs_of i a within).0 in omega (arith, ends.tail_in_range, ends.head_in_range)) in
    subst High (get_or-map key_of links k d (key_of d) lt)
    (subst (All High) (sym are) keys k (key_of d) (omega (arith, lt, length-map links key_of)))

-- after lines of which this is stored come arc lines, at most as many as the problem still allows
pub kept_more : (size : ProblemSize) (count k : ℕ) (old links : List Link) (before : List (List ℕ)) (bytes : List ℕ) → AreKept (Some size) count old before
    → (are : AreArcLines size.vertices k bytes links) → k ≤ size.arcs - count → AreKept (Some size) (count + k) (old ++ links) (before ++ are.lines)
kept_more size count k old links before bytes (arcs, lawful, counted, of_arcs) are room = (
  arcs ++ are.arcs,
  record {
    say = subst (λ (ss : List Statement). Say (before ++ are.lines) (Problem size.vertices size.arcs ∷ ss)) (sym (map-append ArcLine arcs are.arcs))
        (Say-append before are.lines (Problem size.vertices size.arcs ∷ map ArcLine arcs) (map ArcLine are.arcs) lawful.say are.say);
    vertices = lawful.vertices;
    arc_lines = lawful.arc_lines;
    no_more = omega (arith, length-append arcs are.arcs, are.each_arc, counted, lawful.no_more, room);
    each = All-both (IsArcOf size.vertices) arcs are.arcs lawful.each are.each;
  },
  omega (arith, length-append arcs are.arcs, are.each_arc, counted),
  AreLinksOf-append arcs are.arcs old links of_arcs are.of_arcs,
)

pub within_more : (size : ProblemSize) (count k : ℕ) (old links : List Link) (bytes : List ℕ) → IsWithinSize (Some size) count old → AreArcLines size.vertices k bytes links
    → k ≤ size.arcs - count → IsWithinSize (Some size) (count + k) (old ++ links)
within_more size count k old links bytes within are room = (
  omega (arith, within.0, room),
  All-append (λ l. l.high ≤ size.vertices) old links within.1 (links_within size.vertices are.arcs links are.each are.of_arcs),
  omega (arith, length-append old links, within.2, links_few are.arcs links are.of_arcs, are.each_arc),
)

-- edges appended by one part of the bytes, and then by another
pub appends_both : (n count : ℕ) (bytes xs ys : List ℕ) (found : ArcLines) (room old middle new : List Link) → bytes ≡ xs ++ ys
    → AppendsOrNot n xs (Some count) old middle → FillsRoom n ys found room → new ≡ middle ++ take found.links room
    → AppendsOrNot n bytes (Some (count + found.lines)) old new
appends_both n count bytes xs ys found room old middle new whole first second more = search (arith, append_assoc, length-append, arcs_append)
