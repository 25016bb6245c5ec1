use Rattle.std.proofs.Common.{ℕ, ◌+◌, List, [], ◌++◌, length, length-append, take, refl, ap, sym, ◌∙◌, subst, append_assoc, arith, rules}
use Rattle.std.proofs.lemmas.List.{length_push}
use Rattle.links.specs.declared.links.Link.{Link}
use Rattle.gr_text.specs.Lines.{line_feed, ended}
use Rattle.gr_text.specs.ArcLines.{AreArcLines}
use Rattle.gr_text.proofs.ArcLineParts.{arcs_none, arcs_more}
use Rattle.gr_text.proofs.arc_lines.read_arc_lines.Goals as goal

pub loop-link-init : goal.loop-link-init
loop-link-init c = search (arith, arcs_none)

pub loop-link-preserved : goal.loop-link-preserved
loop-link-preserved c =
    let before = c.loop-link.invariant in
    let first = c.in-Some.ensures in
    let n = c.args.size.vertices in
    let after = c.in-Some.after.now in
    record {
      room = c.in_ok-found.ensures.len ∙ before.room;
      within = c.in_ok-found.ensures.within;
      few = omega (arith, before.few, ap length first.begins, length-append (ended first.line) after, length_push first.line line_feed);
      are = let (done, is, are) = before.are in (
        done ++ ended first.line,
        is ∙ ap (λ (xs : List ℕ). done ++ xs) first.begins ∙ sym (append_assoc done (ended first.line) after),
        subst (λ (links : List Link). AreArcLines n (c.loop-link.found.lines + 1) (done ++ ended first.line) links) (sym c.in_ok-found.ensures.put)
            (arcs_more n c.loop-link.found.lines done c.loop-link.rest.now (take c.loop-link.found.links c.loop-link.room) c.in-Some.link after are first),
      );
    }
