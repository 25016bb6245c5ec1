use Rattle.std.proofs.Common.{◌≡◌, ◌+◌, ◌-◌, ◌≤◌, ◌++◌, List, subst, sym, Option, Some, rules}
use Rattle.links.specs.declared.links.Link.{Link}
use Rattle.gr_text.specs.LinesSoFar.{LinesSoFarValue, AreKept, KeepsLinesBut, IsWithinSize}
use Rattle.gr_text.specs.declared.sizes.ProblemSize.{ProblemSize}
use Rattle.gr_text.proofs.ArcLineParts.{kept_more, within_more}
use Rattle.gr_text.proofs.Swaps.{differ_more}
use Rattle.gr_text.proofs.lines_so_far.LinesSoFar.take_arcs.Goals as goal

pub invariant_of-self : goal.invariant_of-self
invariant_of-self g c =
    let was = c.self.inside in
    let size = c.in_ok-size.size in
    let count = was.count + c.in-Some.count in
    let done = c.in-Some.ensures in
    let added : c.append_arc_lines.new.links.items ≡ was.links.items ++ done.more = done.appended in
    let room : c.in-Some.count ≤ size.arcs - was.count = search rules in
    let within = subst (λ (s : Option ProblemSize). IsWithinSize s was.count was.links.items) c.in_ok-size.was c.self.invariant in
    subst (λ (s : Option ProblemSize). IsWithinSize s count c.append_arc_lines.new.links.items) (sym c.in_ok-size.was)
    (subst (λ (xs : List Link). IsWithinSize (Some size) count xs) (sym added)
    (within_more size was.count c.in-Some.count was.links.items done.more c.args.bytes.now within done.found.1 room))

pub returns-in-Some : goal.returns-in-Some
returns-in-Some g c =
    let was = c.self.inside in
    let size = c.in_ok-size.size in
    let count = was.count + c.in-Some.count in
    let done = c.in-Some.ensures in
    let are = done.found.1 in
    let added : c.append_arc_lines.new.links.items ≡ was.links.items ++ done.more = done.appended in
    let room : c.in-Some.count ≤ size.arcs - was.count = search rules in
    record {
      lines = are.lines;
      cut = are.cut;
      each_line = are.each_line;
      few = done.found.0;
      gives = λ swap before gives.
          let (all, by, known) = subst (λ (v : LinesSoFarValue). KeepsLinesBut swap v before) (sym c.self.view_is) gives in
          let kept = subst (λ (s : Option ProblemSize). AreKept s was.count all before) c.in_ok-size.was known in
          let lines = before ++ are.lines in (
            all ++ done.more,
            differ_more done.more c.append_arc_lines.new.links.items by added,
            subst (λ (s : Option ProblemSize). AreKept s count (all ++ done.more) lines) (sym c.in_ok-size.was)
                (kept_more size was.count c.in-Some.count all done.more before c.args.bytes.now kept are room),
          );
    }
