use Rattle.links.specs.Arc.{Arc}
use Rattle.gr_text.proofs.UsualLines.{usual_is_line}
use Rattle.gr_text.proofs.arc_lines.first_arc.Goals as goal

pub returns-in-Ok : goal.returns-in-Ok
returns-in-Ok c =
    let (line, usual, (fields, are, means), is) = c.in_ok-line.ensures in
    let (f, g, h, spelled, (u, wu, ku), (v, wv, kv), (w, ww, kw)) = rw c.in-ArcWhole.is at means in
    let arc : Arc = record { tail = u; head = v; weight = w } in
    let judged = c.in-Ok.ensures.judged arc (ku, kv, kw) in
    record {
      line = line;
      arc = arc;
      is_line = usual_is_line line usual;
      begins = is;
      says = (fields, are, (f, g, h, spelled, wu, wv, ww));
      is_arc = judged.0;
      of_arc = judged.1;
    }
