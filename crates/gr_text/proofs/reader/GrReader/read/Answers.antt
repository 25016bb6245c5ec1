use Rattle.std.proofs.Common.{ℕ, List, [], ◌+◌, ◌++◌, length, refl, ap, sym, ◌∙◌, subst, append_assoc, append-nil, arith, rules}
use Rattle.gr_text.specs.Lines.{ended}
use Rattle.gr_text.specs.Reader.{ReaderValue, Stands, StopsAt}
use Rattle.gr_text.proofs.Standing.{Stands-fed, Stands-part, Stands-line, StopsAt-line, piece_line}
use Rattle.gr_text.proofs.reader.GrReader.read.Goals as goal

pub loop-line-init : goal.loop-line-init
loop-line-init g c = record {
  limit = ap (λ (r : ReaderValue). r.limit) c.self.view_is;
  fed = ap (λ (r : ReaderValue). r.fed + length c.args.piece.now) c.self.view_is;
  fault = ap (λ (r : ReaderValue). r.fault) c.self.view_is;
  within = search rules;
  few_lines = search rules;
  stands = λ swap text stands.
      ([], refl, subst (Stands swap _) (sym (append-nil text)) (Stands-fed _ _ text (subst (λ (r : ReaderValue). Stands swap r text) (sym c.self.view_is) stands)));
}

pub returns-in-Err-clause-judged : goal.returns-in-Err-clause-judged
returns-in-Err-clause-judged g c = λ swap text stands.
    let after = c.in-Some.after.now in
    let (done, is, now) = c.loop-line.invariant.stands swap text stands in
    let (fresh, (line, is_line, ends, whole)) = c.in-Some.ensures.ends now.part now.kept in
    subst (StopsAt c.in-Err.fault) (piece_line text c.args.piece.now done c.loop-line.rest.now line after is ends)
    (StopsAt-line c.in-Err.fault _ (text ++ done) line after now is_line (c.in-Err.ensures swap now.lines (now.part ++ line) now.give whole))

pub loop-line-preserved : goal.loop-line-preserved
loop-line-preserved g c =
    let kept = c.loop-line.self-inside in
    let before = c.loop-line.invariant in
    record {
      limit = before.limit;
      fed = before.fed;
      fault = before.fault;
      within = before.within;
      few_lines = omega (arith, c.in-Some.ensures.shorter, before.few_lines);
      stands = λ swap text stands.
          let partial = c.next_line.new.self in
          let so_far = c.take_line.new.self in
          let (done, is, now) = before.stands swap text stands in
          let (fresh, (line, is_line, ends, whole)) = c.in-Some.ensures.ends now.part now.kept in
          let taken = c.in-Ok.ensures swap now.lines (now.part ++ line) now.give whole in (
            done ++ ended line,
            is ∙ ap (λ (xs : List ℕ). done ++ xs) ends ∙ sym (append_assoc done (ended line) c.in-Some.after.now),
            subst (Stands swap _) (append_assoc text done (ended line)) (Stands-line _ partial so_far (text ++ done) line now is_line fresh taken),
          );
    }

pub returns-clause-judged : goal.returns-clause-judged
returns-clause-judged g c = λ swap text stands.
    let rest = c.loop-line.rest.now in
    let (done, is, now) = c.loop-line.invariant.stands swap text stands in
    let (is_line, kept) = c.in_default.ensures.goes_on now.part now.kept in
    subst (Stands swap _) (append_assoc text done rest ∙ ap (λ (xs : List ℕ). text ++ xs) (sym is)) (Stands-part _ c.next_line.new.self (text ++ done) rest now is_line kept)
