use Rattle.std.proofs.Common.{◌≢◌, ℕ, List, ◌∷◌, [], ◌++◌, take, get_or, sym, subst, ap, ◌∙◌, append_assoc}
use Rattle.std.proofs.lemmas.List.{take_more}
use Rattle.gr_text.specs.Lines.{line_feed, IsLine}
use Rattle.gr_text.specs.PartialLine.{IsKeptAs}
use Rattle.gr_text.proofs.Alls.{All-push}
use Rattle.gr_text.proofs.partial_line.PartialLine.next_by_bytes.Goals as goal

pub loop-place-preserved : goal.loop-place-preserved
loop-place-preserved c =
    let bytes = c.args.bytes.now in
    let place = c.loop-place.place in
    let more = take_more bytes place 0 c.loop-place-test.true in
    record {
      line = subst IsLine (sym more) (All-push (λ b. b ≢ line_feed) (take place bytes) _ c.loop-place.invariant.line c.if-byte-eq10.false);
      kept = λ part kept.
          subst (IsKeptAs c.with-partial.result) (append_assoc part (take place bytes) (get_or bytes place 0 ∷ []) ∙ ap (λ (xs : List ℕ). part ++ xs) (sym more))
          (c.with-partial.ensures (part ++ take place bytes) (c.loop-place.invariant.kept part kept));
    }
