use Rattle.std.proofs.Common.{◌≡◌, ◌-◌, ◌∙◌, sym, ap, length, take, drop, ◌+◌, arith}
use Rattle.std.proofs.lemmas.List.{take_rest, length-append, length-drop}
use Rattle.frames.specs.FrameText.{text_of}
use Rattle.frames.specs.FrameValue.{value_of}
use Rattle.worker_replies.specs.Serving.{replies_in}
use Rattle.worker_replies.proofs.Sessions.{session_hears}
use Rattle.ports.proofs.EngineLines.{refused_left, grew_then}
use Rattle.ports.proofs.session.Session.hear_all.Goals as goal

pub loop-frame-preserved : goal.loop-frame-preserved
loop-frame-preserved g c =
    let heard = c.loop-frame.self-inside.heard in
    let input = c.loop-frame.self-inside.input.items in
    let slice : take (length input - heard) (drop heard input) ≡ drop heard input = take_rest input heard in
    let text = rw c.deref.ensures.value at c.in-Ok.ensures.text in
    record {
      within = omega (arith, ap length (sym slice ∙ text.1), length-append (text_of (value_of c.in-Ok.frame)) text.0, length-drop heard input, c.in-Ok.ensures.count, c.loop-frame.invariant.within);
      same_input = c.loop-frame.invariant.same_input;
      grew = grew_then _ _ _ c.loop-frame.invariant.grew c.in_ok-write_reply-in-Ok.ensures.grew;
      session = λ w start.
          session_hears w _ _ input c.loop-frame.self-inside.out.items _ text.0 heard (heard + c.in-Ok.count) (value_of c.in-Ok.frame) (replies_in c.in_ok-reply-in-Ok.reply)
          c.in-Ok.ensures.lawful (sym slice ∙ text.1) (ap (λ n. heard + n) c.in-Ok.ensures.count) c.in_ok-reply-in-Ok.ensures.shelf
          c.in_ok-reply-in-Ok.ensures.reply c.in_ok-write_reply-in-Ok.ensures.wrote
          (c.loop-frame.invariant.session w start);
    }

pub returns-in-Err-clause-all : goal.returns-in-Err-clause-all
returns-in-Err-clause-all g c =
    let heard = c.loop-frame.self-inside.heard in
    let input = c.loop-frame.self-inside.input.items in
    let slice : take (length input - heard) (drop heard input) ≡ drop heard input = take_rest input heard in
    refused_left c.begins_no_frame.result c.in-Err.fault _ (drop heard input) slice (rw c.deref.ensures.value at c.in-Err.ensures.refused) c.begins_no_frame.ensures

pub returns-in_err-write_reply-in-Ok-clause-grew : goal.returns-in_err-write_reply-in-Ok-clause-grew
returns-in_err-write_reply-in-Ok-clause-grew g c =
    rw (sym c.self.view_is) (grew_then _ _ _ c.loop-frame.invariant.grew c.in_err-write_reply-in-Ok.ensures.grew)
