use Rattle.std.proofs.Common.{◌≡◌, ◌∙◌, false, ◌≤◌, ◌+◌, ◌*◌, ◌/◌, ◌++◌, List, ℕ, length, take, drop, sym, subst, All, arith, rules}
use Rattle.std.specs.List.{flat_map}
use Rattle.std.proofs.lemmas.List.{length-append, length-drop}
use Rattle.std.proofs.lemmas.Result.{err_from_is_err_and}
use Rattle.byte_streams.specs.Streams.{Gave}
use Rattle.byte_streams.proofs.Streaming.{gave_more}
use Rattle.frames.specs.FrameText.{u32_text}
use Rattle.frames.specs.Lawful.{IsU32}
use Rattle.std.specs.Prelude.{◌↔◌, IsTrue}
use Rattle.frames.specs.NextFrame.{AreCoarserUpTo, AreOthers, numbers_of_ask}
use Rattle.frames.proofs.CoarserLabels.{others_within, others_so_far, stayed, not_again, came_more, all_of_ask, all_others}
use Rattle.frames.proofs.NextFrames.{bytes_of, more_text, stopped_in, stopped_at}
use Rattle.frames.proofs.next_frame.read_numbers.Goals.{then-are_coarser, else-are_coarser}
use Rattle.frames.proofs.next_frame.read_numbers.Goals as goal

pub returns-in_err-read_bytes-clause-stopped : goal.returns-in_err-read_bytes-clause-stopped
returns-in_err-read_bytes-clause-stopped g c =
    let p = err_from_is_err_and c.from_residual.result c.from_residual.ensures.1 in
    let numbers = numbers_of_ask (take c.loop-came.came c.args.last.now) c.loop-came.numbers in
    let count : length c.read_bytes.new.bytes ≡ 4 * c.min-count.result = search rules in
    let within : c.loop-came.came + c.min-count.result ≤ length c.args.last.now = search rules in
    rw (p.1, p.2) (stopped_in _ (length c.read_bytes.new.bytes) (4 * length c.args.last.now) (flat_map u32_text numbers) _ _ _
    (omega (arith, count, within, bytes_of numbers, c.loop-came.invariant.counted)) c.loop-came.invariant.gave c.in_err-read_bytes.ensures.short)

pub returns-in_err-hear_piece-clause-stopped : goal.returns-in_err-hear_piece-clause-stopped
returns-in_err-hear_piece-clause-stopped g c =
    let p = err_from_is_err_and c.from_residual-in_err-hear_piece.result c.from_residual-in_err-hear_piece.ensures.1 in
    let numbers = numbers_of_ask (take c.loop-came.came c.args.last.now) c.loop-came.numbers in
    let count : length c.read_bytes.new.bytes ≡ 4 * c.min-count.result = search rules in
    let within : c.loop-came.came + c.min-count.result ≤ length c.args.last.now = search rules in
    rw (p.1, p.2) (stopped_at (4 * length c.args.last.now) (flat_map u32_text numbers) c.read_bytes.new.bytes _ _ _
    (omega (arith, count, within, bytes_of numbers, c.loop-came.invariant.counted)) c.loop-came.invariant.gave c.in_ok-read_bytes.ensures.came)

pub loop-came-preserved : goal.loop-came-preserved
loop-came-preserved g c =
    let last = c.args.last.now in
    let came = c.loop-came.came in
    let k = c.min-count.result in
    let old = c.loop-came.numbers in
    let new = c.hear_piece.new.numbers in
    let before = numbers_of_ask (take came last) old in
    let after = numbers_of_ask (take (came + k) last) new in
    let piece = c.read_bytes.new.bytes in
    let count : length piece ≡ 4 * k = search rules in
    let within : came + k ≤ length last = search rules in
    let most : k ≤ 16384 = search rules in
    let items : length piece / 4 ≡ k = omega (arith, count) in
    let heard = c.in_ok-hear_piece.ensures.heard in
    let came_k = came_more last came k piece old new count within c.loop-came.invariant.counted heard in
    let text : flat_map u32_text after ≡ flat_map u32_text before ++ piece = more_text before heard.more after piece came_k.is heard.spelled in
    record {
      within = within;
      room = omega (arith, length-append piece (drop (4 * k) c.loop-came.buffer), length-drop (4 * k) c.loop-came.buffer, count, most, c.loop-came.invariant.room);
      counted = came_k.long;
      others = subst (λ (n : ℕ). AreOthers last (came + n) new) items c.in_ok-hear_piece.ensures.others;
      coarser = elim c.if-are_coarser.branch [
        | then-are_coarser w ↦ rw w.are_coarser-is (stayed last c.requires.labels old new came k heard.more came_k w.stay_coarser-are_coarser.result
            w.stay_coarser-are_coarser.ensures.others w.stay_coarser-are_coarser.ensures.same)
        | else-are_coarser w ↦
            let off : c.if-are_coarser.are_coarser ≡ false = w.are_coarser-is ∙ w.if-are_coarser.false in
            let never : AreCoarserUpTo last before came → ⊥ = λ all. (let t : IsTrue c.loop-came.are_coarser = c.loop-came.invariant.coarser.1 all in cc) in (
              λ t. absurd (let f : IsTrue c.if-are_coarser.are_coarser = t in cc),
              λ all. absurd (not_again last c.requires.labels old new came k heard.more came_k never all),
            )
      ];
      gave = subst (λ (t : List ℕ). Gave 0 0 t (g.S.Source.state c.args.source.now) (g.S.Source.state c.read_bytes.new.source)) (sym text)
          (gave_more 0 0 (flat_map u32_text before) piece _ _ _ c.loop-came.invariant.gave c.in_ok-read_bytes.ensures.came);
      fit = λ all. subst (λ (n : ℕ). All IsU32 (numbers_of_ask (take (came + n) last) new)) items (c.in_ok-hear_piece.ensures.fit (c.loop-came.invariant.fit all));
      lasts = λ fact held. c.in_ok-read_bytes.ensures.kept.lasts fact (c.loop-came.invariant.lasts fact held);
      can = c.in_ok-read_bytes.ensures.kept.again;
    }

pub stay_coarser-are_coarser-requires-clause-within : goal.stay_coarser-are_coarser-requires-clause-within
stay_coarser-are_coarser-requires-clause-within g c =
    let last = c.args.last.now in
    let came = c.loop-came.came in
    let k = c.min-count.result in
    let old = c.loop-came.numbers in
    let new = c.hear_piece.new.numbers in
    let piece = c.read_bytes.new.bytes in
    others_within last c.requires.labels old new came k c.in_ok-hear_piece.ensures.heard.more
    (came_more last came k piece old new (search rules) (search rules) c.loop-came.invariant.counted c.in_ok-hear_piece.ensures.heard)

pub stay_coarser-are_coarser-requires-clause-so_far : goal.stay_coarser-are_coarser-requires-clause-so_far
stay_coarser-are_coarser-requires-clause-so_far g c =
    let last = c.args.last.now in
    let came = c.loop-came.came in
    let k = c.min-count.result in
    let old = c.loop-came.numbers in
    let new = c.hear_piece.new.numbers in
    let piece = c.read_bytes.new.bytes in
    others_so_far last c.requires.labels old new came k c.in_ok-hear_piece.ensures.heard.more
    (came_more last came k piece old new (search rules) (search rules) c.loop-came.invariant.counted c.in_ok-hear_piece.ensures.heard)
    (c.loop-came.invariant.coarser.0 c.if-are_coarser.true)

pub returns-clause-coarser : goal.returns-clause-coarser
returns-clause-coarser g c = search (arith, all_of_ask)

pub returns-clause-others : goal.returns-clause-others
returns-clause-others g c = all_others c.args.last.now c.loop-came.came c.loop-came.numbers (omega arith) c.loop-came.invariant.others
