use Rattle.std.proofs.Common.{◌≡◌, ◌≤◌, ◌+◌, ◌-◌, ◌++◌, ℕ, length, drop, subst, arith, rules}
use Rattle.std.proofs.lemmas.List.{length-append, length-drop}
use Rattle.std.proofs.lemmas.Result.{err_from_is_err_and}
use Rattle.frames.proofs.NextFrames.{stopped_in, stopped_at}
use Rattle.byte_streams.proofs.Streaming.{gave_more}
use Rattle.frames.proofs.list_reader.read_list.Goals as goal

pub returns-in_err-read_bytes-clause-stopped : goal.returns-in_err-read_bytes-clause-stopped
returns-in_err-read_bytes-clause-stopped g c =
    let p = err_from_is_err_and c.from_residual-in_err-read_bytes.result c.from_residual-in_err-read_bytes.ensures.1 in
    let so_far = c.loop-left.invariant.came in
    let count : length c.read_bytes.new.bytes ≡ c.piece_of-count.result = search rules in
    rw (p.1, p.2) (stopped_in _ (length c.read_bytes.new.bytes) c.args.len so_far.bytes _ _ _
    (omega (arith, count, so_far.counted, c.piece_of-count.ensures.within, c.loop-left.invariant.within)) so_far.gave c.in_err-read_bytes.ensures.short)

pub returns-in_err-hear-clause-stopped : goal.returns-in_err-hear-clause-stopped
returns-in_err-hear-clause-stopped g c =
    let p = err_from_is_err_and c.from_residual-in_err-hear.result c.from_residual-in_err-hear.ensures.1 in
    let so_far = c.loop-left.invariant.came in
    let count : length c.read_bytes.new.bytes ≡ c.piece_of-count.result = search rules in
    rw (p.1, p.2) (stopped_at c.args.len so_far.bytes c.read_bytes.new.bytes _ _ _
    (omega (arith, count, so_far.counted, c.piece_of-count.ensures.within, c.loop-left.invariant.within)) so_far.gave c.in_ok-read_bytes.ensures.came)

pub loop-left-preserved : goal.loop-left-preserved
loop-left-preserved g c =
    let piece = c.read_bytes.new.bytes in
    let count : length piece ≡ c.piece_of-count.result = search rules in
    let within : c.piece_of-count.result ≤ c.loop-left.left = c.piece_of-count.ensures.within in
    let behind : c.loop-left.left ≡ length piece + (c.loop-left.left - c.piece_of-count.result) = omega (arith, count, within) in
    let so_far = c.loop-left.invariant.came in
    record {
      within = omega (arith, c.loop-left.invariant.within);
      room = omega (
        arith,
        length-append piece (drop c.piece_of-count.result c.loop-left.buffer),
        length-drop c.piece_of-count.result c.loop-left.buffer,
        count,
        c.piece_of-count.ensures.fits,
        c.loop-left.invariant.room,
      );
      came = record {
        bytes = so_far.bytes ++ piece;
        counted = omega (arith, length-append so_far.bytes piece, so_far.counted, count, within, c.loop-left.invariant.within);
        gave = gave_more 0 0 so_far.bytes piece _ _ _ so_far.gave c.in_ok-read_bytes.ensures.came;
        heard = c.in_ok-hear.ensures.heard _ so_far.bytes (c.make_room.ensures.heard _ so_far.bytes so_far.heard);
      };
      awaits = c.in_ok-hear.ensures.awaits _ (c.make_room.ensures.awaits _ (subst (λ (n : ℕ). g.L.Hears.awaits c.loop-left.list n) behind c.loop-left.invariant.awaits));
      wants = λ w. c.loop-left.invariant.wants (c.make_room.ensures.wants (c.hear.ensures.wants w));
      lasts = λ fact held. c.in_ok-read_bytes.ensures.kept.lasts fact (c.loop-left.invariant.lasts fact held);
      can = c.in_ok-read_bytes.ensures.kept.again;
    }
