use Rattle.std.proofs.Common.{ap, map, arith}
use Rattle.std.specs.Int.{w32, from_be_bytes}
use Rattle.frames.proofs.Listed.{numbers_are}
use Rattle.frames.proofs.NextFrames.{pushed}
use Rattle.frames.proofs.next_frame.push_numbers.Goals as goal

pub returns : goal.returns
returns g c =
    let numbers = map (from_be_bytes w32) c.as_chunks.result.0.now in
    pushed c.extend_from_slice.result _ c.args.numbers.now.items c.read_cells.new.numbers numbers c.args.piece.now c.extend_from_slice.ensures.items c.read_cells.ensures
    (numbers_are c.args.piece.now numbers c.requires.whole (λ i. omega (arith, c.type_inv.piece i)) (ap (map (from_be_bytes w32)) c.as_chunks.ensures.front))
