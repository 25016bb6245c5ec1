use Rattle.std.proofs.Common.{ℕ, List, [], map, sym, ◌∙◌, arith}
use Rattle.std.specs.Int.{w32, from_be_bytes}
use Rattle.std.proofs.lemmas.List.{ext_get_or, get_or-map, length-map}
use Rattle.frames.proofs.next_frame.read_cells.Goals as goal

pub returns : goal.returns
returns c =
    let cells = c.args.cells.now in
    let bytes : List ℕ = [] in
    ext_get_or 0 _ (map (from_be_bytes w32) cells) (omega (arith, c.requires, length-map cells (from_be_bytes w32)))
    (λ k lt. c.loop-i.invariant.read k bytes (omega (arith, lt, c.requires, c.loop-i-test.false)) ∙ sym (get_or-map (from_be_bytes w32) cells k bytes 0 (omega (arith, lt, c.requires))))
