use Rattle.std.proofs.Common.{◌≡◌, ℕ, ◌<◌, List, [], length, map, get_or, sym, ap, ◌∙◌, arith}
use Rattle.std.specs.Int.{w32, from_be_bytes}
use Rattle.std.proofs.lemmas.List.{ext_get_or, get_or-map, length-map}
use Rattle.frames.proofs.items.are_cells_of.Goals as goal

pub returns : goal.returns
returns c =
    let cells = c.args.cells.now in
    let numbers = c.args.numbers.now in
    let bytes : List ℕ = [] in
    let number : (k : ℕ) (d : List ℕ) → k < length numbers → get_or (map (from_be_bytes w32) cells) k 0 ≡ from_be_bytes w32 (get_or cells k d) =
    λ k d lt. get_or-map (from_be_bytes w32) cells k d 0 (omega (arith, lt, c.requires)) in (
      λ same. ext_get_or 0 numbers (map (from_be_bytes w32) cells) (omega (arith, c.requires, length-map cells (from_be_bytes w32)))
          (λ k lt. sym (number k bytes lt ∙ c.loop-i.invariant.0 same k bytes (omega (arith, lt, c.requires, c.loop-i-test.false)))),
      λ are. c.loop-i.invariant.1 (λ k d lt. sym (number k d (omega (arith, lt, c.requires, c.loop-i-test.false))) ∙ ap (λ (ns : List ℕ). get_or ns k 0) (sym are)),
    )
