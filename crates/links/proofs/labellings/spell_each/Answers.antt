use Rattle.std.proofs.Common.{ℕ, List, [], map, sym, ◌∙◌, arith}
use Rattle.std.specs.Int.{w32, to_be_bytes}
use Rattle.std.proofs.lemmas.List.{ext_get_or, get_or-map, length-map}
use Rattle.links.proofs.labellings.spell_each.Goals as goal

pub returns : goal.returns
returns c =
    let labels = c.args.labels.now in
    let bytes : List ℕ = [] in
    ext_get_or bytes _ (map (to_be_bytes w32) labels) (omega (arith, c.loop-i.invariant.room, length-map labels (to_be_bytes w32)))
    (λ k lt. c.loop-i.invariant.spelled k bytes (omega (arith, lt, c.loop-i.invariant.room, c.loop-i-test.false, c.loop-i.auto.i-end))
    ∙ sym (get_or-map (to_be_bytes w32) labels k 0 bytes (omega (arith, lt, c.loop-i.invariant.room))))
