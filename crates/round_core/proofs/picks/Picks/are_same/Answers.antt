use Rattle.std.proofs.Common.{ℕ, sym, ◌∙◌, eqb-true, eq-eqb}
use Rattle.round_core.proofs.PickNumbers.{number_at, same_pick}
use Rattle.round_core.proofs.picks.Picks.are_same.Goals as goal

pub returns : goal.returns
returns g c =
    let j : ℕ = c.index.result.now in
    let k : ℕ = c.index-2.result.now in
    let one = number_at c.self.inside.numbers.items c.args.self.now c.args.one j c.self.view_is c.self.invariant c.requires.one c.index.ensures in
    let other = number_at c.self.inside.numbers.items c.args.self.now c.args.other k c.self.view_is c.self.invariant c.requires.other c.index-2.ensures in
    let same = same_pick j k one.0 other.0 in
    (λ tested. one.1 ∙ same.0 (eqb-true j k tested) ∙ sym other.1, λ picked. eq-eqb j k (same.1 (sym one.1 ∙ picked ∙ other.1)))
