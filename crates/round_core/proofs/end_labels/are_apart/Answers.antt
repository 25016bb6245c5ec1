use Rattle.std.proofs.Common.{◌≡◌, ℕ, ◌+◌, ◌-◌, get_or, ap, sym, ◌∙◌, arith}
use Rattle.std.proofs.lemmas.Bool.Decides.{nat_tests}
use Rattle.round_core.proofs.end_labels.are_apart.Goals as goal

pub returns-then-labels-i : goal.returns-then-labels-i
returns-then-labels-i c = (
  λ wrong. absurd (cc),
  λ are.
      let labels = c.args.labels.now in
      let i : ℕ = c.loop-i.i in
      let place : i + 1 - 1 ≡ i = omega arith in
      let own : get_or labels i 0 ≡ i + 1 = sym (ap (λ (k : ℕ). get_or labels k 0) place) ∙ are.itself (i + 1) (omega arith) (omega (arith, c.loop-i-test.true)) in
      let other = c.if-labels-i.true in
      absurd (grind (arith, nat_tests)),
)
