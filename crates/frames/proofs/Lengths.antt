-- Lengths of bodies with items.
use Rattle.std.proofs.Common.{◌≡◌, ℕ, ◌-◌, ◌*◌, ◌/◌, ◌%◌, ◌<◌, ◌≤◌, leb, IsTrue, arith, ap, ◌∙◌}
use Rattle.std.proofs.Math.Nat.{mul-div_cancel_left}
use Rattle.std.proofs.lemmas.Bool.{le-leb, leb-true}
use Rattle.frames.specs.Refusals.{IsWithItems}

pub items_iff : (fixed item most len : ℕ) → 0 < item → fixed ≤ len → (len - fixed) % item ≡ 0
    → (IsTrue (leb ((len - fixed) / item) most) → IsWithItems fixed item most len) × (IsWithItems fixed item most len → IsTrue (leb ((len - fixed) / item) most))
items_iff fixed item most len some within whole = (
  λ test. ((len - fixed) / item, leb-true _ _ test, omega arith),
  λ (count, few, is).
      let there : len - fixed ≡ item * count = omega arith in
      let count-is : (len - fixed) / item ≡ count = ap (λ n. n / item) there ∙ mul-div_cancel_left count some in
      le-leb _ _ (omega arith),
)
