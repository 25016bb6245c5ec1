use Rattle.std.proofs.Common.{◌≡◌, ◌≢◌, ◌<◌, length, ◌∷◌, List, ℕ, pos, neg_ℤ, inl, inr, refl, ap, ◌∙◌, get_or, rules}
use Rattle.gr_text.proofs.UsualLines.{begins_one, never_empty, never_minus, never_plus}
use Rattle.gr_text.proofs.usual_line.short_weight.Goals as goal
use Rattle.gr_text.proofs.usual_line.short_weight.Goals.{then-bytes-lt1, else-bytes-lt1+in_default-1}

pub returns-in-45 : goal.returns-in-45
returns-in-45 c =
    let (field, short, (n, writes, capped), (end, ends, is)) = c.in_ok-size.ensures in
    let minus : get_or c.args.bytes.now 0 0 ≡ 45 = search rules in (
      45 ∷ field,
      inr (field, refl, short),
      (neg_ℤ (pos n), inr (field, n, refl, writes, refl), (n, refl, capped)),
      (end, ends, begins_one c.args.bytes.now 45 c.in-45.len_at_least minus ∙ ap (λ (xs : List ℕ). 45 ∷ xs) is),
    )

pub returns : goal.returns
returns c =
    let (field, short, (n, writes, capped), is) = c.in_ok-size-2.ensures in
    (field, inl short, (pos n, inl (n, writes, refl), (n, refl, capped)), is)

pub returns-in_err-size : goal.returns-in_err-size
returns-in_err-size c =
    let minus : get_or c.args.bytes.now 0 0 ≡ 45 = search rules in
    rw c.from_residual.ensures (never_minus c.args.bytes.now _ (begins_one c.args.bytes.now 45 c.in-45.len_at_least minus) c.in_err-size.ensures)

pub returns-in_err-size-2 : goal.returns-in_err-size-2
returns-in_err-size-2 c =
    let bytes = c.args.bytes.now in
    let other : (digits : List ℕ) → bytes ≢ 45 ∷ digits = elim c.if-bytes-lt1.branch [
      | then-bytes-lt1 w ↦ (let none : length bytes < 1 = search rules in λ digits is. never_empty bytes 45 digits none is)
      | else-bytes-lt1+in_default-1 w ↦ (let first : get_or bytes 0 0 ≢ 45 = search rules in λ digits is. first (ap (λ (xs : List ℕ). get_or xs 0 0) is))
    ] in
    rw c.from_residual-in_err-size-2.ensures (never_plus bytes other c.in_err-size-2.ensures)
