use Rattle.std.proofs.Common.{rules, ◌≡◌, ◌≢◌, ℕ, ◌<◌, ◌≤◌, length, List, [], ◌∷◌, ◌++◌, inr, refl, ap, ◌∙◌, get_or}
use Rattle.gr_text.proofs.UsualLines.{begins_one, never_empty, never_last, never_feed}
use Rattle.gr_text.proofs.usual_line.last_number.Goals as goal
use Rattle.gr_text.proofs.usual_line.last_number.Goals.{then-is_empty-via-then-is_empty, then-is_empty-via-else-is_empty+then-rest-ne10}

pub returns : goal.returns
returns c =
    let (field, short, keeps, is) = c.in_ok-number.ensures in
    let rest = c.in_ok-number.rest.now in
    let feed : get_or rest 0 0 ≡ 10 = search rules in
    let some : 1 ≤ length rest = search rules in
    (field, short, keeps, (13 ∷ [], inr refl, is ∙ ap (λ (xs : List ℕ). field ++ 13 ∷ xs) (begins_one rest 10 some feed)))

pub returns-then-is_empty : goal.returns-then-is_empty
returns-then-is_empty c =
    let bytes = c.args.bytes.now in
    let after = c.in_ok-number.rest.now in
    let other : (rest : List ℕ) → after ≢ 10 ∷ rest = elim c.then-is_empty.branch [
      | then-is_empty-via-then-is_empty w ↦ (let none : length after < 1 = search rules in λ rest is. never_empty after 10 rest none is)
      | then-is_empty-via-else-is_empty+then-rest-ne10 w ↦ λ rest is. w.if-rest-ne10.true (ap (λ (xs : List ℕ). get_or xs 0 0) is)
    ] in
    never_last bytes c.in_default.ensures (never_feed c.in_ok-number.number bytes after c.in_ok-number.ensures other)
