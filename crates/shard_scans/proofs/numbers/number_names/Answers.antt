use Rattle.std.proofs.Common.{◌≡◌, ℕ, ◌+◌, ◌<◌, length, get_or, set, sym, ap, ◌∙◌, subst, inl, inr, arith}
use Rattle.std.proofs.lemmas.Bool.{cases_lt}
use Rattle.std.proofs.lemmas.List.Edits.{fill_by_more}
use Rattle.shard_scans.specs.Numbers.{marks_of, number_of, IsMarked, HasItsName, new_name}
use Rattle.shard_scans.proofs.Numbering.{number_has_place, named_here, named_stays}
use Rattle.shard_scans.proofs.numbers.number_names.Goals as goal

pub loop-i-preserved : goal.loop-i-preserved
loop-i-preserved g c =
    let marks = marks_of c.args.numbers.now in
    let old = c.args.old.now in
    let changed = c.loop-i.changed in
    let i = c.loop-i.i in
    let seen = c.loop-i.invariant in
    let number : ℕ → ℕ = λ k. number_of marks (new_name c.args.labels.now (get_or old k 0)) in
    let x = c.new_name.result in
    let x_is : x ≡ new_name c.args.labels.now (get_or old i 0) = c.new_name.ensures in
    let marked : IsMarked marks x = subst (IsMarked marks) (sym x_is) (c.requires.marked i c.loop-i-test.true) in
    let within : i < length changed = omega (arith, c.loop-i-test.true, c.requires.room, c.loop-i.auto.changed) in
    let place = number_has_place c.args.numbers.now c.loop-i.names x (omega (arith, c.requires.names, c.loop-i.auto.names)) marked in
    let here : HasItsName marks c.name.new.names x = subst (λ n. HasItsName marks n x) (sym c.name.ensures.named) (named_here marks c.loop-i.names x marked place) in
    record {
      numbered = subst (λ n. (k : ℕ) → k < i + 1 → get_or (set changed i n) k 0 ≡ number k)
          (sym (c.name.ensures.number ∙ ap (number_of marks) x_is)) (fill_by_more number changed i 0 within seen.numbered);
      named = λ k lt. elim (cases_lt k i) [
        | inl less ↦
            let d = new_name c.args.labels.now (get_or old k 0) in
            subst (λ n. HasItsName marks n d) (sym c.name.ensures.named)
            (named_stays marks c.loop-i.names x marked d (c.requires.marked k (omega (arith, less, c.loop-i-test.true))) (seen.named k less))
        | inr le ↦
            let at : k ≡ i = omega (arith, lt, le) in
            subst (λ n. HasItsName marks c.name.new.names (new_name c.args.labels.now (get_or old n 0))) (sym at) (subst (HasItsName marks c.name.new.names) x_is here)
      ];
    }
