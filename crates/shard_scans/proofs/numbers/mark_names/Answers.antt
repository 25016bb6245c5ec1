use Rattle.std.proofs.Common.{◌≡◌, get_or, refl, sym, ◌∙◌, subst, inl, inr, arith}
use Rattle.std.proofs.lemmas.Bool.{cases_lt}
use Rattle.shard_scans.specs.Numbers.{marks_of, IsMarked, new_name}
use Rattle.shard_scans.proofs.Numbering.{new_name_has_word}
use Rattle.shard_scans.proofs.numbers.mark_names.Goals as goal

pub mark-requires-clause-from_one : goal.mark-requires-clause-from_one
mark-requires-clause-from_one g c = rw c.new_name.ensures ((new_name_has_word c.args.labels.now _ _ c.requires.labels (c.loop-i.invariant.words ∙ c.requires.words)).0)

pub mark-requires-clause-in_words : goal.mark-requires-clause-in_words
mark-requires-clause-in_words g c = rw c.new_name.ensures ((new_name_has_word c.args.labels.now _ _ c.requires.labels (c.loop-i.invariant.words ∙ c.requires.words)).1)

pub loop-i-preserved : goal.loop-i-preserved
loop-i-preserved g c =
    let seen = c.loop-i.invariant in
    let i = c.loop-i.i in
    record {
      words = c.mark.ensures.words ∙ seen.words;
      marked = λ k lt. elim (cases_lt k i) [
        | inl less ↦ (c.mark.ensures.marked _).1 (inr (seen.marked k less))
        | inr le ↦
            let at : k ≡ i = omega (arith, lt, le) in
            subst (λ n. IsMarked (marks_of c.mark.new.self) (new_name c.args.labels.now (get_or c.args.names.now n 0))) (sym at)
            (subst (IsMarked (marks_of c.mark.new.self)) c.new_name.ensures ((c.mark.ensures.marked _).1 (inl refl)))
      ];
    }
