use Rattle.std.proofs.Common.{◌≡◌, ◌-◌, ◌/◌, ◌%◌, ◌<◌, ◌⊎◌, List, length, set, refl, ap, subst, arith}
use Rattle.std.specs.Prelude.{◌↔◌}
use Rattle.shard_scans.specs.declared.numbers.MarkWord.{MarkWord}
use Rattle.shard_scans.specs.Numbers.{marks_of, IsMarked}
use Rattle.shard_scans.proofs.Numbering.{with_bit, word_marks}
use Rattle.shard_scans.proofs.numbers.Numbers.mark.Goals as goal

pub returns-clause-marked : goal.returns-clause-marked
returns-clause-marked g c = λ d.
    let words = c.self.inside.words.items in
    let at = (c.args.label - 1) / 64 in
    let w = c.index_mut.result.now in
    let new : MarkWord = record { marks = with_bit w.marks ((c.args.label - 1) % 64); before = w.before } in
    let within : at < length words = omega (arith, c.requires.in_words, ap (λ (t : List MarkWord). length t) c.self.view_is) in
    subst (λ ws. IsMarked (marks_of (set words at new)) d ↔ ((d ≡ c.args.label) ⊎ IsMarked (marks_of ws) d)) c.self.view_is
    (word_marks words c.args.label c.requires.from_one within w new c.index_mut.ensures.value refl d)
