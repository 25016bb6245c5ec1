use Rattle.std.proofs.Common.{◌≡◌, replicate, false, ◌∙◌, ap, arith}
use Rattle.round_core.proofs.Books.{book_opened}
use Rattle.round_core.proofs.book.RoundBook.open_over.Goals as goal

pub invariant_of-result : goal.invariant_of-result
invariant_of-result g c =
    let taken : c.in_ok-taken.taken.items ≡ replicate c.len-shards.result false = c.in_ok-taken.ensures.items_if_clones_equal (λ y h. h) in
    book_opened c.args.round _ c.args.cut.now c.args.labels.now _ _ _ _ c.n.ensures.are_labels c.requires.ends
    (omega (arith, c.len-shards.ensures.shards, c.len-shards.ensures.few))
    (taken ∙ ap (λ k. replicate k false) c.len-shards.ensures.shards)
    c.in_ok-answers.ensures.items
    (omega (arith, c.in_ok-answers.ensures.exact, c.len-shards.ensures.shards))
    (c.in_ok-picks.ensures.each_vertex ∙ c.n.ensures.vertices)
    c.in_ok-picks.ensures.none
    (c.over.ensures ∙ c.as_slice.ensures.labels)
