use Rattle.std.proofs.Common.{◌≡◌, ◌<◌, ◌++◌, ◌∷◌, [], ℕ, length, true, None, sym, ap, subst, arith}
use Rattle.std.specs.Prelude.{slice_set, vec_capacity}
use Rattle.links.specs.AnswerValue.{AnswerValue}
use Rattle.round_core.specs.BookValue.{BookValue, refusal, IsBook}
use Rattle.round_core.proofs.Full.{accepted, free_within, book_heard}
use Rattle.round_core.proofs.book.RoundBook.take_allowed.Goals as goal

pub invariant_of-self : goal.invariant_of-self
invariant_of-self g c =
    let p : BookValue =
    record { round = c.self.inside.round; cut = c.self.inside.cut.now; labels = c.self.inside.labels.now; taken = c.self.inside.taken.items; answers = c.self.inside.answers.items } in
    let a = c.args.answer in
    let room = vec_capacity c.self.inside.answers in
    let allowed : refusal p a.shard a ≡ None = subst (λ (q : BookValue). refusal q a.shard a ≡ None) (sym c.self.view_is) c.requires.allowed in
    let free : a.shard < length p.taken = free_within p.taken a.shard (accepted p a.shard a allowed).missing in
    let within : a.shard < length p.cut = omega (arith, free, c.self.invariant.value.each_shard) in
    let same : c.answer.inside.shard ≡ a.shard = ap (λ (b : AnswerValue). b.shard) c.answer.view_is in
    rw (c.push_reserved.ensures.items, c.push_reserved.ensures.capacity)
    (subst (λ (k : ℕ). IsBook
    (record { round = p.round; cut = p.cut; labels = p.labels; taken = slice_set p.taken k true; answers = p.answers ++ a ∷ [] }) c.self.inside.end_labels room c.self.inside.picks) (sym same)
    (book_heard p c.self.inside.end_labels room c.self.inside.picks a.shard a c.self.invariant within allowed))
