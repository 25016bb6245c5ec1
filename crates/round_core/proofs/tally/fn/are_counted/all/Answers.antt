use Rattle.std.proofs.Common.{◌↔◌, subst}
use Rattle.std.specs.Prelude.{IsTrue}
use Rattle.links.specs.Cut.{links_at}
use Rattle.links.specs.AnswerValue.{AnswerValue}
use Rattle.round_core.specs.BookValue.{named_links}
use Rattle.round_core.specs.OwnPicks.{AreCountedIn}
use Rattle.round_core.proofs.tally.fn.are_counted.all.Goals as goal

pub returns : goal.returns
returns g c =
    let cut = c.captures.cut.now in
    let labels = c.captures.labels.now in
    let numbers = c.captures.numbers.now in
    let a : AnswerValue = record { round = c.answer.inside.round; shard = c.answer.inside.shard; offers = c.answer.inside.offers } in
    let counts : IsTrue c.offers_are_counted.result ↔ AreCountedIn labels numbers (named_links (links_at cut a.shard) a.offers) =
    rw (← c.shard.ensures.links, ← c.pairs.ensures.pairs) c.offers_are_counted.ensures in
    subst (λ (x : AnswerValue). IsTrue c.offers_are_counted.result ↔ AreCountedIn labels numbers (named_links (links_at cut x.shard) x.offers)) c.answer.view_is counts
