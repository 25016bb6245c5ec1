use Rattle.std.proofs.Common.{◌≡◌, ◌≢◌, ◌≤◌, ◌++◌, List, [], ◌∷◌, length, get_or, take, take_all, append_assoc, sym, ap, ◌∙◌, subst, arith}
use Rattle.std.proofs.lemmas.List.{get_or_default}
use Rattle.std.proofs.lemmas.List.Elements.{All-get_or}
use Rattle.links.specs.declared.links.Link.{Link}
use Rattle.links.specs.Labels.{label_of}
use Rattle.links.specs.Offers.{Offer}
use Rattle.round_core.specs.BookValue.{named_links}
use Rattle.round_core.specs.OwnPicks.{AreLeastNumbers, Counts}
use Rattle.round_core.proofs.Books.{offer_at, one_more_named}
use Rattle.round_core.proofs.tally.count_all.Goals as goal

pub bounds-links-pair : goal.bounds-links-pair
bounds-links-pair c = (offer_at c.args.links.now c.args.labels.now c.args.pairs.now c.loop-pair.pair-index c.loop-pair-test.true c.requires.can.leaving).within

pub count-requires-clause-ends : goal.count-requires-clause-ends
count-requires-clause-ends c = search (arith, offer_at)

pub count-requires-clause-leaving : goal.count-requires-clause-leaving
count-requires-clause-leaving c = search (arith, offer_at)

pub loop-pair-preserved : goal.loop-pair-preserved
loop-pair-preserved c = λ seen are.
    let links = c.args.links.now in
    let pairs = c.args.pairs.now in
    let i = c.loop-pair.pair-index in
    let l = c.index-links-pair.result in
    let o : Offer = get_or pairs i (0, 0) in
    let offer = offer_at links c.args.labels.now pairs i c.loop-pair-test.true c.requires.can.leaving in
    let named = named_links links (take i pairs) in
    let more = one_more_named links pairs i o l c.loop-pair-test.true (get_or_default pairs i (0, 0) o c.loop-pair-test.true) offer.within c.index-links-pair.is in
    let next = append_assoc seen named (l ∷ []) ∙ ap (λ (xs : List Link). seen ++ xs) (sym more) in
    subst (λ (xs : List Link). AreLeastNumbers c.args.labels.now xs c.count.new.numbers) next (c.count.ensures (seen ++ named) (c.loop-pair.invariant seen are))

pub returns : goal.returns
returns c =
    let all : take c.loop-pair.pair-index c.args.pairs.now ≡ c.args.pairs.now = take_all c.loop-pair.pair-index c.args.pairs.now (omega (arith, c.loop-pair-test.false)) in
    subst (λ (xs : List Offer). Counts c.args.labels.now (named_links c.args.links.now xs) c.args.numbers.now c.loop-pair.numbers) all c.loop-pair.invariant
