use Rattle.std.proofs.Common.{◌≡◌, ◌↔◌, [], ◌∷◌, Some, refl, sym, ◌∙◌, subst, arith}
use Rattle.std.specs.Prelude.{slice_get, IsTrue}
use Rattle.std.proofs.lemmas.Option.{slice_get_read}
use Rattle.links.specs.declared.links.Link.{Link}
use Rattle.round_core.specs.OwnPicks.{IsCountedIn}
use Rattle.round_core.proofs.Books.{offer_at}
use Rattle.round_core.proofs.tally.fn.offers_are_counted.all.Goals as goal

pub returns : goal.returns
returns c = λ l some.
    let links = c.captures.links.now in
    let within = (offer_at links c.captures.labels.now (c.args.pair.now ∷ []) 0 (omega arith) c.requires.0.leaving).within in
    let read : slice_get links c.args.pair.now.1 ≡ Some c.index-links-pair.result = slice_get_read links _ c.args.pair.now.1 c.index-links-pair.result refl within c.index-links-pair.is in
    let both : Some c.index-links-pair.result ≡ Some l = sym read ∙ some in
    let same : c.index-links-pair.result ≡ l = cc in
    subst (λ (m : Link). IsTrue c.is_counted.result ↔ IsCountedIn c.captures.labels.now c.captures.numbers.now m) same c.is_counted.ensures
