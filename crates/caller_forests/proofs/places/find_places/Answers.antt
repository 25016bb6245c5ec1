use Rattle.std.proofs.Common.{◌≤◌, All, get_or, sym, ◌∙◌, subst}
use Rattle.std.proofs.lemmas.List.Elements.{All-contains, Contains-get_or}
use Rattle.links.specs.Link.{EndsUpTo}
use Rattle.links.specs.declared.links.Link.{Link}
use Rattle.caller_forests.specs.Places.{IsAmong}
use Rattle.caller_forests.proofs.FirstPlaces.{links_among}
use Rattle.caller_forests.proofs.places.find_places.Goals as goal

pub of_links-requires-clause-ends : goal.of_links-requires-clause-ends
of_links-requires-clause-ends g c =
    let forest = c.in-Ok-forest_of.forest in
    let list = c.in-Ok.list.items in
    subst (EndsUpTo c.args.n) (sym c.links-links.ensures.links)
    (λ k d lt. All-contains (λ (l : Link). l.high ≤ c.args.n) list (get_or forest k d) c.in-Ok.ensures.ends
    ((c.in-Ok-forest_of.ensures.forest.exact (get_or forest k d)).0 (Contains-get_or forest k d lt)).0)

pub put_first_places-requires-clause-among : goal.put_first_places-requires-clause-among
put_first_places-requires-clause-among g c =
    let arcs = c.args.arcs.now in
    let forest = c.in-Ok-forest_of.forest in
    subst (All (IsAmong arcs)) (sym (c.in-Ok-of_links.ensures ∙ c.links-links.ensures.links))
    (λ k d lt. links_among arcs c.in-Ok.list.items c.in-Ok.ensures.links (get_or forest k d) ((c.in-Ok-forest_of.ensures.forest.exact (get_or forest k d)).0 (Contains-get_or forest k d lt)).0)
