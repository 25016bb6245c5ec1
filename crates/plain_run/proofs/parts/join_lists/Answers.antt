use Rattle.std.proofs.Common.{◌≤◌, List, sym, subst}
use Rattle.std.proofs.lemmas.List.Elements.{All-append}
use Rattle.links.specs.Covers.{IsCoveredBy}
use Rattle.links.specs.Link.{EndsUpTo}
use Rattle.links.specs.declared.links.Link.{Link}
use Rattle.links.proofs.Covers.{forest_covers_list}
use Rattle.plain_run.proofs.KeptLinks.{covers_itself, ends_of_cover}
use Rattle.plain_run.proofs.parts.join_lists.Goals as goal

pub returns-then-len-many_links-clause-cover : goal.returns-then-len-many_links-clause-cover
returns-then-len-many_links-clause-cover g c =
    let all = c.extend_from_slice.new.self.items in
    subst (λ (ls : List Link). IsCoveredBy ls all) c.in_ok-extend_from_slice.ensures.items (covers_itself all)

pub returns-clause-ends : goal.returns-clause-ends
returns-clause-ends g c =
    let both = All-append (λ (l : Link). l.high ≤ c.args.n) c.args.kept.items c.args.more.now c.requires.ends c.requires.more_ends in
    let ends : EndsUpTo c.args.n c.extend_from_slice.new.self.items = subst (EndsUpTo c.args.n) (sym c.in_ok-extend_from_slice.ensures.items) both in
    ends_of_cover c.args.n _ _ ends (forest_covers_list _ _ c.in_ok-forest.ensures.forest)

pub returns-clause-cover : goal.returns-clause-cover
returns-clause-cover g c =
    let forest = c.in_ok-forest.forest.items in
    subst (λ (ls : List Link). IsCoveredBy ls forest) c.in_ok-extend_from_slice.ensures.items (forest_covers_list _ _ c.in_ok-forest.ensures.forest)
