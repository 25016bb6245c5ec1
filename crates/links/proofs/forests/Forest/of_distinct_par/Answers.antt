use Rattle.std.proofs.Common.{sym, ◌∙◌, subst, arith}
use Rattle.std.specs.List.Sorted.{IsPermutation}
use Rattle.links.specs.Link.{IsAscending}
use Rattle.links.proofs.Distinct.{ascending_once}
use Rattle.links.proofs.InPlace.{whole_of}
use Rattle.links.proofs.forests.Forest.of_distinct_par.Goals as goal

pub of_ascending-requires : goal.of_ascending-requires
of_ascending-requires g c =
    let links = c.args.links in
    let put = c.sort_par.ensures in
    let whole = whole_of links.len links.items _ c.sort_par.new.links links.ok.0 c.as_mut_slice.ensures.value put.same in
    subst IsAscending (sym whole.1) (ascending_once links.items c.sort_par.new.links c.requires.distinct whole.0 put.sorted)

pub returns-clause-same : goal.returns-clause-same
returns-clause-same g c = search (arith, whole_of)
