use Rattle.std.proofs.Common.{[], sym, subst, arith}
use Rattle.std.proofs.lemmas.List.{append-nil}
use Rattle.links.specs.Link.{EndsUpTo}
use Rattle.links.proofs.Covers.{forest_covers_list}
use Rattle.plain_run.specs.Sieve.{KnowsOf}
use Rattle.plain_run.proofs.KeptLinks.{ends_of_cover}
use Rattle.plain_run.proofs.keeper.Keeper.reduce.Goals as goal

pub sieve_of-requires-clause-ends : goal.sieve_of-requires-clause-ends
sieve_of-requires-clause-ends g c =
    let cover = forest_covers_list c.args.links.now.items _ (rw c.replace-all.ensures.value at c.in_ok-kept.ensures.forest) in
    subst (EndsUpTo c.args.vertices) (sym c.as_slice.ensures.value) (ends_of_cover c.args.vertices c.args.links.now.items c.in_ok-kept.kept.items c.requires.ends cover)

pub returns-clause-cover : goal.returns-clause-cover
returns-clause-cover g c = forest_covers_list c.args.links.now.items _ (rw c.replace-all.ensures.value at c.in_ok-kept.ensures.forest)

pub returns-clause-known : goal.returns-clause-known
returns-clause-known g c = search (arith, append-nil)
