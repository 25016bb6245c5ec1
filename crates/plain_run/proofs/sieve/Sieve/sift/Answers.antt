use Rattle.std.proofs.Common.{◌≡◌, ℕ, ◌++◌, List, take, drop, length, sym, ap, ◌∙◌, arith}
use Rattle.std.specs.List.{filter}
use Rattle.std.proofs.lemmas.List.{length-take-le}
use Rattle.links.specs.declared.links.Link.{Link}
use Rattle.links.proofs.InPlace.{written}
use Rattle.plain_run.specs.Sieve.{stays}
use Rattle.plain_run.proofs.Sieving.{sifts}
use Rattle.plain_run.proofs.sieve.Sieve.sift.Given as given
use Rattle.plain_run.proofs.sieve.Sieve.sift.Goals as goal
use Rattle.plain_run.proofs.sieve.Sieve.sift.Goals.{After-self-1}

left_is : (g : given.Over) (c : After-self-1 g) → c.truncate.new.self.items ≡ take c.put_staying_behind-kept.result c.put_staying_behind-kept.new.links
left_is g c = search (arith, written)

sifted : (g : given.Over) (c : After-self-1 g) → c.truncate.new.self.items ≡ take c.args.self.now.passed c.args.links.now.items
    ++ filter (stays c.args.self.now.labels c.args.self.now.heaviest) (drop c.args.self.now.passed c.args.links.now.items)
sifted g c =
    let sieve = c.args.self.now in
    left_is g c ∙ c.put_staying_behind-kept.ensures.stay
    ∙ ap (λ (xs : List Link). take sieve.passed xs ++ filter (stays c.as_slice-labels.result.now sieve.heaviest) (drop sieve.passed xs)) c.as_mut_slice.ensures.value
    ∙ ap (λ (labels : List ℕ). take sieve.passed c.args.links.now.items ++ filter (stays labels sieve.heaviest) (drop sieve.passed c.args.links.now.items)) c.as_slice-labels.ensures.labels

counted : (g : given.Over) (c : After-self-1 g) → c.put_staying_behind-kept.result ≡ length c.truncate.new.self.items
counted g c = search (arith, left_is, length-take-le)

pub returns-clause-cover : goal.returns-clause-cover
returns-clause-cover g c = (sifts c.args.self.now c.args.links.now.items _ _ c.requires.ends c.requires.known (sifted g c) (counted g c)).0

pub returns-clause-passes : goal.returns-clause-passes
returns-clause-passes g c = (sifts c.args.self.now c.args.links.now.items _ _ c.requires.ends c.requires.known (sifted g c) (counted g c)).1
