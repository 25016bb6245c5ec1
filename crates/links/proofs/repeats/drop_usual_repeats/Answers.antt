use Rattle.std.proofs.Common.{◌≡◌, List, Contains, take, length, sym, ap, ◌∙◌, subst, arith}
use Rattle.links.specs.LinkSet.{SameLinks}
use Rattle.links.specs.declared.links.Link.{Link}
use Rattle.links.proofs.InPlace.{written}
use Rattle.links.proofs.repeats.drop_usual_repeats.Goals as goal

pub returns-clause-same : goal.returns-clause-same
returns-clause-same g c =
    let old = c.args.links.now in
    let put = c.put_once_behind-kept in
    let value = ap length c.as_mut_slice.ensures.value in
    let size : length put.new.links ≡ length old.items = omega (arith, put.auto.links, value) in
    let left : c.truncate.new.self.items ≡ take put.result put.new.links =
    c.truncate.ensures.items ∙ ap (λ (xs : List Link). take put.result xs) (written old.len put.new.links old.items size old.ok.0) in
    let same = subst (λ (xs : List Link). SameLinks (Contains xs) (Contains (take put.result put.new.links))) c.as_mut_slice.ensures.value put.ensures.same in
    subst (λ (xs : List Link). SameLinks (Contains old.items) (Contains xs)) (sym left) same
