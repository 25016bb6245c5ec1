use Rattle.std.proofs.Common.{ℕ, ◌+◌, ◌<◌, ◌++◌, List, take, drop, length, get_or, subst, arith}
use Rattle.std.proofs.lemmas.List.Elements.{Contains-get_or}
use Rattle.links.specs.declared.links.Link.{Link}
use Rattle.caller_forests.specs.Candidates.{IsLeastOf}
use Rattle.caller_forests.proofs.FirstPlaces.{least_next, first_of}
use Rattle.caller_forests.proofs.places.put_first_places.Goals as goal

pub loop-from-preserved : goal.loop-from-preserved
loop-from-preserved g c t d t_in =
    let l = c.loop-from in
    let sieve = c.args.sieve.now in
    let link = get_or sieve t d in
    let count = c.put_candidates-count.result in
    let found = c.put_candidates-count.new.found in
    let sorted = c.sort.new.found in
    let said = c.put_candidates-count.ensures in
    let in_range = said.in_range in
    let kept = c.sort.auto.found in
    let same = c.put_candidates-count.auto.found in
    least_next c.args.arcs.now (take count found) sorted l.from (l.from + length (sorted ++ drop count found)) link (get_or l.places t 0)
    (get_or c.put_least.new.places t 0) said.of_arcs c.sort.ensures.same
    (λ place ge lt place_in at. said.none_missed place link ge (omega (arith, lt, in_range, kept, same)) place_in at (Contains-get_or sieve t d t_in))
    (subst (λ (links : List Link). (i : ℕ) (e : Link) → i < length links → IsLeastOf sorted (get_or links i e) (get_or l.places i 0)
    (get_or c.put_least.new.places i 0)) c.links.ensures c.put_least.ensures.least t d t_in)
    (l.invariant t d t_in)

pub returns : goal.returns
returns g c =
    let l = c.loop-from in
    let sieve = c.args.sieve.now in
    let len = c.len.ensures in
    let end = c.loop-from-test.false in
    record {
      first = λ t d t_in. first_of c.args.arcs.now (get_or sieve t d) l.from (get_or l.places t 0) c.requires.few_arcs (omega (arith, end, len)) (c.requires.among t d t_in) (l.invariant t d t_in);
    }
