use Rattle.std.proofs.Common.{◌≡◌, ◌-◌, ◌<◌, ◌≤◌, Contains, List, take, length, get_or, take_all, get_or-set_other, ◌∙◌, subst, arith, rules}
use Rattle.std.proofs.lemmas.List.{length-set}
use Rattle.links.specs.LinkSet.{SameLinks}
use Rattle.links.specs.declared.links.Link.{Link}
use Rattle.links.proofs.KeptOnce.{counted_unless, once_more}
use Rattle.links.proofs.repeats.put_once_behind.Goals as goal

pub loop-i-preserved : goal.loop-i-preserved
loop-i-preserved c =
    let start = c.args.links.now in
    let l = c.loop-i in
    let i = l.i in
    let x : Link = c.index-links-i.result in
    let i_in : i < length start = search rules in
    let few = l.invariant.few in
    let len = l.invariant.len in
    let some : 1 ≤ l.kept = l.invariant.some (omega (arith, i_in)) in
    let kept_in : l.kept < length l.links = omega (arith, few, len, i_in) in
    let is : x ≡ get_or start i x = c.index-links-i.is ∙ l.invariant.ahead i x (omega arith) in
    record {
      len = length-set l.links l.kept x ∙ len;
      ahead = λ k d lt. get_or-set_other l.links l.kept k x d (λ same. omega (arith, same, few, lt)) ∙ l.invariant.ahead k d (omega (arith, lt));
      to = omega (arith, i_in);
      few = search rules;
      some = search rules;
      same = once_more start l.links x i_in is kept_in some
          (counted_unless c.is_other-is_new.result l.kept (x ≡ get_or l.links (l.kept - 1) x) (λ no. search (c.is_other-is_new.ensures no, rules))) l.invariant.same;
    }

pub returns-clause-same : goal.returns-clause-same
returns-clause-same c =
    let start = c.args.links.now in
    subst (λ (xs : List Link). SameLinks (Contains xs) (Contains (take c.loop-i.kept c.loop-i.links))) (take_all c.loop-i.i start (omega (arith, c.loop-i-test.false))) c.loop-i.invariant.same
