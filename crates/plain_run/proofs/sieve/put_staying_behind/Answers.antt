use Rattle.std.proofs.Common.{◌≡◌, ◌+◌, ◌-◌, ◌<◌, ◌≤◌, ◌++◌, List, take, drop, length, get_or, take_all, get_or-set_other, refl, sym, ap, ◌∙◌, inl, inr, arith}
use mir.Val.{bool_byte}
use Rattle.std.specs.List.{filter}
use Rattle.std.proofs.lemmas.List.{append-nil, get_or-drop, length-drop, length-set}
use Rattle.links.specs.declared.links.Link.{Link}
use Rattle.plain_run.specs.Sieve.{stays}
use Rattle.plain_run.proofs.Sieving.{counted_by, written_behind}
use Rattle.plain_run.proofs.sieve.put_staying_behind.Goals as goal

pub loop-i-init : goal.loop-i-init
loop-i-init c = search (arith, append-nil)

pub loop-i-preserved : goal.loop-i-preserved
loop-i-preserved c =
    let p = stays c.args.labels.now c.args.heaviest.now in
    let start = c.args.links.now in
    let from = c.args.from in
    let l = c.loop-i in
    let i = l.i in
    let x : Link = c.index-links-i.result in
    let i_in : i < length start = c.loop-i-test.true in
    let after = l.invariant.from in
    let few = l.invariant.few in
    let len = l.invariant.len in
    let kept_in : l.kept < length l.links = omega (arith, few, len, i_in) in
    let count = counted_by (p x) l.kept _ (ap (λ b. l.kept + bool_byte b) c.stays.ensures) in
    let place : from + (i - from) ≡ i = omega (arith, after) in
    let is : x ≡ get_or (drop from start) (i - from) x = c.index-links-i.is ∙ l.invariant.ahead i x (omega arith) ∙ sym (get_or-drop from start (i - from) x ∙ ap (λ k. get_or start k x) place) in
    let in_rest : i - from < length (drop from start) = let rest = length-drop from start in omega (arith, rest, i_in, after) in
    let next : i - from + 1 ≡ i + 1 - from = omega (arith, after) in
    record {
      len = length-set l.links l.kept x ∙ len;
      ahead = λ k d lt. get_or-set_other l.links l.kept k x d (λ same. omega (arith, same, few, lt)) ∙ l.invariant.ahead k d (omega (arith, lt));
      from = omega (arith, after);
      to = omega (arith, i_in);
      few = elim count [ inl (same, _) ↦ omega (arith, same, few) | inr (one, _) ↦ omega (arith, one, few) ];
      kept =
          written_behind p (take from start) (drop from start) l.links x in_rest is kept_in l.invariant.kept count
          ∙ ap (λ n. take from start ++ filter p (take n (drop from start))) next;
    }

pub returns-clause-stay : goal.returns-clause-stay
returns-clause-stay c = search (arith, length-drop, take_all)
