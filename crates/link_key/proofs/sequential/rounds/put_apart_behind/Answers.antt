use Rattle.std.proofs.Common.{◌≡◌, ℕ, ◌+◌, ◌-◌, ◌<◌, ◌≤◌, ◌==◌, ◌++◌, not, List, take, drop, length, get_or, take_all, get_or-set_other, refl, sym, ap, ap₂, ◌∙◌, inl, inr, arith}
use mir.Val.{bool_byte}
use Rattle.std.specs.List.{filter}
use Rattle.std.proofs.lemmas.List.{append-nil, get_or-drop, length-drop, length-set}
use Rattle.links.specs.declared.links.Link.{Link}
use Rattle.link_key.specs.Rounds.{is_apart}
use Rattle.link_key.proofs.Keeping.{counted, written_behind}
use Rattle.link_key.proofs.sequential.rounds.put_apart_behind.Goals as goal

pub loop-i-init : goal.loop-i-init
loop-i-init c = search (arith, append-nil)

pub loop-i-preserved : goal.loop-i-preserved
loop-i-preserved c =
    let labels = c.args.labels.now in
    let start = c.args.links.now in
    let from = c.args.from in
    let l = c.loop-i in
    let i = l.i in
    let x : Link = c.index-links-i.result in
    let i_in : i < length start = c.loop-i-test.true in
    let after = l.invariant.from in
    let few = l.invariant.few in
    let more = l.invariant.more in
    let len = l.invariant.len in
    let first_in = c.requires.before in
    let kept_in : l.kept < length l.links = omega (arith, few, len, i_in, first_in) in
    let count = counted (get_or labels x.low 0) (get_or labels x.high 0) l.kept _ (ap₂ (λ (a b : ℕ). l.kept + bool_byte (not (a == b))) c.entry.ensures c.entry-in-loop-i.ensures) in
    let place : from + (i - from) ≡ i = omega (arith, after) in
    let is : x ≡ get_or (drop from start) (i - from) x = c.index-links-i.is ∙ l.invariant.ahead i x (omega arith) ∙ sym (get_or-drop from start (i - from) x ∙ ap (λ k. get_or start k x) place) in
    let in_rest : i - from < length (drop from start) = let rest = length-drop from start in omega (arith, rest, i_in, after) in
    let next : i - from + 1 ≡ i + 1 - from = omega (arith, after) in
    record {
      len = length-set l.links l.kept x ∙ len;
      ahead = λ k d lt. get_or-set_other l.links l.kept k x d (λ same. omega (arith, same, few, lt, first_in)) ∙ l.invariant.ahead k d (omega (arith, lt));
      from = omega (arith, after);
      to = omega (arith, i_in);
      more = elim count [ inl (same, _) ↦ omega (arith, same, more) | inr (one, _) ↦ omega (arith, one, more) ];
      few = elim count [ inl (same, _) ↦ omega (arith, same, few) | inr (one, _) ↦ omega (arith, one, few) ];
      kept =
          written_behind (is_apart labels) (take c.args.first start) (drop from start) l.links x in_rest is kept_in l.invariant.kept count
          ∙ ap (λ n. take c.args.first start ++ filter (is_apart labels) (take n (drop from start))) next;
    }

pub returns-clause-in_range : goal.returns-clause-in_range
returns-clause-in_range c = search arith

pub returns-clause-apart : goal.returns-clause-apart
returns-clause-apart c = search (arith, length-drop, take_all)
