use Rattle.std.proofs.Common.{◌≡◌, ℕ, ◌<◌, length, get_or, set, sym, ap, ◌∙◌, subst, inl, inr, arith}
use Rattle.std.proofs.lemmas.Bool.{cases_lt}
use Rattle.std.proofs.lemmas.List.{get_or_default}
use Rattle.std.proofs.lemmas.List.Edits.{map_over_more}
use Rattle.shard_scans.specs.declared.live.LiveLink.{LiveLink}
use Rattle.shard_scans.specs.Numbers.{marks_of, numbered, IsMarked, HasItsName, AreBothMarked, AreBothNamed}
use Rattle.shard_scans.proofs.Numbering.{number_has_place, named_here, named_stays}
use Rattle.shard_scans.proofs.ByNumbers.{next_stands, all_over}
use Rattle.shard_scans.proofs.numbers.number_each.Goals as goal

pub loop-i-preserved : goal.loop-i-preserved
loop-i-preserved g c =
    let marks = marks_of c.args.numbers.now in
    let start = c.args.live.now in
    let live = c.loop-i.live in
    let i = c.loop-i.i in
    let seen = c.loop-i.invariant in
    let default : LiveLink = record { low = 0; high = 0; place = 0 } in
    let l = get_or live i default in
    let new : LiveLink = record { low = c.name-low.result; high = c.name-high.result; place = l.place } in
    let in_live : i < length live = omega (arith, c.loop-i-test.true, c.loop-i.auto.live) in
    let in_start : i < length start = omega (arith, c.loop-i-test.true, c.loop-i.auto.live) in
    let l_is : l ≡ get_or start i default = next_stands (numbered marks) start live i seen.numbered default in_start in
    let new_is : new ≡ numbered marks l = λ k. record { low = c.name-low.ensures.number k; high = c.name-high.ensures.number k; place = l.place } in
    let marked = subst (AreBothMarked marks) (sym l_is) (c.requires.marked i default in_start) in
    let place_low = number_has_place c.args.numbers.now c.loop-i.names l.low (omega (arith, c.requires.names)) marked.0 in
    let place_high = number_has_place c.args.numbers.now c.name-low.new.names l.high (omega (arith, c.requires.names)) marked.1 in
    let stays : (d : ℕ) → IsMarked marks d → HasItsName marks c.loop-i.names d → HasItsName marks c.name-high.new.names d =
    λ d is at.
    subst (λ n. HasItsName marks n d) (sym c.name-high.ensures.named) (named_stays marks c.name-low.new.names l.high marked.1 d is
    (subst (λ n. HasItsName marks n d) (sym c.name-low.ensures.named) (named_stays marks c.loop-i.names l.low marked.0 d is at))) in
    let low_here : HasItsName marks c.name-high.new.names l.low =
    subst (λ n. HasItsName marks n l.low) (sym c.name-high.ensures.named) (named_stays marks c.name-low.new.names l.high marked.1 l.low marked.0
    (subst (λ n. HasItsName marks n l.low) (sym c.name-low.ensures.named) (named_here marks c.loop-i.names l.low marked.0 place_low))) in
    let high_here : HasItsName marks c.name-high.new.names l.high =
    subst (λ n. HasItsName marks n l.high) (sym c.name-high.ensures.named) (named_here marks c.name-low.new.names l.high marked.1 place_high) in
    record {
      numbered = ap (set live i) new_is ∙ map_over_more (numbered marks) start live i l in_start seen.numbered (get_or_default live i default l in_live);
      named = λ k d lt. elim (cases_lt k i) [
        | inl less ↦
            let both = seen.named k d less in
            let is = c.requires.marked k d (omega (arith, less, in_start)) in
            (stays (get_or start k d).low is.0 both.0, stays (get_or start k d).high is.1 both.1)
        | inr le ↦
            let at : k ≡ i = omega (arith, lt, le) in
            subst (λ n. AreBothNamed marks c.name-high.new.names (get_or start n d)) (sym at)
            (subst (AreBothNamed marks c.name-high.new.names) (l_is ∙ get_or_default start i default d in_start) (low_here, high_here))
      ];
    }

pub returns : goal.returns
returns g c = search (arith, all_over)
