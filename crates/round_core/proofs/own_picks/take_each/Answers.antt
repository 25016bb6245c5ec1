use Rattle.std.proofs.Common.{◌≡◌, ℕ, ◌+◌, ◌-◌, get_or, set, refl, sym, ◌∙◌, subst, arith}
use Rattle.std.proofs.lemmas.List.{length-set}
use Rattle.round_core.specs.OwnPicks.{IsOfferedBy, AreTakenFrom}
use Rattle.round_core.proofs.OwnPicks.{offers_at, taken_more}
use Rattle.round_core.proofs.own_picks.take_each.Goals as goal

pub loop-i-preserved : goal.loop-i-preserved
loop-i-preserved c =
    let links = c.args.links.now in
    let pairs = c.args.pairs.now in
    let i = c.loop-i.i in
    let part = c.loop-i.part in
    let o = get_or pairs i (0, 0) in
    let own : ℕ = o.0 - c.args.start - 1 in
    let l = c.index-links-place.result in
    let here : o.0 ≡ c.args.start + own + 1 = omega (arith, c.if-label-start.false) in
    let offered : IsOfferedBy links pairs (c.args.start + own + 1) l =
    subst (λ k. IsOfferedBy links pairs k l) here (offers_at links pairs i l c.loop-i-test.true (c.requires.places i (0, 0) c.loop-i-test.true) c.index-links-place.is) in
    record {
      room = length-set part own c.min.result ∙ c.loop-i.invariant.room;
      taken = subst (λ k. AreTakenFrom (IsOfferedBy links pairs) c.args.start c.args.part.now (set part own k)) (sym c.min.ensures)
          (taken_more (IsOfferedBy links pairs) c.args.start own (get_or part own 0) c.key_number-number.result c.args.part.now part l
          (omega (arith, c.if-label-start.false, c.if-part-label.false)) refl offered c.key_number-number.ensures
          c.loop-i.invariant.taken);
    }
