use Rattle.std.proofs.Common.{◌+◌, take, get_or, refl, sym, ap₂, ◌∙◌, subst, arith}
use Rattle.std.specs.Prelude.{pos}
use Rattle.links.specs.Arc.{Arc}
use Rattle.links.specs.Link.{is_no_loop}
use Rattle.caller_forests.specs.Candidates.{AreOfArcs}
use Rattle.caller_forests.specs.declared.candidates.Candidate.{Candidate}
use Rattle.caller_forests.proofs.FirstPlaces.{not_true, loop_no_link}
use Rattle.caller_forests.proofs.LeastPlaces.{NoneMissed, dropped_more, sifted_more, sifted, byte_few}
use Rattle.caller_forests.proofs.candidates.put_candidates.Goals as goal
use Rattle.caller_forests.proofs.candidates.put_candidates.Goals.{in-Some, in_default}

pub loop-place-preserved : goal.loop-place-preserved
loop-place-preserved g c =
    let l = c.loop-place in
    let arcs = c.args.arcs.now in
    let links = c.args.sieve.now in
    let few = l.invariant.few in
    let test = c.loop-place-test.true in
    let to = c.min-to.ensures in
    let len = c.len.ensures in
    let room = l.auto.found in
    elim c.match-link.branch [
      | in-Some w ↦
          let x : Candidate = record { link = w.in-Some.link; place = l.place } in
          let kept = w.may_have-kept.result in
          let byte = byte_few kept in
          let counted = w.count-is in
          let whole = ap₂ take counted w.found-is ∙ sifted kept l.found l.count x (omega (arith, few, test, to, room)) in
          let both = sifted_more arcs links c.args.from l.place (take l.count l.found) x refl w.in-Some.ensures.key kept w.may_have-kept.ensures
          (omega (arith, test, to, len)) l.invariant.of_arcs l.invariant.none_missed in
          record {
            few = omega (arith, few, counted, byte);
            of_arcs = subst (AreOfArcs arcs) (sym whole) both.0;
            none_missed = subst (NoneMissed arcs links c.args.from (l.place + 1)) (sym whole) both.1;
          }
      | in_default w ↦
          let d : Arc = record { tail = 0; head = 0; weight = pos 0 } in
          let loop = not_true (is_no_loop (get_or arcs l.place d)) (w.in_default.ensures.none_for_a_loop d).1 in
          let same = ap₂ take w.count-is w.found-is in
          let counted = w.count-is in
          record {
            few = omega (arith, few, counted);
            of_arcs = subst (AreOfArcs arcs) (sym same) l.invariant.of_arcs;
            none_missed = subst (NoneMissed arcs links c.args.from (l.place + 1)) (sym same)
                (dropped_more arcs links c.args.from l.place (take l.count l.found) (λ m m_in. loop_no_link arcs l.place d m loop) l.invariant.none_missed);
          }
    ]
