use Rattle.std.proofs.Common.{◌<◌, ◌≤◌, get_or, length, refl, subst, arith}
use Rattle.std.specs.Prelude.{pos}
use Rattle.std.proofs.lemmas.List.{length_push}
use Rattle.std.proofs.lemmas.List.Elements.{All-push}
use Rattle.links.specs.Arc.{Arc}
use Rattle.links.specs.Link.{is_no_loop}
use Rattle.links.specs.declared.links.Link.{Link}
use Rattle.caller_forests.proofs.Givens.{more_loop, more_link}
use Rattle.caller_forests.proofs.FirstPlaces.{not_true}
use Rattle.caller_forests.proofs.arcs.Arcs.links.Goals as goal
use Rattle.caller_forests.proofs.arcs.Arcs.links.Goals.{in-Some+in_ok-push, in_default}

pub loop-place-preserved : goal.loop-place-preserved
loop-place-preserved g c =
    let l = c.loop-place in
    let arcs = c.args.self.now in
    let before = l.invariant in
    let few = before.1 in
    let d : Arc = record { tail = 0; head = 0; weight = pos 0 } in
    let lt : l.place < length arcs = subst (λ m. l.place < m) c.len-place-end.ensures c.loop-place-test.true in
    elim c.match-link.branch [
      | in-Some+in_ok-push w ↦
          let link = w.in-Some.link in
          let said = w.in-Some.ensures in
          rw (w.links-is, w.in_ok-push.ensures.items) (
            more_link arcs l.place d l.links.items link lt before.0 ((said.none_for_a_loop d).0 refl) (said.key d),
            omega (arith, few, length_push l.links.items link),
            All-push (λ (m : Link). m.high ≤ c.args.n) l.links.items link before.2 said.end,
          )
      | in_default w ↦
          rw w.links-is (more_loop arcs l.place d l.links.items lt before.0 (not_true (is_no_loop (get_or arcs l.place d)) (w.in_default.ensures.none_for_a_loop d).1), omega (arith, few), before.2)
    ]
