use Rattle.std.proofs.Common.{◌≡◌, ◌≤◌, true, false, arith, rules}
use Rattle.std.proofs.lemmas.List.{length_push}
use Rattle.std.proofs.lemmas.List.Elements.{All-push}
use Rattle.links.specs.declared.links.Link.{Link}
use Rattle.caller_forests.proofs.Givens.{links_at_loop, links_at_link}
use Rattle.caller_forests.proofs.given.links_of.Goals as goal
use Rattle.caller_forests.proofs.given.links_of.Goals.{in-Some+in_ok-push-in-Some, in-None}

pub loop-arc-preserved : goal.loop-arc-preserved
loop-arc-preserved g c =
    let l = c.loop-arc in
    let given = c.args.given.now in
    let before = l.invariant in
    elim c.match-to_link.branch [
      | in-Some+in_ok-push-in-Some w ↦
          let link = w.in-Some.link in
          let said = w.in-Some.ensures in
          rw (w.links-is, w.in_ok-push-in-Some.ensures.items) (
            links_at_link given l.arc-index _ l.links.items link c.loop-arc-test.true before.0 (λ same. let never : true ≡ false = said.none_for_a_loop.1 same in cc) said.key,
            omega (arith, before.1, length_push l.links.items link),
            All-push (λ (m : Link). m.high ≤ c.args.n) l.links.items link before.2 said.end,
          )
      | in-None w ↦
          rw w.links-is (links_at_loop given l.arc-index _ l.links.items c.loop-arc-test.true before.0 (w.in-None.ensures.none_for_a_loop.0 (search rules)), omega (arith, before.1), before.2)
    ]
