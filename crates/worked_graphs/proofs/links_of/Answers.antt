use Rattle.std.proofs.Common.{pos, refl, subst, take_all}
use Rattle.worked_graphs.specs.Rows.{Row}
use Rattle.worked_graphs.proofs.Rows.{Made, made_none, made_loop, made_link, rows_next}
use Rattle.worked_graphs.proofs.links_of.Goals as goal
use Rattle.worked_graphs.proofs.links_of.Goals.{in-Some+in_ok-push, in_default}

pub loop-row-init : goal.loop-row-init
loop-row-init g c = rw c.new-links.ensures.items (made_none c.args.n)

pub loop-row-preserved : goal.loop-row-preserved
loop-row-preserved g c =
    let rows = c.args.arcs.now in
    let i = c.loop-row.row-index in
    let none : Row = (0, 0, pos 0) in
    let next = rows_next rows i none c.loop-row-test.true in
    elim c.match-link_of.branch [
      | in-Some+in_ok-push w ↦ rw (next, w.links-is, w.in_ok-push.ensures.items)
          (made_link c.args.n _ _ _ w.in-Some.link c.loop-row.invariant (c.if-not-is_arc.ensures.0 refl) (λ same. let never = w.in-Some.ensures.none_for_a_loop.1 same in cc) w.in-Some.ensures.key)
      | in_default w ↦ rw (next, w.links-is) (made_loop c.args.n _ _ _ c.loop-row.invariant (c.if-not-is_arc.ensures.0 refl) (w.in_default.ensures.none_for_a_loop.0 refl))
    ]

pub returns-clause-lawful : goal.returns-clause-lawful
returns-clause-lawful g c = (
  λ _. (subst (λ rows. Made c.args.n rows c.loop-row.links.items)
      (take_all c.loop-row.row-index c.args.arcs.now c.loop-row-test.false) c.loop-row.invariant).lawful,
  λ _. refl,
)

pub returns-clause-links : goal.returns-clause-links
returns-clause-links g c = (subst (λ rows. Made c.args.n rows c.loop-row.links.items) (take_all c.loop-row.row-index c.args.arcs.now c.loop-row-test.false) c.loop-row.invariant).are

pub returns-clause-ends : goal.returns-clause-ends
returns-clause-ends g c = c.loop-row.invariant.ends
