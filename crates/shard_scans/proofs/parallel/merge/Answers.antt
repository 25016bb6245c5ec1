use Rattle.std.proofs.Common.{pos, ◌≤◌, subst, arith}
use Rattle.shard_scans.specs.declared.scanning.Best.{Best}
use Rattle.shard_scans.specs.Scanning.{AreBest}
use Rattle.shard_scans.proofs.Merging.{bests_say, merged_none, merged_next, merged_skip, merged_all}
use Rattle.shard_scans.proofs.parallel.merge.Goals as goal
use Rattle.shard_scans.proofs.parallel.merge.Goals.{then-next, else-next}

pub loop-i-init : goal.loop-i-init
loop-i-init g c = search (arith, merged_none)

pub keep-requires-clause-label : goal.keep-requires-clause-label
keep-requires-clause-label g c = omega (arith, c.loop-i-test.true, c.loop-i.invariant.each_vertex, c.requires.later.each_vertex)

pub keep-requires-clause-next : goal.keep-requires-clause-next
keep-requires-clause-next g c = search (arith, bests_say)

pub loop-i-preserved : goal.loop-i-preserved
loop-i-preserved g c =
    let links = c.args.scanned.links.now in
    let labels = c.args.scanned.labels.now in
    let first = c.args.first in
    let second = c.args.second in
    let few = c.requires.can.few_links in
    let default : Best = record { key = pos 0; place = 0 } in
    let le : first.from ≤ second.from = omega (arith, first.ordered, c.requires.beside) in
    elim c.if-next.branch [
      | then-next w ↦
          let kept = w.keep.ensures.kept in
          rw (w.table-is, kept.new_is) (merged_next links labels first.from second.from second.to second.ordered few c.args.later.now c.requires.later c.loop-i.i c.loop-i-test.true default
          c.loop-i.table c.loop-i.invariant le kept.after (kept.lesser default) w.if-next.true)
      | else-next w ↦
          rw w.table-is (merged_skip links labels first.from second.from second.to second.ordered few c.args.later.now c.requires.later c.loop-i.i c.loop-i-test.true default
          c.loop-i.table c.loop-i.invariant w.if-next.false)
    ]

pub returns : goal.returns
returns g c = search (arith, merged_all)
