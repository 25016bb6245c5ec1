use Rattle.std.proofs.Common.{◌≡◌, ◌<◌, length, sym, subst, arith}
use Rattle.links.specs.declared.links.Link.{Link}
use Rattle.shard_scans.specs.declared.live.LiveLink.{LiveLink}
use Rattle.shard_scans.specs.Scanning.{AreBest}
use Rattle.shard_scans.specs.Live.{written_at, CanBeTakenIn}
use Rattle.shard_scans.proofs.Scans.{best_of_none}
use Rattle.shard_scans.proofs.Written.{link_can_be_taken_in}
use Rattle.shard_scans.proofs.parallel.best_alone.Goals as goal

pub loop-place-init : goal.loop-place-init
loop-place-init g c = record {
  from_start = omega arith;
  best = rw c.in_ok-clear.ensures.none_yet (best_of_none (length c.args.scanned.labels.now) c.args.scanned.links.now c.args.scanned.labels.now c.args.part.from);
}

pub keep_next-requires-clause-next : goal.keep_next-requires-clause-next
keep_next-requires-clause-next g c = search (arith, link_can_be_taken_in)

pub loop-place-preserved : goal.loop-place-preserved
loop-place-preserved g c =
    let seen = c.loop-place.invariant in
    let l : Link = c.index-links-place.result in
    record {
      from_start = omega (arith, seen.from_start);
      best = c.keep_next.ensures.best
          (length c.args.scanned.labels.now) c.args.scanned.labels.now c.args.part.from l c.index-links-place.is c.label_at.ensures c.label_at-in-loop-place.ensures seen.from_start seen.best;
    }

pub returns : goal.returns
returns g c = search arith
