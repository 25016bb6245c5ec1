use Rattle.std.proofs.Common.{◌≡◌, ◌+◌, pos, get_or, length, ap, ◌∙◌, subst, arith}
use Rattle.std.proofs.lemmas.List.{get_or_default}
use Rattle.shard_scans.specs.declared.scanning.Best.{Best}
use Rattle.shard_scans.specs.Scanning.{no_best}
use Rattle.shard_scans.specs.Tables.{ArePlacesBelow}
use Rattle.shard_scans.proofs.Tables.{places_none, places_skip, places_push}
use Rattle.shard_scans.proofs.table.Table.gather.Goals as goal
use Rattle.shard_scans.proofs.table.Table.gather.Goals.{then-place+in_ok-push, else-place}

pub loop-before-init : goal.loop-before-init
loop-before-init g c = rw c.new-pairs.ensures.items (places_none c.as_slice-bests.result.now)

pub loop-before-preserved : goal.loop-before-preserved
loop-before-preserved g c =
    let bests = c.as_slice-bests.result.now in
    let before = c.loop-before.before in
    let pairs = c.loop-before.pairs.items in
    let default : Best = record { key = pos 0; place = 0 } in
    let read : (get_or bests before no_best).place ≡ (get_or bests before default).place = ap (λ (b : Best). b.place) (get_or_default bests before no_best default c.loop-before-test.true) in
    elim c.if-place.branch [
      | then-place+in_ok-push w ↦ rw (w.pairs-is, w.in_ok-push.ensures.items) (places_push bests before (get_or bests before default).place pairs read w.if-place.true c.loop-before.invariant)
      | else-place w ↦
          rw w.pairs-is (places_skip bests before pairs (read ∙ w.if-place.false) c.loop-before.invariant)
    ]

pub returns : goal.returns
returns g c = search arith
