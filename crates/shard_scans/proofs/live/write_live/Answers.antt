use Rattle.std.proofs.Common.{◌≡◌, ◌+◌, [], ◌∷◌, ◌++◌, sym, ap, ◌∙◌, subst}
use Rattle.links.specs.declared.links.Link.{Link}
use Rattle.shard_scans.specs.declared.live.LiveLink.{LiveLink}
use Rattle.shard_scans.specs.Live.{StayLive, written_at}
use Rattle.shard_scans.proofs.Scans.{end_at}
use Rattle.shard_scans.proofs.Written.{AreWrittenBefore, written_more, written_left_out}
use Rattle.shard_scans.proofs.live.write_live.Goals as goal
use Rattle.shard_scans.proofs.live.write_live.Goals.{then-is_live+in_ok-push, else-is_live}

pub loop-place-preserved : goal.loop-place-preserved
loop-place-preserved g c =
    let links = c.args.links.now in
    let labels = c.args.labels.now in
    let place = c.loop-place.place in
    let live = c.loop-place.live.items in
    let within = c.loop-place-test.true in
    elim c.if-is_live.branch [
      | then-is_live+in_ok-push w ↦
          let l : Link = w.index-links-place.result in
          let read = w.index-links-place.is in
          let ends = end_at _ links place l c.requires.ends within read in
          let pushed : LiveLink = record { low = w.label_at.result; high = w.label_at-then-is_live.result; place = place } in
          let written : pushed ≡ written_at labels l place = λ k. record { low = w.label_at.ensures k; high = w.label_at-then-is_live.ensures k; place = place } in
          let items_is : c.if-is_live.live.items ≡ live ++ written_at labels l place ∷ [] =
          ap (λ v. v.items) w.live-is ∙ w.in_ok-push.ensures.items ∙ ap (λ e. live ++ e ∷ []) written in
          subst (AreWrittenBefore links labels (place + 1)) (sym items_is) (written_more links labels place l within read ends live c.loop-place.invariant c.requires.labels)
      | else-is_live w ↦
          let stay : StayLive links labels live place = subst (λ t. StayLive links labels t place) c.as_slice.ensures.value (c.is_live.ensures w.if-is_live.false) in
          rw w.live-is (written_left_out links labels place live c.loop-place.invariant stay)
    ]
