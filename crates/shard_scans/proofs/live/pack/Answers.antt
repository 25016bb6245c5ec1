use Rattle.std.proofs.Common.{◌≡◌, ◌≢◌, ◌+◌, ◌<◌, ◌++◌, [], ◌∷◌, List, length, get_or, take, sym, ap, ◌∙◌, arith}
use Rattle.std.proofs.lemmas.List.{take_more, take_more_set, take_all, get_or-set_other, append-nil}
use Rattle.shard_scans.specs.declared.live.LiveLink.{LiveLink}
use Rattle.links.specs.Labels.{label_of}
use Rattle.shard_scans.specs.Live.{relabelled, packed}
use Rattle.shard_scans.proofs.Packed.{packed_append, packed_same, packed_apart}
use Rattle.shard_scans.proofs.live.pack.Goals as goal
use Rattle.shard_scans.proofs.live.pack.Goals.{then-next, else-next}

pub loop-i-preserved : goal.loop-i-preserved
loop-i-preserved c =
    let labels = c.args.labels.now in
    let old = c.args.live.now in
    let live = c.loop-i.live in
    let i = c.loop-i.i in
    let kept = c.loop-i.kept in
    let next = c.under-next.result in
    let seen = c.loop-i.invariant in
    let default : LiveLink = record { low = 0; high = 0; place = 0 } in
    let x : LiveLink = get_or old i default in
    let in_live : i < length live = omega (arith, c.loop-i-test.true, c.loop-i.auto.live) in
    let within : i < length old = omega (arith, in_live, c.loop-i.auto.live) in
    let next_is : next ≡ relabelled labels x = c.under-next.ensures ∙ ap (relabelled labels) (seen.rest i default (omega arith)) in
    let more : packed labels (take (i + 1) old) ≡ packed labels (take i old) ++ packed labels (x ∷ []) =
    ap (λ (t : List LiveLink). packed labels t) (take_more old i default within) ∙ packed_append labels (take i old) (x ∷ []) in
    elim c.if-next.branch [
      | then-next w ↦
          let apart : label_of labels x.low ≢ label_of labels x.high = λ same. w.if-next.true (ap (λ (e : LiveLink). e.low) next_is ∙ same ∙ ap (λ (e : LiveLink). e.high) (sym next_is)) in
          rw (w.kept-is, w.live-is) (record {
            count = omega (arith, seen.count);
            front =
                take_more_set live kept next (omega (arith, seen.count, in_live))
                ∙ ap (λ (t : List LiveLink). t ++ next ∷ []) seen.front
                ∙ ap (λ (e : LiveLink). packed labels (take i old) ++ e ∷ []) next_is
                ∙ ap (λ (t : List LiveLink). packed labels (take i old) ++ t) (sym (packed_apart labels x [] apart))
                ∙ sym more;
            rest = λ k d le. let other : k ≢ kept = omega (arith, le, seen.count) in get_or-set_other live kept k next d other ∙ seen.rest k d (omega (arith, le));
          })
      | else-next w ↦
          let same : label_of labels x.low ≡ label_of labels x.high = ap (λ (e : LiveLink). e.low) (sym next_is) ∙ w.if-next.false ∙ ap (λ (e : LiveLink). e.high) next_is in
          rw (w.kept-is, w.live-is) (record {
            count = omega (arith, seen.count);
            front = seen.front ∙ sym (more ∙ ap (λ (t : List LiveLink). packed labels (take i old) ++ t) (packed_same labels x [] same) ∙ append-nil (packed labels (take i old)));
            rest = λ k d le. seen.rest k d (omega (arith, le));
          })
    ]

pub returns-clause-packed : goal.returns-clause-packed
returns-clause-packed c = search (arith, take_all)
