use Rattle.std.proofs.Common.{◌≡◌, ◌<◌, List, length, get_or, refl, sym, ap, ◌∙◌, subst, arith}
use Rattle.std.proofs.lemmas.List.{get_or-map, length-map}
use Rattle.shard_scans.specs.declared.live.LiveLink.{LiveLink}
use Rattle.shard_scans.specs.Live.{CanBeTakenIn, relabelled}
use Rattle.shard_scans.proofs.Written.{bests_none, bests_next, bests_all}
use Rattle.shard_scans.proofs.live.keep_all.Goals as goal

pub loop-i-init : goal.loop-i-init
loop-i-init g c = record { size = refl; best = λ count labels live are is none. bests_none c.args.links.now labels live are count c.args.table.now none }

pub keep_next-requires-clause-next : goal.keep_next-requires-clause-next
keep_next-requires-clause-next g c = search arith

pub loop-i-preserved : goal.loop-i-preserved
loop-i-preserved g c =
    let i = c.loop-i.i in
    let seen = c.loop-i.invariant in
    let default : LiveLink = record { low = 0; high = 0; place = 0 } in
    let next : LiveLink = get_or c.args.live.now i default in
    record {
      size = c.keep_next.ensures.size ∙ seen.size;
      best = λ count labels live are is none.
          let within : i < length live = omega (arith, c.loop-i-test.true, ap (λ (t : List LiveLink). length t) is, length-map live (relabelled labels)) in
          let next_is : next ≡ relabelled labels (get_or live i default) = ap (λ (t : List LiveLink). get_or t i default) is ∙ get_or-map (relabelled labels) live i default default within in
          bests_next c.args.links.now labels live are i within default next next_is count 0 next.place c.loop-i.table c.keep_next.new.table refl
          (omega arith) c.keep_next.ensures.best (seen.best count labels live are is none);
    }

pub returns : goal.returns
returns g c = record {
  taken = λ count labels live are is none.
      let long : length c.args.live.now ≡ length live = ap (λ (t : List LiveLink). length t) is ∙ length-map live (relabelled labels) in
      bests_all c.args.links.now labels live are count c.loop-i.i c.loop-i.table
      (omega (arith, c.loop-i-test.false, c.loop-i.auto.i-end, long)) (c.loop-i.invariant.best count labels live are is none);
}
