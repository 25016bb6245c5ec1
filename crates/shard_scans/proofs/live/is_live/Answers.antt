use Rattle.std.proofs.Common.{◌≡◌, ◌+◌, ◌-◌, ◌≤◌, length, get_or, is_lt, false, refl, sym, ◌∙◌, subst, arith, rules}
use Rattle.std.proofs.lemmas.Bool.{eqb-false}
use Rattle.std.proofs.lemmas.List.{get_or-map, length-map}
use Rattle.links.specs.declared.links.Link.{Link}
use Rattle.links.specs.Link.{key_cmp}
use Rattle.shard_scans.specs.declared.live.LiveLink.{LiveLink}
use Rattle.shard_scans.specs.Scanning.{ComesFirst}
use Rattle.shard_scans.specs.Live.{AreParallel, places_of}
use Rattle.shard_scans.proofs.BestSoFar.{one_read, not_below_from_lt, first_from_le}
use Rattle.shard_scans.proofs.Laid.{live_within, live_goes_on, live_outdone, quiet_alone}
use Rattle.shard_scans.proofs.Scans.{end_at}
use Rattle.shard_scans.proofs.live.is_live.Goals as goal

pub returns-then-label_at : goal.returns-then-label_at
returns-then-label_at c = search (arith, end_at, live_goes_on, quiet_alone)

pub returns-in-Some : goal.returns-in-Some
returns-in-Some c = λ test before.
    let links = c.args.links.now in
    let labels = c.args.labels.now in
    let live = c.args.live.now in
    let at = c.args.place in
    let k = length live - 1 in
    let d : LiveLink = record { low = 0; high = 0; place = 0 } in
    let last : LiveLink = get_or live k d in
    let link : Link = c.index-links-place.result in
    let earlier : Link = c.in-Some.earlier.now in
    let here = c.in-Some.ensures.lookup in
    let some : 1 ≤ length live = omega (arith, eqb-false (length live) 0 (sym c.is_empty.ensures ∙ c.if-is_empty.false)) in
    let size : length (places_of live) ≡ k + 1 = omega (arith, some, length-map live (λ (l : LiveLink). l.place)) in
    let last_is : get_or (places_of live) k 0 ≡ last.place = get_or-map (λ (l : LiveLink). l.place) live k d 0 (omega (arith, some)) in
    let lower = (live_within links labels 0 at (places_of live) k 0 before (omega (arith, size))).1 in
    let is_least : is_lt (key_cmp link earlier) ≡ false = search rules in
    let parallel : AreParallel labels earlier link = c.are_parallel.ensures c.if-are_parallel.true in
    let first : ComesFirst earlier last.place link at = first_from_le earlier link last.place at (not_below_from_lt earlier link is_least) (omega (arith, lower, last_is)) in
    live_outdone links labels 0 at last.place (places_of live) k before size last_is (λ l read.
    let same : link ≡ l = one_read links at link l c.requires.in_list c.index-links-place.is read in
    record {
      place = last.place;
      just_before = refl;
      earlier = earlier;
      here = here.1;
      parallel = subst (AreParallel labels earlier) same parallel;
      first = subst (λ m. ComesFirst earlier last.place m at) same first;
    })
