use Rattle.std.proofs.Common.{ℕ, List, sym, subst, arith}
use Rattle.links.specs.Labels.{AreLabels}
use Rattle.shard_scans.specs.Live.{AreLiveLinks, packed}
use Rattle.shard_scans.specs.Numbers.{shown}
use Rattle.shard_scans.proofs.Written.{live_ends}
use Rattle.shard_scans.proofs.Packed.{packed_live, packed_own}
use Rattle.shard_scans.proofs.scanning.Scanner.scan_listed.Goals as goal

pub renumber-requires-clause-ends : goal.renumber-requires-clause-ends
renumber-requires-clause-ends g c = search (arith, live_ends)

pub offers_of_listed-requires-clause-live : goal.offers_of_listed-requires-clause-live
offers_of_listed-requires-clause-live g c =
    let links = c.args.links.now in
    let labels = c.as_slice-labels.result.now in
    let old = shown c.args.listed.now.names.items c.args.listed.now.links.items in
    let are = subst (λ (t : List ℕ). AreLiveLinks links t old) (sym c.as_slice-labels.ensures.labels) c.requires.listed.live in
    let labelled = subst AreLabels (sym c.as_slice-labels.ensures.labels) c.as_slice-labels.ensures.are_labels in
    record {
      by_labels = packed labels old;
      live_are = packed_live links labels old labelled are;
      own = packed_own links labels old labelled are;
      by_numbers = c.in_ok-renumber.ensures.numbered;
    }
