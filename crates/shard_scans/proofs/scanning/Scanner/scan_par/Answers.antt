use Rattle.std.proofs.Common.{ℕ, List, length, sym, subst}
use Rattle.round_theory.specs.Offers.{AreLightOffers}
use Rattle.shard_scans.specs.Scanning.{AreBest}
use Rattle.shard_scans.proofs.Tables.{places_are_light}
use Rattle.shard_scans.proofs.scanning.Scanner.scan_par.Goals as goal

pub returns : goal.returns
returns g c =
    let links = c.args.links.now in
    let labels = c.args.labels.now in
    let best = subst (λ (ls : List ℕ). AreBest links ls 0 (length links) c.in_ok-table.table) c.as_slice-2.ensures.labels c.in_ok-table.ensures.best in
    record {
      light = subst (AreLightOffers links labels) (sym c.of_known.ensures.same_pairs)
          (places_are_light links labels c.in_ok-table.table c.requires.few_links c.requires.ends c.as_slice-2.ensures.are_labels best c.in_ok-gather.field-0.items c.in_ok-gather.ensures.places);
    }
