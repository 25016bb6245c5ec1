-- A table with an entry for each label.
use Rattle.std.specs.Prelude.{◌≡◌, ◌≢◌, ℕ, ◌<◌, ◌≤◌, ◌↔◌, List, slice_index_or, set, Contains}
use Rattle.links.specs.declared.links.Link.{Link}
use Rattle.links.specs.Offers.{Offer, AreOffers}
use Rattle.shard_scans.specs.declared.scanning.Best.{Best}
use Rattle.shard_scans.specs.Scanning.{no_best, KeepsLesser, best_of}

-- the entry after the first `before` is now the lesser of the next link and of what it was, and no other entry changed
pub record KeepsAt (links : List Link) (next : Best) (before : ℕ) (old new : List Best) : Type 0 where
  pub after : Best
  pub new_is : new ≡ set old before after
  pub lesser : (d : Best) → KeepsLesser links next (slice_index_or old before d) after

-- the label's entry has this index
pub record IsKept (bests : List Best) (label place : ℕ) : Type 0 where
  pub from_one : 1 ≤ label
  pub here : (best_of bests label).place ≡ place
  pub some : place ≢ no_best.place

-- the indices in the entries of the labels below `bound`, each with its label, in the order of the labels
pub record ArePlacesBelow (bests : List Best) (bound : ℕ) (pairs : List Offer) : Type 0 where
  pub ascending : AreOffers pairs
  pub exact : (label place : ℕ) → Contains pairs (label, place) ↔ ((label < bound) × IsKept bests label place)
