-- The labels in which those of endpoints are looked up.
use Rattle.std.specs.Prelude.{◌≡◌, ◌↔◌, ℕ, Bool, true, List, length}
use Rattle.links.specs.Labels.{AreLabels, AreApart}

-- `apart` says whether each vertex labels itself
pub record AreEndLabels (labels : List ℕ) (apart : Bool) : Type 0 where
  pub labelled : AreLabels labels
  pub each_own : (apart ≡ true) ↔ AreApart (length labels) labels
