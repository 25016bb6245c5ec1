-- Parts of a shard's links, which are scanned by different threads.
use Rattle.std.specs.Prelude.{◌≤◌, List, length}
use Rattle.limits.specs.declared.TheConstants.{MAX_SHARD_LINKS}
use Rattle.links.specs.Link.{EndsUpTo}
use Rattle.links.specs.Labels.{AreLabels}
use Rattle.shard_scans.specs.declared.scanning.Best.{Best}
use Rattle.shard_scans.specs.Scanning.{AreBest}
use Rattle.shard_scans.specs.declared.parts.Scanned.{Scanned}
use Rattle.shard_scans.specs.declared.parts.Part.{Part}

-- links that a scan may pass over
pub record CanScan (scanned : Scanned) : Type 0 where
  pub few_links : length scanned.links.now ≤ MAX_SHARD_LINKS
  pub ends : EndsUpTo (length scanned.labels.now) scanned.links.now
  pub labelled : AreLabels scanned.labels.now

-- and a part of them
abbrev pub CanScanPart : Scanned → Part → Type 0
CanScanPart scanned part = CanScan scanned × (part.to ≤ length scanned.links.now)

-- each label's entry in the table has the best index among the links of a part
abbrev pub AreBestOf : Scanned → Part → List Best → Type 0
AreBestOf scanned part table = AreBest scanned.links.now scanned.labels.now part.from part.to table
