use Rattle.std.proofs.Common.{◌≡◌, ℕ, List, map, ap, ◌∙◌, subst, sym, All, arith}
use Rattle.shard_scans.specs.declared.live.LiveLink.{LiveLink}
use Rattle.shard_scans.specs.Numbers.{marks_of, AreBothNamed, numbered}
use Rattle.shard_scans.proofs.ByNumbers.{written_back}
use Rattle.shard_scans.proofs.listed.Listed.new.Goals as goal

pub returns-clause-numbered : goal.returns-clause-numbered
returns-clause-numbered g c = search (arith, written_back)
