use Rattle.std.proofs.Common.{◌≡◌, ◌+◌, ◌*◌, ◌/◌, List, length, All, sym, ap, ◌∙◌, subst, arith}
use Rattle.std.proofs.lemmas.List.{length-replicate}
use Rattle.round_theory.specs.Labelling.{IsVertex}
use Rattle.shard_scans.specs.declared.live.LiveLink.{LiveLink}
use Rattle.shard_scans.specs.declared.numbers.MarkWord.{MarkWord}
use Rattle.shard_scans.specs.Numbers.{no_marks}
use Rattle.shard_scans.proofs.Written.{live_ends}
use Rattle.shard_scans.proofs.scanning.Scanner.scan_and_list.Goals as goal

pub mark_each-requires : goal.mark_each-requires
mark_each-requires g c = search (arith, live_ends, length-replicate)

pub offers_of_listed-requires-clause-live : goal.offers_of_listed-requires-clause-live
offers_of_listed-requires-clause-live g c = search arith
