use Rattle.std.proofs.Common.{◌≡◌, ◌+◌, ◌<◌, ◌^◌, length, get_or, ap, ◌∙◌, arith}
use Rattle.std.proofs.lemmas.List.{get_or_default}
use Rattle.shard_scans.specs.declared.numbers.MarkWord.{MarkWord}
use Rattle.shard_scans.proofs.Numbering.{noted_marks, noted_total, told_before}
use Rattle.shard_scans.proofs.numbers.Numbers.count.Goals as goal

pub loop-word-preserved : goal.loop-word-preserved
loop-word-preserved g c = search (arith, get_or_default, noted_marks, noted_total, told_before)
