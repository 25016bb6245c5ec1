use Rattle.std.proofs.Common.{◌≡◌, ◌++◌, ap, ap₂, length, rules, ◌∙◌, take-append-drop, arith}
use Rattle.std.specs.List.{flat_map}
use Rattle.gr_text.specs.ForestText.{link_line}
use Rattle.gr_text.specs.Handing.{IsPart, text_of_parts}
use Rattle.gr_text.specs.declared.parallel_writer.TheConstants.{PART_ROOM}
use Rattle.gr_text.proofs.TextParts.{part_and_others}
use Rattle.gr_text.proofs.parallel_writer.+parts.Goals as goal

pub returns-clause-text : goal.returns-clause-text
returns-clause-text g t c = search (arith, part_and_others, ap₂, take-append-drop)
