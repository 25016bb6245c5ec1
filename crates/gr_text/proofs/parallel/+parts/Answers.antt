use Rattle.std.proofs.Common.{◌≡◌, ◌++◌, ap₂, take, rules, sym, ◌∙◌, take-append-drop, Some, arith}
use Rattle.gr_text.specs.ArcLines.{AppendsOrNot, FillsRoom}
use Rattle.gr_text.proofs.ArcLineParts.{appends_both}
use Rattle.gr_text.proofs.parallel.+parts.Goals as goal

pub returns : goal.returns
returns g t c = search (arith, ap₂, take-append-drop, appends_both)
