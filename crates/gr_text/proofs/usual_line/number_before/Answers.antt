use Rattle.std.proofs.Common.{◌≡◌, get_or, subst, arith, rules, take_all}
use Rattle.std.specs.List.{AllByRecursion}
use Rattle.gr_text.specs.Fields.{IsDigit}
use Rattle.gr_text.proofs.UsualLines.{never_other, never_all, short_before}
use Rattle.gr_text.proofs.usual_line.number_before.Goals as goal
use Rattle.gr_text.proofs.usual_line.number_before.Goals.{else-byte-stop-via-then-byte-stop+else-place-gt0, else-byte-stop-via-else-byte-stop}

pub returns-then-place-gt0 : goal.returns-then-place-gt0
returns-then-place-gt0 c = search (arith, short_before)

pub returns-else-byte-stop : goal.returns-else-byte-stop
returns-else-byte-stop c = search (arith, never_other, else-byte-stop-via-then-byte-stop+else-place-gt0, else-byte-stop-via-else-byte-stop)

pub returns : goal.returns
returns c = search (arith, never_all, take_all)
