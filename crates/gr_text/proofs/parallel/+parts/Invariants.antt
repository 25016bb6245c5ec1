use Rattle.std.proofs.Common.{◌+◌, ◌*◌}
use Rattle.gr_text.proofs.parallel.+parts.Given as goal

abbrev pub decreases-append_arc_lines : goal.decreases-append_arc_lines
decreases-append_arc_lines g l = 2 * l.threads

abbrev pub decreases-others : goal.decreases-others
decreases-others g l = 2 * l.fewer + 1
