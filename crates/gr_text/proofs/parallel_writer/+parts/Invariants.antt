use Rattle.std.proofs.Common.{◌+◌, ◌*◌, length}
use Rattle.gr_text.proofs.parallel_writer.+parts.Given as goal

abbrev pub decreases-spell_others : goal.decreases-spell_others
decreases-spell_others g l = 2 * length l.of_others.now + 1

abbrev pub decreases-spell_parts : goal.decreases-spell_parts
decreases-spell_parts g l = 2 * length l.bytes.now
