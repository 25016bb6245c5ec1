use Rattle.program_words.proofs.WordMeanings.{own_more}
use Rattle.program_words.proofs.arguments.with.Goals as goal

pub returns-clause-own : goal.returns-clause-own
returns-clause-own c = own_more _ _ _ c.in_ok-longer.ensures c.requires.command c.requires.arg
