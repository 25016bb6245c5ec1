use Rattle.std.proofs.Common.{refl, Ok, ℕ}
use Rattle.std.specs.Vec.Iter.{into_iter_items}
use Rattle.std.proofs.lemmas.Iterator.{items_from_collect}
use Rattle.std.proofs.lemmas.Iterator.Adapters.{YieldsList-from_vec}
use Rattle.program_words.proofs.arguments.all_words.Goals as goal

-- the arguments that are collected are those that the iterator still has
pub returns : goal.returns
returns c = items_from_collect {E = ℕ} (Ok c.in_ok-all.all) c.in_ok-all.ensures.ran (YieldsList-from_vec (into_iter_items c.args.words) refl c.args.words.rest.ok.0)
