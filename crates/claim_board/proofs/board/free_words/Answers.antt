use Rattle.claim_board.proofs.Places.{begins_free}
use Rattle.claim_board.proofs.board.free_words.Goals as goal

pub of_words-requires : goal.of_words-requires
of_words-requires g c = begins_free c.args.size.now 4096 c.requires.shards
