use Rattle.claim_board.proofs.seating.+deal.Given as goal

abbrev pub decreases-deal : goal.decreases-deal
decreases-deal g l = l.count
