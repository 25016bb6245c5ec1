use Rattle.round_core.proofs.Full.{full_book_has_all_links, full_book_is_least}
use Rattle.round_core.proofs.laws.full_book_is_least.Goals as goal

pub returns : goal.returns
returns c = record { links = full_book_has_all_links; least = full_book_is_least }
