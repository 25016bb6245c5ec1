use Rattle.std.proofs.Common.{◌≡◌, ℕ, None, sym, subst, arith}
use Rattle.round_core.specs.BookValue.{refusal}
use Rattle.round_core.proofs.Full.{accepted}
use Rattle.round_core.proofs.book.RoundBook.take.Goals as goal

pub take_allowed-requires : goal.take_allowed-requires
take_allowed-requires g c = search (arith, accepted)
