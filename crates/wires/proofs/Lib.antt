pub mod Going
pub mod SendingPieces
pub mod LineReads
pub mod Refused
pub mod Asking
pub mod OneAsk
pub mod Wiring
