pub mod KnownFiles
pub mod FaultTexts
pub mod PlainRunning
pub mod Lengths
pub mod Again
pub mod KeptLinks
pub mod Sieving
pub mod JoinedParts
