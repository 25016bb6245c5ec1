mod NewWires
mod Transcripts
mod LinesRunning
