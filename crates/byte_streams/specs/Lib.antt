pub mod Streams
pub mod FusedSource
pub mod FusedSink
pub mod BufferedSink
