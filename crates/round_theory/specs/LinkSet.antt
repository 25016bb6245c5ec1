-- Re-exports the sets of links from `links`. Declares nothing.
pub use Rattle.links.specs.LinkSet.{LinkSet, Either, Without, IsPartOf, SameLinks, HasNoCycle, Spans}
