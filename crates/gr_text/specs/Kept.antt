-- What is read of a source while edges are replaced by fewer that cover them.
use Rattle.std.specs.Prelude.{◌≡◌, ℕ, ◌+◌, List, ◌++◌, length, Result, Ok, Err}
use Rattle.byte_streams.specs.Streams.{SourceState, Gave}
use Rattle.links.specs.Covers.{IsCoveredBy}
use Rattle.links.specs.declared.links.Link.{Link}
use Rattle.gr_text.specs.Graph.{GraphValue, with_links}
use Rattle.gr_text.specs.LinesSoFar.{LinesSoFarValue, Swap}
use Rattle.gr_text.specs.Reader.{ReaderValue, HasReadBut}
use Rattle.gr_text.specs.Sourced.{IsReadOf}
use Rattle.gr_text.specs.declared.faults.ReadFault.{ReadFault}

-- These are kept of all edges that were read: they cover all of them, and `dropped` edges were dropped. If `drops` is
-- false, none was dropped.
pub record AreKeptOf (drops : Type 0) (dropped : ℕ) (all kept : List Link) : Type 0 where
  pub cover : IsCoveredBy all kept
  pub counted : length all ≡ dropped + length kept
  pub whole : ¬ drops → kept ≡ all

-- The result of reading a source. It is a graph's vertices and those edges that are kept, or the error that a reader
-- which keeps all edges would return.
abbrev pub IsKeptReadOf : Type 0 → ℕ → ℕ → Result GraphValue ReadFault → SourceState → SourceState → Type 0
IsKeptReadOf drops limit dropped (Ok graph) before after =
    (all : List Link) × AreKeptOf drops dropped all graph.links × IsReadOf limit (Ok (with_links all graph)) before after
IsKeptReadOf drops limit dropped (Err e) before after = IsReadOf limit (Err e) before after

-- this is known about the first of these links; more may have been appended since
pub record BeginsSo (knows : List Link → Type 0) (links : List Link) : Type 0 where
  pub first : List Link
  pub more : List Link
  pub are : links ≡ first ++ more
  pub known : knows first

-- a keeper had dropped `dropped` edges and now `now`: any edges that the old links were kept of, the new ones are kept
-- of
pub record KeepsOn (drops : Type 0) (knows : List Link → Type 0) (dropped now : ℕ) (old new : LinesSoFarValue) : Type 0 where
  pub size : new.size ≡ old.size
  pub count : new.count ≡ old.count
  pub kept : (all : List Link) → AreKeptOf drops dropped all old.links → AreKeptOf drops now all new.links
  pub known : BeginsSo knows new.links

-- a reader was fed this text, and keeps such edges of those that it read
pub record HasKept (drops : Type 0) (knows : List Link → Type 0) (dropped : ℕ) (reader : ReaderValue) (text : List ℕ) : Type 0 where
  pub swap : Swap
  pub are : AreKeptOf drops dropped swap.gone swap.put
  pub known : BeginsSo knows swap.put
  pub read : HasReadBut swap reader text

-- a reader was fed exactly what the source gave, and the source reached its end `ended` times
pub record HasFollowed (drops : Type 0) (knows : List Link → Type 0) (dropped ended : ℕ) (reader : ReaderValue) (before after : SourceState) : Type 0 where
  pub text : List ℕ
  pub kept : HasKept drops knows dropped reader text
  pub gave : Gave 0 ended text before after
