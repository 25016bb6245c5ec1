-- What a call that reads preserves of its source.
use Rattle.std.specs.Prelude.{Result, OnOk}
use Rattle.byte_streams.specs.declared.traits.Source as Source

-- facts that last still hold, and after `Ok` the source can be read again
pub record KeepsSource {S T E : Type 0} (of : Source.Ghosts S) (result : Result T E) (before after : S) : Type 0 where
  pub lasts : (fact : of.Fact) → of.lasts before fact → of.lasts after fact
  pub again : OnOk result (of.can_read after)
