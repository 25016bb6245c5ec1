-- Memory that its owner provides.
use Rattle.std.specs.Prelude.{ℕ, ◌/◌}
use mir.Syntax.{Ty, w128, ty_int, ty_array}
use base.Fml.{Fml}
use denote.RawPtr.{Ptr, room_for}

-- n bytes as units of 16 bytes, each aligned to 16
abbrev pub units : ℕ → Ty
units n = ty_array (ty_int w128) (n / 16)

-- the memory for them at p, in which nothing is stored
abbrev pub room_within : Ptr → ℕ → Fml
room_within p n = room_for (units n) p
