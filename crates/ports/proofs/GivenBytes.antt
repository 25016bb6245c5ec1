-- Bytes in memory that are read in pieces.
use Rattle.std.proofs.Common.{◌≡◌, ◌≢◌, ℕ, ◌+◌, List, take, drop, refl, ne_eqb}
use Rattle.std.proofs.lemmas.List.{drop-drop}
use Rattle.std.proofs.Math.Seq.{take-add}
use Rattle.ports.specs.Testing.{ScriptLineState, after_get}

-- a script between two gets
abbrev pub script_at : List ℕ → ℕ → ℕ → ScriptLineState
script_at bytes given ends = record { given = take given bytes; left = drop given bytes; ends = ends }

pub script_played : (bytes : List ℕ) (given ends count : ℕ) → count ≢ 0 → script_at bytes (given + count) ends ≡ after_get (script_at bytes given ends) count
script_played bytes given ends count some = rw (ne_eqb count 0 some, take-add given count bytes, drop-drop count given bytes) refl
