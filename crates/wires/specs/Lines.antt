-- What is known of a line, what a call does to it, and what a faithful line gets.
use Rattle.std.specs.Prelude.{◌≡◌, ℕ, ◌+◌, ◌-◌, ◌<◌, ◌^◌, List, [], ◌++◌, take, Option, Some, IfSome, IsSome, Result, Ok, Err}
use Rattle.std.specs.Io.KnownBytes.{Appends}
use Rattle.worker_replies.specs.Serving.{Serves}
use Rattle.wires.specs.declared.fault.LineFault.{LineFault}

-- what is known of a line: the bytes that were sent and those that were got, if known, how many calls failed, and how
-- many gets found the end
pub record LineState : Type 0 where
  pub sent : Option (List ℕ)
  pub got : Option (List ℕ)
  pub failures : ℕ
  pub ends : ℕ

-- both counts can rise by one
pub record HasRoom (line : LineState) : Type 0 where
  pub failures : line.failures < 2 ^ 64 - 1
  pub ends : line.ends < 2 ^ 64 - 1

-- it is known what was sent and what was got
pub record HasKnownBytes (line : LineState) : Type 0 where
  pub sent : IsSome line.sent
  pub got : IsSome line.got

-- a new line: it never failed, and nothing was sent or got, as far as that is known
pub record IsFresh (line : LineState) : Type 0 where
  pub sent : IfSome line.sent (λ bytes. bytes ≡ [])
  pub got : IfSome line.got (λ bytes. bytes ≡ [])
  pub failures : line.failures ≡ 0

-- From `before` to `after`, these bytes were sent and those got, `failed` calls failed, and `ended` found the end. If a
-- call failed, nothing is said about the bytes.
pub record Transfers (failed ended : ℕ) (said came : List ℕ) (before after : LineState) : Type 0 where
  pub sent : failed ≡ 0 → Appends before.sent after.sent said
  pub got : failed ≡ 0 → Appends before.got after.got came
  pub failures : after.failures ≡ before.failures + failed
  pub ends : after.ends ≡ before.ends + ended

-- from `before` to `after`, this many calls failed, and this many found the end, even if the line's bytes aren't known
abbrev pub Counted : (failed ended : ℕ) → LineState → LineState → Type 0
Counted failed ended before after = (after.failures ≡ before.failures + failed) × (after.ends ≡ before.ends + ended)

-- one put: it sent all its bytes, or failed
abbrev pub Puts : {T : Type 0} → Result T LineFault → List ℕ → LineState → LineState → Type 0
Puts (Ok passed) bytes before after = Transfers 0 0 bytes [] before after
Puts (Err fault) bytes before after = Transfers 1 0 [] [] before after

-- one get: it got bytes, or found the end, or failed
abbrev pub Gets : Result ℕ LineFault → List ℕ → LineState → LineState → Type 0
Gets (Ok n) into before after = (0 < n → Transfers 0 0 [] (take n into) before after) × (n ≡ 0 → Transfers 0 1 [] [] before after)
Gets (Err fault) into before after = Transfers 1 0 [] [] before after

-- the bytes `got` are a prefix of what the worker's session, of some version, may write for those of `sent`
abbrev pub BeginsSession : (worker : ℕ) (sent got : List ℕ) → Type 0
BeginsSession worker sent got = (version : ℕ) × (rest : List ℕ) × Serves version worker sent (got ++ rest)

-- until the first failure, and if both are known, what was got is a prefix of what the worker's session may write for
-- what was sent
abbrev pub ServesSoFar : ℕ → LineState → Type 0
ServesSoFar worker line = line.failures ≡ 0 → (sent got : List ℕ) → line.sent ≡ Some sent → line.got ≡ Some got → BeginsSession worker sent got
