-- What is known of a line over a connection.
use Rattle.std.specs.Prelude.{ℕ, None}
use Rattle.wires.specs.declared.line.Line as Line
use Rattle.wires.specs.Lines.{LineState}

-- how many calls failed, and how many gets found the end
pub record TcpLineState : Type 0 where
  pub failures : ℕ
  pub ends : ℕ

abbrev pub unused : TcpLineState
unused = record { failures = 0; ends = 0 }

-- none of its bytes is known
abbrev pub line_of : TcpLineState → LineState
line_of line = record { sent = None; got = None; failures = line.failures; ends = line.ends }

-- the same as a line, which no contract knows to be faithful
abbrev pub tcp_line : Line.Ghosts TcpLineState
tcp_line = record { state = line_of; faithful = λ line worker. ⊥ }
