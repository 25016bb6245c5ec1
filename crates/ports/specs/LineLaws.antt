-- Why the lines of this crate obey the law of lines: what a faithful line got is a prefix of what its worker's session
-- may write. These are proofs, which each `impl` of `Line` gives for its law; no contract cites them.
use Rattle.std.proofs.Common.{◌≡◌, ℕ, List, ◌++◌, take, drop, sym, ap, subst, ◌∙◌, take-append-drop}
use Rattle.std.proofs.Math.Nat.{eq-sub_of_add-eq, zero-sub}
use Rattle.frames.specs.declared.frame.TheConstants.{VERSION}
use Rattle.worker_replies.specs.Serving.{shelf_of, Serves}
use Rattle.worker_replies.proofs.Sessions.{session_serves}
use Rattle.wires.specs.Lines.{LineState, ServesSoFar}
use Rattle.ports.specs.EngineLines.{EngineLineState, line_of, IsEngineLine}
use Rattle.ports.specs.Testing.{with_stops}

-- what was got is a prefix of what the session wrote
pub engine_serves : (worker : ℕ) (s : EngineLineState) → IsEngineLine worker s → ServesSoFar worker (line_of s)
engine_serves worker s is no_failure sent got sent_is got_is =
    let rest : List ℕ = drop s.taken s.written in
    let all : Serves VERSION worker s.input s.written =
    session_serves worker (shelf_of s.shelf) s.input s.written s.heard (is.session no_failure) (is.all no_failure) in
    let same_sent : s.input ≡ sent = cc in
    let same_got : take s.taken s.written ≡ got = cc in
    let written : s.written ≡ got ++ rest = sym (take-append-drop s.taken s.written) ∙ ap (λ (t : List ℕ). t ++ rest) same_got in
    let serves : Serves VERSION worker s.input (got ++ rest) = subst (Serves VERSION worker s.input) written all in
    (VERSION, rest, subst (λ (t : List ℕ). Serves VERSION worker t (got ++ rest)) same_sent serves)

-- stopped calls are failures too
pub fused_serves : (worker : ℕ) (line : LineState) (stopped : ℕ) → ServesSoFar worker line → ServesSoFar worker (with_stops line stopped)
fused_serves worker line stopped serves no_failure = serves (eq-sub_of_add-eq line.failures stopped no_failure ∙ zero-sub stopped)
