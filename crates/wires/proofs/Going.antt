-- What was sent and got over several calls.
use Rattle.std.proofs.Common.{◌≡◌, ℕ, ◌+◌, List, [], ◌++◌, append-nil, subst, arith}
use Rattle.std.specs.Prelude.{Result, Ok, Err, IfOk, IfErr}
use Rattle.std.proofs.KnownBytes.{Appends-trans}
use Rattle.round_theory.specs.declared.fault.PortFault.{PortFault}
use Rattle.round_theory.specs.declared.fault.PortFault.TheVariants.{Down}
use Rattle.wires.specs.Lines.{LineState, HasRoom, Transfers}
use Rattle.wires.specs.Causes.{LineFailed, Transmits, Receives, SendingFault}

pub went_then : (f e f' e' : ℕ) (said came said' came' : List ℕ) (a b c : LineState)
    → Transfers f e said came a b → Transfers f' e' said' came' b c → Transfers (f + f') (e + e') (said ++ said') (came ++ came') a c
went_then f e f' e' said came said' came' a b c first second = record {
  sent = λ no_failure. Appends-trans _ _ _ said said' (first.sent (omega (arith, no_failure))) (second.sent (omega (arith, no_failure)));
  got = λ no_failure. Appends-trans _ _ _ came came' (first.got (omega (arith, no_failure))) (second.got (omega (arith, no_failure)));
  failures = omega (arith, first.failures, second.failures);
  ends = omega (arith, first.ends, second.ends);
}

-- calls that only got bytes, after calls that sent some
pub then_came : (a b c : LineState) (said came bytes : List ℕ) → Transfers 0 0 said came a b → Receives bytes b c → Transfers 0 0 said (came ++ bytes) a c
then_came a b c said came bytes first second =
    subst (λ (t : List ℕ). Transfers 0 0 t (came ++ bytes) a c) (append-nil said) (went_then 0 0 0 0 said came [] bytes a b c first second)

-- after calls that succeed, both counts can still rise by one
pub room_kept : (a b : LineState) (said came : List ℕ) → HasRoom a → Transfers 0 0 said came a b → HasRoom b
room_kept a b said came room went = record { failures = omega (arith, room.failures, went.failures); ends = omega (arith, room.ends, went.ends) }

pub failed_of : (a b : LineState) (said came : List ℕ) → Transfers 1 0 said came a b → LineFailed a b
failed_of a b said came went = record { sent = λ no_failure. cc; got = λ no_failure. cc; failures = went.failures; ends = went.ends }

pub then_failed : (a b c : LineState) (said came : List ℕ) → Transfers 0 0 said came a b → LineFailed b c → LineFailed a c
then_failed a b c said came first second = failed_of a c (said ++ []) (came ++ []) (went_then 0 0 1 0 said came [] [] a b c first second)

-- a part that was put after another
pub sent_later : {T : Type 0} (r : Result T PortFault) (a b c : LineState) (first later : List ℕ) → Transmits first a b
    → IfOk r (λ passed. Transmits later b c) → IfOk r (λ passed. Transmits (first ++ later) a c)
sent_later (Ok passed) a b c first later one two = went_then 0 0 0 0 first [] later [] a b c one two
sent_later (Err fault) a b c first later one two = tt

-- a part that wasn't put, after one that was
pub down_later : {T : Type 0} (r : Result T PortFault) (a b c : LineState) (said came : List ℕ) → Transfers 0 0 said came a b
    → IfErr r (λ e. e ≡ Down) → IfErr r (λ e. SendingFault e b c) → IfErr r (λ e. SendingFault e a c)
down_later a1 a2 a3 a4 a5 a6 a7 a8 a9 = search (arith, then_failed)
