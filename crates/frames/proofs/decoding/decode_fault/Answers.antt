use Rattle.std.proofs.Common.{arith, refl, get_or}
use Rattle.frames.proofs.Decoded.{fault_refused}
use Rattle.frames.proofs.decoding.decode_fault.Goals as goal
use Rattle.frames.proofs.decoding.decode_fault.Goals.{then-code-eq0-via-then-code-eq0, then-code-eq0-via-else-code-eq0+then-code-gt3}

pub returns-then-code-eq0-clause-refused : goal.returns-then-code-eq0-clause-refused
returns-then-code-eq0-clause-refused g c =
    fault_refused _ _ (get_or c.split_u32-shard.result.1.now 0 0) _ _ _ c.split_u32-round.ensures.fits c.split_u32-shard.ensures.fits
    c.split_u32-round.ensures.parts c.split_u32-shard.ensures.parts refl
    (λ from to. elim c.then-code-eq0.branch [ then-code-eq0-via-then-code-eq0 w ↦ omega arith | then-code-eq0-via-else-code-eq0+then-code-gt3 w ↦ omega arith ])
