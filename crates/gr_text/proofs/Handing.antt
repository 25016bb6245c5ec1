-- Bytes written to a sink in several calls.
use Rattle.std.proofs.Common.{◌≡◌, ℕ, ◌+◌, ◌^◌, ◌<◌, List, ◌++◌, length, take, Result, Ok, Err, sym, ap, subst, ◌∙◌, arith, rules, length-append}
use Rattle.std.proofs.Math.Seq.{take-append-add}
use Rattle.std.proofs.lemmas.List.{take-append-le}
use Rattle.byte_streams.specs.Streams.{SinkState, Took, WentOut}
use Rattle.byte_streams.proofs.Streaming.{took_more, took_unhindered}
use Rattle.gr_text.specs.Handing.{HandsOn, HandsPrefix, HandsOut}
use Rattle.gr_text.specs.Written.{written_count, PrefixWentOut}
use Rattle.gr_text.specs.declared.writer.WriteFault.{WriteFault}

-- counting on from a capped count gives the same as counting everything
count_again : (x y z : ℕ) → written_count (written_count (x + y) + z) ≡ written_count (x + y + z)
count_again x y z = omega arith

-- one call after another
pub hands_then_hands : (count middle total : ℕ) (xs ys : List ℕ) (s t u : SinkState) → HandsOn count middle xs s t → HandsOn middle total ys t u
    → HandsOn count total (xs ++ ys) s u
hands_then_hands count middle total xs ys s t u first second = record {
  took = took_more 0 xs ys s t u first.took second.took;
  counted = second.counted ∙ ap (λ m. written_count (m + length ys)) first.counted ∙ count_again count (length xs) (length ys)
      ∙ ap written_count {x = count + length xs + length ys} {y = count + length (xs ++ ys)} (omega (arith, length-append xs ys));
}

-- a prefix of the bytes of the next call, before the sink fails
pub hands_then_prefix : (count middle after : ℕ) (xs ys : List ℕ) (s t u : SinkState) → HandsOn count middle xs s t → HandsPrefix middle after ys t u
    → HandsPrefix count after (xs ++ ys) s u
hands_then_prefix count middle after xs ys s t u hands part = record {
  sent = length xs + part.sent;
  within = omega (arith, length-append xs ys, part.within);
  counted = part.counted ∙ ap (λ m. written_count (m + part.sent)) hands.counted ∙ count_again count (length xs) part.sent
      ∙ ap written_count {x = count + length xs + part.sent} {y = count + (length xs + part.sent)} (omega arith);
  took = subst (λ bytes. Took 1 bytes s u) (sym (take-append-add xs ys part.sent)) (took_more 1 xs (take part.sent ys) s t u hands.took part.took);
}

-- it is also a prefix of more bytes
pub prefix_of_more : (count after : ℕ) (xs more : List ℕ) (s t : SinkState) → HandsPrefix count after xs s t → HandsPrefix count after (xs ++ more) s t
prefix_of_more count after xs more s t part = search (arith, length-append, take-append-le)

-- a call that stopped within these bytes
pub out_stopped : (count after : ℕ) (bytes more : List ℕ) (s t : SinkState) (ready : Type 0) → HandsPrefix count after bytes s t
    → HandsOut count (bytes ++ more) (Err (record { written = after })) s t ready
out_stopped count after bytes more s t ready part = search (arith, prefix_of_more, took_unhindered)

-- a call after bytes that were written
pub out_then_out : (count middle : ℕ) (xs ys : List ℕ) (result : Result ℕ WriteFault) (s t u : SinkState) (ready : Type 0) → HandsOn count middle xs s t
    → HandsOut middle ys result t u ready → HandsOut count (xs ++ ys) result s u ready
out_then_out a1 a2 a3 a4 a5 a6 a7 a8 a9 a10 a11 = search (arith, hands_then_hands, hands_then_prefix, took_unhindered)

-- the count reported for a text of fewer than 2^64 bytes is exact
pub prefix_is_exact : (written : ℕ) (text : List ℕ) (s t : SinkState) → length text < 2 ^ 64 → PrefixWentOut written text s t
    → WentOut written text s t
prefix_is_exact written text s t short part = search arith
