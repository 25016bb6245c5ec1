-- Texts that are written part by part.
use Rattle.std.proofs.Common.{ℕ, ◌+◌, List, ◌++◌, length, inl, inr, sym, ap, ◌∙◌, subst, append_assoc}
use Rattle.byte_streams.specs.Streams.{SinkState, Took, WentOut}
use Rattle.byte_streams.proofs.Streaming.{took_more, took_then_went_out, went_out_followed}
use Rattle.program_words.specs.Messages.{IsWritten, IsPartWritten}

-- a text after one that was written whole
written_on : (xs ys : List ℕ) (s t u : SinkState) → Took 0 xs s t → IsWritten ys t u → IsWritten (xs ++ ys) s u
written_on xs ys s t u first (inl whole) = inl (took_more 0 xs ys s t u first whole)
written_on xs ys s t u first (inr (n, part)) =
    inr (length xs + n, took_then_went_out n xs ys s t u first part)

-- what is left of a text is written together with what follows it
pub part_then : (text left more : List ℕ) (s t u : SinkState) → IsPartWritten text left s t → IsWritten (left ++ more) t u → IsWritten (text ++ more) s u
part_then text left more s t u (gone, took, is) last =
    subst (λ (ts : List ℕ). IsWritten ts s u) (sym (ap (λ (ts : List ℕ). ts ++ more) is ∙ append_assoc gone left more)) (written_on gone (left ++ more) s t u took last)

-- the sink fails within what is left of a text, and nothing follows it
pub part_hindered : (text left more : List ℕ) (n : ℕ) (s t u : SinkState) → IsPartWritten text left s t → WentOut n left t u → IsWritten (text ++ more) s u
part_hindered text left more n s t u part went = part_then text left more s t u part (inr (n, went_out_followed n left more t u went))

-- a part of what was left and of more is also written
pub part_more : (text left more rest : List ℕ) (s t u : SinkState) → IsPartWritten text left s t → IsPartWritten (left ++ more) rest t u
    → IsPartWritten (text ++ more) rest s u
part_more text left more rest s t u (gone, took, is) (next, later, so) = (
  gone ++ next,
  took_more 0 gone next s t u took later,
  ap (λ (ts : List ℕ). ts ++ more) is ∙ append_assoc gone left more ∙ ap (λ (ts : List ℕ). gone ++ ts) so ∙ sym (append_assoc gone next rest),
)
