-- The lines of edges in the parts of a buffer.
use Rattle.std.proofs.Common.{◌≡◌, ℕ, List, ◌∷◌, ◌++◌, length, drop, sym, ap, ◌∙◌, arith}
use Rattle.std.specs.List.{flat_map}
use Rattle.std.proofs.lemmas.Grind.{flat_map-append}
use Rattle.std.proofs.Math.Seq.{drop-append_seam}
use Rattle.std.proofs.lemmas.List.{take-append-le}
use Rattle.links.specs.declared.links.Link.{Link}
use Rattle.gr_text.specs.ForestText.{link_line}
use Rattle.gr_text.specs.Handing.{IsPart, text_of_parts}
use Rattle.gr_text.specs.declared.parallel_writer.TheConstants.{PART_ROOM}

-- one part, and others after it
pub part_and_others : (first later : List Link) (bytes : ℕ) (others : List ℕ) (one rest : List ℕ) → length one ≡ PART_ROOM → IsPart first bytes one
    → text_of_parts others rest ≡ flat_map link_line later → text_of_parts (bytes ∷ others) (one ++ rest) ≡ flat_map link_line (first ++ later)
part_and_others first later bytes others one rest len part text =
    ap (λ lines. lines ++ text_of_parts others (drop PART_ROOM (one ++ rest))) (take-append-le bytes one rest (omega (arith, len, part.fit)) ∙ part.lines)
    ∙ ap (λ room. flat_map link_line first ++ text_of_parts others room) (ap (λ k. drop k (one ++ rest)) (sym len) ∙ drop-append_seam one rest)
    ∙ ap (λ lines. flat_map link_line first ++ lines) text
    ∙ sym (flat_map-append link_line first later)
