-- The text of a forest as it is written, one group of lines after another.
use Rattle.std.proofs.Common.{◌≡◌, ℕ, ◌+◌, List, [], ◌∷◌, ◌++◌, length, take, drop, sym, ap, subst, ◌∙◌, arith, Option, Err, append-nil, append_assoc, take_all, le_refl}
use Rattle.std.specs.List.{flat_map}
use Rattle.std.proofs.lemmas.Grind.{flat_map-append}
use Rattle.std.proofs.lemmas.List.{take-append-drop}
use Rattle.links.specs.declared.links.Link.{Link}
use Rattle.byte_streams.specs.Streams.{SinkState, Took}
use Rattle.byte_streams.proofs.Streaming.{took_no_more, took_unhindered}
use Rattle.gr_text.specs.ForestText.{header_of, link_line, forest_text}
use Rattle.gr_text.specs.Handing.{HandsOn, HandsPrefix, PutsLines}
use Rattle.gr_text.specs.Written.{written_count, PrefixWentOut, WritesText}
use Rattle.gr_text.proofs.Handing.{hands_then_hands, hands_then_prefix, prefix_of_more}

-- all of a text was written except the lines of these edges
pub record GoesOut (written : ℕ) (text : List ℕ) (left : List Link) (s t : SinkState) : Type 0 where
  pub out : List ℕ
  pub handed : HandsOn 0 written out s t
  pub whole : out ++ flat_map link_line left ≡ text

-- the lines of some more edges
pub lines_more : (written total count : ℕ) (text : List ℕ) (left : List Link) (s t u : SinkState) → GoesOut written text left s t
    → HandsOn written total (flat_map link_line (take count left)) t u → GoesOut total text (drop count left) s u
lines_more written total count text left s t u so_far more =
    let lines = flat_map link_line (take count left) in
    record {
      out = so_far.out ++ lines;
      handed = hands_then_hands 0 written total so_far.out lines s t u so_far.handed more;
      whole = append_assoc so_far.out lines (flat_map link_line (drop count left))
          ∙ ap (λ rest. so_far.out ++ rest) (sym (flat_map-append link_line (take count left) (drop count left)) ∙ ap (flat_map link_line) (take-append-drop count left))
          ∙ so_far.whole;
    }

went_out : (written : ℕ) (text : List ℕ) (s t : SinkState) → HandsPrefix 0 written text s t → PrefixWentOut written text s t
went_out written text s t part = record { count = part.sent; within = part.within; counted = part.counted ∙ ap written_count {x = 0 + part.sent} {y = part.sent} (omega arith); took = part.took }

-- a prefix of these lines, before the sink fails
pub lines_prefix : (written after : ℕ) (text : List ℕ) (left : List Link) (s t u : SinkState) → GoesOut written text left s t
    → HandsPrefix written after (flat_map link_line left) t u → PrefixWentOut after text s u
lines_prefix written after text left s t u so_far part = search (arith, went_out, hands_then_prefix)

-- the first line, or a prefix of it
pub header_out : (written n : ℕ) (links forest : List Link) (s t : SinkState) → links ≡ forest → HandsOn 0 written (header_of n (length links)) s t
    → GoesOut written (forest_text n forest) links s t
header_out written n links forest s t same hands = record { out = header_of n (length links); handed = hands; whole = ap (forest_text n) same }

pub header_prefix : (after n : ℕ) (links forest : List Link) (s t : SinkState) → links ≡ forest → HandsPrefix 0 after (header_of n (length links)) s t
    → PrefixWentOut after (forest_text n forest) s t
header_prefix after n links forest s t same part =
    subst (λ all. PrefixWentOut after (forest_text n all) s t) same
    (went_out after (forest_text n links) s t (prefix_of_more 0 after (header_of n (length links)) (flat_map link_line links) s t part))

-- all lines were written
pub lines_out : (written : ℕ) (text : List ℕ) (left : List Link) (s t : SinkState) → GoesOut written text left s t → length left ≡ 0
    → Took 0 text s t × (written ≡ written_count (length text))
lines_out written text (link ∷ left) s t so_far none = absurd (omega (arith, none))
lines_out written text [] s t so_far none = search (arith, append-nil)

-- a flush after all lines succeeded, or failed
pub lines_flushed : (written : ℕ) (text : List ℕ) (left : List Link) (s t u : SinkState) → GoesOut written text left s t → length left ≡ 0 → Took 0 [] t u
    → Took 0 text s u
lines_flushed written text left s t u so_far none passed = took_no_more 0 text s t u (lines_out written text left s t so_far none).0 passed

pub lines_unflushed : (written : ℕ) (text : List ℕ) (left : List Link) (s t u : SinkState) → GoesOut written text left s t → length left ≡ 0 → Took 1 [] t u
    → PrefixWentOut written text s u
lines_unflushed written text left s t u so_far none failed =
    let (took, counted) = lines_out written text left s t so_far none in
    record {
      count = length text;
      within = le_refl _;
      counted = counted;
      took = subst (λ bytes. Took 1 bytes s u) (sym (take_all (length text) text (le_refl _))) (took_no_more 1 text s t u took failed);
    }

-- a writer that stopped here
pub stopped : (after : ℕ) (text : List ℕ) (s t : SinkState) (unflushed : Option (List ℕ)) (ready : Type 0) → PrefixWentOut after text s t
    → WritesText text (Err (record { written = after })) s t unflushed ready
stopped after text s t unflushed ready part = search (arith, took_unhindered)

-- a call for lines that stopped within those of the first k edges
pub put_stopped : (count after k : ℕ) (links : List Link) (bytes : List ℕ) (s t : SinkState) (ready : Type 0) → bytes ≡ flat_map link_line (take k links)
    → HandsPrefix count after bytes s t → PutsLines count links (Err (record { written = after })) s t ready
put_stopped count after k links bytes s t ready are part =
    let all : bytes ++ flat_map link_line (drop k links) ≡ flat_map link_line links =
    ap (λ xs. xs ++ flat_map link_line (drop k links)) are ∙ sym (flat_map-append link_line (take k links) (drop k links)) ∙ ap (flat_map link_line) (take-append-drop k links) in
    record {
      some = tt;
      whole = tt;
      part = subst (λ xs. HandsPrefix count after xs s t) all (prefix_of_more count after bytes (flat_map link_line (drop k links)) s t part);
      ends_ok = λ none. absurd (omega (arith, took_unhindered 1 (take part.sent bytes) s t none part.took));
      again = tt;
    }
