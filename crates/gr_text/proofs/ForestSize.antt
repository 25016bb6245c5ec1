-- A bound of the length of a forest's text. std writes every number in at most 64 digits, so a line has at most 256
-- bytes. Therefore the count reported for the text of up to 2^55 edges is exact.
use Rattle.std.proofs.Common.{ℕ, zero, suc, ◌+◌, ◌*◌, ◌/◌, ◌%◌, ◌^◌, ◌≤◌, Bool, true, false, cond, List, [], ◌∷◌, length, decimal, get_or, arith, length-append}
use Rattle.std.specs.Prelude.{ℤ, pos, negsuc, ◌==◌}
use Rattle.std.specs.Fmt.{digits_onto, digits, digit_glyph, signed_decimal}
use Rattle.std.specs.List.{flat_map}
use Rattle.std.proofs.lemmas.List.Concat.{length-flat_map}
use Rattle.std.proofs.lemmas.List.Sums.{sum_by-le}
use Rattle.links.specs.declared.links.Link.{Link}
use Rattle.byte_streams.specs.Streams.{SinkState, WentOut}
use Rattle.gr_text.specs.ForestText.{header_of, link_line, forest_text}
use Rattle.gr_text.specs.Written.{PrefixWentOut}
use Rattle.gr_text.proofs.Handing.{prefix_is_exact}

-- each step of the spelling puts one digit in front
digits_fit : (k base : ℕ) (upper : Bool) (n : ℕ) (behind : List ℕ) → length (digits_onto k base upper n behind) ≤ k + length behind
digits_fit zero base upper n behind = omega arith
digits_fit (suc k) base upper n behind =
    let digit = digit_glyph upper (n % base) in
    elim (n / base == 0) as (λ b. length (cond b (digit ∷ behind) (digits_onto k base upper (n / base) (digit ∷ behind))) ≤ suc k + length behind) [
      | true ↦ omega arith
      | false ↦ omega (arith, digits_fit k base upper (n / base) (digit ∷ behind))
    ]

decimal_fits : (n : ℕ) → length (decimal n) ≤ 64
unfolding digits
decimal_fits n = omega (arith, digits_fit 64 10 false n [])

signed_fits : (z : ℤ) → length (signed_decimal z) ≤ 65
signed_fits a1 = search (arith, decimal_fits)

header_fits : (n k : ℕ) → length (header_of n k) ≤ 256
header_fits n k = simp length-append (omega (arith, decimal_fits n, decimal_fits k))

line_fits : (l : Link) → length (link_line l) ≤ 256
line_fits l = simp length-append (omega (arith, decimal_fits l.low, decimal_fits l.high, signed_fits l.weight))

text_fits : (n : ℕ) (links : List Link) → length (forest_text n links) ≤ 256 + length links * 256
text_fits n links = search (arith, length-append, header_fits, length-flat_map, sum_by-le, line_fits)

-- the count reported for the text of a forest with at most 2^55 edges is exact
pub few_are_exact : (written n : ℕ) (forest : List Link) (s t : SinkState) → length forest ≤ 2 ^ 55
    → PrefixWentOut written (forest_text n forest) s t → WentOut written (forest_text n forest) s t
few_are_exact written n forest s t few part = prefix_is_exact written (forest_text n forest) s t (omega (arith, text_fits n forest)) part
