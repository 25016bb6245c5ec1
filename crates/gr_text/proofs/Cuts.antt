-- The lines of a text after more of it has come.
use Rattle.std.proofs.Common.{◌≡◌, ◌≢◌, ℕ, List, [], ◌∷◌, ◌++◌, refl, ap, sym, ◌∙◌, subst, append_assoc, append-nil, ◌⊎◌, inl, inr}
use Rattle.std.specs.List.{flat_map}
use Rattle.std.proofs.lemmas.Grind.{flat_map-append}
use Rattle.std.proofs.lemmas.Bool.Decides.{eqb_tells}
use Rattle.gr_text.specs.Lines.{line_feed, IsLine, ended, EndsLines}
use Rattle.gr_text.proofs.Alls.{All-both, All-push}

pub EndsLines-none : EndsLines [] [] []
EndsLines-none = record { whole = refl; each = tt; last = tt }

pub EndsLines-bytes : (text : List ℕ) (lines : List (List ℕ)) (part more : List ℕ) → EndsLines text lines part → IsLine more → EndsLines (text ++ more) lines (part ++ more)
EndsLines-bytes text lines part more cut is_line = record {
  whole = ap (λ (xs : List ℕ). xs ++ more) cut.whole ∙ append_assoc (flat_map ended lines) part more;
  each = cut.each;
  last = All-both (λ b. b ≢ line_feed) part more cut.last is_line;
}

pub EndsLines-feed : (text : List ℕ) (lines : List (List ℕ)) (part : List ℕ) → EndsLines text lines part → EndsLines (text ++ line_feed ∷ []) (lines ++ part ∷ []) []
EndsLines-feed text lines part cut = record {
  whole = ap (λ (xs : List ℕ). xs ++ line_feed ∷ []) cut.whole ∙ append_assoc (flat_map ended lines) part (line_feed ∷ [])
      ∙ ap (λ (xs : List ℕ). flat_map ended lines ++ xs) (sym (append-nil (ended part)))
      ∙ sym (flat_map-append ended lines (part ∷ [])) ∙ sym (append-nil (flat_map ended (lines ++ part ∷ [])));
  each = All-push IsLine lines part cut.each cut.last;
  last = tt;
}

-- the rest of a line and its line feed
pub EndsLines-line : (text : List ℕ) (lines : List (List ℕ)) (part line : List ℕ) → EndsLines text lines part → IsLine line → EndsLines (text ++ ended line) (lines ++ (part ++ line) ∷ []) []
EndsLines-line text lines part line cut is_line =
    subst (λ (xs : List ℕ). EndsLines xs (lines ++ (part ++ line) ∷ []) []) (append_assoc text line (line_feed ∷ []))
    (EndsLines-feed (text ++ line) lines (part ++ line) (EndsLines-bytes text lines part line cut is_line))

cut_with : (b : ℕ) (text : List ℕ) → (b ≡ line_feed) ⊎ (b ≢ line_feed) → (lines : List (List ℕ)) (part : List ℕ) → EndsLines text lines part
    → (lines : List (List ℕ)) × (part : List ℕ) × EndsLines (b ∷ text) lines part
cut_with b text (inl feeds) lines part cut =
    ([] ∷ lines, part, record { whole = ap (λ (x : ℕ). x ∷ text) feeds ∙ ap (λ (xs : List ℕ). line_feed ∷ xs) cut.whole; each = (tt, cut.each); last = cut.last })
cut_with b text (inr other) [] part cut =
    ([], b ∷ part, record { whole = ap (λ (xs : List ℕ). b ∷ xs) cut.whole; each = tt; last = (other, cut.last) })
cut_with b text (inr other) (line ∷ lines) part cut =
    ((b ∷ line) ∷ lines, part, record { whole = ap (λ (xs : List ℕ). b ∷ xs) cut.whole; each = ((other, cut.each.0), cut.each.1); last = cut.last })

-- Every text consists of whole lines and then a part of one. By induction from the front.
pub cut_of : (text : List ℕ) → (lines : List (List ℕ)) × (part : List ℕ) × EndsLines text lines part
cut_of [] = ([], [], EndsLines-none)
cut_of (b ∷ text) =
    let (lines, part, cut) = cut_of text in
    let which : (b ≡ line_feed) ⊎ (b ≢ line_feed) = elim (eqb_tells b line_feed) [ inl (test, same) ↦ inl same | inr (test, other) ↦ inr other ] in
    cut_with b text which lines part cut

-- a text whose rest is continued
pub EndsLines-more : (s t : List ℕ) (ls ms : List (List ℕ)) (part r : List ℕ) → EndsLines s ls part → EndsLines (part ++ t) ms r → EndsLines (s ++ t) (ls ++ ms) r
EndsLines-more s t ls ms part r a b = record {
  whole = ap (λ (xs : List ℕ). xs ++ t) a.whole ∙ append_assoc (flat_map ended ls) part t ∙ ap (λ (xs : List ℕ). flat_map ended ls ++ xs) b.whole
      ∙ sym (append_assoc (flat_map ended ls) (flat_map ended ms) r) ∙ ap (λ (xs : List ℕ). xs ++ r) (sym (flat_map-append ended ls ms));
  each = All-both IsLine ls ms a.each b.each;
  last = b.last;
}
