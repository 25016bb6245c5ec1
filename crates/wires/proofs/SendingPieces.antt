-- A shard that is sent in pieces.
use Rattle.std.proofs.Common.{◌≡◌, ℕ, ◌≤◌, List, [], ◌++◌, length, take, drop, sym, ap, subst, ◌∙◌, append_assoc, arith}
use Rattle.std.specs.List.{flat_map}
use Rattle.std.specs.Prelude.{Vec, vec_len, vec_capacity}
use Rattle.std.proofs.lemmas.List.{take-append-drop}
use Rattle.std.proofs.lemmas.Grind.{flat_map-append}
use Rattle.links.specs.declared.links.Link.{Link}
use Rattle.frames.specs.declared.spelling.Spelling.{Spelling}
use Rattle.frames.specs.Spellings.{spelled_in, FitIn}
use Rattle.frames.proofs.Spelled.{fit_parts}
use Rattle.wires.specs.Lines.{LineState}
use Rattle.wires.specs.Causes.{Transmits}
use Rattle.wires.specs.Sending.{AwaitsLinks, PutsSome}
use Rattle.wires.proofs.Going.{went_then}

pub parts_fit : (s : Spelling) (links front back : List Link) (n : ℕ) → front ≡ take n links → back ≡ drop n links → FitIn s links → FitIn s front × FitIn s back
parts_fit s links front back n first second fit =
    let whole : links ≡ front ++ back = sym (take-append-drop n links) ∙ ap (λ (t : List Link). t ++ drop n links) (sym first) ∙ ap (λ (t : List Link). front ++ t) (sym second) in
    fit_parts s front back (subst (FitIn s) whole fit)

pub awaits_rest : {A : Type 0} (s : Spelling) (links rest : List Link) (before after : Vec ℕ A) → AwaitsLinks s links before → FitIn s rest → length rest ≤ length links
    → vec_len after ≡ 0 → vec_capacity before ≤ vec_capacity after → AwaitsLinks s rest after
awaits_rest s links rest before after awaits fit fewer emptied kept = search (arith)

-- a piece after those before it
pub puts_then : (s : Spelling) (text none : List ℕ) (links rest rest' : List Link) (a b c : LineState) → none ≡ []
    → PutsSome s text links rest a b → PutsSome s none rest rest' b c → PutsSome s text links rest' a c
puts_then s text none links rest rest' a b c empty one two =
    let f = spelled_in s in
    let said : (text ++ flat_map f one.first) ++ (none ++ flat_map f two.first) ≡ text ++ flat_map f (one.first ++ two.first) =
    ap (λ (t : List ℕ). (text ++ flat_map f one.first) ++ (t ++ flat_map f two.first)) empty ∙ append_assoc text (flat_map f one.first) (flat_map f two.first)
    ∙ ap (λ (t : List ℕ). text ++ t) (sym (flat_map-append f one.first two.first)) in
    record {
      first = one.first ++ two.first;
      parted = one.parted ∙ ap (λ (t : List Link). one.first ++ t) two.parted ∙ sym (append_assoc one.first two.first rest');
      went = subst (λ (t : List ℕ). Transmits t a c) said (went_then 0 0 0 0 _ [] _ [] a b c one.went two.went);
    }
