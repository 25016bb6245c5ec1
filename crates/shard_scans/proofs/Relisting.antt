-- Live links that are listed by numbers.
use Rattle.std.proofs.Common.{◌≡◌, ◌≢◌, ℕ, ◌-◌, ◌<◌, ◌≤◌, List, [], ◌∷◌, length, get_or, map, All, refl, sym, ap, ◌∙◌, subst, inl, inr, arith}
use Rattle.std.proofs.lemmas.Bool.Decides.{eqb_tells}
use Rattle.std.proofs.lemmas.List.{get_or-map, length-map, get_or_default, same_lists}
use Rattle.std.proofs.lemmas.List.Elements.{All-head, All-tail}
use Rattle.links.specs.Labels.{label_of}
use Rattle.round_theory.specs.Labelling.{IsVertex}
use Rattle.shard_scans.specs.declared.live.LiveLink.{LiveLink}
use Rattle.shard_scans.specs.Live.{relabelled, packed}
use Rattle.shard_scans.specs.Numbers.{IsMarked, number_of, numbered, named, HasItsName, AreBothMarked, AreBothNamed, HaveNames, HaveMarks, new_name, shown, AreByNumbers}
use Rattle.shard_scans.proofs.Packed.{packed_same, packed_apart, packed_all}
use Rattle.shard_scans.proofs.Numbering.{numbers_apart}

-- what is written with numbers, by their names, is what was written with labels
module _ (marks names : List ℕ) (within : (c : ℕ) → IsMarked marks c → number_of marks c ≤ length names) where
  name_of : (c d : ℕ) → IsMarked marks c → HasItsName marks names c → get_or names (number_of marks c - 1) d ≡ c
  name_of c d is at = get_or_default names (number_of marks c - 1) d 0 (omega (arith, within c is)) ∙ at

  pub named_again : (e : LiveLink) → AreBothMarked marks e → AreBothNamed marks names e → named names (numbered marks e) ≡ e
  named_again e is at = search (arith, name_of)

  module _ (by_labels live : List LiveLink) (are : AreByNumbers marks names by_labels live) where
    pub number_at : (k : ℕ) (d : LiveLink) → k < length by_labels → get_or live k d ≡ numbered marks (get_or by_labels k d)
    number_at k d lt = ap (λ (t : List LiveLink). get_or t k d) are.numbered_are ∙ get_or-map (numbered marks) by_labels k d d lt

    pub by_numbers_long : length live ≡ length by_labels
    by_numbers_long = ap (λ (t : List LiveLink). length t) are.numbered_are ∙ length-map by_labels (numbered marks)

    pub shown_again : shown names live ≡ by_labels
    shown_again = same_lists (shown names live) by_labels (length-map live (named names) ∙ by_numbers_long) (λ k d lt.
        let in_live : k < length live = omega (arith, lt, length-map live (named names)) in
        let in_labels : k < length by_labels = omega (arith, in_live, by_numbers_long) in
        get_or-map (named names) live k d d in_live
        ∙ ap (named names) (number_at k d in_labels)
        ∙ named_again (get_or by_labels k d) (are.marked k d in_labels) (are.named_are k d in_labels))

    pub have_names : HaveNames names live
    have_names k d lt = search (arith, by_numbers_long, number_at)

-- the next list
module _ (labels marks names names' changed : List ℕ) (marked : HaveMarks labels marks names)
    (number_is : (i : ℕ) → i < length names → get_or changed i 0 ≡ number_of marks (new_name labels (get_or names i 0)))
    (name_is : (i : ℕ) → i < length names → HasItsName marks names' (new_name labels (get_or names i 0))) where
  -- about the label of a number's name
  at_end : (x : ℕ) → IsVertex (length names) x → IsVertex (length labels) (get_or names (x - 1) x)
      → (label_of changed x ≡ number_of marks (label_of labels (get_or names (x - 1) x))) × IsMarked marks
      (label_of labels (get_or names (x - 1) x)) × HasItsName marks names' (label_of labels (get_or names (x - 1) x))
  at_end x vertex name_vertex = search (arith, get_or_default)

  abbrev Ends : LiveLink → Type 0
  Ends l = IsVertex (length names) l.low × IsVertex (length names) l.high

  abbrev Vertices : LiveLink → Type 0
  Vertices l = IsVertex (length labels) l.low × IsVertex (length labels) l.high

  packed_numbers : (live : List LiveLink) → All Ends live → All Vertices (shown names live) → packed changed live ≡ map (numbered marks) (packed labels (shown names live))
  packed_numbers [] have ends = refl
  packed_numbers (l ∷ live) have ends =
      let e : LiveLink = named names l in
      let x = All-head Ends l live have in
      let v = All-head Vertices e (shown names live) ends in
      let low = at_end l.low x.0 v.0 in
      let high = at_end l.high x.1 v.1 in
      let later = packed_numbers live (All-tail Ends l live have) (All-tail Vertices e (shown names live) ends) in
      elim (eqb_tells (label_of labels e.low) (label_of labels e.high)) [
        | inl (test, same) ↦
            packed_same changed l live (low.0 ∙ ap (number_of marks) same ∙ sym high.0)
            ∙ later
            ∙ ap (λ t. map (numbered marks) t) (sym (packed_same labels e (shown names live) same))
        | inr (test, apart) ↦
            let changed_apart : label_of changed l.low ≢ label_of changed l.high =
            λ same. apart (numbers_apart marks (label_of labels e.low) (label_of labels e.high) low.1 high.1 (sym low.0 ∙ same ∙ high.0)) in
            let first : relabelled changed l ≡ numbered marks (relabelled labels e) = λ k. record { low = low.0 k; high = high.0 k; place = l.place } in
            packed_apart changed l live changed_apart
            ∙ ap (λ (m : LiveLink). m ∷ packed changed live) first
            ∙ ap (λ (t : List LiveLink). numbered marks (relabelled labels e) ∷ t) later
            ∙ ap (λ t. map (numbered marks) t) (sym (packed_apart labels e (shown names live) apart))
      ]

  abbrev Facts : ℕ → ℕ → Type 0
  Facts x v = (label_of changed x ≡ number_of marks (label_of labels v)) × IsMarked marks (label_of labels v) × HasItsName marks names' (label_of labels v)

  pub next_by_numbers : (live : List LiveLink) → HaveNames names live → All Vertices (shown names live) → AreByNumbers marks names' (packed labels (shown names live)) (packed changed live)
  next_by_numbers live have ends = record {
    numbered_are = packed_numbers live have ends;
    marked = packed_all labels (AreBothMarked marks) (shown names live) (λ k d lt. let (low, high) = both k d lt in (low.1, high.1));
    named_are = packed_all labels (AreBothNamed marks names') (shown names live) (λ k d lt. let (low, high) = both k d lt in (low.2, high.2));
  }
    where
      both : (k : ℕ) (d : LiveLink) → k < length (shown names live)
          → Facts (get_or live k d).low (get_or (shown names live) k d).low × Facts (get_or live k d).high (get_or (shown names live) k d).high
      both k d lt =
          let in_live : k < length live = omega (arith, lt, length-map live (named names)) in
          let l : LiveLink = get_or live k d in
          let is : get_or (shown names live) k d ≡ named names l = get_or-map (named names) live k d d in_live in
          let x = have k d in_live in
          let v = subst Vertices is (ends k d lt) in
          subst (λ (e : LiveLink). Facts l.low e.low × Facts l.high e.high) (sym is) (at_end l.low x.0 v.0, at_end l.high x.1 v.1)
