-- Live links under new labels, without those whose endpoints now have one label.
use Rattle.std.proofs.Common.{◌≡◌, ◌≢◌, ℕ, ◌+◌, List, [], ◌∷◌, ◌++◌, length, get_or, All, cond, refl, sym, ap, ◌∙◌, subst, inl, inr, arith}
use Rattle.std.proofs.lemmas.Bool.Decides.{eqb_tells}
use Rattle.std.proofs.lemmas.List.Elements.{All-cons, All-head, All-nil, All-tail}
use Rattle.links.specs.declared.links.Link.{Link}
use Rattle.links.specs.Labels.{label_of, AreLabels}
use Rattle.shard_scans.specs.declared.live.LiveLink.{LiveLink}
use Rattle.shard_scans.specs.Live.{IsInside, AreLive, IsEntryOf, places_of, AreLiveLinks, relabelled, packed}
use Rattle.shard_scans.proofs.Laid.{live_without}
use Rattle.shard_scans.proofs.Written.{relabelled_written, relabelled_stands, live_ends}

module _ (labels : List ℕ) where
  pub packed_same : (l : LiveLink) (live : List LiveLink) → label_of labels l.low ≡ label_of labels l.high → packed labels (l ∷ live) ≡ packed labels live
  packed_same l live same = search (arith, eqb_tells, cond)

  pub packed_apart : (l : LiveLink) (live : List LiveLink) → label_of labels l.low ≢ label_of labels l.high → packed labels (l ∷ live) ≡ relabelled labels l ∷ packed labels live
  packed_apart l live apart = search (arith, eqb_tells, cond)

  pub packed_append : (xs ys : List LiveLink) → packed labels (xs ++ ys) ≡ packed labels xs ++ packed labels ys
  packed_append [] ys = refl
  packed_append (x ∷ xs) ys = search (arith, eqb_tells, packed_same, packed_apart, packed_append xs ys)

  -- what holds for each under its labels holds for all that stay
  pub packed_all : (P : LiveLink → Type 0) (live : List LiveLink) → All (λ l. P (relabelled labels l)) live → All P (packed labels live)
  packed_all P [] all = All-nil P
  packed_all P (x ∷ live) all = elim (eqb_tells (label_of labels x.low) (label_of labels x.high)) [
    | inl (test, same) ↦ subst (All P) (sym (packed_same x live same)) (packed_all P live (All-tail (λ l. P (relabelled labels l)) x live all))
    | inr (test, apart) ↦ subst (All P) (sym (packed_apart x live apart))
        (All-cons P (relabelled labels x) (packed labels live) (All-head (λ l. P (relabelled labels l)) x live all) (packed_all P live (All-tail (λ l. P (relabelled labels l)) x live all)))
  ]

module _ (links : List Link) (labels : List ℕ) where
  abbrev Written : LiveLink → Type 0
  Written e = (l : Link) → l ≡ get_or links e.place l → IsEntryOf labels l e

  -- the link at the index of one that is removed is inside a component
  left_out : (e : LiveLink) → Written e → label_of labels e.low ≡ label_of labels e.high → (l : Link) → l ≡ get_or links e.place l → IsInside labels l
  left_out e written same l read = let is = written l read in record { labelled = is.high.1.1; one_label = sym is.low.2 ∙ same ∙ is.high.2 }

  packed_places : (from to : ℕ) (live : List LiveLink) → All Written live → AreLive links labels from to (places_of live) → AreLive links labels from to (places_of (packed labels live))
  packed_places from to [] all is = is
  packed_places from to (e ∷ live) all (le, aside, rest) =
      let later = packed_places (e.place + 1) to live (All-tail Written e live all) rest in
      elim (eqb_tells (label_of labels e.low) (label_of labels e.high)) [
        | inl (test, same) ↦ subst (λ t. AreLive links labels from to (places_of t)) (sym (packed_same labels e live same))
            (live_without links labels from e.place to (places_of (packed labels live)) le aside (left_out e (All-head Written e live all) same) later)
        | inr (test, apart) ↦ subst (λ t. AreLive links labels from to (places_of t)) (sym (packed_apart labels e live apart)) (le, aside, later)
      ]

  pub packed_live : (live : List LiveLink) → AreLabels labels → AreLiveLinks links labels live → AreLiveLinks links labels (packed labels live)
  packed_live live labelled are = record {
    places = packed_places 0 (length links) live are.written are.places;
    written = packed_all labels Written live (λ k d lt l read. relabelled_written labels labelled l (get_or live k d) (are.written k d lt l read));
  }

  -- the labels of the links that stay label themselves
  pub packed_own : (live : List LiveLink) → AreLabels labels → AreLiveLinks links labels live → All (λ e. relabelled labels e ≡ e) (packed labels live)
  packed_own live labelled are = packed_all labels (λ e. relabelled labels e ≡ e) live (λ k d lt.
      let at = live_ends links labels live are k d lt in
      relabelled_stands labels labelled (get_or live k d) at.0 at.1)
