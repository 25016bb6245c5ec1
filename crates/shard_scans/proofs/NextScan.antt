-- The next scan of links that are listed by numbers.
use Rattle.std.proofs.Common.{◌≡◌, ℕ, ◌<◌, ◌≤◌, List, length, get_or, map, replicate, sym, ap, ◌∙◌, subst, inl, inr, arith}
use Rattle.std.proofs.lemmas.List.{get_or-map, length-map, length-replicate, same_lists}
use Rattle.links.specs.declared.links.Link.{Link}
use Rattle.links.specs.Labels.{label_of}
use Rattle.shard_scans.specs.declared.scanning.Best.{Best}
use Rattle.shard_scans.specs.declared.live.LiveLink.{LiveLink}
use Rattle.shard_scans.specs.declared.numbers.MarkWord.{MarkWord}
use Rattle.shard_scans.specs.Scanning.{no_best, AreBestUpTo}
use Rattle.shard_scans.specs.Live.{AreParallel, places_of, AreLiveLinks, CanBeTakenIn, TakesInLive, relabelled}
use Rattle.shard_scans.specs.Numbers.{marks_of, marked_in, IsMarked, number_of, numbered, numbered_labels, HasItsName, HasNumbers, AreLiveByNumbers, AreNumbered, AreListed}
use Rattle.shard_scans.proofs.Scans.{best_of_none}
use Rattle.shard_scans.proofs.Laid.{live_or_aside}
use Rattle.shard_scans.proofs.Written.{place_in_list, live_ends, live_links_coarser}
use Rattle.shard_scans.proofs.Numbering.{number_within_names}
use Rattle.shard_scans.proofs.ByNumbers.{own_label, own_coarsens}
use Rattle.shard_scans.proofs.Relisting.{number_at, by_numbers_long, shown_again, have_names}

module _ (links : List Link) (labels : List ℕ) (words : List MarkWord) (names : List ℕ) (live : List LiveLink) (size : length names ≡ marked_in (marks_of words) (length words))
    (listed : AreLiveByNumbers links labels (marks_of words) names live) where
  abbrev marks : List ℕ
  marks = marks_of words

  abbrev by_labels : List LiveLink
  by_labels = listed.by_labels

  within : (c : ℕ) → IsMarked marks c → number_of marks c ≤ length names
  within = number_within_names words names size

  -- they are listed, by what they are written with after the numbers got their names
  pub numbers_are_listed : AreListed links labels names live
  numbers_are_listed = search (arith, shown_again, within, have_names)

  -- the endpoints of a link that is listed have numbers
  listed_has_numbers : (k : ℕ) (l : Link) → k < length (places_of by_labels) → l ≡ get_or links (get_or (places_of by_labels) k 0) l → HasNumbers labels marks names l
  listed_has_numbers k l lt read =
      let in_labels : k < length by_labels = omega (arith, lt, length-map by_labels (λ (x : LiveLink). x.place)) in
      let d : LiveLink = record { low = 0; high = 0; place = 0 } in
      let e : LiveLink = get_or by_labels k d in
      let place : get_or (places_of by_labels) k 0 ≡ e.place = get_or-map (λ (x : LiveLink). x.place) by_labels k d 0 in_labels in
      let w = listed.live_are.written k d in_labels l (subst (λ p. l ≡ get_or links p l) place read) in
      let low : e.low ≡ label_of labels l.low = ap (λ (x : LiveLink). x.low) (sym (listed.own k d in_labels)) ∙ w.low.2 in
      let high : e.high ≡ label_of labels l.high = ap (λ (x : LiveLink). x.high) (sym (listed.own k d in_labels)) ∙ w.high.2 in
      let is = listed.by_numbers.marked k d in_labels in
      let called = listed.by_numbers.named_are k d in_labels in
      record {
        low_marked = subst (IsMarked marks) low is.0;
        high_marked = subst (IsMarked marks) high is.1;
        low_named = subst (HasItsName marks names) low called.0;
        high_named = subst (HasItsName marks names) high called.1;
      }

  -- and so have those of a link that is parallel to it
  parallel_has_numbers : (e l : Link) → AreParallel labels e l → HasNumbers labels marks names e → HasNumbers labels marks names l
  parallel_has_numbers a1 a2 a3 a4 = search arith

  -- the endpoints of each link have one label, or they have numbers
  pub next_are_numbered : AreNumbered links labels marks names
  next_are_numbered q l lt read = elim (live_or_aside links labels 0 (length links) (places_of by_labels) q l listed.live_are.places (omega arith) lt read) [
    | inl aside ↦ elim aside [
      | inl quiet ↦ inl quiet.one_label
      | inr by_none ↦ absurd (omega (arith, by_none.just_before))
    ]
    | inr (k, k_lt, e, e_read, is) ↦
        let has = listed_has_numbers k e k_lt e_read in
        elim is [
          | inl same ↦ inr (subst (HasNumbers labels marks names) same has)
          | inr parallel ↦ inr (parallel_has_numbers e l parallel has)
        ]
  ]

  -- they are written with the numbers of all labels
  written_own : live ≡ map (relabelled (numbered_labels marks labels)) by_labels
  written_own =
      let mine = numbered_labels marks labels in
      listed.by_numbers.numbered_are
      ∙ same_lists (map (numbered marks) by_labels) (map (relabelled mine) by_labels) (length-map by_labels (numbered marks) ∙ sym (length-map by_labels (relabelled mine))) (λ k d lt.
      let in_labels : k < length by_labels = omega (arith, lt, length-map by_labels (numbered marks)) in
      let e : LiveLink = get_or by_labels k d in
      let ends = live_ends links labels by_labels listed.live_are k d in_labels in
      let low : number_of marks e.low ≡ label_of mine e.low = ap (number_of marks) (ap (λ (x : LiveLink). x.low) (sym (listed.own k d in_labels))) ∙ sym (own_label marks labels e.low ends.0) in
      let high : number_of marks e.high ≡ label_of mine e.high = ap (number_of marks) (ap (λ (x : LiveLink). x.high) (sym (listed.own k d in_labels))) ∙ sym (own_label marks labels e.high ends.1) in
      let same : numbered marks e ≡ relabelled mine e = λ j. record { low = low j; high = high j; place = e.place } in
      get_or-map (numbered marks) by_labels k d d in_labels ∙ same ∙ sym (get_or-map (relabelled mine) by_labels k d d in_labels))

  -- over a table of empty entries
  module _ (table : List Best) (none : table ≡ replicate (length names) no_best) where
    pub next_can_be_taken_in : (k : ℕ) (d : LiveLink) → k < length live → CanBeTakenIn links (length table) (get_or live k d)
    next_can_be_taken_in k d lt =
        let in_labels : k < length by_labels = omega (arith, lt, by_numbers_long marks names within by_labels live listed.by_numbers) in
        let e : LiveLink = get_or by_labels k d in
        let is = listed.by_numbers.marked k d in_labels in
        let long : length table ≡ length names = ap (λ (t : List Best). length t) none ∙ length-replicate (length names) no_best in
        subst (CanBeTakenIn links (length table)) (sym (number_at marks names within by_labels live listed.by_numbers k d in_labels)) (record {
          low = (omega arith, omega (arith, long, within e.low is.0));
          high = (omega arith, omega (arith, long, within e.high is.1));
          in_list = place_in_list links labels by_labels listed.live_are k in_labels d;
        })

    -- after all are taken, the entries have the best indices
    pub next_best : (table' : List Best) → TakesInLive links live table table' → AreBestUpTo (length names) links (numbered_labels marks labels) 0 (length links) table'
    next_best table' takes =
        let mine = numbered_labels marks labels in
        takes (length names) mine by_labels (live_links_coarser links mine labels by_labels (own_coarsens marks labels) listed.live_are) written_own
        (subst (AreBestUpTo (length names) links mine 0 0) (sym none) (best_of_none (length names) links mine 0))
