-- Live links, each written with labels of its endpoints.
use Rattle.std.proofs.Common.{◌≡◌, ℕ, ◌+◌, ◌<◌, ◌≤◌, List, [], ◌∷◌, ◌++◌, length, get_or, All, Option, Some, None, refl, sym, ap, ◌∙◌, subst, arith}
use Rattle.std.specs.Prelude.{IfSome}
use Rattle.std.proofs.lemmas.List.{get_or_default, get_or-map, map-append, length-map}
use Rattle.std.proofs.lemmas.List.Elements.{All-append, All-cons, All-nil}
use Rattle.links.specs.declared.links.Link.{Link}
use Rattle.links.specs.Link.{EndsUpTo}
use Rattle.links.specs.Labels.{label_of, AreLabels, Coarsens}
use Rattle.round_theory.specs.Labelling.{IsVertex}
use Rattle.shard_scans.specs.declared.scanning.Best.{Best}
use Rattle.shard_scans.specs.declared.live.LiveLink.{LiveLink}
use Rattle.shard_scans.specs.Scanning.{AreBestUpTo, TakesIn}
use Rattle.shard_scans.specs.Live.{AreLive, HaveOneLabel, IsEntryOf, places_of, AreLiveLinks, StayLive, relabelled, written_at, CanBeTakenIn, KeptShardState, IsLive}
use Rattle.shard_scans.proofs.Laid.{one_label_coarser, live_coarser, live_first, live_next, live_within, live_end, live_push, front_is_quiet}
use Rattle.shard_scans.proofs.BestSoFar.{one_read}
use Rattle.shard_scans.proofs.Scans.{bests_stay, end_at}
use Rattle.shard_scans.proofs.Outdone.{bests_over}

-- what is written of a link stays right under labels that coarsen
pub written_coarser : (labels finer : List ℕ) (l : Link) (e : LiveLink) → Coarsens labels finer → IsEntryOf finer l e → IsEntryOf labels l e
written_coarser labels finer l e coarsens is = search (arith, one_label_coarser)

pub live_links_coarser : (links : List Link) (labels finer : List ℕ) (live : List LiveLink) → Coarsens labels finer → AreLiveLinks links finer live → AreLiveLinks links labels live
live_links_coarser links labels finer live coarsens are = search (arith, live_coarser, written_coarser)

-- links that are live stay so under labels that coarsen
pub kept_coarser : (kept : KeptShardState) (labels finer : List ℕ) → Coarsens labels finer → IsLive finer kept → IsLive labels kept
kept_coarser kept labels finer coarsens live = search (arith, live_links_coarser)

module _ (labels : List ℕ) (are : AreLabels labels) where
  -- a label is a vertex, and its own label
  pub label_vertex : (v : ℕ) → IsVertex (length labels) v → IsVertex (length labels) (label_of labels v)
  label_vertex v (low, high) = let is = are.labelled v low high in (is.from_one, omega (arith, is.at_most_itself, high))

  label_stands : (u v : ℕ) → HaveOneLabel labels u v → HaveOneLabel labels (label_of labels u) v
  label_stands u v (at_u, at_v, same) = (label_vertex u at_u, at_v, (are.labelled u at_u.0 at_u.1).own ∙ same)

  -- the labels of what is written of a link may replace it
  pub relabelled_written : (l : Link) (e : LiveLink) → IsEntryOf labels l e → IsEntryOf labels l (relabelled labels e)
  relabelled_written l e is = record { low = label_stands e.low l.low is.low; high = label_stands e.high l.high is.high }

  pub own_written : (l : Link) (place : ℕ) → l.high ≤ length labels → IsEntryOf labels l (written_at labels l place)
  own_written l place ends = search (arith, label_stands)

  -- and label themselves
  pub relabelled_stands : (e : LiveLink) → IsVertex (length labels) e.low → IsVertex (length labels) e.high → relabelled labels (relabelled labels e) ≡ relabelled labels e
  relabelled_stands e low high = λ k. record { low = (are.labelled e.low low.0 low.1).own k; high = (are.labelled e.high high.0 high.1).own k; place = e.place }

places_count : (live : List LiveLink) → length (places_of live) ≡ length live
places_count live = length-map live (λ (l : LiveLink). l.place)

pub link_at : (links : List Link) (p : ℕ) → p < length links → (l : Link) × (l ≡ get_or links p l)
link_at [] p within = absurd (omega (arith, within))
link_at (x ∷ links) p within = (get_or (x ∷ links) p x, get_or_default (x ∷ links) p x (get_or (x ∷ links) p x) within)

pub link_can_be_taken_in : (links : List Link) (labels : List ℕ) (n place : ℕ) (l : Link) → n ≡ length labels → AreLabels labels → EndsUpTo (length labels) links → place < length links
    → l ≡ get_or links place l → CanBeTakenIn links n (written_at labels l place)
link_can_be_taken_in links labels n place l size labelled ends within read = search (arith, end_at, label_vertex)

module _ (links : List Link) (labels : List ℕ) where
  module _ (old : List LiveLink) (are : AreLiveLinks links labels old) where
    -- a table of no links is before the first live one, and in the end all links were scanned
    pub bests_none : (count : ℕ) (table : List Best) → AreBestUpTo count links labels 0 0 table → AreBestUpTo count links labels 0 (get_or (places_of old) 0 (length links)) table
    bests_none count table none = search (arith, live_first, bests_stay, front_is_quiet)

    pub bests_all : (count i : ℕ) (table : List Best) → i ≡ length old
        → AreBestUpTo count links labels 0 (get_or (places_of old) i (length links)) table → AreBestUpTo count links labels 0 (length links) table
    bests_all count i table at best = search (arith, places_count, live_end)

    module _ (i : ℕ) (within : i < length old) (d : LiveLink) where
      abbrev here : LiveLink
      here = get_or old i d

      in_places : i < length (places_of old)
      in_places = omega (arith, within, places_count old)

      -- its index is one of the list, and it is written of the link there
      place_is : get_or (places_of old) i 0 ≡ here.place
      place_is = get_or-map (λ (l : LiveLink). l.place) old i d 0 within

      pub place_in_list : here.place < length links
      place_in_list = subst (λ p. p < length links) place_is (live_within links labels 0 (length links) (places_of old) i 0 are.places in_places).1

      pub written_here : (l : Link) × (l ≡ get_or links here.place l) × IsEntryOf labels l here
      written_here = let (l, read) = link_at links here.place place_in_list in (l, read, are.written i d within l read)

      pub low_is_vertex : IsVertex (length labels) here.low
      low_is_vertex = let (l, read, is) = written_here in is.low.0

      pub high_is_vertex : IsVertex (length labels) here.high
      high_is_vertex = let (l, read, is) = written_here in is.high.0

      module _ (next : LiveLink) (next_is : next ≡ relabelled labels here) where
        -- after it is taken, all links before the next one were scanned
        pub bests_next : (count from p : ℕ) (table table' : List Best) → p ≡ next.place → from ≤ get_or (places_of old) i (length links) → TakesIn links next.low next.high p table table'
            → AreBestUpTo count links labels from (get_or (places_of old) i (length links)) table → AreBestUpTo count links labels from (get_or (places_of old) (i + 1) (length links)) table'
        bests_next count from p table table' p_is le takes best =
            let (l, read, is) = written_here in
            let at : p ≡ here.place = p_is ∙ ap (λ (l : LiveLink). l.place) next_is in
            let end : get_or (places_of old) i (length links) ≡ p = get_or_default (places_of old) i (length links) 0 in_places ∙ place_is ∙ sym at in
            let taken = takes count labels from l (subst (λ k. l ≡ get_or links k l) (sym at) read)
            (ap (λ (k : LiveLink). k.low) next_is ∙ is.low.2) (ap (λ (k : LiveLink). k.high) next_is ∙ is.high.2)
            (subst (λ k. from ≤ k) end le) (subst (λ k. AreBestUpTo count links labels from k table) end best) in
            let (le', aside) = live_next links labels 0 (length links) (places_of old) i 0 are.places in_places in
            let seen : from < get_or (places_of old) i 0 + 1 = omega (arith, le, get_or_default (places_of old) i (length links) 0 in_places) in
            bests_over links labels from (get_or (places_of old) i 0 + 1) (get_or (places_of old) (i + 1) (length links)) seen le' aside count table'
            (subst (λ k. AreBestUpTo count links labels from (k + 1) table') (at ∙ sym place_is) taken)

  pub live_ends : (live : List LiveLink) → AreLiveLinks links labels live → All (λ l. IsVertex (length labels) l.low × IsVertex (length labels) l.high) live
  live_ends live are = λ i d within. (low_is_vertex live are i within d, high_is_vertex live are i within d)

  -- live links before an index of the list
  pub record AreWrittenBefore (to : ℕ) (live : List LiveLink) : Type 0 where
    pub places : AreLive links labels 0 to (places_of live)
    pub written : All (λ e. (l : Link) → l ≡ get_or links e.place l → IsEntryOf labels l e) live
    pub own : All (λ e. relabelled labels e ≡ e) live

  -- another one is appended
  module _ (place : ℕ) (l : Link) (within : place < length links) (read : l ≡ get_or links place l) (ends : l.high ≤ length labels) (live : List LiveLink) (before : AreWrittenBefore place live) where
    pub written_more : AreLabels labels → AreWrittenBefore (place + 1) (live ++ written_at labels l place ∷ [])
    written_more are = record {
      places = subst (AreLive links labels 0 (place + 1)) (sym (map-append (λ (e : LiveLink). e.place) live (written_at labels l place ∷ [])))
          (live_push links labels 0 place (places_of live) before.places);
      written = All-append P live (written_at labels l place ∷ []) before.written
          (All-cons P (written_at labels l place) []
          (λ k k_read. subst (λ m. IsEntryOf labels m (written_at labels l place)) (one_read links place l k within read k_read) (own_written labels are l place ends)) (All-nil P));
      own = All-append Own live (written_at labels l place ∷ []) before.own
          (All-cons Own (written_at labels l place) []
          (relabelled_stands labels are (record { low = l.low; high = l.high; place = place }) (l.from_one, omega (arith, l.ascending, ends)) (omega (arith, l.from_one, l.ascending), ends))
          (All-nil Own));
    }
      where
        Own : LiveLink → Type 0
        Own e = relabelled labels e ≡ e

        P : LiveLink → Type 0
        P e = (k : Link) → k ≡ get_or links e.place k → IsEntryOf labels k e

  -- or left out
  pub written_left_out : (place : ℕ) (live : List LiveLink) → AreWrittenBefore place live → StayLive links labels live place → AreWrittenBefore (place + 1) live
  written_left_out place live before stay = record { places = stay before.places; written = before.written; own = before.own }
