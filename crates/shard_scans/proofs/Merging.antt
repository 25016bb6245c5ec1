-- Tables of two parts of a shard's links, merged.
use Rattle.std.proofs.Common.{◌≡◌, ◌≢◌, ℕ, ◌+◌, ◌-◌, ◌<◌, ◌≤◌, ◌^◌, List, length, get_or, set, Option, Some, None, sym, ap, ◌∙◌, subst, inl, inr, arith}
use Rattle.std.proofs.lemmas.Bool.{cases_eq}
use Rattle.std.proofs.lemmas.List.{get_or_default, get_or-set_same, get_or-set_other, length-set}
use Rattle.links.specs.declared.links.Link.{Link}
use Rattle.round_theory.specs.Labelling.{IsVertex}
use Rattle.shard_scans.specs.declared.scanning.Best.{Best}
use Rattle.shard_scans.specs.Scanning.{no_best, SaysBest, Keeps, KeepsLesser, best_of, AreBest}
use Rattle.shard_scans.proofs.Scans.{kept_place, kept_none, kept_at, keeps_out}

-- an entry has the short key of the weight of the link at its index
pub bests_say : (links : List Link) (labels : List ℕ) (from to : ℕ) (table : List Best) → AreBest links labels from to table → (i : ℕ) (d : Best) → i < length table
    → (get_or table i d).place ≢ no_best.place → SaysBest links (get_or table i d) (Some (get_or table i d).place)
bests_say links labels from to table are i d within some = go keeps.best keeps.says
  where
    kept : Best
    kept = get_or table i d

    keeps : Keeps links labels from to (i + 1) kept
    keeps = kept_at (length labels) links labels from to table (i + 1) i d are (omega arith, omega (arith, within, are.each_vertex)) (omega arith)

    go : (best : Option ℕ) → SaysBest links kept best → SaysBest links kept (Some kept.place)
    go None says = absurd (some (ap (λ (b : Best). b.place) says))
    go (Some p) says = subst (λ k. SaysBest links kept (Some k)) (sym says.0) says

-- the entries of the labels up to one have the best index of both parts, and the others that of the earlier part
pub record AreMerged (links : List Link) (labels : List ℕ) (from at to done : ℕ) (table : List Best) : Type 0 where
  pub each_vertex : length table ≡ length labels
  pub merged : (c : ℕ) → IsVertex (length labels) c → c ≤ done → Keeps links labels from to c (best_of table c)
  pub rest : (c : ℕ) → IsVertex (length labels) c → done < c → Keeps links labels from at c (best_of table c)

module _ (links : List Link) (labels : List ℕ) (from at to : ℕ) where
  -- at first no label is merged, and in the end all are
  pub merged_none : (table : List Best) → AreBest links labels from at table → AreMerged links labels from at to 0 table
  merged_none table are = search arith

  pub merged_all : (table : List Best) (done : ℕ) → length labels ≤ done → AreMerged links labels from at to done table → AreBest links labels from to table
  merged_all table done all are = record { each_vertex = are.each_vertex; best = λ c vertex. are.merged c vertex (omega (arith, vertex.1, all)) }

  module _ (le : at ≤ to) (few : length links ≤ 2 ^ 24) (later : List Best) (later_are : AreBest links labels at to later)
      (i : ℕ) (within : i < length later) (d : Best) (table : List Best) (are : AreMerged links labels from at to i table) where
    abbrev next : Best
    next = get_or later i d

    vertex : IsVertex (length labels) (i + 1)
    vertex = (omega arith, omega (arith, within, later_are.each_vertex))

    next_keeps : Keeps links labels at to (i + 1) next
    next_keeps = kept_at (length labels) links labels at to later (i + 1) i d later_are vertex (omega arith)

    at_next : best_of table (i + 1) ≡ get_or table i d
    at_next = ap (λ k. get_or table k no_best) (omega arith) ∙ get_or_default table i no_best d (omega (arith, vertex, are.each_vertex))

    -- no link of the later part leaves the label
    pub merged_skip : next.place ≡ no_best.place → AreMerged links labels from at to (i + 1) table
    merged_skip none = search (arith, cases_eq, keeps_out, kept_none, next_keeps, vertex)

    pub merged_next : from ≤ at → (after : Best) → KeepsLesser links next (get_or table i d) after → next.place ≢ no_best.place → AreMerged links labels from at to (i + 1) (set table i after)
    merged_next from_le after lesser some = record {
      each_vertex = length-set table i after ∙ are.each_vertex;
      merged = λ c c_vertex c_le. elim (cases_eq c (i + 1)) [
        | inl is ↦ subst (λ k. Keeps links labels from to k (best_of (set table i after) k)) (sym is)
            (subst (Keeps links labels from to (i + 1)) (sym at_after)
            (lesser labels (i + 1) from at to from_le (subst (Keeps links labels from at (i + 1)) at_next (are.rest (i + 1) vertex (omega arith)))
            (kept_place links labels at to (i + 1) next next_keeps some)))
        | inr other ↦ subst (Keeps links labels from to c) (sym (elsewhere c c_vertex other)) (are.merged c c_vertex (omega (arith, c_le, other)))
      ];
      rest = λ c c_vertex lt. subst (Keeps links labels from at c) (sym (elsewhere c c_vertex (λ same. omega (arith, same, lt)))) (are.rest c c_vertex (omega (arith, lt)));
    }
      where
        at_after : best_of (set table i after) (i + 1) ≡ after
        at_after = ap (λ k. get_or (set table i after) k no_best) (omega arith) ∙ get_or-set_same table i after no_best (omega (arith, vertex, are.each_vertex))

        elsewhere : (c : ℕ) → IsVertex (length labels) c → c ≢ i + 1 → best_of (set table i after) c ≡ best_of table c
        elsewhere c c_vertex other = get_or-set_other table i (c - 1) after no_best (λ same. other (omega (arith, same, c_vertex)))
