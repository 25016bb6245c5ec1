-- Before the first link is taken, and after all links are joined.
use Rattle.std.proofs.Common.{◌≡◌, ℕ, ◌+◌, ◌-◌, ◌<◌, ◌≤◌, List, ◌++◌, length, map, take, drop, Some, sym, ap, ◌∙◌, subst, arith}
use Rattle.std.specs.Prelude.{slice_get}
use Rattle.std.proofs.Math.Seq.{take-append_seam}
use Rattle.std.proofs.lemmas.List.{length-map, get_or-map, take_all}
use Rattle.std.proofs.lemmas.Option.{slice_get_within, get_or_from_slice_get}
use Rattle.links.specs.declared.links.Link.{Link}
use Rattle.links.specs.Link.{EndsUpTo}
use Rattle.links.proofs.Components.{components_left}
use Rattle.link_key.specs.Components.{IsAcyclic}
use Rattle.link_merges.specs.declared.merges.Merge.{Merge}
use Rattle.link_merges.specs.Halves.{row_at, AreBelow, CloseNone, HasEnds, AreToJoin, AreJoined, AreMergesUpTo, points_of}
use Rattle.link_merges.proofs.Cutting.{at_first}
use Rattle.link_merges.proofs.Merging.{link_there, ends_in, acyclic_first}

abbrev no_row : Merge
no_row = record { first = 0; second = 0; size = 0 }

-- there are at most as many links that close no cycle as there are vertices
pub few_links : (n : ℕ) (links : List Link) → EndsUpTo n links → IsAcyclic links → length links ≤ n
few_links n links ends acyclic = let sum = (components_left n links ends acyclic.0 acyclic.1).2 in omega (arith, sum)

module _ (n : ℕ) (links : List Link) (ends : EndsUpTo n links) (rows : List Merge) (are : rows ≡ map points_of links) where
  pub len : length rows ≡ length links
  len = ap length are ∙ simp length-map

  row_is : (j : ℕ) (l : Link) → j < length rows → slice_get links j ≡ Some l → row_at rows j ≡ points_of l
  row_is j l lt at = search (arith, len, get_or-map, get_or_from_slice_get)

  pub points_below : (end : ℕ) → end ≡ n + length links → AreBelow end rows
  points_below end end_is j lt =
      let same = len in
      let found = link_there links j (omega (arith, same, lt)) in
      let is = row_is j found.0 lt found.1 in
      let vertices = ends_in n links j found.0 ends found.1 in
      let one = found.0.from_one in
      let first : (row_at rows j).first ≡ found.0.low - 1 = ap (λ (r : Merge). r.first) is in
      let second : (row_at rows j).second ≡ found.0.high - 1 = ap (λ (r : Merge). r.second) is in
      let low = vertices.0 in
      let some = vertices.1 in
      let high = vertices.2 in
      (omega (arith, first, one, low, end_is), omega (arith, second, some, high, end_is))

  pub points_to_join : AreToJoin n links 0 rows
  points_to_join = record {
    within = let same = len in omega (arith, same);
    none = λ i l lt at. absurd (omega (arith, lt));
    each = λ j l lt at.
        let here : 0 + j ≡ j = omega arith in
        let at_j : slice_get links j ≡ Some l = ap (slice_get links) (sym here) ∙ at in
        let vertices = ends_in n links j l ends at_j in
        subst (HasEnds n links 0 l) (sym (row_is j l lt at_j))
        (record { low = at_first n links l.low l.from_one vertices.0; high = at_first n links l.high vertices.1 vertices.2 });
  }

pub none_merged : (n : ℕ) (links : List Link) (rows : List Merge) → length rows ≡ length links → AreJoined n links 0 rows → AreMergesUpTo n links 0 rows
none_merged n links rows len joined = record {
  as_many = len;
  none = let all : 0 + length rows ≡ length links = omega (arith, len) in subst (CloseNone links) all joined.none;
  before = λ j l lt at. absurd (omega (arith, lt));
  after = λ j l from at.
      let here : 0 + j ≡ j = omega arith in
      let lt : j < length links = slice_get_within links j l at in
      subst (λ k. HasEnds n links k l (row_at rows j)) here (joined.each j l (omega (arith, len, lt)) (ap (slice_get links) here ∙ at));
}

-- joined links close no cycle
pub all_acyclic : (links : List Link) → CloseNone links (length links) → IsAcyclic links
all_acyclic links none = let most : length links ≤ length links = omega arith in subst IsAcyclic (take_all (length links) links most) (acyclic_first links (length links) most none)

-- a `Vec` of as many elements after a slice of all of it was written
pub whole : (m : ℕ) (rows items : List Merge) → m ≡ length items → length rows ≡ length items → take m (rows ++ drop (length rows) items) ≡ rows
whole m rows items m_is len = ap (λ k. take k (rows ++ drop (length rows) items)) (m_is ∙ sym len) ∙ take-append_seam rows (drop (length rows) items)
