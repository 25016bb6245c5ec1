-- A list of rows is joined if its first half is joined, and then its second half, after it was moved past the first.
use Rattle.std.proofs.Common.{◌≡◌, ◌≢◌, ℕ, ◌+◌, ◌-◌, ◌<◌, List, ◌++◌, length, set, Some, sym, ap, ◌∙◌, subst, inl, inr, arith}
use Rattle.std.specs.Prelude.{slice_get}
use Rattle.std.proofs.lemmas.Bool.{cases_lt}
use Rattle.std.proofs.lemmas.List.{length-append, get_or_append_left, get_or-append-add}
use Rattle.links.specs.declared.links.Link.{Link}
use Rattle.link_key.specs.Components.{IsAcyclic}
use Rattle.link_merges.specs.declared.merges.Merge.{Merge}
use Rattle.link_merges.specs.Merges.{IsClusterOf}
use Rattle.link_merges.specs.Halves.{row_at, now_of, AreMovedBy, CloseNone, HasEnds, AreToJoin, AreJoined, LeadsOn}
use Rattle.link_merges.proofs.Merging.{link_there, ends_apart}
use Rattle.link_merges.proofs.Moving.{joined_in_one, apart_more, leads_one}

abbrev no_row : Merge
no_row = record { first = 0; second = 0; size = 0 }

module _ (n : ℕ) (links : List Link) (k : ℕ) where
  -- the link of a single row
  module _ (rows : List Merge) (one : length rows ≡ 1) (are : AreToJoin n links k rows) where
    lone : (l : Link) × (slice_get links k ≡ Some l)
    lone = link_there links k (let most = are.within in omega (arith, one, most))

    has : HasEnds n links k lone.0 (row_at rows 0)
    has = are.each 0 lone.0 (omega (arith, one)) (let here : k + 0 ≡ k = omega arith in ap (slice_get links) here ∙ lone.1)

    pub one_joined : (row_at rows 0).first ≢ (row_at rows 0).second → AreJoined n links k rows
    one_joined differ = record {
      within = are.within;
      none = subst (λ m. CloseNone links (k + m)) (sym one) (apart_more n links k are.none lone.0 lone.1 (row_at rows 0) has differ);
      each = λ j l lt at. let here : k ≡ k + j = omega (arith, one, lt) in subst (λ m. HasEnds n links m l (row_at rows j)) here (are.each j l lt at);
    }

    pub one_cycle : (row_at rows 0).first ≡ (row_at rows 0).second → ¬ (IsAcyclic links)
    one_cycle same acyclic =
        ends_apart links k lone.0 lone.1 acyclic (joined_in_one n links k lone.0.low lone.0.high (row_at rows 0).second (subst (IsClusterOf n links k lone.0.low) same has.low) has.high)

  module _ (first second : List Merge) where
    pub first_to_join : AreToJoin n links k (first ++ second) → AreToJoin n links k first
    first_to_join are =
        let len = length-append first second in
        let most = are.within in record {
          within = omega (arith, len, most);
          none = are.none;
          each = λ j l lt at. subst (HasEnds n links k l) (get_or_append_left first second no_row j lt) (are.each j l (omega (arith, len, lt)) at);
        }

    -- after the first half is joined and the second half is moved past it, the second half can be joined
    pub halfway : AreToJoin n links k (first ++ second) → (first' second' : List Merge) (now : List ℕ) → length first' ≡ length first → length second' ≡ length second
        → (AreToJoin n links k first → AreJoined n links k first') → (AreJoined n links k first' → LeadsOn n links k (k + length first') now) → AreMovedBy now second second'
        → AreJoined n links k first' × AreToJoin n links (k + length first') second'
    halfway are first' second' now len' same joins lead moved =
        let len = length-append first second in
        let most = are.within in
        let joined = joins (first_to_join are) in
        let leads = lead joined in (
          joined,
          record {
            within = omega (arith, len, len', same, most);
            none = joined.none;
            each = λ j l lt at.
                let lt' : j < length second = omega (arith, same, lt) in
                let there : k + (length first + j) ≡ k + length first' + j = omega (arith, len') in
                let has : HasEnds n links k l (row_at second j) = subst (HasEnds n links k l) (get_or-append-add first second j no_row)
                (are.each (length first + j) l (omega (arith, len, lt')) (ap (slice_get links) there ∙ at)) in
                record {
                  low = subst (IsClusterOf n links (k + length first') l.low) (sym (moved j lt').0) (leads l.low (row_at second j).first has.low);
                  high = subst (IsClusterOf n links (k + length first') l.high) (sym (moved j lt').1) (leads l.high (row_at second j).second has.high);
                };
          },
        )

    pub both_joined : AreJoined n links k first → AreJoined n links (k + length first) second → AreJoined n links k (first ++ second)
    both_joined before after =
        let len = length-append first second in
        let sum : k + length first + length second ≡ k + length (first ++ second) = omega (arith, len) in
        let most = after.within in record {
          within = omega (arith, sum, most);
          none = subst (CloseNone links) sum after.none;
          each = λ j l lt at. elim (cases_lt j (length first)) [
            | inl in_first ↦ subst (HasEnds n links (k + j) l) (sym (get_or_append_left first second no_row j in_first)) (before.each j l in_first at)
            | inr past ↦
                let at_j : length first + (j - length first) ≡ j = omega (arith, past) in
                let there : k + length first + (j - length first) ≡ k + j = omega (arith, past) in
                let row : row_at second (j - length first) ≡ row_at (first ++ second) j = sym (get_or-append-add first second (j - length first) no_row) ∙ ap (row_at (first ++ second)) at_j in
                subst (λ m. HasEnds n links m l (row_at (first ++ second) j)) there (subst (HasEnds n links (k + length first + (j - length first)) l) row
                (after.each (j - length first) l (omega (arith, len, lt, past)) (ap (slice_get links) there ∙ at)))
          ];
        }

-- ---- each of the joined rows, the last row first

module _ (n : ℕ) (links : List Link) (k : ℕ) (rows : List Merge) (are : AreJoined n links k rows) where
  pub leads_back : (i m : ℕ) (now : List ℕ) (next : ℕ) → i < length rows → (row_at rows i).first < length now → (row_at rows i).second < length now
      → next ≡ now_of now (n + k + i) → LeadsOn n links (k + (i + 1)) m now
      → LeadsOn n links (k + i) m (set (set now (row_at rows i).first next) (row_at rows i).second next)
  leads_back i m now next lt first_in second_in next_is leads =
      let most = are.within in
      let found = link_there links (k + i) (omega (arith, lt, most)) in
      let here : n + k + i ≡ n + (k + i) = omega arith in
      let after : k + (i + 1) ≡ k + i + 1 = omega arith in
      leads_one n links (k + i) (λ j l before. are.none j l (omega (arith, before, lt))) found.0 found.1 (row_at rows i) (are.each i found.0 lt found.1) m now next first_in second_in
      (next_is ∙ ap (now_of now) here) (subst (λ j. LeadsOn n links j m now) after leads)
