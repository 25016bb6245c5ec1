-- The forest, found round by round: what is taken is in it, and what is left still has to be joined.
use Rattle.std.proofs.Common.{◌≡◌, ◌≢◌, ℕ, ◌+◌, ◌<◌, ◌≤◌, ◌⊎◌, ◌↔◌, true, List, [], ◌∷◌, Contains, length, get_or, sym, ap, ◌∙◌, subst, inl, inr, arith}
use Rattle.std.specs.List.{AllByRecursion, filter}
use Rattle.std.proofs.lemmas.List.Elements.{All-contains, Contains-get_or}
use Rattle.std.proofs.lemmas.Bool.{cases_eq, cases_lt}
use Rattle.std.proofs.lemmas.Bool.Decides.{nat_tests}
use Rattle.links.specs.declared.links.Link.{Link}
use Rattle.links.specs.Link.{EndsUpTo}
use Rattle.links.specs.Walk.{IsWalk, Joins}
use Rattle.links.specs.Forest.{LinksBelow, IsForestLink}
use Rattle.link_key.specs.Rounds.{HasOneLabel}
use Rattle.link_key.specs.Rounds.{is_apart, LeavesLabel, IsLeastOut, AreLabelsUpTo, IsStage}
use Rattle.link_key.specs.Parts.{AreParts}
use Rattle.links.specs.Labels.{renamed}
use Rattle.link_key.specs.OpenLinks.{AreTouched, AreFilled, AreAllNumbers, number_at}
use Rattle.std.proofs.lemmas.List.{get_or-map, length-map}
use Rattle.links.proofs.Kept.{kept_in, kept_if}
use Rattle.links.proofs.Members.{contains_none}
use Rattle.links.proofs.Walks.{joins_same, joins_symm, joins_replace, joins_more}
use Rattle.links.proofs.Spanning.{spanning_part}

-- the test for endpoints with different labels
pub apart_from : (labels : List ℕ) (l : Link) → is_apart labels l ≡ true → ¬ (HasOneLabel labels l)
apart_from labels l passes same = grind (arith, nat_tests)

pub apart_test : (labels : List ℕ) (l : Link) → ¬ (HasOneLabel labels l) → is_apart labels l ≡ true
apart_test labels l apart = grind (arith, nat_tests)

-- A walk from a vertex with label c to one with another label takes a link that leaves c: the first that ends outside.
crossing : (labels : List ℕ) (S : Link → Type 0) (c u v : ℕ) → Joins S u v → get_or labels u 0 ≡ c → get_or labels v 0 ≢ c → (m : Link) × S m × LeavesLabel labels m c
crossing labels S c u v (walk, all, leads) inside outside = along u walk all leads inside
  where
    along : (u : ℕ) (walk : List Link) → AllByRecursion S walk → IsWalk u walk v → get_or labels u 0 ≡ c → (m : Link) × S m × LeavesLabel labels m c
    along u [] all is inside = absurd (outside (ap (λ k. get_or labels k 0) (sym is) ∙ inside))
    along u (l ∷ walk) (is_in, all) (inl (at, leads)) inside = elim (cases_eq (get_or labels l.high 0) c) [
      | inl still ↦ along l.high walk all leads still
      | inr out ↦ (l, is_in, inl (ap (λ k. get_or labels k 0) (sym at) ∙ inside, out))
    ]
    along u (l ∷ walk) (is_in, all) (inr (at, leads)) inside = elim (cases_eq (get_or labels l.low 0) c) [
      | inl still ↦ along l.low walk all leads still
      | inr out ↦ (l, is_in, inr (out, ap (λ k. get_or labels k 0) (sym at) ∙ inside))
    ]

crossing_ends : (labels : List ℕ) (S : Link → Type 0) (c : ℕ) (l : Link) → LeavesLabel labels l c → Joins S l.low l.high → (m : Link) × S m × LeavesLabel labels m c
crossing_ends labels S c l (inl (inside, outside)) joined = crossing labels S c l.low l.high joined inside outside
crossing_ends labels S c l (inr (outside, inside)) joined = crossing labels S c l.high l.low (joins_symm S l.low l.high joined) inside outside

leaves_apart : (labels : List ℕ) (m : Link) (c : ℕ) → LeavesLabel labels m c → ¬ (HasOneLabel labels m)
leaves_apart a1 a2 a3 a4 a5 = search arith

-- The cut property. Suppose that smaller links of the list join the endpoints of the least remaining link that leaves
-- the label. Then one of them leaves the label too. It would be in the rest, so it can't be smaller.
pub least_is_forest_link : {links rest later : List Link} {labels : List ℕ} {taken : List Link}
    → IsStage links rest later labels taken → (c : ℕ) (l : Link) → IsLeastOut labels rest c l → IsForestLink links l
least_is_forest_link {links} {rest} {later} {labels} stage c l is = (stage.among l is.member, around)
  where
    around : Joins (LinksBelow links l) l.low l.high → ⊥
    around joined =
        let (m, below, leaves) = crossing_ends labels (LinksBelow links l) c l is.leaves joined in
        elim (stage.left m below.0) [
          | inl same ↦ leaves_apart labels m c leaves same
          | inr other ↦ elim other [
            | inl m_in ↦ is.least m m_in leaves below.1
            | inr put_off ↦ stage.above l m is.member put_off below.1
          ]
        ]

-- a label's number is the new label
pub renamed_to : (numbers labels : List ℕ) (v : ℕ) → v < length labels → get_or (renamed numbers labels) v 0 ≡ number_at labels numbers v
renamed_to numbers labels v v_in = get_or-map (λ (c : ℕ). get_or numbers c 0) labels v 0 0 v_in

pub renamed_len : (numbers labels : List ℕ) → length (renamed numbers labels) ≡ length labels
renamed_len numbers labels = length-map labels (λ (c : ℕ). get_or numbers c 0)

renamed_same : (numbers labels : List ℕ) (u v : ℕ) → u < length labels → v < length labels
    → get_or labels u 0 ≡ get_or labels v 0 → get_or (renamed numbers labels) u 0 ≡ get_or (renamed numbers labels) v 0
renamed_same numbers labels u v u_in v_in same = renamed_to numbers labels u u_in ∙ ap (λ c. get_or numbers c 0) same ∙ sym (renamed_to numbers labels v v_in)

-- each label gets a number, so the new labels are at most the last number
pub renamed_labels : {count last : ℕ} {numbers labels : List ℕ} → length numbers ≡ count + 1 → AreAllNumbers last numbers → AreLabelsUpTo count labels → AreLabelsUpTo last (renamed numbers labels)
renamed_labels {count} {last} {numbers} {labels} len all are = search (arith, renamed_to, renamed_len)

-- A round: the rest are the links that the new labels keep apart.
pub round_stage : {count last : ℕ} {links later rest rest' before after : List Link} {labels numbers filled : List ℕ} → AreLabelsUpTo count labels → AreTouched labels rest rest numbers before after
    → AreFilled numbers filled → length filled ≡ count + 1 → AreAllNumbers last filled → ((l : Link) → Contains rest' l → Contains rest l × ¬ (HasOneLabel (renamed filled labels) l))
    → ((l : Link) → Contains rest l → ¬ (HasOneLabel (renamed filled labels) l) → Contains rest' l) → IsStage links rest later labels before → IsStage links rest' later (renamed filled labels) after
round_stage {count} {last} {links} {later} {rest} {rest'} {before} {after} {labels} {numbers} {filled} up_to touched are len all left_in left_if stage = record {
  ends = λ l l_in. subst (λ k. l.high < k) (sym (renamed_len filled labels)) (stage.ends l l_in);
  joined = λ u v u_in v_in same.
      let u_in' = inside u u_in in
      let v_in' = inside v v_in in
      joined u v u_in' v_in' (sym (renamed_to filled labels u u_in') ∙ same ∙ renamed_to filled labels v v_in');
  forest = forest;
  among = λ l l_in. stage.among l (left_in l l_in).0;
  apart = λ l l_in. (left_in l l_in).1;
  left = left;
  above = λ l m l_in m_in. stage.above l m (left_in l l_in).0 m_in;
}
  where
    inside : (v : ℕ) → v < length (renamed filled labels) → v < length labels
    inside v v_in = subst (λ k. v < k) (renamed_len filled labels) v_in

    forest : (l : Link) → Contains after l → IsForestLink links l
    forest l l_in = elim (touched.least l l_in) [
      | inl old ↦ stage.forest l old
      | inr new ↦ let (c, is) = new.1 (stage.apart l new.0) in least_is_forest_link stage c l is
    ]

    left : (l : Link) → Contains links l → HasOneLabel (renamed filled labels) l ⊎ Contains rest' l ⊎ Contains later l
    left l l_in = elim (stage.left l l_in) [
      | inl same ↦
          let high_in = stage.ends l l_in in
          let low_in : l.low < length labels = let ascending = l.ascending in omega (arith, ascending, high_in) in
          inl (renamed_same filled labels l.low l.high low_in high_in same)
      | inr other ↦ elim other [
        | inl l_in_rest ↦ elim (cases_eq (get_or (renamed filled labels) l.low 0) (get_or (renamed filled labels) l.high 0)) [
          | inl same ↦ inl same
          | inr apart ↦ inr (inl (left_if l l_in_rest apart))
        ]
        | inr put_off ↦ inr (inr put_off)
      ]
    ]

    old_joined : (u v : ℕ) → u < length labels → v < length labels → get_or labels u 0 ≡ get_or labels v 0 → Joins (Contains after) u v
    old_joined u v u_in v_in same = joins_more (Contains before) (Contains after) touched.kept u v (stage.joined u v u_in v_in same)

    -- a label that no link touched shares its number with no other label
    alone : (u v : ℕ) → u < length labels → v < length labels → number_at labels numbers u ≡ 0 → number_at labels filled u ≡ number_at labels filled v → get_or labels u 0 ≡ get_or labels v 0
    alone u v u_in v_in none same = elim (cases_lt 0 (number_at labels filled u)) [
      | inl had ↦ are.alone (get_or labels u 0) (get_or labels v 0) had none same
      | inr zero_is ↦
          let u_zero = is_zero u u_in (omega (arith, zero_is)) in
          let v_zero = is_zero v v_in (omega (arith, zero_is, same)) in
          u_zero ∙ sym v_zero
    ]
      where
        is_zero : (w : ℕ) → w < length labels → number_at labels filled w ≡ 0 → get_or labels w 0 ≡ 0
        is_zero w w_in none' = elim (cases_lt 0 (get_or labels w 0)) [
          | inl some ↦
              let most = up_to.in_range w w_in in
              let had = all.some (get_or labels w 0) some (omega (arith, most, len)) in
              absurd (omega (arith, none', had))
          | inr is ↦ omega (arith, is)
        ]

    joined : (u v : ℕ) → u < length labels → v < length labels → number_at labels filled u ≡ number_at labels filled v → Joins (Contains after) u v
    joined u v u_in v_in same = elim (cases_lt 0 (number_at labels numbers u)) [
      | inl had ↦ elim (cases_lt 0 (number_at labels numbers v)) [
        | inl had' ↦ touched.joined stage.joined u v u_in v_in had (sym (are.kept (get_or labels u 0) had) ∙ same ∙ are.kept (get_or labels v 0) had')
        | inr none' ↦ old_joined u v u_in v_in (sym (alone v u v_in u_in (omega (arith, none')) (sym same)))
      ]
      | inr none ↦ old_joined u v u_in v_in (alone u v u_in v_in (omega (arith, none)) same)
    ]

-- each vertex labels itself, nothing is taken and all links are left
pub stage_start : (n : ℕ) (links rest : List Link) (labels : List ℕ) → ((l : Link) → Contains rest l ↔ Contains links l)
    → EndsUpTo n links → length labels ≡ n + 1 → ((v : ℕ) → v < length labels → get_or labels v 0 ≡ v) → IsStage links rest [] labels []
stage_start n links rest labels same ends len own = record {
  ends = in_table;
  joined = λ u v u_in v_in same. joins_same (Contains []) u v (sym (own u u_in) ∙ same ∙ own v v_in);
  forest = λ l l_in. absurd (contains_none l l_in);
  among = λ l l_in. (same l).0 l_in;
  apart = λ l l_in. apart l ((same l).0 l_in);
  left = λ l l_in. inr (inl ((same l).1 l_in));
  above = λ l m l_in m_in. absurd (contains_none m m_in);
}
  where
    in_table : (l : Link) → Contains links l → l.high < length labels
    in_table l l_in = let in_graph : l.high ≤ n = All-contains (λ (m : Link). m.high ≤ n) links l ends l_in in omega (arith, in_graph, len)

    apart : (l : Link) → Contains links l → ¬ (HasOneLabel labels l)
    apart l l_in one =
        let ascending = l.ascending in
        let high_in = in_table l l_in in
        let low_is = own l.low (omega (arith, ascending, high_in)) in
        let high_is = own l.high high_in in
        let e : l.low ≡ l.high = sym low_is ∙ one ∙ high_is in
        omega (arith, ascending, e)

pub own_labels : (n : ℕ) (labels : List ℕ) → length labels ≡ n + 1 → ((v : ℕ) → v < length labels → get_or labels v 0 ≡ v) → AreLabelsUpTo n labels
own_labels n labels len own = search arith

-- if no links are left, what is taken is the forest
pub stage_end : {links : List Link} {labels : List ℕ} {taken : List Link} → IsStage links [] [] labels taken → (l : Link) → Contains taken l ↔ IsForestLink links l
stage_end {links} {labels} {taken} stage = spanning_part links (Contains taken) stage.forest (joins_replace (Contains links) (Contains taken) ends)
  where
    ends : (l : Link) → Contains links l → Joins (Contains taken) l.low l.high
    ends l l_in = elim (stage.left l l_in) [
      | inl same ↦
          let high_in = stage.ends l l_in in
          let low_in : l.low < length labels = let ascending = l.ascending in omega (arith, ascending, high_in) in
          stage.joined l.low l.high low_in high_in same
      | inr other ↦ elim other [ inl l_in' ↦ absurd (contains_none l l_in') | inr l_in' ↦ absurd (contains_none l l_in') ]
    ]

-- if all endpoints of the list are vertices, so are those of links of it
pub ends_within : (n : ℕ) (links rest : List Link) → ((l : Link) → Contains rest l → Contains links l) → EndsUpTo n links → EndsUpTo n rest
ends_within n links rest among ends k d lt = All-contains (λ (m : Link). m.high ≤ n) links (get_or rest k d) ends (among (get_or rest k d) (Contains-get_or rest k d lt))

-- the light part comes first, the other links later
pub stage_part : {links rest light later : List Link} {labels : List ℕ} {taken : List Link} → AreParts rest light later → IsStage links rest [] labels taken → IsStage links light later labels taken
stage_part parts stage = record {
  ends = stage.ends;
  joined = stage.joined;
  forest = stage.forest;
  among = λ l l_in. stage.among l (parts.light_in l l_in);
  apart = λ l l_in. stage.apart l (parts.light_in l l_in);
  left = λ l l_in. elim (stage.left l l_in) [
    | inl one ↦ inl one
    | inr other ↦ elim other [ inl is_left ↦ inr (parts.all l is_left) | inr put_off ↦ absurd (contains_none l put_off) ]
  ];
  above = parts.above;
}

-- then come the other links whose endpoints aren't joined
pub stage_rest : {links rest light later : List Link} {labels labels' : List ℕ} {taken taken' : List Link} → AreParts rest light later
    → IsStage links rest [] labels taken → IsStage links [] later labels' taken' → IsStage links (filter (is_apart labels') later) [] labels' taken'
stage_rest {links} {rest} {light} {later} {labels} {labels'} parts before stage = record {
  ends = stage.ends;
  joined = stage.joined;
  forest = stage.forest;
  among = λ l l_in. before.among l (parts.later_in l (kept_in (is_apart labels') later l l_in).0);
  apart = λ l l_in. apart_from labels' l (kept_in (is_apart labels') later l l_in).1;
  left = left;
  above = λ l m l_in m_in. absurd (contains_none m m_in);
}
  where
    left : (l : Link) → Contains links l → HasOneLabel labels' l ⊎ Contains (filter (is_apart labels') later) l ⊎ Contains [] l
    left l l_in = elim (stage.left l l_in) [
      | inl one ↦ inl one
      | inr other ↦ elim other [
        | inl none ↦ absurd (contains_none l none)
        | inr put_off ↦ elim (cases_eq (get_or labels' l.low 0) (get_or labels' l.high 0)) [
          | inl one ↦ inl one
          | inr apart ↦ inr (inl (kept_if (is_apart labels') later l put_off (apart_test labels' l apart)))
        ]
      ]
    ]
