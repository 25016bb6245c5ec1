-- Links that a solver missed, and a forest that misses none.
use Rattle.std.proofs.Common.{◌≡◌, ◌≢◌, ℕ, ◌≤◌, Bool, true, false, not, cond, List, [], ◌∷◌, get_or, Contains, Some, None, refl, sym, ap, ◌∙◌, inl, inr, ne_eqb, arith}
use Rattle.std.specs.Prelude.{All}
use Rattle.std.specs.List.Sorted.{IsPermutation}
use Rattle.std.proofs.lemmas.List.Elements.{Contains-get_or, All-contains}
use Rattle.std.proofs.lemmas.List.Sorted.{Contains-permutation, IsPermutation-sym}
use Rattle.links.specs.declared.links.Link.{Link}
use Rattle.links.specs.Link.{EndsUpTo, IsAscending}
use Rattle.links.specs.Labels.{label_of}
use Rattle.links.specs.Cut.{joined}
use Rattle.links.proofs.Members.{contains_none, contains_cases}
use Rattle.links.proofs.Walks.{joins_more}
use Rattle.round_theory.specs.LinkSet.{SameLinks}
use Rattle.round_theory.specs.Offers.{Leaves}
use Rattle.round_theory.proofs.Cutting.{flat_map_contains}
use Rattle.links.proofs.Cycles.{no_cycle_part}
use Rattle.round_theory.proofs.Leaving.{leaves_apart, spans_where_none_leaves}
use Rattle.round_core.specs.Solver.{Progress, vertices, IsProgress, is_apart, missed, IsFinished}

-- if no link is missed, each link's endpoints have one label
not_apart : (labels : List ℕ) (links : List Link) (l : Link) → missed labels links ≡ None → Contains links l → is_apart labels l ≡ false
not_apart labels [] l none l_in = absurd (contains_none l l_in)
not_apart labels (x ∷ links) l none l_in = search (arith, cond, contains_cases, not_apart labels links l)

apart_is : (labels : List ℕ) (l : Link) → label_of labels l.low ≢ label_of labels l.high → is_apart labels l ≡ true
apart_is labels l other = ap not (ne_eqb (label_of labels l.low) (label_of labels l.high) other)

pub none_leave : (labels : List ℕ) (links : List Link) → missed labels links ≡ None → (l : Link) (c : ℕ) → Contains links l → ¬ (Leaves labels l c)
none_leave labels links none l c l_in leaves =
    let wrong : false ≡ true = sym (not_apart labels links l none l_in) ∙ apart_is labels l (leaves_apart labels l c leaves) in
    absurd (cc)

-- the endpoints of a cut's links are vertices, also after its shards are joined
pub joined_ends : (n : ℕ) (cut : List (List Link)) → All (EndsUpTo n) cut → EndsUpTo n (joined cut)
joined_ends n cut ends i d lt =
    let l : Link = get_or (joined cut) i d in
    let (k, s, s_lt, at, l_in) = (flat_map_contains (λ (s : List Link). s) cut l).0 (Contains-get_or (joined cut) i d lt) in
    let s_ends : EndsUpTo n s = All-contains (EndsUpTo n) cut s ends (k, s_lt, at) in
    All-contains (λ (m : Link). m.high ≤ n) s l s_ends l_in

-- If no link is missed, none leaves a label, so the links taken span. In another order they are the same set.
pub finished : (p : Progress) (cut : List (List Link)) (forest : List Link) → IsProgress p → All (EndsUpTo (vertices p)) cut → missed p.labels (joined cut) ≡ None
    → IsPermutation p.taken forest → IsAscending forest → IsFinished p (joined cut) forest
finished p cut forest is ends none moved up = record {
  none_missed = none;
  ascending = up;
  same = same;
  no_cycle = no_cycle_part (Contains forest) (Contains p.taken) (λ l. (same l).0) is.no_cycle;
  spans = λ u v joins. joins_more (Contains p.taken) (Contains forest) (λ l. (same l).1) u v
      ((spans_where_none_leaves (vertices p) (joined cut) (Contains p.taken) p.labels (joined_ends (vertices p) cut ends) is.labelling).1 (none_leave p.labels (joined cut) none) u v joins);
}
  where
    same : SameLinks (Contains forest) (Contains p.taken)
    same l = (Contains-permutation forest p.taken l (IsPermutation-sym p.taken forest moved), Contains-permutation p.taken forest l moved)
