-- A solver that takes the picks of a round.
use Rattle.std.proofs.Common.{◌≡◌, ◌≢◌, ℕ, ◌+◌, ◌<◌, ◌≤◌, ◌^◌, max, ◌↔◌, Bool, true, false, List, [], ◌∷◌}
use Rattle.std.proofs.Common.{◌++◌, length, get_or, Contains, Some, None, refl, sym, ap, ◌∙◌, subst, length-append, inl, inr, arith}
use Rattle.std.specs.Prelude.{Option, All, AllPairs, filter, ◌==◌}
use Rattle.std.proofs.lemmas.Bool.{cases_lt}
use Rattle.std.proofs.lemmas.Nat.{pow_below}
use Rattle.std.proofs.lemmas.List.Elements.{Contains-get_or, All-append}
use Rattle.links.specs.declared.links.Link.{Link}
use Rattle.links.specs.Link.{EndsUpTo}
use Rattle.links.specs.Labels.{label_of, AreLabels, AreApart}
use Rattle.links.proofs.Members.{contains_none}
use Rattle.round_theory.specs.LinkSet.{LinkSet, IsPartOf, SameLinks, HasNoCycle}
use Rattle.round_theory.specs.Labelling.{IsVertex, IsLabelling, IsRelabelling}
use Rattle.round_theory.specs.Offers.{IsPick, IsNamed}
use Rattle.round_theory.proofs.Labels.{labelling_is_labels}
use Rattle.round_theory.proofs.Relabelling.{apart_by_no_links}
use Rattle.round_theory.proofs.RoundSteps.{all_pairs_append}
use Rattle.round_theory.proofs.Steps.{relabelled_by_steps, added_close_no_cycle, pick_is_new}
use Rattle.round_core.specs.Picks.{Picked, ArePicks, ArePicksOfHearings, AreNoPicks}
use Rattle.round_core.specs.Solver.{Progress, vertices, IsProgress, IsPastBound, ArePickedOnce, IsMerged, IsTurn}
use Rattle.round_core.specs.declared.solver.Turn.{Turn}
use Rattle.round_core.specs.declared.solver.Turn.TheVariants.{Merged}
use Rattle.round_core.specs.Roots.{AreRoots}
use Rattle.round_core.proofs.Naming.{kept_roots, roots_within}
use Rattle.round_core.proofs.HookWalks.{over_more}
use Rattle.round_core.proofs.Picking.{picked_is_pick, each_once}

-- there are so few rounds that the next one's number fits, and so does its power of two
pub rounds_few : (n r : ℕ) → n ≤ 2 ^ 26 → 2 ^ r ≤ max 1 n → r ≤ 26
rounds_few n r few in_time = elim (cases_lt 26 r) [
  | inl past ↦ let more = pow_below 26 r past in absurd (omega (arith, more, few, in_time))
  | inr fits ↦ fits
]

pub at_start : (n : ℕ) (labels : List ℕ) (taken : List Link) → n ≤ 2 ^ 26 → AreApart n labels → taken ≡ [] → IsProgress (record { labels = labels; taken = taken; rounds = 0 })
at_start n labels taken few apart is = rw is (record {
  few_vertices = omega (arith, apart.vertices, few);
  ends = λ i d lt. absurd (omega (arith, lt));
  labelling = subst (λ m. IsLabelling m (Contains []) labels) (sym apart.vertices) ((apart_by_no_links n labels).0 apart);
  each_once = λ i j d lt within. absurd (omega (arith, within));
  no_cycle = λ l l_in. absurd (contains_none l l_in);
  in_time = omega arith;
})

relabelling_alike : (n : ℕ) (old new : List ℕ) (S T : LinkSet) → SameLinks S T → IsRelabelling n old S new → IsRelabelling n old T new
relabelling_alike n old new S T same is = record {
  each_vertex = is.each_vertex;
  least = λ v vertex.
      let at = is.least v vertex in
      record {
        vertex = at.vertex;
        joined = over_more old S T (λ l. (same l).0) v (label_of new v) at.joined;
        least = λ w w_vertex over. at.least w w_vertex (over_more old T S (λ l. (same l).1) v w over);
      };
}

picked_part : (labels : List ℕ) (S : LinkSet) (picks : List (Option Link)) (links : List Link) → ArePicks labels S picks → ArePickedOnce picks links → IsPartOf (Contains links) (IsPick labels S)
picked_part labels S picks links are once l l_in = picked_is_pick labels S picks l are ((once.exact l).0 l_in)

picked_ends : (labels : List ℕ) (S : LinkSet) (picks : List (Option Link)) (links : List Link) → ArePicks labels S picks → ArePickedOnce picks links → EndsUpTo (length labels) links
picked_ends labels S picks links are once i d lt = are.ends (get_or links i d) ((once.exact (get_or links i d)).0 (Contains-get_or links i d lt))

-- the picks connect the vertices of what they pick
merged : (p : Progress) (picks : List (Option Link)) (labels : List ℕ) (links : List Link) → IsProgress p → ArePicksOfHearings p.labels picks → ArePickedOnce picks links
    → IsRelabelling (vertices p) p.labels (Picked picks) labels → IsLabelling (vertices p) (Contains (p.taken ++ links)) labels
merged p picks labels links is (heard, are) once joined =
    (relabelled_by_steps (vertices p) p.taken links p.labels is.ends (picked_ends p.labels (IsNamed heard) picks links are once) is.labelling labels).1
    (relabelling_alike (vertices p) p.labels labels (Picked picks) (Contains links) (λ l. ((once.exact l).1, (once.exact l).0)) joined)

-- The links that a step took close no cycle and are new, whatever was heard. A vertex that was a root and still labels
-- itself is a root.
module _ (p q : Progress) (picks : List (Option Link)) (count : ℕ) (is : IsProgress p) (S : LinkSet) (are : ArePicks p.labels S picks) (to : IsMerged picks count p q) where
  abbrev long : length q.labels ≡ vertices p
  long = to.labelling.each_vertex

  abbrev part : IsPartOf (Contains to.added) (IsPick p.labels S)
  part = picked_part p.labels S picks to.added are to.picked

  abbrev links_ends : EndsUpTo (vertices p) to.added
  links_ends = picked_ends p.labels S picks to.added are to.picked

  pub goes_on : IsProgress q
  goes_on = record {
    few_vertices = omega (arith, long, is.few_vertices);
    ends = rw (long, to.taken) (All-append (λ (l : Link). l.high ≤ vertices p) p.taken to.added is.ends links_ends);
    labelling = subst (λ m. IsLabelling m (Contains q.taken) q.labels) (sym long) to.labelling;
    each_once = subst (λ (xs : List Link). AllPairs (λ l m. l ≢ m) xs) (sym to.taken)
        (all_pairs_append (λ l m. l ≢ m) p.taken to.added is.each_once (each_once picks to.added to.picked) (λ l m l_in m_in same.
        (pick_is_new S (vertices p) p.taken p.labels is.ends is.labelling m (part m m_in)).1 (subst (Contains p.taken) same l_in)));
    no_cycle = subst (λ (xs : List Link). HasNoCycle (Contains xs)) (sym to.taken) (added_close_no_cycle S (vertices p) p.taken to.added p.labels is.ends is.labelling is.no_cycle part);
    in_time = subst (λ m. 2 ^ q.rounds ≤ max 1 m) (sym long) to.in_time;
  }

  pub roots_after : (roots : List ℕ) → AreRoots p.labels roots → AreRoots q.labels (filter (λ c. label_of q.labels c == c) roots)
  roots_after roots are_roots = kept_roots p.labels roots q.labels picks (labels_of p is) (labels_of q goes_on) are_roots
      (relabelling_alike (vertices p) p.labels q.labels (Contains to.added) (Picked picks) to.picked.exact
      ((relabelled_by_steps (vertices p) p.taken to.added p.labels is.ends links_ends is.labelling q.labels).0
      (subst (λ (xs : List Link). IsLabelling (vertices p) (Contains xs) q.labels) to.taken to.labelling)))
    where
      labels_of : (r : Progress) → IsProgress r → AreLabels r.labels
      labels_of r is_r = labelling_is_labels (vertices r) (Contains r.taken) r.labels is_r.few_vertices is_r.labelling

-- After a step that merged, those that were roots are still vertices, and those of them that still label themselves are
-- the roots.
module _ (p q : Progress) (picks : List (Option Link)) (turn : Turn) (count : ℕ) (merged_so : turn ≡ Merged count) (did : IsTurn picks p q turn)
    (roots labels : List ℕ) (are_roots : AreRoots p.labels roots) (new : labels ≡ q.labels) where
  abbrev to : IsMerged picks count p q
  to = subst (IsTurn picks p q) merged_so did

  pub still_vertices : All (IsVertex (length labels)) roots
  still_vertices = roots_within p.labels roots (length labels) (ap length new ∙ to.labelling.each_vertex) are_roots

  pub goes_on_with : (kept : List ℕ) → IsProgress p → ArePicksOfHearings p.labels picks → kept ≡ filter (λ c. label_of labels c == c) roots → IsProgress q × AreRoots q.labels kept
  goes_on_with kept is heard kept_is =
      let rest : kept ≡ filter (λ c. label_of q.labels c == c) roots = kept_is ∙ ap (λ (ls : List ℕ). filter (λ c. label_of ls c == c) roots) new in
      (goes_on p q picks count is (IsNamed heard.0) heard.1 to, subst (AreRoots q.labels) (sym rest) (roots_after p q picks count is (IsNamed heard.0) heard.1 to roots are_roots))

pub some_taken : (picks : List (Option Link)) (links : List Link) → ¬ (AreNoPicks picks) → ArePickedOnce picks links → 0 < length links
some_taken picks (l ∷ links) some once = omega arith
some_taken picks [] some once = absurd (some none)
  where
    none : AreNoPicks picks
    none i d lt = at (get_or picks i d) (Contains-get_or picks i d lt)
      where
        at : (x : Option Link) → Contains picks x → x ≡ None
        at None x_in = refl
        at (Some l) x_in = absurd (contains_none l ((once.exact l).1 x_in))

pub in_bound : (n m round : ℕ) (r : Bool) → (r ≡ true) ↔ IsPastBound m round → r ≡ false → m ≡ n → 2 ^ round ≤ max 1 n
in_bound n m round r decides fails same = search (arith, cases_lt, max)

pub is_merged : (p : Progress) (picks : List (Option Link)) (labels : List ℕ) (links taken : List Link) (count : ℕ) (r : Bool) → IsProgress p → ArePicksOfHearings p.labels picks
    → (r ≡ true) ↔ AreNoPicks picks → r ≡ false → ArePickedOnce picks links → IsRelabelling (vertices p) p.labels
    (Picked picks) labels → 2 ^ (p.rounds + 1) ≤ max 1 (vertices p) → count ≡ length links → taken ≡ p.taken ++ links
    → IsMerged picks count p (record { labels = labels; taken = taken; rounds = p.rounds + 1 })
is_merged p picks labels links taken count r is are decides fails once joined in_time number taken_is = record {
  some =
      let some : ¬ (AreNoPicks picks) = λ none. let wrong : false ≡ true = sym fails ∙ decides.1 none in absurd (cc) in
      let some_in = some_taken picks links some once in
      omega (arith, some_in, number);
  added = links;
  number = sym number;
  picked = once;
  taken = taken_is;
  labelling = subst (λ xs. IsLabelling (vertices p) (Contains xs) labels) (sym taken_is) (merged p picks labels links is are once joined);
  rounds = refl;
  in_time = in_time;
}

-- the number of new links is how many more there are
pub so_many_more : (before added after : List Link) → after ≡ before ++ added → length after ≡ length before + length added
so_many_more before added after behind = ap length behind ∙ length-append before added
