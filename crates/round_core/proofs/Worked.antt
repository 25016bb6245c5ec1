-- The premises of a solver's laws hold for the triangle.
use Rattle.std.proofs.Common.{◌≡◌, ◌≢◌, ℕ, zero, suc, ◌<◌, ◌≤◌, [], Contains, Some, None, refl, ap, arith, lit≤, lit<, ◌+◌, ◌==◌, cond}
use Rattle.std.proofs.Common.{not, ◌&&◌, ◌||◌, Bool, true, false, true≢false, is_lt, List, ◌∷◌, get_or, sym, ap₂, ◌∙◌, subst, inl, inr, eq-eqb, ne_eqb}
use Rattle.std.specs.Prelude.{Option, AllPairs, if◌then◌else◌}
use Rattle.std.proofs.lemmas.List.Elements.{All-from_recursion}
use Rattle.links.specs.declared.links.Link.{Link}
use Rattle.links.specs.Link.{IsAscending, EndsUpTo, key_cmp}
use Rattle.links.proofs.Members.{contains_none, contains_cases, contains_head, contains_tail}
use Rattle.round_theory.specs.LinkSet.{SameLinks, HasNoCycle}
use Rattle.round_theory.specs.Labelling.{IsVertex, IsLabelling}
use Rattle.round_theory.proofs.Leaving.{spans_where_none_leaves, leaves_apart, least_leaving_unique}
use Rattle.round_theory.proofs.Relabelling.{apart_by_no_links, labelling_none, labelling_more, moved_by_test}
use Rattle.round_theory.proofs.Steps.{added_close_no_cycle}
use Rattle.round_core.specs.Picks.{Picked, ArePicks, AreNoPicks}
use Rattle.round_core.specs.Solver.{IsProgress, IsAtStart, IsFirstPickedAt, IsPickedBefore, ArePickedOnce, IsMerged, missed, IsFinished}
use Rattle.round_core.specs.Examples.{at_start, first_picks, after_first, last_picks, link_1_2, link_2_3, link_1_3, triangle, two_sides, apart}
use Rattle.round_core.proofs.Merging as merging
use Rattle.round_core.proofs.Picking.{each_once}
use Rattle.round_core.proofs.WholeRounds.{same_picked}
use Rattle.std.specs.List.{list_all}
use Rattle.std.proofs.lemmas.Bool.{cases_eq}
use Rattle.links.specs.Labels.{label_of, AreLabels}
use Rattle.round_theory.specs.Offers.{Leaves, IsLeastLeaving, IsPick}
use Rattle.round_theory.proofs.Labels.{labelling_is_labels}
use Rattle.round_theory.proofs.OfferSteps.{left_label_is_vertex}
use Rattle.round_theory.proofs.Lists.{set_ends}

leaves_test : List ℕ → Link → ℕ → Bool
leaves_test labels l c = cond (label_of labels l.low == c) (not (label_of labels l.high == c)) (label_of labels l.high == c)

not_true : (b : Bool) → not b ≡ true → b ≡ false
not_true a1 a2 = search arith

leaves_from_test : (labels : List ℕ) (l : Link) (c : ℕ) → leaves_test labels l c ≡ true → Leaves labels l c
unfolding leaves_test
leaves_from_test labels l c is = search (arith, cases_eq, true≢false, cond, not, eq-eqb, ne_eqb)

test_from_leaves : (labels : List ℕ) (l : Link) (c : ℕ) → Leaves labels l c → leaves_test labels l c ≡ true
unfolding leaves_test
test_from_leaves a1 a2 a3 a4 = search (arith, cond, not, eq-eqb, ne_eqb)

all_member : (p : Link → Bool) (links : List Link) → list_all p links ≡ true → (l : Link) → Contains links l → p l ≡ true
all_member p [] all l l_in = absurd (contains_none l l_in)
all_member p (x ∷ links) all l l_in = split (p x) refl all (λ rest. all_member p links rest l)
  where
    split : (b : Bool) → p x ≡ b → (b && list_all p links) ≡ true → (list_all p links ≡ true → Contains links l → p l ≡ true) → p l ≡ true
    split true is all later = elim (contains_cases x l links l_in) [ inl same ↦ ap p same ∙ is | inr in_links ↦ later all in_links ]
    split false is all later = absurd (true≢false (sym all))

-- no link that leaves a label is below this link
least_test : List ℕ → ℕ → Link → Link → Bool
least_test labels c l m = not (leaves_test labels m c) || not (is_lt (key_cmp m l))

is_least : (labels : List ℕ) (links : List Link) (c : ℕ) (l : Link) → Contains links l → leaves_test labels l c ≡ true
    → list_all (least_test labels c l) links ≡ true → IsLeastLeaving labels (Contains links) c l
unfolding least_test
is_least labels links c l l_in leaves all = record {
  member = l_in;
  leaves = leaves_from_test labels l c leaves;
  least = λ m m_in m_leaves below.
      true≢false (sym (all_member (least_test labels c l) links all m m_in) ∙ ap₂ (λ a b. not a || not b) (test_from_leaves labels m c m_leaves) (ap is_lt below));
}

-- each endpoint is one of the vertices 1 to 3
pub triangle_ends : EndsUpTo 3 triangle
triangle_ends = All-from_recursion (λ (l : Link). l.high ≤ 3) triangle (lit≤ tt, (lit≤ tt, (lit≤ tt, tt)))

none_ends : EndsUpTo 3 []
none_ends = All-from_recursion (λ (l : Link). l.high ≤ 3) [] tt

-- the labels after the first link is taken, and after all three are in one component
abbrev first_joined : List ℕ
first_joined = 1 ∷ (1 ∷ (3 ∷ []))

abbrev joined : List ℕ
joined = 1 ∷ (1 ∷ (1 ∷ []))

-- the labels with no link, with the first, and with two
apart_is : IsLabelling 3 (Contains []) apart
apart_is = labelling_none 3 apart refl own
  where
    own : (k : ℕ) → k < 3 → get_or apart k 0 ≡ k + 1
    own zero lt = refl
    own (suc zero) lt = refl
    own (suc (suc zero)) lt = refl
    own (suc (suc (suc k))) lt = absurd (omega arith)

first_joined_is : IsLabelling 3 (Contains (link_1_2 ∷ [])) first_joined
first_joined_is = labelling_more 3 (link_1_2 ∷ []) 0 link_1_2 apart first_joined (lit< tt) refl (lit≤ tt) apart_is (moved_by_test 3 2 1 apart first_joined refl refl moved)
  where
    moved : (k : ℕ) → k < 3 → get_or first_joined k 0 ≡ (if get_or apart k 0 == 2 then 1 else get_or apart k 0)
    moved zero lt = refl
    moved (suc zero) lt = refl
    moved (suc (suc zero)) lt = refl
    moved (suc (suc (suc k))) lt = absurd (omega arith)

joined_is : IsLabelling 3 (Contains two_sides) joined
joined_is = labelling_more 3 two_sides 1 link_1_3 first_joined joined (lit< tt) refl (lit≤ tt) first_joined_is (moved_by_test 3 3 1 first_joined joined refl refl moved)
  where
    moved : (k : ℕ) → k < 3 → get_or joined k 0 ≡ (if get_or first_joined k 0 == 3 then 1 else get_or first_joined k 0)
    moved zero lt = refl
    moved (suc zero) lt = refl
    moved (suc (suc zero)) lt = refl
    moved (suc (suc (suc k))) lt = absurd (omega arith)

apart_labels : AreLabels apart
apart_labels = labelling_is_labels 3 (Contains []) apart (lit≤ tt) apart_is

in_triangle_1_2 : Contains triangle link_1_2
in_triangle_1_2 = contains_head link_1_2 (link_2_3 ∷ (link_1_3 ∷ []))

in_triangle_1_3 : Contains triangle link_1_3
in_triangle_1_3 = contains_tail link_1_2 link_1_3 (link_2_3 ∷ (link_1_3 ∷ [])) (contains_tail link_2_3 link_1_3 (link_1_3 ∷ []) (contains_head link_1_3 []))

-- the least links that leave the vertices
least_1 : IsLeastLeaving apart (Contains triangle) 1 link_1_2
unfolding leaves_test least_test
least_1 = is_least apart triangle 1 link_1_2 in_triangle_1_2 refl refl

least_2 : IsLeastLeaving apart (Contains triangle) 2 link_1_2
unfolding leaves_test least_test
least_2 = is_least apart triangle 2 link_1_2 in_triangle_1_2 refl refl

least_3 : IsLeastLeaving apart (Contains triangle) 3 link_1_3
unfolding leaves_test least_test
least_3 = is_least apart triangle 3 link_1_3 in_triangle_1_3 refl refl

-- after all are in one component, no link leaves it
none_left : (l : Link) (c : ℕ) → Contains triangle l → ¬ (Leaves joined l c)
none_left l c l_in leaves = search (arith, contains_cases, leaves_apart, contains_none)

-- the picks of the first round
picks_are_two_sides : SameLinks (Contains two_sides) (IsPick apart (Contains triangle))
picks_are_two_sides l = (to, back_to)
  where
    to : Contains two_sides l → IsPick apart (Contains triangle) l
    to l_in = elim (contains_cases link_1_2 l (link_1_3 ∷ []) l_in) [
      | inl same ↦ (1, subst (IsLeastLeaving apart (Contains triangle) 1) (sym same) least_1)
      | inr later ↦ elim (contains_cases link_1_3 l [] later) [
        | inl same ↦ (3, subst (IsLeastLeaving apart (Contains triangle) 3) (sym same) least_3)
        | inr none ↦ absurd (contains_none l none)
      ]
    ]

    first : l ≡ link_1_2 → Contains two_sides l
    first same = subst (Contains two_sides) (sym same) (contains_head link_1_2 (link_1_3 ∷ []))

    second : l ≡ link_1_3 → Contains two_sides l
    second same = subst (Contains two_sides) (sym same) (contains_tail link_1_2 link_1_3 (link_1_3 ∷ []) (contains_head link_1_3 []))

    by_label : (c : ℕ) → IsLeastLeaving apart (Contains triangle) c l → IsVertex 3 c → Contains two_sides l
    by_label zero least (low, high) = absurd (omega arith)
    by_label (suc zero) least vertex = first (least_leaving_unique apart (Contains triangle) 1 l link_1_2 least least_1)
    by_label (suc (suc zero)) least vertex = first (least_leaving_unique apart (Contains triangle) 2 l link_1_2 least least_2)
    by_label (suc (suc (suc zero))) least vertex = second (least_leaving_unique apart (Contains triangle) 3 l link_1_3 least least_3)
    by_label (suc (suc (suc (suc c)))) least (low, high) = absurd (omega arith)

    back_to : IsPick apart (Contains triangle) l → Contains two_sides l
    back_to (c, least) = by_label c least (left_label_is_vertex apart l c apart_labels (set_ends 3 triangle triangle_ends l least.member) least.leaves)

pub starts : IsAtStart 3 at_start
starts = record { labels = (apart_by_no_links 3 apart).1 apart_is; taken = refl; rounds = refl }

pub start_holds : IsProgress at_start
start_holds = merging.at_start 3 apart [] (lit≤ tt) ((apart_by_no_links 3 apart).1 apart_is) refl

-- what the two steps pick
pub first_are : ArePicks apart (Contains triangle) first_picks
first_are = search (arith, lit≤, zero, least_1, least_2, least_3)

pub last_are : ArePicks joined (Contains triangle) last_picks
last_are = search (arith, joined, zero, none_left)

pub last_none : AreNoPicks last_picks
last_none = All-from_recursion (λ (pick : Option Link). pick ≡ None) last_picks (refl, (refl, (refl, tt)))

differ : Some link_1_2 ≢ Some link_1_3
differ same =
    let one : link_1_2 ≡ link_1_3 = cc in
    let high : 2 ≡ 3 = ap (λ (l : Link). l.high) one in
    omega (arith, high)

-- vertex 1 picks the first link, and vertex 3 the second
first_once : ArePickedOnce first_picks two_sides
first_once = record { exact = exact; in_order = in_order }
  where
    exact : SameLinks (Contains two_sides) (Picked first_picks)
    exact l = (
      λ l_in. (same_picked apart triangle first_picks apart_labels triangle_ends first_are l).1 ((picks_are_two_sides l).0 l_in),
      λ picked. (picks_are_two_sides l).1 ((same_picked apart triangle first_picks apart_labels triangle_ends first_are l).0 picked),
    )

    here : IsFirstPickedAt first_picks link_1_2 0
    here = record { here = refl; first = λ k lt. absurd (omega (arith, lt)) }

    there : IsFirstPickedAt first_picks link_1_3 2
    there = search (arith, here, zero, differ)

    in_order : AllPairs (IsPickedBefore first_picks) two_sides
    in_order zero zero d lt within = absurd (omega (arith, lt))
    in_order zero (suc zero) d lt within = (0, 2, here, there, lit< tt)
    in_order (suc i) (suc zero) d lt within = absurd (omega (arith, lt))
    in_order (suc i) zero d lt within = absurd (omega (arith, lt))
    in_order i (suc (suc j)) d lt within = absurd (omega (arith, within))

pub first_merged : IsMerged first_picks 2 at_start after_first
first_merged = search (arith, lit<, first_once, joined_is, lit≤)

two_sides_no_cycle : HasNoCycle (Contains two_sides)
two_sides_no_cycle = added_close_no_cycle (Contains triangle) 3 [] two_sides apart none_ends apart_is (λ l l_in. absurd (contains_none l l_in)) (λ l. (picks_are_two_sides l).0)

pub first_holds : IsProgress after_first
first_holds = record {
  few_vertices = lit≤ tt;
  ends = All-from_recursion (λ (l : Link). l.high ≤ 3) two_sides (lit≤ tt, (lit≤ tt, tt));
  labelling = joined_is;
  each_once = each_once first_picks two_sides first_once;
  no_cycle = two_sides_no_cycle;
  in_time = lit≤ tt;
}

-- what is taken, finished
pub is_finished : missed joined triangle ≡ None → IsFinished after_first triangle two_sides
is_finished none = record {
  none_missed = none;
  ascending = ascending;
  same = λ l. (λ l_in. l_in, λ l_in. l_in);
  no_cycle = two_sides_no_cycle;
  spans = (spans_where_none_leaves 3 triangle (Contains two_sides) joined triangle_ends joined_is).1 none_left;
}
  where
    ascending : IsAscending two_sides
    ascending zero zero d lt within = absurd (omega (arith, lt))
    ascending zero (suc zero) d lt within = refl
    ascending (suc i) (suc zero) d lt within = absurd (omega (arith, lt))
    ascending (suc i) zero d lt within = absurd (omega (arith, lt))
    ascending i (suc (suc j)) d lt within = absurd (omega (arith, within))
