-- Links close no cycle exactly if the rounds take every one of them.
use Rattle.std.proofs.Common.{◌≡◌, ℕ, ◌+◌, ◌≤◌, ◌↔◌, zero, suc, true, false, IsTrue, Bool, All, List, [], ◌∷◌, Contains, length, get_or, replicate, refl, sym, ap, ◌∙◌, subst, inl, inr, arith}
use Rattle.std.proofs.lemmas.Bool.{false≢true}
use Rattle.links.specs.declared.links.Link.{Link}
use Rattle.std.proofs.lemmas.List.{length-replicate}
use Rattle.links.specs.Link.{EndsUpTo, IsAscending}
use Rattle.links.specs.Forest.{LinksBelow, IsForestLink}
use Rattle.links.specs.LinkSet.{HasNoCycle}
use Rattle.links.proofs.Walks.{joins_more, joins_equal}
use Rattle.links.proofs.OneForest.{each_has_one_forest, forest_few}
use Rattle.links.proofs.Least.{forest_is_lightest, no_cycle_is_its_forest}
use Rattle.links.proofs.Members.{contains_none}
use Rattle.link_key.specs.Rounds.{IsStage}
use Rattle.link_key.specs.Components.{AreComponents}
use Rattle.link_key.specs.declared.sequential.rounds.Open.{Open}
use Rattle.link_key.specs.OpenLinks.{marked, links_of, AreOpened, LeadsOn}
use Rattle.links.proofs.Keys.{ascending_sorted}
use Rattle.link_key.proofs.Marks.{marked_none}
use Rattle.link_key.proofs.Opened.{some_link, links_opened, opened_of}
use Rattle.link_key.proofs.Owns.{own_of, own_is, renamed_own}
use Rattle.link_key.proofs.Stages.{stage_end, stage_start, own_labels}

all_tail : (b : Bool) (marks : List Bool) → All IsTrue (b ∷ marks) → All IsTrue marks
all_tail b marks all k d lt = all (suc k) d (omega (arith, lt))

-- if all links are marked, the marked links are the links
pub all_marked : (links : List Link) (marks : List Bool) → length links ≡ length marks → All IsTrue marks → marked links marks ≡ links
all_marked [] marks same all = refl
all_marked (l ∷ links) [] same all = absurd (omega (arith, same))
all_marked (l ∷ links) (true ∷ marks) same all = ap (λ (ls : List Link). l ∷ ls) (all_marked links marks (omega (arith, same)) (all_tail true marks all))
all_marked (l ∷ links) (false ∷ marks) same all = absurd (false≢true (all 0 false (omega arith)))

few_marked : (links : List Link) (marks : List Bool) → length (marked links marks) ≤ length links
few_marked [] marks = omega arith
few_marked (l ∷ links) [] = omega arith
few_marked (l ∷ links) (true ∷ marks) = omega (arith, few_marked links marks)
few_marked (l ∷ links) (false ∷ marks) = omega (arith, few_marked links marks)

-- if at least as many are marked as there are links, all are marked
pub marks_all : (links : List Link) (marks : List Bool) → length links ≡ length marks → length links ≤ length (marked links marks) → All IsTrue marks
marks_all [] [] same many k d lt = absurd (omega (arith, lt))
marks_all [] (b ∷ marks) same many k d lt = absurd (omega (arith, same))
marks_all (l ∷ links) [] same many k d lt = absurd (omega (arith, lt))
marks_all (l ∷ links) (true ∷ marks) same many zero d lt = refl
marks_all (l ∷ links) (true ∷ marks) same many (suc k) d lt = marks_all links marks (omega (arith, same)) (omega (arith, many)) k d (omega (arith, lt))
marks_all (l ∷ links) (false ∷ marks) same many k d lt = absurd (omega (arith, many, few_marked links marks))

-- What is true when no links are left: the numbers are those of the components.
pub components_end : {links taken : List Link} {numbers : List ℕ} → IsStage links [] [] numbers taken → AreComponents (Contains links) numbers
components_end {links} {taken} {numbers} stage = record {
  joined = λ u v u_in v_in same. joins_more (Contains taken) (Contains links) (λ l l_in. (stage.forest l l_in).0) u v (stage.joined u v u_in v_in same);
  alike = joins_equal (Contains links) (λ v. get_or numbers v 0) (λ l l_in. elim (stage.left l l_in) [
    | inl same ↦ same
    | inr other ↦ elim other [ inl l_in' ↦ absurd (contains_none l l_in') | inr l_in' ↦ absurd (contains_none l l_in') ]
  ]);
}

-- every link is taken exactly if the links close no cycle
pub acyclic_end : {links : List Link} {numbers : List ℕ} (marks : List Bool) → IsAscending links → length links ≡ length marks
    → IsStage links [] [] numbers (marked links marks) → All IsTrue marks ↔ HasNoCycle (Contains links)
acyclic_end {links} {numbers} marks up same stage = (to, back)
  where
    to : All IsTrue marks → HasNoCycle (Contains links)
    to all =
        let is = subst (λ (taken : List Link). (l : Link) → Contains taken l ↔ IsForestLink links l) (all_marked links marks same all) (stage_end stage) in
        (forest_is_lightest links links (record { ascending = up; exact = is })).0.no_cycle

    back : HasNoCycle (Contains links) → All IsTrue marks
    back none =
        let taken = marked links marks in
        let is = stage_end stage in
        let one = each_has_one_forest links in
        let of_forest : (l : Link) → Contains links l → IsForestLink links l = λ l l_in. (one.1.exact l).0 ((no_cycle_is_its_forest links one.0 none one.1 l).1 l_in) in
        let exact : (l : Link) → Contains links l ↔ IsForestLink taken l =
        λ l. (
          λ l_in.
              let in_forest = of_forest l l_in in
              ((is l).1 in_forest, λ joined. in_forest.1 (joins_more (LinksBelow taken l) (LinksBelow links l) (λ m below. (((is m).0 below.0).0, below.1)) l.low l.high joined)),
          λ of_taken. ((is l).0 of_taken.0).0,
        ) in
        marks_all links marks same (forest_few taken links (record { ascending = up; exact = exact }))

-- what the rounds leave of links in the order of their keys, if no link was taken before
pub stage_of : (n : ℕ) (links : List Link) (candidates : List Open) (marks marks' : List Bool) (numbers : List ℕ) → AreOpened (λ v. v) links candidates → EndsUpTo n links
    → IsAscending links → marks ≡ replicate (length links) false → LeadsOn n candidates marks numbers [] marks' → length numbers ≡ n + 1
    → IsStage links [] [] numbers (marked links marks')
stage_of n links candidates marks marks' numbers are ends up fresh leads len =
    let own = own_of n in
    let is = own_is n in
    let as_many : length links ≡ length marks = sym (ap length fresh ∙ length-replicate (length links) false) in
    let none : marked links marks ≡ [] = ap (marked links) fresh ∙ marked_none links (length links) in
    let start = stage_start n links links own (λ l. (λ l_in. l_in, λ l_in. l_in)) ends is.0 is.1 in
    let opened = subst (λ (xs : List Link). IsStage links xs [] own []) (sym (links_opened are some_link)) start in
    let marked_so = subst (λ (taken : List Link). IsStage links (links_of some_link links candidates) [] own taken) (sym none) opened in
    let done = leads some_link links links [] [] own as_many (own_labels n own is.0 is.1) (opened_of are own is.0 is.1 ends (ascending_sorted links up) some_link) marked_so in
    subst (λ labels. IsStage links [] [] labels (marked links marks')) (renamed_own n numbers own len is) done
