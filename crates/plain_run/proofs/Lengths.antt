-- How many edges a list and a graph have.
use Rattle.std.proofs.Common.{◌≡◌, ℕ, zero, suc, ◌≤◌, List, [], ◌∷◌, length, get_or, map, sym, ap, subst, ◌∙◌, arith}
use Rattle.std.specs.Prelude.{All, Contains, filter}
use Rattle.std.proofs.lemmas.List.{length-map}
use Rattle.std.proofs.lemmas.List.Sums.{length-filter, count_by-le-length}
use Rattle.std.proofs.lemmas.List.Elements.{All-head, All-tail}
use Rattle.std.proofs.lemmas.List.Sorted.{IsPermutation-remove, length_permutation, Contains-permutation}
use Rattle.std.specs.List.{remove}
use Rattle.links.specs.Arc.{Arc}
use Rattle.links.specs.declared.links.Link.{Link}
use Rattle.links.specs.Link.{IsBelow, IsAscending, AreLinksOf, key_of, arc_key, is_no_loop}
use Rattle.links.proofs.Keys.{below_irrefl}
use Rattle.gr_text.specs.Graph.{GraphValue, IsGraphOf}
use Rattle.gr_text.proofs.Texts.{means_one_graph}

-- edges that ascend and are in a list are at most as many as the list: each takes one index
pub no_longer : (xs ys : List Link) → IsAscending xs → All (Contains ys) xs → length xs ≤ length ys
no_longer [] ys up all = omega arith
no_longer (x ∷ xs) ys up all =
    let (k, within, at) = All-head (Contains ys) x xs all in
    let moved = IsPermutation-remove ys k x within (sym at) in
    let others : All (Contains (remove ys k)) xs = (λ i d b.
    other (remove ys k) x (get_or xs i d) (λ e. below_irrefl x (subst (IsBelow x) (sym e) (up 0 (suc i) d (omega arith) (omega arith))))
    (Contains-permutation ys (x ∷ remove ys k) (get_or xs i d) moved (All-tail (Contains ys) x xs all i d b))) in
    let rest = no_longer xs (remove ys k) (λ i j d l b. up (suc i) (suc j) d (omega arith) (omega arith)) others in
    omega (arith, rest, length_permutation ys (x ∷ remove ys k) moved)
  where
    other : (zs : List Link) (x y : Link) → ¬ (x ≡ y) → Contains (x ∷ zs) y → Contains zs y
    other zs x y apart (zero, b, e) = absurd (apart e)
    other zs x y apart (suc k, b, e) = (k, omega arith, e)

-- two graphs of one text have the same number of edges
pub same_length : (bytes : List ℕ) (graph other : GraphValue) → IsGraphOf bytes graph → IsGraphOf bytes other → length graph.links ≡ length other.links
same_length bytes graph other (arcs, means, links) (arcs', means', links') =
    let same = means_one_graph bytes graph.vertices other.vertices arcs arcs' means means' in
    let keys : map key_of graph.links ≡ map key_of other.links = links ∙ (ap (λ (xs : List Arc). map arc_key (filter is_no_loop xs)) same.1 ∙ sym links') in
    sym (length-map graph.links key_of) ∙ (ap (λ ks. length ks) keys ∙ length-map other.links key_of)

-- arcs have at most as many edges
pub fewer_links : (arcs : List Arc) (links : List Link) → AreLinksOf arcs links → length links ≤ length arcs
fewer_links arcs links are = search (arith, length-map, length-filter, count_by-le-length)
