-- Edges from a C caller, one after the other.
use Rattle.std.proofs.Common.{◌≡◌, ◌≢◌, true, false, ℕ, ◌+◌, ◌<◌, ◌≤◌, List, [], ◌∷◌, ◌++◌, map, take, drop, length, get_or, set, ap, ap₂, refl, sym, ◌∙◌, arith, add-one, append_assoc}
use Rattle.std.proofs.lemmas.List.{map-append, length-map, length-take-le, take_more}
use Rattle.std.proofs.Math.Seq.{take-suc, drop-cons, set-append_seam}
use Rattle.std.proofs.lemmas.Bool.Decides.{nat_tests}
use Rattle.links.specs.Arc.{Arc}
use Rattle.links.specs.Link.{Key, key_of, arc_key, is_no_loop, AreLinksOf}
use Rattle.links.specs.declared.links.Link.{Link}
use Rattle.links.proofs.Keys.{link_eq}
use Rattle.gr_text.proofs.Steps.{AreLinksOf-loop, AreLinksOf-link}
use Rattle.caller_forests.specs.declared.given.GivenLink.{GivenLink}
use Rattle.caller_forests.specs.Links.{arc_of, arcs_of, given_of}

-- the arcs and one more
arcs_then : (given : List GivenLink) (i : ℕ) (d : GivenLink) → i < length given → arcs_of (take (i + 1) given) ≡ arcs_of (take i given) ++ arc_of (get_or given i d) ∷ []
arcs_then given i d lt =
    ap (λ (k : ℕ). arcs_of (take k given)) (add-one i) ∙ ap arcs_of (take-suc given i d lt) ∙ map-append arc_of (take i given) (get_or given i d ∷ [])

-- the edges and that of one more arc, which is a loop or not
pub links_at_loop : (given : List GivenLink) (i : ℕ) (d : GivenLink) (links : List Link) → i < length given → AreLinksOf (arcs_of (take i given)) links
    → (get_or given i d).low ≡ (get_or given i d).high → AreLinksOf (arcs_of (take (i + 1) given)) links
links_at_loop given i d links lt are same =
    rw (arcs_then given i d lt) (AreLinksOf-loop (arcs_of (take i given)) links (arc_of (get_or given i d)) are (grind (arith, nat_tests)))

pub links_at_link : (given : List GivenLink) (i : ℕ) (d : GivenLink) (links : List Link) (l : Link) → i < length given → AreLinksOf (arcs_of (take i given)) links
    → (get_or given i d).low ≢ (get_or given i d).high → key_of l ≡ arc_key (arc_of (get_or given i d)) → AreLinksOf (arcs_of (take (i + 1) given)) (links ++ l ∷ [])
links_at_link given i d links l lt are differ key =
    rw (arcs_then given i d lt) (AreLinksOf-link (arcs_of (take i given)) links (arc_of (get_or given i d)) l are (grind (arith, nat_tests)) key)

-- edges written over the first of a list, and one more
pub put_one_more : (given before : List GivenLink) (links : List Link) (i : ℕ) (link : Link) (new : GivenLink) → i < length links → length links ≤ length before
    → given ≡ map given_of (take i links) ++ drop i before → link ≡ get_or links i link → new ≡ given_of link
    → set given i new ≡ map given_of (take (i + 1) links) ++ drop (i + 1) before
put_one_more given before links i link new lt few is at new_is =
    let first : List GivenLink = map given_of (take i links) in
    let long : length first ≡ i = length-map (take i links) given_of ∙ length-take-le i links (omega arith) in
    let parted : drop i before ≡ get_or before i new ∷ drop (i + 1) before = drop-cons before i new (omega arith) ∙ ap (λ (k : ℕ). get_or before i new ∷ drop k before) (sym (add-one i)) in
    let written : set given i new ≡ first ++ new ∷ drop (i + 1) before =
    ap (λ (xs : List GivenLink). set xs i new) (is ∙ ap (λ (ys : List GivenLink). first ++ ys) parted)
    ∙ ap (λ (k : ℕ). set (first ++ get_or before i new ∷ drop (i + 1) before) k new) (sym long)
    ∙ set-append_seam first (get_or before i new) (drop (i + 1) before) new in
    let grown : map given_of (take (i + 1) links) ≡ first ++ new ∷ [] =
    ap (λ (k : ℕ). map given_of (take k links)) (add-one i) ∙ ap (map given_of) (take-suc links i link lt)
    ∙ map-append given_of (take i links) (get_or links i link ∷ []) ∙ ap (λ (l : Link). first ++ given_of l ∷ []) (sym at) ∙ ap (λ (g : GivenLink). first ++ g ∷ []) (sym new_is) in
    written ∙ simp (grown, append_assoc)

-- the edges of arcs and that of one more, which is a loop or not
pub more_loop : (arcs : List Arc) (i : ℕ) (d : Arc) (links : List Link) → i < length arcs → AreLinksOf (take i arcs) links → is_no_loop (get_or arcs i d) ≡ false
    → AreLinksOf (take (i + 1) arcs) links
more_loop arcs i d links lt are loop = rw (take_more arcs i d lt) (AreLinksOf-loop (take i arcs) links (get_or arcs i d) are loop)

pub more_link : (arcs : List Arc) (i : ℕ) (d : Arc) (links : List Link) (l : Link) → i < length arcs → AreLinksOf (take i arcs) links → is_no_loop (get_or arcs i d) ≡ true
    → key_of l ≡ arc_key (get_or arcs i d) → AreLinksOf (take (i + 1) arcs) (links ++ l ∷ [])
more_link arcs i d links l lt are no_loop key = rw (take_more arcs i d lt) (AreLinksOf-link (take i arcs) links (get_or arcs i d) l are no_loop key)

-- edges with the same key are the same
pub one_key : (l m : Link) → key_of l ≡ key_of m → l ≡ m
one_key l m same = link_eq l m (ap (λ (k : Key). k.0) same) (ap (λ (k : Key). k.1) same) (ap (λ (k : Key). k.2) same)

-- lists of edges with the same keys are the same
pub same_keys : (links others : List Link) → map key_of links ≡ map key_of others → links ≡ others
same_keys [] [] same = refl
same_keys [] (m ∷ others) same = absurd (omega (arith, ap length same))
same_keys (l ∷ links) [] same = absurd (omega (arith, ap length same))
same_keys (l ∷ links) (m ∷ others) same =
    ap₂ (λ (k : Link) (ks : List Link). k ∷ ks) (one_key l m (ap (λ (keys : List Key). get_or keys 0 (key_of l)) same))
    (same_keys links others (ap (λ (keys : List Key). drop 1 keys) same))
