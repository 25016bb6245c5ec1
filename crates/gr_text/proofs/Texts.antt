-- The laws about texts.
use Rattle.std.proofs.Common.{◌≡◌, ℕ, List, [], ◌∷◌, refl, ap, ◌∙◌, subst, length, map}
use Rattle.links.specs.Arc.{Arc}
use Rattle.gr_text.specs.Statement.{Problem, ArcLine}
use Rattle.gr_text.specs.Graph.{AreLawfulLines}
use Rattle.gr_text.specs.Fault.{SaidSoFar, Unsaid, Stated, HaveSaid}
use Rattle.gr_text.specs.Laws.{MeansOneGraph}
use Rattle.gr_text.proofs.Unique.{AreLines-unique, Say-unique}

ArcLine-injective : (xs ys : List Arc) → map ArcLine xs ≡ map ArcLine ys → xs ≡ ys
ArcLine-injective [] [] e = refl
ArcLine-injective (a ∷ xs) (b ∷ ys) e =
    let tails : map ArcLine xs ≡ map ArcLine ys = cc in
    let rest : xs ≡ ys = ArcLine-injective xs ys tails in cc
ArcLine-injective xs ys e = absurd (cc)

-- valid lines have one problem and one list of arcs
pub AreLawfulLines-unique : (lines : List (List ℕ)) (n m k l : ℕ) (arcs others : List Arc) → AreLawfulLines lines n m arcs → AreLawfulLines lines k l others → (n ≡ k) × (m ≡ l) × (arcs ≡ others)
AreLawfulLines-unique lines n m k l arcs others a b =
    let same : Problem n m ∷ map ArcLine arcs ≡ Problem k l ∷ map ArcLine others = Say-unique lines _ _ a.say b.say in
    let sn : n ≡ k = cc in
    let sm : m ≡ l = cc in
    let tails : map ArcLine arcs ≡ map ArcLine others = cc in
    (sn, sm, ArcLine-injective arcs others tails)

-- Valid lines state only one thing.
pub said_unique : (lines : List (List ℕ)) (t u : SaidSoFar) → HaveSaid lines t → HaveSaid lines u → t ≡ u
said_unique lines Unsaid Unsaid a b = refl
said_unique lines Unsaid (Stated n m arcs) a b = absurd (let same : [] ≡ Problem n m ∷ map ArcLine arcs = Say-unique lines _ _ a b.say in cc)
said_unique lines (Stated n m arcs) Unsaid a b = absurd (let same : Problem n m ∷ map ArcLine arcs ≡ [] = Say-unique lines _ _ a.say b in cc)
said_unique lines (Stated n m arcs) (Stated k l others) a b =
    let (sn, sm, sa) = AreLawfulLines-unique lines n m k l arcs others a b in
    ap (λ (x : ℕ). Stated x m arcs) sn ∙ ap (λ (x : ℕ). Stated k x arcs) sm ∙ ap (Stated k l) sa

pub means_one_graph : MeansOneGraph
means_one_graph text n m arcs others (lines, are, lawful) (lines', are', lawful') =
    let both = AreLawfulLines-unique lines n _ m _ arcs others lawful
    (subst (λ (x : List (List ℕ)). AreLawfulLines x m (length others) others) (AreLines-unique text lines' lines are' are) lawful') in
    (both.0, both.2)
