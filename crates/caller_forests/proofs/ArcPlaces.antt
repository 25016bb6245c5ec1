-- Arcs in columns, index by index.
use Rattle.std.proofs.Common.{◌≡◌, zero, suc, ℕ, ◌+◌, ◌<◌, ◌≤◌, ℤ, pos, List, [], ◌∷◌, length, get_or, All, refl, sym, ap, ◌∙◌, subst, arith}
use Rattle.std.proofs.lemmas.List.{get_or_default}
use Rattle.links.specs.Arc.{Arc}
use Rattle.gr_text.specs.Graph.{HasEnds}
use Rattle.caller_forests.specs.Arcs.{AreColumns, arcs_in, vertex_from}

-- the arc at an index of the columns
abbrev pub arc_at : ℕ → List ℕ → List ℕ → List ℤ → ℕ → Arc
arc_at base tails heads weights k =
    record { tail = vertex_from base (get_or tails k 0); head = vertex_from base (get_or heads k 0); weight = get_or weights k (pos 0) }

pub arcs_len : (base : ℕ) (tails heads : List ℕ) (weights : List ℤ) → AreColumns tails heads weights → length (arcs_in base tails heads weights) ≡ length tails
arcs_len base [] heads weights long = refl
arcs_len base (u ∷ tails) [] weights long = let none = long.0 in absurd (omega (arith, none))
arcs_len base (u ∷ tails) (v ∷ heads) [] long = let none = long.1 in absurd (omega (arith, none))
arcs_len base (u ∷ tails) (v ∷ heads) (w ∷ weights) (heads_long, weights_long) = ap suc (arcs_len base tails heads weights (omega (arith, heads_long), omega (arith, weights_long)))

pub arcs_at : (base : ℕ) (tails heads : List ℕ) (weights : List ℤ) → AreColumns tails heads weights → (k : ℕ) (d : Arc) → k < length tails
    → get_or (arcs_in base tails heads weights) k d ≡ arc_at base tails heads weights k
arcs_at base [] heads weights long k d lt = absurd (omega (arith, lt))
arcs_at base (u ∷ tails) [] weights long k d lt = let none = long.0 in absurd (omega (arith, none))
arcs_at base (u ∷ tails) (v ∷ heads) [] long k d lt = let none = long.1 in absurd (omega (arith, none))
arcs_at base (u ∷ tails) (v ∷ heads) (w ∷ weights) long zero d lt = refl
arcs_at base (u ∷ tails) (v ∷ heads) (w ∷ weights) (heads_long, weights_long) (suc k) d lt =
    arcs_at base tails heads weights (omega (arith, heads_long), omega (arith, weights_long)) k d (omega (arith, lt))

-- an endpoint in the columns is a vertex
abbrev pub IsVertex : ℕ → ℕ → ℕ → Type 0
IsVertex n base v = (base ≤ v) × (v < base + n)

module _ (n base : ℕ) (tails heads : List ℕ) (weights : List ℤ) (long : AreColumns tails heads weights) where
  vertex_at : (v : ℕ) → 1 ≤ vertex_from base v → vertex_from base v ≤ n → IsVertex n base v
  vertex_at v from_one in_range = (omega (arith, from_one), omega (arith, from_one, in_range))

  -- the arcs as a struct of the columns shows them
  module _ (arcs : List Arc) (view : arcs_in base tails heads weights ≡ arcs) where
    pub shown_len : length tails ≡ length arcs
    shown_len = sym (arcs_len base tails heads weights long) ∙ ap length view

    pub shown_at : (k : ℕ) (d : Arc) → k < length arcs → get_or arcs k d ≡ arc_at base tails heads weights k
    shown_at k d lt =
        ap (λ (xs : List Arc). get_or xs k d) (sym view)
        ∙ arcs_at base tails heads weights long k d (subst (λ m. k < m) (sym shown_len) lt)

    pub shown_ends : All (HasEnds n) arcs → (k : ℕ) → k < length arcs → HasEnds n (arc_at base tails heads weights k)
    shown_ends ends k lt = let d = arc_at base tails heads weights k in subst (HasEnds n) (shown_at k d lt) (ends k d lt)

    -- the endpoints of all arcs are vertices exactly if those in the columns are
    pub ends_from : All (IsVertex n base) tails → All (IsVertex n base) heads → All (HasEnds n) arcs
    ends_from of_tails of_heads k d lt =
        let k_in : k < length tails = subst (λ m. k < m) (sym shown_len) lt in
        let k_in' : k < length heads = let as_long = long.0 in omega (arith, k_in, as_long) in
        let tail = of_tails k 0 k_in in
        let head = of_heads k 0 k_in' in
        subst (HasEnds n) (sym (shown_at k d lt)) (record {
          tail_from_one = omega (arith, tail.0);
          tail_in_range = omega (arith, tail.0, tail.1);
          head_from_one = omega (arith, head.0);
          head_in_range = omega (arith, head.0, head.1);
        })

    pub of_tails : All (HasEnds n) arcs → All (IsVertex n base) tails
    of_tails ends k d lt =
        let at = shown_ends ends k (subst (λ m. k < m) shown_len lt) in
        subst (IsVertex n base) (get_or_default tails k 0 d lt) (vertex_at (get_or tails k 0) at.tail_from_one at.tail_in_range)

    pub of_heads : All (HasEnds n) arcs → All (IsVertex n base) heads
    of_heads ends k d lt =
        let at = shown_ends ends k (subst (λ m. k < m) (long.0 ∙ shown_len) lt) in
        subst (IsVertex n base) (get_or_default heads k 0 d lt) (vertex_at (get_or heads k 0) at.head_from_one at.head_in_range)
