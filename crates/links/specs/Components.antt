-- How many components a set of links has.
use Rattle.std.specs.Prelude.{◌≡◌, ℕ, ◌+◌, ◌≤◌, List, length, All, AllPairs, Contains}
use Rattle.links.specs.declared.links.Link.{Link}
use Rattle.links.specs.Link.{EndsUpTo}
use Rattle.links.specs.Walk.{Joins}
use Rattle.links.specs.Forest.{IsForestOf}
use Rattle.links.specs.LinkSet.{LinkSet}

-- one vertex per component, from 1 to n: the set joins no two of them, and joins each vertex from 1 to n with one of
-- them
pub record AreRepresentatives (n : ℕ) (S : LinkSet) (vertices : List ℕ) : Type 0 where
  pub in_range : All (λ v. (1 ≤ v) × (v ≤ n)) vertices
  pub apart : AllPairs (λ u v. ¬ (Joins S u v)) vertices
  pub each : (v : ℕ) → 1 ≤ v → v ≤ n → (u : ℕ) × Contains vertices u × Joins S u v

-- the set joins the vertices 1 to n into c components
abbrev pub HasComponents : ℕ → LinkSet → ℕ → Type 0
HasComponents n S c = (vertices : List ℕ) × AreRepresentatives n S vertices × (length vertices ≡ c)

-- ---- the laws

-- each list of links has a number of components
abbrev pub EachHasComponents : Type 0
EachHasComponents = (n : ℕ) (links : List Link) → EndsUpTo n links → (c : ℕ) × HasComponents n (Contains links) c

-- k links of the forest and c components add up to n vertices: so a list has only one number of components
abbrev pub LinksAndComponents : Type 0
LinksAndComponents =
    (n c : ℕ) (links forest : List Link) → EndsUpTo n links → IsForestOf links forest → HasComponents n (Contains links) c
    → length forest + c ≡ n
