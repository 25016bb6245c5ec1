-- Edges that connect so many vertices that a heavier one may be dropped as it comes.
use Rattle.std.specs.Prelude.{◌≡◌, ℕ, ◌≤◌, ◌==◌, ◌&&◌, not, Bool, Option, IfSome, List, length}
use Rattle.std.specs.Int.Signed.{lt_z}
use Rattle.links.specs.declared.links.Link.{Link}
use Rattle.plain_run.specs.declared.sieve.Sieve.{Sieve}
use Rattle.links.specs.Covers.{LinksNotAbove}
use Rattle.links.specs.Labels.{label_of}
use Rattle.links.specs.Walk.{Joins}
use Rattle.links.specs.WideKey.{wide_key}

-- vertices with the same label are connected by edges of the list that aren't above this one
abbrev pub IsSieveOf : List ℕ → Link → List Link → Type 0
IsSieveOf labels heaviest links =
    (u v : ℕ) → 1 ≤ u → u ≤ length labels → 1 ≤ v → v ≤ length labels → label_of labels u ≡ label_of labels v
    → Joins (LinksNotAbove links heaviest) u v

-- the sieve has let all of these edges through, and they connect the vertices to which it gives the same label
pub record Passes {A : Type 0} (sieve : Sieve A) (links : List Link) : Type 0 where
  pub count : sieve.passed ≡ length links
  pub joined : IsSieveOf sieve.labels sieve.heaviest links

-- the same for an optional sieve
abbrev pub KnowsOf : {A : Type 0} → Option (Sieve A) → List Link → Type 0
KnowsOf sieve links = IfSome sieve (λ s. Passes s links)

-- the edge has endpoints with different labels, or isn't above that one
abbrev pub stays : List ℕ → Link → Link → Bool
stays labels heaviest l = not ((label_of labels l.low == label_of labels l.high) && lt_z (wide_key heaviest) (wide_key l))
