-- The endpoints of links.
use Rattle.std.proofs.Common.{ℕ, ◌≤◌, List, Contains}
use Rattle.links.specs.declared.links.Link.{Link}
use Rattle.std.proofs.lemmas.List.Elements.{All-contains}
use Rattle.links.specs.Link.{EndsUpTo}
use Rattle.round_theory.specs.LinkSet.{LinkSet}

-- all endpoints of the links of a set are among the vertices 1 to n
abbrev pub HasEndsUpTo : ℕ → LinkSet → Type 0
HasEndsUpTo n S = (l : Link) → S l → l.high ≤ n

pub set_ends : (n : ℕ) (links : List Link) → EndsUpTo n links → HasEndsUpTo n (Contains links)
set_ends n links ends l is_in = All-contains (λ (m : Link). m.high ≤ n) links l ends is_in
