-- The labels that name components, from round to round, and where picks lead each of them.
use Rattle.std.specs.Prelude.{◌≡◌, ◌≢◌, ℕ, ◌-◌, ◌<◌, ◌≤◌, ◌⊎◌, ◌↔◌, min, Bool, true, false, List, ◌++◌, length, slice_index, slice_set, All, AllPairs, Contains, Option, Some, None}
use Rattle.links.specs.declared.links.Link.{Link}
use Rattle.links.specs.Labels.{label_of, AreLabels, renamed}
use Rattle.round_theory.specs.Labelling.{IsVertex, JoinsOver, IsRelabelling}
use Rattle.round_core.specs.Picks.{pick_of, Picked, ArePicksOfHearings}
use Rattle.round_core.specs.Solver.{IsFirstPickedAt, IsPickedBefore, ArePickedOnce}

-- `c` is a vertex that labels itself
abbrev pub IsRoot : List ℕ → ℕ → Type 0
IsRoot labels c = IsVertex (length labels) c × (label_of labels c ≡ c)

-- the vertices that label themselves, in ascending order
pub record AreRoots (labels roots : List ℕ) : Type 0 where
  pub ascending : AllPairs (λ b c. b < c) roots
  pub exact : (c : ℕ) → Contains roots c ↔ IsRoot labels c

-- one endpoint of the link has label `c`, and the other has label `d`
abbrev pub HasEndLabels : List ℕ → Link → ℕ → ℕ → Type 0
HasEndLabels labels l c d =
    ((label_of labels l.low ≡ c) × (label_of labels l.high ≡ d))
    ⊎ ((label_of labels l.low ≡ d) × (label_of labels l.high ≡ c))

-- A pick leads label `c` to the label of the link's other endpoint. If both labels pick the link, it leads both to the
-- lesser of them. A label without a pick stays.
pub record IsLed (labels : List ℕ) (picks : List (Option Link)) (c parent : ℕ) : Type 0 where
  pub stays : pick_of picks c ≡ None → parent ≡ c
  pub to_lesser : (l : Link) (d : ℕ) → pick_of picks c ≡ Some l → HasEndLabels labels l c d
      → pick_of picks d ≡ Some l → parent ≡ min c d
  pub to_other : (l : Link) (d : ℕ) → pick_of picks c ≡ Some l → HasEndLabels labels l c d
      → pick_of picks d ≢ Some l → parent ≡ d

-- the same for the parent that is stored for it, which is a root
abbrev pub IsLedBy : List ℕ → List (Option Link) → List ℕ → ℕ → Type 0
IsLedBy labels picks parents c = IsLed labels picks c (slice_index parents c) × IsRoot labels (slice_index parents c)

-- label `c` gives the link if it takes its pick, and no other: it is the least label that picks it
pub record Gives (picks : List (Option Link)) (c : ℕ) (takes : Bool) (link : Link) : Type 0 where
  pub first : takes ≡ true → IsFirstPickedAt picks link (c - 1)
  pub none : takes ≡ false → (l : Link) → ¬ (IsFirstPickedAt picks l (c - 1))

-- the link is given by one of the first `k` roots: the least label that picks it
abbrev pub IsGiven : List (Option Link) → List ℕ → ℕ → Link → Type 0
IsGiven picks roots k l = (j : ℕ) × (j < k) × (j < length roots) × IsFirstPickedAt picks l (slice_index roots j - 1)

-- the links that the first `k` roots give, in their order
pub record AreGiven (picks : List (Option Link)) (roots : List ℕ) (k : ℕ) (links : List Link) : Type 0 where
  pub exact : (l : Link) → Contains links l ↔ IsGiven picks roots k l
  pub in_order : AllPairs (IsPickedBefore picks) links

-- the picked links were appended to what was taken before, each once, and there are at most `most`
pub record TakesPicked (picks : List (Option Link)) (most : ℕ) (before after : List Link) : Type 0 where
  pub added : List Link
  pub behind : after ≡ before ++ added
  pub few : length added ≤ most
  pub once : ArePickedOnce picks added

pub record ArePointers (roots parents : List ℕ) : Type 0 where
  pub within : (c : ℕ) → Contains roots c → c < length parents
  pub closed : (c : ℕ) → Contains roots c → Contains roots (slice_index parents c)

-- The labels and the picks connect each root to its parent. Any value that each root shares with its parent is also the
-- same at both ends of each pick.
pub record AreParents (labels roots : List ℕ) (picks : List (Option Link)) (parents : List ℕ) : Type 0 where
  pub joined : (c : ℕ) → Contains roots c → JoinsOver labels (Picked picks) c (slice_index parents c)
  pub together : (f : ℕ → ℕ) → ((c : ℕ) → Contains roots c → f c ≡ f (slice_index parents c))
      → (l : Link) → Picked picks l → f (label_of labels l.low) ≡ f (label_of labels l.high)

-- what were the roots' parents still are
abbrev pub StayParents : List ℕ → List ℕ → List ℕ → Type 0
StayParents roots old new = (labels : List ℕ) (picks : List (Option Link)) → AreParents labels roots picks old → AreParents labels roots picks new

-- the parents after root `c` got its parent's parent
abbrev pub jumped : List ℕ → ℕ → List ℕ
jumped parents c = slice_set parents c (slice_index parents (slice_index parents c))

-- the parent of root `c` is its own parent
abbrev pub IsSettled : List ℕ → ℕ → Type 0
IsSettled parents c = slice_index parents (slice_index parents c) ≡ slice_index parents c

abbrev pub AreSettled : List ℕ → List ℕ → Type 0
AreSettled roots parents = (c : ℕ) → Contains roots c → IsSettled parents c

-- the rank of each root that isn't its own parent is greater than its parent's
abbrev pub Descend : List ℕ → (ℕ → ℕ) → List ℕ → Type 0
Descend roots rank parents = (c : ℕ) → Contains roots c → (slice_index parents c ≡ c) ⊎ (rank (slice_index parents c) < rank c)

-- `u` is the least of the roots with the parent of root `c`
pub record IsLeastUnder (roots parents : List ℕ) (c u : ℕ) : Type 0 where
  pub root : Contains roots u
  pub same : slice_index parents u ≡ slice_index parents c
  pub least : (w : ℕ) → Contains roots w → slice_index parents w ≡ slice_index parents c → u ≤ w

-- all roots of labels, and the picks of a book with these labels
pub record CanStep (labels roots : List ℕ) (picks : List (Option Link)) : Type 0 where
  pub labelled : AreLabels labels
  pub picked : ArePicksOfHearings labels picks
  pub are_roots : AreRoots labels roots

-- The name of each label, at the label's index, is the least vertex to which the components of the labels and the picks
-- connect it.
pub record Relabels (labels : List ℕ) (picks : List (Option Link)) (names : List ℕ) : Type 0 where
  pub within : All (λ c. c < length names) labels
  pub relabelling : IsRelabelling (length labels) labels (Picked picks) (renamed names labels)
  pub labelled : AreLabels (renamed names labels)
