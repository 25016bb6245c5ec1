-- Labels that coarsen others.
use Rattle.std.proofs.Common.{◌≡◌, ℕ, List}
use Rattle.links.specs.Labels.{label_of}

-- a vertex has the same label as the vertex that is its finer label
abbrev pub IsCoarserAt : List ℕ → List ℕ → ℕ → Type 0
IsCoarserAt labels finer v = label_of labels v ≡ label_of labels (label_of finer v)
