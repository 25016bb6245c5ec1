-- Links whose weights are changed but keep their order.
use Rattle.std.specs.Prelude.{◌≡◌, ℕ, ◌<◌, ℤ, ◌↔◌, List, length, map, slice_index_or, Contains}
use Rattle.std.specs.Int.Signed.{◌<ℤ◌}
use Rattle.links.specs.declared.links.Link.{Link}
use Rattle.links.specs.Link.{Key, key_of}
use Rattle.links.specs.Forest.{IsForestOf}

-- the function keeps the order of the links' weights
abbrev pub KeepsOrder : (ℤ → ℤ) → List Link → Type 0
KeepsOrder f links = (l m : Link) → Contains links l → Contains links m → l.weight <ℤ m.weight → f l.weight <ℤ f m.weight

-- the key of a link after the function has changed its weight
abbrev pub reweighted_key : (ℤ → ℤ) → Link → Key
reweighted_key f l = (f l.weight, l.low, l.high)

-- the links in their order, each with its weight changed by the function
abbrev pub AreReweighted : (ℤ → ℤ) → List Link → List Link → Type 0
AreReweighted f links changed = map key_of changed ≡ map (reweighted_key f) links

-- ---- the laws

-- if a function keeps the order of a list's weights, the forest of the changed list is the list's forest with changed
-- weights
abbrev pub ForestOfReweighted : Type 0
ForestOfReweighted =
    (f : ℤ → ℤ) (links changed : List Link) → KeepsOrder f links → AreReweighted f links changed
    → (forest other : List Link) → IsForestOf links forest → IsForestOf changed other → AreReweighted f forest other

-- the links have the same indices: link k of a forest is at the same index of its list, before the change and after it
abbrev pub PlacesOfReweighted : Type 0
PlacesOfReweighted =
    (f : ℤ → ℤ) (links changed : List Link) → KeepsOrder f links → AreReweighted f links changed
    → (forest other : List Link) → IsForestOf links forest → IsForestOf changed other
    → (i k : ℕ) (d : Link) → i < length links → k < length forest
    → (slice_index_or links i d ≡ slice_index_or forest k d) ↔ (slice_index_or changed i d ≡ slice_index_or other k d)
