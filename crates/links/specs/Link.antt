-- Links, their keys and the order of keys.
use Rattle.std.specs.Prelude.{◌≡◌, ℕ, ◌≤◌, ℤ, Bool, not, ◌==◌, min, max, List, map, filter, All, AllPairs}
use Rattle.std.specs.Ordering.{nat_cmp, int_cmp, ordering_then}
use Rattle.std.specs.declared.cmp.Ordering.{Ordering}
use Rattle.std.specs.declared.cmp.Ordering.TheVariants.{Less}
use Rattle.links.specs.Arc.{Arc}
use Rattle.links.specs.declared.links.Link.{Link}

-- a key: the weight, then the lower endpoint, then the higher endpoint
abbrev pub Key : Type 0
Key = ℤ × ℕ × ℕ

-- the key of a link
abbrev pub key_of : Link → Key
key_of l = (l.weight, l.low, l.high)

-- keys compare by weight, then by the lower endpoint, then by the higher endpoint
abbrev pub key_cmp : Link → Link → Ordering
key_cmp l m = ordering_then (int_cmp l.weight m.weight) (ordering_then (nat_cmp l.low m.low) (nat_cmp l.high m.high))

-- l has the smaller key
abbrev pub IsBelow : Link → Link → Type 0
IsBelow l m = key_cmp l m ≡ Less

-- an arc whose endpoints differ
abbrev pub is_no_loop : Arc → Bool
is_no_loop a = not (a.tail == a.head)

-- the key of the link that an arc gives, without its direction
abbrev pub arc_key : Arc → Key
arc_key a = (a.weight, min a.tail a.head, max a.tail a.head)

-- the links are those of the arcs that aren't loops, in the arcs' order and with repeats
abbrev pub AreLinksOf : List Arc → List Link → Type 0
AreLinksOf arcs links = map key_of links ≡ map arc_key (filter is_no_loop arcs)

-- the keys ascend strictly: each link is below every later one
abbrev pub IsAscending : List Link → Type 0
IsAscending links = AllPairs IsBelow links

-- the endpoints of the links are vertices of a graph with the vertices 1 to n
abbrev pub EndsUpTo : ℕ → List Link → Type 0
EndsUpTo n links = All (λ l. l.high ≤ n) links
