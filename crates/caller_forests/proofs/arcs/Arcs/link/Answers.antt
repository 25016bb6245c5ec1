use Rattle.std.proofs.Common.{w64, ◌≡◌, ℕ, ◌==◌, ◌↔◌, true, not, Option, Some, None, IsSome, IsNone, IfSome, IsTrue, get_or, refl, sym, ap, ap₂, ◌∙◌, subst, arith, rules}
use mir.Val.{to_z, of_z}
use Rattle.std.proofs.lemmas.Bool.{false≢true, true≢false}
use Rattle.std.proofs.lemmas.Int.{to_z-of_z}
use Rattle.std.proofs.lemmas.Bool.Decides.{nat_tests}
use Rattle.links.specs.Arc.{Arc}
use Rattle.links.specs.Link.{key_of, arc_key, is_no_loop}
use Rattle.links.specs.declared.links.Link.{Link}
use Rattle.caller_forests.proofs.ArcPlaces.{arc_at, shown_len, shown_at, of_tails, of_heads}
use Rattle.caller_forests.proofs.arcs.Arcs.link.Goals as goal

-- there is an edge exactly if two numbers differ
some_if : (found : Option Link) (a b : ℕ) → IsNone found ↔ (a ≡ b) → IsSome found ↔ IsTrue (not (a == b))
some_if None a b is = let same : a ≡ b = is.0 refl in (λ never. absurd (false≢true never), λ differ. absurd (differs a b same differ))
  where
    differs : (x y : ℕ) → x ≡ y → not (x == y) ≡ true → ⊥
    differs x y same differ = grind (arith, nat_tests)
some_if (Some l) a b is = (λ yes. test a b (λ same. true≢false (is.1 same)), λ differ. refl)
  where
    test : (x y : ℕ) → (x ≡ y → ⊥) → not (x == y) ≡ true
    test x y apart = grind (arith, nat_tests)

-- what holds for an edge, if there is one
for_some : (found : Option Link) (P Q : Link → Type 0) → ((l : Link) → P l → Q l) → IfSome found P → IfSome found Q
for_some None P Q more had = had
for_some (Some l) P Q more had = more l had

pub vertex_at-tail-requires-clause-ends : goal.vertex_at-tail-requires-clause-ends
vertex_at-tail-requires-clause-ends c =
    let s = c.self.inside in
    of_tails c.args.n s.base s.tails.now s.heads.now s.weights.now c.self.invariant c.args.self.now c.self.view_is c.requires.ends

pub vertex_at-tail-requires-clause-in_range : goal.vertex_at-tail-requires-clause-in_range
vertex_at-tail-requires-clause-in_range c =
    let s = c.self.inside in
    let len = shown_len c.args.n s.base s.tails.now s.heads.now s.weights.now c.self.invariant c.args.self.now c.self.view_is in
    omega (arith, len, c.requires.in_range)

pub vertex_at-head-requires-clause-ends : goal.vertex_at-head-requires-clause-ends
vertex_at-head-requires-clause-ends c =
    let s = c.self.inside in
    of_heads c.args.n s.base s.tails.now s.heads.now s.weights.now c.self.invariant c.args.self.now c.self.view_is c.requires.ends

pub vertex_at-head-requires-clause-in_range : goal.vertex_at-head-requires-clause-in_range
vertex_at-head-requires-clause-in_range c =
    let s = c.self.inside in
    let len = shown_len c.args.n s.base s.tails.now s.heads.now s.weights.now c.self.invariant c.args.self.now c.self.view_is in
    omega (arith, len, c.requires.in_range, c.self.invariant.0)

pub offset_bounds-self-inside-place : goal.offset_bounds-self-inside-place
offset_bounds-self-inside-place c =
    let s = c.self.inside in
    let len = shown_len c.args.n s.base s.tails.now s.heads.now s.weights.now c.self.invariant c.args.self.now c.self.view_is in
    omega (arith, len, c.requires.in_range, c.self.told.0.1)

pub bounds-self-inside-place : goal.bounds-self-inside-place
bounds-self-inside-place c =
    let s = c.self.inside in
    let len = shown_len c.args.n s.base s.tails.now s.heads.now s.weights.now c.self.invariant c.args.self.now c.self.view_is in
    omega (arith, len, c.requires.in_range, c.self.invariant.1)

-- the arc that the columns show at this index
module _ (c : goal.After-of_arc) where
  abbrev shown : Arc
  shown = arc_at c.self.inside.base c.self.inside.tails.now c.self.inside.heads.now c.self.inside.weights.now c.args.place

  shown_is : (d : Arc) → get_or c.args.self.now c.args.place d ≡ shown
  shown_is d = shown_at c.args.n c.self.inside.base c.self.inside.tails.now c.self.inside.heads.now c.self.inside.weights.now c.self.invariant c.args.self.now
      c.self.view_is c.args.place d c.requires.in_range

pub returns-clause-none_for_a_loop : goal.returns-clause-none_for_a_loop
returns-clause-none_for_a_loop c d =
    subst (λ (a : Arc). IsSome c.of_arc.result ↔ IsTrue (is_no_loop a)) (sym (shown_is c d))
    (subst (λ x. IsSome c.of_arc.result ↔ IsTrue (not (x == (shown c).head))) c.vertex_at-tail.ensures.vertex
    (subst (λ y. IsSome c.of_arc.result ↔ IsTrue (not (c.vertex_at-tail.result == y))) c.vertex_at-head.ensures.vertex
    (some_if c.of_arc.result c.vertex_at-tail.result c.vertex_at-head.result c.of_arc.ensures.none_for_a_loop)))

pub returns-clause-key : goal.returns-clause-key
returns-clause-key c =
    let weight = (shown c).weight in
    for_some c.of_arc.result
    (λ l. key_of l ≡ arc_key (record { tail = c.vertex_at-tail.result; head = c.vertex_at-head.result; weight = to_z w64 (of_z w64 weight) }))
    (λ l. (d : Arc) → key_of l ≡ arc_key (get_or c.args.self.now c.args.place d))
    (λ l key d. key ∙ ap (λ w. arc_key (record { tail = c.vertex_at-tail.result; head = c.vertex_at-head.result; weight = w })) (to_z-of_z w64 weight (search rules))
    ∙ ap₂ (λ x y. arc_key (record { tail = x; head = y; weight = weight })) c.vertex_at-tail.ensures.vertex c.vertex_at-head.ensures.vertex ∙ ap arc_key (sym (shown_is c d)))
    c.of_arc.ensures.key
