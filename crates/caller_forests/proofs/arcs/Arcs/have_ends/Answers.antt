use Rattle.std.proofs.Common.{◌∙◌, sym}
use mathlib.Core.Bool.{false≢true}
use Rattle.caller_forests.proofs.ArcPlaces.{ends_from, of_tails, of_heads}
use Rattle.caller_forests.proofs.arcs.Arcs.have_ends.Goals as goal

pub returns-then-are_vertices : goal.returns-then-are_vertices
returns-then-are_vertices c =
    let s = c.self.inside in (
      λ yes. ends_from c.args.n s.base s.tails.now s.heads.now s.weights.now c.self.invariant c.args.self.now c.self.view_is
          (c.are_vertices.ensures.0 c.if-are_vertices.true) (c.are_vertices-then-are_vertices.ensures.0 yes),
      λ ends. c.are_vertices-then-are_vertices.ensures.1 (of_heads c.args.n s.base s.tails.now s.heads.now s.weights.now c.self.invariant c.args.self.now c.self.view_is ends),
    )

pub returns-else-are_vertices : goal.returns-else-are_vertices
returns-else-are_vertices c =
    let s = c.self.inside in (
      λ yes. absurd (false≢true (sym c.if-are_vertices.false ∙ yes)),
      λ ends. c.are_vertices.ensures.1 (of_tails c.args.n s.base s.tails.now s.heads.now s.weights.now c.self.invariant c.args.self.now c.self.view_is ends),
    )
