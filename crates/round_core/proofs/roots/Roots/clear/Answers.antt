use Rattle.round_core.proofs.roots.Roots.clear.Goals as goal

pub returns-clause-none : goal.returns-clause-none
returns-clause-none g c = λ all. c.clear_each.ensures.none (rw (c.deref.ensures.value, c.self.view_is) all)
