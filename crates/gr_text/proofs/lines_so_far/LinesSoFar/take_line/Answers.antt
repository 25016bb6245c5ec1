use Rattle.std.proofs.Common.{◌∷◌, [], ◌++◌, refl, subst, sym, arith}
use Rattle.gr_text.specs.LinesSoFar.{LinesSoFarValue, FitsAfter, KeepsLinesBut, Judges}
use Rattle.gr_text.specs.declared.verdicts.Verdict.TheVariants as verdict
use Rattle.gr_text.proofs.Steps.{counts_of, KeepsLinesBut-silent, KeepsLinesBut-problem, arc_taken}
use Rattle.gr_text.proofs.lines_so_far.LinesSoFar.take_line.Goals as goal

pub add-requires : goal.add-requires
add-requires g c = subst (λ (v : LinesSoFarValue). FitsAfter (verdict.Adds c.in-Adds.link) v.size v.count) c.self.view_is c.in-Adds.ensures.fits

pub returns-in-Silent : goal.returns-in-Silent
returns-in-Silent g c = λ swap lines bytes gives whole.
    let inside = c.self.inside in
    let (all, by, known) = subst (λ (v : LinesSoFarValue). KeepsLinesBut swap v lines) (sym c.self.view_is) gives in
    subst (λ (v : LinesSoFarValue). KeepsLinesBut swap v (lines ++ bytes ∷ [])) c.self.view_is (
      all,
      by,
      KeepsLinesBut-silent inside.size inside.count all lines bytes known
          (c.in-Silent.ensures.judged lines bytes (counts_of inside.size inside.count all lines known) whole),
    )

pub returns-in-Begins : goal.returns-in-Begins
returns-in-Begins g c = λ swap lines bytes gives whole.
    let inside = c.self.inside in
    let (all, by, known) = subst (λ (v : LinesSoFarValue). KeepsLinesBut swap v lines) (sym c.self.view_is) gives in (
      all,
      by,
      KeepsLinesBut-problem inside.size c.in-Begins.size inside.count all lines bytes known
          (c.in-Begins.ensures.judged lines bytes (counts_of inside.size inside.count all lines known) whole),
    )

pub returns-in-Adds : goal.returns-in-Adds
returns-in-Adds g c = λ swap lines bytes gives whole.
    let inside = c.self.inside in
    let (all, by, known) = subst (λ (v : LinesSoFarValue). KeepsLinesBut swap v lines) (sym c.self.view_is) gives in
    let judged = c.in-Adds.ensures.judged lines bytes (counts_of inside.size inside.count all lines known) whole in
    arc_taken c.add.result c.args.self.now _ lines bytes c.in-Adds.link c.args.number c.add.ensures gives
    (subst (λ (v : LinesSoFarValue). Judges (verdict.Adds c.in-Adds.link) v.size v.count lines bytes) c.self.view_is judged)

pub returns-in-Faulty : goal.returns-in-Faulty
returns-in-Faulty g c = search (arith, counts_of)
