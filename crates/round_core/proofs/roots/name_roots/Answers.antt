use Rattle.std.proofs.Common.{◌<◌, length, get_or, subst, sym, arith}
use Rattle.std.proofs.lemmas.List.Elements.{Contains-get_or, All-contains}
use Rattle.round_core.specs.Roots.{IsLeastUnder}
use Rattle.round_core.proofs.Naming.{named_more, named_all}
use Rattle.round_core.proofs.roots.name_roots.Goals as goal

pub bounds-parents-root : goal.bounds-parents-root
bounds-parents-root c =
    let roots = c.args.roots.now in
    let i = c.loop-root.root-index in
    let within : get_or roots i 0 < length c.args.parents.now = c.requires.pointers.within (get_or roots i 0) (Contains-get_or roots i 0 c.loop-root-test.true) in
    omega (arith, within, c.loop-root.auto.parents)

pub bounds-least-name : goal.bounds-least-name
bounds-least-name c =
    let roots = c.args.roots.now in
    let i = c.loop-root.root-index in
    let r = get_or roots i 0 in
    let had = c.loop-root.invariant.rest i (omega arith) c.loop-root-test.true in
    let parent_in = c.requires.pointers.closed r (Contains-get_or roots i 0 c.loop-root-test.true) in
    let room : get_or c.args.parents.now r 0 < length c.args.least.now = All-contains (λ b. b < length c.args.least.now) roots (get_or c.args.parents.now r 0) c.requires.room parent_in in
    omega (arith, room, had, c.find_least.auto.least)

pub loop-root-preserved : goal.loop-root-preserved
loop-root-preserved c =
    let roots = c.args.roots.now in
    let i = c.loop-root.root-index in
    let within : get_or roots i 0 < length c.args.parents.now = c.requires.pointers.within (get_or roots i 0) (Contains-get_or roots i 0 c.loop-root-test.true) in
    named_more roots c.find_least.new.least c.args.parents.now c.loop-root.parents i c.requires.ascending c.loop-root-test.true within c.loop-root.invariant

pub returns : goal.returns
returns c = λ r r_in.
    let is = named_all c.args.roots.now c.find_least.new.least c.args.parents.now c.loop-root.parents c.loop-root.root-index c.loop-root-test.false c.loop-root.invariant r r_in in
    subst (IsLeastUnder c.args.roots.now c.args.parents.now r) (sym is) (c.find_least.ensures r r_in)
