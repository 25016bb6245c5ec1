use Rattle.std.proofs.Common.{◌≡◌, ◌+◌, ◌-◌, ◌<◌, ℕ, length, get_or, subst, refl, set, arith}
use Rattle.std.proofs.lemmas.List.Elements.{Contains-get_or}
use Rattle.round_core.proofs.Naming.{AreFoundFrom, found_more, found_all}
use Rattle.round_core.proofs.roots.find_least.Goals as goal

pub bounds-parents-root : goal.bounds-parents-root
bounds-parents-root c =
    let roots = c.args.roots.now in
    let k : ℕ = length roots - 1 - c.loop-done.done in
    let k_in : k < length roots = omega (arith, c.loop-done-test.true) in
    c.requires.pointers.within (get_or roots k 0) (Contains-get_or roots k 0 k_in)

pub bounds-least-parents : goal.bounds-least-parents
bounds-least-parents c =
    let roots = c.args.roots.now in
    let k : ℕ = length roots - 1 - c.loop-done.done in
    let k_in : k < length roots = omega (arith, c.loop-done-test.true) in
    c.loop-done.invariant.room _ (c.requires.pointers.closed (get_or roots k 0) (Contains-get_or roots k 0 k_in))

pub loop-done-preserved : goal.loop-done-preserved
loop-done-preserved c =
    let roots = c.args.roots.now in
    let parents = c.args.parents.now in
    let least = c.loop-done.least in
    let k : ℕ = length roots - 1 - c.loop-done.done in
    let k_in : k < length roots = omega (arith, c.loop-done-test.true) in
    let from : length roots - c.loop-done.done ≡ k + 1 = omega (arith, c.loop-done-test.true) in
    let to : k ≡ length roots - (c.loop-done.done + 1) = omega arith in
    let r : ℕ = get_or roots k 0 in
    let p : ℕ = get_or parents r 0 in
    let before : AreFoundFrom roots parents least (k + 1) = subst (AreFoundFrom roots parents least) from c.loop-done.invariant in
    subst (AreFoundFrom roots parents (set least p r)) to (found_more roots parents least k r p c.requires.ascending c.requires.pointers k_in refl refl before)

pub returns : goal.returns
returns c =
    let roots = c.args.roots.now in
    let parents = c.args.parents.now in
    let least = c.loop-done.least in
    let none : length roots - c.loop-done.done ≡ 0 = omega (arith, c.loop-done-test.false) in
    found_all roots parents least (subst (AreFoundFrom roots parents least) none c.loop-done.invariant)
