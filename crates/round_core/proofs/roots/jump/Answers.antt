use Rattle.std.proofs.Common.{◌≡◌, ℕ, ◌+◌, ◌<◌, ◌⊎◌, Bool, true, false, ◌||◌, List, length, get_or, refl, sym, subst, inl, inr}
use Rattle.std.proofs.lemmas.List.Elements.{Contains-get_or}
use Rattle.round_core.specs.Roots.{jumped, IsSettled}
use Rattle.round_core.proofs.Jumping.{HaveJumped, LowersRanks, jumped_more, lower_by_last, lower_still, settled_on, settled_more}
use Rattle.round_core.proofs.Naming.{at_contained}
use Rattle.round_core.proofs.roots.jump.Goals as goal

neither : (a b : Bool) → (a || b) ≡ false → (a ≡ false) × (b ≡ false)
neither false b is = (refl, is)
neither true b is = absurd (cc)

either : (a b : Bool) → (a || b) ≡ true → (a ≡ true) ⊎ (b ≡ true)
either false b is = inr is
either true b is = inl refl

step : (roots old new new' : List ℕ) (k : ℕ) → k < length roots → HaveJumped roots old new → new' ≡ jumped new (get_or roots k 0) → HaveJumped roots old new'
step roots old new new' k lt have is = subst (HaveJumped roots old) (sym is) (jumped_more roots old new (get_or roots k 0) (Contains-get_or roots k 0 lt) have)

lowers : (roots old new new' : List ℕ) (k : ℕ) → k < length roots → HaveJumped roots old new → new' ≡ jumped new (get_or roots k 0) → LowersRanks roots old new → LowersRanks roots old new'
lowers roots old new new' k lt have is lower = subst (LowersRanks roots old) (sym is) (lower_still roots old new (get_or roots k 0) (Contains-get_or roots k 0 lt) have lower)

still : (roots old new new' : List ℕ) (k : ℕ) → k < length roots → HaveJumped roots old new → new' ≡ jumped new (get_or roots k 0)
    → ((j : ℕ) → j < k → IsSettled new (get_or roots j 0)) → (j : ℕ) → j < k → IsSettled new' (get_or roots j 0)
still roots old new new' k lt have is before j j_in =
    subst (λ ps. IsSettled ps (get_or roots j 0)) (sym is) (settled_on roots new (get_or roots k 0) (Contains-get_or roots k 0 lt) have.pointers (get_or roots j 0) (before j j_in))

within : (roots old new : List ℕ) (k : ℕ) → k < length roots → HaveJumped roots old new → (get_or roots k 0 < length new) × (get_or new (get_or roots k 0) 0 < length new)
within roots old new k lt have =
    let c_in = Contains-get_or roots k 0 lt in (have.pointers.within (get_or roots k 0) c_in, have.pointers.within (get_or new (get_or roots k 0) 0) (have.pointers.closed (get_or roots k 0) c_in))

pub jump_once-moved-requires : goal.jump_once-moved-requires
jump_once-moved-requires c = within c.args.roots.now c.args.parents.now c.loop-root.parents c.loop-root.root-index c.loop-root-test.true c.loop-root.invariant.jumped

pub jump_once-moved-requires-in-loop-root : goal.jump_once-moved-requires-in-loop-root
jump_once-moved-requires-in-loop-root c = within c.args.roots.now c.args.parents.now c.jump_once-moved.new.parents c.loop-root.root-index c.loop-root-test.true
    (step c.args.roots.now c.args.parents.now c.loop-root.parents c.jump_once-moved.new.parents
    c.loop-root.root-index c.loop-root-test.true c.loop-root.invariant.jumped c.jump_once-moved.ensures.jumped)

pub jump_once-moved-requires-in-loop-root-2 : goal.jump_once-moved-requires-in-loop-root-2
jump_once-moved-requires-in-loop-root-2 c = within c.args.roots.now c.args.parents.now c.jump_once-moved-in-loop-root.new.parents c.loop-root.root-index c.loop-root-test.true
    (step c.args.roots.now c.args.parents.now c.jump_once-moved.new.parents c.jump_once-moved-in-loop-root.new.parents c.loop-root.root-index c.loop-root-test.true
    (step c.args.roots.now c.args.parents.now c.loop-root.parents c.jump_once-moved.new.parents c.loop-root.root-index
    c.loop-root-test.true c.loop-root.invariant.jumped c.jump_once-moved.ensures.jumped) c.jump_once-moved-in-loop-root.ensures.jumped)

pub loop-root-preserved : goal.loop-root-preserved
loop-root-preserved c =
    let roots = c.args.roots.now in
    let old = c.args.parents.now in
    let first = c.jump_once-moved.new.parents in
    let second = c.jump_once-moved-in-loop-root.new.parents in
    let third = c.jump_once-moved-in-loop-root-2.new.parents in
    let i = c.loop-root.root-index in
    let lt = c.loop-root-test.true in
    let have = c.loop-root.invariant.jumped in
    let once = step roots old c.loop-root.parents first i lt have c.jump_once-moved.ensures.jumped in
    let twice = step roots old first second i lt once c.jump_once-moved-in-loop-root.ensures.jumped in
    let last = c.jump_once-moved-in-loop-root-2.ensures in
    record {
      jumped = step roots old second third i lt twice last.jumped;
      lower = λ moves. elim (either c.loop-root.moved c.jump_once-moved-in-loop-root-2.result moves) [
        | inl before ↦
            let lower_once = lowers roots old c.loop-root.parents first i lt have c.jump_once-moved.ensures.jumped (c.loop-root.invariant.lower before) in
            lowers roots old second third i lt twice last.jumped (lowers roots old first second i lt once c.jump_once-moved-in-loop-root.ensures.jumped lower_once)
        | inr here ↦ subst (LowersRanks roots old) (sym last.jumped)
            (lower_by_last roots old second (get_or roots i 0) (Contains-get_or roots i 0 lt) twice (λ settled. let wrong = last.settled.1 settled in absurd (cc)))
      ];
      settled = λ rests.
          let (before, here) = neither c.loop-root.moved c.jump_once-moved-in-loop-root-2.result rests in
          let settled_once = still roots old c.loop-root.parents first i lt have c.jump_once-moved.ensures.jumped (c.loop-root.invariant.settled before) in
          let settled_twice = still roots old first second i lt once c.jump_once-moved-in-loop-root.ensures.jumped settled_once in
          subst (λ ps. (j : ℕ) → j < i + 1 → IsSettled ps (get_or roots j 0)) (sym last.jumped) (settled_more roots second i settled_twice (last.settled.0 here));
    }

pub returns-clause-descend : goal.returns-clause-descend
returns-clause-descend c = λ rank down. (c.loop-root.invariant.jumped.descend rank down).0

pub returns-clause-settled : goal.returns-clause-settled
returns-clause-settled c = λ rests. at_contained (IsSettled c.loop-root.parents) c.args.roots.now c.loop-root.root-index c.loop-root-test.false (c.loop-root.invariant.settled rests)
