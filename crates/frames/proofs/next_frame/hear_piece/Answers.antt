use Rattle.std.proofs.Common.{◌≡◌, ◌≢◌, ℕ, ◌+◌, ◌-◌, ◌/◌, ◌++◌, List, length, take, drop, sym, ap, subst, ◌∙◌, All, arith, rules}
use Rattle.std.specs.Prelude.{IsTrue}
use Rattle.std.specs.List.{flat_map}
use Rattle.frames.specs.FrameText.{u32_text}
use Rattle.frames.specs.Lawful.{IsU32}
use Rattle.frames.proofs.NextFrames.{same_more, others_here, first_fit, other_fit, pushed_fit}
use Rattle.frames.proofs.next_frame.hear_piece.Goals as goal

pub returns-then-spells-clause-heard : goal.returns-then-spells-clause-heard
returns-then-spells-clause-heard g c = search (arith, same_more)

pub returns-then-spells-clause-fit : goal.returns-then-spells-clause-fit
returns-then-spells-clause-fit g c = search (arith, first_fit)

pub returns-in-Some-clause-fit : goal.returns-in-Some-clause-fit
returns-in-Some-clause-fit g c = search (arith, pushed_fit)

pub returns-in_ok-push_numbers-in-None-clause-fit : goal.returns-in_ok-push_numbers-in-None-clause-fit
returns-in_ok-push_numbers-in-None-clause-fit g c = search (arith, other_fit, first_fit)

pub returns-in_ok-push_numbers-in-None-clause-others : goal.returns-in_ok-push_numbers-in-None-clause-others
returns-in_ok-push_numbers-in-None-clause-others g c =
    let last = c.args.last.now in
    let came = c.args.came in
    let k = length c.args.piece.now / 4 in
    let p = c.in_ok-push_numbers-in-None.ensures in
    let begun : c.extend_from_slice.new.self.items ≡ take came last = search rules in
    let slice : came + k - came ≡ k = omega arith in
    let other : flat_map u32_text (take k (drop came last)) ≢ c.args.piece.now =
    λ same.
    (let t : IsTrue c.spells.result = c.spells.ensures.1 (subst (λ (n : ℕ). flat_map u32_text (take n (drop came last)) ≡ c.args.piece.now) (sym slice) same) in
    cc) in
    others_here last p.0 c.push_numbers-in-None.new.numbers.items c.args.piece.now came k p.2 other (p.1 ∙ ap (λ (ns : List ℕ). ns ++ p.0) begun)
