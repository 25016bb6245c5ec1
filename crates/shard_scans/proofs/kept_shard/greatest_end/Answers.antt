use Rattle.std.proofs.Common.{◌≡◌, ◌≤◌, get_or, sym, ◌∙◌, subst, inl, inr, arith}
use Rattle.std.proofs.lemmas.Bool.{cases_lt}
use Rattle.std.proofs.lemmas.List.{get_or_default}
use Rattle.links.specs.declared.links.Link.{Link}
use Rattle.shard_scans.proofs.kept_shard.greatest_end.Goals as goal

pub loop-link-preserved : goal.loop-link-preserved
loop-link-preserved c = λ n.
    let links = c.args.links.now in
    let i = c.loop-link.link-index in
    let link : Link = c.link-item.result in
    let (to, back) = c.loop-link.invariant n in (
      λ ends.
          let here : link.high ≤ n = subst (λ (l : Link). l.high ≤ n) (sym c.link-item.is) (ends i link (omega arith)) in
          omega (arith, here, to (λ k d lt. ends k d (omega (arith, lt)))),
      λ le k d lt. elim (cases_lt k i) [
        | inl less ↦ back (omega (arith, le)) k d less
        | inr later ↦
            let at : k ≡ i = omega (arith, lt, later) in
            subst (λ j. (get_or links j d).high ≤ n) (sym at)
            (subst (λ (l : Link). l.high ≤ n) (c.link-item.is ∙ get_or_default links i link d c.loop-link-test.true) (omega (arith, le)))
      ],
    )

pub returns : goal.returns
returns c = λ n.
    let (to, back) = c.loop-link.invariant n in
    (λ ends. to (λ k d lt. ends k d (omega (arith, lt))), λ le k d lt. back le k d (omega (arith, lt, c.loop-link-test.false)))
