use Rattle.std.proofs.Common.{◌*◌, ◌<◌, length, ◌%◌, ◌^◌, get_or, sym, inl, inr, subst, ◌∙◌, ap, arith}
use Rattle.std.proofs.lemmas.Bool.{cases_eq}
use Rattle.std.proofs.lemmas.List.{get_or_read}
use Rattle.links.specs.declared.links.Link.{Link}
use Rattle.caller_forests.proofs.LeastPlaces.{mark_more, bit_of}
use Rattle.caller_forests.proofs.candidates.mark.Goals as goal

pub loop-i-preserved : goal.loop-i-preserved
loop-i-preserved c k d lt =
    let l = c.loop-i in
    let links = c.args.links.now in
    let x = c.index-links-i.result in
    let i_in = c.loop-i-test.true in
    let same = l.auto.marks in
    let is = get_or_read links l.i x i_in c.index-links-i.is d in
    let low_in = subst (λ (m : Link). m.low < length c.args.marks.now) (sym is) (c.requires l.i d i_in) in
    mark_more l.marks x (get_or links k d) (1 * 2 ^ (x.high % 8) % 256) (omega (arith, low_in, same)) (bit_of (x.high % 8) (omega arith))
    (elim (cases_eq k l.i) [
      | inl here ↦ inr (ap (λ m. get_or links m d) here ∙ sym is)
      | inr earlier ↦ inl (l.invariant k d (omega (arith, lt, earlier)))
    ])
