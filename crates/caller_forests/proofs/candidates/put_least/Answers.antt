use mir.Val.{to_z, of_z}
use Rattle.std.proofs.Common.{◌+◌, get_or, min, sym, ap, ap₂, ◌∙◌, subst, arith, rules}
use Rattle.std.specs.Int.{w128}
use Rattle.std.specs.Int.Signed.{lt_z}
use Rattle.std.proofs.lemmas.Int.{ints, to_z-of_z}
use Rattle.std.proofs.lemmas.List.{get_or_read}
use Rattle.links.specs.WideKey.{wide_key}
use Rattle.links.specs.declared.links.Link.{Link}
use Rattle.caller_forests.specs.declared.candidates.Candidate.{Candidate}
use Rattle.caller_forests.proofs.LeastPlaces.{LeastBefore, other_more, none_left, link_past, candidate_past, no_link, least_more}
use Rattle.caller_forests.proofs.candidates.put_least.Goals as goal
use Rattle.caller_forests.proofs.candidates.put_least.Goals.{then-key-other-2, else-key-other-2}

pub loop-i-preserved-then-key-other : goal.loop-i-preserved-then-key-other
loop-i-preserved-then-key-other c =
    let l = c.loop-i in
    let links = c.args.links.now in
    let found = c.args.found.now in
    let x = c.index-links-i.result in
    let y = c.index-found-j.result in
    let i_in = c.loop-i-test.true in
    let j_in = c.if-j-found.true in
    let key = c.wide-key.ensures in
    let at_j = λ (e : Candidate). sym (get_or_read found l.j y j_in c.index-found-j.is e) in
    let other = c.wide-other.ensures ∙ ap (λ (c' : Candidate). wide_key c'.link) (at_j y) in
    let key_word = to_z-of_z w128 c.wide-key.result (search rules) in
    let other_word = to_z-of_z w128 c.wide-other.result (search rules) in
    let less = c.if-key-other.true in
    let candidates = l.invariant.candidates in
    record {
      links = omega (arith, i_in);
      candidates = candidates;
      behind = link_past links found l.i l.j x y i_in j_in (λ d. sym (get_or_read links l.i x i_in c.index-links-i.is d)) at_j
          l.invariant.behind c.requires.ordered (omega (arith, ints, key, other, less, key_word, other_word));
      least = l.invariant.least;
    }

pub loop-i-preserved : goal.loop-i-preserved
loop-i-preserved c =
    let l = c.loop-i in
    let links = c.args.links.now in
    let found = c.args.found.now in
    let x = c.index-links-i.result in
    let y = c.index-found-j.result in
    let i_in = c.loop-i-test.true in
    let j_in = c.if-j-found.true in
    let key = c.wide-key.ensures in
    let at_j = λ (e : Candidate). sym (get_or_read found l.j y j_in c.index-found-j.is e) in
    let other = c.wide-other.ensures ∙ ap (λ (c' : Candidate). wide_key c'.link) (at_j y) in
    let key_word = to_z-of_z w128 c.wide-key.result (search rules) in
    let other_word = to_z-of_z w128 c.wide-other.result (search rules) in
    let no_less = c.if-key-other.false in
    let in_range = l.invariant.links in
    let at_i = λ (d : Link). sym (get_or_read links l.i x i_in c.index-links-i.is d) in
    let number = l.auto.places in
    let as_many = c.requires.number in
    record {
      links = in_range;
      candidates = omega (arith, j_in);
      behind = candidate_past links found l.i l.j x y i_in j_in at_i at_j l.invariant.behind;
      least = elim c.if-key-other-2.branch [
        | then-key-other-2 w ↦
            let z = w.index-found-j-then-key-other-2.result in
            let same = w.if-key-other-2.true in
            let at_z = λ (e : Candidate). sym (get_or_read found l.j z j_in w.index-found-j-then-key-other-2.is e) in
            let numbers = ap (to_z w128) same in
            let one = ap (λ (c' : Candidate). wide_key c'.link) (sym (at_j y) ∙ at_z y) in
            let v = w.min.ensures ∙ ap (λ (c' : Candidate). min (get_or l.places l.i 0) c'.place) (at_z z) in
            λ t d t_in. subst (λ ps. LeastBefore found (l.j + 1) (get_or links t d) (get_or c.args.places.now t 0) (get_or ps t 0)) (sym w.places-is)
            (least_more links found l.i l.j x z i_in j_in at_i at_z l.invariant.behind c.requires.ascending
            (sym key ∙ sym key_word ∙ numbers ∙ other_word ∙ other ∙ one) c.args.places.now l.places (number ∙ as_many) w.min.result v l.invariant.least t d t_in)
        | else-key-other-2 w ↦
            let differ = w.if-key-other-2.false in
            λ t d t_in. subst (λ ps. LeastBefore found (l.j + 1) (get_or links t d) (get_or c.args.places.now t 0) (get_or ps t 0)) (sym w.places-is)
            (other_more found l.j (get_or links t d) (get_or c.args.places.now t 0) (get_or l.places t 0)
            (no_link links found l.i l.j x y i_in j_in at_i at_j l.invariant.behind c.requires.ascending
            (sym (ap₂ lt_z (key_word ∙ key) (other_word ∙ other)) ∙ no_less) (λ e. differ (ap (of_z w128) (key ∙ e ∙ sym other))) t d t_in)
            (l.invariant.least t d t_in))
      ];
    }

pub returns-else-j-found : goal.returns-else-j-found
returns-else-j-found c =
    let l = c.loop-i in
    let end = c.if-j-found.false in
    record {
      least = λ t d t_in. none_left c.args.found.now l.j (get_or c.args.links.now t d) (get_or c.args.places.now t 0) (get_or l.places t 0)
          (λ k e ge k_in same. omega (arith, end, ge, k_in)) l.invariant.candidates (l.invariant.least t d t_in);
    }

pub returns-after-loop-i : goal.returns-after-loop-i
returns-after-loop-i c =
    let l = c.loop-i in
    let end = c.loop-i-test.false in
    record {
      least = λ t d t_in. none_left c.args.found.now l.j (get_or c.args.links.now t d) (get_or c.args.places.now t 0) (get_or l.places t 0)
          (λ k e ge k_in same.
          let less = l.invariant.behind t k d e (omega (arith, end, t_in)) t_in ge k_in in
          let one = ap wide_key same in
          omega (arith, ints, less, one)) l.invariant.candidates (l.invariant.least t d t_in);
    }
