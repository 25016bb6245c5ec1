use Rattle.std.proofs.Common.{ℕ, ◌+◌, length, take, drop, sym, ap, ◌∙◌}
use Rattle.frames.proofs.Spelled.{pushed_one, no_link_behind, whole_behind}
use Rattle.frames.proofs.items.push_links.Goals as goal

pub returns-in-None-clause-refused : goal.returns-in-None-clause-refused
returns-in-None-clause-refused g c = λ no.
    let (more, is, read, fit) = c.loop-rest.invariant.pushed in
    let rest = c.loop-rest.rest.now in
    no_link_behind c.args.spelling more c.args.bytes.now rest c.split_at.result.0.now c.split_at.result.1.now read
    (c.split_at.ensures.front ∙ ap (λ (k : ℕ). take k rest) c.size.ensures) (c.split_at.ensures.back ∙ ap (λ (k : ℕ). drop k rest) c.size.ensures)
    (c.split_at.ensures.front_len ∙ c.size.ensures) c.in-None.ensures.none

pub loop-rest-preserved : goal.loop-rest-preserved
loop-rest-preserved g c =
    let (more, is, read, fit) = c.loop-rest.invariant.pushed in
    let rest = c.loop-rest.rest.now in
    let link = c.in-Some.link in
    let one = pushed_one c.args.spelling c.push.new.self.items c.loop-rest.links.items c.args.links.now.items more link c.args.bytes.now rest c.split_at.result.0.now c.split_at.result.1.now
    c.in_ok-push-in-Some.ensures.items is read fit
    (c.split_at.ensures.front ∙ ap (λ (k : ℕ). take k rest) c.size.ensures) (c.split_at.ensures.back ∙ ap (λ (k : ℕ). drop k rest) c.size.ensures)
    c.in-Some.ensures.found c.in-Some.ensures.fits in
    record {
      pushed = (_, one.0, one.1, one.2);
      whole = whole_behind c.args.spelling (length c.split_at.result.1.now) (length rest) c.loop-rest.invariant.whole
          (ap (λ (k : ℕ). length c.split_at.result.1.now + k) (sym c.size.ensures) ∙ c.split_at.ensures.back_len);
    }
