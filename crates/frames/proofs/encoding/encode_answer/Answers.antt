use Rattle.std.proofs.Common.{◌≡◌, ◌++◌, ◌+◌, ◌*◌, List, ℕ, length, ap, ◌∙◌, rules}
use Rattle.std.specs.List.{flat_map}
use Rattle.links.specs.Offers.{Offer}
use Rattle.links.specs.AnswerValue.{AnswerValue}
use Rattle.frames.specs.FrameText.{offer_text}
use Rattle.frames.proofs.Written.{put_behind}
use Rattle.frames.proofs.encoding.encode_answer.Goals as goal

pub returns : goal.returns
returns g c =
    let head : c.extend_from_slice.new.self.items ≡ c.answer_head.result = search rules in
    let count : ℕ = 8 * length c.pairs-offers.result.now in
    let long : c.resize.new.self.len ≡ 17 + length c.put_offers.new.bytes = search rules in
    let offers : c.pairs-offers.result.now ≡ c.args.answer.now.offers = c.pairs-offers.ensures.pairs ∙ ap (λ (a : AnswerValue). a.offers) c.answer.view_is in
    rw c.deref_mut.ensures.value (put_behind 17 c.answer_head.result c.extend_from_slice.new.self.items _ c.resize.new.self.items c.put_offers.new.bytes _ _
    (17 + count) c.resize.new.self.len (search rules) head c.in_ok-resize.ensures.items (search rules) long)
    ∙ ap (λ (t : List ℕ). c.answer_head.result ++ t) c.put_offers.ensures.put
    ∙ ap (λ (os : List Offer). c.answer_head.result ++ flat_map offer_text os) offers
    ∙ c.answer_head.ensures
