-- Without loops, there are as many edges as arcs.
use Rattle.std.proofs.Common.{◌≡◌, ◌≢◌, suc, not, cond, List, [], ◌∷◌, length, filter, refl, sym, ap, ◌∙◌}
use Rattle.std.proofs.lemmas.Bool.{ne_eqb}
use Rattle.std.proofs.lemmas.List.{length-map}
use Rattle.std.proofs.lemmas.List.Elements.{All-head, All-tail}
use Rattle.links.specs.Link.{AreLinksOf, key_of, arc_key, is_no_loop}
use Rattle.links.specs.declared.links.Link.{Link}
use Rattle.caller_forests.specs.Links.{arc_of, arcs_of, HaveNoLoop}
use Rattle.caller_forests.specs.declared.given.GivenLink.{GivenLink}

all_stay : (given : List GivenLink) → HaveNoLoop given → length (filter is_no_loop (arcs_of given)) ≡ length given
all_stay [] none = refl
all_stay (l ∷ given) none =
    ap (λ b. length (cond (not b) (arc_of l ∷ filter is_no_loop (arcs_of given)) (filter is_no_loop (arcs_of given)))) (ne_eqb l.low l.high (All-head (λ (m : GivenLink). m.low ≢ m.high) l given none))
    ∙ ap suc (all_stay given (All-tail (λ (m : GivenLink). m.low ≢ m.high) l given none))

pub as_many : (given : List GivenLink) (links : List Link) → HaveNoLoop given → AreLinksOf (arcs_of given) links → length links ≡ length given
as_many given links none are =
    sym (length-map links key_of) ∙ ap length are ∙ length-map (filter is_no_loop (arcs_of given)) arc_key ∙ all_stay given none
