use Rattle.std.proofs.Common.{rules, ◌≡◌, ℕ, ◌+◌, length, get_or, refl, ap, ap₂, ◌∙◌, inl, inr, arith}
use Rattle.std.proofs.lemmas.Bool.{cases_lt}
use Rattle.std.proofs.lemmas.List.{get_or_push, get_or_append_left, get_or_default}
use Rattle.links.specs.declared.links.Link.{Link}
use Rattle.link_key.specs.OpenLinks.{with_end_labels}
use Rattle.link_key.proofs.sequential.rounds.open_vertices.Goals as goal

pub loop-link-init : goal.loop-link-init
loop-link-init g c = record { rank = refl; len = ap length c.in_ok-candidates.ensures.items; count = search rules; room = search rules; each = λ k o d lt. absurd (omega (arith, lt)) }

pub loop-link-preserved : goal.loop-link-preserved
loop-link-preserved g c = search (arith, ap₂, get_or_default, cases_lt, get_or_append_left, get_or_push)

pub returns : goal.returns
returns g c = search arith
