use Rattle.std.proofs.Common.{◌≡◌, ℕ, ◌<◌, List, length, sym, ap, ap₂, ◌∙◌, subst, inl, inr, arith}
use Rattle.std.proofs.lemmas.Bool.{cases_lt}
use Rattle.std.proofs.lemmas.Bool.Decides.{nat_tests}
use Rattle.link_key.specs.declared.sequential.rounds.Open.{Open}
use Rattle.links.specs.Labels.{renamed}
use Rattle.link_key.specs.OpenLinks.{LeadsOn}
use Rattle.link_key.proofs.Composing.{stay_open, lead_on}
use Rattle.link_key.proofs.Opened.{none_left, renamed_numbers}
use Rattle.links.proofs.InPlace.{written}
use Rattle.link_key.proofs.sequential.rounds.join_components.Goals as goal

-- no links are left, or fewer than before
shorter : (now before : ℕ) → 0 < before → (0 < now → now < before) → now < before
shorter now before some fewer = search (arith, cases_lt)

pub loop-alloc-init : goal.loop-alloc-init
loop-alloc-init g c = search arith

pub round-requires-in-loop-alloc-clause-few : goal.round-requires-in-loop-alloc-clause-few
round-requires-in-loop-alloc-clause-few g c = let few = c.loop-alloc.invariant.few in let most = c.requires.few in omega (arith, few, most)

pub loop-alloc-smaller : goal.loop-alloc-smaller
loop-alloc-smaller g c = search (arith, nat_tests, shorter)

pub loop-alloc-preserved : goal.loop-alloc-preserved
loop-alloc-preserved g c =
    let l = c.loop-alloc in
    let numbers = l.numbers in
    let further = c.in_ok-further.further.numbers in
    let value = c.as_mut_slice.ensures.value in
    let whole = written numbers.len c.rename.new.labels numbers.items (c.rename.auto.labels ∙ ap length value) numbers.ok.0 in
    let is : c.rename.new.labels ≡ renamed further.items numbers.items = c.rename.ensures ∙ ap₂ renamed c.as_slice.ensures.value value in
    let done = c.in_ok-further.ensures in
    rw (whole ∙ is) (record {
      few = let few = l.invariant.few in let fewer = done.few in omega (arith, few, fewer);
      len = sym (ap length is) ∙ c.rename.auto.labels ∙ ap length value ∙ l.invariant.len;
      numbers = renamed_numbers l.invariant.numbers done.len done.few done.numbers;
      ends = done.ends;
      marks = c.round-in-loop-alloc.auto.marks ∙ l.invariant.marks;
      labelled = stay_open c.args.candidates.items l.candidates.items c.round-in-loop-alloc.new.candidates.items numbers.items done.numbers l.invariant.labelled done.labelled;
      stage = lead_on c.args.candidates.items l.candidates.items c.round-in-loop-alloc.new.candidates.items numbers.items done.numbers c.args.marks.now l.marks
          c.round-in-loop-alloc.new.marks l.invariant.marks l.invariant.len l.invariant.numbers l.invariant.labelled l.invariant.stage done.stage;
    })

pub returns-clause-stage : goal.returns-clause-stage
returns-clause-stage g c =
    let l = c.loop-alloc in
    let empty = c.is_empty.ensures in
    let is = c.loop-alloc-test.false in
    let len = l.candidates.ok.0 in
    let none : length l.candidates.items ≡ 0 = grind (arith, nat_tests, empty, is, len) in
    subst (λ (xs : List Open). LeadsOn c.args.count c.args.candidates.items c.args.marks.now l.numbers.items xs l.marks) (none_left l.candidates.items none) l.invariant.stage
