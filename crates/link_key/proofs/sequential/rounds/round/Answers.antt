use Rattle.std.proofs.Common.{◌≡◌, ℕ, ◌+◌, ◌++◌, List, take, drop, length, sym, ap, ◌∙◌, subst, arith}
use Rattle.std.proofs.lemmas.List.{length-take}
use Rattle.link_key.specs.declared.sequential.rounds.Open.{Open}
use Rattle.link_key.specs.Rounds.{IsStage}
use Rattle.links.specs.Labels.{renamed}
use Rattle.link_key.specs.OpenLinks.{links_of, marked, AreOpenOf, AreBetween, HaveNumbers, MarkTouched}
use Rattle.link_key.proofs.Keeping.{kept_of, kept_same}
use Rattle.link_key.proofs.Opened.{left_sorted, left_between, left_labelled, left_in, left_if}
use Rattle.links.proofs.InPlace.{written}
use Rattle.link_key.proofs.Stages.{round_stage}
use Rattle.link_key.proofs.sequential.rounds.round.Given as given
use Rattle.link_key.proofs.sequential.rounds.round.Goals as goal

len_of : (g : given.Over) (c : goal.After-numbers-3-1 g) → length c.number_rest-count.new.numbers ≡ c.args.count + 1
len_of g c = search arith

whole_of : (g : given.Over) (c : goal.After-numbers-3-1 g)
    → take c.in_ok-numbers.numbers.len (c.number_rest-count.new.numbers ++ drop (length c.number_rest-count.new.numbers) c.in_ok-numbers.numbers.items) ≡ c.number_rest-count.new.numbers
whole_of g c = search (arith, written)

left_of : (g : given.Over) (c : goal.After-numbers-3-1 g) → c.truncate.new.self.items ≡ kept_of c.number_rest-count.new.numbers c.args.candidates.now.items
left_of g c = search (arith, written, kept_of, kept_same)

pub returns-clause-ends : goal.returns-clause-ends
returns-clause-ends g c =
    subst (AreBetween (c.number_rest-count.result + 1) (length c.mark_first_touches-last.new.marks)) (sym (left_of g c))
    (subst (λ n. AreBetween (c.number_rest-count.result + 1) n (kept_of c.number_rest-count.new.numbers c.args.candidates.now.items)) (sym c.mark_first_touches-last.auto.marks)
    (left_between c.number_rest-count.new.numbers c.args.candidates.now.items c.requires.ends (len_of g c) c.number_rest-count.ensures.numbers))

pub returns-clause-fewer : goal.returns-clause-fewer
returns-clause-fewer g c some = search (arith, written, length-take)

pub returns-clause-labelled : goal.returns-clause-labelled
returns-clause-labelled g c d links labels are =
    let candidates = c.args.candidates.now.items in
    let numbers = c.number_rest-count.new.numbers in
    subst (λ (table : List ℕ). AreOpenOf (renamed table labels) d links c.truncate.new.self.items) (sym (whole_of g c))
    (subst (AreOpenOf (renamed numbers labels) d links) (sym (left_of g c)) (left_sorted numbers candidates d links are.0, left_labelled numbers candidates labels d links are.1))

pub returns-clause-stage : goal.returns-clause-stage
returns-clause-stage g c d all links later before labels fits up_to are stage =
    let candidates = c.args.candidates.now.items in
    let numbers = c.number_rest-count.new.numbers in
    let after = before ++ marked links c.mark_first_touches-last.new.marks in
    let touched : MarkTouched candidates c.args.marks.now c.mark_first_touches-last.new.numbers c.mark_first_touches-last.new.marks =
    subst (λ (xs : List Open). MarkTouched xs c.args.marks.now c.mark_first_touches-last.new.numbers c.mark_first_touches-last.new.marks) c.as_mut_slice.ensures.value
    c.mark_first_touches-last.ensures.touched in
    let next = round_stage up_to (touched d links before labels fits are) c.number_rest-count.ensures.filled (len_of g c) c.number_rest-count.ensures.numbers
    (left_in numbers candidates labels d links are.1) (left_if numbers candidates labels d links are.1) stage in
    subst (λ (table : List ℕ). IsStage all (links_of d links c.truncate.new.self.items) later (renamed table labels) after) (sym (whole_of g c))
    (subst (λ (xs : List Open). IsStage all (links_of d links xs) later (renamed numbers labels) after) (sym (left_of g c)) next)
