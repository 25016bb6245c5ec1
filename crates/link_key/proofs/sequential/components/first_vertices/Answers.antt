use Rattle.std.proofs.Common.{◌≤◌, get_or, ◌∙◌, arith}
use Rattle.std.proofs.lemmas.List.{length_push, length-set}
use Rattle.link_key.proofs.Firsts.{first_now, firsts_put, label_more}
use Rattle.link_key.proofs.sequential.components.first_vertices.Goals as goal

pub loop-v-preserved : goal.loop-v-preserved
loop-v-preserved g c =
    let l = c.loop-v in
    let numbers = c.args.numbers.now in
    let number = get_or numbers l.v 0 in
    let first = c.first_or-first.result in
    let few : number ≤ c.args.count = c.requires.numbers.at_most l.v in
    let len = l.invariant.len in
    let now = first_now numbers l.firsts c.args.count l.v first l.invariant.firsts l.auto.v c.loop-v-test.true few c.first_or-first.ensures.new c.first_or-first.ensures.old in
    let items = c.in_ok-push.ensures.items in
    let number_is = l.invariant.number in
    let pushed = length_push l.labels.items first in
    record {
      len = length-set l.firsts number first ∙ len;
      number = rw items (omega (arith, number_is, pushed));
      firsts = firsts_put numbers l.firsts c.args.count l.v first l.invariant.firsts (omega (arith, few, len)) now.0 now.1;
      labels = rw items (label_more numbers l.labels.items l.v first number_is l.invariant.labels now.0);
    }
