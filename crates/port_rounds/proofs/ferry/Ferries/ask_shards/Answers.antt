use Rattle.std.proofs.Common.{◌≡◌, ◌+◌, ap, sym, subst, ◌∙◌, ◌++◌, ◌∷◌, [], arith, rules, append-nil}
use Rattle.std.proofs.lemmas.List.{map-append}
use Rattle.std.proofs.lemmas.List.Elements.{All-append}
use Rattle.std.specs.Prelude.{vec_len, vec_capacity}
use Rattle.port_rounds.specs.Asks.{Takes, IsLight, shards_of}
use Rattle.port_rounds.specs.Ferries.{first_of, AreOnWay}
use Rattle.port_rounds.proofs.AsksThen.{asks_then, one_round}
use Rattle.port_rounds.proofs.Eaches.{one}
use Rattle.port_rounds.proofs.Ways.{passed_on, passed_one, whole_way}
use Rattle.port_rounds.proofs.ferry.Ferries.ask_shards.Goals as goal
use Rattle.port_rounds.proofs.ferry.Ferries.ask_shards.Goals.{in-Some, in-None+else-not-is_open}

pub returns-then-not-is_open : goal.returns-then-not-is_open
returns-then-not-is_open g c =
    let i = c.loop-step.invariant in
    let v = c.in-None.ensures in
    let both = asks_then _ _ _ _ _ _ _ _ i.asked v.asks.asked (one_round _ _ _ i.asked.keeps v.asks.asked.keeps) in
    record {
      asked = rw append-nil at both;
      seat = (v.seat.0 ∙ i.board, v.seat.1 ∙ i.number, v.held ∙ (append-nil _ ∙ i.held));
      taken = i.taken;
      light = i.light;
      way = whole_way c.args.self.now.board.now c.args.seat.now c.first_shard-first.result c.len-shards.result c.loop-step.step (shards_of c.loop-step.kept.items)
          c.requires.ready.seat.of_board (c.args.self.now.board_is.shards ∙ sym c.len-shards.ensures.shards)
          (c.first_shard-first.ensures.first ∙ (ap (λ s. first_of s c.args.self.now.seats c.len-shards.result) c.number.ensures.number
          ∙ ap (λ k. first_of c.args.seat.now.number k c.len-shards.result) c.args.self.now.seats_are))
          i.steps i.way;
    }

pub returns : goal.returns
returns g c = search (arith, whole_way)

pub loop-step-preserved : goal.loop-step-preserved
loop-step-preserved g c = elim c.match-claim_and_ask.branch [
  | in-Some w ↦ (
      let a = w.in-Some.answer in
      let i = c.loop-step.invariant in
      let v = w.in-Some.ensures in
      let items : c.match-claim_and_ask.kept.items ≡ c.loop-step.kept.items ++ a ∷ [] = ap (λ v. v.items) w.kept-is ∙ w.push_reserved.ensures.items in
      let held : shards_of c.loop-step.kept.items ++ a.shard ∷ [] ≡ shards_of (c.loop-step.kept.items ++ a ∷ []) = sym (map-append (λ t. t.shard) c.loop-step.kept.items (a ∷ [])) in
      rw items (record {
        asked = asks_then _ _ _ _ _ _ _ _ i.asked v.asks.asked (one_round _ _ _ i.asked.keeps v.asks.asked.keeps);
        opened = v.asks.opened;
        board = v.seat.0 ∙ i.board;
        number = v.seat.1 ∙ i.number;
        held = v.held ∙ (ap (λ xs. xs ++ a.shard ∷ []) i.held ∙ held);
        taken = All-append (Takes c.args.self.now.book.now) _ _ i.taken (one (Takes c.args.self.now.book.now) a v.asks.taken);
        light = λ h. All-append (IsLight c.args.self.now.book.now) _ _ (i.light h) (one (IsLight c.args.self.now.book.now) a (v.asks.light (i.asked.honest_is h)));
        count = rw (ap vec_len w.kept-is, w.push_reserved.ensures.len) (omega arith);
        capacity = ap vec_capacity w.kept-is ∙ (w.push_reserved.ensures.capacity ∙ i.capacity);
        steps = omega (arith, c.loop-step-test.true);
        way = subst (λ xs. AreOnWay c.first_shard-first.result c.len-shards.result (c.loop-step.step + 1) xs) held
            (passed_one c.first_shard-first.result c.len-shards.result c.loop-step.step (shards_of c.loop-step.kept.items) a.shard (v.asks.of_shard ∙ c.next_shard.ensures.shard) i.way);
      }))
  | in-None+else-not-is_open w ↦ (
      let i = c.loop-step.invariant in
      let v = w.in-None.ensures in
      let items : c.match-claim_and_ask.kept.items ≡ c.loop-step.kept.items = ap (λ v. v.items) w.kept-is in
      let both = asks_then _ _ _ _ _ _ _ _ i.asked v.asks.asked (one_round _ _ _ i.asked.keeps v.asks.asked.keeps) in
      rw items (record {
        asked = rw append-nil at both;
        opened = search rules;
        board = v.seat.0 ∙ i.board;
        number = v.seat.1 ∙ i.number;
        held = v.held ∙ (append-nil _ ∙ i.held);
        taken = i.taken;
        light = i.light;
        count = rw (ap vec_len w.kept-is) (omega arith);
        capacity = ap vec_capacity w.kept-is ∙ i.capacity;
        steps = omega (arith, c.loop-step-test.true);
        way = passed_on c.first_shard-first.result c.len-shards.result c.loop-step.step (c.loop-step.step + 1) (shards_of c.loop-step.kept.items) (omega arith) i.way;
      }))
]
