-- What was sent and got over lines whose wires stayed open.
use Rattle.std.proofs.Common.{◌≡◌, ◌≢◌, ℕ, zero, suc, ◌<◌, ◌≤◌, Bool, true, false, List, [], ◌∷◌, length, get_or, refl, sym, ap, subst, ◌∙◌, arith}
use Rattle.std.specs.Prelude.{Contains, Option, sum_by}
use Rattle.std.proofs.lemmas.List.{append-nil, length-map, get_or-map}
use Rattle.std.proofs.lemmas.List.Elements.{Contains-get_or}
use Rattle.std.proofs.lemmas.List.Sums.{sum_by-cons}
use Rattle.links.specs.declared.links.Link.{Link}
use Rattle.links.specs.AnswerValue.{AnswerValue}
use Rattle.worker_replies.specs.Serving.{asks_in}
use Rattle.wires.specs.declared.line.Line as Line
use Rattle.round_theory.specs.Exchanges.{Exchange, answers_of}
use Rattle.wires.specs.Clients.{seen_client}
use Rattle.wires.specs.Wires.{WireState, port_of, IsSoundWire}
use Rattle.round_theory.specs.declared.fault.PortFault.{PortFault}
use Rattle.round_theory.specs.declared.fault.PortFault.TheVariants.{Closed}
use Rattle.wires.proofs.Asking.{asks_made}
use Rattle.wires.proofs.Wiring.{faultless_open}
use Rattle.plain_run.specs.declared.report.Report.{Report}
use Rattle.port_rounds.specs.Lanes.{LaneState, count_if, ask_count, open_count}
use Rattle.forest_run.specs.WiredLines.{AreFresh, FindsOverLines, Transcript, HasTranscript, HaveTranscripts}
use Rattle.round_theory.specs.Offers.{Names}
use Rattle.round_core.specs.BookValue.{hearing_of}
use Rattle.port_rounds.specs.Asks.{answered}
use Rattle.port_rounds.proofs.Lasting.{one_at_most}
use Rattle.port_rounds.proofs.Running.{lane_at}
use Rattle.forest_run.proofs.NewWires.{new_sound}

-- ---- lists

-- a list of what exists at each index
choose : {X : Type 0} (n : ℕ) (R : ℕ → X → Type 0) → ((i : ℕ) → i < n → (x : X) × R i x) → (xs : List X) × (length xs ≡ n) × ((i : ℕ) (d : X) → i < n → R i (get_or xs i d))
choose {X = X} zero R some = ([], refl, λ i d b. absurd (omega arith))
choose {X = X} (suc n) R some =
    let first = some 0 (omega arith) in
    let rest = choose n (λ i x. R (suc i) x) (λ i b. some (suc i) (omega arith)) in
    (first.0 ∷ rest.0, ap suc rest.1, each first.0 rest.0 first.1 rest.2)
  where
    each : (x : X) (xs : List X) → R 0 x → ((i : ℕ) (d : X) → i < n → R (suc i) (get_or xs i d)) → (i : ℕ) (d : X) → i < suc n → R i (get_or (x ∷ xs) i d)
    each x xs here others zero d b = here
    each x xs here others (suc i) d b = others i d (omega arith)

same_sums : {X Y : Type 0} (f : X → ℕ) (g : Y → ℕ) (xs : List X) (ys : List Y) → length xs ≡ length ys
    → ((i : ℕ) (d : X) (e : Y) → i < length xs → f (get_or xs i d) ≡ g (get_or ys i e)) → sum_by f xs ≡ sum_by g ys
same_sums f g [] [] same each = refl
same_sums f g [] (y ∷ ys) same each = absurd (omega (arith, same))
same_sums f g (x ∷ xs) [] same each = absurd (omega (arith, same))
same_sums f g (x ∷ xs) (y ∷ ys) same each =
    omega (arith, sum_by-cons f x xs, sum_by-cons g y ys, each 0 x y (omega arith), same_sums f g xs ys (omega (arith, same)) (λ i d e b. each (suc i) d e (omega arith)))

-- the exchange to which an answer belongs
exchange_with : (exchanges : List Exchange) (t : AnswerValue) → Contains (answers_of exchanges) t → (e : Exchange) × Contains exchanges e × (e.answer ≡ t)
exchange_with [] t h = absurd (omega (arith, h.1))
exchange_with (e ∷ exchanges) t (zero, b, is) = (e, (0, omega arith, refl), is)
exchange_with (e ∷ exchanges) t (suc k, b, is) = (let r = exchange_with exchanges t (k, omega arith, is) in (r.0, (suc r.1.0, (let q = r.1.1 in omega arith), r.1.2), r.2))

is_one : (b : Bool) → count_if b ≡ 1 → b ≡ true
is_one a1 a2 = search arith

-- if as many ports are open as there are, each is open
each_open : {P : Type 0} (is : P → Bool) (xs : List P) → length xs ≤ sum_by (λ x. count_if (is x)) xs → (i : ℕ) (d : P) → i < length xs → is (get_or xs i d) ≡ true
each_open {P = P} is [] many i d b = absurd (omega arith)
each_open {P = P} is (x ∷ xs) many zero d b =
    is_one (is x) (omega (arith, many, sum_by-cons (λ x. count_if (is x)) x xs, one_at_most (is x), few is xs))
  where
    few : (is : P → Bool) (xs : List P) → sum_by (λ x. count_if (is x)) xs ≤ length xs
    few is [] = omega arith
    few is (x ∷ xs) = omega (arith, sum_by-cons (λ x. count_if (is x)) x xs, one_at_most (is x), few is xs)
each_open {P = P} is (x ∷ xs) many (suc i) d b =
    each_open is xs (omega (arith, many, sum_by-cons (λ x. count_if (is x)) x xs, one_at_most (is x))) i d (omega arith)

-- ---- the transcripts of a run

module _ {L A : Type 0} (over : Line.Ghosts L) (n : ℕ) (cut : List (List Link)) (before after : List L) (forest : List Link) (report : Report)
    (solved : FindsOverLines A over n cut before after forest report) where
  -- what was sent and got over the line at an index, and how often it was asked
  record IsTranscriptAt (i : ℕ) (said : Transcript) : Type 0 where
    pub each : (line : L) → HasTranscript cut i (over.state (get_or after i line)) said
    pub answers : solved.went.went.rounds.answers_at i ≡ answers_of said.1
    pub asks : (lane : LaneState (WireState L)) → asks_in said.0 ≡ (port_of (get_or solved.ended i lane).port).asks

  module _ (scanned : report.alone ≡ 0) (still : open_count port_of solved.ended ≡ length before) (fresh : AreFresh over.state before) where
    number : length solved.ended ≡ length before
    number = solved.went.went.rounds.ports.same_lanes ∙ solved.new.number

    transcript_at : (i : ℕ) → i < length before → (said : Transcript) × IsTranscriptAt i said
    transcript_at i within =
        let rounds = solved.went.went.rounds in
        let d : LaneState (WireState L) = lane_at solved.ended i (omega (arith, number)) in
        let line : L = d.port.client.line in
        let first = get_or solved.lanes i d in
        let last = get_or solved.ended i d in
        let went = rounds.ports.each i d (omega (arith, solved.new.number)) in
        let new = solved.new.each i line d within in
        let news = fresh i line within in
        let opened : last.port.is_open ≡ true = each_open (λ (lane : LaneState (WireState L)). lane.port.is_open) solved.ended (omega (arith, still, number)) i d (omega (arith, number)) in
        let none : answered went.exchanges went.refused ≡ went.exchanges =
        ap (λ (o : Option Exchange). answered went.exchanges o) (went.opened opened).2 ∙ append-nil went.exchanges in
        let sound : IsSoundWire over.state last.port (over.state (get_or before i line)).ends went.exchanges =
        subst (λ (es : List Exchange). IsSoundWire over.state last.port (over.state (get_or before i line)).ends es) none
        (went.sound_is (over.state (get_or before i line)).ends [] (new_sound over (get_or before i line) cut i first.port new news.0 news.1)) in
        let (said, faultless) = faultless_open over.state (λ (fault : PortFault). fault ≢ Closed) last.port (over.state (get_or before i line)).ends went.exchanges opened sound in
        let step = faultless.in_step in
        let one_open : count_if last.port.is_open ≡ 1 = ap count_if opened in
        let one_new : count_if first.port.is_open ≡ 1 = ap count_if new.opened in
        let many : length (rounds.answers_at i) ≡ length went.exchanges = ap (λ ts. length ts) went.kept_are ∙ length-map went.exchanges (λ (e : Exchange). e.answer) in
        let asks : asks_in said ≡ last.port.asks = omega (arith, asks_made (seen_client over.state last.port.client) said went.exchanges step, many, went.asks, one_open, one_new, new.asks) in
        let out : (line' : L) → get_or after i line' ≡ last.port.client.line =
        λ line'. ap (λ ls. get_or ls i line') solved.lines_are ∙ get_or-map (λ (lane : LaneState (WireState L)). lane.port.client.line) solved.ended i d line' (omega (arith, number)) in (
          (said, went.exchanges),
          record {
            each = λ line'. record {
              client = seen_client over.state last.port.client;
              worker_is = went.worker
                  ∙ new.worker_is;
              line_is = ap over.state (sym (out line'));
              cut_is = went.cut ∙ new.cut_is;
              in_step = step;
            };
            answers = went.kept_are;
            asks = λ lane. asks ∙ ap (λ (l : LaneState (WireState L)). l.port.asks) (same_place solved.ended i d lane (omega (arith, number)));
          },
        )
      where
        same_place : {X : Type 0} (xs : List X) (i : ℕ) (d e : X) → i < length xs → get_or xs i d ≡ get_or xs i e
        same_place [] i d e b = absurd (omega arith)
        same_place (x ∷ xs) zero d e b = refl
        same_place (x ∷ xs) (suc i) d e b = same_place xs i d e (omega arith)

    none_asked : (lanes : List (LaneState (WireState L))) → ((i : ℕ) (d : LaneState (WireState L)) → i < length lanes → (get_or lanes i d).port.asks ≡ 0) → ask_count port_of lanes ≡ 0
    none_asked [] none = refl
    none_asked (lane ∷ lanes) none =
        omega (arith, sum_by-cons (λ (l : LaneState (WireState L)). (port_of l.port).asks) lane lanes, none 0 lane (omega arith), none_asked lanes (λ i d b. none (suc i) d (omega arith)))

    pub have_transcripts : HaveTranscripts over.state cut forest report.asked after
    have_transcripts =
        let (transcripts, many, each) = choose (length before) IsTranscriptAt transcript_at in
        let outs : length after ≡ length before = ap (λ ls. length ls) solved.lines_are ∙ (length-map solved.ended (λ (lane : LaneState (WireState L)). lane.port.client.line) ∙ number) in
        let start = none_asked solved.lanes (λ i d b. (solved.new.each i d.port.client.line d (omega (arith, solved.new.number))).asks) in
        let sums : sum_by (λ (said : Transcript). asks_in said.0) transcripts ≡ ask_count port_of solved.ended =
        same_sums (λ (said : Transcript). asks_in said.0) (λ (lane : LaneState (WireState L)). (port_of lane.port).asks) transcripts solved.ended (many ∙ sym number)
        (λ i d e b. (each i d (omega (arith, many))).asks e) in
        record {
          transcripts = transcripts;
          number = many ∙ sym outs;
          each = λ worker line said b. (each worker said (omega (arith, outs))).each line;
          asks = omega (arith, sums, start, solved.went.asked);
          named = λ l l_in.
              let (answer, given, names) = solved.went.named scanned l l_in in
              let i : ℕ = given.0 in
              let within : i < length before = (let b = given.1 in omega (arith, solved.new.number)) in
              let d : Transcript = ([], []) in
              let said : Transcript = get_or transcripts i d in
              let (exchange, there, is) = exchange_with said.1 answer (subst (λ (ts : List AnswerValue). Contains ts answer) (each i d within).answers given.2) in (
                said,
                exchange,
                Contains-get_or transcripts i d (omega (arith, many)),
                there,
                subst (λ (t : AnswerValue). Names (hearing_of cut t) l) (sym is) names,
              );
        }
