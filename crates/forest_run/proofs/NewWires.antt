-- New wires over lines, and how the lines are taken out of them again.
use Rattle.std.proofs.Common.{◌≡◌, ℕ, suc, ◌+◌, ◌<◌, ◌^◌, ◌⊎◌, inl, inr, List, [], ◌∷◌, ◌++◌, length, get_or, take, drop, sym, ap, subst, ◌∙◌, arith, append_assoc}
use Rattle.std.specs.Prelude.{All, Some, reverse}
use Rattle.std.proofs.lemmas.Bool.{cases_lt}
use Rattle.std.proofs.lemmas.List.{length-append, length-map, length-reverse, map-append, reverse-append, reverse-reverse, get_or_append_left, get_or-append-add, get_or_push, take_at}
use Rattle.std.proofs.lemmas.List.Elements.{All-push, All-pop, All-nil}
use Rattle.links.specs.declared.links.Link.{Link}
use Rattle.links.specs.AnswerValue.{AnswerValue}
use Rattle.wires.specs.declared.line.Line as Line
use Rattle.wires.specs.Lines.{LineState, HasRoom, IsFresh, HasKnownBytes}
use Rattle.wires.specs.Wires.{WireState, IsNewWire, IsFaultless, port_of, wire_port, IsHonestWire, IsSoundWire}
use Rattle.wires.proofs.Wiring.{fresh_faultless}
use Rattle.port_rounds.specs.Lanes.{LaneState, IsIdle}
use Rattle.port_rounds.specs.Asks.{answered}
use Rattle.port_rounds.specs.Runs.{PortsAnswer}
use Rattle.forest_run.specs.WiredLines.{AreServed, AreNewLanes, lines_of, AreLeftWires, FindsOverLines, RefusesOverLines}
use Rattle.port_rounds.specs.Solved.{AreHonest, FindsForest, IsSolveFault}
use Rattle.plain_run.specs.declared.report.Report.{Report}
use Rattle.round_core.specs.BookValue.{BookValue}
use Rattle.round_core.specs.declared.solver.SolveFault.{SolveFault}
use Rattle.round_core.specs.declared.solver.SolveFault.TheVariants.{Memory}
use Rattle.port_rounds.proofs.Takes.{popped}

module _ {L : Type 0} (state : L → LineState) (cut : List (List Link)) (all : List L) where
  -- lanes over the first lines; the others are left, the last one first
  pub record SomeLanes (lanes : List (LaneState (WireState L))) (left : List L) : Type 0 where
    pub split : all ≡ lines_of lanes ++ reverse left
    pub each : (worker : ℕ) (line : L) (lane : LaneState (WireState L)) → worker < length lanes
        → IsNewWire (get_or all worker line) cut worker (get_or lanes worker lane).port
    pub idle : All IsIdle lanes
    pub room : All (λ line. HasRoom (state line)) left

  pub no_lanes : (left : List L) → left ≡ reverse all → All (λ line. HasRoom (state line)) all → SomeLanes [] left
  no_lanes left e room = record {
    split = sym (reverse-reverse all) ∙ ap (λ xs. reverse xs) (sym e);
    each = λ worker line lane b. absurd (omega arith);
    idle = All-nil IsIdle;
    room = subst (λ xs. All (λ line. HasRoom (state line)) xs) (sym e) (reversed (λ line. HasRoom (state line)) all room);
  }
    where
      reversed : (P : L → Type 0) (xs : List L) → All P xs → All P (reverse xs)
      reversed P [] a = All-nil P
      reversed P (x ∷ xs) a =
          subst (λ zs. All P zs) (sym (reverse-append (x ∷ []) xs)) (All-push P (reverse xs) x (reversed P xs (λ i d b. a (suc i) d (omega arith))) (a 0 x (omega arith)))

  pub lane_more : (lanes : List (LaneState (WireState L))) (left rest : List L) (line : L) (lane : LaneState (WireState L)) → left ≡ rest ++ line ∷ []
      → IsNewWire line cut (length lanes) lane.port → IsIdle lane → SomeLanes lanes left → SomeLanes (lanes ++ lane ∷ []) rest
  lane_more lanes left rest line lane e new idle some =
      let split : all ≡ lines_of lanes ++ line ∷ reverse rest = some.split ∙ ap (λ zs. lines_of lanes ++ zs) (popped rest left line e) in
      let number : length (lines_of lanes) ≡ length lanes = length-map lanes (λ lane. lane.port.client.line) in
      record {
        split = split ∙ (sym (append_assoc (lines_of lanes) (line ∷ []) (reverse rest))
            ∙ ap (λ zs. zs ++ reverse rest) (ap (λ l. lines_of lanes ++ l ∷ []) (sym new.line_is) ∙ sym (map-append (λ lane. lane.port.client.line) lanes (lane ∷ []))));
        each = λ worker d lane' b. elim (cases_lt worker (length lanes)) [
          | inl before ↦
              subst (λ (w : WireState L). IsNewWire (get_or all worker d) cut worker w) (ap (λ l. l.port)
              (sym (get_or_append_left lanes (lane ∷ []) lane' worker before))) (some.each worker d lane' before)
          | inr past ↦
              let at : length lanes ≡ worker = omega (arith, length-append lanes (lane ∷ [])) in
              let here : get_or all worker d ≡ line = ap (λ zs. get_or zs worker d) split ∙ (ap (λ k. get_or (lines_of lanes ++ line ∷ reverse rest) k d)
              (omega (arith, number)) ∙ get_or-append-add (lines_of lanes) (line ∷ reverse rest) 0 d) in
              let there : get_or (lanes ++ lane ∷ []) worker lane' ≡ lane = get_or_push lanes lane lane' worker at in
              subst (λ (l : L). IsNewWire l cut worker (get_or (lanes ++ lane ∷ []) worker lane').port) (sym here)
              (subst (λ (x : LaneState (WireState L)). IsNewWire line cut worker x.port) (sym there) (subst (λ k. IsNewWire line cut k lane.port) at new))
        ];
        idle = All-push IsIdle lanes lane some.idle idle;
        room = (All-pop (λ l. HasRoom (state l)) left rest (Some line) e some.room).0;
      }

  -- the next line can count further, and how many lanes precede it
  pub next_room : (lanes : List (LaneState (WireState L))) (left rest : List L) (line : L) → left ≡ rest ++ line ∷ [] → SomeLanes lanes left → HasRoom (state line)
  next_room lanes left rest line e some = (All-pop (λ l. HasRoom (state l)) left rest (Some line) e some.room).1

  pub lanes_number : (lanes : List (LaneState (WireState L))) (left : List L) → SomeLanes lanes left → length lanes + length left ≡ length all
  lanes_number lanes left some = search (arith, length-append, length-map, length-reverse)

-- ---- the lines are taken out of the lanes

module _ {L : Type 0} where
  pub line_out : (all : List L) (lines : List L) (left rest : List (LaneState (WireState L))) (lane : LaneState (WireState L)) → left ≡ rest ++ lane ∷ []
      → all ≡ lines ++ lines_of (reverse left) → all ≡ (lines ++ lane.port.client.line ∷ []) ++ lines_of (reverse rest)
  line_out all lines left rest lane e split = search (arith, popped, append_assoc)

-- ---- what new wires over new lines are

module _ {L : Type 0} (over : Line.Ghosts L) where
  new_calm : (line : L) (cut : List (List Link)) (worker : ℕ) (wire : WireState L) → IsNewWire line cut worker wire → IsFresh (over.state line)
      → HasKnownBytes (over.state line) → IsFaultless over.state (over.state line).ends wire [] []
  new_calm line cut worker wire new fresh known = search (arith, fresh_faultless)

  pub new_sound : (line : L) (cut : List (List Link)) (worker : ℕ) (wire : WireState L) → IsNewWire line cut worker wire → IsFresh (over.state line)
      → HasKnownBytes (over.state line) → IsSoundWire over.state wire (over.state line).ends []
  new_sound line cut worker wire new fresh known = inl ([], new_calm line cut worker wire new fresh known)

  pub new_honest : (line : L) (cut : List (List Link)) (worker : ℕ) (wire : WireState L) → IsNewWire line cut worker wire → IsFresh (over.state line)
      → HasKnownBytes (over.state line) → over.faithful line worker
      → IsHonestWire over wire
  new_honest line cut worker wire new fresh known carries = (
    subst (λ w. over.faithful wire.client.line w) (sym new.worker_is) (subst (λ l. over.faithful l worker) (sym new.line_is) carries),
    ((over.state line).ends, [], inl ([], new_calm line cut worker wire new fresh known)),
  )

  -- over lines that are served, each wire is honest
  pub served_honest : (lines : List L) (cut : List (List Link)) (lanes : List (LaneState (WireState L))) → AreNewLanes lines cut lanes → AreServed over lines
      → AreHonest (IsHonestWire over) lanes
  served_honest lines cut lanes new served i d b =
      let within : i < length lines = (let e = new.number in omega arith) in
      let line : L = d.port.client.line in
      let fresh = served.0 i line within in
      new_honest (get_or lines i line) cut i (get_or lanes i d).port (new.each i line d within) fresh.0 fresh.1 (served.1 i line within)

-- ---- what a run asks of the lanes of new wires, and what they are after it

module _ {L : Type 0} where
  pub new_cut : (lines : List L) (cut : List (List Link)) (lanes : List (LaneState (WireState L))) → AreNewLanes lines cut lanes
      → All (λ (lane : LaneState (WireState L)). (port_of lane.port).cut ≡ cut) lanes
  new_cut lines cut lanes new k d b = (new.each k d.port.client.line d (let e = new.number in omega arith)).cut_is

  pub new_counts : (lines : List L) (cut : List (List Link)) (lanes : List (LaneState (WireState L))) → AreNewLanes lines cut lanes
      → All (λ (lane : LaneState (WireState L)). (port_of lane.port).asks < 2 ^ 63) lanes
  new_counts lines cut lanes new k d b = (let none = (new.each k d.port.client.line d (let e = new.number in omega arith)).asks in omega arith)

pub written_back : {X : Type 0} (n : ℕ) (xs ys : List X) → length ys ≡ n → take n (ys ++ drop (length ys) xs) ≡ ys
written_back n xs ys e = take_at ys (drop (length ys) xs) n e

module _ {L A : Type 0} (over : Line.Ghosts L) (n : ℕ) (cut : List (List Link)) (lines : List L) (before after : List (LaneState (WireState L))) (new : AreNewLanes lines cut before) where
  wires_went : (books : List BookValue) (answers_at : ℕ → List AnswerValue)
      → PortsAnswer (wire_port A over) books before after answers_at → AreLeftWires over lines after
  wires_went books answers_at ports =
      let number = new.number in
      λ worker line lane b.
      let went = ports.each worker lane (omega (arith, number, b)) in
      let here = new.each worker line lane b in
      record {
        worker_is = went.worker ∙ here.worker_is;
        sound = λ fresh known. (
          answered went.exchanges went.refused,
          went.sound_is (over.state (get_or lines worker line)).ends [] (new_sound over (get_or lines worker line) cut worker (get_or before worker lane).port here fresh known),
        );
        honest = λ fresh known carries.
            went.honest_is (new_honest over (get_or lines worker line) cut worker (get_or before worker lane).port here fresh known carries);
      }

  pub solve_fault : (fault : SolveFault) → IsSolveFault (wire_port A over) n cut before after fault
      → (fault ≡ Memory) ⊎ RefusesOverLines A over n cut lines fault
  solve_fault fault (inl none) = inl none
  solve_fault fault (inr refused) = inr (record {
    lanes = before;
    new = new;
    ended = after;
    refused = refused;
    wires = (let rounds = refused.went.rounds in wires_went _ rounds.answers_at rounds.ports);
  })

  pub solve_went : (forest : List Link) (report : Report) (lines' : List L) → FindsForest (wire_port A over) n cut before after forest report
      → lines' ≡ lines_of after → FindsOverLines A over n cut lines lines' forest report
  solve_went forest report lines' went out = record {
    lanes = before;
    new = new;
    ended = after;
    went = went;
    wires = (let rounds = went.went.rounds in wires_went _ rounds.answers_at rounds.ports);
    lines_are = out;
  }
