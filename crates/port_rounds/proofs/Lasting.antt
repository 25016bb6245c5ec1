-- What stays true from pass to pass.
use Rattle.std.specs.List.{AllZip}
use Rattle.std.proofs.Common.{◌≡◌, ◌≤◌, Bool, true, false, List, get_or, sym, subst, ◌∙◌, arith}
use Rattle.std.specs.Prelude.{All}
use Rattle.round_core.specs.BookValue.{BookValue}
use Rattle.round_theory.specs.declared.port.Port as Port
use Rattle.round_theory.specs.Ports.{PortState}
use Rattle.port_rounds.specs.Lanes.{LaneState, IsIdle, count_if}
use Rattle.port_rounds.specs.Bounds.{IsAskable, HasRoomForPass, HasRoomForRound}
use Rattle.port_rounds.specs.Seating.{GainsRoom}
use Rattle.port_rounds.specs.Passes.{RunsPasses}
use Rattle.port_rounds.proofs.Eaches.{each_at, each_length, each_map}
use Rattle.port_rounds.proofs.Passing.{SamePort, heard_same, askable_still}

pub room_same : {P : Type 0} (xs ys : List (LaneState P)) → AllZip GainsRoom xs ys → AllZip SamePort xs ys
room_same xs ys p = each_map GainsRoom SamePort (λ x y r. record { port = r.port }) xs ys p

pub room_idle : {P : Type 0} (xs ys : List (LaneState P)) → AllZip GainsRoom xs ys → All IsIdle xs → All IsIdle ys
room_idle xs ys p a i d b =
    let l = each_length GainsRoom xs ys p in
    let r = each_at GainsRoom xs ys p i d (omega arith) in
    let k = a i d (omega arith) in
    record { no_seat = r.seat ∙ k.no_seat; none_kept = r.kept ∙ k.none_kept }

pub same_bound : {P : Type 0} (state : P → PortState) (value : BookValue) (xs ys : List (LaneState P)) → AllZip SamePort xs ys
    → All (λ (l : LaneState P). HasRoomForPass state value l.port) xs → All (λ (l : LaneState P). HasRoomForPass state value l.port) ys
same_bound state value xs ys p a i d b =
    let l = each_length SamePort xs ys p in
    let r = (each_at SamePort xs ys p i d (omega arith)).port in
    let k = a i d (omega arith) in
    subst (λ q. HasRoomForPass state value q) (sym r) k

pub one_at_most : (b : Bool) → count_if b ≤ 1
one_at_most a1 = search arith

module _ {P A : Type 0} (port : Port.Ghosts P A) where
  pub round_stays : (p q : BookValue) (xs ys : List (LaneState P)) → RunsPasses port p q xs ys → IsAskable p → IsAskable q
  round_stays p q xs ys u r = askable_still p q (heard_same p q u.answers u.value) r

  -- if a port's count can rise enough for a round at its start, it can still do so for each of the round's passes
  pub bound_stays : (p q : BookValue) (xs ys : List (LaneState P)) → RunsPasses port p q xs ys → IsAskable p
      → All (λ (l : LaneState P). HasRoomForRound port.state p l.port) xs → All (λ (l : LaneState P). HasRoomForPass port.state q l.port) ys
  bound_stays p q xs ys u r wide i d b =
      let n = u.same_lanes in
      let v = u.each i d (omega arith) in
      let w = wide i d (omega arith) in
      let cut : q.cut ≡ p.cut = (heard_same p q u.answers u.value).cut in
      let few = u.few i in
      let m = u.missed in
      let asks = v.asks in
      let most = one_at_most (port.state (get_or xs i d).port).is_open in
      let count = w.count in
      record { cut = v.cut ∙ (w.cut ∙ sym cut); count = rw cut (omega arith) }
