-- Ports that are closed at the end of a round.
use Rattle.std.proofs.Common.{◌≡◌, ℕ, zero, suc, ◌<◌, ◌≤◌, inl, inr, Bool, true, false, List, [], ◌∷◌, length, get_or, refl, ap, sym, subst, ◌∙◌, arith}
use Rattle.std.specs.Prelude.{All, Option, Some, None}
use Rattle.std.proofs.lemmas.List.Elements.{All-contains}
use Rattle.links.specs.AnswerValue.{AnswerValue}
use Rattle.round_core.specs.BookValue.{BookValue}
use Rattle.round_theory.specs.declared.port.Port as Port
use Rattle.round_theory.specs.Ports.{PortState}
use Rattle.round_theory.specs.Exchanges.{Exchange}
use Rattle.port_rounds.specs.Lanes.{LaneState, count_if, open_count}
use Rattle.port_rounds.specs.Asks.{AnswersAsks, TakesExchange, ClosesPort}
use Rattle.port_rounds.proofs.AsksThen.{either}
use Rattle.port_rounds.proofs.Dealing.{open_cons}
use Rattle.port_rounds.specs.Runs.{opened_book, IsKeptIn, ClosesPortIn, ClosesBy}

stays_shut : (b c : Bool) → (b ≡ true → c ≡ true) → c ≡ false → b ≡ false
stays_shut a1 a2 a3 a4 = search arith

shut_of_none : (b : Bool) → count_if b ≡ 0 → b ≡ false
shut_of_none a1 a2 = search arith

-- each port is closed if none is open
pub none_open : {P : Type 0} (state : P → PortState) (zs : List (LaneState P)) → open_count state zs ≡ 0 → (i : ℕ) (d : LaneState P) → i < length zs
    → (state (get_or zs i d).port).is_open ≡ false
none_open state [] none i d b = absurd (omega arith)
none_open state (x ∷ xs) none zero d b = (let parts = open_cons state (x ∷ xs) x xs refl in shut_of_none (state x.port).is_open (omega (arith, none, parts)))
none_open state (x ∷ xs) none (suc i) d b = (let parts = open_cons state (x ∷ xs) x xs refl in none_open state xs (omega (arith, none, parts)) i d (omega arith))

-- the ask that closes a port is of the book's round
closing_round : (book : BookValue) (last : ℕ × ℕ) (refused : Option Exchange) → ClosesPort book last refused → last.0 ≡ book.round
closing_round a1 a2 a3 a4 = search arith

closing_earlier : (books : List BookValue) (round : ℕ) (last : ℕ × ℕ) (refused : Option Exchange) → All (λ (book : BookValue). book.round < round) books
    → ClosesPortIn books last refused → last.0 < round
closing_earlier books round last refused earlier (book, is_in, closes) = search (arith, closing_round)

module _ {P A : Type 0} (port : Port.Ghosts P A) where
  -- a port that was closed by a round stays closed
  pub still_closed : (keeping : Exchange → Type 0) (closing : ℕ × ℕ → Option Exchange → Type 0) (round : ℕ) (p q r : P) (kept : List AnswerValue)
      → ClosesBy round (port.state p) (port.state q) → AnswersAsks port keeping closing q r kept → ClosesBy round (port.state p) (port.state r)
  still_closed keeping closing round p q r kept by asks opened = search (arith, stays_shut)

  -- asks of books of earlier rounds, and then of this round's book, after which the port is closed
  pub now_closed : (books : List BookValue) (old : BookValue) (p q r : P) (kept more : List AnswerValue) → All (λ (book : BookValue). book.round < old.round) books
      → AnswersAsks port (IsKeptIn books) (ClosesPortIn books) p q kept → AnswersAsks port (TakesExchange old) (ClosesPort old) q r more
      → (port.state r).is_open ≡ false → ClosesBy old.round (port.state p) (port.state r)
  now_closed books old p q r kept more earlier before now shut opened = search (arith, either, closing_round, closing_earlier)
