-- How the book takes the answers that were kept.
use Rattle.std.specs.Prelude.{List, [], ◌∷◌, ⊤, fold}
use Rattle.links.specs.AnswerValue.{AnswerValue}
use Rattle.round_core.specs.BookValue.{BookValue, with_answer}
use Rattle.port_rounds.specs.Asks.{Takes}

-- the book after all these answers
abbrev pub with_answers : BookValue → List AnswerValue → BookValue
with_answers value answers = fold with_answer value answers

-- the book takes each of these answers, one after the other
abbrev pub TakesAll : BookValue → List AnswerValue → Type 0
TakesAll value [] = ⊤
TakesAll value (answer ∷ answers) = Takes value answer × TakesAll (with_answer value answer) answers
