use Rattle.std.proofs.Common.{ℕ, List, ap, sym, subst, option_map, ◌∙◌}
use Rattle.std.specs.String.{string_bytes}
use Rattle.program_words.specs.Messages.{IsWritten, unopened_line}
use Rattle.boruvka.specs.Joined.{not_opened_line}
use Rattle.boruvka.proofs.joined.write_not_opened.Goals as goal

pub returns-in-Some : goal.returns-in-Some
returns-in-Some g c =
    subst (λ (line : List ℕ). IsWritten line (g.E.Sink.state c.args.errors.now) (g.E.Sink.state c.write_unopened.new.sink))
    (ap unopened_line c.as_str.ensures.value ∙ sym (ap (λ file. not_opened_line (option_map string_bytes file)) c.in-Some.is)) c.write_unopened.ensures
