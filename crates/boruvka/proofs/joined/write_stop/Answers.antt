use Rattle.std.proofs.Common.{ℕ, List, ap, sym, subst, option_map}
use Rattle.std.specs.String.{string_bytes}
use Rattle.program_words.specs.Messages.{IsWritten}
use Rattle.boruvka.specs.Joined.{stop_line}
use Rattle.boruvka.proofs.joined.write_stop.Goals as goal

pub returns-in-Unopened-clause-told : goal.returns-in-Unopened-clause-told
returns-in-Unopened-clause-told g c =
    subst (λ (line : List ℕ). IsWritten line (g.E.Sink.state c.args.errors.now) (g.E.Sink.state c.write_not_opened.new.errors))
    (sym (ap (stop_line (option_map string_bytes c.args.file.now)) c.in-Unopened.is)) c.write_not_opened.ensures
