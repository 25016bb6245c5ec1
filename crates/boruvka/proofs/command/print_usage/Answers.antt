use Rattle.byte_streams.proofs.Streaming.{took_nothing}
use Rattle.boruvka.proofs.command.print_usage.Goals as goal

pub returns-in_default-clause-silent : goal.returns-in_default-clause-silent
returns-in_default-clause-silent g c = λ silent. took_nothing _

pub returns-then-use_stderr-clause-silent : goal.returns-then-use_stderr-clause-silent
returns-then-use_stderr-clause-silent g c = λ silent. took_nothing _
