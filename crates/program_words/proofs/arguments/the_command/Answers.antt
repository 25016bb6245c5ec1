use Rattle.std.proofs.Common.{ap, ap₂, ◌∙◌}
use Rattle.std.proofs.lemmas.Result.{IfOk-weaker}
use Rattle.clap.specs.Simple.{app_of_fields}
use Rattle.clap.specs.Words.{with_rule}
use Rattle.program_words.specs.Arguments.{with_version}
use Rattle.program_words.proofs.arguments.the_command.Goals as goal

-- each argument is one more rule; the text of the help isn't a rule
pub returns-clause-app : goal.returns-clause-app
returns-clause-app c =
    let empty = ap app_of_fields c.after_help-command.ensures ∙ (ap app_of_fields c.about.ensures ∙ (ap app_of_fields c.version.ensures ∙ ap with_version c.new.ensures.app)) in
    let one = c.in_ok-command.ensures.app ∙ ap₂ with_rule empty c.flag.ensures.rule in
    let two = c.in_ok-command-2.ensures.app ∙ ap₂ with_rule one c.threads_arg.ensures.rule in
    let three = c.in_ok-command-3.ensures.app ∙ ap₂ with_rule two c.workers_arg.ensures.rule in
    let four = c.in_ok-command-4.ensures.app ∙ ap₂ with_rule three c.shards_arg.ensures.rule in
    let five = c.in_ok-command-5.ensures.app ∙ ap₂ with_rule four c.flag-2.ensures.rule in
    let six = c.in_ok-command-6.ensures.app ∙ ap₂ with_rule five c.flag-3.ensures.rule in
    IfOk-weaker c.with-7.result _ _ (λ r is. is ∙ ap₂ with_rule six c.file_arg.ensures.rule) c.with-7.ensures.app
