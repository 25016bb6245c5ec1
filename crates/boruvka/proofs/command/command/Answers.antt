use Rattle.std.proofs.Common.{All, ap, map, option_map, refl, subst, sym, ◌∙◌, arith}
use Rattle.std.specs.Prelude.{IsSome}
use Rattle.std.specs.String.{string_bytes}
use Rattle.clap.specs.Words.{kind_of}
use Rattle.boruvka.proofs.Endings.{wants_memory_of}
use Rattle.boruvka.proofs.Joining.{some_items}
use Rattle.boruvka.proofs.command.command.Goals as goal

pub returns-in-Err-Usage-clause-wrong : goal.returns-in-Err-Usage-clause-wrong
returns-in-Err-Usage-clause-wrong g c = λ wrong.
    let (status, same) = c.print_usage.ensures.wrong (wrong.1 (kind_of c.in-Err-Usage.error) (rw c.in-Err-Usage.field-0-is at c.in-Err-Usage.ensures.refused)) in
    (status, refl, same)

pub returns-in-Ok-clause-obeys : goal.returns-in-Ok-clause-obeys
returns-in-Ok-clause-obeys g c = search arith

pub returns-in-Err-Memory-clause-obeys : goal.returns-in-Err-Memory-clause-obeys
returns-in-Err-Memory-clause-obeys g c = search (arith, wants_memory_of)

pub returns-in-Ok-clause-leaves_input : goal.returns-in-Ok-clause-leaves_input
returns-in-Ok-clause-leaves_input g c = λ some all.
    let taken = c.in-Ok.ensures.files in
    c.obey.ensures.leaves_input
    (λ none. some (sym taken ∙ ap (map (option_map string_bytes)) none))
    (some_items string_bytes c.in-Ok.chosen.files.items (subst (All IsSome) (sym taken) all))
