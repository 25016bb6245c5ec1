use Rattle.std.proofs.Common.{ℕ, List, Option, Some, ap, inl, map, option_map, refl, slice_get, subst, sym, arith, ◌∙◌}
use Rattle.std.specs.String.{string_bytes}
use Rattle.byte_streams.proofs.Streaming.{took_nothing}
use Rattle.boruvka.specs.Asked.{EndsOnFiles, asked_of}
use Rattle.boruvka.specs.Streams.{standard}
use Rattle.boruvka.proofs.Endings.{only_file}
use Rattle.boruvka.proofs.command.obey.Goals as goal

pub returns-in_default-open-clause-obeys : goal.returns-in_default-open-clause-obeys
returns-in_default-open-clause-obeys g c =
    let first = ap Some (sym c.in-Some-Some.field-0-is) ∙ (c.in-Some-Some.ensures.value ∙ ap (λ items. slice_get items 0) c.deref.ensures.value) in
    let only = only_file c.args.chosen.now.files.items c.in-Some-Some.name (omega (arith, c.if-len-gt1.false, c.len.ensures, c.args.chosen.now.files.ok.0)) first in
    subst (λ (files : List (Option (List ℕ))). EndsOnFiles files (asked_of c.args.chosen.now) 3
    (standard g.I.Source g.O.Sink g.E.Sink c.args.input.now.source c.args.output.now c.args.errors.now)
    (standard g.I.Source g.O.Sink g.E.Sink c.args.input.now.source c.args.output.now c.write_unopened.new.sink))
    (sym (ap (map (option_map string_bytes)) only))
    (inl (refl, took_nothing _, rw c.as_str.ensures.value at c.write_unopened.ensures))
