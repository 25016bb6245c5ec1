use Rattle.std.proofs.Common.{ℤ, ◌∙◌, rules}
use Rattle.std.specs.Int.{w64, w128}
use Rattle.std.proofs.lemmas.Int.{to_z-of_z}
use Rattle.plain_run.proofs.FaultTexts.{rounds_text, missed_text}
use Rattle.plain_run.proofs.fault.RunFault.text.Goals as goal

pub returns-in-Rounds-clause-text : goal.returns-in-Rounds-clause-text
returns-in-Rounds-clause-text c = rounds_text _ _ _ _ _ _ c.new-text.ensures c.in-Rounds.is c.from.ensures c.push_count.ensures.text c.push_str-in-Rounds.ensures.bytes

pub returns-in-Missed-clause-text : goal.returns-in-Missed-clause-text
returns-in-Missed-clause-text c =
    let weight : ℤ = c.from-in-Missed-3.result in
    missed_text _ _ _ _ _ _ c.in-Missed.link _ _ _ c.new-text.ensures c.in-Missed.is c.from-in-Missed.ensures c.from-in-Missed-2.ensures
    (to_z-of_z w128 weight (search rules) ∙ c.from-in-Missed-3.ensures ∙ to_z-of_z w64 c.in-Missed.link.weight c.in-Missed.link.weight_fits)
    c.push_count-in-Missed.ensures.text c.push_count-in-Missed-2.ensures.text c.push_signed.ensures.text c.push_str-in-Missed.ensures.bytes
