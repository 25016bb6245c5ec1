use Rattle.std.proofs.Common.{rules}
use Rattle.caller_forests.proofs.FirstFaults.{gives_first}
use Rattle.caller_forests.proofs.texts.put_forest_text.Goals as goal

pub returns-in-Err : goal.returns-in-Err
returns-in-Err g c = record {
  written = search rules;
  faultless = search rules;
  refused = search rules;
  untouched = search rules;
  malformed = λ within nothing. rw c.of_run.ensures (gives_first c.args.text.now c.in-Err.why (c.in-Err.ensures.malformed within nothing));
  lawful = search rules;
}
