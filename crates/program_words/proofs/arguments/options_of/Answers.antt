use Rattle.std.specs.String.{string_bytes}
use Rattle.std.proofs.Common.{rules, ap, option_map, arith, sym, ◌∙◌, ℕ, [], List, Option, Ok, map}
use Rattle.std.specs.Prelude.{is_some, unwrap_or}
use Rattle.program_words.specs.Arguments.{number_or, is_true, file_of}
use Rattle.program_words.proofs.WordMeanings.{workers_hold, shards_hold, threads_hold, given_is, is_some-map, said_is, names_are, fails_by_words}
use Rattle.program_words.proofs.arguments.options_of.Goals as goal
use Rattle.program_words.proofs.arguments.options_of.Goals.{in-Some+in_ok-files-in-Some, in-None}

pub returns-clause-lawful : goal.returns-clause-lawful
returns-clause-lawful g c = fails_by_words _ _ (Ok c.in_ok-matches.matches) c.in_ok-command.ensures.app c.in_ok-matches.ensures.kinds

pub returns-clause-workers : goal.returns-clause-workers
returns-clause-workers g c =
    let held = workers_hold _ _ c.in_ok-command.ensures.own c.in_ok-matches.ensures.parsed in
    c.number-workers.ensures.value 0 64 (search rules) (omega arith)
    ∙ ap (λ (t : Option (List ℕ)). number_or t 2) (given_is _ _ _ _ c.in_ok-command.ensures.app c.in_ok-matches.ensures.matches)

pub returns-clause-shards : goal.returns-clause-shards
returns-clause-shards g c =
    let held = shards_hold _ _ c.in_ok-command.ensures.own c.in_ok-matches.ensures.parsed in
    c.number-shards.ensures.value 1 4096 (search rules) (omega arith)
    ∙ ap (λ (t : Option (List ℕ)). number_or t 64) (given_is _ _ _ _ c.in_ok-command.ensures.app c.in_ok-matches.ensures.matches)

pub returns-clause-names_threads : goal.returns-clause-names_threads
returns-clause-names_threads g c =
    c.is_some.ensures
    ∙ (is_some-map (λ s. s.now) c.get_str.result ∙ ap is_some (c.get_str.ensures ∙ said_is _ _ _ _ c.in_ok-command.ensures.app c.in_ok-matches.ensures.matches))

pub returns-clause-threads : goal.returns-clause-threads
returns-clause-threads g c =
    let held = threads_hold _ _ c.in_ok-command.ensures.own c.in_ok-matches.ensures.parsed in
    c.number-threads.ensures.value 1 64 (search rules) (omega arith)
    ∙ ap (λ (t : Option (List ℕ)). number_or t 1) (given_is _ _ _ _ c.in_ok-command.ensures.app c.in_ok-matches.ensures.matches)

pub returns-clause-plain : goal.returns-clause-plain
returns-clause-plain g c =
    c.is_set.ensures ∙ ap is_true (said_is _ _ _ _ c.in_ok-command.ensures.app c.in_ok-matches.ensures.matches)

pub returns-clause-report : goal.returns-clause-report
returns-clause-report g c =
    c.is_set-2.ensures ∙ ap is_true (said_is _ _ _ _ c.in_ok-command.ensures.app c.in_ok-matches.ensures.matches)

pub returns-clause-progress : goal.returns-clause-progress
returns-clause-progress g c =
    c.is_set-3.ensures ∙ ap is_true (said_is _ _ _ _ c.in_ok-command.ensures.app c.in_ok-matches.ensures.matches)

pub returns-clause-files : goal.returns-clause-files
returns-clause-files g c =
    let read = ap (λ (names : Option (List (List ℕ))). unwrap_or names []) c.get_strs.ensures
    ∙ names_are _ _ _ c.in_ok-command.ensures.app c.in_ok-matches.ensures.matches in
    elim c.match-get_strs.branch [
      | in-Some+in_ok-files-in-Some w ↦
          ap (λ v. map (option_map string_bytes) v.items) w.files-is
          ∙ (w.in_ok-files-in-Some.ensures ∙ ap (map file_of) (sym (ap (λ o. unwrap_or (option_map (λ s. map (λ v. v.now) s.now) o) []) w.in-Some.is) ∙ read))
      | in-None w ↦
          ap (λ v. map (option_map string_bytes) v.items) w.files-is
          ∙ (ap (map (option_map string_bytes)) w.new-files.ensures.items ∙ ap (map file_of) (sym (ap (λ o. unwrap_or (option_map (λ s. map (λ v. v.now) s.now) o) []) w.in-None.is) ∙ read))
    ]

pub returns-clause-few_workers : goal.returns-clause-few_workers
returns-clause-few_workers g c =
    let held = workers_hold _ _ c.in_ok-command.ensures.own c.in_ok-matches.ensures.parsed in
    (c.number-workers.ensures.range 0 64 (search rules) (omega arith) (omega arith) (omega arith)).1

pub returns-clause-some_shards : goal.returns-clause-some_shards
returns-clause-some_shards g c =
    let held = shards_hold _ _ c.in_ok-command.ensures.own c.in_ok-matches.ensures.parsed in
    (c.number-shards.ensures.range 1 4096 (search rules) (omega arith) (omega arith) (omega arith)).0

pub returns-clause-few_shards : goal.returns-clause-few_shards
returns-clause-few_shards g c =
    let held = shards_hold _ _ c.in_ok-command.ensures.own c.in_ok-matches.ensures.parsed in
    (c.number-shards.ensures.range 1 4096 (search rules) (omega arith) (omega arith) (omega arith)).1

pub returns-clause-some_threads : goal.returns-clause-some_threads
returns-clause-some_threads g c =
    let held = threads_hold _ _ c.in_ok-command.ensures.own c.in_ok-matches.ensures.parsed in
    (c.number-threads.ensures.range 1 64 (search rules) (omega arith) (omega arith) (omega arith)).0

pub returns-clause-few_threads : goal.returns-clause-few_threads
returns-clause-few_threads g c =
    let held = threads_hold _ _ c.in_ok-command.ensures.own c.in_ok-matches.ensures.parsed in
    (c.number-threads.ensures.range 1 64 (search rules) (omega arith) (omega arith) (omega arith)).1
