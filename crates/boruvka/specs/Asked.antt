-- What is requested, and that it was done.
use Rattle.std.specs.Prelude.{◌≡◌, ◌≢◌, ℕ, ◌⊎◌, List, [], ◌∷◌, map, Option, None, Some, Bool, true, false, codes, option_map, string_bytes}
use Rattle.byte_streams.specs.Streams.{SinkState, Took}
use Rattle.clap.specs.Words.{IsAmong}
use Rattle.clap.specs.declared.error.kind.ErrorKind.{ErrorKind}
use Rattle.plain_run.specs.declared.fault.RunFault.TheVariants as fault
use Rattle.program_words.specs.Arguments.{refusals, given, files_named, number_or, is_set, IsMistake}
use Rattle.program_words.specs.declared.chosen.Options.{Options}
use Rattle.program_words.specs.Messages.{IsWritten, fault_line, unopened_line}
use Rattle.boruvka.specs.Joined.{EndsOnSeveral}
use Rattle.boruvka.specs.Status.{EndsOverWorkers, EndsWith, IsUntouched, uncounted}
use Rattle.boruvka.specs.Streams.{Standard, with_source}

-- what valid arguments ask for: this many workers and shards, or no workers; a report or none; and these files, each a
-- FILE or the input
pub record Asked : Type 0 where
  pub workers : ℕ
  pub shards : ℕ
  pub plain : Bool
  pub report : Bool
  pub files : List (Option (List ℕ))

abbrev pub files_of : Options → List (Option (List ℕ))
files_of chosen = map (option_map string_bytes) chosen.files.items

abbrev pub asked_of : Options → Asked
asked_of chosen = record {
  workers = chosen.workers;
  shards = chosen.shards;
  plain = chosen.plain;
  report = chosen.report;
  files = files_of chosen;
}

-- a run without workers, or with them
abbrev pub EndsAs : Bool → Asked → ℕ → Standard → Standard → Type 0
EndsAs true asked = EndsWith asked.report
EndsAs false asked = EndsOverWorkers asked.workers asked.shards asked.report

-- What is done with a FILE. Either it can't be opened, and only the line about that is written; or it is run on, and
-- nothing is known about its contents. Without a FILE, the run is on the input.
abbrev pub EndsOn : Option (List ℕ) → Asked → ℕ → Standard → Standard → Type 0
EndsOn None asked status before after = EndsAs asked.plain asked status before after
EndsOn (Some name) asked status before after =
    ((status ≡ 3) × IsUntouched before.sink after.sink × IsWritten (unopened_line name) before.errors after.errors)
    ⊎ EndsAs asked.plain asked status (with_source uncounted before) (with_source uncounted after)

-- there was no memory before a run began: only the line that says so is written, and the input isn't read
pub record EndsBefore (status : ℕ) (before after : Standard) : Type 0 where
  pub status_is : status ≡ 4
  pub unread : after.source ≡ before.source
  pub nothing : IsUntouched before.sink after.sink
  pub told : IsWritten (fault_line fault.Memory) before.errors after.errors

-- What is done with files. Without one, the run is on the input; with one, on that file. The edges of several files are
-- joined, without workers, unless there was no memory before.
abbrev pub EndsOnFiles : List (Option (List ℕ)) → Asked → ℕ → Standard → Standard → Type 0
EndsOnFiles [] asked = EndsOn None asked
EndsOnFiles (file ∷ []) asked = EndsOn file asked
EndsOnFiles (file ∷ next ∷ files) asked = λ status before after.
    EndsBefore status before after ⊎ EndsOnSeveral (file ∷ next ∷ files) asked.report status before after

abbrev pub Obeys : Asked → ℕ → Standard → Standard → Type 0
Obeys asked = EndsOnFiles asked.files asked

-- ---- what the arguments ask for; the first one is the program's name

-- what valid arguments ask for; the defaults are 2 workers and 64 shards
abbrev pub asked_by : List (List ℕ) → Asked
asked_by words = record {
  workers = number_or (given words (codes "workers")) 2;
  shards = number_or (given words (codes "shards")) 64;
  plain = is_set words (codes "plain");
  report = is_set words (codes "report");
  files = files_named words;
}

-- arguments that only ask for this, such as the help or the version
abbrev pub AskFor : ErrorKind → List (List ℕ) → Type 0
AskFor kind words = refusals words ≡ kind ∷ []

-- invalid arguments that ask neither for the help nor for the version
abbrev pub AreWrong : List (List ℕ) → Type 0
AreWrong words = (refusals words ≢ []) × ((kind : ErrorKind) → IsAmong kind (refusals words) → IsMistake kind)

-- the exit status for invalid arguments: 2, or 4 if there was no memory
abbrev pub RefusesWords : ℕ → Type 0
RefusesWords status = (status ≡ 2) ⊎ (status ≡ 4)

-- what the help and the version do to the output: it took the text, or a part of it before it failed, or there was no
-- memory
abbrev pub HelpEnds : ℕ → SinkState → SinkState → Type 0
HelpEnds status before after = (text : List ℕ) × (((status ≡ 0) × Took 0 text before after)
    ⊎ (((status ≡ 3) × Took 1 text before after) ⊎ ((status ≡ 4) × IsUntouched before after)))

-- the effect of invalid arguments, whatever they ask for: that of the help, or the output stays as it was
abbrev pub EndsRefused : {O : Type 0} → (O → SinkState) → ℕ → O → O → Type 0
EndsRefused sink_of status before after = HelpEnds status (sink_of before) (sink_of after) ⊎ (RefusesWords status × (after ≡ before))
