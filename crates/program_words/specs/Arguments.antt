-- The arguments of the command line: which ones the program accepts, and what each sets.
use Rattle.std.specs.Prelude.{◌≡◌, ◌≢◌, ◌⊎◌, ℕ, ⊤, nat_lt, pos, true, false, not, ◌&&◌, ◌||◌, is_some, if◌then◌else◌, List, [], ◌∷◌, length, map, Option, Some, None, unwrap_or, Bool, Result, Ok, Err, codes}
use Rattle.std.specs.List.{All}
use Rattle.std.specs.Str.{bytes_eq}
use Rattle.std.specs.Str.Parse.{digits_value, without_leading_plus}
use Rattle.limits.specs.declared.TheConstants.{MAX_SHARDS, MAX_WORKERS}
use Rattle.clap.specs.Kinds.{or_else}
use Rattle.clap.specs.Words.{App, Rule, IsPlain, IsPlainArg, IsSignedIn, Kinds, all_of, args_of, fault_of, first_of, found_of, kind_of, matches_of, new_app, new_rule, one_of, one_text, with_rule, without_minus}
use Rattle.clap.specs.declared.builder.action.ArgAction.TheVariants.{Append, SetTrue}
use Rattle.clap.specs.declared.builder.arg.Arg.{Arg}
use Rattle.clap.specs.declared.builder.command.Command.{Command}
use Rattle.clap.specs.declared.builder.command.Command.TheViews.{out-Command}
use Rattle.clap.specs.declared.builder.value_parser.ValueParser.TheVariants as vp
use Rattle.clap.specs.declared.error.Error.{Error}
use Rattle.clap.specs.declared.error.kind.ErrorKind.{ErrorKind}
use Rattle.clap.specs.declared.error.kind.ErrorKind.TheVariants.{DisplayHelp, DisplayVersion, MissingRequiredArgument, OutOfMemory, TooManyValues}
use Rattle.clap.specs.declared.parser.matches.ArgMatches.{ArgMatches}
use Rattle.plain_run.specs.declared.parts.TheConstants.{MAX_FILES}
use Rattle.program_words.specs.declared.chosen.TheConstants.{MAX_THREADS}
use Rattle.program_words.specs.declared.chosen.OptionsFault.{OptionsFault}
use Rattle.program_words.specs.declared.chosen.OptionsFault.TheVariants.{Usage, Memory}

-- ---- what the program accepts

-- an option with an integer from low to high
abbrev pub number_rule : List ℕ → ℕ → ℕ → Rule
number_rule name low high = record (new_rule name) {
  long = Some name;
  value_names = 1;
  parser = Some (vp.Signed (pos low) (pos high));
}

-- the same, with the number that is taken if the option is absent
abbrev pub default_rule : List ℕ → List ℕ → ℕ → ℕ → Rule
default_rule name default low high = record (number_rule name low high) { defaults = default ∷ [] }

-- an option that is present or absent
abbrev pub flag_rule : List ℕ → Rule
flag_rule name = record (new_rule name) { long = Some name; action = Some SetTrue }

-- arguments that aren't options; all of them are stored
abbrev pub words_rule : List ℕ → Rule
words_rule name = record (new_rule name) { value_names = 1; action = Some Append }

-- a command that can print its version
abbrev pub with_version : App → App
with_version a = record a { top = record a.top { has_version = true } }

-- the program: its version, three numbers, three flags, and files
abbrev pub program : App
program =
    with_rule
    (with_rule
    (with_rule
    (with_rule
    (with_rule
    (with_rule
    (with_rule (with_version (new_app (codes "boruvka"))) (flag_rule (codes "plain")))
    (number_rule (codes "threads") 1 MAX_THREADS))
    (default_rule (codes "workers") (codes "2") 0 MAX_WORKERS))
    (default_rule (codes "shards") (codes "64") 1 MAX_SHARDS))
    (flag_rule (codes "report")))
    (flag_rule (codes "progress")))
    (words_rule (codes "file"))

-- ---- what the arguments mean to it; the first one is the program's name

-- what the arguments give under a name, or else its default
abbrev pub given : List (List ℕ) → List ℕ → Option (List ℕ)
given words name = one_of name (matches_of program words)

abbrev pub said : List (List ℕ) → List ℕ → Option (List ℕ)
said words name = first_of name (matches_of program words)

-- the file with a name; `-` isn't a file but standard input
abbrev pub file_of : List ℕ → Option (List ℕ)
file_of name = if bytes_eq name (codes "-") then None else Some name

-- the names of files in the arguments, in their order
abbrev pub names_given : List (List ℕ) → List (List ℕ)
names_given words = unwrap_or (all_of (codes "file") (matches_of program words)) []

-- the files with these names
abbrev pub files_named : List (List ℕ) → List (Option (List ℕ))
files_named words = map file_of (names_given words)

-- the number that a text writes, or the default if there is no text
abbrev pub number_or : Option (List ℕ) → ℕ → ℕ
number_or None default = default
number_or (Some text) default = digits_value 10 (without_leading_plus text)

-- a text that sets a flag
abbrev pub is_true : Option (List ℕ) → Bool
is_true None = false
is_true (Some text) = bytes_eq text (codes "true")

-- whether the arguments set the flag with this name
abbrev pub is_set : List (List ℕ) → List ℕ → Bool
is_set words name = is_true (said words name)

-- What is wrong with arguments that are each valid alone, given whether they set the number of threads, how many files
-- they name, and whether `--plain` is there. Either threads or several files lack `--plain`, or there are too many
-- files.
abbrev pub wrong_together : Bool → ℕ → Bool → Kinds
wrong_together threads files plain = if (threads || nat_lt 1 files) && not plain then MissingRequiredArgument ∷ []
    else (if nat_lt MAX_FILES files then TooManyValues ∷ [] else [])

-- what is wrong with the arguments, or that they ask for the help; nothing if the program accepts them
abbrev pub refusals : List (List ℕ) → Kinds
refusals words = or_else (fault_of program words)
    (wrong_together (is_some (said words (codes "threads"))) (length (files_named words)) (is_set words (codes "plain")))

-- the kind of the error, if there is one
abbrev pub kinds_of : {X : Type 0} → Option (ErrorKind × X) → Kinds
kinds_of None = []
kinds_of (Some told) = told.0 ∷ []

-- ---- why arguments can't be carried out

-- what the program makes of clap's error: out of memory is a case of its own, and every other error stays as it is
abbrev pub IsCauseOf : Error → OptionsFault → Type 0
IsCauseOf error (Usage same) = (kind_of error ≢ OutOfMemory) × (same ≡ error)
IsCauseOf error Memory = kind_of error ≡ OutOfMemory

-- P holds for the usage error, if the fault is one
abbrev pub IsUsage : OptionsFault → (Error → Type 0) → Type 0
IsUsage (Usage error) P = P error
IsUsage Memory P = ⊤

-- P holds for the usage error, if the result is one
abbrev pub OnUsage : {T : Type 0} → Result T OptionsFault → (Error → Type 0) → Type 0
OnUsage (Ok taken) P = ⊤
OnUsage (Err fault) P = IsUsage fault P

-- an error of this kind is a mistake: the arguments ask neither for the help nor for the version
abbrev pub IsMistake : ErrorKind → Type 0
IsMistake kind = (kind ≢ DisplayHelp) × (kind ≢ DisplayVersion)

-- ---- the numbers

-- an argument with this name takes integers from low to high
abbrev pub TakesFrom : List ℕ → ℕ → ℕ → Arg → Type 0
TakesFrom name low high a = a.id.now ≡ name → a.value_parser ≡ Some (vp.Signed (pos low) (pos high))

-- an argument of the program: it excludes no other, and takes numbers in the range of its name
pub record IsOwnArg (a : Arg) : Type 0 where
  pub plain : IsPlainArg a
  pub local : a.global ≡ false
  pub workers : TakesFrom (codes "workers") 0 MAX_WORKERS a
  pub shards : TakesFrom (codes "shards") 1 MAX_SHARDS a
  pub threads : TakesFrom (codes "threads") 1 MAX_THREADS a

-- a command with only such arguments
pub record IsOwn (c : Command) : Type 0 where
  pub plain : IsPlain c
  pub local : (out-Command c).has_globals ≡ false
  pub workers : All (TakesFrom (codes "workers") 0 MAX_WORKERS) (args_of c)
  pub shards : All (TakesFrom (codes "shards") 1 MAX_SHARDS) (args_of c)
  pub threads : All (TakesFrom (codes "threads") 1 MAX_THREADS) (args_of c)

-- the name of an argument that takes no number
abbrev pub IsOtherName : List ℕ → Type 0
IsOtherName name = ¬ (name ≡ codes "workers") × ¬ (name ≡ codes "shards") × ¬ (name ≡ codes "threads")

-- what was found under this name, if anything, is a number from low to high
abbrev pub HoldsFrom : ArgMatches → List ℕ → ℕ → ℕ → Type 0
HoldsFrom m name low high = (one_text (found_of m) name ≡ None)
    ⊎ ((t : List ℕ) × (one_text (found_of m) name ≡ Some (without_minus t)) × IsSignedIn (pos low) (pos high) t)
