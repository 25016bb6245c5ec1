-- What a parse of the program's arguments gives: what each argument sets, and numbers that are in the ranges of their
-- options.
use Rattle.std.proofs.Common.{◌≡◌, ◌≢◌, ◌⊎◌, ◌∙◌, ◌<◌, ℕ, true, false, List, [], ◌∷◌, length, Option, Some, None, Result, refl, sym, ap, subst, inl, inr, arith, codes, slice_index, ◌||◌}
use Rattle.std.specs.Prelude.{Bool, map, pos, is_some, option_map, unwrap_or}
use Rattle.std.specs.List.{All, slice_index_or}
use Rattle.std.specs.Str.{bytes_eq}
use Rattle.std.specs.Borrow.{Bor}
use Rattle.std.specs.String.{string_bytes}
use Rattle.std.proofs.lemmas.List.{length-map}
use Rattle.std.proofs.lemmas.Bool.{cases_lt}
use Rattle.std.proofs.lemmas.Slice.Eq.{bytes_eq-Decides}
use Rattle.std.proofs.lemmas.List.Elements.{All-get_or, All-push}
use Rattle.clap.specs.Words.{Accepts, AddsArg, IsParsedFrom, IsSignedIn, SameRules, args_of, found_of, groups_of, matched_of, one_text, parser_of, reading_of, without_minus}
use Rattle.clap.specs.Facts.{Entry, EntryPasses, ValuesPass, PassesArg, HasReading, parser_of_value}
use Rattle.clap.specs.Built.{IsAuto}
use Rattle.clap.proofs.CallerLemmas.{entry_by_id, added_plain}
use Rattle.clap.specs.declared.builder.arg.Arg.{Arg}
use Rattle.clap.specs.declared.builder.command.Command.{Command}
use Rattle.clap.specs.declared.builder.value_parser.Reading.TheVariants as reading
use Rattle.clap.specs.declared.builder.value_parser.ValueParser.{ValueParser}
use Rattle.clap.specs.declared.builder.value_parser.ValueParser.TheVariants as vp
use Rattle.clap.specs.declared.parser.matches.ArgMatches.{ArgMatches}
use Rattle.clap.specs.declared.parser.matches.Found.{Found}
use Rattle.clap.specs.declared.parser.matches.MatchedArg.{MatchedArg}
use Rattle.clap.specs.Words.{App, FailsBy, HasMatchesOf, all_of, kind_of, fault_of, first_of, first_value, is_simple, is_simple_and_free, matches_of, one_of, raw_values, rows_of}
use Rattle.clap.proofs.OnLiterals.{clap_on_literals}
use Rattle.clap.proofs.WalkLemmas.{first_value-rows, one_text-rows, raw_values-rows}
use Rattle.clap.specs.declared.error.Error.{Error}
use Rattle.limits.specs.declared.TheConstants.{MAX_SHARDS, MAX_WORKERS}
use Rattle.program_words.specs.declared.chosen.TheConstants.{MAX_THREADS}
use Rattle.program_words.specs.Arguments.{TakesFrom, IsOwn, IsOwnArg, HoldsFrom, IsUsage, program, refusals, is_set, given, said, names_given, files_named, kinds_of, wrong_together}
use Rattle.program_words.specs.declared.chosen.Options.{Options}
use Rattle.program_words.specs.declared.chosen.OptionsFault.{OptionsFault}
use Rattle.program_words.specs.declared.chosen.OptionsFault.TheVariants.{Usage, Memory}
use Rattle.clap.specs.Kinds.{Kinds, IsAmong, or_else}
use Rattle.clap.specs.declared.error.kind.ErrorKind.{ErrorKind}
use Rattle.clap.specs.declared.error.kind.ErrorKind.TheVariants.{OutOfMemory}

-- an argument takes what the caller's argument takes
takes_same : (name : List ℕ) (low high : ℕ) (a b : Arg) → SameRules a b → TakesFrom name low high a → TakesFrom name low high b
takes_same name low high a b same takes named = same.parser _ (takes (ap (λ x. x.now) (sym same.id) ∙ named))

-- one more argument of the program
pub own_more : (old new : Command) (a : Arg) → AddsArg old a new → IsOwn old → IsOwnArg a → IsOwn new
own_more old new a added own arg = record {
  plain = added_plain old new a added own.plain arg.plain;
  local = added.globals ∙ (ap (λ b. b || a.global) own.local ∙ ap (λ b. false || b) arg.local);
  workers = rw added.args (All-push (TakesFrom (codes "workers") 0 MAX_WORKERS) (args_of old) added.arg own.workers (takes_same (codes "workers") 0 MAX_WORKERS a added.arg added.rules arg.workers));
  shards = rw added.args (All-push (TakesFrom (codes "shards") 1 MAX_SHARDS) (args_of old) added.arg own.shards (takes_same (codes "shards") 1 MAX_SHARDS a added.arg added.rules arg.shards));
  threads = rw added.args (All-push (TakesFrom (codes "threads") 1 MAX_THREADS) (args_of old) added.arg own.threads (takes_same (codes "threads") 1 MAX_THREADS a added.arg added.rules arg.threads));
}

-- an argument of the built command with this name is the caller's, and takes such numbers
built_takes : (c : Command) (m : ArgMatches) (p : IsParsedFrom c m) (name : List ℕ) (low high : ℕ) → All (TakesFrom name low high) (args_of c)
    → ¬ (name ≡ codes "help") → ¬ (name ≡ codes "version")
    → (j : ℕ) (x : Arg) → j < length (args_of p.built) → slice_index_or (args_of p.built) j x ≡ x → bytes_eq x.id.now name ≡ true
    → parser_of x ≡ vp.Signed (pos low) (pos high)
built_takes c m p name low high takes no_help no_version j x in_range at same =
    let named : x.id.now ≡ name = (bytes_eq-Decides x.id.now name).0 same in
    elim (cases_lt j (length (args_of c))) [
      | inl under ↦
          let rules = subst (λ w. SameRules (slice_index_or (args_of c) j x) w) at (p.from.kept j x under).1 in
          ap parser_of_value (takes_same name low high _ x rules (takes j x under) named)
      | inr over ↦
          let auto = subst IsAuto at (p.from.extra j x over in_range) in
          absurd (elim auto [ inl h ↦ no_help (sym named ∙ h) | inr h ↦ no_version (sym named ∙ h) ])
    ]

-- the values of an entry that isn't a group's
values_of : (c : Command) (name : List ℕ) (x : MatchedArg) (e : Entry) → groups_of c ≡ [] → ¬ (name ≡ []) → e.1 ≡ x → e.0.now ≡ name → EntryPasses c e
    → All (λ v. PassesArg c name v.now) x.vals.items × HasReading c name x.reading
values_of c name x e no_groups named same_x key pass =
    let no_group : e.1.is_group ≡ true → ⊥ = λ g. elim (pass.3 g) [
      | inl empty ↦ named (sym key ∙ empty)
      | inr lots ↦
          let bad : 0 < 0 = rw no_groups at lots in
          absurd (omega arith)
    ] in (
      elim pass.0 [
        | inl g ↦ absurd (no_group g)
        | inr vals ↦ subst (λ (w : List ℕ). All (λ v. PassesArg c w v.now) x.vals.items) key (rw same_x at vals)
      ],
      elim pass.4 [
        | inl g ↦ absurd (no_group g)
        | inr h ↦ subst (λ (w : List ℕ). HasReading c w x.reading) key (rw same_x at h)
      ],
    )

-- what is found under a name whose arguments take such numbers
pub holds_from : (c : Command) (f : Found) (name : List ℕ) (low high : ℕ) → ValuesPass c f → groups_of c ≡ [] → ¬ (name ≡ [])
    → ((j : ℕ) (x : Arg) → j < length (args_of c) → slice_index_or (args_of c) j x ≡ x → bytes_eq x.id.now name ≡ true
    → parser_of x ≡ vp.Signed (pos low) (pos high))
    → (one_text f name ≡ None) ⊎ ((t : List ℕ) × (one_text f name ≡ Some (without_minus t)) × IsSignedIn (pos low) (pos high) t)
holds_from c f name low high values no_groups named takes = go (matched_of f name) refl
  where
    first : (x : MatchedArg) (vs : List (Bor (List ℕ))) → matched_of f name ≡ Some x → x.vals.items ≡ vs → x.reading ≡ reading.WithoutMinus
        → All (λ v. PassesArg c name v.now) vs
        → (one_text f name ≡ None) ⊎ ((t : List ℕ) × (one_text f name ≡ Some (without_minus t)) × IsSignedIn (pos low) (pos high) t)
    first x [] found is how all = inl (rw (found, is) refl)
    first x (v ∷ vs) found is how all =
        let (j, a, in_range, at, (same, accepts)) = All-get_or (λ v. PassesArg c name v.now) (v ∷ vs) 0 v (omega arith) all in
        inr (
          v.now,
          rw (found, is, how) refl,
          subst (λ (q : ValueParser). Accepts a.ignore_case q v.now) (takes j a in_range at same) accepts,
        )

    go : (o : Option MatchedArg) → matched_of f name ≡ o
        → (one_text f name ≡ None) ⊎ ((t : List ℕ) × (one_text f name ≡ Some (without_minus t)) × IsSignedIn (pos low) (pos high) t)
    go None found = inl (rw found refl)
    go (Some x) found =
        let (e, same_x, same_id, pass) = entry_by_id (EntryPasses c) f.entries.items name x values found in
        let (all, (j, a, in_range, at, (same, reads))) = values_of c name x e no_groups named same_x ((bytes_eq-Decides e.0.now name).0 same_id) pass in
        first x x.vals.items found refl (sym reads ∙ ap reading_of (takes j a in_range at same)) all

-- what a parse of a command finds under such a name
pub parsed_holds : (c : Command) (m : ArgMatches) (name : List ℕ) (low high : ℕ) → IsOwn c → IsParsedFrom c m → All (TakesFrom name low high) (args_of c)
    → ¬ (name ≡ []) → ¬ (name ≡ codes "help") → ¬ (name ≡ codes "version") → HoldsFrom m name low high
parsed_holds c m name low high own p takes named no_help no_version =
    let parsed = p.parsed (p.from.globals ∙ own.local) in
    holds_from p.built (found_of m) name low high parsed.values (p.from.plain own.plain).1 named (built_takes c m p name low high takes no_help no_version)

-- texts that begin with different bytes differ
apart : (a b : List ℕ) → ¬ (slice_index a 0 ≡ slice_index b 0) → ¬ (a ≡ b)
apart a b differ same = differ (ap (λ (t : List ℕ). slice_index t 0) same)

pub workers_hold : (c : Command) (m : ArgMatches) → IsOwn c → IsParsedFrom c m → HoldsFrom m (codes "workers") 0 MAX_WORKERS
workers_hold c m own p =
    parsed_holds c m (codes "workers") 0 MAX_WORKERS own p own.workers
    (λ e. let bad : 119 ≡ slice_index [] 0 = ap (λ (t : List ℕ). slice_index t 0) e in absurd (omega arith))
    (apart (codes "workers") (codes "help") (λ (e : 119 ≡ 104). absurd (omega arith)))
    (apart (codes "workers") (codes "version") (λ (e : 119 ≡ 118). absurd (omega arith)))

pub shards_hold : (c : Command) (m : ArgMatches) → IsOwn c → IsParsedFrom c m → HoldsFrom m (codes "shards") 1 MAX_SHARDS
shards_hold c m own p =
    parsed_holds c m (codes "shards") 1 MAX_SHARDS own p own.shards
    (λ e. let bad : 115 ≡ slice_index [] 0 = ap (λ (t : List ℕ). slice_index t 0) e in absurd (omega arith))
    (apart (codes "shards") (codes "help") (λ (e : 115 ≡ 104). absurd (omega arith)))
    (apart (codes "shards") (codes "version") (λ (e : 115 ≡ 118). absurd (omega arith)))

pub threads_hold : (c : Command) (m : ArgMatches) → IsOwn c → IsParsedFrom c m → HoldsFrom m (codes "threads") 1 MAX_THREADS
threads_hold c m own p =
    parsed_holds c m (codes "threads") 1 MAX_THREADS own p own.threads
    (λ e. let bad : 116 ≡ slice_index [] 0 = ap (λ (t : List ℕ). slice_index t 0) e in absurd (omega arith))
    (apart (codes "threads") (codes "help") (λ (e : 116 ≡ 104). absurd (omega arith)))
    (apart (codes "threads") (codes "version") (λ (e : 116 ≡ 118). absurd (omega arith)))

-- ---- what the arguments mean

program_simple : is_simple program ≡ true
unfolding clap_on_literals
program_simple = refl

program_free : is_simple_and_free program ≡ true
unfolding clap_on_literals
program_free = refl

-- the matches of a command that is the program are those of the program
rows_are : (app : App) (words : List (List ℕ)) (m : ArgMatches) → app ≡ program → HasMatchesOf app words m
    → rows_of (found_of m) ≡ matches_of program words
rows_are app words m is has = (has (ap is_simple is ∙ program_simple)).0 ∙ ap (λ (a : App). matches_of a words) is

-- what a getter reads under a name is what the arguments give there
pub given_is : (app : App) (words : List (List ℕ)) (m : ArgMatches) (name : List ℕ) → app ≡ program → HasMatchesOf app words m
    → one_text (found_of m) name ≡ given words name
given_is app words m name is has = one_text-rows (found_of m) name ∙ ap (one_of name) (rows_are app words m is has)

-- the first text under a name is what the arguments say there
pub said_is : (app : App) (words : List (List ℕ)) (m : ArgMatches) (name : List ℕ) → app ≡ program → HasMatchesOf app words m
    → first_value (found_of m) name ≡ said words name
said_is app words m name is has = first_value-rows (found_of m) name ∙ ap (first_of name) (rows_are app words m is has)

-- a parse fails as the arguments say
pub fails_by_words : {T : Type 0} (app : App) (words : List (List ℕ)) (r : Result T Error) → app ≡ program
    → (is_simple_and_free app ≡ true → FailsBy (fault_of app words) r) → FailsBy (fault_of program words) r
fails_by_words {T} app words r is fails = subst (λ (a : App). FailsBy (fault_of a words) r) is (fails (ap is_simple_and_free is ∙ program_free))

-- a function on the contents of an option doesn't change whether there are any
pub is_some-map : {X Y : Type 0} (f : X → Y) (o : Option X) → is_some o ≡ is_some (option_map f o)
is_some-map f None = refl
is_some-map f (Some x) = refl

-- the texts that a getter reads for files are the names that the arguments give
pub names_are : (app : App) (words : List (List ℕ)) (m : ArgMatches) → app ≡ program → HasMatchesOf app words m
    → unwrap_or (option_map raw_values (matched_of (found_of m) (codes "file"))) [] ≡ names_given words
names_are app words m is has =
    ap (λ (names : Option (List (List ℕ))). unwrap_or names [])
    (raw_values-rows (found_of m) (codes "file") ∙ ap (all_of (codes "file")) (rows_are app words m is has))

-- arguments that are invalid one by one are invalid
among_first : (kind : ErrorKind) (kinds others : Kinds) → IsAmong kind kinds → IsAmong kind (or_else kinds others)
among_first kind [] others among = absurd among
among_first kind (k ∷ kinds) others among = among

pub refused_first : (words : List (List ℕ)) (fault : OptionsFault) → IsUsage fault (λ error. IsAmong (kind_of error) (fault_of program words))
    → IsUsage fault (λ error. IsAmong (kind_of error) (refusals words))
refused_first words (Usage error) among =
    among_first (kind_of error) (fault_of program words) (wrong_together (is_some (said words (codes "threads"))) (length (files_named words)) (is_set words (codes "plain"))) among
refused_first words Memory among = tt

-- arguments that are each valid alone are rejected for what is wrong with them together
pub told_is : {X : Type 0} (words : List (List ℕ)) (chosen : Options) (threads : Bool) (files : ℕ) (told : Option (ErrorKind × X)) → fault_of program words ≡ []
    → threads ≡ is_some (said words (codes "threads")) → map (option_map string_bytes) chosen.files.items ≡ files_named words
    → chosen.plain ≡ is_set words (codes "plain") → files ≡ length chosen.files.items
    → kinds_of told ≡ wrong_together threads files chosen.plain → refusals words ≡ kinds_of told
told_is words chosen threads files told none threads_are files_are plain_is long is =
    let count : files ≡ length (files_named words) = long ∙ (sym (length-map chosen.files.items (option_map string_bytes)) ∙ ap length files_are) in
    let same : wrong_together threads files chosen.plain ≡ wrong_together (is_some (said words (codes "threads"))) (length (files_named words)) (is_set words (codes "plain")) =
    rw (threads_are, count, plain_is) refl in
    ap (λ (k : Kinds). or_else k (wrong_together (is_some (said words (codes "threads"))) (length (files_named words)) (is_set words (codes "plain")))) none ∙ sym (is ∙ same)

-- so an error of that kind is among the kinds of their errors
pub refused_together : (words : List (List ℕ)) (kind : ErrorKind) (fault : OptionsFault) → refusals words ≡ kind ∷ []
    → IsUsage fault (λ error. kind_of error ≡ kind) → IsUsage fault (λ error. IsAmong (kind_of error) (refusals words))
refused_together words kind (Usage error) are is = subst (IsAmong (kind_of error)) (sym are) (inl is)
refused_together words kind Memory are is = tt

pub not_memory : (kind : ErrorKind) (fault : OptionsFault) → kind ≢ OutOfMemory → IsUsage fault (λ error. kind_of error ≡ kind)
    → IsUsage fault (λ error. kind_of error ≢ OutOfMemory)
not_memory kind (Usage error) other is = λ memory. other (sym is ∙ memory)
not_memory kind Memory other is = tt
