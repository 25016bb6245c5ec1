-- Several files whose edges are joined: one file after another, and how the run ends.
use Rattle.std.proofs.Common.{◌≡◌, ◌≢◌, ◌≤◌, ◌<◌, ◌+◌, ℕ, ◌∙◌, List, [], ◌∷◌, ◌++◌, length, get_or, take, drop, map, All, Option, None, Some, Bool, true, false, inl, inr, Result, Ok, Err}
use Rattle.std.proofs.Common.{refl, sym, ap, subst, arith}
use Rattle.std.specs.Prelude.{IsSome, IsErrAnd, MatchResult, is_some, not, ◌||◌, option_map}
use Rattle.std.proofs.lemmas.List.{drop_more, get_or-map, length-map, length-take, take-append-drop, take_more}
use Rattle.limits.specs.declared.TheConstants.{MAX_BYTES}
use Rattle.byte_streams.specs.Streams.{SourceState, SinkState, Gave}
use Rattle.byte_streams.proofs.Streaming.{took_nothing}
use Rattle.gr_text.specs.Graph.{GraphValue}
use Rattle.gr_text.specs.Sourced.{IsReadOf}
use Rattle.plain_run.specs.Parts.{Adds, ArePartsOf, PartsValue, WritesForestOf, joined_graph}
use Rattle.plain_run.specs.declared.fault.PartFault.{PartFault}
use Rattle.plain_run.specs.declared.fault.PartFault.TheVariants as part
use Rattle.plain_run.specs.declared.fault.RunFault.{RunFault}
use Rattle.plain_run.specs.declared.fault.RunFault.TheVariants as fault
use Rattle.plain_run.specs.declared.report.Report.{Report}
use Rattle.program_words.specs.Messages.{IsWritten}
use Rattle.boruvka.specs.Joined.{AddsFile, AddsFrom, AreAdded, EndsOnSeveral, GiveGraphs, GivesGraph, StopsAfter, StopsAt, inputs, source_of, status_for_stop, stop_line}
use Rattle.boruvka.specs.Status.{IsReported, IsUntouched, LeavesOutput, status_of_run, uncounted}
use Rattle.boruvka.specs.Streams.{Standard}
use Rattle.boruvka.specs.declared.joined.JoinFault.{JoinFault}
use Rattle.boruvka.specs.declared.joined.JoinFault.TheVariants.{Unopened, Part}
use Rattle.boruvka.proofs.Endings.{loud, status_bound}

-- ---- one more file

-- what a source does to the parts is what a file does
pub adds_from : (s t : SourceState) (old : PartsValue) (added : Result PartsValue PartFault) (result : Result PartsValue JoinFault)
    → MatchResult added (λ new. result ≡ Ok new) (λ why. IsErrAnd result (λ fault. fault ≡ Part why)) → Adds old added s t → AddsFrom s t old result
adds_from s t old (Ok new) result is adds = rw is adds
adds_from s t old (Err why) (Ok new) is adds = absurd is
adds_from s t old (Err why) (Err fault) is adds = rw is adds

pub adds_file : (file : Option (List ℕ)) (was_read : Bool) (before after : SourceState) (old : PartsValue) (added : Result PartsValue JoinFault)
    → (file ≡ None → was_read ≡ false) → AddsFrom (source_of before file) (source_of after file) old added → AddsFile file was_read before after old added
adds_file a1 a2 a3 a4 a5 a6 a7 a8 = search arith

-- how often the input is among the files and one more
inputs_more : (files : List (Option (List ℕ))) (file : Option (List ℕ)) → inputs (files ++ file ∷ []) ≡ inputs files + inputs (file ∷ [])
inputs_more [] None = refl
inputs_more [] (Some name) = refl
inputs_more (None ∷ files) file = omega (arith, inputs_more files file)
inputs_more (Some name ∷ files) file = inputs_more files file

-- files that aren't the input gave their graphs, however the input is left
graphs_apart : (s t u : SourceState) (files : List (Option (List ℕ))) (graphs : List GraphValue) → inputs files ≡ 0 → GiveGraphs s t files graphs → GiveGraphs s u files graphs
graphs_apart s t u [] [] none each = tt
graphs_apart s t u (None ∷ files) (g ∷ graphs) none each = absurd (omega arith)
graphs_apart s t u (Some name ∷ files) (g ∷ graphs) none (first, each) = search (arith, graphs_apart s t u files graphs none each)
graphs_apart s t u [] (g ∷ graphs) none each = absurd each
graphs_apart s t u (f ∷ files) [] none each = absurd each

graphs_more : (s t : SourceState) (files : List (Option (List ℕ))) (graphs : List GraphValue) (file : Option (List ℕ)) (graph : GraphValue)
    → GiveGraphs s t files graphs → GivesGraph s t file graph → GiveGraphs s t (files ++ file ∷ []) (graphs ++ graph ∷ [])
graphs_more s t [] [] file graph each more = (more, tt)
graphs_more s t (f ∷ files) (g ∷ graphs) file graph (first, each) more = (first, graphs_more s t files graphs file graph each more)
graphs_more s t [] (g ∷ graphs) file graph each more = absurd each
graphs_more s t (f ∷ files) [] file graph each more = absurd each

-- how the input is left after one more file: a FILE doesn't change it
abbrev pub left_by : Option (List ℕ) → SourceState → SourceState → SourceState
left_by None old new = new
left_by (Some name) old new = old

-- how often the input was read
abbrev pub times : Bool → ℕ
times true = 1
times false = 0

-- the parts represent the files' graphs
abbrev pub AreJoined : SourceState → SourceState → List (Option (List ℕ)) → PartsValue → Type 0
AreJoined before after files parts = (graphs : List GraphValue) × GiveGraphs before after files graphs × ArePartsOf graphs parts

-- what is stored of the files: what they gave, and that the input is as it was if it isn't among them
abbrev pub Keeps : SourceState → List (Option (List ℕ)) → Bool → PartsValue → SourceState → Type 0
Keeps s before was_read parts left = (was_read ≡ false → left ≡ s) × AreJoined s left before parts

-- the graphs before one more file, however that leaves the input
each_left : (s left new_left : SourceState) (before : List (Option (List ℕ))) (file : Option (List ℕ)) (was_read : Bool) (graphs : List GraphValue)
    → inputs before ≡ times was_read → (file ≡ None → was_read ≡ false) → GiveGraphs s left before graphs → GiveGraphs s (left_by file left new_left) before graphs
each_left a1 a2 a3 a4 a5 a6 a7 a8 a9 a10 = search (arith, graphs_apart)

-- what a file's source did, it did from the first state of the input
from_first : (R : SourceState → SourceState → Type 0) (s now new_left left : SourceState) (file : Option (List ℕ)) (was_read : Bool)
    → (file ≡ None → was_read ≡ false) → (was_read ≡ false → now ≡ s)
    → R (source_of now file) (source_of new_left file) → R (source_of s file) (source_of (left_by file left new_left) file)
from_first a1 a2 a3 a4 a5 a6 a7 a8 a9 a10 = search arith

-- a file that was added to the parts
step_ok : (s now new_left left : SourceState) (before : List (Option (List ℕ))) (file : Option (List ℕ)) (was_read : Bool) (old new : PartsValue)
    → (was_read ≡ false → now ≡ s) → inputs before ≡ times was_read → Keeps s before was_read old left
    → AddsFile file was_read now new_left old (Ok new) → AreJoined s (left_by file left new_left) (before ++ file ∷ []) new
step_ok s now new_left left before file was_read old new fresh count (same, (graphs, each, parts)) (unread, added) =
    let graph : GivesGraph s (left_by file left new_left) file added.graph = record {
      bytes = added.bytes;
      read = from_first (Gave 0 1 added.bytes) s now new_left left file was_read unread fresh added.read;
      means = added.file;
    } in
    let each_still = each_left s left new_left before file was_read graphs count unread each in
    (graphs ++ added.graph ∷ [], graphs_more s (left_by file left new_left) before graphs file added.graph each_still graph, added.parts graphs parts)

some_before : {X : Type 0} (xs : List X) (n : ℕ) → n ≡ length xs → 0 < n → xs ≢ []
some_before xs n long some = search arith

-- a file that can't be joined stops the run
step_stops : (s now new_left left : SourceState) (before : List (Option (List ℕ))) (file : Option (List ℕ)) (was_read : Bool) (old : PartsValue) (why : PartFault)
    → (was_read ≡ false → now ≡ s) → old.files ≡ length before
    → AddsFile file was_read now new_left old (Err (Part why)) → StopsAfter before old.vertices file (Part why) s (left_by file left new_left)
step_stops s now new_left left before file was_read old (part.Read why) fresh long (unread, adds) =
    from_first (IsReadOf MAX_BYTES (Err why)) s now new_left left file was_read unread fresh adds
step_stops s now new_left left before file was_read old (part.OtherVertices other wanted) fresh long (unread, adds) =
    let graph : GivesGraph s (left_by file left new_left) file adds.graph = record {
      bytes = adds.bytes;
      read = from_first (Gave 0 1 adds.bytes) s now new_left left file was_read unread fresh adds.read;
      means = adds.file;
    } in
    (adds.graph, graph, adds.vertices_are, adds.wanted_is, adds.differ, some_before before old.files long adds.some_before)

once : (was_read : Bool) (n : ℕ) → n ≡ times was_read → n ≤ 1
once a1 a2 a3 = search arith

none_read : (was_read : Bool) → times was_read ≡ 0 → was_read ≡ false
none_read a1 a2 = search arith

pub inputs_step : (before : List (Option (List ℕ))) (file : Option (List ℕ)) (was_read now_read : Bool) → now_read ≡ (was_read || not (is_some file))
    → inputs before ≡ times was_read → (file ≡ None → was_read ≡ false) → inputs (before ++ file ∷ []) ≡ times now_read
inputs_step a1 a2 a3 a4 a5 a6 a7 = search (arith, inputs_more)

-- how the input is left after a file, whether it was read before or not
fresh_left : (was_read now_read : Bool) (file : Option (List ℕ)) (s left new_left : SourceState) → now_read ≡ (was_read || not (is_some file))
    → (was_read ≡ false → left ≡ s) → now_read ≡ false → left_by file left new_left ≡ s
fresh_left a1 a2 a3 a4 a5 a6 a7 a8 a9 = search arith

-- how the input is left at a stop
abbrev stop_left : Option (List ℕ) → JoinFault → SourceState → SourceState → SourceState
stop_left file Unopened old new = old
stop_left file (Part why) old new = left_by file old new

stops_at : (s now new_left left : SourceState) (files before behind : List (Option (List ℕ))) (file : Option (List ℕ)) (was_read : Bool) (old : PartsValue) (why : JoinFault)
    → files ≡ before ++ file ∷ behind → (was_read ≡ false → now ≡ s) → inputs before ≡ times was_read → old.files ≡ length before
    → Keeps s before was_read old left → AddsFile file was_read now new_left old (Err why) → StopsAt files file why s (stop_left file why left new_left)
stops_at s now new_left left files before behind file was_read old Unopened split fresh count long (same, (graphs, each, parts)) (again, untouched) = record {
  others = before;
  behind = behind;
  split = split;
  vertices = old.vertices;
  graphs = graphs;
  parts = record { each = each; one_number = parts.one_number; once = once was_read _ count };
  unread = λ none. same (none_read was_read (omega (arith, none, count, inputs_more before file)));
  stops = λ is. (let one : inputs before ≡ 1 = (rw (again is) at count) in omega (arith, one));
}
stops_at s now new_left left files before behind file was_read old (Part why) split fresh count long (same, (graphs, each, parts)) adds = record {
  others = before;
  behind = behind;
  split = split;
  vertices = old.vertices;
  graphs = graphs;
  parts = record { each = each_left s left new_left before file was_read graphs count adds.0 each; one_number = parts.one_number; once = once was_read _ count };
  unread = λ none. fresh_left was_read (was_read || not (is_some file)) file s left new_left refl same
      (none_read (was_read || not (is_some file)) (omega (arith, none, inputs_step before file was_read (was_read || not (is_some file)) refl count adds.0)));
  stops = step_stops s now new_left left before file was_read old why fresh long adds;
}

-- ---- how the input is left

-- a FILE that was opened is a source of which nothing is known, and it doesn't change the input
pub adds_named : (file : Option (List ℕ)) (name : List ℕ) (was_read : Bool) (before after : SourceState) (old : PartsValue) (added : Result PartsValue JoinFault)
    → file ≡ Some name → AddsFrom uncounted uncounted old added → AddsFile file was_read before after old added
adds_named a1 a2 a3 a4 a5 a6 a7 a8 a9 = search (arith, adds_file)

-- no file yet
pub keeps_none : (s : SourceState) (parts : PartsValue) → ArePartsOf [] parts → Keeps s [] false parts s
keeps_none s parts are = ((λ unread. refl), ([], tt, are))

left_real : (file : Option (List ℕ)) (now real : SourceState) → (IsSome file → real ≡ now) → left_by file now real ≡ real
left_real a1 a2 a3 a4 = search arith

pub ok_left : (s now real : SourceState) (before : List (Option (List ℕ))) (file : Option (List ℕ)) (was_read now_read : Bool) (old new : PartsValue)
    → now_read ≡ (was_read || not (is_some file)) → (IsSome file → real ≡ now) → (was_read ≡ false → now ≡ s)
    → inputs before ≡ times was_read → Keeps s before was_read old now
    → AddsFile file was_read now real old (Ok new) → Keeps s (before ++ file ∷ []) now_read new real
ok_left s now real before file was_read now_read old new is leaves fresh count keeps added =
    subst (Keeps s (before ++ file ∷ []) now_read new) (left_real file now real leaves)
    (fresh_left was_read now_read file s now real is fresh, step_ok s now real now before file was_read old new fresh count keeps added)

stop_real : (file : Option (List ℕ)) (was_read : Bool) (old : PartsValue) (why : JoinFault) (now real : SourceState) → (IsSome file → real ≡ now)
    → AddsFile file was_read now real old (Err why) → stop_left file why now real ≡ real
stop_real a1 a2 a3 a4 a5 a6 a7 a8 = search (arith, left_real)

pub stops_left : (s now real : SourceState) (files before behind : List (Option (List ℕ))) (file : Option (List ℕ)) (was_read : Bool) (old : PartsValue)
    (why : JoinFault) → files ≡ before ++ file ∷ behind → (IsSome file → real ≡ now) → (was_read ≡ false → now ≡ s)
    → inputs before ≡ times was_read → old.files ≡ length before → Keeps s before was_read old now
    → AddsFile file was_read now real old (Err why) → StopsAt files file why s real
stops_left s now real files before behind file was_read old why split leaves fresh count long keeps adds =
    subst (StopsAt files file why s) (stop_real file was_read old why now real leaves adds)
    (stops_at s now real now files before behind file was_read old why split fresh count long keeps adds)

-- after all files were read
pub added_left : (s real : SourceState) (files : List (Option (List ℕ))) (was_read : Bool) (parts : PartsValue) → inputs files ≡ times was_read
    → Keeps s files was_read parts real → AreAdded files parts s real
added_left s real files was_read parts count keeps = search (arith, once, none_read)

-- if an added file was the input, it was the input for the first time
pub added_unread : (file : Option (List ℕ)) (was_read : Bool) (now real : SourceState) (old new : PartsValue)
    → AddsFile file was_read now real old (Ok new) → file ≡ None → was_read ≡ false
added_unread a1 a2 a3 a4 a5 a6 a7 = search arith

-- ---- file by file

-- a function on the contents of an option doesn't change whether there are any
pub is_some-under : {F Y : Type 0} (f : F → Y) (o : Option F) → is_some o ≡ is_some (option_map f o)
is_some-under a1 a2 = search arith

pub some_under : {F Y : Type 0} (f : F → Y) (o : Option F) → IsSome (option_map f o) → IsSome o
some_under f o some = is_some-under f o ∙ some

pub some_items : {F Y : Type 0} (f : F → Y) (items : List (Option F)) → All IsSome (map (option_map f) items) → All IsSome items
some_items f items all = λ k d within.
    some_under f (get_or items k d)
    (subst IsSome (get_or-map (option_map f) items k d (option_map f d) within) (all k (option_map f d) (omega (arith, length-map items (option_map f)))))

module _ {X Y : Type 0} (f : X → Y) where
  long : (xs : List X) (i : ℕ) → i < length xs → i < length (map f xs)
  long xs i within = omega (arith, length-map xs f)

  here_is : (xs : List X) (i : ℕ) (x : X) → i < length xs → x ≡ get_or xs i x → get_or (map f xs) i (f x) ≡ f x
  here_is xs i x within here = get_or-map f xs i x (f x) within ∙ ap f (sym here)

  -- a list around an index, and up to it
  pub split_at : (xs : List X) (i : ℕ) (x : X) → i < length xs → x ≡ get_or xs i x → map f xs ≡ take i (map f xs) ++ f x ∷ drop (i + 1) (map f xs)
  split_at xs i x within here =
      sym (take-append-drop i (map f xs))
      ∙ ap (λ (ys : List Y). take i (map f xs) ++ ys) (drop_more (map f xs) i (f x) (long xs i within) ∙ ap (λ (y : Y). y ∷ drop (i + 1) (map f xs)) (here_is xs i x within here))

  pub take_one : (xs : List X) (i : ℕ) (x : X) → i < length xs → x ≡ get_or xs i x → take (i + 1) (map f xs) ≡ take i (map f xs) ++ f x ∷ []
  take_one xs i x within here =
      take_more (map f xs) i (f x) (long xs i within) ∙ ap (λ (y : Y). take i (map f xs) ++ y ∷ []) (here_is xs i x within here)

  pub length_before : (xs : List X) (i : ℕ) → i < length xs → length (take i (map f xs)) ≡ i
  length_before xs i within = omega (arith, length-take i (map f xs), long xs i within)

-- the input after one more file: as it was, if none of them is the input
pub fresh_more : {F I : Type 0} (was_read now_read : Bool) (file : Option F) (s t u : I) → now_read ≡ (was_read || not (is_some file))
    → (was_read ≡ false → t ≡ s) → (IsSome file → u ≡ t) → now_read ≡ false → u ≡ s
fresh_more a1 a2 a3 a4 a5 a6 a7 a8 a9 a10 = search arith

pub unread_more : {F : Type 0} (was_read now_read : Bool) (file : Option F) → now_read ≡ (was_read || not (is_some file)) → was_read ≡ false → IsSome file
    → now_read ≡ false
unread_more a1 a2 a3 a4 a5 a6 = search arith

pub some_here : {F : Type 0} (files : List (Option F)) (i : ℕ) (file : Option F) → All IsSome files → i < length files → file ≡ get_or files i file → IsSome file
some_here files i file all within here = subst IsSome (sym here) (all i file within)

-- ---- the status

-- a stop has status 1, 3 or 4
pub stop_bound : (why : JoinFault) → (1 ≤ status_for_stop why) × (status_for_stop why ≤ 4)
stop_bound a1 = search (arith, status_bound)

-- writing a forest's text has one of these, or 0
pub forest_bound : (graph : GraphValue) (result : Result Report RunFault) (status : ℕ) (a b : SinkState) → status ≡ status_of_run result
    → WritesForestOf graph result a b → status ≤ 4
forest_bound a1 a2 a3 a4 a5 a6 a7 = search arith

pub forest_silent : (graph : GraphValue) (result : Result Report RunFault) (status : ℕ) (a b : SinkState) → status ≡ status_of_run result
    → WritesForestOf graph result a b → LeavesOutput status → IsUntouched a b
forest_silent graph (Ok report) status a b is written silent = absurd (loud status (inl is) silent)
forest_silent graph (Err (fault.Read why)) status a b is written silent = absurd written
forest_silent graph (Err (fault.Cut why)) status a b is written silent = absurd written
forest_silent graph (Err (fault.Rounds round)) status a b is written silent = absurd written
forest_silent graph (Err (fault.Missed link)) status a b is written silent = absurd written
forest_silent graph (Err fault.Memory) status a b is written silent = written
forest_silent graph (Err (fault.Write n)) status a b is written silent = absurd (loud status (inr is) silent)

-- ---- the end

pub joined_ends : (files : List (Option (List ℕ))) (wants : Bool) (status : ℕ) (before after : Standard) (parts : PartsValue) (result : Result Report RunFault)
    → AreAdded files parts before.source after.source → status ≡ status_of_run result
    → ((graphs : List GraphValue) → ArePartsOf graphs parts → WritesForestOf (joined_graph parts.vertices graphs) result before.sink after.sink)
    → IsReported wants result before.errors after.errors → EndsOnSeveral files wants status before after
joined_ends files wants status before after parts result added is written reported = search arith

pub stop_ends : (files : List (Option (List ℕ))) (wants : Bool) (status : ℕ) (before after : Standard) (file : Option (List ℕ)) (why : JoinFault)
    → StopsAt files file why before.source after.source → status ≡ status_for_stop why → after.sink ≡ before.sink
    → IsWritten (stop_line file why) before.errors after.errors → EndsOnSeveral files wants status before after
stop_ends files wants status before after file why stops is same told = search (arith, took_nothing)

-- the text of some graph's forest was written
pub wrote : (input real : SourceState) (files : List (Option (List ℕ))) (a b : SinkState) (parts : PartsValue) (result : Result Report RunFault)
    → AreAdded files parts input real
    → ((graphs : List GraphValue) → ArePartsOf graphs parts → WritesForestOf (joined_graph parts.vertices graphs) result a b)
    → (graph : GraphValue) × WritesForestOf graph result a b
wrote input real files a b parts result added written = search arith
