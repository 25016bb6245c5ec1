use Rattle.std.proofs.Common.{ℕ, List, Option, ap, map, sym, subst, option_map, take, drop, arith, ◌+◌, ◌∙◌, ◌≡◌}
use Rattle.std.proofs.lemmas.List.{length-map, take_all}
use Rattle.std.specs.Prelude.{not, ◌||◌}
use Rattle.std.specs.String.{string_bytes}
use Rattle.boruvka.specs.Joined.{StopsAt, inputs}
use Rattle.boruvka.proofs.Joining.{Keeps, added_left, added_unread, fresh_more, inputs_step, is_some-under, length_before, ok_left, some_here, some_under, split_at, stops_left, keeps_none}
use Rattle.boruvka.proofs.Joining.{take_one, unread_more, times}
use Rattle.boruvka.proofs.joined.add_files.Goals as goal

pub returns-in-Err-clause-stopped : goal.returns-in-Err-clause-stopped
returns-in-Err-clause-stopped g c =
    let files = map (option_map string_bytes) c.as_slice-files.result.now in
    let i = c.loop-file.file-index in
    let loop = c.loop-file.invariant in
    subst (λ (all : List (Option (List ℕ))). StopsAt all (option_map string_bytes c.file-item.result) c.in-Err.fault (g.I.Source.state c.args.input.now.source)
    (g.I.Source.state c.add_file.new.input.source))
    (ap (map (option_map string_bytes)) c.as_slice-files.ensures.value)
    (stops_left (g.I.Source.state c.args.input.now.source) (g.I.Source.state c.loop-file.input.source) (g.I.Source.state c.add_file.new.input.source)
    files (take i files) (drop (i + 1) files) (option_map string_bytes c.file-item.result) c.loop-file.was_read c.loop-file.parts c.in-Err.fault
    (split_at (option_map string_bytes) c.as_slice-files.result.now i c.file-item.result c.loop-file-test.true c.file-item.is)
    (λ some. ap g.I.Source.state (c.in-Err.ensures.leaves_input (some_under string_bytes c.file-item.result some)))
    (λ unread. ap g.I.Source.state (loop.fresh unread)) loop.inputs
    (loop.count ∙ sym (length_before (option_map string_bytes) c.as_slice-files.result.now i c.loop-file-test.true)) loop.keeps
    c.in-Err.ensures.added)

pub loop-file-preserved : goal.loop-file-preserved
loop-file-preserved g c =
    let files = map (option_map string_bytes) c.as_slice-files.result.now in
    let i = c.loop-file.file-index in
    let loop = c.loop-file.invariant in
    let one = take_one (option_map string_bytes) c.as_slice-files.result.now i c.file-item.result c.loop-file-test.true c.file-item.is in
    let reads = c.is_read_by-was_read.ensures ∙ ap (λ some. c.loop-file.was_read || not some) (is_some-under string_bytes c.file-item.result) in
    record {
      count = omega (arith, c.in-Ok.ensures.files, loop.count);
      keeps = subst (λ (all : List (Option (List ℕ))). Keeps (g.I.Source.state c.args.input.now.source) all c.is_read_by-was_read.result c.in-Ok.more
          (g.I.Source.state c.add_file.new.input.source)) (sym one)
          (ok_left (g.I.Source.state c.args.input.now.source) (g.I.Source.state c.loop-file.input.source) (g.I.Source.state c.add_file.new.input.source)
          (take i files) (option_map string_bytes c.file-item.result) c.loop-file.was_read c.is_read_by-was_read.result c.loop-file.parts c.in-Ok.more
          reads
          (λ some. ap g.I.Source.state (c.in-Ok.ensures.leaves_input (some_under string_bytes c.file-item.result some)))
          (λ unread. ap g.I.Source.state (loop.fresh unread)) loop.inputs loop.keeps
          c.in-Ok.ensures.added);
      fresh = fresh_more c.loop-file.was_read _ c.file-item.result _ _ _ c.is_read_by-was_read.ensures loop.fresh c.in-Ok.ensures.leaves_input;
      inputs = subst (λ (all : List (Option (List ℕ))). inputs all ≡ times c.is_read_by-was_read.result) (sym one)
          (inputs_step (take i files) (option_map string_bytes c.file-item.result) c.loop-file.was_read c.is_read_by-was_read.result reads loop.inputs
          (added_unread _ _ (g.I.Source.state c.loop-file.input.source) (g.I.Source.state c.add_file.new.input.source) _ _ c.in-Ok.ensures.added));
      unread = λ all. unread_more c.loop-file.was_read _ c.file-item.result c.is_read_by-was_read.ensures (loop.unread all)
          (some_here c.as_slice-files.result.now i c.file-item.result all c.loop-file-test.true c.file-item.is);
      untold = λ none.
          let ((name, same), off) = loop.untold none in
          let ((still_name, still), stays) = c.in-Ok.ensures.untold off in
          ((still_name ∙ name, still ∙ same), stays);
    }

pub loop-file-init : goal.loop-file-init
loop-file-init g c = search (arith, keeps_none)

pub returns-clause-joined : goal.returns-clause-joined
returns-clause-joined g c = search (arith, option_map, take_all, length-map, added_left, times)
