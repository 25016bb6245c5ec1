use Rattle.std.proofs.Common.{◌≡◌, ◌+◌, ◌⊎◌, List, length, inl, inr, refl, sym, ap, subst, ◌∙◌, arith, rules}
use Rattle.links.specs.Covers.{IsCoveredBy}
use Rattle.links.specs.declared.links.Link.{Link}
use Rattle.gr_text.specs.Graph.{with_links}
use Rattle.plain_run.specs.Parts.{PartsValue, ArePartsOf}
use Rattle.plain_run.proofs.JoinedParts.{with_one_more}
use Rattle.plain_run.proofs.KeptLinks.{few_read}
use Rattle.plain_run.proofs.KnownFiles.{first_of_file, no_fault_of_file, something_of_file}
use Rattle.plain_run.proofs.PlainRunning.{whole_file}
use Rattle.plain_run.proofs.parts.Parts.add.Goals as goal
use Rattle.plain_run.proofs.parts.Parts.add.Goals.{else-files-gt0-via-then-files-gt0+else-n-vertices, else-files-gt0-via-else-files-gt0}

pub returns-in-Err-clause-malformed : goal.returns-in-Err-clause-malformed
returns-in-Err-clause-malformed g c = λ bytes file nothing. first_of_file c.in-Err.fault _ _ c.in-Err.ensures.outcome bytes file

pub returns-in-Err-clause-lawful : goal.returns-in-Err-clause-lawful
returns-in-Err-clause-lawful g c = no_fault_of_file c.in-Err.fault _ _ c.in-Err.ensures.outcome

pub returns-then-n-vertices-clause-added : goal.returns-then-n-vertices-clause-added
returns-then-n-vertices-clause-added g c =
    let (all, kept, read) = c.in-Ok.ensures.outcome in
    let (bytes, gave, file) = whole_file (with_links all c.in-Ok.graph) _ _ read in
    record {
      bytes = bytes;
      graph = with_links all c.in-Ok.graph;
      read = gave;
      file = file;
      vertices_are = c.n-n.ensures.vertices;
      wanted_is = search rules;
      differ = c.if-n-vertices.true;
      some_before = search rules;
    }

pub returns-then-n-vertices-clause-malformed : goal.returns-then-n-vertices-clause-malformed
returns-then-n-vertices-clause-malformed g c =
    let (all, kept, read) = c.in-Ok.ensures.outcome in
    λ bytes file nothing. something_of_file _ _ _ read bytes file nothing

pub overflow_add-read : goal.overflow_add-read
overflow_add-read g c =
    let few = few_read _ _ c.in-Ok.graph _ _ c.in-Ok.ensures.outcome in
    let same = ap length c.into_links-links.ensures.links in
    omega (arith, few, same)

pub overflow_add-result : goal.overflow_add-result
overflow_add-result g c =
    let read = few_read _ _ c.in-Ok.graph _ _ c.in-Ok.ensures.outcome in
    let same = ap length c.into_links-links.ensures.links in
    let files = ap (λ (p : PartsValue). p.files) c.self.view_is in
    omega (arith, read, same, files, c.requires.room, c.self.invariant.few)

pub invariant_of-result : goal.invariant_of-result
invariant_of-result g c =
    let read = few_read _ _ c.in-Ok.graph _ _ c.in-Ok.ensures.outcome in
    let same = ap length c.into_links-links.ensures.links in
    let more : length c.as_slice.result.now ≡ c.len.result = search rules in
    let files = ap (λ (p : PartsValue). p.files) c.self.view_is in
    record {
      few_vertices = c.n-n.ensures.few;
      ends = c.in-Ok-join_lists.ensures.ends;
      no_more = omega (arith, more, c.in-Ok-join_lists.ensures.few, c.self.invariant.no_more);
      few = omega (arith, read, same, c.self.invariant.few);
      few_files = omega (arith, files, c.requires.room);
    }

pub returns-in-Ok-join_lists-clause-added : goal.returns-in-Ok-join_lists-clause-added
returns-in-Ok-join_lists-clause-added g c =
    let (all, kept, read) = c.in-Ok.ensures.outcome in
    let graph = with_links all c.in-Ok.graph in
    let (bytes, gave, file) = whole_file graph _ _ read in
    let links = c.as_slice.result.now in
    let is = c.as_slice.ensures.value ∙ c.into_links-links.ensures.links in
    let more : length links ≡ c.len.result = search rules in
    let counted : length all ≡ c.read.new.keeper.dropped + length links = kept.counted ∙ ap (λ (ls : List Link). c.read.new.keeper.dropped + length ls) (sym is) in
    let cover : IsCoveredBy all links = subst (IsCoveredBy all) (sym is) kept.cover in
    let old : PartsValue =
    record { vertices = c.self.inside.vertices; kept = c.self.inside.kept.items; count = c.self.inside.count; files = c.self.inside.files } in
    let new : PartsValue = record {
      vertices = c.n-n.result;
      kept = c.in-Ok-join_lists.kept.items;
      count = c.self.inside.count + (c.read.new.keeper.dropped + c.len.result);
      files = c.self.inside.files + 1;
    } in
    let either : (old.files ≡ 0) ⊎ (new.vertices ≡ old.vertices) = elim c.else-files-gt0.branch [
      | else-files-gt0-via-then-files-gt0+else-n-vertices w ↦ inr w.if-n-vertices.false
      | else-files-gt0-via-else-files-gt0 w ↦ inl (omega arith)
    ] in
    record {
      bytes = bytes;
      graph = graph;
      read = gave;
      file = file;
      parts = λ graphs are. with_one_more graphs graph old new links _ cover counted c.in-Ok-join_lists.ensures.cover (sym c.n-n.ensures.vertices) either
          (omega (arith, more)) refl (subst (ArePartsOf graphs) (sym c.self.view_is) are);
    }

pub returns-in-Ok-join_lists-clause-malformed : goal.returns-in-Ok-join_lists-clause-malformed
returns-in-Ok-join_lists-clause-malformed g c =
    let (all, kept, read) = c.in-Ok.ensures.outcome in
    λ bytes file nothing. something_of_file _ _ _ read bytes file nothing
