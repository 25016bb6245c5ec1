use Rattle.std.proofs.Common.{Contains, length, sym, ap, ◌∙◌, subst, arith}
use Rattle.std.specs.Option.{is_some}
use Rattle.std.proofs.lemmas.Bool.{false≢true}
use Rattle.link_key.specs.Components.{IsAcyclic, AreLeastVertices}
use Rattle.caller_forests.proofs.Givens.{same_keys}
use Rattle.caller_forests.proofs.labels.find_labels.Goals as goal

pub returns-in_default-found-clause-refused : goal.returns-in_default-found-clause-refused
returns-in_default-found-clause-refused g c =
    let list = c.in-Ok.list.items in (
      (omega arith, omega arith, c.have_ends.ensures.0 c.if-not-have_ends.false),
      λ closes.
          let same = same_keys closes.links list (closes.are_links ∙ sym c.in-Ok.ensures.links) in
          false≢true (sym (ap is_some c.in_default-found.is) ∙ c.in-Ok-components_of.ensures.acyclic.1 (subst IsAcyclic same closes.acyclic)),
    )

pub returns-clause-labelled : goal.returns-clause-labelled
returns-clause-labelled g c =
    let list = c.in-Ok.list.items in
    let found = rw c.in-Some.is at c.in-Ok-components_of.ensures.least in
    record {
      no_cycle = record {
        no_loop = c.have_no_loop.ensures.0 c.if-not-have_no_loop.false;
        links = list;
        are_links = c.in-Ok.ensures.links;
        acyclic = c.in-Ok-components_of.ensures.acyclic.0 (ap is_some c.in-Some.is);
      };
      least = subst (AreLeastVertices (length c.args.label.now) (Contains list)) (sym (c.copy_from_slice.ensures.after ∙ c.as_slice.ensures.labels)) found;
    }
