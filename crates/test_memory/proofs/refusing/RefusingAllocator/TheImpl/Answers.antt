-- The contract of `allocate` says what its trait's contract says, and that an allocation that is passed on isn't
-- refused.
use base.Logic.{SProp, id⊢, fst∗}
use contract.Lifetimes.{Lfts}
use contract.Monad.{fact}
use denote.Param.{param}
use denote.Triple.Clauses.{AtExit}
use denote.Triple.Entry.{Res}
use Rattle.std.specs.Prelude.{OnOk}
use Rattle.std.specs.Allocator.{HasLayout}
use Rattle.std.specs.contracts.alloc.Allocator.allocate as trait
use Rattle.test_memory.specs.Refused.{IsLetPass}
use Rattle.test_memory.specs.contracts.refusing.Refusing.{the_row}
use Rattle.test_memory.specs.contracts.refusing.RefusingAllocator.TheImpl.{ghosts, dict}
use Rattle.test_memory.specs.contracts.refusing.RefusingAllocator.allocate as own
use Rattle.test_memory.proofs.SaysMore.{says_more}
use Rattle.test_memory.proofs.refusing.RefusingAllocator.TheImpl.Goals as goal

pub allocate-meets : goal.allocate-meets
allocate-meets g x c =
    let 𝓤 = g.world.𝓤 in
    let κs : Lfts 2 = (c.lifetimes.0, (c.lifetimes.1.0, tt)) in
    let held = own.clauses g.row.B g.B.Allocator g.B.Allocator-dict g.B.Destruct-dict g.world.𝓛 g.world.𝓜.mem g.world.𝓡.returns κs (c.args.self, (c.args.size, (c.args.align, tt))) in
    let wanted = trait.clauses (the_row (param 0 g.row.B)) (ghosts g.row.B g.B.Allocator g.B.Allocator-dict g.B.Destruct-dict)
    (dict g.row.B g.B.Allocator g.B.Allocator-dict g.B.Destruct-dict) x g.world.𝓛 g.world.𝓜.mem g.world.𝓡.returns c.lifetimes (c.args.self, (c.args.size, (c.args.align, tt))) in
    let R : Type 0 = Res (own.signature g.row.B) κs in
    let X : Type 0 = AtExit (own.ended g.row.B g.B.Allocator g.B.Allocator-dict g.B.Destruct-dict) κs in
    let D' : R → X → SProp 𝓤 = λ r e. wanted.ensures c.ghost r (e.0, (e.1.0, (e.1.1.0, tt))) in
    let P : SProp 𝓤 = fact 𝓤 (HasLayout c.ghost c.args.size c.args.align) in
    says_more 𝓤 P held.ghost (own.requires-1 g.row.B g.B.Allocator g.B.Allocator-dict g.B.Destruct-dict g.world.𝓛 κs g.world.𝓜.mem g.world.𝓡.returns
    c.args.self c.args.size c.args.align) R X held.ensures D' c.ghost (id⊢ 𝓤 P)
    (λ r e. fst∗ 𝓤 (D' r e) (fact 𝓤 (OnOk r (IsLetPass c.args.self.now.gate.refusals))))
