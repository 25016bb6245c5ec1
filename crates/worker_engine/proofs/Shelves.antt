-- The links that are stored, whichever are live.
use Rattle.std.proofs.Common.{◌≡◌, ℕ, List, [], ◌∷◌, Bool, true, false, cond, Option, Some, None, nat_cmp, refl, sym, ap, ◌∙◌, subst, arith}
use Rattle.std.specs.Prelude.{IfSome, IsSome, Result, IfOk, OnErr, ◌==◌}
use Rattle.std.specs.Option.{option_map}
use Rattle.std.specs.BTreeMap.{is_at}
use Rattle.std.specs.Map.{lookup, set_value}
use Rattle.std.specs.Map.Calls.{RetainsPairs}
use Rattle.std.proofs.lemmas.Bool.{cases_eq, cases_lt, eq-eqb, ne_eqb}
use Rattle.std.proofs.lemmas.Map.Made.{lookup-map_values}
use Rattle.links.specs.declared.links.Link.{Link}
use Rattle.links.specs.Labels.{Coarsens}
use Rattle.frames.specs.declared.frame.Frame.{Frame}
use Rattle.frames.specs.FrameValue.{ShardFrame, FaultFrame, value_of}
use Rattle.worker_replies.specs.Serving.{shelf_of, shelf_with, MayReply}
use Rattle.shard_scans.proofs.Written.{kept_coarser}
use Rattle.shard_scans.specs.Live.{KeptShardState, IsAllLive}
use Rattle.worker_engine.specs.Shelves.{shelf_list, AreAllLive, AreAllUnder, Replies}

abbrev links_of : KeptShardState → List Link
links_of kept = kept.links

shelf_at : (shards : List (ℕ × KeptShardState)) (s : ℕ) → shelf_of (shelf_list shards) s ≡ option_map links_of (lookup (is_at (nat_cmp s)) shards)
shelf_at shards s = lookup-map_values links_of (is_at (nat_cmp s)) shards

pub shelf_some : (shards : List (ℕ × KeptShardState)) (s : ℕ) (kept : KeptShardState) → Some kept ≡ lookup (is_at (nat_cmp s)) shards → shelf_of (shelf_list shards) s ≡ Some kept.links
shelf_some shards s kept found = shelf_at shards s ∙ ap (λ o. option_map links_of o) (sym found)

pub shelf_none : (shards : List (ℕ × KeptShardState)) (s : ℕ) → None ≡ lookup (is_at (nat_cmp s)) shards → shelf_of (shelf_list shards) s ≡ None
shelf_none shards s none = shelf_at shards s ∙ ap (λ o. option_map links_of o) (sym none)

pub kept_at : {T E : Type 0} (result : Result T E) (shards : List (ℕ × KeptShardState)) (s : ℕ) (kept : KeptShardState) → Some kept ≡ lookup (is_at (nat_cmp s)) shards
    → OnErr result (IsSome (shelf_of (shelf_list shards) s))
kept_at a1 a2 a3 a4 a5 = search (arith, shelf_some)

-- an entry is replaced by one with the same links
pub kept_same : (test : ℕ → Bool) (shards : List (ℕ × KeptShardState)) (kept new : KeptShardState) → Some kept ≡ lookup test shards
    → new.links ≡ kept.links → shelf_list (set_value test shards new) ≡ shelf_list shards
kept_same test [] kept new found same = refl
kept_same test (e ∷ es) kept new found same = go (test e.0) found (λ there. kept_same test es kept new there same)
  where
    go : (b : Bool) → Some kept ≡ cond b (Some e.1) (lookup test es) → (Some kept ≡ lookup test es → shelf_list (set_value test es new) ≡ shelf_list es)
        → shelf_list (cond b ((e.0, new) ∷ es) (e ∷ set_value test es new)) ≡ shelf_list (e ∷ es)
    go true found later =
        let is : kept ≡ e.1 = cc in
        ap (λ (l : List Link). (e.0, l) ∷ shelf_list es) (same ∙ ap links_of is)
    go false found later = ap (λ (t : List (ℕ × List Link)). (e.0, e.1.links) ∷ t) (later found)

-- all entries are replaced, each by one with the same links, all of them live
pub kept_by_retain : {F : Type 0} (T : F → ℕ → KeptShardState → Bool → KeptShardState → F → Type 0)
    → ((f : F) (k : ℕ) (v : KeptShardState) (b : Bool) (w : KeptShardState) (f' : F) → T f k v b w f' → (b ≡ true) × (w.links ≡ v.links) × IsAllLive w)
    → (f : F) (es kept : List (ℕ × KeptShardState)) → RetainsPairs T f es kept → (shelf_list kept ≡ shelf_list es) × AreAllLive kept
kept_by_retain T each f [] kept is = (ap (λ (t : List (ℕ × KeptShardState)). shelf_list t) is, λ s. subst (λ t. IfSome (lookup (is_at (nat_cmp s)) t) IsAllLive) (sym is) tt)
kept_by_retain T each f (e ∷ es) kept (b, w, f', rest, called, more, is) = search (arith, cond, nat_cmp, kept_by_retain T each f' es rest more)

-- links that are live stay so under labels that coarsen
pub under_coarser : (labels finer : List ℕ) (shards : List (ℕ × KeptShardState)) → Coarsens labels finer → AreAllUnder finer shards → AreAllUnder labels shards
under_coarser labels finer shards coarsens all s = search (arith, nat_cmp, kept_coarser)

-- a number is found only by itself
at_key : (n q : ℕ) → is_at (nat_cmp n) q ≡ (q == n)
at_key n q = search (arith, cases_eq, eq-eqb, cases_lt, ne_eqb)

module _ (old new : List (ℕ × KeptShardState)) (number : ℕ) (kept : KeptShardState)
    (inserted : (q : ℕ) → lookup (is_at (nat_cmp q)) new ≡ cond (is_at (nat_cmp number) q) (Some kept) (lookup (is_at (nat_cmp q)) old)) where
  pub shelf_inserted : shelf_of (shelf_list new) ≡ shelf_with (shelf_of (shelf_list old)) (ShardFrame number kept.links)
  shelf_inserted = λ i s. at s i
    where
      go : (s : ℕ) (b : Bool) → option_map links_of (cond b (Some kept) (lookup (is_at (nat_cmp s)) old)) ≡ cond b (Some kept.links) (shelf_of (shelf_list old) s)
      go s true = refl
      go s false = sym (shelf_at old s)

      at : (s : ℕ) → shelf_of (shelf_list new) s ≡ cond (s == number) (Some kept.links) (shelf_of (shelf_list old) s)
      at s = shelf_at new s ∙ ap (λ o. option_map links_of o) (inserted s) ∙ go s (is_at (nat_cmp number) s)
          ∙ ap (λ (b : Bool). cond b (Some kept.links) (shelf_of (shelf_list old) s)) (at_key number s)

  pub under_inserted : (labels : List ℕ) → IsAllLive kept → AreAllUnder labels old → AreAllUnder labels new
  under_inserted labels live all s = search (arith, nat_cmp, cond)

-- if there was no memory for a reply, code 1 may replace it
pub may_reply : {A E : Type 0} (kept : Option (List Link)) (round shard : ℕ) (labels : List ℕ) (result : Result (Frame A) E) (v : Frame A) → Replies kept round shard labels result
    → IfOk result (λ reply. v ≡ reply) → OnErr result (value_of v ≡ FaultFrame round shard 1) → MayReply kept round shard labels (value_of v)
may_reply a1 a2 a3 a4 a5 a6 a7 a8 a9 = search arith
