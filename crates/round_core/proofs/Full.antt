-- A book's answers. Each shard that was taken has one, so the answers of a book that misses no shard are about all its
-- links.
use Rattle.std.proofs.Common.{◌≡◌, ◌≢◌, ℕ, zero, suc, ◌+◌, ◌<◌, ◌==◌, ◌↔◌, Bool, true, false, not, cond, List, []}
use Rattle.std.proofs.Common.{◌∷◌, ◌++◌, length, get_or, set, Contains, Some, None, refl, sym, ap, ◌∙◌, subst, inl, inr, arith, length-append}
use Rattle.std.specs.Prelude.{Option, Any, count_by}
use Rattle.std.specs.List.{list_all}
use Rattle.std.proofs.lemmas.Bool.{cases_eq, eqb-true}
use Rattle.std.proofs.lemmas.List.{length-set, get_or-set_same, get_or-set_other, get_or_default}
use Rattle.std.proofs.lemmas.List.Elements.{Contains-get_or, Contains-push, Contains-push_cases, Contains-append_left, All-contains, All-push}
use Rattle.std.proofs.lemmas.List.Quantifiers.{all_pairs_push}
use Rattle.std.proofs.lemmas.List.Sums.{sum_by-cons, sum_by-set}
use Rattle.links.specs.declared.links.Link.{Link}
use Rattle.links.specs.Cut.{joined, links_at}
use Rattle.links.specs.AnswerValue.{AnswerValue}
use Rattle.round_theory.specs.Offers.{Hearing, IsNamed}
use Rattle.round_theory.proofs.Cutting.{any_from, flat_map_contains, light_offers_suffice}
use Rattle.round_theory.proofs.Leaving.{least_leaving_exists}
use Rattle.round_core.specs.Picks.{pick_of, IsPickOf}
use Rattle.round_core.specs.BookValue.{BookValue, is_taken, missing, is_offer, refusal, with_answer, hearing_of}
use Rattle.round_core.specs.BookValue.{hearings, IsAnswered, IsRight, IsBookValue, IsBook, FullBookHasAllLinks, FullBookIsLeast}
use Rattle.round_core.specs.declared.refusals.Refusal.TheVariants.{Stale, Stranger, Double, NotALink}
use Rattle.round_core.proofs.Books.{map_contains, map_from}

pub record IsAccepted (p : BookValue) (s : ℕ) (a : AnswerValue) : Type 0 where
  pub round : a.round ≡ p.round
  pub shard : a.shard ≡ s
  pub missing : is_taken p s ≡ false
  pub offers : list_all (is_offer (links_at p.cut s) p.labels) a.offers ≡ true

pub accepted : (p : BookValue) (s : ℕ) (a : AnswerValue) → refusal p s a ≡ None → IsAccepted p s a
accepted p s a none = search (arith, cond, eqb-true)

-- a shard that isn't taken is one of the cut
pub free_within : (taken : List Bool) (s : ℕ) → get_or taken s true ≡ false → s < length taken
free_within [] s free = absurd (cc)
free_within (x ∷ taken) zero free = omega arith
free_within (x ∷ taken) (suc s) free = omega (arith, free_within taken s free)

-- what an answer that is taken changes
module _ (p : BookValue) (s : ℕ) (a : AnswerValue) (is : IsBookValue p) (lt : s < length p.cut) (fits : IsAccepted p s a) where
  in_taken : s < length p.taken
  in_taken = omega (arith, lt, is.each_shard)

  fewer : missing (with_answer p a) + 1 ≡ missing p
  fewer = search (arith, sum_by-set, cond, not, in_taken, set)

  new_taken : (t : ℕ) → t ≡ s → is_taken (with_answer p a) t ≡ true
  new_taken t same = ap (λ k. get_or (set p.taken k true) t true) fits.shard ∙ ap (λ k. get_or (set p.taken s true) k true) same ∙ get_or-set_same p.taken s true true in_taken

  old_taken : (t : ℕ) → t ≢ s → is_taken (with_answer p a) t ≡ is_taken p t
  old_taken t other = ap (λ k. get_or (set p.taken k true) t true) fits.shard ∙ get_or-set_other p.taken s t true true other

  answered : (t : ℕ) → t < length p.cut → (is_taken (with_answer p a) t ≡ true) ↔ IsAnswered (with_answer p a) t
  answered t within = elim (cases_eq t s) [
    | inl same ↦ (
      λ _. any_from (λ (b : AnswerValue). b.shard ≡ t) (p.answers ++ a ∷ []) a (Contains-push p.answers a) (fits.shard ∙ sym same),
      λ _. new_taken t same,
    )
    | inr other ↦ (
      λ taken. let (k, b, k_lt, at, for_t) = (is.answered t within).0 (sym (old_taken t other) ∙ taken) in
          any_from (λ (b : AnswerValue). b.shard ≡ t) (p.answers ++ a ∷ []) b (Contains-append_left p.answers (a ∷ []) b (k, k_lt, at)) for_t,
      λ some. let (k, b, k_lt, at, for_t) = some in
          elim (Contains-push_cases p.answers a b (k, k_lt, at)) [
            | inl before ↦ old_taken t other ∙ (is.answered t within).1 (any_from (λ (b : AnswerValue). b.shard ≡ t) p.answers b before for_t)
            | inr last ↦ absurd (other (sym for_t ∙ ap (λ (b : AnswerValue). b.shard) (sym last) ∙ fits.shard))
          ],
    )
  ]

  apart : (k : ℕ) (d : AnswerValue) → k < length p.answers → (get_or p.answers k d).shard ≢ a.shard
  apart k d k_lt same =
      let taken = (is.answered s lt).1 (any_from (λ (b : AnswerValue). b.shard ≡ s) p.answers (get_or p.answers k d) (Contains-get_or p.answers k d k_lt) (same ∙ fits.shard)) in
      let wrong : false ≡ true = sym fits.missing ∙ taken in
      absurd (cc)

  right_one : IsRight p.round p.cut p.labels a
  right_one = search arith

  pub value_heard : IsBookValue (with_answer p a)
  value_heard = record {
    labels = is.labels;
    ends = is.ends;
    few = is.few;
    each_shard = length-set p.taken a.shard true ∙ is.each_shard;
    counted = let n = length-append p.answers (a ∷ []) in let c = is.counted in let f = fewer in omega (arith, n, c, f);
    right = All-push (IsRight p.round p.cut p.labels) p.answers a is.right right_one;
    answered = answered;
    once = all_pairs_push (λ (b c : AnswerValue). b.shard ≢ c.shard) p.answers a is.once apart;
  }

pub book_heard : (p : BookValue) (looked_up : List ℕ) (room : ℕ) (best : List (Option Link)) (s : ℕ) (a : AnswerValue) → IsBook p looked_up room best → s < length p.cut → refusal p s a ≡ None
    → IsBook (with_answer p a) looked_up room best
book_heard p looked_up room best s a is lt none = search (arith, value_heard, accepted)

none_missing : (taken : List Bool) → count_by not taken ≡ 0 → (s : ℕ) → s < length taken → get_or taken s true ≡ true
none_missing [] none s lt = refl
none_missing (true ∷ taken) none zero lt = refl
none_missing (false ∷ taken) none zero lt = let n = sum_by-cons (λ (x : Bool). cond (not x) 1 0) false taken in absurd (omega (arith, n, none))
none_missing (x ∷ taken) none (suc s) lt = let n = sum_by-cons (λ (x : Bool). cond (not x) 1 0) x taken in none_missing taken (omega (arith, n, none)) s (omega (arith, lt))

-- a full book has an answer for each shard, so the shards that were heard about have all links of the cut
pub full_book_has_all_links : FullBookHasAllLinks
full_book_has_all_links p is full l = (to, back)
  where
    to : Contains (joined p.cut) l → Any (λ (h : Hearing). Contains h.shard l) (hearings p)
    to l_in =
        let (k, s, k_lt, at, in_s) = (flat_map_contains (λ (s : List Link). s) p.cut l).0 l_in in
        let taken = none_missing p.taken full k (omega (arith, k_lt, is.each_shard)) in
        let (i, a, i_lt, a_at, for_k) = (is.answered k k_lt).0 taken in
        let shard : links_at p.cut k ≡ s = get_or_default p.cut k [] s k_lt ∙ at in
        any_from (λ (h : Hearing). Contains h.shard l) (hearings p) (hearing_of p.cut a) (map_contains (hearing_of p.cut) p.answers a (i, i_lt, a_at))
        (subst (λ xs. Contains xs l) (sym (ap (links_at p.cut) for_k ∙ shard)) in_s)

    back : Any (λ (h : Hearing). Contains h.shard l) (hearings p) → Contains (joined p.cut) l
    back (k, h, k_lt, at, in_h) =
        let (a, a_in, same) = map_from (hearing_of p.cut) p.answers k h k_lt at in
        let right = All-contains (IsRight p.round p.cut p.labels) p.answers a is.right a_in in
        let in_shard : Contains (links_at p.cut a.shard) l = subst (λ (h : Hearing). Contains h.shard l) (sym same) in_h in
        (flat_map_contains (λ (s : List Link). s) p.cut l).1
        (any_from (λ (s : List Link). Contains s l) p.cut (links_at p.cut a.shard) (Contains-get_or p.cut a.shard [] right.within) in_shard)

-- and light answers name the least of them
pub full_book_is_least : FullBookIsLeast
full_book_is_least p picks is full light are = record {
  each_vertex = are.each_vertex;
  ends = are.ends;
  least = λ c vertex. of_all c (pick_of picks c) (are.least c vertex);
}
  where
    of_all : (c : ℕ) (pick : Option Link) → IsPickOf p.labels (IsNamed (hearings p)) c pick → IsPickOf p.labels (Contains (joined p.cut)) c pick
    of_all c (Some l) least = (light_offers_suffice (joined p.cut) p.labels (hearings p) (full_book_has_all_links p is full) light c l).0 least
    of_all c None none = λ m m_in leaves.
        let best = least_leaving_exists (joined p.cut) p.labels c m m_in leaves in
        let named = (light_offers_suffice (joined p.cut) p.labels (hearings p) (full_book_has_all_links p is full) light c best.0).1 best.1 in
        none best.0 named.member named.leaves
