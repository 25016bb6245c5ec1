-- The first vertex that has a number, in a pass over the vertices.
use Rattle.std.proofs.Common.{◌≡◌, ◌≢◌, ℕ, ◌+◌, ◌-◌, ◌^◌, ◌<◌, ◌≤◌, ◌⊎◌, List, [], ◌∷◌, ◌++◌, length, get_or, set, get_or-set_same, get_or-set_other, refl, sym, ap, ◌∙◌, subst, inl, inr, arith}
use Rattle.std.proofs.lemmas.Bool.{cases_eq, cases_lt}
use Rattle.std.proofs.lemmas.List.{get_or_push, get_or_append_left}
use Rattle.links.specs.Labels.{label_of, AreLabels}
use Rattle.links.specs.LinkSet.{LinkSet}
use Rattle.links.specs.declared.links.Link.{Link}
use Rattle.links.proofs.Walks.{joins_more}
use Rattle.link_key.specs.Components.{AreComponents, AreLeastVertices, IsFirstWith}
use Rattle.link_key.specs.OpenLinks.{AreAllNumbers}

-- the first of the vertices 1, 2, .. before the bound that has the number, or 0 if none has it
abbrev pub IsFirstBefore : List ℕ → ℕ → ℕ → ℕ → Type 0
IsFirstBefore numbers number bound first =
    (IsFirstWith numbers number first × (first < bound)) ⊎ ((first ≡ 0) × ((u : ℕ) → 1 ≤ u → u < bound → get_or numbers u 0 ≢ number))

-- the next vertex doesn't change a first one
same_first : (numbers : List ℕ) (number v first : ℕ) → get_or numbers v 0 ≢ number → IsFirstBefore numbers number v first → IsFirstBefore numbers number (v + 1) first
same_first a1 a2 a3 a4 a5 a6 = search (arith, cases_eq)

-- the next vertex is the first one
new_first : (numbers : List ℕ) (v first : ℕ) → 1 ≤ v → v < length numbers → first ≡ 0 → IsFirstBefore numbers (get_or numbers v 0) v first
    → IsFirstWith numbers (get_or numbers v 0) v
new_first a1 a2 a3 a4 a5 a6 a7 = search arith

old_first : (numbers : List ℕ) (number v first : ℕ) → first ≢ 0 → IsFirstBefore numbers number v first → IsFirstWith numbers number first
old_first a1 a2 a3 a4 a5 a6 = search arith

found_before : (numbers : List ℕ) (number v first : ℕ) → first ≢ 0 → IsFirstBefore numbers number v first → first < v
found_before a1 a2 a3 a4 a5 a6 = search arith

-- the table of the first vertices, by their numbers
abbrev pub AreFirsts : List ℕ → ℕ → ℕ → List ℕ → Type 0
AreFirsts numbers count bound firsts = (c : ℕ) → c ≤ count → IsFirstBefore numbers c bound (get_or firsts c 0)

-- the first vertex with the number of this vertex
pub first_now : (numbers firsts : List ℕ) (count v first : ℕ) → AreFirsts numbers count v firsts → 1 ≤ v → v < length numbers → get_or numbers v 0 ≤ count
    → (get_or firsts (get_or numbers v 0) 0 ≡ 0 → first ≡ v) → (get_or firsts (get_or numbers v 0) 0 ≢ 0 → first ≡ get_or firsts (get_or numbers v 0) 0)
    → IsFirstWith numbers (get_or numbers v 0) first × (first < v + 1)
first_now numbers firsts count v first are from_one v_in few new old = search (arith, cases_eq, new_first, old_first, found_before)

pub firsts_put : (numbers firsts : List ℕ) (count v first : ℕ) → AreFirsts numbers count v firsts → get_or numbers v 0 < length firsts
    → IsFirstWith numbers (get_or numbers v 0) first → first < v + 1 → AreFirsts numbers count (v + 1) (set firsts (get_or numbers v 0) first)
firsts_put numbers firsts count v first are number_in is lt c c_in = search (arith, cases_eq, set, get_or-set_same, get_or-set_other, same_first)

pub label_more : (numbers labels : List ℕ) (v label : ℕ) → length labels + 1 ≡ v → ((u : ℕ) → 1 ≤ u → u < v → IsFirstWith numbers (get_or numbers u 0) (label_of labels u))
    → IsFirstWith numbers (get_or numbers v 0) label → (u : ℕ) → 1 ≤ u → u < v + 1 → IsFirstWith numbers (get_or numbers u 0) (label_of (labels ++ label ∷ []) u)
label_more numbers labels v label len are is u from_one lt = search (arith, cases_eq, get_or_push, get_or_append_left)

-- ---- labels by the first vertices

-- a number has only one first vertex
one_first : {numbers : List ℕ} {c u v : ℕ} → IsFirstWith numbers c u → IsFirstWith numbers c v → u ≡ v
one_first {numbers} {c} {u} {v} is is' = search (arith, cases_lt)

first_at_most : {numbers : List ℕ} {c first : ℕ} → IsFirstWith numbers c first → (u : ℕ) → 1 ≤ u → get_or numbers u 0 ≡ c → first ≤ u
first_at_most {numbers} {c} {first} is u from_one same = search (arith, cases_lt)

-- the label of each vertex is the first vertex with the same number
abbrev pub LabelFirsts : List ℕ → List ℕ → Type 0
LabelFirsts numbers labels = (v : ℕ) → 1 ≤ v → v < length numbers → IsFirstWith numbers (get_or numbers v 0) (label_of labels v)

pub labels_are : (numbers labels : List ℕ) → length labels + 1 ≡ length numbers → length numbers ≤ 2 ^ 26 + 1 → LabelFirsts numbers labels → AreLabels labels
labels_are numbers labels len few firsts = record {
  few_vertices = omega (arith, len, few);
  labelled = λ v from_one v_in.
      let v_in' : v < length numbers = omega (arith, v_in, len) in
      let is = firsts v from_one v_in' in
      record {
        from_one = is.from_one;
        at_most_itself = first_at_most is v from_one refl;
        own = one_first (subst (λ c. IsFirstWith numbers c (label_of labels (label_of labels v))) is.has (firsts (label_of labels v) is.from_one is.in_range)) is;
      };
}

-- so each label is the least vertex of its component
pub least_vertices : (n count : ℕ) (S : LinkSet) (numbers labels : List ℕ) → length numbers ≡ n + 1 → length labels + 1 ≡ length numbers → AreAllNumbers count numbers
    → AreComponents S numbers → LabelFirsts numbers labels → AreLeastVertices n S labels
least_vertices n count S numbers labels len long are components firsts = record {
  vertices = omega (arith, len, long);
  least = λ v from_one v_in.
      let v_in' : v < length numbers = omega (arith, v_in, len) in
      let is = firsts v from_one v_in' in
      record {
        joined = components.joined v (label_of labels v) v_in' is.in_range (sym is.has);
        at_most = λ u joined.
            let same = components.alike v u joined in
            elim (cases_lt 0 u) [
              | inl some ↦ first_at_most is u (omega (arith, some)) (sym same)
              | inr none ↦
                  let zero_is : u ≡ 0 = omega (arith, none) in
                  let had = are.some v (omega (arith, from_one)) v_in' in
                  let nothing : get_or numbers v 0 ≡ 0 = same ∙ ap (λ k. get_or numbers k 0) zero_is ∙ are.none in
                  absurd (omega (arith, had, nothing))
            ];
      };
}

-- components under links are also the components under the same links as another set
pub same_components : (S T : LinkSet) (numbers : List ℕ) → ((l : Link) → S l → T l) → ((l : Link) → T l → S l) → AreComponents S numbers → AreComponents T numbers
same_components S T numbers to back components = record {
  joined = λ u v u_in v_in same. joins_more S T to u v (components.joined u v u_in v_in same);
  alike = λ u v joined. components.alike u v (joins_more T S back u v joined);
}
