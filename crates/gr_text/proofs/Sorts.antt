-- Each line is of one sort, and of no other.
use Rattle.std.proofs.Common.{◌≡◌, ◌≢◌, ℕ, ℤ, pos, neg_ℤ, ◌⊎◌, inl, inr, List, [], ◌∷◌, ◌++◌, refl, ap, sym, ◌∙◌, subst, arith, append_assoc, append-nil, codes}
use Rattle.std.specs.List.{AllByRecursion}
use Rattle.std.proofs.lemmas.Bool.{cases_eq}
use Rattle.links.specs.Arc.{Arc}
use Rattle.gr_text.specs.Fields.{IsDigit, number_written, Writes, WritesSigned}
use Rattle.gr_text.specs.Statement.{Problem, ArcLine, AreSilent, FieldsSay}
use Rattle.gr_text.specs.Sort.{LineSort, Nothing, Makes, NoProblem, NoArc, Unknown, AreOfSort, IsOfSort}
use Rattle.gr_text.specs.PartialLine.{with_field, AreParts}
use Rattle.gr_text.specs.Word.{BeginsComment}
use Rattle.gr_text.proofs.OrNot.{both_or_not, either_or_not, within_or_not}
use Rattle.gr_text.proofs.LineFields.{comment_of_silent}
use Rattle.gr_text.proofs.Parts.{AreParts-none, AreParts-byte, AreParts-blank, AreParts-whole}
use Rattle.gr_text.proofs.Unique.{AreFields-unique, FieldsSay-unique}

-- Each line has fields. Byte by byte, these are the whole fields so far and the bytes of one more.
parts_of : (rest part : List ℕ) (fields : List (List ℕ)) (last : List ℕ) → AreParts part fields last
    → (others : List (List ℕ)) × (more : List ℕ) × AreParts (part ++ rest) others more
parts_of [] part fields last parts = (fields, last, subst (λ (xs : List ℕ). AreParts xs fields last) (sym (append-nil part)) parts)
parts_of (b ∷ rest) part fields last parts = elim (either_or_not (cases_eq b 32) (either_or_not (cases_eq b 9) (cases_eq b 13))) [
  | inl blank ↦ (let (others, more, all) = parts_of rest (part ++ b ∷ []) (with_field fields last) [] (AreParts-blank part fields last b parts blank) in
      (others, more, subst (λ (xs : List ℕ). AreParts xs others more) (append_assoc part (b ∷ []) rest) all))
  | inr other ↦ (let (others, more, all) = parts_of rest (part ++ b ∷ []) fields (last ++ b ∷ []) (AreParts-byte part fields last b parts other) in
      (others, more, subst (λ (xs : List ℕ). AreParts xs others more) (append_assoc part (b ∷ []) rest) all))
]

-- whether two fields are the same
same_or_not : (xs ys : List ℕ) → (xs ≡ ys) ⊎ (xs ≢ ys)
same_or_not [] [] = inl refl
same_or_not (x ∷ xs) (y ∷ ys) = search (arith, both_or_not, cases_eq, same_or_not xs ys)
same_or_not xs ys = inr (λ (e : xs ≡ ys). cc)

digits_or_not : (field : List ℕ) → AllByRecursion IsDigit field ⊎ ¬ (AllByRecursion IsDigit field)
digits_or_not [] = inl tt
digits_or_not (b ∷ field) = both_or_not (within_or_not 48 57 b) (digits_or_not field)

number_or_not : (field : List ℕ) → ((n : ℕ) × Writes field n) ⊎ ¬ ((n : ℕ) × Writes field n)
number_or_not [] = inr (λ (n, writes). writes.0 refl)
number_or_not (b ∷ field) = elim (digits_or_not (b ∷ field)) [
  | inl all ↦ inl (number_written (b ∷ field), ((λ (e : b ∷ field ≡ []). cc), all, refl))
  | inr other ↦ inr (λ (n, writes). other writes.1)
]

signed_or_not : (field : List ℕ) → ((z : ℤ) × WritesSigned field z) ⊎ ¬ ((z : ℤ) × WritesSigned field z)
signed_or_not [] = inr (λ (z, writes). elim writes [ inl (n, w, is) ↦ w.0 refl | inr (digits, n, e, w, is) ↦ cc ])
signed_or_not (b ∷ field) = elim (number_or_not (b ∷ field)) [
  | inl (n, w) ↦ inl (pos n, inl (n, w, refl))
  | inr none ↦ elim (both_or_not (cases_eq b 45) (number_or_not field)) [
    | inl (minus, (n, w)) ↦ inl (neg_ℤ (pos n), inr (field, n, ap (λ (x : ℕ). x ∷ field) minus, w, refl))
    | inr never ↦ inr (λ (z, writes). elim writes [
      | inl (n, w, is) ↦ none (n, w)
      | inr (digits, n, e, w, is) ↦ (let head : b ≡ 45 = cc in let tail : digits ≡ field = cc in never (head, (n, subst (λ (x : List ℕ). Writes x n) tail w)))
    ])
  ]
]

-- whether fields state a problem, and whether they state an arc
problem_or_not : (fields : List (List ℕ)) → ((n m : ℕ) × FieldsSay fields (Problem n m)) ⊎ ¬ ((n m : ℕ) × FieldsSay fields (Problem n m))
problem_or_not (a ∷ b ∷ x ∷ y ∷ []) =
    elim (both_or_not (same_or_not a (codes "p")) (both_or_not (same_or_not b (codes "sp")) (both_or_not (number_or_not x) (number_or_not y)))) [
      | inl (p, (sp, ((n, wx), (m, wy)))) ↦ inl (n, m, (x, y, cc, wx, wy))
      | inr never ↦ inr (λ (n, m, (f, g, e, wf, wg)).
          let p : a ≡ codes "p" = cc in
          let sp : b ≡ codes "sp" = cc in
          let sf : f ≡ x = cc in
          let sg : g ≡ y = cc in
          never (p, (sp, ((n, subst (λ (s : List ℕ). Writes s n) sf wf), (m, subst (λ (s : List ℕ). Writes s m) sg wg)))))
    ]
problem_or_not fields = inr (λ (n, m, (f, g, e, wf, wg)). cc)

arc_or_not : (fields : List (List ℕ)) → ((arc : Arc) × FieldsSay fields (ArcLine arc)) ⊎ ¬ ((arc : Arc) × FieldsSay fields (ArcLine arc))
arc_or_not (a ∷ x ∷ y ∷ z ∷ []) =
    elim (both_or_not (same_or_not a (codes "a")) (both_or_not (number_or_not x) (both_or_not (number_or_not y) (signed_or_not z)))) [
      | inl (is, ((u, wx), ((v, wy), (w, wz)))) ↦ inl (record { tail = u; head = v; weight = w }, (x, y, z, cc, wx, wy, wz))
      | inr never ↦ inr (λ (arc, (f, g, h, e, wf, wg, wh)).
          let is : a ≡ codes "a" = cc in
          let sf : f ≡ x = cc in
          let sg : g ≡ y = cc in
          let sh : h ≡ z = cc in
          never (
            is,
            (
              (arc.tail, subst (λ (s : List ℕ). Writes s arc.tail) sf wf),
              ((arc.head, subst (λ (s : List ℕ). Writes s arc.head) sg wg), (arc.weight, subst (λ (s : List ℕ). WritesSigned s arc.weight) sh wh)),
            ),
          ))
    ]
arc_or_not fields = inr (λ (arc, (f, g, h, e, wf, wg, wh)). cc)

comment_or_not : (first : List ℕ) (others : List (List ℕ)) → AreSilent (first ∷ others) ⊎ ¬ (AreSilent (first ∷ others))
comment_or_not [] others = inr (λ silent. silent)
comment_or_not (b ∷ bytes) others = cases_eq b 99

fields_sort : (fields : List (List ℕ)) → (sort : LineSort) × AreOfSort fields sort
fields_sort [] = (Nothing, tt)
fields_sort (first ∷ others) = elim (same_or_not first (codes "p")) [
  | inl p ↦ elim (problem_or_not (first ∷ others)) [
    | inl (n, m, says) ↦ (Makes (Problem n m), says)
    | inr never ↦ (NoProblem, ((others, ap (λ (x : List ℕ). x ∷ others) p), λ n m says. never (n, m, says)))
  ]
  | inr not_p ↦ elim (same_or_not first (codes "a")) [
    | inl a ↦ elim (arc_or_not (first ∷ others)) [
      | inl (arc, says) ↦ (Makes (ArcLine arc), says)
      | inr never ↦ (NoArc, ((others, ap (λ (x : List ℕ). x ∷ others) a), λ arc says. never (arc, says)))
    ]
    | inr not_a ↦ elim (comment_or_not first others) [
      | inl silent ↦ (Nothing, silent)
      | inr loud ↦ (Unknown, ((first, others, refl, not_p, not_a), loud))
    ]
  ]
]

pub sort_of : (line : List ℕ) → (sort : LineSort) × IsOfSort line sort
sort_of line =
    let (fields, last, parts) = parts_of line [] [] [] AreParts-none in
    let (sort, of_sort) = fields_sort (with_field fields last) in
    (sort, (with_field fields last, AreParts-whole line fields last parts, of_sort))

-- the first field of a line of a sort, if it has one
abbrev Begins : LineSort → List ℕ → Type 0
Begins Nothing first = BeginsComment first
Begins (Makes (Problem n m)) first = first ≡ codes "p"
Begins (Makes (ArcLine arc)) first = first ≡ codes "a"
Begins NoProblem first = first ≡ codes "p"
Begins NoArc first = first ≡ codes "a"
Begins Unknown first = (first ≢ codes "p") × (first ≢ codes "a")

begins_of : (first : List ℕ) (others : List (List ℕ)) (s : LineSort) → AreOfSort (first ∷ others) s → Begins s first
begins_of a1 a2 a3 a4 = search (arith, comment_of_silent)

none_is_silent : (s : LineSort) → AreOfSort [] s → s ≡ Nothing
none_is_silent a1 a2 = search arith

-- No line is of two sorts. Its first field distinguishes them, or else what the fields state.
sort_unique : (fields : List (List ℕ)) (s t : LineSort) → AreOfSort fields s → AreOfSort fields t → s ≡ t
sort_unique fields (Makes s) (Makes t) a b = ap Makes (FieldsSay-unique fields s t a b)
sort_unique fields (Makes (Problem n m)) NoProblem a b = absurd (b.1 n m a)
sort_unique fields NoProblem (Makes (Problem n m)) a b = absurd (a.1 n m b)
sort_unique fields (Makes (ArcLine arc)) NoArc a b = absurd (b.1 arc a)
sort_unique fields NoArc (Makes (ArcLine arc)) a b = absurd (a.1 arc b)
sort_unique fields Nothing Unknown a b = absurd (b.1 a)
sort_unique fields Unknown Nothing a b = absurd (a.1 b)
sort_unique [] s t a b = none_is_silent s a ∙ sym (none_is_silent t b)
sort_unique (first ∷ others) s t a b = search (arith, begins_of)

pub IsOfSort-unique : (line : List ℕ) (s t : LineSort) → IsOfSort line s → IsOfSort line t → s ≡ t
IsOfSort-unique line s t (fs, are, a) (gs, are', b) =
    sort_unique gs s t (subst (λ (x : List (List ℕ)). AreOfSort x s) (AreFields-unique line fs gs are are') a) b
