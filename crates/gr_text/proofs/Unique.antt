-- A line has only one list of fields, a text only one list of lines, and lines state only one thing.
use Rattle.std.proofs.Common.{◌≡◌, ◌≢◌, ℕ, ℤ, pos, neg_ℤ, inl, inr, List, [], ◌∷◌, ◌++◌, refl, ap, sym, ◌∙◌, subst, arith, append_assoc, codes}
use Rattle.std.specs.List.{AllByRecursion, flat_map}
use Rattle.links.specs.Arc.{Arc}
use Rattle.gr_text.specs.Lines.{line_feed, IsLine, ended, EndsLines, with_last, AreLines}
use Rattle.gr_text.specs.Fields.{IsBlank, IsFieldByte, BeginsBlank, AreFields, IsDigit, Writes, WritesSigned}
use Rattle.gr_text.proofs.Alls.{All-parts}
use Rattle.gr_text.proofs.FieldBytes.{head_is}
use Rattle.gr_text.specs.Statement.{Statement, Problem, ArcLine, AreSilent, FieldsSay, IsSilent, Says, Say}

-- no bytes, or bytes whose first doesn't have P
abbrev pub Stops : (ℕ → Type 0) → List ℕ → Type 0
Stops P [] = Unit {0}
Stops P (b ∷ bytes) = ¬ (P b)

-- There is only one way to split bytes into a prefix with P and a rest that begins without P. By induction on both
-- prefixes: if one of them ended earlier, the next byte of the other would and wouldn't have P.
pub prefix_unique : (P : ℕ → Type 0) (xs ys r s : List ℕ) → AllByRecursion P xs → AllByRecursion P ys → Stops P r → Stops P s
    → xs ++ r ≡ ys ++ s → (xs ≡ ys) × (r ≡ s)
prefix_unique P [] [] r s px py pr ps e = (refl, e)
prefix_unique P [] (y ∷ ys) r s px py pr ps e = absurd (let none : Stops P (y ∷ (ys ++ s)) = subst (Stops P) e pr in none py.0)
prefix_unique P (x ∷ xs) [] r s px py pr ps e = absurd (let none : Stops P (x ∷ (xs ++ r)) = subst (Stops P) (sym e) ps in none px.0)
prefix_unique P (x ∷ xs) (y ∷ ys) r s px py pr ps e =
    let heads : x ≡ y = cc in
    let tails : xs ++ r ≡ ys ++ s = cc in
    let both = prefix_unique P xs ys r s px.1 py.1 pr ps tails in
    (ap (λ (z : ℕ). z ∷ xs) heads ∙ ap (λ (zs : List ℕ). y ∷ zs) both.0, both.1)

stops_at_field : (field after : List ℕ) → field ≢ [] → AllByRecursion IsFieldByte field → Stops IsBlank (field ++ after)
stops_at_field [] after some all = absurd (some refl)
stops_at_field (b ∷ field) after some all = all.0

stops_at_blank : (after : List ℕ) → BeginsBlank after → Stops IsFieldByte after
stops_at_blank a1 a2 = search arith

blanks_hold_no_field : (line blanks field after : List ℕ) → AllByRecursion IsBlank line → line ≡ blanks ++ field ++ after → field ≢ [] → AllByRecursion IsFieldByte field → ⊥
blanks_hold_no_field line blanks [] after all e some fs = some refl
blanks_hold_no_field line blanks (f ∷ field) after all e some fs =
    fs.0 (All-parts IsBlank blanks (f ∷ field) (All-parts IsBlank (blanks ++ f ∷ field) after (subst (AllByRecursion IsBlank) e all)).0).1.0

pub AreFields-unique : (line : List ℕ) (fs gs : List (List ℕ)) → AreFields line fs → AreFields line gs → fs ≡ gs
AreFields-unique line [] [] a b = refl
AreFields-unique line [] (g ∷ gs) a (blanks, after, all_blank, some, all_field, is, begins, others) = absurd (blanks_hold_no_field line blanks g after a is some all_field)
AreFields-unique line (f ∷ fs) [] (blanks, after, all_blank, some, all_field, is, begins, others) b = absurd (blanks_hold_no_field line blanks f after b is some all_field)
AreFields-unique line (f ∷ fs) (g ∷ gs) (b1, a1, bl1, s1, al1, is1, be1, o1) (b2, a2, bl2, s2, al2, is2, be2, o2) =
    let whole : b1 ++ (f ++ a1) ≡ b2 ++ (g ++ a2) = sym (append_assoc b1 f a1) ∙ sym is1 ∙ is2 ∙ append_assoc b2 g a2 in
    let fronts = prefix_unique IsBlank b1 b2 (f ++ a1) (g ++ a2) bl1 bl2 (stops_at_field f a1 s1 al1) (stops_at_field g a2 s2 al2) whole in
    let fields = prefix_unique IsFieldByte f g a1 a2 al1 al2 (stops_at_blank a1 be1) (stops_at_blank a2 be2) fronts.1 in
    let rest : fs ≡ gs = AreFields-unique a1 fs gs o1 (subst (λ (x : List ℕ). AreFields x gs) (sym fields.1) o2) in
    ap (λ (x : List ℕ). x ∷ fs) fields.0 ∙ ap (λ (xs : List (List ℕ)). g ∷ xs) rest

-- The lines of a text. A whole line ends before the next line feed. By induction on both lists of lines.
cut_first : (line other rest more : List ℕ) → IsLine line → IsLine other → line ++ line_feed ∷ rest ≡ other ++ line_feed ∷ more → (line ≡ other) × (rest ≡ more)
cut_first line other rest more is_line is_other e =
    let both = prefix_unique (λ b. b ≢ line_feed) line other (line_feed ∷ rest) (line_feed ∷ more) is_line is_other (λ differs. differs refl) (λ differs. differs refl) e in
    let tails : line_feed ∷ rest ≡ line_feed ∷ more = both.1 in
    (both.0, cc)

no_feed_inside : (part line rest : List ℕ) → IsLine part → part ≡ line ++ line_feed ∷ rest → ⊥
no_feed_inside part line rest is_line e = (All-parts (λ b. b ≢ line_feed) line (line_feed ∷ rest) (subst IsLine e is_line)).1.0 refl

cut_unique : (ls ms : List (List ℕ)) (r s : List ℕ) → AllByRecursion IsLine ls → AllByRecursion IsLine ms → IsLine r → IsLine s
    → flat_map ended ls ++ r ≡ flat_map ended ms ++ s → (ls ≡ ms) × (r ≡ s)
cut_unique [] [] r s pl pm pr ps e = (refl, e)
cut_unique [] (m ∷ ms) r s pl pm pr ps e =
    absurd (no_feed_inside r m (flat_map ended ms ++ s) pr (e ∙ append_assoc (ended m) (flat_map ended ms) s ∙ append_assoc m (line_feed ∷ []) (flat_map ended ms ++ s)))
cut_unique (l ∷ ls) [] r s pl pm pr ps e =
    absurd (no_feed_inside s l (flat_map ended ls ++ r) ps (sym e ∙ append_assoc (ended l) (flat_map ended ls) r ∙ append_assoc l (line_feed ∷ []) (flat_map ended ls ++ r)))
cut_unique (l ∷ ls) (m ∷ ms) r s pl pm pr ps e =
    let whole : l ++ line_feed ∷ (flat_map ended ls ++ r) ≡ m ++ line_feed ∷ (flat_map ended ms ++ s) =
    sym (append_assoc (ended l) (flat_map ended ls) r ∙ append_assoc l (line_feed ∷ []) (flat_map ended ls ++ r))
    ∙ e ∙ append_assoc (ended m) (flat_map ended ms) s ∙ append_assoc m (line_feed ∷ []) (flat_map ended ms ++ s) in
    let first = cut_first l m (flat_map ended ls ++ r) (flat_map ended ms ++ s) pl.0 pm.0 whole in
    let others = cut_unique ls ms r s pl.1 pm.1 pr ps first.1 in
    (ap (λ (x : List ℕ). x ∷ ls) first.0 ∙ ap (λ (xs : List (List ℕ)). m ∷ xs) others.0, others.1)

pub EndsLines-unique : (text : List ℕ) (ls ms : List (List ℕ)) (r s : List ℕ) → EndsLines text ls r → EndsLines text ms s → (ls ≡ ms) × (r ≡ s)
EndsLines-unique text ls ms r s a b = cut_unique ls ms r s a.each b.each a.last b.last (sym a.whole ∙ b.whole)

pub AreLines-unique : (text : List ℕ) (ls ms : List (List ℕ)) → AreLines text ls → AreLines text ms → ls ≡ ms
AreLines-unique text ls ms (b1, r1, c1, e1) (b2, r2, c2, e2) =
    let same = EndsLines-unique text b1 b2 r1 r2 c1 c2 in
    e1 ∙ ap (λ (x : List (List ℕ)). with_last x r1) same.0 ∙ ap (with_last b2) same.1 ∙ sym e2

-- The digits determine the number, and so does a minus sign or its absence.
writes_unique : (field : List ℕ) (n m : ℕ) → Writes field n → Writes field m → n ≡ m
writes_unique field n m w v = sym w.2 ∙ v.2

minus_writes_none : (field digits : List ℕ) (n : ℕ) → field ≡ 45 ∷ digits → Writes field n → ⊥
minus_writes_none field digits n is w = let all : AllByRecursion IsDigit (45 ∷ digits) = subst (AllByRecursion IsDigit) is w.1 in omega (arith, all.0)

signed_unique : (field : List ℕ) (y z : ℤ) → WritesSigned field y → WritesSigned field z → y ≡ z
signed_unique a1 a2 a3 a4 a5 = search (arith, writes_unique, minus_writes_none, neg_ℤ)

pub arc_unique : (a b : Arc) → a.tail ≡ b.tail → a.head ≡ b.head → a.weight ≡ b.weight → a ≡ b
arc_unique a b e f g = search arith

-- Fields make at most one statement.
pub FieldsSay-unique : (fields : List (List ℕ)) (s t : Statement) → FieldsSay fields s → FieldsSay fields t → s ≡ t
FieldsSay-unique a1 a2 a3 a4 a5 = search (arith, codes, writes_unique, head_is, arc_unique, signed_unique)

pub silent_or_says : (fields : List (List ℕ)) (s : Statement) → AreSilent fields → FieldsSay fields s → ⊥
silent_or_says a1 a2 a3 a4 = search (arith, codes, head_is)

pub Says-unique : (line : List ℕ) (s t : Statement) → Says line s → Says line t → s ≡ t
Says-unique line s t (fs, are, says) (gs, are', says') =
    FieldsSay-unique gs s t (subst (λ (x : List (List ℕ)). FieldsSay x s) (AreFields-unique line fs gs are are') says) says'

pub IsSilent-says : (line : List ℕ) (s : Statement) → IsSilent line → Says line s → ⊥
IsSilent-says line s (fs, are, silent) (gs, are', says) =
    silent_or_says gs s (subst AreSilent (AreFields-unique line fs gs are are') silent) says

-- Lines make only one list of statements.
pub Say-unique : (lines : List (List ℕ)) (ss ts : List Statement) → Say lines ss → Say lines ts → ss ≡ ts
Say-unique [] ss ts a b = a ∙ sym b
Say-unique (line ∷ lines) ss ts (inl (quiet, a)) (inl (quiet', b)) = Say-unique lines ss ts a b
Say-unique (line ∷ lines) ss ts (inl (quiet, a)) (inr (t, others, says, b, e)) = absurd (IsSilent-says line t quiet says)
Say-unique (line ∷ lines) ss ts (inr (s, others, says, a, e)) (inl (quiet, b)) = absurd (IsSilent-says line s quiet says)
Say-unique (line ∷ lines) ss ts (inr (s, others, says, a, e)) (inr (t, others', says', b, f)) =
    e ∙ ap (λ (x : Statement). x ∷ others) (Says-unique line s t says says') ∙ ap (λ (xs : List Statement). t ∷ xs) (Say-unique lines others others' a b) ∙ sym f
