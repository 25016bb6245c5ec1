-- The fields of a line, and the numbers that they write.
use Rattle.std.specs.Prelude.{◌≡◌, ◌≢◌, ℕ, ℤ, pos, neg_ℤ, ◌+◌, ◌*◌, ◌-◌, ◌≤◌, ◌⊎◌, List, [], ◌∷◌, ◌++◌, fold}
use Rattle.std.specs.List.{AllByRecursion}

-- a space, a tab or a carriage return
abbrev pub IsBlank : ℕ → Type 0
IsBlank b = (b ≡ 32) ⊎ (b ≡ 9) ⊎ (b ≡ 13)

abbrev pub IsFieldByte : ℕ → Type 0
IsFieldByte b = ¬ (IsBlank b)

-- no bytes, or bytes that begin with a blank
abbrev pub BeginsBlank : List ℕ → Type 0
BeginsBlank [] = Unit {0}
BeginsBlank (b ∷ bytes) = IsBlank b

-- the fields of a line are its longest runs of bytes that aren't blank: blanks, a field, blanks, a field and so on
abbrev pub AreFields : List ℕ → List (List ℕ) → Type 0
AreFields line [] = AllByRecursion IsBlank line
AreFields line (field ∷ fields) = (blanks after : List ℕ)
    × AllByRecursion IsBlank blanks × (field ≢ []) × AllByRecursion IsFieldByte field
    × (line ≡ blanks ++ field ++ after) × BeginsBlank after × AreFields after fields

abbrev pub IsDigit : ℕ → Type 0
IsDigit b = (48 ≤ b) × (b ≤ 57)

-- the number that decimal digits write
abbrev pub number_written : List ℕ → ℕ
number_written digits = fold (λ n b. 10 * n + (b - 48)) 0 digits

-- the field consists of one or more digits that write n; leading zeros are allowed
abbrev pub Writes : List ℕ → ℕ → Type 0
Writes field n = (field ≢ []) × AllByRecursion IsDigit field × (number_written field ≡ n)

-- the same with at most one minus sign before the digits
abbrev pub WritesSigned : List ℕ → ℤ → Type 0
WritesSigned field z = ((n : ℕ) × Writes field n × (z ≡ pos n))
    ⊎ ((digits : List ℕ) × (n : ℕ) × (field ≡ 45 ∷ digits) × Writes digits n × (z ≡ neg_ℤ (pos n)))
