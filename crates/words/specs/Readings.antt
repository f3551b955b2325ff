-- What reading a whole text takes from a reader, and what its faults mean.
use Rattle.std.specs.Prelude.{◌≡◌, ℕ, ◌+◌, ◌≤◌, Bool, true, false, List, [], ◌++◌, length, Result, Ok, Err}
use Rattle.words.specs.declared.text.ReadFault.{ReadFault}
use Rattle.words.specs.declared.text.ReadFault.TheVariants.{NoMemory, ReadFailed, TooLong}

-- some bytes were taken from the front of those that were left, as many as n or fewer
pub record TakesAtMost (n : ℕ) (old new : List ℕ) : Type 0 where
  pub bytes : List ℕ
  pub front : old ≡ bytes ++ new
  pub most : length bytes ≤ n

-- n bytes were taken from the front of those that were left
pub record Takes (n : ℕ) (old new : List ℕ) : Type 0 where
  pub bytes : List ℕ
  pub front : old ≡ bytes ++ new
  pub count : length bytes ≡ n

-- what a fault has taken: at most the limit where a read failed, one byte more where the text is too long
abbrev pub FaultTakes : ReadFault → ℕ → List ℕ → List ℕ → Type 0
FaultTakes NoMemory most old new = TakesAtMost (most + 1) old new
FaultTakes ReadFailed most old new = TakesAtMost most old new
FaultTakes TooLong most old new = Takes (most + 1) old new

-- the answer that a failed read gives
abbrev pub has_read_failed : {T : Type 0} → Result T ReadFault → Bool
has_read_failed (Ok x) = false
has_read_failed (Err NoMemory) = false
has_read_failed (Err ReadFailed) = true
has_read_failed (Err TooLong) = false

-- one read has put n bytes at the end of a text, none only at the end of what was left
pub record ReadsOnto (left_old left_new old new : List ℕ) (n : ℕ) : Type 0 where
  pub bytes : List ℕ
  pub onto : new ≡ old ++ bytes
  pub front : left_old ≡ bytes ++ left_new
  pub count : length bytes ≡ n
  pub end : n ≡ 0 → left_old ≡ []
