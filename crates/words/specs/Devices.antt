-- What calls of readers and writers do to the bytes that they tell, and to the count of failures.
use Rattle.std.specs.Prelude.{◌≡◌, ℕ, ◌+◌, ◌-◌, ◌^◌, Bool, true, ◌&&◌, min, List, ◌++◌, length, nat_eq, nat_lt, Result, is_ok, Ok, Err}
use Rattle.std.specs.Prelude.{if◌then◌else◌}

-- the count after one more failure, which stays at its greatest value
abbrev pub one_more : ℕ → ℕ
one_more n = min (n + 1) (2 ^ 128 - 1)

-- the count after a call that answered r
abbrev pub failures_after : {T E : Type 0} → ℕ → Result T E → ℕ
failures_after n r = if is_ok r then n else one_more n

-- a write fails too where it takes none of some bytes
abbrev pub write_fails : {E : Type 0} → Result ℕ E → List ℕ → Bool
write_fails (Ok n) bytes = nat_eq n 0 && nat_lt 0 (length bytes)
write_fails (Err e) bytes = true

-- the count after a write that answered r
abbrev pub failures_after_write : {E : Type 0} → ℕ → Result ℕ E → List ℕ → ℕ
failures_after_write n r bytes = if write_fails r bytes then one_more n else n

-- the text begins with part
pub record IsBeginning (part text : List ℕ) : Type 0 where
  pub rest : List ℕ
  pub whole : text ≡ part ++ rest

-- a beginning of the text was written
pub record WritesBeginning (old new text : List ℕ) : Type 0 where
  pub part : List ℕ
  pub beginning : IsBeginning part text
  pub appended : new ≡ old ++ part

-- a call that writes a text: all of it on Ok, a beginning of it on Err
abbrev pub Writes : {T E : Type 0} → List ℕ → List ℕ → List ℕ → Result T E → Type 0
Writes old new text (Ok x) = new ≡ old ++ text
Writes old new text (Err e) = WritesBeginning old new text
