-- What EQUALS comes to: a value, or a name that waits.
use Rattle.std.proofs.Common.{◌≡◌, ℕ, Bool, true, false, List, [], ◌∷◌, ◌++◌, Option, None, Some, is_some, Result, Ok, Err, refl, ap, sym}
use Rattle.std.proofs.Common.{◌∙◌, ◌+◌, ◌-◌, arith, get_or, length, append_assoc, append-nil}
use Rattle.std.specs.Prelude.{OnOk, if◌then◌else◌}
use Rattle.std.specs.Result.{result_unwrap_or}
use Rattle.std.specs.List.{slice_get}
use Rattle.std.proofs.Math.Seq.{get_or-append_seam}
use Rattle.std.proofs.lemmas.List.{length-append}
use Rattle.std.proofs.lemmas.Option.{slice_get-get_or}
use Rattle.agc_text.specs.Tables.{value_in}
use Rattle.yayul.specs.Layout.{Promise, Layout, LineEffect, and_then, early_value, equals, is_later, promised, valued, with_promise}
use Rattle.yayul.specs.Later.{Table, awaited, four_rounds, kept, round, settled, with_value}
use Rattle.yayul.specs.Language.{BadOperand, FaultKind, Label, Malformed, Missing, Named, Num, Operand, Value}

-- what holds of each value and of each name that waits, holds of EQUALS
pub by_later : (P : LineEffect → Type 0) (line : ℕ) (s : Layout) (label : Label) (operand : Option Operand)
    → ((value : Result Value FaultKind) → P (valued s label value)) → ((o : Operand) → P (promised line s label o))
    → P (equals line s label operand)
by_later P line s label None known waits = known (Err BadOperand)
by_later P line s label (Some operand) known waits = by_test (is_later s operand)
  where
    by_test : (b : Bool) → P (if b then promised line s label operand else valued s label (early_value s (Some operand)))
    by_test true = waits operand
    by_test false = known (early_value s (Some operand))

-- a name that waits changes nothing else
pub promise_symbols : (line : ℕ) (s : Layout) (label : Label) (operand : Operand) → (with_promise line s label operand).symbols ≡ s.symbols
promise_symbols line s Missing operand = refl
promise_symbols line s Malformed operand = refl
promise_symbols line s (Named name) operand = refl

pub promise_requests : (line : ℕ) (s : Layout) (label : Label) (operand : Operand)
    → (with_promise line s label operand).requests ≡ s.requests
promise_requests line s Missing operand = refl
promise_requests line s Malformed operand = refl
promise_requests line s (Named name) operand = refl

pub promise_language : (line : ℕ) (s : Layout) (label : Label) (operand : Operand)
    → (with_promise line s label operand).language ≡ s.language
promise_language line s Missing operand = refl
promise_language line s Malformed operand = refl
promise_language line s (Named name) operand = refl

-- a new name that is promised, and held, waits
pub promise_leads : {E : Type 0} (line : ℕ) (s t u : Layout) (name : List ℕ) (operand : Operand) (result : Result (Unit {0}) E)
    → t ≡ record s { promised = s.promised ++ (name, Num 0) ∷ [] }
    → OnOk result ((before : Table) (n : List ℕ) (v : Value) → t.promised ≡ before ++ (n, v) ∷ []
    → u ≡ record t { promises = t.promises ++ record { line = line; name = n; operand = operand } ∷ [] })
    → OnOk result (u ≡ with_promise line s (Named name) operand)
promise_leads line s t u name operand (Ok x) with_name held =
    held s.promised name (Num 0) (ap (λ (l : Layout). l.promised) with_name)
    ∙ ap (λ (l : Layout). record l { promises = l.promises ++ record { line = line; name = name; operand = operand } ∷ [] }) with_name
promise_leads line s t u name operand (Err e) with_name held = tt

-- the last entry of a table
pub last_entry : (table before : Table) (name : List ℕ) (value : Value) → table ≡ before ++ (name, value) ∷ []
    → slice_get table (length table - 1) ≡ Some (name, value)
last_entry table before name value is =
    let count : length table ≡ length before + 1 = ap length is ∙ length-append before ((name, value) ∷ []) in
    let at : length table - 1 ≡ length before = omega (arith, count) in
    ap (slice_get table) at ∙ slice_get-get_or table (length before) (name, value) (omega (arith, count))
    ∙ ap (λ e. Some e) (ap (λ t. get_or t (length before) (name, value)) is ∙ get_or-append_seam before (name, value) [] (name, value))

-- ## The values of names that wait
-- more symbols follow
abbrev pub Follows : Table → Table → Type 0
Follows table more = (names : Table) × (more ≡ table ++ names)

none_follow : (table : Table) → Follows table table
none_follow table = ([], sym (append-nil table))

both_follow : (a b c : Table) → Follows a b → Follows b c → Follows a c
both_follow a b c first second =
    (first.0 ++ second.0, second.1 ∙ ap (λ t. t ++ second.0) first.1 ∙ append_assoc a first.0 second.0)

with_value_follows : (table : Table) (name : List ℕ) (value : Value) → Follows table (with_value table name value)
with_value_follows table name value = by_test (is_some (value_in table name))
  where
    by_test : (b : Bool) → Follows table (if b then table else table ++ (name, value) ∷ [])
    by_test true = none_follow table
    by_test false = ((name, value) ∷ [], refl)

kept_follows : (table : Table) (p : Promise) → Follows table (kept table p)
kept_follows table p = by_value (awaited table p.operand)
  where
    by_value : (value : Result Value FaultKind) → Follows table
        (result_unwrap_or (and_then (λ v. Ok (with_value table p.name v)) value) table)
    by_value (Ok v) = with_value_follows table p.name v
    by_value (Err kind) = none_follow table

round_follows : (promises : List Promise) (table : Table) → Follows table (round promises table)
round_follows [] table = none_follow table
round_follows (p ∷ promises) table = both_follow table (kept table p) (round promises (kept table p)) (kept_follows table p)
    (round_follows promises (kept table p))

rounds_follow : (promises : List Promise) (table : Table) → Follows table (four_rounds promises table)
rounds_follow promises table =
    let a : Table = round promises table in
    let b : Table = round promises a in
    let c : Table = round promises b in
    both_follow table c (round promises c) (both_follow table b c
    (both_follow table a b (round_follows promises table) (round_follows promises a)) (round_follows promises b))
    (round_follows promises c)

pub settled_follows : (promises : List Promise) (table : Table) → Follows table (settled promises table)
settled_follows promises table =
    both_follow table (four_rounds promises table) (settled promises table) (rounds_follow promises table)
    (rounds_follow promises (four_rounds promises table))

-- what holds of a table holds once names have their values, where it holds of a table with a symbol more that it did not have
module _ (P : Table → Type 0) (next : (table : Table) (name : List ℕ) (value : Value) → is_some (value_in table name) ≡ false → P table
    → P (table ++ (name, value) ∷ [])) where
  kept_holds : (table : Table) (p : Promise) → P table → P (kept table p)
  kept_holds table p holds = by_value (awaited table p.operand)
    where
      by_test : (v : Value) (b : Bool) → is_some (value_in table p.name) ≡ b → P (if b then table else table ++ (p.name, v) ∷ [])
      by_test v true e = holds
      by_test v false e = next table p.name v e holds

      by_value : (value : Result Value FaultKind) → P (result_unwrap_or (and_then (λ v. Ok (with_value table p.name v)) value) table)
      by_value (Ok v) = by_test v (is_some (value_in table p.name)) refl
      by_value (Err kind) = holds

  round_holds : (promises : List Promise) (table : Table) → P table → P (round promises table)
  round_holds [] table holds = holds
  round_holds (p ∷ promises) table holds = round_holds promises (kept table p) (kept_holds table p holds)

  rounds_hold : (promises : List Promise) (table : Table) → P table → P (four_rounds promises table)
  rounds_hold promises table holds = round_holds promises _
      (round_holds promises _ (round_holds promises _ (round_holds promises table holds)))

  pub settled_holds : (promises : List Promise) (table : Table) → P table → P (settled promises table)
  settled_holds promises table holds = rounds_hold promises _ (rounds_hold promises table holds)
