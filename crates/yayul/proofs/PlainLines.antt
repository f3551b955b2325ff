-- What a line does that asks for no words is the same, whatever requests stand before it.
use Rattle.std.proofs.Common.{◌≡◌, ℕ, Bool, true, false, List, [], ◌∷◌, ◌++◌, Option, None, Some, Result, Ok, Err, refl, ap, sym, inl, inr}
use Rattle.std.proofs.Common.{append-nil, ◌<◌, arith}
use Rattle.std.proofs.lemmas.Bool.{cases_Bool}
use Rattle.std.proofs.lemmas.Bool.Decides.{nat_tests}
use Rattle.std.specs.Prelude.{if◌then◌else◌}
use Rattle.rope.specs.Places.{banks}
use Rattle.yayul.specs.Operators.{is_bank}
use Rattle.yayul.specs.Layout.{Layout, LineEffect, defined, value_here, label_alone, relocated, bank_target, early_value, equals, erase}
use Rattle.yayul.specs.Layout.{is_later, promised, valued, ebank}
use Rattle.yayul.specs.Language.{All, BadOperand, BankRange, TwoOrThree, Label, Malformed, Missing, Named, FaultKind, Operand, Numeral}
use Rattle.yayul.specs.Language.{NoForm, TooLarge, Is, Value, Location}
use Rattle.yayul.specs.Inside.Answers.{with_requests}
use Rattle.yayul.specs.Inside.Representation.{bank_target_by}
use Rattle.yayul.specs.Inside.Sound.{AreEnds}

-- more symbols follow
abbrev Extends : List (List ℕ × Value) → List (List ℕ × Value) → Type 0
Extends table more = (names : List (List ℕ × Value)) × (more ≡ table ++ names)

-- a line that asks for no words does as much without the requests before it, which it leaves as they are
pub record Lifts (s : Layout) (bare e : LineEffect) : Type 0 where
  pub faults : bare.faults ≡ e.faults
  pub after : bare.after ≡ with_requests [] e.after
  pub requests : e.after.requests ≡ s.requests
  pub symbols : Extends s.symbols e.after.symbols

none_more : (table : List (List ℕ × Value)) → Extends table table
none_more table = ([], sym (append-nil table))

pub defined_more : (s : Layout) (label : Label) (value : Value) → Extends s.symbols (defined s label value).symbols
defined_more s Missing value = none_more s.symbols
defined_more s Malformed value = none_more s.symbols
defined_more s (Named name) value = ((name, value) ∷ [], refl)

module _ (s : Layout) where
  -- the layout without requests
  abbrev bare : Layout
  bare = with_requests [] s

  pub defined_after : (label : Label) (value : Value) → defined bare label value ≡ with_requests [] (defined s label value)
  defined_after Missing value = refl
  defined_after Malformed value = refl
  defined_after (Named name) value = refl

  pub defined_requests : (label : Label) (value : Value) → (defined s label value).requests ≡ s.requests
  defined_requests Missing value = refl
  defined_requests Malformed value = refl
  defined_requests (Named name) value = refl

  alone_faults : (label : Label) → (label_alone bare label).faults ≡ (label_alone s label).faults
  alone_faults Missing = refl
  alone_faults Malformed = refl
  alone_faults (Named name) = refl

  pub alone_lifts : (label : Label) → Lifts s (label_alone bare label) (label_alone s label)
  alone_lifts label =
      record {
        faults = alone_faults label;
        after = defined_after label (value_here s.location);
        requests = defined_requests label (value_here s.location);
        symbols = defined_more s label (value_here s.location);
      }

  pub relocated_lifts : (label : Label) (target : Result Location FaultKind)
      → Lifts s (relocated bare label target) (relocated s label target)
  relocated_lifts label target = record { faults = refl; after = refl; requests = refl; symbols = none_more s.symbols }

  pub ebank_lifts : (label : Label) (operand : Option Operand) → Lifts s (ebank bare label operand) (ebank s label operand)
  ebank_lifts label operand = record { faults = refl; after = refl; requests = refl; symbols = none_more s.symbols }

  erase_faults : (label : Label) (count : Numeral) → (erase bare label count).faults ≡ (erase s label count).faults
  erase_faults Missing count = refl
  erase_faults Malformed count = refl
  erase_faults (Named name) count = refl

  pub erase_lifts : (label : Label) (count : Numeral) → Lifts s (erase bare label count) (erase s label count)
  erase_lifts label count =
      record {
        faults = erase_faults label count;
        after = ap (λ (t : Layout). record t { location = (erase s label count).after.location })
            (defined_after label (value_here s.location));
        requests = defined_requests label (value_here s.location);
        symbols = defined_more s label (value_here s.location);
      }

  valued_faults : (label : Label) (value : Result Value FaultKind) → (valued bare label value).faults ≡ (valued s label value).faults
  valued_faults Missing value = refl
  valued_faults Malformed value = refl
  valued_faults (Named name) value = refl

  pub valued_lifts : (label : Label) (value : Result Value FaultKind) → Lifts s (valued bare label value) (valued s label value)
  valued_lifts label (Ok value) =
      record {
        faults = valued_faults label (Ok value);
        after = defined_after label value;
        requests = defined_requests label value;
        symbols
            = defined_more s label value;
      }
  valued_lifts label (Err kind) =
      record { faults = valued_faults label (Err kind); after = refl; requests = refl; symbols = none_more s.symbols }

  promised_lifts : (line : ℕ) (label : Label) (operand : Operand)
      → Lifts s (promised line bare label operand) (promised line s label operand)
  promised_lifts line Missing operand = record { faults = refl; after = refl; requests = refl; symbols = none_more s.symbols }
  promised_lifts line Malformed operand = record { faults = refl; after = refl; requests = refl; symbols = none_more s.symbols }
  promised_lifts line (Named name) operand = record { faults = refl; after = refl; requests = refl; symbols = none_more s.symbols }

  pub equals_lifts : (line : ℕ) (label : Label) (operand : Option Operand)
      → Lifts s (equals line bare label operand) (equals line s label operand)
  equals_lifts line label None = valued_lifts label (Err BadOperand)
  equals_lifts line label (Some operand) = by_test (is_later s operand)
    where
      by_test : (b : Bool)
          → Lifts s (if b then promised line bare label operand else valued bare label (early_value s (Some operand)))
          (if b then promised line s label operand else valued s label (early_value s (Some operand)))
      by_test true = promised_lifts line label operand
      by_test false = valued_lifts label (early_value s (Some operand))

-- the bank that an operator takes is one of those with words
taken_bank : (taken : BankRange) (n : ℕ) → is_bank taken n ≡ true → n < banks
taken_bank All n taken = grind (arith, nat_tests)
taken_bank TwoOrThree n taken = grind (arith, nat_tests)

-- the ends of the banks tell what the requests do
pub target_by_ends : (s : Layout) (ends : List ℕ) (taken : BankRange) (number : Numeral) → AreEnds ends s.requests
    → bank_target_by ends taken number ≡ bank_target s taken number
target_by_ends s ends taken NoForm are = refl
target_by_ends s ends taken TooLarge are = refl
target_by_ends s ends taken (Is n) are =
    elim (cases_Bool (is_bank taken n)) [
      | inl takes ↦ rw (takes, (are n (taken_bank taken n takes)).0) refl
      | inr refuses ↦ rw refuses refl
    ]
