-- The words that an operator gives, alone or of a number, by plain functions of the operator: so a table's rows are tested by computing.
use Rattle.std.proofs.Common.{◌≡◌, ℕ, ◌+◌, ◌%◌, [], ◌∷◌, Bool, true, false, ◌&&◌, leb, ltb, Ok, Result}
use Rattle.yayul.specs.Layout.{and_then}
use Rattle.yayul.specs.Laws.{GivesAlone, GivesWith, LeavesExtracode, may_stand}
use Rattle.yayul.specs.Operators.{bits_under, code, field_size, stays_extended}
use Rattle.yayul.specs.Words.{accepted, address_below, address_of, field_of}
use Rattle.yayul.specs.Language.{AddressedCode, FaultKind, No, Num, Operator, Takes, Twelve}
use Rattle.yayul.specs.declared.language.Takes.TheVariants as takes

-- the type of what a row says, which other crates cannot name
abbrev pub Says : Type 0
Says = Operator

-- ## Alone
abbrev pub stands_alone : Operator → Bool → Bool
stands_alone (Operator.Plain i) extracode = may_stand i.extracode extracode
stands_alone _ extracode = false

abbrev pub word_alone : Operator → ℕ
word_alone (Operator.Plain i) = i.code
word_alone _ = 0

abbrev pub extends_alone : Operator → Bool
extends_alone (Operator.Plain i) = i.extends
extends_alone _ = false

pub gives_alone : (operator : Operator) (extracode : Bool) (word : ℕ) → GivesAlone operator extracode word
    → (stands_alone operator extracode ≡ true) × (word ≡ word_alone operator)
gives_alone Operator.Setloc extracode word given = absurd given
gives_alone (Operator.Bank taken) extracode word given = absurd given
gives_alone Operator.Erase extracode word given = absurd given
gives_alone Operator.Equals extracode word given = absurd given
gives_alone Operator.Ebank extracode word given = absurd given
gives_alone Operator.Octal extracode word given = absurd given
gives_alone Operator.Decimal extracode word given = absurd given
gives_alone Operator.FarAddress extracode word given = absurd given
gives_alone (Operator.Plain i) extracode word given = given
gives_alone (Operator.Addressed i) extracode word given = absurd given
gives_alone (Operator.ToNext i) extracode word given = absurd given

pub leaves_alone : (operator : Operator) (extracode : Bool) (word : ℕ) (after : Bool) → GivesAlone operator extracode word
    → extends_alone operator ≡ after → LeavesExtracode operator extracode after
leaves_alone Operator.Setloc extracode word after given same = absurd given
leaves_alone (Operator.Bank taken) extracode word after given same = absurd given
leaves_alone Operator.Erase extracode word after given same = absurd given
leaves_alone Operator.Equals extracode word after given same = absurd given
leaves_alone Operator.Ebank extracode word after given same = absurd given
leaves_alone Operator.Octal extracode word after given same = absurd given
leaves_alone Operator.Decimal extracode word after given same = absurd given
leaves_alone Operator.FarAddress extracode word after given same = absurd given
leaves_alone (Operator.Plain i) extracode word after given same = same
leaves_alone (Operator.Addressed i) extracode word after given same = absurd given
leaves_alone (Operator.ToNext i) extracode word after given same = absurd given

-- ## Of a number
-- what a field holds: the number, the one after it, the address of a fixed place, or a channel
pub data Kind : Type 0 where
  Number Pair Far Channel : Kind

-- what a field of a kind holds of a number, if it takes it
abbrev pub field : Kind → ℕ → ℕ → Result ℕ FaultKind
field Number size n = address_below size (Num n)
field Pair size n = and_then (λ address. Ok ((address + 1) % size)) (address_below size (Num n))
field Far size n = and_then (accepted (λ a. leb 0o2000 a)) (address_of (Num n))
field Channel size n = accepted (λ channel. ltb channel size) n

-- a code gives a word of a number: its least word and a field
abbrev pub Gives : Kind → ℕ → ℕ → ℕ → ℕ → Type 0
Gives kind least size n word = and_then (λ f. Ok ((least + f) ∷ [])) (field kind size n) ≡ Ok (word ∷ [])

-- the kind of what an operand is taken as, where that is no place
abbrev pub kind_taken : Takes → Kind
kind_taken takes.Address = Number
kind_taken takes.Pair = Pair
kind_taken takes.FixedAddress = Far
kind_taken takes.Channel = Channel
kind_taken takes.ErasablePlace = Number
kind_taken takes.FixedPlace = Number

abbrev pub is_no_place : Takes → Bool
is_no_place takes.Address = true
is_no_place takes.Pair = true
is_no_place takes.FixedAddress = true
is_no_place takes.Channel = true
is_no_place takes.ErasablePlace = false
is_no_place takes.FixedPlace = false

-- the code of an operator with an operand; any, of one without
abbrev pub code_in : Operator → AddressedCode
code_in (Operator.Addressed i) = i
code_in (Operator.ToNext i) = i
code_in _ = code 0 Twelve No takes.Address

abbrev pub has_code : Operator → Bool
has_code (Operator.Addressed i) = true
has_code (Operator.ToNext i) = true
has_code _ = false

abbrev pub stands_with : Operator → Bool → Bool
stands_with operator extracode = has_code operator && may_stand (code_in operator).extracode extracode

abbrev pub takes_number : Operator → Bool
takes_number operator = is_no_place (code_in operator).takes

abbrev pub kind_of : Operator → Kind
kind_of operator = kind_taken (code_in operator).takes

abbrev pub least_of : Operator → ℕ
least_of operator = (code_in operator).least

abbrev pub size_of : Operator → Bool → ℕ
size_of operator extracode = field_size (bits_under (code_in operator).extracode (code_in operator).bits extracode)

-- whether extracode stays in force
abbrev pub stays_with : Operator → Bool → Bool
stays_with operator extracode = stays_extended (code_in operator).extracode && extracode

taken_gives : (t : Takes) (least size n word : ℕ) → is_no_place t ≡ true
    → and_then (λ f. Ok ((least + f) ∷ [])) (field_of t size (Num n)) ≡ Ok (word ∷ []) → Gives (kind_taken t) least size n word
taken_gives takes.Address least size n word number given = given
taken_gives takes.Pair least size n word number given = given
taken_gives takes.FixedAddress least size n word number given = given
taken_gives takes.Channel least size n word number given = given
taken_gives takes.ErasablePlace least size n word number given = absurd (cc)
taken_gives takes.FixedPlace least size n word number given = absurd (cc)

pub given_stands : (operator : Operator) (extracode : Bool) (n word : ℕ) → GivesWith operator extracode n word
    → stands_with operator extracode ≡ true
given_stands Operator.Setloc extracode n word given = absurd given
given_stands (Operator.Bank taken) extracode n word given = absurd given
given_stands Operator.Erase extracode n word given = absurd given
given_stands Operator.Equals extracode n word given = absurd given
given_stands Operator.Ebank extracode n word given = absurd given
given_stands Operator.Octal extracode n word given = absurd given
given_stands Operator.Decimal extracode n word given = absurd given
given_stands Operator.FarAddress extracode n word given = absurd given
given_stands (Operator.Plain i) extracode n word given = absurd given
given_stands (Operator.Addressed i) extracode n word given = given.0
given_stands (Operator.ToNext i) extracode n word given = given.0

pub gives_with : (operator : Operator) (extracode : Bool) (n word : ℕ) → takes_number operator ≡ true
    → GivesWith operator extracode n word → Gives (kind_of operator) (least_of operator) (size_of operator extracode) n word
gives_with Operator.Setloc extracode n word number given = absurd given
gives_with (Operator.Bank taken) extracode n word number given = absurd given
gives_with Operator.Erase extracode n word number given = absurd given
gives_with Operator.Equals extracode n word number given = absurd given
gives_with Operator.Ebank extracode n word number given = absurd given
gives_with Operator.Octal extracode n word number given = absurd given
gives_with Operator.Decimal extracode n word number given = absurd given
gives_with Operator.FarAddress extracode n word number given = absurd given
gives_with (Operator.Plain i) extracode n word number given = absurd given
gives_with (Operator.Addressed i) extracode n word number given =
    taken_gives i.takes i.least (field_size (bits_under i.extracode i.bits extracode)) n word number given.1
gives_with (Operator.ToNext i) extracode n word number given =
    taken_gives i.takes i.least (field_size (bits_under i.extracode i.bits extracode)) n word number given.1

pub leaves_with : (operator : Operator) (extracode : Bool) (n word : ℕ) (after : Bool) → GivesWith operator extracode n word
    → stays_with operator extracode ≡ after → LeavesExtracode operator extracode after
leaves_with Operator.Setloc extracode n word after given same = absurd given
leaves_with (Operator.Bank taken) extracode n word after given same = absurd given
leaves_with Operator.Erase extracode n word after given same = absurd given
leaves_with Operator.Equals extracode n word after given same = absurd given
leaves_with Operator.Ebank extracode n word after given same = absurd given
leaves_with Operator.Octal extracode n word after given same = absurd given
leaves_with Operator.Decimal extracode n word after given same = absurd given
leaves_with Operator.FarAddress extracode n word after given same = absurd given
leaves_with (Operator.Plain i) extracode n word after given same = absurd given
leaves_with (Operator.Addressed i) extracode n word after given same = λ operand. same
leaves_with (Operator.ToNext i) extracode n word after given same = λ operand. same
