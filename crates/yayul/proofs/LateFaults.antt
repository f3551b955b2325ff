-- The kinds of faults that what a line says may have: their numbers are greater than those of its bytes, its length and its number.
use Rattle.std.proofs.Common.{◌≡◌, ℕ, ◌+◌, ◌-◌, ◌<◌, ◌≤◌, Bool, true, false, nat_le, ◌&&◌, ◌||◌, not, List, [], ◌∷◌, ◌++◌, fold, Option}
use Rattle.std.proofs.Common.{Some, None, Result, Ok, Err, refl, ap, ◌∙◌, arith}
use Rattle.std.specs.Prelude.{ok_or, if◌then◌else◌}
use Rattle.std.specs.Option.{option_map}
use Rattle.std.specs.Result.{result_err}
use Rattle.std.proofs.lemmas.Bool.Decides.{nat_tests}
use Rattle.agc_text.specs.Tables.{value_in}
use Rattle.symbols.specs.Values.{place_of}
use Rattle.yayul.specs.Operators.{is_bank}
use Rattle.yayul.specs.Forms.{greatest_number}
use Rattle.yayul.specs.Layout.{Layout, fault_number, fault_if, standing, and_then, moved, moved_value, term_value, value_of, location_of}
use Rattle.yayul.specs.Layout.{location_at, erasable_number, erasable_place, value_here, early_value, is_malformed, is_missing, is_twice}
use Rattle.yayul.specs.Layout.{is_taken, is_erasable, lacks_room, width, bank_target, erased_to, equals, is_later, promised, valued}
use Rattle.yayul.specs.Layout.{statement_effect}
use Rattle.yayul.specs.Later.{Table, awaited, value_of_promise, promise_kind, waiting_kind}
use Rattle.yayul.specs.Inside.Answers.{lesser_kind, least_kind}
use Rattle.yayul.specs.Language.{FaultKind, NotAscii, LongLine, TooManyLines, BadLabel, TwiceDefined, UnknownOperator, BadOperand}
use Rattle.yayul.specs.Language.{UsedTooEarly, BadBank, BankFull, PlaceTaken, CodeInErasable, NeedsExtend, NoMemory, NotExtracode}
use Rattle.yayul.specs.Language.{OutOfRange, Undefined, WrongKindOfAddress, Label, Malformed, Missing, Named, Operation, Nothing, Unknown}
use Rattle.yayul.specs.Language.{Setloc, Bank, Erase, Equals, Ebank, Gives, BankRange, Numeral, NoForm, TooLarge, Is, Operand, Shift, Plus}
use Rattle.yayul.specs.Language.{Minus, Term, Value, Num, Erasable, Fixed, Location}

-- the kinds of faults that what a line says may have
abbrev pub is_of_fields : FaultKind → Bool
is_of_fields BadLabel = true
is_of_fields TwiceDefined = true
is_of_fields UnknownOperator = true
is_of_fields BadOperand = true
is_of_fields UsedTooEarly = true
is_of_fields BadBank = true
is_of_fields BankFull = true
is_of_fields PlaceTaken = true
is_of_fields CodeInErasable = true
is_of_fields WrongKindOfAddress = true
is_of_fields OutOfRange = true
is_of_fields _ = false

abbrev pub AreLate : List FaultKind → Type 0
AreLate [] = Unit {0}
AreLate (k ∷ ks) = (is_of_fields k ≡ true) × AreLate ks

abbrev pub IsLateIf : Option FaultKind → Type 0
IsLateIf None = Unit {0}
IsLateIf (Some k) = is_of_fields k ≡ true

abbrev pub FailsLate : {A : Type 0} → Result A FaultKind → Type 0
FailsLate (Ok x) = Unit {0}
FailsLate (Err k) = is_of_fields k ≡ true

stands_late : (c : Option FaultKind) (cs : List (Option FaultKind)) → IsLateIf c → AreLate (standing cs) → AreLate (standing (c ∷ cs))
stands_late None cs c_late late = late
stands_late (Some k) cs c_late late = (c_late, late)

late_if : (b : Bool) (k : FaultKind) → is_of_fields k ≡ true → IsLateIf (fault_if b k)
late_if true k late = late
late_if false k late = tt

late_err : {A : Type 0} (r : Result A FaultKind) → FailsLate r → IsLateIf (result_err r)
late_err (Ok x) late = tt
late_err (Err k) late = late

pub then_late : {A B : Type 0} (f : A → Result B FaultKind) (r : Result A FaultKind) → FailsLate r → ((x : A) → FailsLate (f x))
    → FailsLate (and_then f r)
then_late f (Ok x) late each = each x
then_late f (Err k) late each = late

pub choice_late : {A : Type 0} (b : Bool) (r q : Result A FaultKind) → FailsLate r → FailsLate q → FailsLate (if b then r else q)
choice_late true r q r_late q_late = r_late
choice_late false r q r_late q_late = q_late

pub ok_or_late : {A : Type 0} (o : Option A) (k : FaultKind) → is_of_fields k ≡ true → FailsLate (ok_or o k)
ok_or_late None k late = late
ok_or_late (Some x) k late = tt

moved_late : (most n : ℕ) (shift : Shift) → FailsLate (moved most n shift)
moved_late most n (Plus None) = refl
moved_late most n (Plus (Some count)) = choice_late (nat_le (n + count) most) (Ok (n + count)) (Err OutOfRange) tt refl
moved_late most n (Minus None) = refl
moved_late most n (Minus (Some count)) = choice_late (nat_le count n && nat_le (n - count) most) (Ok (n - count)) (Err OutOfRange) tt refl

pub moved_value_late : (shift : Shift) (value : Value) → FailsLate (moved_value shift value)
moved_value_late shift (Num n) = then_late (λ m. Ok (Num m)) (moved greatest_number n shift) (moved_late greatest_number n shift) (λ m. tt)
moved_value_late shift (Erasable n) = then_late (λ m. Ok (Erasable m)) (moved 0o3777 n shift) (moved_late 0o3777 n shift) (λ m. tt)
moved_value_late shift (Fixed bank n) = then_late (λ m. Ok (Fixed bank m)) (moved 0o1777 n shift) (moved_late 0o1777 n shift) (λ m. tt)

term_late : (table : List (List ℕ × Value)) (here : Value) (term : Term) → FailsLate (term_value UsedTooEarly table here term)
term_late table here (Term.Number number) = then_late (λ n. Ok (Num n)) (ok_or number OutOfRange) (ok_or_late number OutOfRange refl)
    (λ n. tt)
term_late table here (Term.Named name) = ok_or_late (value_in table name) UsedTooEarly refl
term_late table here (Term.Place bank offset) = tt
term_late table here Term.Here = tt

early_late : (s : Layout) (operand : Option Operand) → FailsLate (early_value s operand)
early_late s operand =
    then_late (value_of UsedTooEarly s.symbols (value_here s.location)) (ok_or operand BadOperand) (ok_or_late operand BadOperand refl)
    (λ o. then_late (moved_value o.shift) (term_value UsedTooEarly s.symbols (value_here s.location) o.term)
    (term_late s.symbols (value_here s.location) o.term) (moved_value_late o.shift))

pub location_late : (value : Value) → FailsLate (location_at value)
location_late value = ok_or_late (option_map location_of (place_of value)) OutOfRange refl

pub erasable_late : (here : Location) → FailsLate (erasable_number here)
erasable_late (Location.Erasable n) = tt
erasable_late (Location.Fixed bank n) = refl

bank_late : (s : Layout) (taken : BankRange) (number : Numeral) → FailsLate (bank_target s taken number)
bank_late s taken NoForm = refl
bank_late s taken TooLarge = refl
bank_late s taken (Is n) = choice_late (is_bank taken n) _ (Err BadBank) tt refl

erased_late : (here : Location) (count : Numeral) → FailsLate (erased_to here count)
erased_late (Location.Erasable n) NoForm = refl
erased_late (Location.Erasable n) TooLarge = refl
erased_late (Location.Erasable n) (Is count) = choice_late (nat_le (n + count + 1) 0o4000) _ (Err BankFull) tt refl
erased_late (Location.Fixed bank n) NoForm = refl
erased_late (Location.Fixed bank n) TooLarge = refl
erased_late (Location.Fixed bank n) (Is count) = refl

-- the faults of a label, and others
label_late : (s : Layout) (label : Label) (cs : List (Option FaultKind)) → AreLate (standing cs)
    → AreLate (standing (fault_if (is_malformed label) BadLabel ∷ fault_if (is_twice s label) TwiceDefined ∷ cs))
label_late s label cs late =
    stands_late (fault_if (is_malformed label) BadLabel) (fault_if (is_twice s label) TwiceDefined ∷ cs)
    (late_if (is_malformed label) BadLabel refl)
    (stands_late (fault_if (is_twice s label) TwiceDefined) cs (late_if (is_twice s label) TwiceDefined refl) late)

bare_late : {A : Type 0} (label : Label) (r : Result A FaultKind) → FailsLate r
    → AreLate (standing (fault_if (not (is_missing label)) BadLabel ∷ result_err r ∷ []))
bare_late label r late =
    stands_late (fault_if (not (is_missing label)) BadLabel) (result_err r ∷ []) (late_if (not (is_missing label)) BadLabel refl)
    (stands_late (result_err r) [] (late_err r late) tt)

valued_late : (s : Layout) (label : Label) (value : Result Value FaultKind) → FailsLate value → AreLate (valued s label value).faults
valued_late s label value late =
    stands_late (fault_if (is_missing label || is_malformed label) BadLabel)
    (fault_if (is_twice s label) TwiceDefined ∷ result_err value ∷ []) (late_if (is_missing label || is_malformed label) BadLabel refl)
    (stands_late (fault_if (is_twice s label) TwiceDefined) (result_err value ∷ []) (late_if (is_twice s label) TwiceDefined refl)
    (stands_late (result_err value) [] (late_err value late) tt))

equals_late : (line : ℕ) (s : Layout) (label : Label) (operand : Option Operand) → AreLate (equals line s label operand).faults
equals_late line s label None = valued_late s label (Err BadOperand) refl
equals_late line s label (Some operand) = by_test (is_later s operand)
  where
    by_test : (b : Bool) → AreLate (if b then promised line s label operand else valued s label (early_value s (Some operand))).faults
    by_test true = valued_late s label (Ok (Num 0)) tt
    by_test false = valued_late s label (early_value s (Some operand)) (early_late s (Some operand))

pub statement_late : (line : ℕ) (s : Layout) (label : Label) (operation : Operation)
    → AreLate (statement_effect line s label operation).faults
statement_late line s label Nothing =
    label_late s label (fault_if (not (is_missing label) && lacks_room 1 s.location) BankFull ∷ [])
    (stands_late (fault_if (not (is_missing label) && lacks_room 1 s.location) BankFull) []
    (late_if (not (is_missing label) && lacks_room 1 s.location) BankFull refl) tt)
statement_late line s label Unknown = label_late s label (Some UnknownOperator ∷ []) (refl, tt)
statement_late line s label (Setloc operand) = bare_late label _
    (then_late location_at (early_value s operand) (early_late s operand) location_late)
statement_late line s label (Bank taken number) = bare_late label _ (bank_late s taken number)
statement_late line s label (Erase count) =
    label_late s label (fault_if (not (is_missing label) && lacks_room 1 s.location) BankFull ∷ result_err (erased_to s.location count)
    ∷ [])
    (stands_late (fault_if (not (is_missing label) && lacks_room 1 s.location) BankFull) (result_err (erased_to s.location count) ∷ [])
    (late_if (not (is_missing label) && lacks_room 1 s.location) BankFull refl)
    (stands_late (result_err (erased_to s.location count)) [] (late_err (erased_to s.location count) (erased_late s.location count)) tt))
statement_late line s label (Equals operand) = equals_late line s label operand
statement_late line s label (Ebank operand) =
    bare_late label _ (then_late erasable_place (early_value s operand) (early_late s operand)
    (λ v. then_late erasable_number (location_at v) (location_late v) erasable_late))
statement_late line s label (Gives None) = label_late s label (Some BadOperand ∷ []) (refl, tt)
statement_late line s label (Gives (Some content)) =
    label_late s label (fault_if (lacks_room (width content) s.location) BankFull ∷ fault_if (is_taken s (width content)) PlaceTaken
    ∷ fault_if (is_erasable s.location) CodeInErasable ∷ [])
    (stands_late (fault_if (lacks_room (width content) s.location) BankFull)
    (fault_if (is_taken s (width content)) PlaceTaken ∷ fault_if (is_erasable s.location) CodeInErasable ∷ [])
    (late_if (lacks_room (width content) s.location) BankFull refl)
    (stands_late (fault_if (is_taken s (width content)) PlaceTaken) (fault_if (is_erasable s.location) CodeInErasable ∷ [])
    (late_if (is_taken s (width content)) PlaceTaken refl)
    (stands_late (fault_if (is_erasable s.location) CodeInErasable) [] (late_if (is_erasable s.location) CodeInErasable refl) tt)))

-- so is what is wrong with a name that waits
pub waiting_late : (table : Table) (s : Layout) (label : Label) (operation : Operation) → IsLateIf (waiting_kind table s label operation)
waiting_late table s Missing (Equals (Some operand)) = tt
waiting_late table s Malformed (Equals (Some operand)) = tt
waiting_late table s (Named name) (Equals (Some operand)) = by_test (is_later s operand)
  where
    promise_late : IsLateIf (promise_kind table name operand)
    promise_late =
        late_err (value_of_promise table name operand)
        (then_late (λ v. ok_or (value_in table name) UsedTooEarly) (awaited table operand)
        (then_late (moved_value operand.shift) (term_value UsedTooEarly table (Fixed 2 0) operand.term)
        (term_late table (Fixed 2 0) operand.term) (moved_value_late operand.shift))
        (λ v. ok_or_late (value_in table name) UsedTooEarly refl))

    by_test : (b : Bool) → IsLateIf (if b then promise_kind table name operand else None)
    by_test true = promise_late
    by_test false = tt
waiting_late table s label _ = tt

-- the least of some faults, where others have greater numbers
late : (k : FaultKind) → is_of_fields k ≡ true → 12 < fault_number k
late BadLabel e = omega arith
late TwiceDefined e = omega arith
late UnknownOperator e = omega arith
late BadOperand e = omega arith
late UsedTooEarly e = omega arith
late BadBank e = omega arith
late BankFull e = omega arith
late PlaceTaken e = omega arith
late CodeInErasable e = omega arith
late WrongKindOfAddress e = omega arith
late OutOfRange e = omega arith
late NoMemory e = absurd (cc)
late NotAscii e = absurd (cc)
late LongLine e = absurd (cc)
late TooManyLines e = absurd (cc)
late Undefined e = absurd (cc)
late NeedsExtend e = absurd (cc)
late NotExtracode e = absurd (cc)

kept : (a b : FaultKind) → fault_number a ≤ 12 → is_of_fields b ≡ true → lesser_kind a b ≡ a
kept a b few of_fields = let above : 12 < fault_number b = late b of_fields in grind (arith, nat_tests)

fold-late : (k : FaultKind) (ks : List FaultKind) → fault_number k ≤ 12 → AreLate ks → fold lesser_kind k ks ≡ k
fold-late k [] few late = refl
fold-late k (j ∷ ks) few late = ap (λ m. fold lesser_kind m ks) (kept k j few late.0) ∙ fold-late k ks few late.1

fold-then : (k : FaultKind) (ks others : List FaultKind)
    → fold lesser_kind k (ks ++ others) ≡ fold lesser_kind (fold lesser_kind k ks) others
fold-then k [] others = refl
fold-then k (j ∷ ks) others = fold-then (lesser_kind k j) ks others

pub least-before_late : (ks others : List FaultKind) (k : FaultKind) → least_kind ks ≡ Some k → fault_number k ≤ 12 → AreLate others
    → least_kind (ks ++ others) ≡ Some k
least-before_late [] others k e few late = absurd (let bad : None ≡ Some k = e in cc)
least-before_late (j ∷ ks) others k e few late =
    let same : fold lesser_kind j ks ≡ k = cc in
    ap (λ m. Some m) (fold-then j ks others ∙ ap (λ m. fold lesser_kind m others) same ∙ fold-late k others few late)

-- the faults of a line's bytes, its length and its number
pub text_early : (a b c : Bool) (k : FaultKind)
    → least_kind (standing (fault_if a NotAscii ∷ fault_if b LongLine ∷ fault_if c TooManyLines ∷ [])) ≡ Some k → fault_number k ≤ 12
text_early true true true k e = let is : NotAscii ≡ k = cc in rw (← is) (omega arith)
text_early true true false k e = let is : NotAscii ≡ k = cc in rw (← is) (omega arith)
text_early true false true k e = let is : NotAscii ≡ k = cc in rw (← is) (omega arith)
text_early true false false k e = let is : NotAscii ≡ k = cc in rw (← is) (omega arith)
text_early false true true k e = let is : LongLine ≡ k = cc in rw (← is) (omega arith)
text_early false true false k e = let is : LongLine ≡ k = cc in rw (← is) (omega arith)
text_early false false true k e = let is : TooManyLines ≡ k = cc in rw (← is) (omega arith)
text_early false false false k e = absurd (let bad : None ≡ Some k = e in cc)
