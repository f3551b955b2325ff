-- A symbol of which is told that its value is needed too early has none from a line above.
use Rattle.std.proofs.Common.{◌≡◌, ℕ, zero, suc, ◌+◌, ◌-◌, ◌<◌, ◌≤◌, ◌==◌, Bool, true, false, ◌&&◌, ◌||◌, not, cond, length, List, [], ◌∷◌}
use Rattle.std.proofs.Common.{◌++◌, take, Option, Some, None, is_some, Result, Ok, Err, refl, ap, sym, subst, ◌∙◌, arith}
use Rattle.std.specs.Prelude.{nat_le, ok_or, option_and_then, slice_get, unwrap_or, if◌then◌else◌}
use Rattle.std.specs.List.{list_all, list_any}
use Rattle.std.specs.Option.{option_map_or}
use Rattle.std.specs.Result.{result_err}
use Rattle.std.proofs.lemmas.Bool.{and_parts, eq-eqb}
use Rattle.agc_text.specs.Tables.{value_in}
use Rattle.yayul.specs.Flight.{is_flight}
use Rattle.yayul.specs.Operators.{is_bank}
use Rattle.yayul.specs.Later.{Table, promise_kind, waiting_kind}
use Rattle.yayul.specs.Layout.{Layout, asked_here, bank_target, defined, early_value, equals, erased_to, fault_if, fault_number}
use Rattle.yayul.specs.Layout.{is_erasable, is_later, is_missing, is_taken, is_undefined, lacks_room, location_at}
use Rattle.yayul.specs.Layout.{erasable_number, erasable_place, moved_value, promised, standing, statement_effect, statement_on, term_value}
use Rattle.yayul.specs.Layout.{text_faults, value_here, valued, width}
use Rattle.yayul.specs.Laws.{EarlyIsSure, IsNotAbove, NamesNoneAbove, before_line, is_waiting, label_on, said_on, symbol_in, symbol_of}
use Rattle.yayul.specs.Laws.{text_of_line}
use Rattle.yayul.specs.Mended.{lacks_form, lacks_operand}
use Rattle.yayul.specs.Survey.{Survey, done_line, doubt, finding, follows, form_kinds, is_done, is_kept, is_of_label, is_one_of}
use Rattle.yayul.specs.Survey.{known_after, label_passed, laid, layout_kinds, line_kinds, looked_at, names_one, operand_of, operation_on}
use Rattle.yayul.specs.Survey.{passed_line, passed_lines, place_of_words, rests_on_known, said_passed, settled_survey, some_stands}
use Rattle.yayul.specs.Survey.{stands_in, taken_by, told, unmarked, vain_kind, waits_in_vain, with_known, word_kinds}
use Rattle.yayul.specs.Words.{content_words, extracode_fault, extracode_of}
use Rattle.yayul.specs.Language.{BadBank, BadOperand, Bank, BankFull, BankRange, CodeInErasable, Content, Ebank, Equals, Erase}
use Rattle.yayul.specs.Language.{FaultKind, Fixed, Gives, Is, Label, Language, Location, Malformed, Missing, Named, NoForm, Nothing, Num}
use Rattle.yayul.specs.Language.{Numeral, Operand, Operation, OutOfRange, PlaceTaken, Setloc, Term, TooLarge, Unknown}
use Rattle.yayul.specs.Language.{UnknownOperator, UsedTooEarly, Value}
use Rattle.yayul.specs.declared.doubt.Known.{Known}
use Rattle.yayul.specs.declared.finding.Finding.{Finding}
use Rattle.yayul.proofs.Asked.{asked_stays}
use Rattle.yayul.proofs.KindsAs.{AreAs, bare_as, label_as, valued_as, FailsAs, IsApart, choice_as, content_as, erasable_as, err_as}
use Rattle.yayul.proofs.KindsAs.{extracode_as, given_as, if_as, line_as}
use Rattle.yayul.proofs.KindsAs.{location_as, moved_value_as, none_apart, ok_or_as, stands_as, then_as}
use Rattle.yayul.proofs.NoLabel.{KeepsAll, LacksValue, followed_keeps, known_keeps, line_keeps, names_symbol, no_kinds, noted_stands}
use Rattle.yayul.proofs.NoLabel.{or_true, own_kind, stands_last}
use Rattle.yayul.proofs.Sure.{lines_told, line_said, not_false}
use Rattle.yayul.proofs.TakenPlaces.{or-parts}

-- ## Lines whose operand is no symbol without a value
-- the operand is a symbol that a table lacks
abbrev lacks : Table → Operation → Bool
lacks table operation = option_map_or (λ operand. is_undefined table operand.term) (operand_of operation) false

lacks_value : (table : Table) (operation : Operation) → lacks table operation ≡ true → LacksValue table operation
lacks_value table operation is = by_operand (operand_of operation) is
  where
    by_term : (term : Term) → is_undefined table term ≡ true
        → (name : List ℕ) × ((symbol_in term ≡ Some name) × (stands_in table name ≡ false))
    by_term (Term.Named name) is = (name, (refl, not_false (is_some (value_in table name)) is))
    by_term (Term.Number number) is = absurd (cc)
    by_term (Term.Place bank offset) is = absurd (cc)
    by_term Term.Here is = absurd (cc)

    by_operand : (operand : Option Operand) → option_map_or (λ o. is_undefined table o.term) operand false ≡ true
        → (name : List ℕ) × ((option_and_then (λ o. symbol_in o.term) operand ≡ Some name) × (stands_in table name ≡ false))
    by_operand None is = absurd (cc)
    by_operand (Some operand) is = by_term operand.term is

-- a fault is another than that of a value that is needed too early
abbrev IsOther : FaultKind → Type 0
IsOther kind = IsApart UsedTooEarly kind

term_other : (table : Table) (here : Value) (term : Term) → is_undefined table term ≡ false
    → FailsAs IsOther (term_value UsedTooEarly table here term)
term_other table here (Term.Number number) none = then_as IsOther (λ n. Ok (Num n)) (ok_or number OutOfRange)
    (ok_or_as IsOther number OutOfRange refl) (λ n. tt)
term_other table here (Term.Named name) none = by_value (value_in table name) none
  where
    by_value : (value : Option Value) → not (is_some value) ≡ false → FailsAs IsOther (ok_or value UsedTooEarly)
    by_value None none = absurd (cc)
    by_value (Some value) none = tt
term_other table here (Term.Place bank offset) none = tt
term_other table here Term.Here none = tt

early_other : (s : Layout) (operand : Option Operand) → option_map_or (λ o. is_undefined s.symbols o.term) operand false ≡ false
    → FailsAs IsOther (early_value s operand)
early_other s None none = refl
early_other s (Some o) none =
    then_as IsOther (moved_value o.shift) (term_value UsedTooEarly s.symbols (value_here s.location) o.term)
    (term_other s.symbols (value_here s.location) o.term none) (moved_value_as IsOther refl refl o.shift)

bank_other : (s : Layout) (taken : BankRange) (number : Numeral) → FailsAs IsOther (bank_target s taken number)
bank_other s taken NoForm = refl
bank_other s taken TooLarge = refl
bank_other s taken (Is n) = choice_as IsOther (is_bank taken n) _ (Err BadBank) tt refl

erased_other : (here : Location) (count : Numeral) → FailsAs IsOther (erased_to here count)
erased_other (Location.Erasable n) NoForm = refl
erased_other (Location.Erasable n) TooLarge = refl
erased_other (Location.Erasable n) (Is count) = choice_as IsOther (nat_le (n + count + 1) 0o4000) _ (Err BankFull) tt refl
erased_other (Location.Fixed bank n) NoForm = refl
erased_other (Location.Fixed bank n) TooLarge = refl
erased_other (Location.Fixed bank n) (Is count) = refl

equals_other : (line : ℕ) (s : Layout) (label : Label) (operand : Option Operand)
    → option_map_or (λ o. is_undefined s.symbols o.term) operand false ≡ false → AreAs IsOther (equals line s label operand).faults
equals_other line s label None none = valued_as IsOther refl refl s label (Err BadOperand) refl
equals_other line s label (Some operand) none = by_test (is_later s operand)
  where
    by_test : (b : Bool) → AreAs IsOther (if b then promised line s label operand else valued s label (early_value s (Some operand))).faults
    by_test true = valued_as IsOther refl refl s label (Ok (Num 0)) tt
    by_test false = valued_as IsOther refl refl s label (early_value s (Some operand)) (early_other s (Some operand) none)

statement_other : (line : ℕ) (s : Layout) (label : Label) (operation : Operation) → lacks s.symbols operation ≡ false
    → AreAs IsOther (statement_effect line s label operation).faults
statement_other line s label Nothing none =
    label_as IsOther refl refl s label (fault_if (not (is_missing label) && lacks_room 1 s.location) BankFull ∷ [])
    (if_as IsOther (not (is_missing label) && lacks_room 1 s.location) BankFull [] refl tt)
statement_other line s label Unknown none = label_as IsOther refl refl s label (Some UnknownOperator ∷ []) (refl, tt)
statement_other line s label (Setloc operand) none = bare_as IsOther refl label _
    (then_as IsOther location_at (early_value s operand) (early_other s operand none) (location_as IsOther refl refl))
statement_other line s label (Bank taken number) none = bare_as IsOther refl label _ (bank_other s taken number)
statement_other line s label (Erase count) none =
    label_as IsOther refl refl s label (fault_if (not (is_missing label) && lacks_room 1 s.location) BankFull ∷ result_err (erased_to s.location count)
    ∷ [])
    (if_as IsOther (not (is_missing label) && lacks_room 1 s.location) BankFull (result_err (erased_to s.location count) ∷ []) refl
    (stands_as IsOther (result_err (erased_to s.location count)) []
    (err_as IsOther (erased_to s.location count) (erased_other s.location count)) tt))
statement_other line s label (Equals operand) none = equals_other line s label operand none
statement_other line s label (Ebank operand) none =
    bare_as IsOther refl label _ (then_as IsOther erasable_place (early_value s operand) (early_other s operand none)
    (λ v. then_as IsOther erasable_number (location_at v) (location_as IsOther refl refl v) (erasable_as IsOther refl refl)))
statement_other line s label (Gives None) none = label_as IsOther refl refl s label (Some BadOperand ∷ []) (refl, tt)
statement_other line s label (Gives (Some content)) none = given_as IsOther refl refl refl refl refl s label content

-- no name waits where the operand has a value
and_none : (a b : Bool) → b ≡ false → (a && b) ≡ false
and_none true b none = none
and_none false b none = refl

waiting_none : (table : Table) (s : Layout) (label : Label) (operation : Operation) → lacks s.symbols operation ≡ false
    → waiting_kind table s label operation ≡ None
waiting_none table s label Nothing none = refl
waiting_none table s label Unknown none = refl
waiting_none table s label (Setloc operand) none = refl
waiting_none table s label (Bank taken number) none = refl
waiting_none table s label (Erase count) none = refl
waiting_none table s label (Equals None) none = refl
waiting_none table s Missing (Equals (Some operand)) none = refl
waiting_none table s Malformed (Equals (Some operand)) none = refl
waiting_none table s (Named name) (Equals (Some operand)) none =
    by_test (is_later s operand) (and_none (is_flight s.language) (is_undefined s.symbols operand.term) none)
  where
    by_test : (b : Bool) → b ≡ false → (if b then promise_kind table name operand else None) ≡ None
    by_test true e = absurd (cc)
    by_test false e = refl
waiting_none table s label (Ebank operand) none = refl
waiting_none table s label (Gives content) none = refl

vain_none : (whole s : Survey) (label : Label) (operation : Operation) → lacks s.layout.symbols operation ≡ false
    → vain_kind whole s label operation ≡ None
vain_none whole s label operation none =
    by_test (names_one whole.lost operation || waits_in_vain s.layout.promised whole.layout.symbols operation)
  where
    by_test : (b : Bool) → cond b None (waiting_kind whole.layout.symbols s.layout label operation) ≡ None
    by_test true = refl
    by_test false = waiting_none whole.layout.symbols s.layout label operation none

word_other : (table : Table) (s : Layout) (formless : Bool) (operation : Operation) → AreAs IsOther (word_kinds table s formless operation)
word_other table s true (Gives (Some content)) = extracode_as IsOther (extracode_of content) s.extracode refl refl
word_other table s false (Gives (Some content)) =
    let words : Result (List ℕ) FaultKind = content_words table (Fixed (place_of_words s.location).0 (place_of_words s.location).1)
    s.extracode s.eb content in
    stands_as IsOther (result_err words) (extracode_fault (extracode_of content) s.extracode ∷ [])
    (err_as IsOther words (content_as IsOther refl refl refl table _ s.extracode s.eb content))
    (extracode_as IsOther (extracode_of content) s.extracode refl refl)
word_other table s formless _ = tt

vain_other : (c : Option FaultKind) → c ≡ None → AreAs IsOther (standing (c ∷ []))
vain_other c none = subst (λ (d : Option FaultKind). AreAs IsOther (standing (d ∷ []))) (sym none) tt

-- of all faults of a line none is that of a value that is needed too early, but of a symbol that has none
line_other : (whole : Survey) (line : ℕ) (s : Survey) (text : List ℕ) → lacks s.layout.symbols (operation_on s.layout text) ≡ false
    → AreAs IsOther (line_kinds whole line s text)
line_other whole line s text none =
    let label : Label = (statement_on s.layout text).label in
    let operation : Operation = operation_on s.layout text in
    line_as IsOther refl refl refl refl whole line s text (statement_other line s.layout label operation none)
    (vain_other (vain_kind whole s label operation) (vain_none whole s label operation none))
    (word_other whole.layout.symbols s.layout (lacks_form (statement_on s.layout text).operation) operation)

line_early : (whole : Survey) (line : ℕ) (s : Survey) (text : List ℕ) → is_one_of (line_kinds whole line s text) UsedTooEarly ≡ true
    → LacksValue s.layout.symbols (operation_on s.layout text)
line_early whole line s text told = by_test (lacks s.layout.symbols (operation_on s.layout text)) refl
  where
    by_test : (b : Bool) → lacks s.layout.symbols (operation_on s.layout text) ≡ b
        → LacksValue s.layout.symbols (operation_on s.layout text)
    by_test true is = lacks_value s.layout.symbols (operation_on s.layout text) is
    by_test false is = absurd (let bad : true ≡ false = sym told
        ∙ none_apart UsedTooEarly (line_kinds whole line s text) (line_other whole line s text is) in cc)

-- ## Labels of lines above
-- a survey has a name with a value, or lost
abbrev has : Survey → List ℕ → Bool
has s name = stands_in s.layout.symbols name || stands_in s.lost name

has_keeps : (name : List ℕ) (s t : Survey) → KeepsAll name s t → has s name ≡ true → has t name ≡ true
has_keeps name s t keeps is = by_cases (stands_in s.layout.symbols name) (stands_in s.lost name) keeps.layout.symbols keeps.lost is
  where
    by_cases : (a b : Bool) → (a ≡ true → stands_in t.layout.symbols name ≡ true) → (b ≡ true → stands_in t.lost name ≡ true)
        → (a || b) ≡ true → has t name ≡ true
    by_cases true b of_a of_b is = ap (λ v. v || stands_in t.lost name) (of_a refl)
    by_cases false b of_a of_b is = ap (λ v. stands_in t.layout.symbols name || v) (of_b is) ∙ or_true (stands_in t.layout.symbols name)

module _ (name : List ℕ) (line : ℕ) (s : Layout) where
  asked_has : (content : Content) (t : Layout) → stands_in t.symbols name ≡ true → stands_in (asked_here line t content).symbols name ≡ true
  asked_has content t is = asked_stays (λ (u : Layout). stands_in u.symbols name ≡ true) line t content is (λ r. is)

  valued_has : (value : Result Value FaultKind) → (valued s (Named name) value).faults ≡ []
      → stands_in (valued s (Named name) value).after.symbols name ≡ true
  valued_has (Ok value) e = stands_last s.symbols name value
  valued_has (Err kind) e = absurd (own_kind name line s kind e)

  equals_has : (operand : Option Operand) → (equals line s (Named name) operand).faults ≡ [] → is_waiting s (Equals operand) ≡ false
      → stands_in (equals line s (Named name) operand).after.symbols name ≡ true
  equals_has None e waits = absurd (own_kind name line s BadOperand e)
  equals_has (Some operand) e waits = by_test (is_later s operand) e waits
    where
      by_test : (b : Bool) → (if b then promised line s (Named name) operand else valued s (Named name)
          (early_value s (Some operand))).faults ≡ [] → b ≡ false
          → stands_in (if b then promised line s (Named name) operand else valued s (Named name)
          (early_value s (Some operand))).after.symbols name ≡ true
      by_test true e waits = absurd (cc)
      by_test false e waits = valued_has (early_value s (Some operand)) e

  -- a line without a layout fault that does not let its label wait gives it a value
  statement_has : (operation : Operation) → (statement_effect line s (Named name) operation).faults ≡ [] → is_waiting s operation ≡ false
      → stands_in (statement_effect line s (Named name) operation).after.symbols name ≡ true
  statement_has Nothing e waits = stands_last s.symbols name (value_here s.location)
  statement_has Unknown e waits = absurd (own_kind name line s UnknownOperator e)
  statement_has (Setloc operand) e waits = absurd (cc)
  statement_has (Bank taken number) e waits = absurd (cc)
  statement_has (Erase count) e waits = stands_last s.symbols name (value_here s.location)
  statement_has (Equals operand) e waits = equals_has operand e waits
  statement_has (Ebank operand) e waits = absurd (cc)
  statement_has (Gives None) e waits = absurd (own_kind name line s BadOperand e)
  statement_has (Gives (Some content)) e waits = asked_has content (defined s (Named name) (value_here s.location))
      (stands_last s.symbols name (value_here s.location))

module _ (name : List ℕ) (line : ℕ) (s : Survey) (operation : Operation) (alone : Bool) (known : Known)
    (waits : is_waiting s.layout operation ≡ false) where
  abbrev kinds : List FaultKind
  kinds = layout_kinds line s.layout (Named name) operation

  laid_has : is_done s.known alone operation kinds ≡ true → is_kept true kinds ≡ true → has (laid line s (Named name) operation) name ≡ true
  laid_has done kept =
      let none : kinds ≡ [] = no_kinds kinds (and_parts (list_all is_of_label kinds) (rests_on_known s.known alone operation) done).0
      (not_false (list_any is_of_label kinds) kept) in
      let after : Layout = (statement_effect line s.layout (Named name) operation).after in
      subst (λ ks. (stands_in (cond (some_stands ks) s.layout after).symbols name || stands_in s.lost name) ≡ true) (sym none)
      (ap (λ b. b || stands_in s.lost name) (statement_has name line s.layout operation none waits))

  done_has : (done kept : Bool) → is_done s.known alone operation kinds ≡ done → is_kept done kinds ≡ kept
      → has (with_known (done_line line s (Named name) operation done kept) known) name ≡ true
  done_has true true done kept = has_keeps name (laid line s (Named name) operation) _ (known_keeps name _ known) (laid_has done kept)
  done_has false true done kept = absurd (cc)
  done_has done false is_done_so kept =
      has_keeps name (label_passed false s (Named name) operation) _ (followed_keeps name line s (Named name) operation done false known)
      (ap (λ v. stands_in (label_passed false s (Named name) operation).layout.symbols name || v) (noted_stands s.lost name)
      ∙ or_true (stands_in (label_passed false s (Named name) operation).layout.symbols name))

label_has : (name : List ℕ) (line : ℕ) (s : Survey) (text : List ℕ) → (statement_on s.layout text).label ≡ Named name
    → is_waiting s.layout (operation_on s.layout text) ≡ false
    → has (passed_line line s text) name ≡ true
unfolding passed_line
label_has name line s text is waits =
    let operation : Operation = operation_on s.layout text in
    let alone : Bool = lacks_operand s.layout.language text in
    let own : List FaultKind = layout_kinds line s.layout (Named name) operation in
    let done : Bool = is_done s.known alone operation own in
    subst (λ (label : Label). has (said_passed line s text label operation
    (is_done s.known alone operation (layout_kinds line s.layout label operation)) (layout_kinds line s.layout label operation)) name
    ≡ true) (sym is)
    (done_has name line s operation alone (known_after s.known text operation done) waits done (is_kept done own) refl refl)

all_have : (name : List ℕ) (texts : List (List ℕ)) (line : ℕ) (s : Survey) → has s name ≡ true → has (passed_lines line s texts) name ≡ true
all_have name [] line s is = is
all_have name (text ∷ texts) line s is = all_have name texts (line + 1) (passed_line line s text)
    (has_keeps name s (passed_line line s text) (line_keeps name line s text) is)

-- the label of any of some lines that does not wait stands after them
label_stays : (name : List ℕ) (texts : List (List ℕ)) (k line : ℕ) (s : Survey) → k < length texts
    → (statement_on (passed_lines line s (take k texts)).layout (unwrap_or (slice_get texts k) [])).label ≡ Named name
    → is_waiting (passed_lines line s (take k texts)).layout
    (operation_on (passed_lines line s (take k texts)).layout (unwrap_or (slice_get texts k) [])) ≡ false
    → has (passed_lines line s texts) name ≡ true
label_stays name [] k line s few is waits = absurd (omega arith)
label_stays name (text ∷ texts) zero line s few is waits = all_have name texts (line + 1) (passed_line line s text)
    (label_has name line s text is waits)
label_stays name (text ∷ texts) (suc k) line s few is waits = label_stays name texts k (line + 1) (passed_line line s text) (omega arith) is
    waits

-- some of the first of two lists
take-part : (xs ys : List (List ℕ)) (k : ℕ) → k ≤ length xs → take k (xs ++ ys) ≡ take k xs
take-part [] ys zero few = refl
take-part [] ys (suc k) few = absurd (omega arith)
take-part (x ∷ xs) ys zero few = refl
take-part (x ∷ xs) ys (suc k) few = ap (λ zs. x ∷ zs) (take-part xs ys k (omega arith))

get-part : (xs ys : List (List ℕ)) (k : ℕ) → k < length xs → slice_get (xs ++ ys) k ≡ slice_get xs k
get-part [] ys k few = absurd (omega arith)
get-part (x ∷ xs) ys zero few = refl
get-part (x ∷ xs) ys (suc k) few = get-part xs ys k (omega arith)

-- ## Where it is told that a value is needed too early
is_early : (k : FaultKind) → (fault_number k == fault_number UsedTooEarly) ≡ true → k ≡ UsedTooEarly
is_early UsedTooEarly e = refl
is_early _ e = absurd (cc)

module _ (language : Language) (source : List ℕ) where
  abbrev whole : Survey
  whole = settled_survey (passed_lines 1 (unmarked language) (looked_at language source))

  abbrev IsSo : Finding → Type 0
  IsSo f = fault_number f.kind ≡ fault_number UsedTooEarly → NamesNoneAbove language source f.line

  module _ (done texts : List (List ℕ)) (text : List ℕ) (line : ℕ) (all : looked_at language source ≡ done ++ text ∷ texts)
      (at : line ≡ length done + 1) where
    abbrev s : Survey
    s = passed_lines 1 (unmarked language) done

    abbrev operation : Operation
    operation = operation_on (passed_lines 1 (unmarked language) done).layout text

    not_above : (name : List ℕ) → has s name ≡ false → IsNotAbove language source line name
    not_above name none = λ l one few is. waits l one few is (is_waiting (before_line language source l).layout (said_on language source l))
        refl
      where
        waits : (l : ℕ) → 1 ≤ l → l < line → label_on language source l ≡ Named name → (b : Bool)
            → is_waiting (before_line language source l).layout (said_on language source l) ≡ b
            → is_waiting (before_line language source l).layout (said_on language source l) ≡ true
        waits l one few is true e = e
        waits l one few is false e =
            absurd (let few_lines : l - 1 < length done = omega (arith, at) in
            let at_most : l - 1 ≤ length done = omega (arith, at) in
            let before : before_line language source l ≡ passed_lines 1 (unmarked language) (take (l - 1) done) =
            ap (passed_lines 1 (unmarked language)) (ap (take (l - 1)) all ∙ take-part done (text ∷ texts) (l - 1) at_most) in
            let on : text_of_line language source l ≡ unwrap_or (slice_get done (l - 1)) [] =
            ap (λ (found : Option (List ℕ)). unwrap_or found [])
            (ap (λ (ts : List (List ℕ)). slice_get ts (l - 1)) all ∙ get-part done (text ∷ texts) (l - 1) few_lines) in
            let there : has s name ≡ true =
            label_stays name done (l - 1) 1 (unmarked language) few_lines (sym (λ i. (statement_on (before i).layout (on i)).label) ∙ is)
            (sym (λ i. is_waiting (before i).layout (operation_on (before i).layout (on i))) ∙ e) in
            let bad : true ≡ false = sym there ∙ none in cc)

    early_named : is_one_of (line_kinds whole line s text) UsedTooEarly ≡ true → follows (doubt whole s text operation) UsedTooEarly ≡ false
        → NamesNoneAbove language source line
    early_named told apart =
        let lacking : LacksValue s.layout.symbols operation = line_early whole line s text told in
        let doubts : names_one s.lost operation ≡ false
        = (or-parts (doubt whole s text operation).bytes (names_one s.lost operation) apart).1 in
        let lost : stands_in s.lost lacking.0 ≡ false = sym (names_symbol s.lost operation lacking.0 lacking.1.0) ∙ doubts in
        let none : has s lacking.0 ≡ false = ap (λ b. b || stands_in s.lost lacking.0) lacking.1.1 ∙ lost in
        (lacking.0, (ap symbol_of (line_said language source done texts text line all at) ∙ lacking.1.0, not_above lacking.0 none))

    each_early : (kind : FaultKind) → (is_one_of (line_kinds whole line s text) kind && not (follows (doubt whole s text operation) kind))
        ≡ true
        → IsSo (finding s.layout.language line text (taken_by s.layout operation) kind)
    each_early kind is = λ number.
        let early : kind ≡ UsedTooEarly = is_early kind (eq-eqb (fault_number kind) (fault_number UsedTooEarly) number) in
        let parts = and_parts (is_one_of (line_kinds whole line s text) UsedTooEarly)
        (not (follows (doubt whole s text operation) UsedTooEarly))
        (subst (λ (k : FaultKind). (is_one_of (line_kinds whole line s text) k && not (follows (doubt whole s text operation) k)) ≡ true)
        early is) in
        early_named parts.0 (not_false (follows (doubt whole s text operation) UsedTooEarly) parts.1)

pub early_is_sure : (language : Language) (source : List ℕ) → EarlyIsSure language source
unfolding told
early_is_sure language source =
    lines_told language source (whole language source) (IsSo language source) (each_early language source) (looked_at language source) [] 1
    refl refl
