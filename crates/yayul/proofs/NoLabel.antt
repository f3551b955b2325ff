-- A symbol of which is told that no line defines it is the label of no line.
use Rattle.std.proofs.Common.{◌≡◌, ℕ, zero, suc, ◌+◌, ◌-◌, ◌%◌, ◌<◌, ◌==◌, map, Bool, true, false, ◌&&◌, ◌||◌, not, cond, length, List, []}
use Rattle.std.proofs.Common.{◌∷◌, ◌++◌, take, Option, Some, None, is_some, Result, Ok, Err, refl, ap, sym, subst, ◌∙◌, arith}
use Rattle.std.specs.Prelude.{nat_le, nat_lt, slice_get, unwrap_or, ok_or, option_and_then}
use Rattle.std.specs.List.{list_any, list_all}
use Rattle.std.specs.Option.{option_map_or}
use Rattle.std.specs.Result.{result_err}
use Rattle.std.proofs.lemmas.Bool.{and_parts, eq-eqb}
use Rattle.std.proofs.lemmas.Cmp.{nat_list_eq_equiv}
use Rattle.std.proofs.lemmas.List.Folds.{list_any-append}
use Rattle.std.proofs.lemmas.Option.{same_Some}
use Rattle.agc_text.specs.Bytes.{is_text_byte, line_length}
use Rattle.agc_text.specs.Tables.{same_name, value_in}
use Rattle.words.specs.Numbers.{neg}
use Rattle.yayul.specs.Flight.{measured, most_lines}
use Rattle.yayul.specs.Operators.{bits_under, field_size}
use Rattle.yayul.specs.Later.{Table, waiting_kind}
use Rattle.yayul.specs.Layout.{LineEffect, Layout, and_then, asked_here, defined, erasable_number, fault_if, fault_number}
use Rattle.yayul.specs.Layout.{is_malformed, is_twice, location_at, moved_value, standing, statement_effect, statement_on, term_value}
use Rattle.yayul.specs.Layout.{text_faults, value_here, value_of, valued, promised, with_promise}
use Rattle.yayul.specs.Laws.{IsNoLabel, NamesNoLabel, UndefinedIsSure, symbol_in, symbol_of}
use Rattle.yayul.specs.Mended.{lacks_form, lacks_operand}
use Rattle.yayul.specs.Survey.{Survey, done_line, doubt, follows, form_kinds, is_among, is_bare, is_done, is_kept, is_of_label, is_one_of}
use Rattle.yayul.specs.Survey.{finding, kept_label, known_after, label_passed, laid, layout_kinds, line_kinds, looked_at}
use Rattle.yayul.specs.Survey.{names_one, noted, nowhere, operand_of, operation_on, passed_line, passed_lines, passed_over, place_of_words}
use Rattle.yayul.specs.Survey.{rests_on_known, said_passed, settled_survey, some_stands, stands_in, taken_by, told}
use Rattle.yayul.specs.Survey.{unmarked, vain_kind, waits_in_vain, with_known, word_kinds}
use Rattle.yayul.specs.Words.{accepted, address_below, address_of, addressed_word, bank_word, channel_in, complete_address, content_words}
use Rattle.yayul.specs.Words.{extracode_fault, extracode_of, far_address, field_of, fixed_offset, fixed_place, low_place}
use Rattle.yayul.specs.Language.{Address, Addressed, AddressedCode, BadOperand, Bank, BankWord, Channel, Complemented, Constant, Constants}
use Rattle.yayul.specs.Language.{Content, Ebank, Either, Equals, Erase, Erasable, ErasablePlace, Extracode, FarAddress, FarComplement}
use Rattle.yayul.specs.Language.{FaultKind, Fixed, FixedAddress, FixedPlace, Gives, Label, Language, Location, LongLine, Malformed, Missing}
use Rattle.yayul.specs.Language.{Named, No, NotAscii, Nothing, Num, Operand, Operation, OutOfRange, Pair, Plain, Setloc, Shift, Takes, Term}
use Rattle.yayul.specs.Language.{TooManyLines, TwiceDefined, BadLabel, Undefined, Unknown, UnknownOperator, Value, WrongKindOfAddress, Yes}
use Rattle.yayul.specs.declared.doubt.Known.{Known}
use Rattle.yayul.specs.declared.finding.Finding.{Finding}
use Rattle.yayul.proofs.Asked.{asked_stays}
use Rattle.yayul.proofs.Equalled.{by_later, settled_holds}
use Rattle.yayul.proofs.LateFaults.{AreLate, FailsLate, IsLateIf, choice_late, erasable_late, is_of_fields, location_late, moved_value_late}
use Rattle.yayul.proofs.LateFaults.{ok_or_late, statement_late, then_late, waiting_late}
use Rattle.yayul.proofs.LineRequests.{none_stands}
use Rattle.yayul.proofs.Sure.{lines_told, line_said, not_false}
use Rattle.yayul.proofs.TakenPlaces.{or-parts}

-- ## Names in tables
stands_more : (table : Table) (e : List ℕ × Value) (name : List ℕ) → stands_in table name ≡ true → stands_in (table ++ e ∷ []) name ≡ true
stands_more [] e name is = absurd (cc)
stands_more (x ∷ table) e name is = by_test (stands_more table e name) (same_name name x.0) is
  where
    by_test : (stands_in table name ≡ true → stands_in (table ++ e ∷ []) name ≡ true) → (b : Bool)
        → is_some (cond b (Some x.1) (value_in table name)) ≡ true
        → is_some (cond b (Some x.1) (value_in (table ++ e ∷ []) name)) ≡ true
    by_test later true is = refl
    by_test later false is = later is

pub stands_last : (table : Table) (name : List ℕ) (value : Value) → stands_in (table ++ (name, value) ∷ []) name ≡ true
stands_last [] name value = ap (λ b. is_some (cond b (Some value) None)) (nat_list_eq_equiv.refl name)
stands_last (x ∷ table) name value = by_test (stands_last table name value) (same_name name x.0)
  where
    by_test : stands_in (table ++ (name, value) ∷ []) name ≡ true → (b : Bool)
        → is_some (cond b (Some x.1) (value_in (table ++ (name, value) ∷ []) name)) ≡ true
    by_test later true = refl
    by_test later false = later

noted_keeps : (lost : Table) (label : Label) (name : List ℕ) → stands_in lost name ≡ true → stands_in (noted lost label) name ≡ true
noted_keeps lost Missing name is = is
noted_keeps lost Malformed name is = is
noted_keeps lost (Named other) name is = by_test (stands_in lost other)
  where
    by_test : (b : Bool) → stands_in (cond b lost (lost ++ (other, Num 0) ∷ [])) name ≡ true
    by_test true = is
    by_test false = stands_more lost (other, Num 0) name is

pub noted_stands : (lost : Table) (name : List ℕ) → stands_in (noted lost (Named name)) name ≡ true
noted_stands lost name = by_test (stands_in lost name) refl
  where
    by_test : (b : Bool) → stands_in lost name ≡ b → stands_in (cond b lost (lost ++ (name, Num 0) ∷ [])) name ≡ true
    by_test true is = is
    by_test false is = stands_last lost name (Num 0)

-- ## Lines keep names
-- a layout has a name wherever another has it
pub record Keeps (name : List ℕ) (s t : Layout) : Type 0 where
  pub symbols : stands_in s.symbols name ≡ true → stands_in t.symbols name ≡ true
  pub promised : stands_in s.promised name ≡ true → stands_in t.promised name ≡ true

-- a survey has it
abbrev stands : Survey → List ℕ → Bool
stands s name = stands_in s.layout.symbols name || (stands_in s.layout.promised name || stands_in s.lost name)

-- a survey has it wherever another has it
pub record KeepsAll (name : List ℕ) (s t : Survey) : Type 0 where
  pub layout : Keeps name s.layout t.layout
  pub lost : stands_in s.lost name ≡ true → stands_in t.lost name ≡ true

pub or_true : (b : Bool) → (b || true) ≡ true
or_true true = refl
or_true false = refl

or_keeps : (a b c x y z : Bool) → (a ≡ true → x ≡ true) → (b ≡ true → y ≡ true) → (c ≡ true → z ≡ true) → (a || (b || c)) ≡ true
    → (x || (y || z)) ≡ true
or_keeps true b c x y z of_a of_b of_c e = ap (λ v. v || (y || z)) (of_a refl)
or_keeps false true c x y z of_a of_b of_c e = ap (λ v. x || (v || z)) (of_b refl) ∙ or_true x
or_keeps false false c x y z of_a of_b of_c e = ap (λ v. x || (y || v)) (of_c e) ∙ ap (λ v. x || v) (or_true y) ∙ or_true x

keeps_stands : (name : List ℕ) (s t : Survey) → KeepsAll name s t → stands s name ≡ true → stands t name ≡ true
keeps_stands name s t keeps =
    or_keeps (stands_in s.layout.symbols name) (stands_in s.layout.promised name) (stands_in s.lost name) (stands_in t.layout.symbols name)
    (stands_in t.layout.promised name) (stands_in t.lost name)
    keeps.layout.symbols keeps.layout.promised keeps.lost

module _ (name : List ℕ) where
  same : (s : Layout) → Keeps name s s
  same s = record { symbols = λ is. is; promised = λ is. is }

  both : (s t u : Layout) → Keeps name s t → Keeps name t u → Keeps name s u
  both s t u first second = record {
    symbols = λ is. second.symbols (first.symbols is);
    promised = λ is. second.promised
        (first.promised is);
  }

  defined_keeps : (s : Layout) (label : Label) (value : Value) → Keeps name s (defined s label value)
  defined_keeps s Missing value = same s
  defined_keeps s Malformed value = same s
  defined_keeps s (Named other) value = record { symbols = stands_more s.symbols (other, value) name; promised = λ is. is }

  promise_keeps : (line : ℕ) (s : Layout) (label : Label) (operand : Operand) → Keeps name s (with_promise line s label operand)
  promise_keeps line s Missing operand = same s
  promise_keeps line s Malformed operand = same s
  promise_keeps line s (Named other) operand = record { symbols = λ is. is; promised = stands_more s.promised (other, Num 0) name }

  valued_keeps : (s : Layout) (label : Label) (value : Result Value FaultKind) → Keeps name s (valued s label value).after
  valued_keeps s label (Ok value) = defined_keeps s label value
  valued_keeps s label (Err kind) = same s

  asked_keeps : (line : ℕ) (s : Layout) (content : Content) → Keeps name s (asked_here line s content)
  asked_keeps line s content = asked_stays (Keeps name s) line s content (same s)
      (λ r. record { symbols = λ is. is; promised = λ is. is })

  statement_keeps : (line : ℕ) (s : Layout) (label : Label) (operation : Operation)
      → Keeps name s (statement_effect line s label operation).after
  statement_keeps line s label Nothing = defined_keeps s label (value_here s.location)
  statement_keeps line s label Unknown = same s
  statement_keeps line s label (Setloc operand) = record { symbols = λ is. is; promised = λ is. is }
  statement_keeps line s label (Bank taken number) = record { symbols = λ is. is; promised = λ is. is }
  statement_keeps line s label (Erase count) =
      let more = defined_keeps s label (value_here s.location) in record { symbols = more.symbols; promised = more.promised }
  statement_keeps line s label (Equals operand) =
      by_later (λ (x : LineEffect). Keeps name s x.after) line s label operand (valued_keeps s label) (promise_keeps line s label)
  statement_keeps line s label (Ebank operand) = record { symbols = λ is. is; promised = λ is. is }
  statement_keeps line s label (Gives None) = same s
  statement_keeps line s label (Gives (Some content)) =
      both s (defined s label (value_here s.location)) (asked_here line (defined s label (value_here s.location)) content)
      (defined_keeps s label (value_here s.location))
      (asked_keeps line (defined s label (value_here s.location)) content)

  all_same : (s : Survey) → KeepsAll name s s
  all_same s = record { layout = same s.layout; lost = λ is. is }

  all_both : (s t u : Survey) → KeepsAll name s t → KeepsAll name t u → KeepsAll name s u
  all_both s t u first second = record {
    layout = both s.layout t.layout u.layout first.layout second.layout;
    lost = λ is. second.lost
        (first.lost is);
  }

  passed_label_keeps : (kept : Bool) (s : Survey) (label : Label) (operation : Operation)
      → KeepsAll name s (label_passed kept s label operation)
  passed_label_keeps true s label operation = all_same s
  passed_label_keeps false s label operation = record { layout = by_bare (is_bare operation); lost = noted_keeps s.lost label name }
    where
      by_bare : (b : Bool) → Keeps name s.layout (cond b s.layout (record s.layout { promised = noted s.layout.promised label }))
      by_bare true = same s.layout
      by_bare false = record { symbols = λ is. is; promised = noted_keeps s.layout.promised label name }

  laid_keeps : (line : ℕ) (s : Survey) (label : Label) (operation : Operation) → KeepsAll name s (laid line s label operation)
  laid_keeps line s label operation = record {
    layout = by_faults (some_stands (statement_effect line s.layout label operation).faults);
    lost = λ is. is;
  }
    where
      by_faults : (b : Bool) → Keeps name s.layout (cond b s.layout (statement_effect line s.layout label operation).after)
      by_faults true = same s.layout
      by_faults false = statement_keeps line s.layout label operation

  pub known_keeps : (s : Survey) (known : Known) → KeepsAll name s (with_known s known)
  known_keeps s known = record { layout = by_known known.location; lost = λ is. is }
    where
      by_known : (b : Bool) → Keeps name s.layout (cond b s.layout (record s.layout { location = nowhere }))
      by_known true = same s.layout
      by_known false = record { symbols = λ is. is; promised = λ is. is }

  -- what follows the label, whether the line is done or not
  pub followed_keeps : (line : ℕ) (s : Survey) (label : Label) (operation : Operation) (done kept : Bool) (known : Known)
      → KeepsAll name (label_passed kept s label operation) (with_known (done_line line s label operation done kept) known)
  followed_keeps line s label operation true kept known =
      all_both (label_passed kept s label operation) (laid line (label_passed kept s label operation) (kept_label kept label) operation) _
      (laid_keeps line (label_passed kept s label operation) (kept_label kept label) operation) (known_keeps _ known)
  followed_keeps line s label operation false kept known =
      all_both (label_passed kept s label operation) (passed_over (label_passed kept s label operation) operation) _
      (record { layout = record { symbols = λ is. is; promised = λ is. is }; lost = λ is. is }) (known_keeps _ known)

  pub line_keeps : (line : ℕ) (s : Survey) (text : List ℕ) → KeepsAll name s (passed_line line s text)
  unfolding passed_line
  line_keeps line s text =
      let label : Label = (statement_on s.layout text).label in
      let operation : Operation = operation_on s.layout text in
      let kinds : List FaultKind = layout_kinds line s.layout label operation in
      let done : Bool = is_done s.known (lacks_operand s.layout.language text) operation kinds in
      all_both s (label_passed (is_kept done kinds) s label operation) _ (passed_label_keeps (is_kept done kinds) s label operation)
      (followed_keeps line s label operation done (is_kept done kinds) (known_after s.known text operation done))

  passed_keeps : (line : ℕ) (s : Survey) (text : List ℕ) → stands s name ≡ true → stands (passed_line line s text) name ≡ true
  passed_keeps line s text is = keeps_stands name s (passed_line line s text) (line_keeps line s text) is

-- ## A line's label is kept or lost
standing_one : (kind : FaultKind) → standing (Some kind ∷ []) ≡ [] → ⊥
standing_one kind e = let bad : kind ∷ [] ≡ [] = e in cc

-- a line without a layout fault gives its label a value, or lets it wait
module _ (name : List ℕ) (line : ℕ) (s : Layout) where
  abbrev Given : Layout → Type 0
  Given t = (stands_in t.symbols name || stands_in t.promised name) ≡ true

  by_symbol : (t : Layout) → stands_in t.symbols name ≡ true → Given t
  by_symbol t is = ap (λ b. b || stands_in t.promised name) is

  pub own_kind : (kind : FaultKind) → standing (fault_if (is_malformed (Named name)) BadLabel
      ∷ fault_if (is_twice s (Named name)) TwiceDefined ∷ Some kind ∷ []) ≡ [] → ⊥
  own_kind kind e = standing_one kind (none_stands (is_twice s (Named name)) TwiceDefined (Some kind ∷ []) e).1

  asked_given : (content : Content) (t : Layout) → stands_in t.symbols name ≡ true → Given (asked_here line t content)
  asked_given content t is = asked_stays Given line t content (by_symbol t is) (λ r. ap (λ b. b || stands_in t.promised name) is)

  valued_given : (value : Result Value FaultKind) → (valued s (Named name) value).faults ≡ [] → Given (valued s (Named name) value).after
  valued_given (Ok value) e = by_symbol (defined s (Named name) value) (stands_last s.symbols name value)
  valued_given (Err kind) e = absurd (own_kind kind e)

  promised_given : (operand : Operand) → (promised line s (Named name) operand).faults ≡ []
      → Given (promised line s (Named name) operand).after
  promised_given operand e = ap (λ b. stands_in s.symbols name || b) (stands_last s.promised name (Num 0))
      ∙ or_true (stands_in s.symbols name)

  statement_given : (operation : Operation) → (statement_effect line s (Named name) operation).faults ≡ []
      → Given (statement_effect line s (Named name) operation).after
  statement_given Nothing e = by_symbol (defined s (Named name) (value_here s.location))
      (stands_last s.symbols name (value_here s.location))
  statement_given Unknown e = absurd (own_kind UnknownOperator e)
  statement_given (Setloc operand) e = absurd (cc)
  statement_given (Bank taken number) e = absurd (cc)
  statement_given (Erase count) e = ap (λ b. b || stands_in s.promised name) (stands_last s.symbols name (value_here s.location))
  statement_given (Equals operand) e = by_later (λ (x : LineEffect). x.faults ≡ [] → Given x.after) line s (Named name) operand valued_given
      promised_given e
  statement_given (Ebank operand) e = absurd (cc)
  statement_given (Gives None) e = absurd (own_kind BadOperand e)
  statement_given (Gives (Some content)) e = asked_given content (defined s (Named name) (value_here s.location))
      (stands_last s.symbols name (value_here s.location))

-- faults of a label alone, and none of a label
pub no_kinds : (kinds : List FaultKind) → list_all is_of_label kinds ≡ true → list_any is_of_label kinds ≡ false → kinds ≡ []
no_kinds [] all none = refl
no_kinds (kind ∷ kinds) all none =
    let is = and_parts (is_of_label kind) (list_all is_of_label kinds) all in
    let no = or-parts (is_of_label kind) (list_any is_of_label kinds) none in
    absurd (let bad : true ≡ false = sym is.0 ∙ no.0 in cc)

or_first : (a b c : Bool) → (a || b) ≡ true → (a || (b || c)) ≡ true
or_first true b c e = refl
or_first false true c e = refl
or_first false false c e = absurd (cc)

or_third : (a b : Bool) → (a || (b || true)) ≡ true
or_third a b = ap (λ v. a || v) (or_true b) ∙ or_true a

module _ (name : List ℕ) (line : ℕ) (s : Survey) (operation : Operation) (alone : Bool) (known : Known) where
  abbrev kinds : List FaultKind
  kinds = layout_kinds line s.layout (Named name) operation

  -- the label of a line that is done, which has no fault of its label
  laid_stands : is_done s.known alone operation kinds ≡ true → is_kept true kinds ≡ true
      → stands (laid line s (Named name) operation) name ≡ true
  laid_stands done kept =
      let none : kinds ≡ [] = no_kinds kinds (and_parts (list_all is_of_label kinds) (rests_on_known s.known alone operation) done).0
      (is_false (list_any is_of_label kinds) kept) in
      let after : Layout = (statement_effect line s.layout (Named name) operation).after in
      subst (λ ks. (stands_in (cond (some_stands ks) s.layout after).symbols name
      || (stands_in (cond (some_stands ks) s.layout after).promised name || stands_in s.lost name)) ≡ true) (sym none)
      (or_first (stands_in after.symbols name) (stands_in after.promised name) (stands_in s.lost name)
      (statement_given name line s.layout operation none))
    where
      is_false : (b : Bool) → not b ≡ true → b ≡ false
      is_false true e = absurd (cc)
      is_false false e = refl

  done_stands : (done kept : Bool) → is_done s.known alone operation kinds ≡ done → is_kept done kinds ≡ kept
      → stands (with_known (done_line line s (Named name) operation done kept) known) name ≡ true
  done_stands true true done kept = keeps_stands name (laid line s (Named name) operation) _ (known_keeps name _ known)
      (laid_stands done kept)
  done_stands false true done kept = absurd (cc)
  done_stands done false is_done_so kept =
      keeps_stands name (label_passed false s (Named name) operation) _ (followed_keeps name line s (Named name) operation done false known)
      (ap (λ v. stands_in (label_passed false s (Named name) operation).layout.symbols name
      || (stands_in (label_passed false s (Named name) operation).layout.promised name || v)) (noted_stands s.lost name)
      ∙ or_third (stands_in (label_passed false s (Named name) operation).layout.symbols name)
      (stands_in (label_passed false s (Named name) operation).layout.promised name))

label_stands : (name : List ℕ) (line : ℕ) (s : Survey) (text : List ℕ) → (statement_on s.layout text).label ≡ Named name
    → stands (passed_line line s text) name ≡ true
unfolding passed_line
label_stands name line s text is =
    let operation : Operation = operation_on s.layout text in
    let alone : Bool = lacks_operand s.layout.language text in
    let own : List FaultKind = layout_kinds line s.layout (Named name) operation in
    let done : Bool = is_done s.known alone operation own in
    subst (λ (label : Label). stands (said_passed line s text label operation
    (is_done s.known alone operation (layout_kinds line s.layout label operation)) (layout_kinds line s.layout label operation)) name
    ≡ true) (sym is)
    (done_stands name line s operation alone (known_after s.known text operation done) done (is_kept done own) refl refl)

all_keep : (name : List ℕ) (texts : List (List ℕ)) (line : ℕ) (s : Survey) → stands s name ≡ true
    → stands (passed_lines line s texts) name ≡ true
all_keep name [] line s is = is
all_keep name (text ∷ texts) line s is = all_keep name texts (line + 1) (passed_line line s text) (passed_keeps name line s text is)

-- the label of any of some lines stands after them
label_kept : (name : List ℕ) (texts : List (List ℕ)) (k line : ℕ) (s : Survey) → k < length texts
    → (statement_on (passed_lines line s (take k texts)).layout (unwrap_or (slice_get texts k) [])).label ≡ Named name
    → stands (passed_lines line s texts) name ≡ true
label_kept name [] k line s few is = absurd (omega arith)
label_kept name (text ∷ texts) zero line s few is = all_keep name texts (line + 1) (passed_line line s text)
    (label_stands name line s text is)
label_kept name (text ∷ texts) (suc k) line s few is = label_kept name texts k (line + 1) (passed_line line s text) (omega arith) is

settled_stands : (name : List ℕ) (s : Survey) → stands s name ≡ true → stands (settled_survey s) name ≡ true
settled_stands name s =
    keeps_stands name s (settled_survey s)
    (record {
      layout = record {
        symbols = settled_holds (λ table. stands_in table name ≡ true)
            (λ table other value new is. stands_more table (other, value) name is) s.layout.promises s.layout.symbols;
        promised = λ is. is;
      };
      lost = λ is. is;
    })

-- ## Where it is told that no line defines a symbol
late_number : (k : FaultKind) → is_of_fields k ≡ true → (fault_number k == fault_number Undefined) ≡ false
late_number BadLabel e = refl
late_number TwiceDefined e = refl
late_number UnknownOperator e = refl
late_number BadOperand e = refl
late_number Undefined e = absurd (cc)
late_number _ e = refl

is_undefined : (k : FaultKind) → (fault_number k == fault_number Undefined) ≡ true → k ≡ Undefined
is_undefined Undefined e = refl
is_undefined _ e = absurd (cc)

none_late : (ks : List FaultKind) → AreLate ks → is_one_of ks Undefined ≡ false
none_late [] late = refl
none_late (k ∷ ks) late = ap (λ b. b || is_one_of ks Undefined) (late_number k late.0) ∙ none_late ks late.1

none_late_if : (c : Option FaultKind) → IsLateIf c → is_one_of (standing (c ∷ [])) Undefined ≡ false
none_late_if None late = refl
none_late_if (Some k) late = ap (λ b. b || false) (late_number k late)

none_of_text : (a b c : Bool) → is_one_of (standing (fault_if a NotAscii ∷ fault_if b LongLine ∷ fault_if c TooManyLines ∷ [])) Undefined
    ≡ false
none_of_text true true true = refl
none_of_text true true false = refl
none_of_text true false true = refl
none_of_text true false false = refl
none_of_text false true true = refl
none_of_text false true false = refl
none_of_text false false true = refl
none_of_text false false false = refl

none_of_form : (b : Bool) → is_one_of (form_kinds b) Undefined ≡ false
none_of_form true = refl
none_of_form false = refl

none_of_extracode : (i : Extracode) (extracode : Bool) → is_one_of (standing (extracode_fault i extracode ∷ [])) Undefined ≡ false
none_of_extracode No true = refl
none_of_extracode No false = refl
none_of_extracode Yes true = refl
none_of_extracode Yes false = refl
none_of_extracode Either extracode = refl

-- the first of two, where the other is none of extracode
first_kind : (c : Option FaultKind) (i : Extracode) (extracode : Bool)
    → is_one_of (standing (c ∷ extracode_fault i extracode ∷ [])) Undefined ≡ true → c ≡ Some Undefined
first_kind None i extracode e = absurd (let bad : true ≡ false = sym e ∙ none_of_extracode i extracode in cc)
first_kind (Some k) i extracode e =
    ap (λ (j : FaultKind). Some j) (is_undefined k
    (or_false (fault_number k == fault_number Undefined) _ (none_of_extracode i extracode) e))
  where
    or_false : (a b : Bool) → b ≡ false → (a || b) ≡ true → a ≡ true
    or_false true b none e = refl
    or_false false b none e = absurd (let bad : true ≡ false = sym e ∙ none in cc)

-- ## Words whose operand is a symbol without a value
not_late : {A : Type 0} (r : Result A FaultKind) → FailsLate r → result_err r ≡ Some Undefined → ⊥
not_late (Ok x) late e = cc
not_late (Err k) late e = (let same : k ≡ Undefined = same_Some k Undefined e in let bad : is_of_fields Undefined
    ≡ true = subst (λ (j : FaultKind). is_of_fields j
    ≡ true) same late in let worse : false ≡ true = bad in cc)

accepted_late : (test : ℕ → Bool) (n : ℕ) → FailsLate (accepted test n)
accepted_late test n = choice_late (test n) (Ok n) (Err WrongKindOfAddress) tt refl

address_late : (value : Value) → FailsLate (address_of value)
address_late (Num n) = choice_late (nat_lt n 0o10000) (Ok n) (Err OutOfRange) tt refl
address_late (Erasable n) = tt
address_late (Fixed bank n) = tt

below_late : (size : ℕ) (value : Value) → FailsLate (address_below size value)
below_late size value = then_late (accepted (λ a. nat_lt a size)) (address_of value) (address_late value)
    (accepted_late (λ a. nat_lt a size))

channel_late : (size : ℕ) (value : Value) → FailsLate (channel_in size value)
channel_late size (Num n) = accepted_late (λ channel. nat_lt channel size) n
channel_late size (Erasable n) = refl
channel_late size (Fixed bank n) = refl

offset_late : (here : Location) → FailsLate (fixed_offset here)
offset_late (Location.Erasable n) = refl
offset_late (Location.Fixed bank n) = tt

fixed_late : (value : Value) → FailsLate (fixed_place value)
fixed_late value = then_late fixed_offset (location_at value) (location_late value) offset_late

low_late : (place : ℕ × ℕ) → FailsLate (low_place place)
low_late place = choice_late (nat_lt place.0 0o30) (Ok place) (Err WrongKindOfAddress) tt refl

field_late : (takes : Takes) (size : ℕ) (value : Value) → FailsLate (field_of takes size value)
field_late Address size value = below_late size value
field_late Pair size value = then_late (λ address. Ok ((address + 1) % size)) (address_below size value) (below_late size value) (λ a. tt)
field_late FixedAddress size value = then_late (accepted (λ a. nat_le 0o2000 a)) (address_of value) (address_late value)
    (accepted_late (λ a. nat_le 0o2000 a))
field_late Channel size value = channel_late size value
field_late ErasablePlace size value = then_late erasable_number (location_at value) (location_late value) erasable_late
field_late FixedPlace size value = then_late (λ place. Ok (complete_address place.0 place.1)) (fixed_place value) (fixed_late value)
    (λ place. tt)

word_late : (i : AddressedCode) (extracode : Bool) (value : Value) → FailsLate (addressed_word i extracode value)
word_late i extracode value =
    then_late (λ field. Ok ((i.least + field) ∷ [])) (field_of i.takes (field_size (bits_under i.extracode i.bits extracode)) value)
    (field_late i.takes (field_size (bits_under i.extracode i.bits extracode)) value) (λ field. tt)

-- a term is a symbol that has no value
abbrev Lacks : Table → Term → Type 0
Lacks table term = (name : List ℕ) × ((symbol_in term ≡ Some name) × (stands_in table name ≡ false))

then_not : {A B : Type 0} (f : A → Result B FaultKind) (r : Result A FaultKind) → ((x : A) → FailsLate (f x)) → FailsLate r
    → result_err (and_then f r) ≡ Some Undefined → ⊥
then_not f (Ok x) each late e = not_late (f x) (each x) e
then_not {B = B} f (Err k) each late e = not_late {A = B} (Err k) late e

-- the words of an operand: of no symbol is told that no line defines it but of the operand
operand_lacks : {A : Type 0} (table : Table) (here : Value) (shift : Shift) (term : Term) (f : Value → Result A FaultKind)
    → ((value : Value) → FailsLate (f value))
    → result_err (and_then f (and_then (moved_value shift) (term_value Undefined table here term))) ≡ Some Undefined → Lacks table term
operand_lacks table here shift (Term.Number number) f late e =
    absurd (then_not f (and_then (moved_value shift) (and_then (λ n. Ok (Num n)) (ok_or number OutOfRange))) late
    (then_late (moved_value shift) (and_then (λ n. Ok (Num n)) (ok_or number OutOfRange))
    (then_late (λ n. Ok (Num n)) (ok_or number OutOfRange) (ok_or_late number OutOfRange refl) (λ n. tt)) (moved_value_late shift)) e)
operand_lacks {A = A} table here shift (Term.Named name) f late e = by_value (value_in table name) refl e
  where
    by_value : (value : Option Value) → value_in table name ≡ value
        → result_err (and_then f (and_then (moved_value shift) (ok_or value Undefined))) ≡ Some Undefined → Lacks table (Term.Named name)
    by_value None none e = (name, (refl, ap is_some none))
    by_value (Some value) some e = absurd (then_not f (moved_value shift value) late (moved_value_late shift value) e)
operand_lacks table here shift (Term.Place bank offset) f late e = absurd
    (then_not f (moved_value shift (Fixed bank offset)) late (moved_value_late shift (Fixed bank offset)) e)
operand_lacks table here shift Term.Here f late e = absurd (then_not f (moved_value shift here) late (moved_value_late shift here) e)

err_then : {A B C : Type 0} (g : B → Result C FaultKind) (f : A → Result B FaultKind) (r : Result A FaultKind)
    → and_then g (and_then f r) ≡ and_then (λ x. and_then g (f x)) r
err_then g f (Ok x) = refl
err_then g f (Err k) = refl

-- a place of a low bank, and what follows from it
low_lacks : {A : Type 0} (table : Table) (here : Value) (operand : Operand) (g : ℕ × ℕ → Result A FaultKind)
    → ((place : ℕ × ℕ) → FailsLate (g place))
    → result_err (and_then g (and_then low_place (and_then fixed_place (value_of Undefined table here operand)))) ≡ Some Undefined
    → Lacks table operand.term
low_lacks table here operand g late e =
    operand_lacks table here operand.shift operand.term (λ value. and_then g (and_then low_place (fixed_place value)))
    (λ value. then_late g (and_then low_place (fixed_place value)) (then_late low_place (fixed_place value) (fixed_late value) low_late)
    late)
    (ap result_err (sym (ap (and_then g) (err_then low_place fixed_place (value_of Undefined table here operand))
    ∙ err_then g (λ value. and_then low_place (fixed_place value)) (value_of Undefined table here operand))) ∙ e)

content_lacks : (table : Table) (here : Value) (extracode : Bool) (eb : ℕ) (content : Content)
    → result_err (content_words table here extracode eb content) ≡ Some Undefined
    → (name : List ℕ) × ((symbol_of (Gives (Some content)) ≡ Some name) × (stands_in table name ≡ false))
content_lacks table here extracode eb (Constant number) e = absurd
    (then_not (λ word. Ok (word ∷ [])) (ok_or number OutOfRange) (λ word. tt) (ok_or_late number OutOfRange refl) e)
content_lacks table here extracode eb (Plain i) e = absurd (cc)
content_lacks table here extracode eb (Addressed i operand) e = operand_lacks table here operand.shift operand.term
    (addressed_word i extracode) (word_late i extracode) e
content_lacks table here extracode eb (FarAddress operand) e =
    operand_lacks table here operand.shift operand.term
    (λ value. and_then (λ place. Ok (far_address eb place.0 place.1)) (fixed_place value))
    (λ value. then_late (λ place. Ok (far_address eb place.0 place.1)) (fixed_place value) (fixed_late value) (λ place. tt))
    (ap result_err (sym (err_then (λ place. Ok (far_address eb place.0 place.1)) fixed_place (value_of Undefined table here operand))) ∙ e)
content_lacks table here extracode eb (Constants pair) e =
    absurd (then_not (λ words. Ok (words.first ∷ words.second ∷ [])) (ok_or pair OutOfRange) (λ words. tt) (ok_or_late pair OutOfRange refl)
    e)
content_lacks table here extracode eb (Complemented i operand) e =
    operand_lacks table here operand.shift operand.term (λ value. and_then (λ words. Ok (map neg words)) (addressed_word i extracode value))
    (λ value. then_late (λ words. Ok (map neg words)) (addressed_word i extracode value) (word_late i extracode value) (λ words. tt))
    (ap result_err (sym (err_then (λ words. Ok (map neg words)) (addressed_word i extracode) (value_of Undefined table here operand))) ∙ e)
content_lacks table here extracode eb (FarComplement operand) e = low_lacks table here operand
    (λ place. Ok (map neg (far_address eb place.0 place.1))) (λ place. tt) e
content_lacks table here extracode eb (BankWord operand) e = low_lacks table here operand (λ place. Ok (bank_word eb place.0 place.1 ∷ []))
    (λ place. tt) e

-- a line's symbol has no value
abbrev pub LacksValue : Table → Operation → Type 0
LacksValue table operation = (name : List ℕ) × ((symbol_of operation ≡ Some name) × (stands_in table name ≡ false))

word_lacks : (table : Table) (s : Layout) (formless : Bool) (operation : Operation)
    → is_one_of (word_kinds table s formless operation) Undefined ≡ true → LacksValue table operation
word_lacks table s formless Nothing e = absurd (cc)
word_lacks table s formless Unknown e = absurd (cc)
word_lacks table s formless (Setloc operand) e = absurd (cc)
word_lacks table s formless (Bank taken number) e = absurd (cc)
word_lacks table s formless (Erase count) e = absurd (cc)
word_lacks table s formless (Equals operand) e = absurd (cc)
word_lacks table s formless (Ebank operand) e = absurd (cc)
word_lacks table s formless (Gives None) e = absurd (cc)
word_lacks table s true (Gives (Some content)) e = absurd
    (let bad : true ≡ false = sym e ∙ none_of_extracode (extracode_of content) s.extracode in cc)
word_lacks table s false (Gives (Some content)) e =
    let here : Value = Fixed (place_of_words s.location).0 (place_of_words s.location).1 in
    content_lacks table here s.extracode s.eb content
    (first_kind (result_err (content_words table here s.extracode s.eb content)) (extracode_of content) s.extracode e)

-- of five lists the last has a kind, where the others have not
any_of_five : (a b c d w : List FaultKind) → is_one_of (a ++ b ++ c ++ d ++ w) Undefined
    ≡ ((((is_one_of a Undefined || is_one_of b Undefined) || is_one_of c Undefined) || is_one_of d Undefined) || is_one_of w Undefined)
any_of_five a b c d w =
    list_any-append (λ other. fault_number other == fault_number Undefined) (a ++ b ++ c ++ d) w
    ∙ ap (λ x. x || is_one_of w Undefined) (list_any-append (λ other. fault_number other == fault_number Undefined) (a ++ b ++ c) d
    ∙ ap (λ x. x || is_one_of d Undefined) (list_any-append (λ other. fault_number other == fault_number Undefined) (a ++ b) c
    ∙ ap (λ x. x || is_one_of c Undefined) (list_any-append (λ other. fault_number other == fault_number Undefined) a b)))

last_of_five : (a b c d w : Bool) → a ≡ false → b ≡ false → c ≡ false → d ≡ false → ((((a || b) || c) || d) || w) ≡ true → w ≡ true
last_of_five a b c d w none_a none_b none_c none_d e = sym (λ i. (((none_a i || none_b i) || none_c i) || none_d i) || w) ∙ e

vain_late : (whole s : Survey) (label : Label) (operation : Operation) → IsLateIf (vain_kind whole s label operation)
vain_late whole s label operation = by_test (names_one whole.lost operation
    || waits_in_vain s.layout.promised whole.layout.symbols operation)
  where
    by_test : (b : Bool) → IsLateIf (cond b None (waiting_kind whole.layout.symbols s.layout label operation))
    by_test true = tt
    by_test false = waiting_late whole.layout.symbols s.layout label operation

-- of all faults of a line, those of its words alone tell that no line defines a symbol
line_lacks : (whole : Survey) (line : ℕ) (s : Survey) (text : List ℕ) → is_one_of (line_kinds whole line s text) Undefined ≡ true
    → LacksValue whole.layout.symbols (operation_on s.layout text)
line_lacks whole line s text e =
    let label : Label = (statement_on s.layout text).label in
    let operation : Operation = operation_on s.layout text in
    let formless : Bool = lacks_form (statement_on s.layout text).operation in
    let of_text : List FaultKind = text_faults s.layout.language line text in
    let of_layout : List FaultKind = layout_kinds line s.layout label operation in
    let of_vain : List FaultKind = standing (vain_kind whole s label operation ∷ []) in
    let of_words : List FaultKind = word_kinds whole.layout.symbols s.layout formless operation in
    word_lacks whole.layout.symbols s.layout formless operation
    (last_of_five (is_one_of of_text Undefined) (is_one_of (form_kinds formless) Undefined) (is_one_of of_layout Undefined)
    (is_one_of of_vain Undefined) (is_one_of of_words Undefined)
    (none_of_text (not (list_all is_text_byte text)) (nat_lt line_length (length (measured s.layout.language text)))
    (line == most_lines s.layout.language + 1))
    (none_of_form formless) (none_late of_layout (statement_late line s.layout label operation))
    (none_late_if (vain_kind whole s label operation) (vain_late whole s label operation))
    (sym (any_of_five of_text (form_kinds formless) of_layout of_vain of_words) ∙ e))

-- ## A symbol of a line
pub names_symbol : (table : Table) (operation : Operation) (name : List ℕ) → symbol_of operation ≡ Some name
    → names_one table operation ≡ stands_in table name
names_symbol table operation name is = by_operand (operand_of operation) is
  where
    by_term : (term : Term) → symbol_in term ≡ Some name → is_among table term ≡ stands_in table name
    by_term (Term.Named other) is = ap (stands_in table) (same_Some other name is)
    by_term (Term.Number number) is = absurd (let bad : None ≡ Some name = is in cc)
    by_term (Term.Place bank offset) is = absurd (let bad : None ≡ Some name = is in cc)
    by_term Term.Here is = absurd (let bad : None ≡ Some name = is in cc)

    by_operand : (operand : Option Operand) → option_and_then (λ o. symbol_in o.term) operand ≡ Some name
        → option_map_or (λ o. is_among table o.term) operand false ≡ stands_in table name
    by_operand None is = absurd (let bad : None ≡ Some name = is in cc)
    by_operand (Some operand) is = by_term operand.term is

-- a symbol that is not lost, does not wait in vain and has no value stands nowhere
stands_nowhere : (lost promised symbols : Bool) → symbols ≡ false → (lost || (promised && not symbols)) ≡ false
    → (symbols || (promised || lost)) ≡ false
stands_nowhere true promised symbols none e = absurd (cc)
stands_nowhere false true symbols none e = absurd (let bad : true ≡ false = sym (ap not none) ∙ e in cc)
stands_nowhere false false symbols none e = ap (λ v. v || false) none

module _ (language : Language) (source : List ℕ) where
  abbrev whole : Survey
  whole = settled_survey (passed_lines 1 (unmarked language) (looked_at language source))

  no_label : (name : List ℕ) → stands whole name ≡ false → IsNoLabel language source name
  no_label name none = λ line one few is.
      let there : stands whole name ≡ true =
      settled_stands name (passed_lines 1 (unmarked language) (looked_at language source))
      (label_kept name (looked_at language source) (line - 1) 1 (unmarked language) (omega arith) is) in
      let bad : true ≡ false = sym there ∙ none in cc

  abbrev IsSo : Finding → Type 0
  IsSo f = fault_number f.kind ≡ fault_number Undefined → NamesNoLabel language source f.line

  module _ (done texts : List (List ℕ)) (text : List ℕ) (line : ℕ) (all : looked_at language source ≡ done ++ text ∷ texts)
      (at : line ≡ length done + 1) where
    abbrev s : Survey
    s = passed_lines 1 (unmarked language) done

    abbrev operation : Operation
    operation = operation_on (passed_lines 1 (unmarked language) done).layout text

    undefined_named : is_one_of (line_kinds whole line s text) Undefined ≡ true → follows (doubt whole s text operation) Undefined ≡ false
        → NamesNoLabel language source line
    undefined_named told apart =
        let lacks : LacksValue whole.layout.symbols operation = line_lacks whole line s text told in
        let doubts : (names_one whole.lost operation || waits_in_vain whole.layout.promised whole.layout.symbols operation) ≡ false =
        (or-parts (doubt whole s text operation).bytes
        (names_one whole.lost operation || waits_in_vain whole.layout.promised whole.layout.symbols operation) apart).1 in
        let none : stands whole lacks.0 ≡ false =
        stands_nowhere (stands_in whole.lost lacks.0) (stands_in whole.layout.promised lacks.0) (stands_in whole.layout.symbols lacks.0)
        lacks.1.1
        (sym (λ i. names_symbol whole.lost operation lacks.0 lacks.1.0 i
        || (names_symbol whole.layout.promised operation lacks.0 lacks.1.0 i
        && not (names_symbol whole.layout.symbols operation lacks.0 lacks.1.0 i))) ∙ doubts) in
        (lacks.0, (ap symbol_of (line_said language source done texts text line all at) ∙ lacks.1.0, no_label lacks.0 none))

    each_named : (kind : FaultKind) → (is_one_of (line_kinds whole line s text) kind && not (follows (doubt whole s text operation) kind))
        ≡ true
        → IsSo (finding s.layout.language line text (taken_by s.layout operation) kind)
    each_named kind is = λ number.
        let undefined : kind ≡ Undefined = is_undefined kind (eq-eqb (fault_number kind) (fault_number Undefined) number) in
        let parts = and_parts (is_one_of (line_kinds whole line s text) Undefined) (not (follows (doubt whole s text operation) Undefined))
        (subst (λ (k : FaultKind). (is_one_of (line_kinds whole line s text) k && not (follows (doubt whole s text operation) k)) ≡ true)
        undefined is) in
        undefined_named parts.0 (not_false (follows (doubt whole s text operation) Undefined) parts.1)

pub undefined_is_sure : (language : Language) (source : List ℕ) → UndefinedIsSure language source
unfolding told
undefined_is_sure language source =
    lines_told language source (whole language source) (IsSo language source) (each_named language source) (looked_at language source) [] 1
    refl refl
