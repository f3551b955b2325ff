-- Which lines the language of flight programs takes by their form.
use Rattle.std.proofs.Common.{◌≡◌, ℕ, ◌<◌, ◌≤◌, Bool, true, false, ◌&&◌, ◌||◌, not, nat_lt, List, [], ◌∷◌, length, Option, Some, None}
use Rattle.std.proofs.Common.{Result, Ok, Err, cond, refl, ap, sym, ◌∙◌}
use Rattle.std.specs.Prelude.{IfErr, if◌then◌else◌, ok_or}
use Rattle.std.specs.Option.{option_map, option_or}
use Rattle.std.specs.List.{list_any, list_all, slice_get}
use Rattle.std.specs.Result.{result_err}
use Rattle.std.proofs.lemmas.Bool.{le-ltb, lt-ltb}
use Rattle.std.proofs.lemmas.List.Folds.{list_any-append}
use Rattle.agc_text.specs.Bytes.{line_length, is_text_byte}
use Rattle.agc_text.specs.Fields.{Piece, fields, label_of, others_of}
use Rattle.agc_text.specs.Tables.{value_in}
use Rattle.yayul.specs.Language.{BadBank, BadLabel, BadOperand, Bank, BankFull, BankRange, CodeInErasable, Content, Ebank, Equals, Erasable}
use Rattle.yayul.specs.Language.{Erase, FaultKind, Fixed, Flight, Gives, Is, Label, Location, LongLine, Malformed, Minus, Missing, Named}
use Rattle.yayul.specs.Language.{NoForm, NotAscii, Nothing, Num, Numeral, Operand, Operation, OutOfRange, PlaceTaken, Plus, Setloc, Shift}
use Rattle.yayul.specs.Language.{Statement, Term, TooLarge, TwiceDefined, Unknown, UnknownOperator, UsedTooEarly, Value}
use Rattle.yayul.specs.Layout.{Layout, LineEffect, and_then, bank_target, early_value, erased_to, erasable_number, erasable_place, fault_if}
use Rattle.yayul.specs.Layout.{is_erasable, is_later, is_malformed, is_missing, is_taken, is_twice, lacks_room, line_effect, location_at}
use Rattle.yayul.specs.Layout.{moved, moved_value, promised, standing, start, statement_effect, term_value, text_faults, value_here, valued}
use Rattle.yayul.specs.Layout.{width}
use Rattle.yayul.specs.Flight.{after_field, flight_label_in, is_count, measured, uncounted, uncounted_statement, without_count}
use Rattle.yayul.specs.FlightForms.{has_flight_form, is_of_form, gives_too_great}
use Rattle.yayul.specs.Inside.Forms.{has_form, is_formed, is_formless, takes_label}

-- ## Faults that are not of a form
-- what comes to no fault of a form
abbrev Fits : {A : Type 0} → Result A FaultKind → Type 0
Fits result = IfErr result (λ kind. is_of_form kind ≡ false)

fits_then : {A B : Type 0} (f : A → Result B FaultKind) (r : Result A FaultKind) → Fits r → ((x : A) → Fits (f x)) → Fits (and_then f r)
fits_then f (Ok x) fits after = after x
fits_then f (Err kind) fits after = fits

fits_if : {A : Type 0} (b : Bool) (x : A) → Fits (cond b (Ok x) (Err OutOfRange))
fits_if true x = tt
fits_if false x = refl

fits_or : {A : Type 0} (x : Option A) → Fits (ok_or x OutOfRange)
fits_or None = refl
fits_or (Some x) = tt

moved_fits : (most n : ℕ) (shift : Shift) → Fits (moved most n shift)
moved_fits most n (Plus None) = refl
moved_fits most n (Plus (Some count)) = fits_if _ _
moved_fits most n (Minus None) = refl
moved_fits most n (Minus (Some count)) = fits_if _ _

value_moved : (shift : Shift) (value : Value) → Fits (moved_value shift value)
value_moved shift (Num n) = fits_then (λ m. Ok (Num m)) (moved 0o77777 n shift) (moved_fits 0o77777 n shift) (λ m. tt)
value_moved shift (Erasable n) = fits_then (λ m. Ok (Erasable m)) (moved 0o3777 n shift) (moved_fits 0o3777 n shift) (λ m. tt)
value_moved shift (Fixed bank n) = fits_then (λ m. Ok (Fixed bank m)) (moved 0o1777 n shift) (moved_fits 0o1777 n shift) (λ m. tt)

named_fits : (value : Option Value) → Fits (ok_or value UsedTooEarly)
named_fits None = refl
named_fits (Some value) = tt

term_fits : (table : List (List ℕ × Value)) (here : Value) (term : Term) → Fits (term_value UsedTooEarly table here term)
term_fits table here (Term.Number number) = fits_then (λ n. Ok (Num n)) (ok_or number OutOfRange) (fits_or number) (λ n. tt)
term_fits table here (Term.Named name) = named_fits (value_in table name)
term_fits table here (Term.Place bank offset) = tt
term_fits table here Term.Here = tt

early_fits : (s : Layout) (operand : Operand) → Fits (early_value s (Some operand))
early_fits s operand = fits_then (moved_value operand.shift) (term_value UsedTooEarly s.symbols (value_here s.location) operand.term)
    (term_fits s.symbols (value_here s.location) operand.term) (value_moved operand.shift)

location_fits : (value : Value) → Fits (location_at value)
location_fits value = fits_or _

erasable_fits : (here : Location) → Fits (erasable_number here)
erasable_fits (Location.Erasable n) = tt
erasable_fits (Location.Fixed bank n) = refl

place_fits : (value : Value) → Fits (erasable_place value)
place_fits value = fits_then erasable_number (location_at value) (location_fits value) erasable_fits

-- ## The faults of a line
any_standing : (kind : Option FaultKind) (others : List (Option FaultKind))
    → list_any is_of_form (standing (kind ∷ others)) ≡ (list_any is_of_form (standing (kind ∷ [])) || list_any is_of_form (standing others))
any_standing None others = refl
any_standing (Some kind) others = or_false (is_of_form kind) (list_any is_of_form (standing others))
  where
    or_false : (a b : Bool) → (a || b) ≡ ((a || false) || b)
    or_false true b = refl
    or_false false b = refl

-- a fault of another kind does not count
not_of_form : (b : Bool) (kind : FaultKind) (others : List (Option FaultKind)) → is_of_form kind ≡ false
    → list_any is_of_form (standing (fault_if b kind ∷ others)) ≡ list_any is_of_form (standing others)
not_of_form true kind others e = ap (λ x. x || list_any is_of_form (standing others)) e
not_of_form false kind others e = refl

of_result : {A : Type 0} (r : Result A FaultKind) → Fits r → list_any is_of_form (standing (result_err r ∷ [])) ≡ false
of_result (Ok x) fits = refl
of_result (Err kind) fits = ap (λ x. x || false) fits

abbrev first : Layout
first = start Flight

-- a line has a fault of its form
abbrev has_fault : LineEffect → Bool
has_fault effect = list_any is_of_form effect.faults

-- what stands where a label is taken, beside another fault
beside_label : (label : Label) (others : List (Option FaultKind))
    → list_any is_of_form (standing (fault_if (is_malformed label) BadLabel ∷ fault_if (is_twice first label) TwiceDefined ∷ others))
    ≡ (is_malformed label || list_any is_of_form (standing others))
beside_label Missing others = refl
beside_label Malformed others = refl
beside_label (Named name) others = not_of_form (is_twice first (Named name)) TwiceDefined others refl

alone_form : (label : Label) → has_fault (statement_effect 1 first label Nothing) ≡ not (has_form Nothing && takes_label label Nothing)
alone_form label =
    beside_label label (fault_if (not (is_missing label) && lacks_room 1 first.location) BankFull ∷ [])
    ∙ ap (λ b. is_malformed label || b) (not_of_form (not (is_missing label) && lacks_room 1 first.location) BankFull [] refl)
    ∙ by_label label
  where
    by_label : (l : Label) → (is_malformed l || false) ≡ not (true && takes_label l Nothing)
    by_label Missing = refl
    by_label Malformed = refl
    by_label (Named name) = refl

-- a fault of its form stands whatever the label
or_true : (a b : Bool) → b ≡ true → (a || b) ≡ true
or_true true b e = refl
or_true false b e = e

refused_form : (label : Label) (kind : FaultKind) → is_of_form kind ≡ true
    → list_any is_of_form (standing (fault_if (is_malformed label) BadLabel ∷ fault_if (is_twice first label) TwiceDefined ∷ Some kind
    ∷ [])) ≡ true
refused_form label kind e = beside_label label (Some kind ∷ [])
    ∙ or_true (is_malformed label) (list_any is_of_form (kind ∷ [])) (ap (λ x. x || false) e)

-- a line that takes no label
bare_form : {A : Type 0} (label : Label) (r : Result A FaultKind) → Fits r
    → list_any is_of_form (standing (fault_if (not (is_missing label)) BadLabel ∷ result_err r ∷ [])) ≡ not (is_missing label)
bare_form Missing r fits = of_result r fits
bare_form Malformed r fits = refl
bare_form (Named name) r fits = refl

bare_refused : {A : Type 0} (label : Label) (r : Result A FaultKind) → r ≡ Err BadOperand
    → list_any is_of_form (standing (fault_if (not (is_missing label)) BadLabel ∷ result_err r ∷ [])) ≡ true
bare_refused Missing r e = rw e refl
bare_refused Malformed r e = refl
bare_refused (Named name) r e = refl

valued_form : (label : Label) (r : Result Value FaultKind) → Fits r
    → has_fault (valued first label r) ≡ (is_missing label || is_malformed label)
valued_form Missing r fits = refl
valued_form Malformed r fits = refl
valued_form (Named name) r fits = not_of_form (is_twice first (Named name)) TwiceDefined (result_err r ∷ []) refl ∙ of_result r fits

gives_form : (label : Label) (content : Content) → has_fault (statement_effect 1 first label (Gives (Some content))) ≡ is_malformed label
gives_form label content =
    beside_label label (fault_if (lacks_room (width content) first.location) BankFull ∷ fault_if (is_taken first (width content)) PlaceTaken
    ∷ fault_if (is_erasable first.location) CodeInErasable ∷ [])
    ∙ ap (λ b. is_malformed label || b)
    (not_of_form (lacks_room (width content) first.location) BankFull
    (fault_if (is_taken first (width content)) PlaceTaken ∷ fault_if (is_erasable first.location) CodeInErasable ∷ []) refl
    ∙ not_of_form (is_taken first (width content)) PlaceTaken (fault_if (is_erasable first.location) CodeInErasable ∷ []) refl)
    ∙ or_none (is_malformed label)
  where
    or_none : (b : Bool) → (b || false) ≡ b
    or_none true = refl
    or_none false = refl

erase_form : (label : Label) (count : Numeral)
    → has_fault (statement_effect 1 first label (Erase count)) ≡ not (has_form (Erase count) && takes_label label (Erase count))
erase_form label count =
    beside_label label (fault_if (not (is_missing label) && lacks_room 1 first.location) BankFull
    ∷ result_err (erased_to first.location count) ∷ [])
    ∙ ap (λ b. is_malformed label || b) (not_of_form (not (is_missing label) && lacks_room 1 first.location) BankFull
    (result_err (erased_to first.location count) ∷ []) refl)
    ∙ by_both label count
  where
    by_both : (l : Label) (n : Numeral) → (is_malformed l
        || list_any is_of_form (standing (result_err (erased_to (Location.Fixed 2 0) n) ∷ [])))
        ≡ not (has_form (Erase n) && takes_label l (Erase n))
    by_both Malformed NoForm = refl
    by_both Malformed TooLarge = refl
    by_both Malformed (Is n) = refl
    by_both Missing NoForm = refl
    by_both Missing TooLarge = refl
    by_both Missing (Is n) = refl
    by_both (Named name) NoForm = refl
    by_both (Named name) TooLarge = refl
    by_both (Named name) (Is n) = refl

bank_fits : (b : Bool) (here : Location) → Fits (cond b (Ok here) (Err BadBank))
bank_fits true here = tt
bank_fits false here = refl

-- a statement that takes no label
no_label : (operation : Operation) → ((name : List ℕ) → takes_label (Named name) operation ≡ false) → takes_label Missing operation ≡ true
    → (l : Label) → not (is_missing l) ≡ not (takes_label l operation)
no_label operation named missing Missing = ap not (sym missing)
no_label operation named missing Malformed = refl
no_label operation named missing (Named name) = ap not (sym (named name))

-- ## Statements
setloc_form : (label : Label) (operand : Option Operand)
    → has_fault (statement_effect 1 first label (Setloc operand)) ≡ not (has_form (Setloc operand) && takes_label label (Setloc operand))
setloc_form label None = bare_refused label (and_then location_at (early_value first None)) refl
setloc_form label (Some operand) = bare_form label (and_then location_at (early_value first (Some operand)))
    (fits_then location_at (early_value first (Some operand)) (early_fits first operand) location_fits)
    ∙ no_label (Setloc (Some operand)) (λ name. refl) refl label

ebank_form : (label : Label) (operand : Option Operand)
    → has_fault (statement_effect 1 first label (Ebank operand)) ≡ not (has_form (Ebank operand) && takes_label label (Ebank operand))
ebank_form label None = bare_refused label (and_then erasable_place (early_value first None)) refl
ebank_form label (Some operand) = bare_form label (and_then erasable_place (early_value first (Some operand)))
    (fits_then erasable_place (early_value first (Some operand)) (early_fits first operand) place_fits)
    ∙ no_label (Ebank (Some operand)) (λ name. refl) refl label

bank_form : (label : Label) (taken : BankRange) (number : Numeral)
    → has_fault (statement_effect 1 first label (Bank taken number))
    ≡ not (has_form (Bank taken number) && takes_label label (Bank taken number))
bank_form label taken number = by_number number
  where
    by_number : (n : Numeral) → has_fault (statement_effect 1 first label (Bank taken n))
        ≡ not (has_form (Bank taken n) && takes_label label (Bank taken n))
    by_number NoForm = bare_refused label (bank_target first taken NoForm) refl
    by_number TooLarge = bare_form label (bank_target first taken TooLarge) refl ∙ no_label (Bank taken TooLarge) (λ name. refl) refl label
    by_number (Is n) = bare_form label (bank_target first taken (Is n)) (bank_fits _ _)
        ∙ no_label (Bank taken (Is n)) (λ name. refl) refl label

equals_form : (label : Label) (operand : Option Operand)
    → has_fault (statement_effect 1 first label (Equals operand)) ≡ not (has_form (Equals operand) && takes_label label (Equals operand))
equals_form Missing None = refl
equals_form Malformed None = refl
equals_form (Named name) None = not_of_form (is_twice first (Named name)) TwiceDefined (Some BadOperand ∷ []) refl
equals_form label (Some operand) = by_later (is_later first operand) ∙ by_label label
  where
    by_later : (b : Bool) → has_fault (cond b (promised 1 first label operand) (valued first label (early_value first (Some operand))))
        ≡ (is_missing label || is_malformed label)
    by_later true = valued_form label (Ok (Num 0)) tt
    by_later false = valued_form label (early_value first (Some operand)) (early_fits first operand)

    by_label : (l : Label) → (is_missing l || is_malformed l) ≡ not (takes_label l (Equals (Some operand)))
    by_label Missing = refl
    by_label Malformed = refl
    by_label (Named name) = refl

statement_form : (label : Label) (operation : Operation)
    → has_fault (statement_effect 1 first label operation) ≡ not (has_form operation && takes_label label operation)
statement_form label Nothing = alone_form label
statement_form label Unknown = refused_form label UnknownOperator refl
statement_form label (Setloc operand) = setloc_form label operand
statement_form label (Bank taken number) = bank_form label taken number
statement_form label (Erase count) = erase_form label count
statement_form label (Equals operand) = equals_form label operand
statement_form label (Ebank operand) = ebank_form label operand
statement_form label (Gives None) = refused_form label BadOperand refl
statement_form label (Gives (Some content)) = gives_form label content ∙ by_label label
  where
    by_label : (l : Label) → is_malformed l ≡ not (takes_label l (Gives (Some content)))
    by_label Missing = refl
    by_label Malformed = refl
    by_label (Named name) = refl

-- ## Lines
text_form : (text : List ℕ) → list_any is_of_form (text_faults Flight 1 text) ≡ nat_lt line_length (length (measured Flight text))
text_form text =
    not_of_form (not (list_all is_text_byte text)) NotAscii
    (fault_if (nat_lt line_length (length (measured Flight text))) LongLine ∷ None ∷ []) refl
    ∙ by_length (nat_lt line_length (length (measured Flight text)))
  where
    by_length : (b : Bool) → list_any is_of_form (standing (fault_if b LongLine ∷ None ∷ [])) ≡ b
    by_length true = refl
    by_length false = refl

-- the form of a line, by its length and what it says
module _ (text : List ℕ) (said : Statement) (is : said ≡ uncounted_statement (Location.Fixed 2 0) (uncounted text)) where
  form_is_tested : not (nat_lt line_length (length (measured Flight text))
      || not (has_form said.operation && takes_label said.label said.operation) || gives_too_great said.operation) ≡ has_flight_form text
  unfolding has_flight_form line_effect
  form_is_tested =
      sym (ap (λ b. not (b || gives_too_great (uncounted_statement (Location.Fixed 2 0) (uncounted text)).operation))
      (list_any-append is_of_form (text_faults Flight 1 text) (line_effect 1 first text).faults
      ∙ ap (λ b. b || list_any is_of_form (line_effect 1 first text).faults) (text_form text)
      ∙ ap (λ (x : Statement). nat_lt line_length (length (measured Flight text))
      || list_any is_of_form (statement_effect 1 first x.label x.operation).faults) (sym is)
      ∙ ap (λ b. nat_lt line_length (length (measured Flight text)) || b) (statement_form said.label said.operation))
      ∙ ap (λ (x : Statement). not (nat_lt line_length (length (measured Flight text))
      || not (has_form said.operation && takes_label said.label said.operation) || gives_too_great x.operation)) (sym is))

  short_form : length (measured Flight text) ≤ line_length
      → (has_form said.operation && takes_label said.label said.operation && not (gives_too_great said.operation)) ≡ has_flight_form text
  short_form short =
      by_parts (has_form said.operation) (takes_label said.label said.operation) (gives_too_great said.operation)
      ∙ ap (λ b. not (b || not (has_form said.operation && takes_label said.label said.operation) || gives_too_great said.operation))
      (sym (le-ltb line_length (length (measured Flight text)) short))
      ∙ form_is_tested
    where
      by_parts : (a b c : Bool) → (a && b && not c) ≡ not (false || not (a && b) || c)
      by_parts true true c = refl
      by_parts true false c = refl
      by_parts false b c = refl

pub short_line : (text : List ℕ) → length (measured Flight text) ≤ line_length
    → is_formed (uncounted_statement (Location.Fixed 2 0) (uncounted text)) ≡ has_flight_form text
short_line text short = short_form text (uncounted_statement (Location.Fixed 2 0) (uncounted text)) refl short

pub long_form : (text : List ℕ) → line_length < length (measured Flight text) → false ≡ has_flight_form text
long_form text long =
    let said : Statement = uncounted_statement (Location.Fixed 2 0) (uncounted text) in
    ap (λ b. not (b || not (has_form said.operation && takes_label said.label said.operation) || gives_too_great said.operation))
    (sym (lt-ltb line_length (length (measured Flight text)) long)) ∙ form_is_tested text said refl

-- ## Labels
-- a label that has no form is taken by no operation
pub no_label_taken : (label : Label) (operation : Operation) → is_malformed label ≡ true
    → false ≡ (has_form operation && takes_label label operation && not (gives_too_great operation))
no_label_taken Malformed operation e = by_form (has_form operation)
  where
    by_form : (b : Bool) → false ≡ (b && false && not (gives_too_great operation))
    by_form true = refl
    by_form false = refl
no_label_taken Missing operation e = absurd (cc)
no_label_taken (Named name) operation e = absurd (cc)

-- a line that has such a label, which is no count, has no form
pub formless_line : (text : List ℕ) → is_formless (label_of (fields text)) ≡ true
    → false ≡ is_formed (uncounted_statement (Location.Fixed 2 0) (uncounted text))
unfolding uncounted_statement
formless_line text = by_label (label_of (fields text)) refl
  where
    by_count : (f : Piece) (b : Bool) → label_of (fields text) ≡ Some f
        → (not b && is_malformed (flight_label_in (Some f.text))) ≡ true
        → false ≡ is_formed (uncounted_statement (Location.Fixed 2 0) (if b then after_field text f else text))
    by_count f true same e = absurd (cc)
    by_count f false same e =
        no_label_taken _ (uncounted_statement (Location.Fixed 2 0) text).operation
        (ap (λ p. is_malformed (flight_label_in (option_map (λ (q : Piece). q.text) p))) same ∙ e)

    by_label : (label : Option Piece) → label_of (fields text) ≡ label → is_formless label ≡ true
        → false ≡ is_formed (uncounted_statement (Location.Fixed 2 0)
        (without_count text (option_or label (slice_get (others_of (fields text)) 0))))
    by_label None same e = absurd (cc)
    by_label (Some f) same e = by_count f (is_count f.text) same e
