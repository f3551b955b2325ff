-- Kinds of faults that all pass a test: those that some conditions give, and those by which values and words fail.
use Rattle.std.proofs.Common.{◌≡◌, ℕ, ◌+◌, ◌-◌, ◌%◌, ◌==◌, map, Bool, true, false, ◌&&◌, ◌||◌, not, length, List, [], ◌∷◌, ◌++◌, Option}
use Rattle.std.proofs.Common.{Some, None, Result, Ok, Err, refl, ap, ◌∙◌}
use Rattle.std.specs.Prelude.{nat_le, nat_lt, ok_or, if◌then◌else◌}
use Rattle.std.specs.List.{list_all}
use Rattle.std.specs.Option.{option_map}
use Rattle.std.specs.Result.{result_err}
use Rattle.agc_text.specs.Bytes.{is_text_byte, line_length}
use Rattle.agc_text.specs.Tables.{value_in}
use Rattle.symbols.specs.Values.{place_of}
use Rattle.words.specs.Numbers.{neg}
use Rattle.yayul.specs.Flight.{measured, most_lines}
use Rattle.yayul.specs.Forms.{greatest_number}
use Rattle.yayul.specs.Operators.{bits_under, field_size}
use Rattle.yayul.specs.Later.{Table}
use Rattle.yayul.specs.Layout.{and_then, erasable_number, fault_if, fault_number, location_at, location_of, moved, moved_value, standing}
use Rattle.yayul.specs.Layout.{is_erasable, is_taken, lacks_room, statement_on, width}
use Rattle.yayul.specs.Layout.{Layout, is_malformed, is_missing, is_twice, term_value, text_faults, value_of, valued}
use Rattle.yayul.specs.Mended.{lacks_form}
use Rattle.yayul.specs.Survey.{Survey, form_kinds, is_one_of, layout_kinds, line_kinds, operation_on, vain_kind, word_kinds}
use Rattle.yayul.specs.Words.{accepted, address_below, address_of, addressed_word, bank_word, channel_in, complete_address, content_words}
use Rattle.yayul.specs.Words.{extracode_fault, far_address, field_of, fixed_offset, fixed_place, low_place}
use Rattle.yayul.specs.Language.{Address, Addressed, AddressedCode, BadLabel, BadOperand, BankWord, Label, TwiceDefined, Channel}
use Rattle.yayul.specs.Language.{BankFull, CodeInErasable, Complemented, Constant, Constants, PlaceTaken}
use Rattle.yayul.specs.Language.{Content, Either, Erasable, ErasablePlace, Extracode, FarAddress, FarComplement, FaultKind, Fixed}
use Rattle.yayul.specs.Language.{FixedAddress, FixedPlace, Language, Location, LongLine, Minus, NeedsExtend, No, NotAscii, NotExtracode}
use Rattle.yayul.specs.Language.{Num, Operand, Operation, OutOfRange, Pair, Plain, Plus, Shift, Takes, Term, TooManyLines, Undefined, Value}
use Rattle.yayul.specs.Language.{WrongKindOfAddress, Yes}

abbrev pub AreAs : (FaultKind → Type 0) → List FaultKind → Type 0
AreAs P [] = Unit {0}
AreAs P (k ∷ ks) = P k × AreAs P ks

abbrev pub IsAsIf : (FaultKind → Type 0) → Option FaultKind → Type 0
IsAsIf P None = Unit {0}
IsAsIf P (Some k) = P k

abbrev pub FailsAs : {A : Type 0} → (FaultKind → Type 0) → Result A FaultKind → Type 0
FailsAs P (Ok x) = Unit {0}
FailsAs P (Err k) = P k

-- ## Conditions
module _ (P : FaultKind → Type 0) where
  pub stands_as : (c : Option FaultKind) (cs : List (Option FaultKind)) → IsAsIf P c → AreAs P (standing cs) → AreAs P (standing (c ∷ cs))
  stands_as None cs is are = are
  stands_as (Some k) cs is are = (is, are)

  pub if_as : (b : Bool) (k : FaultKind) (cs : List (Option FaultKind)) → P k → AreAs P (standing cs)
      → AreAs P (standing (fault_if b k ∷ cs))
  if_as true k cs is are = (is, are)
  if_as false k cs is are = are

  pub err_as : {A : Type 0} (r : Result A FaultKind) → FailsAs P r → IsAsIf P (result_err r)
  err_as (Ok x) fails = tt
  err_as (Err k) fails = fails

  -- the faults of a label, and others
  pub label_as : P BadLabel → P TwiceDefined → (s : Layout) (label : Label) (cs : List (Option FaultKind)) → AreAs P (standing cs)
      → AreAs P (standing (fault_if (is_malformed label) BadLabel ∷ fault_if (is_twice s label) TwiceDefined ∷ cs))
  label_as bad twice s label cs are = if_as (is_malformed label) BadLabel (fault_if (is_twice s label) TwiceDefined ∷ cs) bad
      (if_as (is_twice s label) TwiceDefined cs twice are)

  -- the faults of a label and of the words of its line
  pub given_as : P BadLabel → P TwiceDefined → P BankFull → P PlaceTaken → P CodeInErasable → (s : Layout) (label : Label)
      (content : Content)
      → AreAs P (standing (fault_if (is_malformed label) BadLabel ∷ fault_if (is_twice s label) TwiceDefined
      ∷ fault_if (lacks_room (width content) s.location) BankFull ∷ fault_if (is_taken s (width content)) PlaceTaken
      ∷ fault_if (is_erasable s.location) CodeInErasable ∷ []))
  given_as bad twice full taken erasable s label content =
      label_as bad twice s label (fault_if (lacks_room (width content) s.location) BankFull ∷ fault_if (is_taken s (width content)) PlaceTaken
      ∷ fault_if (is_erasable s.location) CodeInErasable ∷ [])
      (if_as (lacks_room (width content) s.location) BankFull
      (fault_if (is_taken s (width content)) PlaceTaken ∷ fault_if (is_erasable s.location) CodeInErasable ∷ []) full
      (if_as (is_taken s (width content)) PlaceTaken (fault_if (is_erasable s.location) CodeInErasable ∷ []) taken
      (if_as (is_erasable s.location) CodeInErasable [] erasable tt)))

  pub bare_as : {A : Type 0} → P BadLabel → (label : Label) (r : Result A FaultKind) → FailsAs P r
      → AreAs P (standing (fault_if (not (is_missing label)) BadLabel ∷ result_err r ∷ []))
  bare_as bad label r fails = if_as (not (is_missing label)) BadLabel (result_err r ∷ []) bad
      (stands_as (result_err r) [] (err_as r fails) tt)

  pub valued_as : P BadLabel → P TwiceDefined → (s : Layout) (label : Label) (value : Result Value FaultKind) → FailsAs P value
      → AreAs P (valued s label value).faults
  valued_as bad twice s label value fails =
      if_as (is_missing label || is_malformed label) BadLabel (fault_if (is_twice s label) TwiceDefined ∷ result_err value ∷ []) bad
      (if_as (is_twice s label) TwiceDefined (result_err value ∷ []) twice
      (stands_as (result_err value) [] (err_as value fails) tt))

  pub both_as : (ks others : List FaultKind) → AreAs P ks → AreAs P others → AreAs P (ks ++ others)
  both_as [] others are others_are = others_are
  both_as (k ∷ ks) others are others_are = (are.0, both_as ks others are.1 others_are)

  pub five_as : (a b c d e : List FaultKind) → AreAs P a → AreAs P b → AreAs P c → AreAs P d → AreAs P e → AreAs P (a ++ b ++ c ++ d ++ e)
  five_as a b c d e one two three four five = both_as (a ++ b ++ c ++ d) e
      (both_as (a ++ b ++ c) d (both_as (a ++ b) c (both_as a b one two) three) four) five

  pub then_as : {A B : Type 0} (f : A → Result B FaultKind) (r : Result A FaultKind) → FailsAs P r → ((x : A) → FailsAs P (f x))
      → FailsAs P (and_then f r)
  then_as f (Ok x) fails each = each x
  then_as f (Err k) fails each = fails

  pub choice_as : {A : Type 0} (b : Bool) (r q : Result A FaultKind) → FailsAs P r → FailsAs P q → FailsAs P (if b then r else q)
  choice_as true r q r_fails q_fails = r_fails
  choice_as false r q r_fails q_fails = q_fails

  pub ok_or_as : {A : Type 0} (o : Option A) (k : FaultKind) → P k → FailsAs P (ok_or o k)
  ok_or_as None k is = is
  ok_or_as (Some x) k is = tt

  -- the faults of a line's bytes, its length and its number, that of a form, and those of extracode
  pub text_as : (language : Language) (line : ℕ) (text : List ℕ) → P NotAscii → P LongLine → P TooManyLines
      → AreAs P (text_faults language line text)
  text_as language line text ascii long many =
      let last : List (Option FaultKind) = fault_if (line == most_lines language + 1) TooManyLines ∷ [] in
      if_as (not (list_all is_text_byte text)) NotAscii (fault_if (nat_lt line_length (length (measured language text))) LongLine ∷ last)
      ascii
      (if_as (nat_lt line_length (length (measured language text))) LongLine last long
      (if_as (line == most_lines language + 1) TooManyLines [] many tt))

  pub form_as : (formless : Bool) → P BadOperand → AreAs P (form_kinds formless)
  form_as formless is = if_as formless BadOperand [] is tt

  -- the faults of a line, whose text and operand may be wrong
  pub line_as : P NotAscii → P LongLine → P TooManyLines → P BadOperand → (whole : Survey) (line : ℕ) (s : Survey) (text : List ℕ)
      → AreAs P (layout_kinds line s.layout (statement_on s.layout text).label (operation_on s.layout text))
      → AreAs P (standing (vain_kind whole s (statement_on s.layout text).label (operation_on s.layout text) ∷ []))
      → AreAs P (word_kinds whole.layout.symbols s.layout (lacks_form (statement_on s.layout text).operation) (operation_on s.layout text))
      → AreAs P (line_kinds whole line s text)
  line_as ascii long many bad whole line s text of_layout of_name of_words =
      let label : Label = (statement_on s.layout text).label in
      let operation : Operation = operation_on s.layout text in
      let formless : Bool = lacks_form (statement_on s.layout text).operation in
      five_as (text_faults s.layout.language line text) (form_kinds formless) (layout_kinds line s.layout label operation)
      (standing (vain_kind whole s label operation ∷ [])) (word_kinds whole.layout.symbols s.layout formless operation)
      (text_as s.layout.language line text ascii long many) (form_as formless bad) of_layout of_name of_words

  pub extracode_as : (i : Extracode) (extracode : Bool) → P NeedsExtend → P NotExtracode
      → AreAs P (standing (extracode_fault i extracode ∷ []))
  extracode_as No extracode needs is_none = if_as extracode NotExtracode [] is_none tt
  extracode_as Yes extracode needs is_none = if_as (not extracode) NeedsExtend [] needs tt
  extracode_as Either extracode needs is_none = tt

-- ## Values and words
module _ (P : FaultKind → Type 0) (of_range : P OutOfRange) (of_kind : P WrongKindOfAddress) where
  pub moved_as : (most n : ℕ) (shift : Shift) → FailsAs P (moved most n shift)
  moved_as most n (Plus None) = of_range
  moved_as most n (Plus (Some count)) = choice_as P (nat_le (n + count) most) (Ok (n + count)) (Err OutOfRange) tt of_range
  moved_as most n (Minus None) = of_range
  moved_as most n (Minus (Some count)) = choice_as P (nat_le count n && nat_le (n - count) most) (Ok (n - count)) (Err OutOfRange) tt
      of_range

  pub moved_value_as : (shift : Shift) (value : Value) → FailsAs P (moved_value shift value)
  moved_value_as shift (Num n) = then_as P (λ m. Ok (Num m)) (moved greatest_number n shift) (moved_as greatest_number n shift) (λ m. tt)
  moved_value_as shift (Erasable n) = then_as P (λ m. Ok (Erasable m)) (moved 0o3777 n shift) (moved_as 0o3777 n shift) (λ m. tt)
  moved_value_as shift (Fixed bank n) = then_as P (λ m. Ok (Fixed bank m)) (moved 0o1777 n shift) (moved_as 0o1777 n shift) (λ m. tt)

  pub location_as : (value : Value) → FailsAs P (location_at value)
  location_as value = ok_or_as P (option_map location_of (place_of value)) OutOfRange of_range

  pub erasable_as : (here : Location) → FailsAs P (erasable_number here)
  erasable_as (Location.Erasable n) = tt
  erasable_as (Location.Fixed bank n) = of_kind

  accepted_as : (test : ℕ → Bool) (n : ℕ) → FailsAs P (accepted test n)
  accepted_as test n = choice_as P (test n) (Ok n) (Err WrongKindOfAddress) tt of_kind

  address_as : (value : Value) → FailsAs P (address_of value)
  address_as (Num n) = choice_as P (nat_lt n 0o10000) (Ok n) (Err OutOfRange) tt of_range
  address_as (Erasable n) = tt
  address_as (Fixed bank n) = tt

  below_as : (size : ℕ) (value : Value) → FailsAs P (address_below size value)
  below_as size value = then_as P (accepted (λ a. nat_lt a size)) (address_of value) (address_as value) (accepted_as (λ a. nat_lt a size))

  channel_as : (size : ℕ) (value : Value) → FailsAs P (channel_in size value)
  channel_as size (Num n) = accepted_as (λ channel. nat_lt channel size) n
  channel_as size (Erasable n) = of_kind
  channel_as size (Fixed bank n) = of_kind

  offset_as : (here : Location) → FailsAs P (fixed_offset here)
  offset_as (Location.Erasable n) = of_kind
  offset_as (Location.Fixed bank n) = tt

  fixed_as : (value : Value) → FailsAs P (fixed_place value)
  fixed_as value = then_as P fixed_offset (location_at value) (location_as value) offset_as

  low_as : (place : ℕ × ℕ) → FailsAs P (low_place place)
  low_as place = choice_as P (nat_lt place.0 0o30) (Ok place) (Err WrongKindOfAddress) tt of_kind

  field_as : (takes : Takes) (size : ℕ) (value : Value) → FailsAs P (field_of takes size value)
  field_as Address size value = below_as size value
  field_as Pair size value = then_as P (λ address. Ok ((address + 1) % size)) (address_below size value) (below_as size value) (λ a. tt)
  field_as FixedAddress size value = then_as P (accepted (λ a. nat_le 0o2000 a)) (address_of value) (address_as value)
      (accepted_as (λ a. nat_le 0o2000 a))
  field_as Channel size value = channel_as size value
  field_as ErasablePlace size value = then_as P erasable_number (location_at value) (location_as value) erasable_as
  field_as FixedPlace size value = then_as P (λ place. Ok (complete_address place.0 place.1)) (fixed_place value) (fixed_as value)
      (λ place. tt)

  word_as : (i : AddressedCode) (extracode : Bool) (value : Value) → FailsAs P (addressed_word i extracode value)
  word_as i extracode value =
      then_as P (λ field. Ok ((i.least + field) ∷ [])) (field_of i.takes (field_size (bits_under i.extracode i.bits extracode)) value)
      (field_as i.takes (field_size (bits_under i.extracode i.bits extracode)) value) (λ field. tt)

  term_as : (missing : FaultKind) → P missing → (table : Table) (here : Value) (term : Term)
      → FailsAs P (term_value missing table here term)
  term_as missing is table here (Term.Number number) = then_as P (λ n. Ok (Num n)) (ok_or number OutOfRange)
      (ok_or_as P number OutOfRange of_range) (λ n. tt)
  term_as missing is table here (Term.Named name) = ok_or_as P (value_in table name) missing is
  term_as missing is table here (Term.Place bank offset) = tt
  term_as missing is table here Term.Here = tt

  value_as : (missing : FaultKind) → P missing → (table : Table) (here : Value) (operand : Operand)
      → FailsAs P (value_of missing table here operand)
  value_as missing is table here operand = then_as P (moved_value operand.shift) (term_value missing table here operand.term)
      (term_as missing is table here operand.term) (moved_value_as operand.shift)

  low_fixed : P Undefined → (table : Table) (here : Value) (operand : Operand)
      → FailsAs P (and_then low_place (and_then fixed_place (value_of Undefined table here operand)))
  low_fixed is table here operand =
      then_as P low_place (and_then fixed_place (value_of Undefined table here operand))
      (then_as P fixed_place (value_of Undefined table here operand) (value_as Undefined is table here operand) fixed_as) low_as

  -- the words of a line, where a symbol that no line defines is such a fault too
  pub content_as : P Undefined → (table : Table) (here : Value) (extracode : Bool) (eb : ℕ) (content : Content)
      → FailsAs P (content_words table here extracode eb content)
  content_as is table here extracode eb (Constant number) = then_as P (λ word. Ok (word ∷ [])) (ok_or number OutOfRange)
      (ok_or_as P number OutOfRange of_range) (λ word. tt)
  content_as is table here extracode eb (Plain i) = tt
  content_as is table here extracode eb (Addressed i operand) =
      then_as P (addressed_word i extracode) (value_of Undefined table here operand) (value_as Undefined is table here operand)
      (word_as i extracode)
  content_as is table here extracode eb (FarAddress operand) =
      then_as P (λ place. Ok (far_address eb place.0 place.1)) (and_then fixed_place (value_of Undefined table here operand))
      (then_as P fixed_place (value_of Undefined table here operand) (value_as Undefined is table here operand) fixed_as) (λ place. tt)
  content_as is table here extracode eb (Constants pair) =
      then_as P (λ words. Ok (words.first ∷ words.second ∷ [])) (ok_or pair OutOfRange) (ok_or_as P pair OutOfRange of_range) (λ words. tt)
  content_as is table here extracode eb (Complemented i operand) =
      then_as P (λ words. Ok (map neg words)) (and_then (addressed_word i extracode) (value_of Undefined table here operand))
      (then_as P (addressed_word i extracode) (value_of Undefined table here operand) (value_as Undefined is table here operand)
      (word_as i extracode)) (λ words. tt)
  content_as is table here extracode eb (FarComplement operand) =
      then_as P (λ place. Ok (map neg (far_address eb place.0 place.1)))
      (and_then low_place (and_then fixed_place (value_of Undefined table here operand)))
      (low_fixed is table here operand) (λ place. tt)
  content_as is table here extracode eb (BankWord operand) =
      then_as P (λ place. Ok (bank_word eb place.0 place.1 ∷ []))
      (and_then low_place (and_then fixed_place (value_of Undefined table here operand)))
      (low_fixed is table here operand) (λ place. tt)

-- ## A kind that is none of some
-- a kind has another number
abbrev pub IsApart : FaultKind → FaultKind → Type 0
IsApart kind other = (fault_number other == fault_number kind) ≡ false

pub none_apart : (kind : FaultKind) (ks : List FaultKind) → AreAs (IsApart kind) ks → is_one_of ks kind ≡ false
none_apart kind [] are = refl
none_apart kind (k ∷ ks) are = ap (λ b. b || is_one_of ks kind) are.0 ∙ none_apart kind ks are.1
