-- A symbol of whose value is told that it is of the wrong kind or out of range has it from a line without a layout fault.
use Rattle.std.proofs.Common.{◌≡◌, ℕ, suc, ◌+◌, ◌==◌, map, Bool, true, false, ◌&&◌, ◌||◌, not, cond, length, List, [], ◌∷◌, ◌++◌, Option}
use Rattle.std.proofs.Common.{Some, None, is_some, Result, Ok, Err, refl, ap, sym, subst, ◌∙◌, arith, append-nil}
use Rattle.std.specs.Prelude.{All, ok_or, if◌then◌else◌}
use Rattle.std.specs.List.{list_all, list_any}
use Rattle.std.specs.Result.{result_err, result_unwrap_or}
use Rattle.std.proofs.lemmas.Bool.{and_parts}
use Rattle.std.proofs.lemmas.Bool.Decides.{nat_tests}
use Rattle.std.proofs.lemmas.List.{length-append}
use Rattle.std.proofs.lemmas.List.Elements.{All-nil, All-append, All-head, All-push, All-tail}
use Rattle.std.proofs.lemmas.Option.{same_Some}
use Rattle.agc_text.specs.Tables.{same_name, value_in}
use Rattle.words.specs.Numbers.{neg}
use Rattle.yayul.specs.Later.{Table, awaited, four_rounds, kept, promise_kind, round, settled, waiting_kind, with_value}
use Rattle.yayul.specs.Layout.{LineEffect, Layout, Promise, and_then, asked_here, defined, early_value, erasable_place, fault_if}
use Rattle.yayul.specs.Layout.{fault_number, is_erasable, is_later, is_missing, is_taken, lacks_room, location_at}
use Rattle.yayul.specs.Layout.{moved_value, promised, standing, statement_effect, statement_on, term_value, text_faults, value_here}
use Rattle.yayul.specs.Layout.{value_of, valued, width, with_promise}
use Rattle.yayul.specs.Laws.{IsGiven, ValueIsSure, is_of_value, said_on, symbol_in, symbol_of}
use Rattle.yayul.specs.Mended.{lacks_form, lacks_operand}
use Rattle.yayul.specs.Survey.{Survey, doubt, finding, follows, form_kinds, is_bare, is_done, is_kept, is_of_label, is_one_of, kept_label}
use Rattle.yayul.specs.Survey.{kinds_on, known_after, label_passed, laid, layout_kinds, line_kinds, looked_at, names_one, noted, nowhere}
use Rattle.yayul.specs.Survey.{operation_on, passed_line, passed_lines, passed_over, place_of_words, rests_on_known, said_passed}
use Rattle.yayul.specs.Survey.{settled_survey, some_stands, stands_in, taken_by, told, told_line, told_lines, unmarked, vain_kind}
use Rattle.yayul.specs.Survey.{waits_in_vain, with_known, word_kinds}
use Rattle.yayul.specs.Words.{addressed_word, bank_word, content_words, extracode_fault, extracode_of, far_address, fixed_place, low_place}
use Rattle.yayul.specs.Language.{Addressed, BadLabel, Bank, BankFull, BankWord, CodeInErasable, Complemented, Constant, Constants, Content}
use Rattle.yayul.specs.Language.{Ebank, Equals, Erase, FarAddress, FarComplement, FaultKind, Fixed, Gives, Label, Language, Malformed}
use Rattle.yayul.specs.Language.{Missing, Named, Nothing, Num, Operand, Operation, PlaceTaken, Plain, Setloc, Term, Undefined}
use Rattle.yayul.specs.Language.{Unknown, UsedTooEarly, Value}
use Rattle.yayul.specs.declared.doubt.Known.{Known}
use Rattle.yayul.specs.declared.finding.Finding.{Finding}
use Rattle.yayul.proofs.Equalled.{by_later}
use Rattle.yayul.proofs.Asked.{asked_stays}
use Rattle.yayul.proofs.KindsAs.{AreAs, bare_as, label_as, valued_as, FailsAs, IsAsIf, err_as, extracode_as, line_as, if_as}
use Rattle.yayul.proofs.KindsAs.{given_as, stands_as}
use Rattle.yayul.proofs.NoLabel.{no_kinds}
use Rattle.yayul.proofs.Tables.{names_same}
use Rattle.yayul.proofs.Sure.{line_after, line_before, line_said, line_text, lines_after, next_at, not_false, told_all}

-- ## What gives the names of a layout
-- what holds of each name that has a value, or waits for one
abbrev AreGiven : (List ℕ → Type 0) → Layout → Type 0
AreGiven P s = All (λ (e : List ℕ × Value). P e.0) s.symbols × All (λ (p : Promise). P p.name) s.promises

-- what holds of the name of a label
abbrev IsNew : (List ℕ → Type 0) → Label → Type 0
IsNew P label = (name : List ℕ) → label ≡ Named name → P name

module _ (P : List ℕ → Type 0) where
  defined_given : (s : Layout) (label : Label) (value : Value) → IsNew P label → AreGiven P s → AreGiven P (defined s label value)
  defined_given s Missing value new given = given
  defined_given s Malformed value new given = given
  defined_given s (Named name) value new given = (
    All-push (λ (e : List ℕ × Value). P e.0) s.symbols (name, value) given.0 (new name refl),
    given.1,
  )

  promise_given : (line : ℕ) (s : Layout) (label : Label) (operand : Operand) → IsNew P label → AreGiven P s
      → AreGiven P (with_promise line s label operand)
  promise_given line s Missing operand new given = given
  promise_given line s Malformed operand new given = given
  promise_given line s (Named name) operand new given = (
    given.0,
    All-push (λ (p : Promise). P p.name) s.promises (record { line = line; name = name; operand = operand }) given.1
        (new name refl),
  )

  valued_given : (s : Layout) (label : Label) (value : Result Value FaultKind) → IsNew P label → AreGiven P s
      → AreGiven P (valued s label value).after
  valued_given s label (Ok value) new given = defined_given s label value new given
  valued_given s label (Err kind) new given = given

  asked_given : (line : ℕ) (s : Layout) (content : Content) → AreGiven P s → AreGiven P (asked_here line s content)
  asked_given line s content given = asked_stays (AreGiven P) line s content given (λ r. given)

  statement_given : (line : ℕ) (s : Layout) (label : Label) (operation : Operation) → IsNew P label → AreGiven P s
      → AreGiven P (statement_effect line s label operation).after
  statement_given line s label Nothing new given = defined_given s label (value_here s.location) new given
  statement_given line s label Unknown new given = given
  statement_given line s label (Setloc operand) new given = given
  statement_given line s label (Bank taken number) new given = given
  statement_given line s label (Erase count) new given = defined_given s label (value_here s.location) new given
  statement_given line s label (Equals operand) new given =
      by_later (λ (x : LineEffect). AreGiven P x.after) line s label operand (λ value. valued_given s label value new given)
      (λ o. promise_given line s label o new given)
  statement_given line s label (Ebank operand) new given = given
  statement_given line s label (Gives None) new given = given
  statement_given line s label (Gives (Some content)) new given = asked_given line (defined s label (value_here s.location)) content
      (defined_given s label (value_here s.location) new given)

  lost_given : (kept : Bool) (s : Survey) (label : Label) (operation : Operation) → AreGiven P s.layout
      → AreGiven P (label_passed kept s label operation).layout
  lost_given true s label operation given = given
  lost_given false s label operation given = by_bare (is_bare operation)
    where
      by_bare : (b : Bool) → AreGiven P (cond b s.layout (record s.layout { promised = noted s.layout.promised label }))
      by_bare true = given
      by_bare false = given

  laid_given : (line : ℕ) (s : Survey) (label : Label) (operation : Operation) → IsNew P label → AreGiven P s.layout
      → AreGiven P (laid line s label operation).layout
  laid_given line s label operation new given = by_faults (some_stands (statement_effect line s.layout label operation).faults)
    where
      by_faults : (b : Bool) → AreGiven P (cond b s.layout (statement_effect line s.layout label operation).after)
      by_faults true = given
      by_faults false = statement_given line s.layout label operation new given

  known_given : (s : Survey) (known : Known) → AreGiven P s.layout → AreGiven P (with_known s known).layout
  known_given s known given = by_known known.location
    where
      by_known : (b : Bool) → AreGiven P (cond b s.layout (record s.layout { location = nowhere }))
      by_known true = given
      by_known false = given

  kept_new : (kept : Bool) (label : Label) → (kept ≡ true → IsNew P label) → IsNew P (kept_label kept label)
  kept_new true label new = new refl
  kept_new false label new = λ name e. absurd (let bad : Missing ≡ Named name = e in cc)

  said_given : (line : ℕ) (s : Survey) (text : List ℕ) (label : Label) (operation : Operation) (done : Bool) (kinds : List FaultKind)
      → (done ≡ true → is_kept done kinds ≡ true → IsNew P label) → AreGiven P s.layout
      → AreGiven P (said_passed line s text label operation done kinds).layout
  said_given line s text label operation true kinds new given =
      known_given (laid line (label_passed (is_kept true kinds) s label operation) (kept_label (is_kept true kinds) label) operation)
      (known_after s.known text operation true)
      (laid_given line (label_passed (is_kept true kinds) s label operation) (kept_label (is_kept true kinds) label) operation
      (kept_new (is_kept true kinds) label (new refl))
      (lost_given (is_kept true kinds) s label operation given))
  said_given line s text label operation false kinds new given =
      known_given (passed_over (label_passed (is_kept false kinds) s label operation) operation) (known_after s.known text operation false)
      (lost_given (is_kept false kinds) s label operation given)

  -- what holds of each name, and of the label of a line without a layout fault that rests on what is known
  passed_given : (line : ℕ) (s : Survey) (text : List ℕ)
      → ((name : List ℕ) → (statement_on s.layout text).label ≡ Named name
      → layout_kinds line s.layout (statement_on s.layout text).label (operation_on s.layout text) ≡ []
      → rests_on_known s.known (lacks_operand s.layout.language text) (operation_on s.layout text) ≡ true → P name)
      → AreGiven P s.layout → AreGiven P (passed_line line s text).layout
  unfolding passed_line
  passed_given line s text new given =
      let label : Label = (statement_on s.layout text).label in
      let operation : Operation = operation_on s.layout text in
      let alone : Bool = lacks_operand s.layout.language text in
      let kinds : List FaultKind = layout_kinds line s.layout label operation in
      said_given line s text label operation (is_done s.known alone operation kinds) kinds
      (λ done kept. λ name is.
      let parts = and_parts (list_all is_of_label kinds) (rests_on_known s.known alone operation) done in
      let whole = and_parts (is_done s.known alone operation kinds) (not (list_any is_of_label kinds)) kept in
      new name is (no_kinds kinds parts.0 (not_false (list_any is_of_label kinds) whole.1)) parts.1) given

  -- so of the names that have come to a value
  value_given : (table : Table) (name : List ℕ) (value : Value) → P name → All (λ (e : List ℕ × Value). P e.0) table
      → All (λ (e : List ℕ × Value). P e.0) (with_value table name value)
  value_given table name value is given = by_test (is_some (value_in table name))
    where
      by_test : (b : Bool) → All (λ (e : List ℕ × Value). P e.0) (if b then table else table ++ (name, value) ∷ [])
      by_test true = given
      by_test false = All-push (λ (e : List ℕ × Value). P e.0) table (name, value) given is

  kept_given : (table : Table) (p : Promise) → P p.name → All (λ (e : List ℕ × Value). P e.0) table
      → All (λ (e : List ℕ × Value). P e.0) (kept table p)
  kept_given table p is given = by_value (awaited table p.operand)
    where
      by_value : (value : Result Value FaultKind) → All (λ (e : List ℕ × Value). P e.0)
          (result_unwrap_or (and_then (λ v. Ok (with_value table p.name v)) value) table)
      by_value (Ok v) = value_given table p.name v is given
      by_value (Err kind) = given

  round_given : (promises : List Promise) (table : Table) → All (λ (p : Promise). P p.name) promises
      → All (λ (e : List ℕ × Value). P e.0) table
      → All (λ (e : List ℕ × Value). P e.0) (round promises table)
  round_given [] table each given = given
  round_given (p ∷ promises) table each given =
      round_given promises (kept table p) (All-tail (λ (q : Promise). P q.name) p promises each)
      (kept_given table p (All-head (λ (q : Promise). P q.name) p promises each) given)

  rounds_given : (promises : List Promise) (table : Table) → All (λ (p : Promise). P p.name) promises
      → All (λ (e : List ℕ × Value). P e.0) table
      → All (λ (e : List ℕ × Value). P e.0) (four_rounds promises table)
  rounds_given promises table each given =
      round_given promises _ each (round_given promises _ each (round_given promises _ each (round_given promises table each given)))

  settled_given : (s : Layout) → AreGiven P s → All (λ (e : List ℕ × Value). P e.0) (settled s.promises s.symbols)
  settled_given s given = rounds_given s.promises _ given.1 (rounds_given s.promises s.symbols given.1 given.0)

-- ## A name that stands in a table
same_number : (a b : ℕ) → (a == b) ≡ true → a ≡ b
same_number a b e = grind (arith, nat_tests)

found_given : (P : List ℕ → Type 0) (table : Table) (name : List ℕ) → All (λ (e : List ℕ × Value). P e.0) table
    → stands_in table name ≡ true → P name
found_given P [] name given is = absurd (cc)
found_given P (x ∷ table) name given is =
    by_test (found_given P table name (All-tail (λ (e : List ℕ × Value). P e.0) x table given)) (same_name name x.0) refl is
  where
    by_test : (stands_in table name ≡ true → P name) → (b : Bool) → same_name name x.0 ≡ b
        → is_some (cond b (Some x.1) (value_in table name)) ≡ true → P name
    by_test later true e is = subst P (sym (names_same name x.0 e)) (All-head (λ (e : List ℕ × Value). P e.0) x table given)
    by_test later false e is = later is

-- ## A symbol without a value has none that is wrong
-- a fault is none of a value
abbrev IsPlain : FaultKind → Type 0
IsPlain kind = is_of_value (fault_number kind) ≡ false

plain_apart : (m n : ℕ) → is_of_value m ≡ false → is_of_value n ≡ true → (m == n) ≡ false
plain_apart m n plain is = by_test (m == n) refl
  where
    by_test : (b : Bool) → (m == n) ≡ b → (m == n) ≡ false
    by_test true e = absurd (let bad : true ≡ false = sym is ∙ ap is_of_value (sym (same_number m n e)) ∙ plain in cc)
    by_test false e = e

none_plain : (kind : FaultKind) (ks : List FaultKind) → is_of_value (fault_number kind) ≡ true → AreAs IsPlain ks
    → is_one_of ks kind ≡ false
none_plain kind [] is are = refl
none_plain kind (k ∷ ks) is are = ap (λ b. b || is_one_of ks kind) (plain_apart (fault_number k) (fault_number kind) are.0 is)
    ∙ none_plain kind ks is are.1

term_missing : (missing : FaultKind) (table : Table) (here : Value) (term : Term) (name : List ℕ) → symbol_in term ≡ Some name
    → stands_in table name ≡ false → term_value missing table here term ≡ Err missing
term_missing missing table here (Term.Named other) name is none = by_value (value_in table other)
    (ap (stands_in table) (same_Some other name is) ∙ none)
  where
    by_value : (value : Option Value) → is_some value ≡ false → ok_or value missing ≡ Err missing
    by_value None e = refl
    by_value (Some value) e = absurd (cc)
term_missing missing table here (Term.Number number) name is none = absurd (let bad : None ≡ Some name = is in cc)
term_missing missing table here (Term.Place bank offset) name is none = absurd (let bad : None ≡ Some name = is in cc)
term_missing missing table here Term.Here name is none = absurd (let bad : None ≡ Some name = is in cc)

value_missing : (missing : FaultKind) (table : Table) (here : Value) (operand : Operand) (name : List ℕ)
    → symbol_in operand.term ≡ Some name → stands_in table name ≡ false
    → value_of missing table here operand ≡ Err missing
value_missing missing table here operand name is none = ap (and_then (moved_value operand.shift))
    (term_missing missing table here operand.term name is none)

-- the operand of a line is this symbol, which a table lacks
module _ (name : List ℕ) where
  nothing_named : {A : Type 0} → None ≡ Some name → A
  nothing_named e = absurd (let bad : None ≡ Some name = e in cc)

  -- a statement of a place, by an operand without a value
  place_plain : {A : Type 0} (f : Value → Result A FaultKind) (s : Layout) (label : Label) (operand : Operand)
      → symbol_in operand.term ≡ Some name → stands_in s.symbols name ≡ false
      → AreAs IsPlain (standing (fault_if (not (is_missing label)) BadLabel ∷ result_err (and_then f (early_value s (Some operand))) ∷ []))
  place_plain f s label operand is none =
      let missing : early_value s (Some operand) ≡ Err UsedTooEarly = value_missing UsedTooEarly s.symbols (value_here s.location) operand
      name is none in
      bare_as IsPlain refl label (and_then f (early_value s (Some operand)))
      (subst (λ (v : Result Value FaultKind). FailsAs IsPlain (and_then f v)) (sym missing) refl)

  statement_plain : (line : ℕ) (s : Layout) (label : Label) (operation : Operation) → symbol_of operation ≡ Some name
      → stands_in s.symbols name ≡ false
      → AreAs IsPlain (statement_effect line s label operation).faults
  statement_plain line s label Nothing is none = nothing_named is
  statement_plain line s label Unknown is none = nothing_named is
  statement_plain line s label (Setloc None) is none = nothing_named is
  statement_plain line s label (Setloc (Some operand)) is none = place_plain location_at s label operand is none
  statement_plain line s label (Bank taken number) is none = nothing_named is
  statement_plain line s label (Erase count) is none = nothing_named is
  statement_plain line s label (Equals None) is none = nothing_named is
  statement_plain line s label (Equals (Some operand)) is none = by_test (is_later s operand)
    where
      by_test : (b : Bool) → AreAs IsPlain (if b then promised line s label operand else valued s label
          (early_value s (Some operand))).faults
      by_test true = valued_as IsPlain refl refl s label (Ok (Num 0)) tt
      by_test false =
          let missing : early_value s (Some operand) ≡ Err UsedTooEarly = value_missing UsedTooEarly s.symbols (value_here s.location)
          operand name is none in
          valued_as IsPlain refl refl s label (early_value s (Some operand)) (subst (λ (v : Result Value FaultKind). FailsAs IsPlain v) (sym missing) refl)
  statement_plain line s label (Ebank None) is none = nothing_named is
  statement_plain line s label (Ebank (Some operand)) is none = place_plain erasable_place s label operand is none
  statement_plain line s label (Gives None) is none = nothing_named is
  statement_plain line s label (Gives (Some content)) is none = given_as IsPlain refl refl refl refl refl s label content

  waiting_plain : (table : Table) (s : Layout) (label : Label) (operation : Operation) → symbol_of operation ≡ Some name
      → stands_in table name ≡ false → IsAsIf IsPlain (waiting_kind table s label operation)
  waiting_plain table s Missing (Equals (Some operand)) is none = tt
  waiting_plain table s Malformed (Equals (Some operand)) is none = tt
  waiting_plain table s (Named other) (Equals (Some operand)) is none = by_test (is_later s operand)
    where
      by_test : (b : Bool) → IsAsIf IsPlain (if b then promise_kind table other operand else None)
      by_test true =
          subst (λ (v : Result Value FaultKind). IsAsIf IsPlain (result_err (and_then (λ w. ok_or (value_in table other) UsedTooEarly) v)))
          (sym (value_missing UsedTooEarly table (Fixed 2 0) operand name is none)) refl
      by_test false = tt
  waiting_plain table s label _ is none = tt

  vain_plain : (whole s : Survey) (label : Label) (operation : Operation) → symbol_of operation ≡ Some name
      → stands_in whole.layout.symbols name ≡ false → IsAsIf IsPlain (vain_kind whole s label operation)
  vain_plain whole s label operation is none = by_test
      (names_one whole.lost operation || waits_in_vain s.layout.promised whole.layout.symbols operation)
    where
      by_test : (b : Bool) → IsAsIf IsPlain (cond b None (waiting_kind whole.layout.symbols s.layout label operation))
      by_test true = tt
      by_test false = waiting_plain whole.layout.symbols s.layout label operation is none

  content_plain : (table : Table) (here : Value) (extracode : Bool) (eb : ℕ) (content : Content)
      → symbol_of (Gives (Some content)) ≡ Some name → stands_in table name ≡ false
      → FailsAs IsPlain (content_words table here extracode eb content)
  content_plain table here extracode eb (Constant number) is none = nothing_named is
  content_plain table here extracode eb (Plain i) is none = nothing_named is
  content_plain table here extracode eb (Addressed i operand) is none =
      subst (λ (v : Result Value FaultKind). FailsAs IsPlain (and_then (addressed_word i extracode) v))
      (sym (value_missing Undefined table here operand name is none)) refl
  content_plain table here extracode eb (FarAddress operand) is none =
      subst (λ (v : Result Value FaultKind). FailsAs IsPlain
      (and_then (λ place. Ok (far_address eb place.0 place.1)) (and_then fixed_place v)))
      (sym (value_missing Undefined table here operand name is none)) refl
  content_plain table here extracode eb (Constants pair) is none = nothing_named is
  content_plain table here extracode eb (Complemented i operand) is none =
      subst (λ (v : Result Value FaultKind). FailsAs IsPlain
      (and_then (λ words. Ok (map neg words)) (and_then (addressed_word i extracode) v)))
      (sym (value_missing Undefined table here operand name is none)) refl
  content_plain table here extracode eb (FarComplement operand) is none =
      subst (λ (v : Result Value FaultKind). FailsAs IsPlain
      (and_then (λ place. Ok (map neg (far_address eb place.0 place.1))) (and_then low_place (and_then fixed_place v))))
      (sym (value_missing Undefined table here operand name is none)) refl
  content_plain table here extracode eb (BankWord operand) is none =
      subst (λ (v : Result Value FaultKind). FailsAs IsPlain
      (and_then (λ place. Ok (bank_word eb place.0 place.1 ∷ [])) (and_then low_place (and_then fixed_place v))))
      (sym (value_missing Undefined table here operand name is none)) refl

  word_plain : (table : Table) (s : Layout) (formless : Bool) (operation : Operation) → symbol_of operation ≡ Some name
      → stands_in table name ≡ false → AreAs IsPlain (word_kinds table s formless operation)
  word_plain table s true (Gives (Some content)) is none = extracode_as IsPlain (extracode_of content) s.extracode refl refl
  word_plain table s false (Gives (Some content)) is none =
      let here : Value = Fixed (place_of_words s.location).0 (place_of_words s.location).1 in
      let words : Result (List ℕ) FaultKind = content_words table here s.extracode s.eb content in
      stands_as IsPlain (result_err words) (extracode_fault (extracode_of content) s.extracode ∷ [])
      (err_as IsPlain words (content_plain table here s.extracode s.eb content is none))
      (extracode_as IsPlain (extracode_of content) s.extracode refl refl)
  word_plain table s formless _ is none = tt

  line_plain : (whole : Survey) (line : ℕ) (s : Survey) (text : List ℕ) → symbol_of (operation_on s.layout text) ≡ Some name
      → stands_in s.layout.symbols name ≡ false → stands_in whole.layout.symbols name ≡ false → AreAs IsPlain (line_kinds whole line s text)
  line_plain whole line s text is none whole_none =
      let label : Label = (statement_on s.layout text).label in
      let operation : Operation = operation_on s.layout text in
      line_as IsPlain refl refl refl refl whole line s text (statement_plain line s.layout label operation is none)
      (stands_as IsPlain (vain_kind whole s label operation) [] (vain_plain whole s label operation is whole_none) tt)
      (word_plain whole.layout.symbols s.layout (lacks_form (statement_on s.layout text).operation) operation is whole_none)

-- ## The lines of a source
module _ (language : Language) (source : List ℕ) where
  abbrev last : Survey
  last = passed_lines 1 (unmarked language) (looked_at language source)

  abbrev IsSo : Finding → Type 0
  IsSo f = is_of_value (fault_number f.kind) ≡ true → (name : List ℕ) → symbol_of (said_on language source f.line) ≡ Some name
      → IsGiven language source name

  module _ (done texts : List (List ℕ)) (text : List ℕ) (line : ℕ) (all : looked_at language source ≡ done ++ text ∷ texts)
      (at : line ≡ length done + 1) where
    abbrev s : Survey
    s = passed_lines 1 (unmarked language) done

    new : (name : List ℕ) → (statement_on s.layout text).label ≡ Named name
        → layout_kinds line s.layout (statement_on s.layout text).label (operation_on s.layout text) ≡ []
        → rests_on_known s.known (lacks_operand s.layout.language text) (operation_on s.layout text) ≡ true → IsGiven language source name
    new name is none rests =
        let before = line_before language source done texts text line all at in
        let on = line_text language source done texts text line all at in
        let long : length (looked_at language source)
        ≡ length done + suc (length texts) = ap length all ∙ length-append done (text ∷ texts) in (
          line,
          record {
            counted = (omega (arith, at), omega (arith, at, long));
            label = (λ i. (statement_on (before i).layout (on i)).label) ∙ is;
            faultless = (λ i. layout_kinds line (before i).layout (statement_on (before i).layout (on i)).label
                (operation_on (before i).layout (on i))) ∙ none;
            known = (λ i. rests_on_known (before i).known (lacks_operand (before i).layout.language (on i))
                (operation_on (before i).layout (on i))) ∙ rests;
          },
        )

    next_given : AreGiven (IsGiven language source) s.layout → AreGiven (IsGiven language source) (passed_line line s text).layout
    next_given given = passed_given (IsGiven language source) line s text new given

    each_given : AreGiven (IsGiven language source) s.layout
        → All (λ (e : List ℕ × Value). IsGiven language source e.0) (settled_survey last).layout.symbols → (kind : FaultKind)
        → (is_one_of (line_kinds (settled_survey last) line s text) kind
        && not (follows (doubt (settled_survey last) s text (operation_on s.layout text)) kind)) ≡ true
        → IsSo (finding s.layout.language line text (taken_by s.layout (operation_on s.layout text)) kind)
    each_given given whole_given kind is = λ number name said.
        let named : symbol_of (operation_on s.layout text)
        ≡ Some name = sym (ap symbol_of (line_said language source done texts text line all at)) ∙ said in
        let told : is_one_of (line_kinds (settled_survey last) line s text) kind ≡ true =
        (and_parts (is_one_of (line_kinds (settled_survey last) line s text) kind)
        (not (follows (doubt (settled_survey last) s text (operation_on s.layout text)) kind)) is).0 in
        by_tests number name named told (stands_in s.layout.symbols name) (stands_in (settled_survey last).layout.symbols name) refl refl
      where
        by_tests : is_of_value (fault_number kind) ≡ true → (name : List ℕ) → symbol_of (operation_on s.layout text) ≡ Some name
            → is_one_of (line_kinds (settled_survey last) line s text) kind ≡ true
            → (a b : Bool) → stands_in s.layout.symbols name ≡ a → stands_in (settled_survey last).layout.symbols name ≡ b
            → IsGiven language source name
        by_tests number name named told true b here there = found_given (IsGiven language source) s.layout.symbols name given.0 here
        by_tests number name named told false true here there = found_given (IsGiven language source) (settled_survey last).layout.symbols
            name whole_given there
        by_tests number name named told false false here there =
            absurd (let bad : true ≡ false =
            sym told ∙ none_plain kind (line_kinds (settled_survey last) line s text) number
            (line_plain name (settled_survey last) line s text named here there) in cc)

  all_given : (texts done : List (List ℕ)) (line : ℕ) → looked_at language source ≡ done ++ texts → line ≡ length done + 1
      → AreGiven (IsGiven language source) (passed_lines 1 (unmarked language) done).layout → AreGiven (IsGiven language source) last.layout
  all_given [] done line all at given =
      subst (λ (ts : List (List ℕ)). AreGiven (IsGiven language source) (passed_lines 1 (unmarked language) ts).layout)
      (sym (all ∙ append-nil done)) given
  all_given (text ∷ texts) done line all at given =
      all_given texts (done ++ text ∷ []) (line + 1) (lines_after language source done texts text line all at)
      (next_at language source done texts text line all at)
      (subst (λ (t : Survey). AreGiven (IsGiven language source) t.layout) (sym (line_after language source done texts text line all at))
      (next_given done texts text line all at given))

  lines_given : All (λ (e : List ℕ × Value). IsGiven language source e.0) (settled_survey last).layout.symbols
      → (texts done : List (List ℕ)) (line : ℕ)
      → looked_at language source ≡ done ++ texts → line ≡ length done + 1
      → AreGiven (IsGiven language source) (passed_lines 1 (unmarked language) done).layout
      → All IsSo (told_lines (settled_survey last) line (passed_lines 1 (unmarked language) done) texts)
  lines_given whole_given [] done line all at given = All-nil IsSo
  lines_given whole_given (text ∷ texts) done line all at given =
      let s : Survey = passed_lines 1 (unmarked language) done in
      let after : passed_lines 1 (unmarked language) (done ++ text ∷ [])
      ≡ passed_line line s text = line_after language source done texts text line all at in
      All-append IsSo (told_line (settled_survey last) line s text)
      (told_lines (settled_survey last) (line + 1) (passed_line line s text) texts)
      (told_all IsSo (finding s.layout.language line text (taken_by s.layout (operation_on s.layout text)))
      (λ kind. is_one_of (line_kinds (settled_survey last) line s text) kind
      && not (follows (doubt (settled_survey last) s text (operation_on s.layout text)) kind)) (kinds_on s.layout.language text)
      (each_given done texts text line all at given whole_given))
      (subst (λ (t : Survey). All IsSo (told_lines (settled_survey last) (line + 1) t texts)) after
      (lines_given whole_given texts (done ++ text ∷ []) (line + 1) (lines_after language source done texts text line all at)
      (next_at language source done texts text line all at)
      (subst (λ (t : Survey). AreGiven (IsGiven language source) t.layout) (sym after) (next_given done texts text line all at given))))

  none_given : AreGiven (IsGiven language source) (unmarked language).layout
  none_given = (All-nil (λ (e : List ℕ × Value). IsGiven language source e.0), All-nil (λ (p : Promise). IsGiven language source p.name))

pub value_is_sure : (language : Language) (source : List ℕ) → ValueIsSure language source
unfolding told
value_is_sure language source =
    let given = all_given language source (looked_at language source) [] 1 refl refl (none_given language source) in
    lines_given language source (settled_given (IsGiven language source)
    (passed_lines 1 (unmarked language) (looked_at language source)).layout given) (looked_at language source) [] 1 refl refl
    (none_given language source)
