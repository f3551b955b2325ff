-- Lines without a fault: nothing is told of them, and what words and names that wait come to after them.
use Rattle.std.proofs.Common.{◌≡◌, ℕ, ◌+◌, ◌≤◌, ◌==◌, Bool, true, false, not, cond, nat_lt, length, List, [], ◌∷◌, ◌++◌, Option, Some, None}
use Rattle.std.proofs.Common.{Result, Ok, Err, refl, ap, sym, ◌∙◌, arith, append_assoc, append-nil}
use Rattle.std.specs.Prelude.{if◌then◌else◌}
use Rattle.std.specs.List.{list_all, find}
use Rattle.std.specs.Option.{option_map, option_map_or, option_or, unwrap_or}
use Rattle.std.specs.Result.{result_err}
use Rattle.std.proofs.lemmas.Bool.{and_parts, not-false}
use Rattle.std.proofs.lemmas.Bool.Decides.{nat_tests}
use Rattle.std.proofs.lemmas.List.Concat.{flat_map-append}
use Rattle.std.proofs.lemmas.List.Sums.{fold-append}
use Rattle.std.proofs.lemmas.List.Folds.{find_at}
use Rattle.agc_text.specs.Bytes.{line_length, is_text_byte}
use Rattle.yayul.specs.Flight.{measured, most_lines}
use Rattle.yayul.specs.Later.{Table, first_fault, promise_fault, promise_kind, waiting_kind}
use Rattle.yayul.specs.Layout.{Promise, LineEffect, equals, gives, is_later, is_erasable, lacks_room, width, promised, valued}
use Rattle.yayul.specs.Layout.{statement_on, Request, Layout, value_here, early_value, defined, asked, asked_here, fault_if, fault_number}
use Rattle.yayul.specs.Layout.{standing, on_line, is_malformed, is_twice, word_place, statement_effect, text_faults, line_effect}
use Rattle.yayul.specs.Layout.{line_faults, layout_after, layout_faults}
use Rattle.yayul.specs.Mended.{lacks_form, lacks_operand, mended}
use Rattle.yayul.specs.Survey.{Survey, operation_on, rests_on_known, is_done, location_known, known_after, extracode_known, some_stands}
use Rattle.yayul.specs.Survey.{wrong_byte, laid, with_known, said_passed, layout_kinds, passed_line, passed_lines, word_kinds}
use Rattle.yayul.specs.Survey.{content_kinds}
use Rattle.yayul.specs.Words.{content_words, request_words, request_faults, word_faults}
use Rattle.yayul.specs.Language.{Language, BadLabel, BadOperand, Bank}
use Rattle.yayul.specs.Language.{Constant, Content, Ebank, Equals, Erase, Fault, FaultKind, Gives}
use Rattle.yayul.specs.Language.{Label, LongLine, Malformed, Missing, Named, NotAscii, Nothing, Operand, Operation}
use Rattle.yayul.specs.Language.{Setloc, Location, TooManyLines, TwiceDefined, Unknown, UnknownOperator, Value}
use Rattle.yayul.specs.declared.doubt.Known.{Known}
use Rattle.yayul.proofs.Asked.{asked_stays}
use Rattle.yayul.proofs.LineRequests.{defined_keeps, free_place, room_for, none_stands, no_others, head_faults}
use Rattle.yayul.proofs.Equalled.{by_later, promise_requests}

-- ## Lines without a fault
all_known : Known
all_known = record { location = true; banks = true; extracode = true; wrong = None }

-- what stands before a line where no line before it has a fault
abbrev pub clean : Layout → Survey
clean l = record { layout = l; lost = []; known = record { location = true; banks = true; extracode = true; wrong = None } }

none_found : (test : ℕ → Bool) (text : List ℕ) → list_all test text ≡ true → find (λ byte. not (test byte)) text ≡ None
none_found test [] e = refl
none_found test (byte ∷ bytes) e =
    let parts = and_parts (test byte) (list_all test bytes) e in
    ap (λ b. cond (not b) (Some byte) (find (λ x. not (test x)) bytes)) parts.0 ∙ none_found test bytes parts.1

none_wrong : (text : List ℕ) → list_all is_text_byte text ≡ true → wrong_byte text ≡ None
none_wrong text e = sym (find_at (λ byte. not (is_text_byte byte)) text) ∙ none_found is_text_byte text e

pub no_front : (kinds others : List FaultKind) → kinds ++ others ≡ [] → kinds ≡ []
no_front [] others e = refl
no_front (k ∷ kinds) others e = absurd (cc)

pub all_text : (language : Language) (line : ℕ) (text : List ℕ) → text_faults language line text ≡ [] → list_all is_text_byte text ≡ true
all_text language line text e =
    not-false (list_all is_text_byte text)
    (none_stands (not (list_all is_text_byte text)) NotAscii
    (fault_if (nat_lt line_length (length (measured language text))) LongLine ∷ fault_if (line == most_lines language + 1) TooManyLines
    ∷ []) e).0

-- a fault of its own stands on a line
own_fault : (a b : Bool) (j k kind : FaultKind) → standing (fault_if a j ∷ fault_if b k ∷ Some kind ∷ []) ≡ [] → ⊥
own_fault a b j k kind e =
    let bad : kind ∷ [] ≡ [] = (none_stands b k (Some kind ∷ []) (none_stands a j (fault_if b k ∷ Some kind ∷ []) e).1).1 in cc

-- a line without a fault says what it says, no operand in place of another
same_operation : (line : ℕ) (s : Layout) (text : List ℕ) (label : Label) (operation : Operation)
    → (statement_effect line s label operation).faults ≡ []
    → (mended s.language text operation ≡ operation) × (lacks_form operation ≡ false)
same_operation line s text label Nothing e = (refl, refl)
same_operation line s text label Unknown e = (refl, refl)
same_operation line s text label (Setloc operand) e = (refl, refl)
same_operation line s text label (Bank taken number) e = (refl, refl)
same_operation line s text label (Erase count) e = (refl, refl)
same_operation line s text label (Equals operand) e = (refl, refl)
same_operation line s text label (Ebank operand) e = (refl, refl)
same_operation line s text label (Gives None) e = absurd
    (own_fault (is_malformed label) (is_twice s label) BadLabel TwiceDefined BadOperand e)
same_operation line s text label (Gives (Some content)) e = (refl, refl)

still_known : (line : ℕ) (s : Layout) (label : Label) (operation : Operation) → (statement_effect line s label operation).faults ≡ []
    → extracode_known true operation ≡ true
still_known line s label Nothing e = refl
still_known line s label Unknown e = absurd (own_fault (is_malformed label) (is_twice s label) BadLabel TwiceDefined UnknownOperator e)
still_known line s label (Setloc operand) e = refl
still_known line s label (Bank taken number) e = refl
still_known line s label (Erase count) e = refl
still_known line s label (Equals operand) e = refl
still_known line s label (Ebank operand) e = refl
still_known line s label (Gives None) e = absurd (own_fault (is_malformed label) (is_twice s label) BadLabel TwiceDefined BadOperand e)
still_known line s label (Gives (Some content)) e = refl

location_stays : (operation : Operation) → location_known true true operation ≡ true
location_stays Nothing = refl
location_stays operation = refl

rests_on_all : (alone : Bool) (operation : Operation)
    → rests_on_known (record { location = true; banks = true; extracode = true; wrong = None }) alone operation ≡ true
rests_on_all alone Nothing = refl
rests_on_all alone Unknown = refl
rests_on_all alone (Setloc operand) = refl
rests_on_all alone (Bank taken number) = refl
rests_on_all alone (Erase count) = refl
rests_on_all alone (Equals operand) = refl
rests_on_all alone (Ebank operand) = refl
rests_on_all alone (Gives content) = refl

module _ (line : ℕ) (l : Layout) (text : List ℕ) (e : line_faults line l text ≡ []) where
  pub no_text : text_faults l.language line text ≡ []
  no_text = no_front (text_faults l.language line text) (line_effect line l text).faults e

  pub no_layout : (statement_effect line l (statement_on l text).label (statement_on l text).operation).faults ≡ []
  unfolding line_effect
  no_layout = no_others (text_faults l.language line text) (line_effect line l text).faults e

  pub says_same : (operation_on l text ≡ (statement_on l text).operation) × (lacks_form (statement_on l text).operation ≡ false)
  says_same = same_operation line l text (statement_on l text).label (statement_on l text).operation no_layout

  all_stays : known_after (record { location = true; banks = true; extracode = true; wrong = None }) text (statement_on l text).operation
      true
      ≡ record { location = true; banks = true; extracode = true; wrong = None }
  all_stays = λ i. record {
    location = location_stays (statement_on l text).operation i;
    banks = true;
    extracode = still_known line l (statement_on l text).label (statement_on l text).operation no_layout i;
    wrong = ap (λ byte. option_or byte None) (none_wrong text (all_text l.language line text no_text)) i;
  }

  -- after a faultless line
  pub passed_clean : passed_line line (clean l) text ≡ clean (line_effect line l text).after
  unfolding passed_line line_effect
  passed_clean =
      let label : Label = (statement_on l text).label in
      let operation : Operation = (statement_on l text).operation in
      let known : Known = record { location = true; banks = true; extracode = true; wrong = None } in
      let alone : Bool = lacks_operand l.language text in
      let after : Layout = (statement_effect line l label operation).after in
      ap (λ o. said_passed line (clean l) text label o (is_done known alone o (layout_kinds line l label o)) (layout_kinds line l label o))
      says_same.0
      ∙ ap (λ ks. said_passed line (clean l) text label operation (is_done known alone operation ks) ks) no_layout
      ∙ ap (λ d. said_passed line (clean l) text label operation d []) (rests_on_all alone operation)
      ∙ ap (λ k. with_known (laid line (clean l) label operation) k) all_stays
      ∙ ap (λ ks. clean (cond (some_stands ks) l after)) no_layout

-- after faultless lines
pub clean_after : (texts : List (List ℕ)) (line : ℕ) (l : Layout) → layout_faults line l texts ≡ []
    → passed_lines line (clean l) texts ≡ clean (layout_after line l texts)
clean_after [] line l e = refl
clean_after (text ∷ texts) line l e =
    let parts = head_faults line (line_faults line l text) (layout_faults (line + 1) (line_effect line l text).after texts) e in
    ap (λ s. passed_lines (line + 1) s texts) (passed_clean line l text parts.0)
    ∙ clean_after texts (line + 1) (line_effect line l text).after parts.1

-- ## The word faults of lines
-- the word faults of some lines, in their order
abbrev pub words_of : List (List ℕ × Value) → ℕ → Layout → List (List ℕ) → List Fault
words_of table line l [] = []
words_of table line l (text ∷ texts) =
    on_line line (word_kinds table l false (statement_on l text).operation)
    ++ words_of table (line + 1) (line_effect line l text).after texts

asked_words : (table : List (List ℕ × Value)) (line : ℕ) (s : Layout) (content : Content) (bank offset : ℕ)
    → word_place s.location ≡ Some (bank, offset)
    → word_faults table (asked_here line s content).requests ≡ word_faults table s.requests ++ on_line line (content_kinds table s content)
unfolding request_faults request_words
asked_words table line s content bank offset here =
    let r : Request = record { line = line; bank = bank; offset = offset; content = content; extracode = s.extracode; eb = s.eb } in
    ap (λ (place : Option (ℕ × ℕ)). word_faults table
    (option_map_or (λ p. asked s (record {
      line = line;
      bank = p.0;
      offset = p.1;
      content = content;
      extracode = s.extracode;
      eb
          = s.eb;
    })) place s).requests) here
    ∙ flat_map-append (λ q. on_line q.line (request_faults table q)) s.requests (r ∷ [])
    ∙ ap (λ more. word_faults table s.requests ++ more) (append-nil (on_line line (request_faults table r)))
    ∙ ap (λ (place : ℕ × ℕ). word_faults table s.requests
    ++ on_line line (standing (result_err (content_words table (Value.Fixed place.0 place.1) s.extracode s.eb content)
    ∷ Rattle.yayul.specs.Words.extracode_fault (Rattle.yayul.specs.Words.extracode_of content) s.extracode ∷ [])))
    (sym (ap (λ (place : Option (ℕ × ℕ)). unwrap_or place (2, 0)) here))

-- a faultless line that gives words has a place for them
given_place : (line : ℕ) (s : Layout) (label : Label) (content : Content) → (gives line s label content).faults ≡ []
    → (bank : ℕ) × (offset : ℕ) × (word_place s.location ≡ Some (bank, offset))
given_place line s label content e = by_location s.location (free_place line s label content e).0 (room_for line s label content e).1.1
  where
    some_width : (c : Content) → 1 ≤ width c
    some_width (Constant number) = omega arith
    some_width content = omega arith

    by_location : (here : Location) → lacks_room (width content) here ≡ false → is_erasable here ≡ false
        → (bank : ℕ) × (offset : ℕ) × (word_place here ≡ Some (bank, offset))
    by_location (Location.Erasable n) room fixed_place = absurd (cc)
    by_location (Location.Fixed bank n) room fixed_place =
        let some : 1 ≤ width content = some_width content in
        let within : nat_lt n 0o2000 ≡ true = grind (arith, nat_tests) in
        (bank, n, rw within refl)

statement_words : (table : List (List ℕ × Value)) (line : ℕ) (s : Layout) (label : Label) (operation : Operation)
    → (statement_effect line s label operation).faults ≡ []
    → word_faults table (statement_effect line s label operation).after.requests
    ≡ word_faults table s.requests ++ on_line line (word_kinds table s false operation)
statement_words table line s label operation none = by_operation operation none
  where
    same : (requests : List Request) → requests ≡ s.requests → word_faults table requests ≡ word_faults table s.requests ++ []
    same requests e = ap (word_faults table) e ∙ sym (append-nil (word_faults table s.requests))

    valued_requests : (value : Result Value FaultKind) → (valued s label value).after.requests ≡ s.requests
    valued_requests (Ok value) = (defined_keeps s label value).1
    valued_requests (Err kind) = refl

    gives_words : (content : Content) (l : Label) (bank offset : ℕ) → word_place s.location ≡ Some (bank, offset)
        → word_faults table (asked_here line (defined s l (value_here s.location)) content).requests
        ≡ word_faults table s.requests ++ on_line line (content_kinds table s content)
    gives_words content Missing bank offset here = asked_words table line s content bank offset here
    gives_words content Malformed bank offset here = asked_words table line s content bank offset here
    gives_words content (Named name) bank offset here = asked_words table line (defined s (Named name) (value_here s.location)) content bank
        offset here

    by_operation : (o : Operation) → (statement_effect line s label o).faults ≡ []
        → word_faults table (statement_effect line s label o).after.requests
        ≡ word_faults table s.requests ++ on_line line (word_kinds table s false o)
    by_operation Nothing e = same _ (defined_keeps s label (value_here s.location)).1
    by_operation Unknown e = same s.requests refl
    by_operation (Setloc operand) e = same s.requests refl
    by_operation (Bank taken number) e = same s.requests refl
    by_operation (Erase count) e = same _ (defined_keeps s label (value_here s.location)).1
    by_operation (Equals operand) e = same _ (by_later (λ (x : LineEffect). x.after.requests ≡ s.requests) line s label operand
        valued_requests (λ o. promise_requests line s label o))
    by_operation (Ebank operand) e = same s.requests refl
    by_operation (Gives None) e = same s.requests refl
    by_operation (Gives (Some content)) e = let place = given_place line s label content e in gives_words content label place.0 place.1
        place.2

line_words : (table : List (List ℕ × Value)) (line : ℕ) (s : Layout) (text : List ℕ) → line_faults line s text ≡ []
    → word_faults table (line_effect line s text).after.requests
    ≡ word_faults table s.requests ++ on_line line (word_kinds table s false (statement_on s text).operation)
unfolding line_effect
line_words table line s text e = statement_words table line s (statement_on s text).label (statement_on s text).operation
    (no_layout line s text e)

-- the word faults of what lines ask for are those of the lines
pub words_told : (table : List (List ℕ × Value)) (texts : List (List ℕ)) (line : ℕ) (s : Layout) → layout_faults line s texts ≡ []
    → word_faults table (layout_after line s texts).requests ≡ word_faults table s.requests ++ words_of table line s texts
words_told table [] line s e = sym (append-nil (word_faults table s.requests))
words_told table (text ∷ texts) line s e =
    let after : Layout = (line_effect line s text).after in
    let here : List Fault = on_line line (word_kinds table s false (statement_on s text).operation) in
    let parts = head_faults line (line_faults line s text) (layout_faults (line + 1) after texts) e in
    words_told table texts (line + 1) after parts.1
    ∙ ap (λ faults. faults ++ words_of table (line + 1) after texts) (line_words table line s text parts.0)
    ∙ append_assoc (word_faults table s.requests) here (words_of table (line + 1) after texts)

-- ## The faults of names that wait
-- the fault of a name that a line lets wait
abbrev pub line_fault : Table → ℕ → Layout → Label → Operation → Option Fault
line_fault table line s label operation = option_map (λ kind. record { line = line; number = fault_number kind })
    (waiting_kind table s label operation)

-- the first of those of some lines
abbrev pub first_of : Table → ℕ → Layout → List (List ℕ) → Option Fault
first_of table line l [] = None
first_of table line l (text ∷ texts) =
    option_or (line_fault table line l (statement_on l text).label (statement_on l text).operation)
    (first_of table (line + 1) (line_effect line l text).after texts)

or_none : (found : Option Fault) → option_or found None ≡ found
or_none None = refl
or_none (Some fault) = refl

or_assoc : (a b c : Option Fault) → option_or (option_or a b) c ≡ option_or a (option_or b c)
or_assoc None b c = refl
or_assoc (Some fault) b c = refl

pub neither : (a b : Option Fault) → option_or a b ≡ None → (a ≡ None) × (b ≡ None)
neither None b e = (refl, e)
neither (Some fault) b e = absurd (let bad : Some fault ≡ None = e in cc)

first_more : (table : Table) (promises : List Promise) (p : Promise)
    → first_fault table (promises ++ p ∷ []) ≡ option_or (first_fault table promises) (promise_fault table p)
first_more table promises p = fold-append (λ (found : Option Fault) (q : Promise). option_or found (promise_fault table q)) None promises
    (p ∷ [])

-- what EQUALS does, and its fault, where its operand is a symbol of a later line or is not
abbrev pub effect_where : ℕ → Layout → Operand → Label → Bool → LineEffect
effect_where line s operand l b = if b then promised line s l operand else valued s l (early_value s (Some operand))

abbrev pub kind_where : Table → Operand → Label → Bool → Option FaultKind
kind_where table operand (Named name) b = if b then promise_kind table name operand else None
kind_where table operand Missing b = None
kind_where table operand Malformed b = None

-- the first fault, where a label waits or has its value
waits_first : (table : Table) (line : ℕ) (s : Layout) (operand : Operand) (l : Label) (b : Bool)
    → first_fault table (effect_where line s operand l b).after.promises
    ≡ option_or (first_fault table s.promises) (option_map (λ k. record { line = line; number = fault_number k })
    (kind_where table operand l b))
waits_first table line s operand l b = by_label l b
  where
    valued_same : (l : Label) (value : Result Value FaultKind) → (valued s l value).after.promises ≡ s.promises
    valued_same Missing (Ok value) = refl
    valued_same Malformed (Ok value) = refl
    valued_same (Named name) (Ok value) = refl
    valued_same l (Err k) = refl

    same : (promises : List Promise) → promises ≡ s.promises → first_fault table promises ≡ option_or (first_fault table s.promises) None
    same promises e = ap (first_fault table) e ∙ sym (or_none (first_fault table s.promises))

    by_label : (l : Label) (b : Bool)
        → first_fault table (effect_where line s operand l b).after.promises
        ≡ option_or (first_fault table s.promises)
        (option_map (λ k. record { line = line; number = fault_number k }) (kind_where table operand l b))
    by_label Missing true = same s.promises refl
    by_label Missing false = same _ (valued_same Missing (early_value s (Some operand)))
    by_label Malformed true = same s.promises refl
    by_label Malformed false = same _ (valued_same Malformed (early_value s (Some operand)))
    by_label (Named name) true = first_more table s.promises (record { line = line; name = name; operand = operand })
    by_label (Named name) false = same _ (valued_same (Named name) (early_value s (Some operand)))

equals_first : (table : Table) (line : ℕ) (s : Layout) (label : Label) (operand : Operand)
    → first_fault table (equals line s label (Some operand)).after.promises
    ≡ option_or (first_fault table s.promises) (line_fault table line s label (Equals (Some operand)))
equals_first table line s Missing operand = waits_first table line s operand Missing (is_later s operand)
equals_first table line s Malformed operand = waits_first table line s operand Malformed (is_later s operand)
equals_first table line s (Named name) operand = waits_first table line s operand (Named name) (is_later s operand)

statement_first : (table : Table) (line : ℕ) (s : Layout) (label : Label) (operation : Operation)
    → first_fault table (statement_effect line s label operation).after.promises
    ≡ option_or (first_fault table s.promises) (line_fault table line s label operation)
statement_first table line s label operation = by_operation operation
  where
    same : (promises : List Promise) → promises ≡ s.promises → first_fault table promises ≡ option_or (first_fault table s.promises) None
    same promises e = ap (first_fault table) e ∙ sym (or_none (first_fault table s.promises))

    labelled : (l : Label) (value : Value) → (defined s l value).promises ≡ s.promises
    labelled Missing value = refl
    labelled Malformed value = refl
    labelled (Named name) value = refl

    valued_same : (value : Result Value FaultKind) → (valued s label value).after.promises ≡ s.promises
    valued_same (Ok value) = labelled label value
    valued_same (Err kind) = refl

    asked_same : (content : Content) (t : Layout) → (asked_here line t content).promises ≡ t.promises
    asked_same content t = asked_stays (λ (u : Layout). u.promises ≡ t.promises) line t content refl (λ r. refl)

    by_operation : (o : Operation) → first_fault table (statement_effect line s label o).after.promises
        ≡ option_or (first_fault table s.promises) (line_fault table line s label o)
    by_operation Nothing = same _ (labelled label (value_here s.location))
    by_operation Unknown = same s.promises refl
    by_operation (Setloc operand) = same s.promises refl
    by_operation (Bank taken number) = same s.promises refl
    by_operation (Erase count) = same _ (labelled label (value_here s.location))
    by_operation (Equals None) = same s.promises refl
    by_operation (Equals (Some operand)) = equals_first table line s label operand
    by_operation (Ebank operand) = same s.promises refl
    by_operation (Gives None) = same s.promises refl
    by_operation (Gives (Some content)) = same _ (asked_same content (defined s label (value_here s.location))
        ∙ labelled label (value_here s.location))

line_first : (table : Table) (line : ℕ) (s : Layout) (text : List ℕ)
    → first_fault table (line_effect line s text).after.promises
    ≡ option_or (first_fault table s.promises) (line_fault table line s (statement_on s text).label (statement_on s text).operation)
unfolding line_effect
line_first table line s text = statement_first table line s (statement_on s text).label (statement_on s text).operation

-- the first fault of the names that wait after some lines
pub promises_first : (table : Table) (texts : List (List ℕ)) (line : ℕ) (s : Layout)
    → first_fault table (layout_after line s texts).promises ≡ option_or (first_fault table s.promises) (first_of table line s texts)
promises_first table [] line s = sym (or_none (first_fault table s.promises))
promises_first table (text ∷ texts) line s =
    let after : Layout = (line_effect line s text).after in
    let here : Option Fault = line_fault table line s (statement_on s text).label (statement_on s text).operation in
    promises_first table texts (line + 1) after
    ∙ ap (λ found. option_or found (first_of table (line + 1) after texts)) (line_first table line s text)
    ∙ or_assoc (first_fault table s.promises) here (first_of table (line + 1) after texts)
