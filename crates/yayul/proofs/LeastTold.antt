-- What is told of a source agrees with what it assembles to: nothing where it does, and where it is refused its fault. Each fault is told
-- once.
use Rattle.std.proofs.Common.{◌≡◌, ℕ, zero, suc, ◌+◌, ◌==◌, Bool, true, false, not, ◌&&◌, ◌||◌, cond, nat_lt, List, [], ◌∷◌, ◌++◌, map}
use Rattle.std.proofs.Common.{take, fold, Option, Some, None, Result, Ok, Err, refl, ap, sym, subst, ◌∙◌, inl, inr, ◌⊎◌, arith}
use Rattle.std.proofs.Common.{append_assoc}
use Rattle.std.specs.Prelude.{ok_or, is_some}
use Rattle.std.specs.List.{list_any, list_all, filter}
use Rattle.std.specs.Option.{option_map, option_map_or, option_or}
use Rattle.std.specs.Result.{result_err}
use Rattle.std.proofs.lemmas.Bool.{cases_Bool, and_parts, and_right, eqb-true}
use Rattle.agc_text.specs.Bytes.{is_text_byte}
use Rattle.agc_text.specs.Lines.{lines}
use Rattle.agc_text.specs.Tables.{same_name, value_in}
use Rattle.yayul.specs.Flight.{most_lines}
use Rattle.yayul.specs.Later.{Table, awaited, first_fault, promise_kind, waiting_kind, with_values}
use Rattle.yayul.specs.Layout.{and_then, equals, is_later, is_taken, is_erasable, lacks_room, width, promised, valued, statement_on, Layout}
use Rattle.yayul.specs.Layout.{value_here, early_value, defined, asked_here, fault_if, fault_number, standing, start, on_line, is_malformed}
use Rattle.yayul.specs.Layout.{is_twice, statement_effect, text_faults, line_effect, line_faults, layout_after, layout_faults}
use Rattle.yayul.specs.Laws.{is_of, TellsOf, FindingsAgree}
use Rattle.yayul.specs.Program.{Program, least, completed, finished, program, unless_fault}
use Rattle.yayul.specs.Mended.{given_by, lacks_form, mended}
use Rattle.yayul.specs.Survey.{Survey, unmarked, operation_on, operand_of, counts_from_here, wrong_byte, layout_kinds, passed_line}
use Rattle.yayul.specs.Survey.{passed_lines, settled_survey, is_among, names_one, waits_in_vain, erases, is_same_byte, doubt, follows}
use Rattle.yayul.specs.Survey.{kinds_on, is_one_of, finding, taken_by, told_of, form_kinds, vain_kind}
use Rattle.yayul.specs.Survey.{word_kinds, said_kinds, told_line, told_lines, looked_at, told}
use Rattle.yayul.specs.Words.{word_faults}
use Rattle.yayul.specs.Inside.Answers.{lesser_kind, least_kind}
use Rattle.yayul.specs.Language.{Language, BadLabel, BadOperand, Bank, BankFull, CodeInErasable, Content, Ebank, Equals, Erase}
use Rattle.yayul.specs.Language.{Fault, FaultKind, Gives, Label, LongLine, Malformed, Missing, Named, NeedsExtend, NoMemory, NotAscii}
use Rattle.yayul.specs.Language.{NotExtracode, Nothing, Operand, Operation, PlaceTaken, Setloc, Term, TooManyLines}
use Rattle.yayul.specs.Language.{TwiceDefined, Undefined, Unknown, UsedTooEarly, Value}
use Rattle.yayul.specs.declared.doubt.Doubt.{Doubt}
use Rattle.yayul.specs.declared.finding.Finding.{Finding}
use Rattle.yayul.proofs.Asked.{asked_stays}
use Rattle.yayul.proofs.LineRequests.{head_faults}
use Rattle.yayul.proofs.LateFaults.{AreLate, IsLateIf, is_of_fields, statement_late, waiting_late}
use Rattle.yayul.proofs.Least.{none_least}
use Rattle.yayul.proofs.LeastOfSet.{StandsIn, fold_is_least}
use Rattle.yayul.proofs.Least as least_fault
use Rattle.yayul.proofs.Tables.{names_same}
use Rattle.yayul.proofs.Lines.{same_language, faultless_line, faulty_line, few_lines, line_told}
use Rattle.yayul.proofs.FaultlessLines.{clean, no_text, no_layout, says_same, passed_clean, no_front, all_text, clean_after, words_of}
use Rattle.yayul.proofs.FaultlessLines.{words_told, line_fault, first_of, neither, effect_where, kind_where, promises_first}
use Rattle.yayul.proofs.ToldKinds.{IsAmong, any_front, any_back, one_of_among, told_here}

-- ## What does not follow
names_none : (operation : Operation) → names_one [] operation ≡ false
names_none operation = by_operand (operand_of operation)
  where
    among_none : (term : Term) → is_among [] term ≡ false
    among_none (Term.Number number) = refl
    among_none (Term.Named name) = refl
    among_none (Term.Place bank offset) = refl
    among_none Term.Here = refl

    by_operand : (operand : Option Operand) → option_map_or (λ o. is_among [] o.term) operand false ≡ false
    by_operand None = refl
    by_operand (Some operand) = among_none operand.term

same_as_none : (byte : Option ℕ) → is_same_byte byte None ≡ false
same_as_none None = refl
same_as_none (Some b) = refl

-- what holds of all faults but that of the bytes, and of those of symbols that are lost or wait in vain
abbrev doubt_here : Bool → Bool → Doubt
doubt_here bytes symbol = record {
  bytes = bytes;
  repeated = false;
  location = false;
  erased = false;
  counted = false;
  symbol = symbol;
  early = false;
  extracode = false;
}

-- a symbol is lost, or waits in vain
abbrev is_lost : Survey → Operation → Bool
is_lost w operation = names_one w.lost operation || waits_in_vain w.layout.promised w.layout.symbols operation

clean_doubt : (w : Survey) (l : Layout) (text : List ℕ) (operation : Operation)
    → doubt w (clean l) text operation ≡ doubt_here (not (list_all is_text_byte text)) (is_lost w operation)
clean_doubt w l text operation = λ i. record {
  bytes = not (list_all is_text_byte text);
  repeated = same_as_none (wrong_byte text) i;
  location = false;
  erased = and_right (erases operation) false refl i;
  counted = and_right (counts_from_here operation) false refl i;
  symbol = is_lost w operation;
  early = names_none operation i;
  extracode = false;
}

-- ## Names that wait
-- all names of a table stand in another
abbrev AllStand : Table → Table → Type 0
AllStand promised table = (name : List ℕ) → is_some (value_in promised name) ≡ true → is_some (value_in table name) ≡ true

-- where all names that wait have a value none waits in vain
none_in_vain : (promised table : Table) (operation : Operation) → AllStand promised table → waits_in_vain promised table operation ≡ false
none_in_vain promised table operation all = by_operand (operand_of operation)
  where
    by_name : (name : List ℕ) (b : Bool) → is_some (value_in promised name) ≡ b
        → (is_some (value_in promised name) && not (is_some (value_in table name))) ≡ false
    by_name name true is = ap (λ b. b && not (is_some (value_in table name))) is ∙ ap not (all name is)
    by_name name false is = ap (λ b. b && not (is_some (value_in table name))) is

    by_term : (term : Term) → (is_among promised term && not (is_among table term)) ≡ false
    by_term (Term.Number number) = refl
    by_term (Term.Named name) = by_name name (is_some (value_in promised name)) refl
    by_term (Term.Place bank offset) = refl
    by_term Term.Here = refl

    by_operand : (operand : Option Operand) → (option_map_or (λ o. is_among promised o.term) operand false
        && not (option_map_or (λ o. is_among table o.term) operand false)) ≡ false
    by_operand None = refl
    by_operand (Some operand) = by_term operand.term

-- a name of a table with one more
of_one_more : (names : Table) (name n : List ℕ) (value : Value) → is_some (value_in (names ++ (name, value) ∷ []) n) ≡ true
    → (is_some (value_in names n) ≡ true) ⊎ (same_name n name ≡ true)
of_one_more [] name n value e = by_test (same_name n name) refl
  where
    by_test : (b : Bool) → same_name n name ≡ b → (is_some {T = Value} (value_in [] n) ≡ true) ⊎ (same_name n name ≡ true)
    by_test true is = inr is
    by_test false is = absurd (let bad : false ≡ true = sym (ap (λ b. is_some (cond b (Some value) None)) is) ∙ e in cc)
of_one_more (p ∷ names) name n value e = by_test (of_one_more names name n value) (same_name n p.0) refl
  where
    by_test : (is_some (value_in (names ++ (name, value) ∷ []) n) ≡ true → (is_some (value_in names n) ≡ true) ⊎ (same_name n name ≡ true))
        → (b : Bool) → same_name n p.0 ≡ b → (is_some (value_in (p ∷ names) n) ≡ true) ⊎ (same_name n name ≡ true)
    by_test more true is = inl (ap (λ b. is_some (cond b (Some p.1) (value_in names n))) is)
    by_test more false is =
        elim (more (sym (ap (λ b. is_some (cond b (Some p.1) (value_in (names ++ (name, value) ∷ []) n))) is) ∙ e)) [
          | inl there ↦ inl (ap (λ b. is_some (cond b (Some p.1) (value_in names n))) is ∙ there)
          | inr here ↦ inr here
        ]

-- a name that waits has a value, where nothing is wrong with it
valued_promise : (table : Table) (name : List ℕ) (operand : Operand) → promise_kind table name operand ≡ None
    → is_some (value_in table name) ≡ true
valued_promise table name operand e = by_value (awaited table operand) (value_in table name) e
  where
    by_value : (r : Result Value FaultKind) (v : Option Value) → result_err (and_then (λ x. ok_or v UsedTooEarly) r) ≡ None
        → is_some v ≡ true
    by_value (Err kind) v e = absurd (let bad : Some kind ≡ None = e in cc)
    by_value (Ok x) None e = absurd (let bad : Some UsedTooEarly ≡ None = e in cc)
    by_value (Ok x) (Some v) e = refl

-- after a line that lets no name wait in vain, all names that wait have a value
kept_stand : (table : Table) (line : ℕ) (s : Layout) (label : Label) (operation : Operation) → AllStand s.promised table
    → waiting_kind table s label operation ≡ None
    → AllStand (statement_effect line s label operation).after.promised table
kept_stand table line s label operation all none = by_operation operation none
  where
    same : (promised : Table) → promised ≡ s.promised → AllStand promised table
    same promised e = subst (λ (t : Table). AllStand t table) (sym e) all

    labelled : (l : Label) (value : Value) → (defined s l value).promised ≡ s.promised
    labelled Missing value = refl
    labelled Malformed value = refl
    labelled (Named name) value = refl

    valued_same : (l : Label) (value : Result Value FaultKind) → (valued s l value).after.promised ≡ s.promised
    valued_same l (Ok value) = labelled l value
    valued_same l (Err kind) = refl

    asked_same : (content : Content) (t : Layout) → (asked_here line t content).promised ≡ t.promised
    asked_same content t = asked_stays (λ (u : Layout). u.promised ≡ t.promised) line t content refl (λ r. refl)

    one_more : (name : List ℕ) → is_some (value_in table name) ≡ true → AllStand (s.promised ++ (name, Value.Num 0) ∷ []) table
    one_more name stands n e =
        elim (of_one_more s.promised name n (Value.Num 0) e) [
          | inl before ↦ all n before
          | inr here ↦ ap (λ m. is_some (value_in table m)) (names_same n name here) ∙ stands
        ]

    waits : (l : Label) (operand : Operand) (b : Bool) → kind_where table operand l b ≡ None
        → AllStand (effect_where line s operand l b).after.promised table
    waits Missing operand true e = all
    waits Malformed operand true e = all
    waits (Named name) operand true e = one_more name (valued_promise table name operand e)
    waits l operand false e = same _ (valued_same l (early_value s (Some operand)))

    by_equals : (l : Label) (operand : Operand) → waiting_kind table s l (Equals (Some operand)) ≡ None
        → AllStand (equals line s l (Some operand)).after.promised table
    by_equals Missing operand e = waits Missing operand (is_later s operand) refl
    by_equals Malformed operand e = waits Malformed operand (is_later s operand) refl
    by_equals (Named name) operand e = waits (Named name) operand (is_later s operand) e

    by_operation : (o : Operation) → waiting_kind table s label o ≡ None → AllStand (statement_effect line s label o).after.promised table
    by_operation Nothing e = same _ (labelled label (value_here s.location))
    by_operation Unknown e = all
    by_operation (Setloc operand) e = all
    by_operation (Bank taken number) e = all
    by_operation (Erase count) e = same _ (labelled label (value_here s.location))
    by_operation (Equals None) e = all
    by_operation (Equals (Some operand)) e = by_equals label operand e
    by_operation (Ebank operand) e = all
    by_operation (Gives None) e = all
    by_operation (Gives (Some content)) e = same _
        (asked_same content (defined s label (value_here s.location)) ∙ labelled label (value_here s.location))

line_stand : (table : Table) (line : ℕ) (s : Layout) (text : List ℕ) → AllStand s.promised table
    → waiting_kind table s (statement_on s text).label (statement_on s text).operation ≡ None
    → AllStand (line_effect line s text).after.promised table
unfolding line_effect
line_stand table line s text all none = kept_stand table line s (statement_on s text).label (statement_on s text).operation all none

none_of_line : (line : ℕ) (kind : Option FaultKind) → option_map (λ k. least_fault.told line k) kind ≡ None → kind ≡ None
none_of_line line None e = refl
none_of_line line (Some kind) e = absurd (let bad : Some (least_fault.told line kind) ≡ None = e in cc)

-- after lines that let no name wait in vain
lines_stand : (table : Table) (texts : List (List ℕ)) (line : ℕ) (s : Layout) → AllStand s.promised table
    → first_of table line s texts ≡ None → AllStand (layout_after line s texts).promised table
lines_stand table [] line s all none = all
lines_stand table (text ∷ texts) line s all none =
    let parts = neither (line_fault table line s (statement_on s text).label (statement_on s text).operation)
    (first_of table (line + 1) (line_effect line s text).after texts) none in
    lines_stand table texts (line + 1) (line_effect line s text).after
    (line_stand table line s text all (none_of_line line (waiting_kind table s (statement_on s text).label (statement_on s text).operation)
    parts.0)) parts.1

-- where all is known, and no symbol is lost, nothing follows
none_follows : (kind : FaultKind) → follows (doubt_here false false) kind ≡ false
none_follows BadLabel = refl
none_follows kind = refl

-- where a symbol may be lost nothing follows but that it is not defined
fields_follow : (symbol : Bool) (kind : FaultKind) → is_of_fields kind ≡ true → follows (doubt_here false symbol) kind ≡ false
fields_follow symbol NotAscii e = absurd (cc)
fields_follow symbol TooManyLines e = absurd (cc)
fields_follow symbol NeedsExtend e = absurd (cc)
fields_follow symbol NotExtracode e = absurd (cc)
fields_follow symbol Undefined e = absurd (cc)
fields_follow symbol LongLine e = absurd (cc)
fields_follow symbol NoMemory e = absurd (cc)
fields_follow symbol kind e = refl

-- ## Where no line has a fault of its own
-- the faults of a faultless line are those of a name that waits and of its words
abbrev vain_of : Survey → Layout → List ℕ → Option FaultKind
vain_of w l text = vain_kind w (clean l) (statement_on l text).label (statement_on l text).operation

abbrev waiting_of : Survey → Layout → List ℕ → Option FaultKind
waiting_of w l text = waiting_kind w.layout.symbols l (statement_on l text).label (statement_on l text).operation

-- what is told of such a line
clean_line : (w : Survey) (line : ℕ) (l : Layout) (text : List ℕ) → line_faults line l text ≡ []
    → told_line w line (clean l) text
    ≡ told_of l.language (doubt_here (not (list_all is_text_byte text)) (is_lost w (statement_on l text).operation)) line text
    (taken_by l (statement_on l text).operation)
    (standing (vain_of w l text ∷ []) ++ word_kinds w.layout.symbols l false (statement_on l text).operation)
clean_line w line l text e =
    let label : Label = (statement_on l text).label in
    let operation : Operation = (statement_on l text).operation in
    let says = says_same line l text e in
    let no_bytes = no_text line l text e in
    let no_fields = no_layout line l text e in
    (λ i. told_of l.language (doubt w (clean l) text (says.0 i)) line text (taken_by l (says.0 i))
    (said_kinds w line (clean l) text label (says.1 i) (says.0 i)))
    ∙ (λ i. told_of l.language (clean_doubt w l text operation i) line text (taken_by l operation)
    (no_bytes i ++ [] ++ no_fields i ++ standing (vain_of w l text ∷ []) ++ word_kinds w.layout.symbols l false operation))

-- a name waits in vain, where no other does before it
vain_none : (w : Survey) (l : Layout) (text : List ℕ) → waiting_of w l text ≡ None → vain_of w l text ≡ None
vain_none w l text e = by_test (names_one w.lost (statement_on l text).operation
    || waits_in_vain l.promised w.layout.symbols (statement_on l text).operation)
  where
    by_test : (b : Bool) → cond b None (waiting_of w l text) ≡ None
    by_test true = refl
    by_test false = e

vain_same : (l w : Layout) (text : List ℕ) → AllStand l.promised w.symbols → vain_of (clean w) l text ≡ waiting_of (clean w) l text
vain_same l w text all =
    λ i. cond (names_none (statement_on l text).operation i || none_in_vain l.promised w.symbols (statement_on l text).operation all i) None
    (waiting_of (clean w) l text)

none_lost : (w : Layout) (operation : Operation) → AllStand w.promised w.symbols → is_lost (clean w) operation ≡ false
none_lost w operation all = λ i. names_none operation i || none_in_vain w.promised w.symbols operation all i

none_waits : (kind : Option FaultKind) → kind ≡ None → standing (kind ∷ []) ≡ []
none_waits kind e = ap (λ k. standing (k ∷ [])) e

pub nothing_told : (language : Language) (d : Doubt) (line : ℕ) (text : List ℕ) (taken : Option ℕ) → told_of language d line text taken [] ≡ []
nothing_told language d line text taken = ap (map (finding language line text taken)) (none_pass (kinds_on language text))
  where
    none_pass : (kinds : List FaultKind) → filter (λ kind. is_one_of [] kind && not (follows d kind)) kinds ≡ []
    none_pass [] = refl
    none_pass (kind ∷ kinds) = none_pass kinds

no_kinds : (line : ℕ) (kinds : List FaultKind) (others : List Fault) → on_line line kinds ++ others ≡ [] → (kinds ≡ []) × (others ≡ [])
no_kinds line kinds others e = head_faults line kinds others e

-- nothing is told of lines without a fault
none_told : (texts : List (List ℕ)) (line : ℕ) (l w : Layout) → layout_faults line l texts ≡ [] → first_of w.symbols line l texts ≡ None
    → words_of w.symbols line l texts ≡ []
    → told_lines (clean w) line (clean l) texts ≡ []
none_told [] line l w e first none = refl
none_told (text ∷ texts) line l w e first none =
    let after : Layout = (line_effect line l text).after in
    let operation : Operation = (statement_on l text).operation in
    let parts = head_faults line (line_faults line l text) (layout_faults (line + 1) after texts) e in
    let words = head_faults line (word_kinds w.symbols l false operation) (words_of w.symbols (line + 1) after texts) none in
    let waits = neither (line_fault w.symbols line l (statement_on l text).label operation) (first_of w.symbols (line + 1) after texts)
    first in
    let vain = vain_none (clean w) l text (none_of_line line (waiting_of (clean w) l text) waits.0) in
    let d : Doubt = doubt_here (not (list_all is_text_byte text)) (is_lost (clean w) operation) in
    let here : told_line (clean w) line (clean l) text ≡ [] =
    clean_line (clean w) line l text parts.0
    ∙ (λ i. told_of l.language d line text (taken_by l operation) (none_waits (vain_of (clean w) l text) vain i ++ words.0 i))
    ∙ nothing_told l.language d line text (taken_by l operation) in
    ap (λ findings. findings ++ told_lines (clean w) (line + 1) (passed_line line (clean l) text) texts) here
    ∙ ap (λ s. told_lines (clean w) (line + 1) s texts) (passed_clean line l text parts.0)
    ∙ none_told texts (line + 1) after w parts.1 waits.1 words.1

-- a fault of some kinds on a line
kind_of_fault : (line : ℕ) (kinds : List FaultKind) (fault : Fault) → StandsIn (on_line line kinds) fault
    → (kind : FaultKind) × (IsAmong kind kinds × (fault ≡ least_fault.told line kind))
kind_of_fault line [] fault none = absurd none
kind_of_fault line (k ∷ kinds) fault (inl same) = (k, (inl refl, same))
kind_of_fault line (k ∷ kinds) fault (inr more) =
    let found = kind_of_fault line kinds fault more in (found.0, (inr found.1.0, found.1.1))

either_list : (fs gs : List Fault) (fault : Fault) → StandsIn (fs ++ gs) fault → StandsIn fs fault ⊎ StandsIn gs fault
either_list [] gs fault stands = inr stands
either_list (f ∷ fs) gs fault (inl same) = inl (inl same)
either_list (f ∷ fs) gs fault (inr more) =
    elim (either_list fs gs fault more) [ inl here ↦ inl (inr here) | inr there ↦ inr there ]

-- a word fault of a faultless line is told
word_told : (line : ℕ) (l w : Layout) (text : List ℕ) (fault : Fault) → AllStand w.promised w.symbols → line_faults line l text ≡ []
    → StandsIn (on_line line (word_kinds w.symbols l false (statement_on l text).operation)) fault
    → list_any (is_of fault) (told_line (clean w) line (clean l) text) ≡ true
word_told line l w text fault all e stands =
    let operation : Operation = (statement_on l text).operation in
    let kinds : List FaultKind = word_kinds w.symbols l false operation in
    let found = kind_of_fault line kinds fault stands in
    let plain : list_all is_text_byte text ≡ true = all_text l.language line text
    (no_front (text_faults l.language line text) (line_effect line l text).faults e) in
    let d : Doubt = doubt_here (not (list_all is_text_byte text)) (is_lost (clean w) operation) in
    let alone : follows d found.0 ≡ false = (λ i. follows (doubt_here (not (plain i)) (none_lost w operation all i)) found.0)
    ∙ none_follows found.0 in
    ap (λ f. list_any (is_of f) (told_line (clean w) line (clean l) text)) found.1.1
    ∙ ap (list_any (is_of (least_fault.told line found.0))) (clean_line (clean w) line l text e)
    ∙ told_here l.language d line text (taken_by l operation) (standing (vain_of (clean w) l text ∷ []) ++ kinds) found.0
    (any_back (λ other. fault_number other == fault_number found.0) (standing (vain_of (clean w) l text ∷ [])) kinds
    (one_of_among found.0 kinds found.1.0)) alone

late_some : (found : Option FaultKind) (kind : FaultKind) → found ≡ Some kind → IsLateIf found → is_of_fields kind ≡ true
late_some found kind is late = subst IsLateIf is late

-- the fault of a name that a faultless line lets wait is told, where no other waits in vain before it
waiting_told : (line : ℕ) (l w : Layout) (text : List ℕ) (kind : FaultKind) → AllStand l.promised w.symbols → line_faults line l text ≡ []
    → waiting_of (clean w) l text ≡ Some kind
    → list_any (is_of (least_fault.told line kind)) (told_line (clean w) line (clean l) text) ≡ true
waiting_told line l w text kind all e is =
    let operation : Operation = (statement_on l text).operation in
    let words : List FaultKind = word_kinds w.symbols l false operation in
    let lost : Bool = is_lost (clean w) operation in
    let d : Doubt = doubt_here (not (list_all is_text_byte text)) lost in
    let plain : list_all is_text_byte text ≡ true = all_text l.language line text
    (no_front (text_faults l.language line text) (line_effect line l text).faults e) in
    let fields : is_of_fields kind ≡ true = late_some (waiting_of (clean w) l text) kind is
    (waiting_late w.symbols l (statement_on l text).label operation) in
    let alone : follows d kind ≡ false = ap (λ b. follows (doubt_here (not b) lost) kind) plain ∙ fields_follow lost kind fields in
    ap (list_any (is_of (least_fault.told line kind)))
    (clean_line (clean w) line l text e ∙ ap (λ k. told_of l.language d line text (taken_by l operation) (standing (k ∷ []) ++ words))
    (vain_same l w text all ∙ is))
    ∙ told_here l.language d line text (taken_by l operation) (kind ∷ words) kind (one_of_among kind (kind ∷ words) (inl refl)) alone

first_is_told : (texts : List (List ℕ)) (line : ℕ) (l w : Layout) (fault : Fault) → AllStand l.promised w.symbols
    → layout_faults line l texts ≡ [] → first_of w.symbols line l texts ≡ Some fault
    → list_any (is_of fault) (told_lines (clean w) line (clean l) texts) ≡ true
first_is_told [] line l w fault all e first = absurd (let bad : None ≡ Some fault = first in cc)
first_is_told (text ∷ texts) line l w fault all e first =
    let parts = head_faults line (line_faults line l text) (layout_faults (line + 1) (line_effect line l text).after texts) e in
    by_kind parts.0 (λ stand more. first_is_told texts (line + 1) (line_effect line l text).after w fault stand parts.1 more)
    (waiting_of (clean w) l text) refl
  where
    after : Layout
    after = (line_effect line l text).after

    later : List Finding
    later = told_lines (clean w) (line + 1) (passed_line line (clean l) text) texts

    by_kind : line_faults line l text ≡ []
        → (AllStand after.promised w.symbols → first_of w.symbols (line + 1) after texts ≡ Some fault
        → list_any (is_of fault) (told_lines (clean w) (line + 1) (clean after) texts) ≡ true)
        → (found : Option FaultKind) → waiting_of (clean w) l text ≡ found
        → list_any (is_of fault) (told_line (clean w) line (clean l) text ++ later) ≡ true
    by_kind none others None is =
        let more : first_of w.symbols (line + 1) after texts ≡ Some fault =
        sym (ap (λ k. option_or (option_map (λ x. least_fault.told line x) k) (first_of w.symbols (line + 1) after texts)) is) ∙ first in
        any_back (is_of fault) (told_line (clean w) line (clean l) text) later
        (ap (λ s. list_any (is_of fault) (told_lines (clean w) (line + 1) s texts)) (passed_clean line l text none)
        ∙ others (line_stand w.symbols line l text all is) more)
    by_kind none others (Some kind) is =
        let same : Some (least_fault.told line kind) ≡ Some fault =
        sym (ap (λ k. option_or (option_map (λ x. least_fault.told line x) k) (first_of w.symbols (line + 1) after texts)) is) ∙ first in
        let told_is : least_fault.told line kind ≡ fault = cc in
        any_front (is_of fault) (told_line (clean w) line (clean l) text) later
        (subst (λ (f : Fault). list_any (is_of f) (told_line (clean w) line (clean l) text) ≡ true) told_is
        (waiting_told line l w text kind all none is))

words_are_told : (texts : List (List ℕ)) (line : ℕ) (l w : Layout) (fault : Fault) → AllStand w.promised w.symbols
    → layout_faults line l texts ≡ [] → StandsIn (words_of w.symbols line l texts) fault
    → list_any (is_of fault) (told_lines (clean w) line (clean l) texts) ≡ true
words_are_told [] line l w fault all e none = absurd none
words_are_told (text ∷ texts) line l w fault all e stands =
    let after : Layout = (line_effect line l text).after in
    let parts = head_faults line (line_faults line l text) (layout_faults (line + 1) after texts) e in
    let later : List Finding = told_lines (clean w) (line + 1) (passed_line line (clean l) text) texts in
    elim (either_list (on_line line (word_kinds w.symbols l false (statement_on l text).operation))
    (words_of w.symbols (line + 1) after texts) fault stands) [
      | inl here ↦ any_front (is_of fault) (told_line (clean w) line (clean l) text) later (word_told line l w text fault all parts.0 here)
      | inr there ↦ any_back (is_of fault) (told_line (clean w) line (clean l) text) later
          (ap (λ s. list_any (is_of fault) (told_lines (clean w) (line + 1) s texts)) (passed_clean line l text parts.0)
          ∙ words_are_told texts (line + 1) after w fault all parts.1 there)
    ]

-- ## The first line that is refused
fold_among : (k : FaultKind) (kinds : List FaultKind) → IsAmong (fold lesser_kind k kinds) (k ∷ kinds)
fold_among k [] = inl refl
fold_among k (j ∷ kinds) = of_both (fold_among (lesser_kind k j) kinds)
  where
    either : (b : Bool) → (cond b j k ≡ k) ⊎ (cond b j k ≡ j)
    either true = inr refl
    either false = inl refl

    of_both : IsAmong (fold lesser_kind (lesser_kind k j) kinds) (lesser_kind k j ∷ kinds)
        → IsAmong (fold lesser_kind (lesser_kind k j) kinds) (k ∷ j ∷ kinds)
    of_both (inr more) = inr (inr more)
    of_both (inl same) = elim (either (Rattle.std.specs.Prelude.nat_lt (fault_number j) (fault_number k)))
        [ inl is ↦ inl (same ∙ is) | inr is ↦ inr (inl (same ∙ is)) ]

least_among : (kinds : List FaultKind) (kind : FaultKind) → least_kind kinds ≡ Some kind → IsAmong kind kinds
least_among [] kind e = absurd (let bad : None ≡ Some kind = e in cc)
least_among (k ∷ kinds) kind e =
    let same : fold lesser_kind k kinds ≡ kind = cc in
    subst (λ (x : FaultKind). IsAmong x (k ∷ kinds)) same (fold_among k kinds)

-- the least fault of a line with a byte that it may not hold
first_is_bytes : (a b c : Bool) → a ≡ true → least_kind
    (standing (fault_if a NotAscii ∷ fault_if b LongLine ∷ fault_if c TooManyLines ∷ [])) ≡ Some NotAscii
first_is_bytes true true true e = refl
first_is_bytes true true false e = refl
first_is_bytes true false true e = refl
first_is_bytes true false false e = refl
first_is_bytes false b c e = absurd (cc)

-- a fault among those of a line's bytes, its length, its number and its fields
early_follows : (symbol a b c : Bool) (others : List FaultKind) (kind : FaultKind) → AreLate others
    → IsAmong kind (standing (fault_if a NotAscii ∷ fault_if b LongLine ∷ fault_if c TooManyLines ∷ []) ++ others)
    → follows (doubt_here false symbol) kind ≡ false
early_follows symbol a b c others kind late among = by_bytes a among
  where
    of_others : (ks : List FaultKind) → AreLate ks → IsAmong kind ks → follows (doubt_here false symbol) kind ≡ false
    of_others [] l none = absurd none
    of_others (k ∷ ks) l (inl same) = ap (follows (doubt_here false symbol)) same ∙ fields_follow symbol k l.0
    of_others (k ∷ ks) l (inr more) = of_others ks l.1 more

    by_number : (x : Bool) → IsAmong kind (standing (fault_if x TooManyLines ∷ []) ++ others)
        → follows (doubt_here false symbol) kind ≡ false
    by_number true (inl same) = ap (follows (doubt_here false symbol)) same
    by_number true (inr more) = of_others others late more
    by_number false more = of_others others late more

    by_length : (x : Bool) → IsAmong kind (standing (fault_if x LongLine ∷ fault_if c TooManyLines ∷ []) ++ others)
        → follows (doubt_here false symbol) kind ≡ false
    by_length true (inl same) = ap (follows (doubt_here false symbol)) same
    by_length true (inr more) = by_number c more
    by_length false more = by_number c more

    by_bytes : (x : Bool) → IsAmong kind (standing (fault_if x NotAscii ∷ fault_if b LongLine ∷ fault_if c TooManyLines ∷ []) ++ others)
        → follows (doubt_here false symbol) kind ≡ false
    by_bytes true (inl same) = ap (follows (doubt_here false symbol)) same
    by_bytes true (inr more) = by_length b more
    by_bytes false more = by_length b more

-- a fault of a line's fields is one of those that are looked at: where its operand has no form, that, and those of its label
among_mended : (line : ℕ) (l : Layout) (text : List ℕ) (label : Label) (operation : Operation) (kind : FaultKind)
    → IsAmong kind (statement_effect line l label operation).faults
    → is_one_of (form_kinds (lacks_form operation) ++ layout_kinds line l label (mended l.language text operation)) kind ≡ true
among_mended line l text label Nothing kind among = one_of_among kind _ among
among_mended line l text label Unknown kind among = one_of_among kind _ among
among_mended line l text label (Setloc operand) kind among = one_of_among kind _ among
among_mended line l text label (Bank taken number) kind among = one_of_among kind _ among
among_mended line l text label (Erase count) kind among = one_of_among kind _ among
among_mended line l text label (Equals operand) kind among = one_of_among kind _ among
among_mended line l text label (Ebank operand) kind among = one_of_among kind _ among
among_mended line l text label (Gives (Some content)) kind among = one_of_among kind _ among
among_mended line l text label (Gives None) kind among = by_words (given_by l.language text)
  where
    of_label : (a b : Bool) (rest : List (Option FaultKind))
        → IsAmong kind (standing (fault_if a BadLabel ∷ fault_if b TwiceDefined ∷ Some BadOperand ∷ []))
        → is_one_of (BadOperand ∷ standing (fault_if a BadLabel ∷ fault_if b TwiceDefined ∷ rest)) kind ≡ true
    of_label true true rest (inl same) = subst (λ k. is_one_of (BadOperand ∷ BadLabel ∷ TwiceDefined ∷ standing rest) k ≡ true) (sym same)
        refl
    of_label true true rest (inr (inl same)) = subst (λ k. is_one_of (BadOperand ∷ BadLabel ∷ TwiceDefined ∷ standing rest) k ≡ true)
        (sym same) refl
    of_label true true rest (inr (inr (inl same))) = subst (λ k. is_one_of (BadOperand ∷ BadLabel ∷ TwiceDefined ∷ standing rest) k ≡ true)
        (sym same) refl
    of_label true true rest (inr (inr (inr none))) = absurd none
    of_label true false rest (inl same) = subst (λ k. is_one_of (BadOperand ∷ BadLabel ∷ standing rest) k ≡ true) (sym same) refl
    of_label true false rest (inr (inl same)) = subst (λ k. is_one_of (BadOperand ∷ BadLabel ∷ standing rest) k ≡ true) (sym same) refl
    of_label true false rest (inr (inr none)) = absurd none
    of_label false true rest (inl same) = subst (λ k. is_one_of (BadOperand ∷ TwiceDefined ∷ standing rest) k ≡ true) (sym same) refl
    of_label false true rest (inr (inl same)) = subst (λ k. is_one_of (BadOperand ∷ TwiceDefined ∷ standing rest) k ≡ true) (sym same) refl
    of_label false true rest (inr (inr none)) = absurd none
    of_label false false rest (inl same) = subst (λ k. is_one_of (BadOperand ∷ standing rest) k ≡ true) (sym same) refl
    of_label false false rest (inr none) = absurd none

    by_words : (content : Option Content) → is_one_of (BadOperand ∷ layout_kinds line l label (Gives content)) kind ≡ true
    by_words None = of_label (is_malformed label) (is_twice l label) (Some BadOperand ∷ []) among
    by_words (Some content) =
        of_label (is_malformed label) (is_twice l label)
        (fault_if (lacks_room (width content) l.location) BankFull ∷ fault_if (is_taken l (width content)) PlaceTaken
        ∷ fault_if (is_erasable l.location) CodeInErasable ∷ []) among

either_among : (kind : FaultKind) (xs ys : List FaultKind) → IsAmong kind (xs ++ ys) → IsAmong kind xs ⊎ IsAmong kind ys
either_among kind [] ys more = inr more
either_among kind (x ∷ xs) ys (inl same) = inl (inl same)
either_among kind (x ∷ xs) ys (inr more) = elim (either_among kind xs ys more) [ inl here ↦ inl (inr here) | inr there ↦ inr there ]

-- the least fault of the first line that has one is told
first_told : (w : Survey) (line : ℕ) (l : Layout) (text : List ℕ) (kind : FaultKind) → least_kind (line_faults line l text) ≡ Some kind
    → list_any (is_of (least_fault.told line kind)) (told_line w line (clean l) text) ≡ true
unfolding line_effect
first_told w line l text kind e =
    let label : Label = (statement_on l text).label in
    let operation : Operation = operation_on l text in
    let lost : Bool = is_lost w operation in
    let bytes : List FaultKind = text_faults l.language line text in
    let form : List FaultKind = form_kinds (lacks_form (statement_on l text).operation) in
    let fields : List FaultKind = layout_kinds line l label operation in
    let waits : List FaultKind = standing (vain_kind w (clean l) label operation ∷ []) in
    let words : List FaultKind = word_kinds w.layout.symbols l (lacks_form (statement_on l text).operation) operation in
    let test : FaultKind → Bool = λ other. fault_number other == fault_number kind in
    let among : IsAmong kind (line_faults line l text) = least_among (line_faults line l text) kind e in
    let stands : is_one_of (bytes ++ form ++ fields ++ waits ++ words) kind ≡ true =
    any_front test (bytes ++ form ++ fields ++ waits) words (any_front test (bytes ++ form ++ fields) waits
    (elim (either_among kind bytes (statement_effect line l label (statement_on l text).operation).faults among) [
      | inl here ↦ any_front test (bytes ++ form) fields (any_front test bytes form (one_of_among kind bytes here))
      | inr there ↦ ap (list_any test) (append_assoc bytes form fields)
          ∙ any_back test bytes (form ++ fields) (among_mended line l text label (statement_on l text).operation kind there)
    ])) in
    let told_alone : follows (doubt_here (not (list_all is_text_byte text)) lost) kind ≡ false
    → list_any (is_of (least_fault.told line kind)) (told_line w line (clean l) text) ≡ true =
    λ alone. ap (λ d. list_any (is_of (least_fault.told line kind))
    (told_of l.language d line text (taken_by l operation) (bytes ++ form ++ fields ++ waits ++ words)))
    (clean_doubt w l text operation)
    ∙ told_here l.language (doubt_here (not (list_all is_text_byte text)) lost) line text (taken_by l operation)
    (bytes ++ form ++ fields ++ waits ++ words) kind stands alone in
    elim (cases_Bool (list_all is_text_byte text)) [
      | inl plain ↦ told_alone
          (ap (λ b. follows (doubt_here (not b) lost) kind) plain
          ∙ early_follows lost (not (list_all is_text_byte text)) _ _ (statement_effect line l label (statement_on l text).operation).faults
          kind
          (statement_late line l label (statement_on l text).operation) among)
      | inr other ↦
          let least_is : Some NotAscii ≡ Some kind = sym
          (line_told line l text NotAscii (first_is_bytes (not (list_all is_text_byte text)) _ _ (ap not other))) ∙ e in
          let is : NotAscii ≡ kind = cc in
          told_alone (ap (follows (doubt_here (not (list_all is_text_byte text)) lost)) (sym is))
    ]

least_of_none : (faults : List Fault) → faults ≡ [] → least faults ≡ None
least_of_none faults e = ap least e

-- the lines after a line are as many as before it
same_limit : (line : ℕ) (l : Layout) (text : List ℕ) → most_lines l.language + 1 ≡ most_lines (line_effect line l text).after.language + 1
same_limit line l text = ap (λ language. most_lines language + 1) (sym (same_language line l text))

-- of lines of which one is refused the least fault is told, where so many are looked at that no more may stand
layout_told : (texts : List (List ℕ)) (line m : ℕ) (l : Layout) (w : Survey) (fault : Fault) → line + m ≡ most_lines l.language + 1
    → least (layout_faults line l texts) ≡ Some fault
    → list_any (is_of fault) (told_lines w line (clean l) (take (suc m) texts)) ≡ true
layout_told [] line m l w fault count e = absurd (let bad : None ≡ Some fault = e in cc)
layout_told (text ∷ texts) line m l w fault count e =
    by_least (λ k counted later. layout_told texts (line + 1) k (line_effect line l text).after w fault (counted ∙ same_limit line l text)
    later) (least_kind (line_faults line l text)) refl
  where
    after : Layout
    after = (line_effect line l text).after

    later : ((k : ℕ) → line + 1 + k ≡ most_lines l.language + 1 → least (layout_faults (line + 1) after texts) ≡ Some fault
        → list_any (is_of fault) (told_lines w (line + 1) (clean after) (take (suc k) texts)) ≡ true)
        → (k : ℕ) → m ≡ k → line_faults line l text ≡ []
        → list_any (is_of fault) (told_lines w line (clean l) (take (suc k) (text ∷ texts))) ≡ true
    later others zero is none = absurd (few_lines line l text none (omega (arith, count, is)))
    later others (suc k) is none =
        any_back (is_of fault) (told_line w line (clean l) text)
        (told_lines w (line + 1) (passed_line line (clean l) text) (take (suc k) texts))
        (ap (λ s. list_any (is_of fault) (told_lines w (line + 1) s (take (suc k) texts))) (passed_clean line l text none)
        ∙ others k (omega (arith, count, is)) (ap least (sym (faultless_line line l text texts none)) ∙ e))

    by_least : ((k : ℕ) → line + 1 + k ≡ most_lines l.language + 1 → least (layout_faults (line + 1) after texts) ≡ Some fault
        → list_any (is_of fault) (told_lines w (line + 1) (clean after) (take (suc k) texts)) ≡ true)
        → (found : Option FaultKind) → least_kind (line_faults line l text) ≡ found
        → list_any (is_of fault) (told_lines w line (clean l) (take (suc m) (text ∷ texts))) ≡ true
    by_least others None is = later others m refl (none_least (line_faults line l text) is)
    by_least others (Some kind) is =
        let same : Some (least_fault.told line kind) ≡ Some fault = sym (faulty_line line l text texts kind is) ∙ e in
        let told_is : least_fault.told line kind ≡ fault = cc in
        any_front (is_of fault) (told_line w line (clean l) text) (told_lines w (line + 1) (passed_line line (clean l) text) (take m texts))
        (subst (λ (f : Fault). list_any (is_of f) (told_line w line (clean l) text) ≡ true) told_is (first_told w line l text kind is))

-- where no line is refused all are looked at
all_looked_at : (texts : List (List ℕ)) (line m : ℕ) (l : Layout) → line + m ≡ most_lines l.language + 1 → layout_faults line l texts ≡ []
    → take (suc m) texts ≡ texts
all_looked_at [] line m l count e = refl
all_looked_at (text ∷ texts) line m l count e =
    by_count (head_faults line (line_faults line l text) (layout_faults (line + 1) (line_effect line l text).after texts) e)
    (λ k counted later. all_looked_at texts (line + 1) k (line_effect line l text).after (counted ∙ same_limit line l text) later) m refl
  where
    by_count : (line_faults line l text ≡ []) × (layout_faults (line + 1) (line_effect line l text).after texts ≡ [])
        → ((k : ℕ) → line + 1 + k ≡ most_lines l.language + 1 → layout_faults (line + 1) (line_effect line l text).after texts ≡ []
        → take (suc k) texts ≡ texts)
        → (k : ℕ) → m ≡ k → take (suc k) (text ∷ texts) ≡ text ∷ texts
    by_count parts others zero is = absurd (few_lines line l text parts.0 (omega (arith, count, is)))
    by_count parts others (suc k) is = ap (λ more. text ∷ more) (others k (omega (arith, count, is)) parts.1)

-- ## The law
and_one : (language : Language) → most_lines language + 1 ≡ suc (most_lines language)
and_one language = omega arith

none_of_least : (faults : List Fault) → least faults ≡ None → faults ≡ []
none_of_least [] e = refl
none_of_least (f ∷ fs) e = absurd (cc)

stands_least : (faults : List Fault) (fault : Fault) → least faults ≡ Some fault → StandsIn faults fault
stands_least [] fault e = absurd (let bad : None ≡ Some fault = e in cc)
stands_least (f ∷ fs) fault e =
    let same : fold least_fault.lesser f fs ≡ fault = cc in
    subst (λ (x : Fault). StandsIn (f ∷ fs) x) same (fold_is_least f fs).0

-- where no line is refused
laid_out : (language : Language) (source : List ℕ) → layout_faults 1 (start language) (lines source) ≡ []
    → TellsOf (finished (layout_after 1 (start language) (lines source)) (record { language = language; text = source }))
    (told_lines (settled_survey (passed_lines 1 (unmarked language) (looked_at language source))) 1 (unmarked language)
    (looked_at language source))
laid_out language source e =
    subst (λ (findings : List Finding). TellsOf (finished after (record { language = language; text = source })) findings) (sym same)
    (by_first (first_fault whole.symbols after.promises) refl)
  where
    after : Layout
    after = layout_after 1 (start language) (lines source)

    whole : Layout
    whole = with_values after

    all : looked_at language source ≡ lines source
    all = ap (λ n. take n (lines source)) (and_one language)
        ∙ all_looked_at (lines source) 1 (most_lines language) (start language) (omega arith) e

    same : told_lines (settled_survey (passed_lines 1 (unmarked language) (looked_at language source))) 1 (unmarked language)
        (looked_at language source) ≡ told_lines (clean whole) 1 (clean (start language)) (lines source)
    same =
        ap (λ texts. told_lines (settled_survey (passed_lines 1 (unmarked language) texts)) 1 (unmarked language) texts) all
        ∙ ap (λ w. told_lines (settled_survey w) 1 (clean (start language)) (lines source))
        (clean_after (lines source) 1 (start language) e)

    first : first_fault whole.symbols after.promises ≡ first_of whole.symbols 1 (start language) (lines source)
    first = promises_first whole.symbols (lines source) 1 (start language)

    words : word_faults whole.symbols after.requests ≡ words_of whole.symbols 1 (start language) (lines source)
    words = words_told whole.symbols (lines source) 1 (start language) e

    none_before : AllStand [] whole.symbols
    none_before name is = absurd (let bad : false ≡ true = is in cc)

    all_stand : first_of whole.symbols 1 (start language) (lines source) ≡ None → AllStand whole.promised whole.symbols
    all_stand none = lines_stand whole.symbols (lines source) 1 (start language) none_before none

    by_least : first_of whole.symbols 1 (start language) (lines source) ≡ None → (found : Option Fault)
        → least (word_faults whole.symbols after.requests) ≡ found
        → TellsOf (unless_fault found (Ok (record {
          rope = Rattle.rope.specs.Places.with_words Rattle.rope.specs.Places.no_words
              (Rattle.yayul.specs.Program.image_of whole);
          symbols = whole.symbols;
          source = record
              { language = language; text = source };
        })))
        (told_lines (clean whole) 1 (clean (start language)) (lines source))
    by_least none None is = none_told (lines source) 1 (start language) whole e none
        (sym words ∙ none_of_least (word_faults whole.symbols after.requests) is)
    by_least none (Some fault) is =
        words_are_told (lines source) 1 (start language) whole fault (all_stand none) e
        (subst (λ (faults : List Fault). StandsIn faults fault) words (stands_least (word_faults whole.symbols after.requests) fault is))

    by_first : (found : Option Fault) → first_fault whole.symbols after.promises ≡ found
        → TellsOf (unless_fault found (completed whole (record { language = language; text = source })))
        (told_lines (clean whole) 1 (clean (start language)) (lines source))
    by_first None is = by_least (sym first ∙ is) (least (word_faults whole.symbols after.requests)) refl
    by_first (Some fault) is = first_is_told (lines source) 1 (start language) whole fault none_before e (sym first ∙ is)

pub findings_agree : (language : Language) (source : List ℕ) → FindingsAgree language source
unfolding program told
findings_agree language source = by_least (least (layout_faults 1 (start language) (lines source))) refl
  where
    by_least : (found : Option Fault) → least (layout_faults 1 (start language) (lines source)) ≡ found
        → TellsOf (unless_fault found (finished (layout_after 1 (start language) (lines source))
        (record { language = language; text = source })))
        (told_lines (settled_survey (passed_lines 1 (unmarked language) (looked_at language source))) 1 (unmarked language)
        (looked_at language source))
    by_least None is = laid_out language source (none_of_least (layout_faults 1 (start language) (lines source)) is)
    by_least (Some fault) is =
        let whole : Survey = settled_survey (passed_lines 1 (unmarked language) (looked_at language source)) in
        ap (λ n. list_any (is_of fault) (told_lines whole 1 (clean (start language)) (take n (lines source)))) (and_one language)
        ∙ layout_told (lines source) 1 (most_lines language) (start language) whole fault (omega arith) is
