-- No name is defined twice.
use Rattle.std.proofs.Common.{◌≡◌, ◌≢◌, ℕ, zero, suc, ◌+◌, ◌<◌, true, false, not, ◌&&◌, ◌||◌, get_or, length, List, [], ◌∷◌, ◌++◌, Option}
use Rattle.std.proofs.Common.{Some, None, is_some, Result, Ok, Err, refl, sym, subst, inl, inr, arith}
use Rattle.std.proofs.lemmas.Bool.{cases_Bool}
use Rattle.std.proofs.lemmas.Cmp.{nat_list_eq_equiv}
use Rattle.std.proofs.lemmas.List.Quantifiers.{all_pairs_push}
use Rattle.std.specs.Prelude.{IfOk}
use Rattle.std.specs.Result.{result_err, result_unwrap_or}
use Rattle.agc_text.specs.Lines.{lines}
use Rattle.agc_text.specs.Tables.{same_name, value_in}
use Rattle.yayul.specs.Later.{first_fault, with_values}
use Rattle.yayul.specs.Layout.{LineEffect, valued, statement_on, Layout, and_then, value_here, defined, asked_here, fault_if}
use Rattle.yayul.specs.Layout.{standing, start, width, lacks_room, is_taken, is_malformed, is_missing, is_twice, is_erasable}
use Rattle.yayul.specs.Layout.{erased_to, statement_effect, text_faults, line_effect, line_faults, layout_after, layout_faults}
use Rattle.yayul.specs.Program.{Program, least, completed, finished, program, unless_fault}
use Rattle.yayul.specs.Language.{BadLabel, BankFull, Bank, CodeInErasable, Content, Ebank, Equals, Erase, Fault, FaultKind, Gives, Label}
use Rattle.yayul.specs.Language.{Language, Malformed, Missing, Named, Nothing, Operation, PlaceTaken, Setloc, TwiceDefined, Unknown, Value}
use Rattle.yayul.specs.Laws.{NamesStandOnce, StandOnce}
use Rattle.yayul.proofs.Asked.{asked_stays}
use Rattle.yayul.proofs.LineRequests.{none_stands, no_others, head_faults}
use Rattle.yayul.proofs.Equalled.{by_later, promise_symbols, settled_holds}
use Rattle.yayul.proofs.TakenPlaces.{or-parts}

-- a name that a table does not have is the name of none of its entries
is_of_none : (name : List ℕ) (table : List (List ℕ × Value)) (k : ℕ) (d : List ℕ × Value) → value_in table name ≡ None → k < length table
    → (get_or table k d).0 ≢ name
is_of_none name [] k d none lt = λ same. omega (arith, lt)
is_of_none name (e ∷ es) zero d none lt = λ same.
    let itself : same_name name e.0 ≡ true = subst (λ (n : List ℕ). same_name n e.0 ≡ true) same (nat_list_eq_equiv.refl e.0) in
    let bad : Some e.1 ≡ None = rw itself at none in cc
is_of_none name (e ∷ es) (suc k) d none lt =
    elim (cases_Bool (same_name name e.0)) [
      | inl same ↦ absurd (let bad : Some e.1 ≡ None = rw same at none in cc)
      | inr apart ↦ is_of_none name es k d (rw apart at none) (omega (arith, lt))
    ]

-- a name that a table does not have is one more
one_more : (table : List (List ℕ × Value)) (name : List ℕ) (value : Value) → is_some (value_in table name) ≡ false → StandOnce table
    → StandOnce (table ++ (name, value) ∷ [])
one_more table name value new once =
    all_pairs_push (λ (a b : List ℕ × Value). a.0 ≢ b.0) table (name, value) once
    (λ k d lt. is_of_none name table k d (none_of (value_in table name) new) lt)
  where
    none_of : (found : Option Value) → is_some found ≡ false → found ≡ None
    none_of None e = refl
    none_of (Some v) e = absurd (let bad : true ≡ false = e in cc)

-- a name that no earlier line defines is defined once
defined_once : (s : Layout) (label : Label) (value : Value) → StandOnce s.symbols → is_twice s label ≡ false
    → StandOnce (defined s label value).symbols
defined_once s Missing value once new = once
defined_once s Malformed value once new = once
defined_once s (Named name) value once new = one_more s.symbols name value
    (or-parts (is_some (value_in s.symbols name)) (is_some (value_in s.promised name)) new).0 once

-- where a label's faults do not stand, it is new
new_label : (s : Layout) (label : Label) (others : List (Option FaultKind))
    → standing (fault_if (is_malformed label) BadLabel ∷ fault_if (is_twice s label) TwiceDefined ∷ others) ≡ [] → is_twice s label ≡ false
new_label s label others e =
    (none_stands (is_twice s label) TwiceDefined others
    (none_stands (is_malformed label) BadLabel (fault_if (is_twice s label) TwiceDefined ∷ others) e).1).0

-- words asked for leave the symbols as they are
asked_keeps : (line : ℕ) (s : Layout) (content : Content) → (asked_here line s content).symbols ≡ s.symbols
asked_keeps line s content = asked_stays (λ (t : Layout). t.symbols ≡ s.symbols) line s content refl (λ r. refl)

equals_once : (s : Layout) (label : Label) (value : Result Value FaultKind) → StandOnce s.symbols → is_twice s label ≡ false
    → StandOnce (result_unwrap_or (and_then (λ v. Ok (defined s label v)) value) s).symbols
equals_once s label (Ok value) once new = defined_once s label value once new
equals_once s label (Err kind) once new = once

valued_once : (s : Layout) (label : Label) (value : Result Value FaultKind) → StandOnce s.symbols → (valued s label value).faults ≡ []
    → StandOnce (valued s label value).after.symbols
valued_once s label value once e =
    equals_once s label value once
    (none_stands (is_twice s label) TwiceDefined (result_err value ∷ [])
    (none_stands (is_missing label || is_malformed label) BadLabel (fault_if (is_twice s label) TwiceDefined ∷ result_err value ∷ [])
    e).1).0

-- a faultless line leaves each name defined once
statement_once : (line : ℕ) (s : Layout) (label : Label) (operation : Operation) → StandOnce s.symbols
    → (statement_effect line s label operation).faults ≡ [] → StandOnce (statement_effect line s label operation).after.symbols
statement_once line s label Nothing once e = defined_once s label (value_here s.location) once
    (new_label s label (fault_if (not (is_missing label) && lacks_room 1 s.location) BankFull ∷ []) e)
statement_once line s label Unknown once e = once
statement_once line s label (Setloc operand) once e = once
statement_once line s label (Bank taken number) once e = once
statement_once line s label (Erase count) once e =
    defined_once s label (value_here s.location) once
    (new_label s label (fault_if (not (is_missing label) && lacks_room 1 s.location) BankFull ∷ result_err (erased_to s.location count)
    ∷ []) e)
statement_once line s label (Equals operand) once e =
    by_later (λ (x : LineEffect). x.faults ≡ [] → StandOnce x.after.symbols) line s label operand
    (λ value none. valued_once s label value once none)
    (λ o none. subst (λ (symbols : List (List ℕ × Value)). StandOnce symbols) (sym (promise_symbols line s label o)) once) e
statement_once line s label (Ebank operand) once e = once
statement_once line s label (Gives None) once e = once
statement_once line s label (Gives (Some content)) once e =
    subst (λ (symbols : List (List ℕ × Value)). StandOnce symbols)
    (sym (asked_keeps line (defined s label (value_here s.location)) content))
    (defined_once s label (value_here s.location) once
    (new_label s label (fault_if (lacks_room (width content) s.location) BankFull ∷ fault_if (is_taken s (width content)) PlaceTaken
    ∷ fault_if (is_erasable s.location) CodeInErasable ∷ []) e))

line_once : (line : ℕ) (s : Layout) (text : List ℕ) → StandOnce s.symbols → line_faults line s text ≡ []
    → StandOnce (line_effect line s text).after.symbols
unfolding line_effect
line_once line s text once e =
    statement_once line s (statement_on s text).label (statement_on s text).operation once
    (no_others (text_faults s.language line text) (line_effect line s text).faults e)

-- faultless lines leave each name defined once
once_after : (texts : List (List ℕ)) (line : ℕ) (s : Layout) → StandOnce s.symbols → layout_faults line s texts ≡ []
    → StandOnce (layout_after line s texts).symbols
once_after [] line s once none = once
once_after (text ∷ texts) line s once none =
    let parts = head_faults line (line_faults line s text) (layout_faults (line + 1) (line_effect line s text).after texts) none in
    once_after texts (line + 1) (line_effect line s text).after (line_once line s text once parts.0) parts.1

unless_once : (fault : Option Fault) (following : Result Program Fault) → (fault ≡ None → IfOk following (λ p. StandOnce p.symbols))
    → IfOk (unless_fault fault following) (λ p. StandOnce p.symbols)
unless_once None following once = once refl
unless_once (Some fault) following once = tt

-- where there is no least fault there is none
none_of_least : (faults : List Fault) → least faults ≡ None → faults ≡ []
none_of_least [] e = refl
none_of_least (f ∷ fs) e = absurd (cc)

pub names_stand_once : (language : Language) (source : List ℕ) → NamesStandOnce language source
unfolding program
names_stand_once language source =
    let after : Layout = layout_after 1 (start language) (lines source) in
    unless_once (least (layout_faults 1 (start language) (lines source))) (finished after (record { language = language; text = source }))
    (λ none.
    unless_once (first_fault (with_values after).symbols after.promises)
    (completed (with_values after) (record { language = language; text = source })) (λ _.
    unless_once (least _) (Ok _) (λ _. settled_holds (λ table. StandOnce table) one_more after.promises after.symbols
    (once_after (lines source) 1 (start language) (λ i j d lt within. omega (arith, within))
    (none_of_least (layout_faults 1 (start language) (lines source)) none)))))
