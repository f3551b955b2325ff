-- The notes of a run: what has happened in its steps, by kind and place, with the first step and how often; and how it ends.
use Rattle.std.specs.Prelude.{◌≡◌, ℕ, zero, suc, ◌+◌, ◌*◌, ◌<◌, ◌==◌, ◌&&◌, Bool, true, false, nat_le, List, [], ◌++◌, codes, decimal}
use Rattle.std.specs.Prelude.{if◌then◌else◌, ◌↔◌}
use Rattle.std.specs.List.{flat_map, range_with_len}
use Rattle.json_text.specs.declared.notation.Notation.{Notation}
use Rattle.json_text.specs.declared.notation.Notation.TheVariants.{Text, Json}
use Rattle.space.specs.declared.place.Linear.TheVariants.{Fixed}
use Rattle.symbols.specs.Values.{SymbolTable}
use Rattle.yayul.specs.Named.{Named}
use Rattle.cpu.specs.declared.account.Account.{Account}
use Rattle.cpu.specs.declared.account.Account.TheVariants.{Input, Waiting, Place}
use Rattle.cpu.specs.declared.next_step.NextStep.{NextStep}
use Rattle.cpu.specs.declared.next_step.NextStep.TheVariants.{Takes, Enters, Executes}
use Rattle.cpu.specs.Next.{next}
use Rattle.cpu.specs.NextStep.{next_step}
use Rattle.cpu.specs.Profiles.{same_account}
use Rattle.cpu.specs.Run.{run}
use Rattle.cpu.specs.State.{State, Scenario}
use Rattle.rope.specs.Places.{Words}
use Rattle.trace.specs.TraceLines.{field, what_text}
use Rattle.trace.specs.StepMembers.{what_members}
use Rattle.notes.specs.declared.kind.Kind.{Kind}
use Rattle.notes.specs.declared.kind.Kind.TheVariants.{Quotient, Skip, NoWord, InErasable, NoHandler, OtherBank, NotKept, MinusZero}
use Rattle.notes.specs.declared.kind.Kind.TheVariants.{Overwritten, Shared, FixedBank}
use Rattle.notes.specs.Notes.{happens}
use Rattle.notes.specs.Past.{Seen, past, seen}
use Rattle.notes.specs.Unread.{unread_text}
use Rattle.notes.specs.Waits.{waits_text}

-- where a step is: the place to which Z leads, or where an interrupt is entered; an input is nowhere, and so is a word that waited
abbrev pub where_of : NextStep → Account
where_of (Takes input) = Input
where_of (Enters k) = Place (Fixed 2 (4 * k))
where_of (Executes f) = if f.waited then Waiting else Place f.place

-- where the step is that follows a state
abbrev pub here : Scenario → State → Account
here scenario s = where_of (next_step scenario s)

-- whether something of a kind happens somewhere, in the step that follows a state
abbrev pub happens_at : Named → Scenario → Kind → Account → Seen → Bool
happens_at named scenario kind a w = happens named scenario kind w && same_account a (here scenario w.state)

-- how often it does in the first n steps
unfoldable pub times : Named → Scenario → Kind → Account → ℕ → ℕ
times named scenario kind a zero = 0
times named scenario kind a (suc n) = times named scenario kind a n + (if happens_at named scenario kind a (seen scenario n) then 1 else 0)

-- how often it does in n steps, where it does not in the first t of them; else none
abbrev pub times_from : Named → Scenario → Kind → Account → ℕ → ℕ → ℕ
times_from named scenario kind a t n = if times named scenario kind a t == 0 then times named scenario kind a n else 0

-- what is told of a kind at the step after t others: how often it happens there in n steps, where it happens in this step and in none
-- before
unfoldable pub told : Named → Scenario → ℕ → ℕ → Kind → ℕ
told named scenario n t kind =
    if happens named scenario kind (seen scenario t) then times_from named scenario kind (here scenario (run scenario t)) t n else 0

-- the word of a kind
abbrev pub kind_word : Kind → List ℕ
kind_word Quotient = codes "QUOTIENT"
kind_word Skip = codes "SKIP"
kind_word NoWord = codes "NOWORD"
kind_word InErasable = codes "ERASABLE"
kind_word NoHandler = codes "NOHANDLER"
kind_word OtherBank = codes "OTHERBANK"
kind_word NotKept = codes "NOTKEPT"
kind_word MinusZero = codes "MINUSZERO"
kind_word Overwritten = codes "OVERWRITTEN"
kind_word Shared = codes "SHARED"
kind_word FixedBank = codes "FIXEDBANK"

-- with blanks up to the next column
abbrev pub kind_field : Kind → List ℕ
kind_field kind = field 9 (kind_word kind)

-- what a step is, in a notation
abbrev pub what_in : Notation → SymbolTable → Words → State → NextStep → List ℕ
what_in Text symbols rope s step = what_text symbols rope s step
what_in Json symbols rope s step = what_members symbols rope s step

-- the line of a note: its kind, what its first step is, that step's number and the cycles after it, and how often
unfoldable pub note_line : Kind → List ℕ → ℕ → ℕ → ℕ → List ℕ
note_line kind what number cycles count =
    codes "NOTE " ++ kind_field kind ++ what ++ codes "STEP " ++ decimal number ++ codes " CYCLES " ++ decimal cycles
    ++ codes " TIMES " ++ decimal count ++ codes "\n"

-- its object
unfoldable pub note_object : Kind → List ℕ → ℕ → ℕ → ℕ → List ℕ
note_object kind what number cycles count =
    codes "{\"kind\":\"" ++ (kind_word kind ++ (codes "\""
    ++ (what ++ (codes ",\"step\":" ++ (decimal number ++ (codes ",\"cycles\":" ++ (decimal cycles
    ++ (codes ",\"count\":" ++ (decimal count ++ codes "}\n")))))))))

abbrev pub note_in : Notation → Kind → List ℕ → ℕ → ℕ → ℕ → List ℕ
note_in Text kind what number cycles count = note_line kind what number cycles count
note_in Json kind what number cycles count = note_object kind what number cycles count

-- what happens never is not told
abbrev pub told_line : Notation → Kind → List ℕ → ℕ → ℕ → ℕ → List ℕ
told_line notation kind what number cycles count = if count == 0 then [] else note_in notation kind what number cycles count

-- the lines of all kinds at one step
abbrev pub kinds_text : Notation → List ℕ → ℕ → ℕ → (Kind → ℕ) → List ℕ
kinds_text notation what number cycles count =
    told_line notation Quotient what number cycles (count Quotient)
    ++ (told_line notation Skip what number cycles (count Skip)
    ++ (told_line notation NoWord what number cycles (count NoWord)
    ++ (told_line notation InErasable what number cycles (count InErasable)
    ++ (told_line notation NoHandler what number cycles (count NoHandler)
    ++ (told_line notation OtherBank what number cycles (count OtherBank)
    ++ (told_line notation NotKept what number cycles (count NotKept)
    ++ (told_line notation MinusZero what number cycles (count MinusZero)
    ++ (told_line notation Overwritten what number cycles (count Overwritten)
    ++ (told_line notation Shared what number cycles (count Shared)
    ++ told_line notation FixedBank what number cycles (count FixedBank))))))))))

-- what is told at the step that follows a state
abbrev pub text_after : Notation → SymbolTable → Scenario → ℕ → State → (Kind → ℕ) → List ℕ
text_after notation symbols scenario number s count =
    kinds_text notation (what_in notation symbols scenario.rope s (next_step scenario s)) number (next scenario s).0.cycles count

-- what is told of n steps at the step after t others
unfoldable pub step_text : Notation → SymbolTable → Named → Scenario → ℕ → ℕ → List ℕ
step_text notation symbols named scenario n t = text_after notation symbols scenario (t + 1) (run scenario t) (told named scenario n t)

-- what is told of the first n steps, in the order of their first steps
abbrev pub steps_text : Notation → SymbolTable → Named → Scenario → ℕ → List ℕ
steps_text notation symbols named scenario n = flat_map (step_text notation symbols named scenario n) (range_with_len 0 n)

-- what is told of the end: that a run ends within an interrupt
abbrev pub inside_in : Notation → ℕ → List ℕ
inside_in Text n = codes "NOTE INSIDE STEP " ++ (decimal n ++ codes "\n")
inside_in Json n = codes "{\"kind\":\"INSIDE\",\"step\":" ++ (decimal n ++ codes "}\n")

unfoldable pub end_text : Notation → Bool → ℕ → List ℕ
end_text notation inside n = if inside then inside_in notation n else []

-- which interrupts wait long there, and on which channels words came that no instruction has read
abbrev pub ending_text : Notation → Scenario → ℕ → List ℕ
ending_text notation scenario n =
    (end_text notation (run scenario n).inside n ++ waits_text notation scenario n)
    ++ unread_text notation (run scenario n).cycles (past scenario n)

-- the notes of the first n steps of a run, in the order of their first steps, and of its end
unfoldable pub notes_text : Notation → SymbolTable → Named → Scenario → ℕ → List ℕ
notes_text notation symbols named scenario n = steps_text notation symbols named scenario n ++ ending_text notation scenario n

-- ## What a note says
-- it happens somewhere in some of the first n steps
pub record SomeStep (named : Named) (scenario : Scenario) (kind : Kind) (a : Account) (n : ℕ) : Type 0 where
  pub step : ℕ
  pub within : step < n
  pub happens : happens_at named scenario kind a (seen scenario step) ≡ true

-- it happens at the step after t others, and in none before at the same place
pub record FirstStep (named : Named) (scenario : Scenario) (kind : Kind) (t : ℕ) : Type 0 where
  pub happens : happens named scenario kind (seen scenario t) ≡ true
  pub first : (u : ℕ) → u < t → happens_at named scenario kind (here scenario (run scenario t)) (seen scenario u) ≡ false

-- It is counted if and only if it happens in some step; and it is told at a step if and only if it happens there for the first time.
pub record NotedExactly (named : Named) (scenario : Scenario) (kind : Kind) (n : ℕ) : Type 0 where
  pub counted : (a : Account) → (nat_le 1 (times named scenario kind a n) ≡ true) ↔ SomeStep named scenario kind a n
  pub told : (t : ℕ) → t < n → (nat_le 1 (told named scenario n t kind) ≡ true) ↔ FirstStep named scenario kind t

abbrev pub NotesAreExact : Type 0
NotesAreExact = (named : Named) (scenario : Scenario) (kind : Kind) (n : ℕ) → NotedExactly named scenario kind n
