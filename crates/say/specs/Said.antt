-- A run as sentences: a line for each step.
use Rattle.std.specs.Prelude.{ℕ, zero, suc, ◌+◌, ◌-◌, ◌^◌, ◌==◌, false, true, nat_lt, nat_le, List, [], ◌∷◌, ◌++◌, codes, decimal}
use Rattle.std.specs.Prelude.{if◌then◌else◌}
use Rattle.std.specs.List.{flat_map}
use Rattle.words.specs.Numbers.{correct, extend}
use Rattle.words.specs.Numerals.{octal_text}
use Rattle.words.specs.Signs.{over}
use Rattle.symbols.specs.Values.{SymbolTable}
use Rattle.cpu.specs.Effects.{has_overflow}
use Rattle.cpu.specs.Next.{next}
use Rattle.cpu.specs.NextStep.{next_step}
use Rattle.cpu.specs.Run.{run}
use Rattle.cpu.specs.State.{State, Scenario}
use Rattle.trace.specs.TraceLines.{field, trace_line, what_text}
use Rattle.say.specs.declared.form.LineForm.{LineForm}
use Rattle.say.specs.declared.form.LineForm.TheVariants.{Steps, StepsAndReads, Sentences}
use Rattle.say.specs.declared.values.Values.{Values}
use Rattle.say.specs.Told as told
use Rattle.say.specs.Sentences.{sentence}

-- a number of 16 bits as people write it
abbrev pub signed : ℕ → List ℕ
signed x = if nat_lt x (2 ^ 15) then decimal x else codes "-" ++ decimal (2 ^ 16 - 1 - x)

-- a word in octal and as a number; with an overflow all 16 bits
unfoldable pub shown : ℕ → List ℕ
shown x =
    if has_overflow (over x) then octal_text 6 x ++ codes " (" ++ signed x ++ codes ", overflow)"
    else octal_text 5 (correct x) ++ codes " (" ++ signed x ++ codes ")"

-- what stands in a line for a character of a sentence
unfoldable pub piece : told.Called → ℕ → Values → Values → ℕ → List ℕ
piece called n before after c =
    if c == 0o74 then shown before.a  -- <
    else (if c == 0o76 then shown after.a  -- >
    else (if c == 0o50 then shown before.l  -- (
    else (if c == 0o51 then shown after.l  -- )
    else (if c == 0o133 then shown before.first  -- [
    else (if c == 0o135 then shown after.first  -- ]
    else (if c == 0o173 then shown before.second  -- {
    else (if c == 0o175 then shown after.second  -- }
    else (if c == 0o100 then called.operand  -- @
    else (if c == 0o46 then called.other  -- &
    else (if c == 0o176 then called.interrupt  -- ~
    else (if c == 0o136 then shown (extend (correct before.a))  -- ^
    else (if c == 0o174 then shown (extend (correct before.first))  -- |
    else (if c == 0o43 then octal_text 3 n  -- #
    else (if c == 0o41 then shown after.channel  -- !
    else (if c == 0o44 then octal_text 4 after.q  -- $
    else (if c == 0o45 then octal_text 5 (correct after.first)  -- %
    else c ∷ []))))))))))))))))

-- a sentence with what it tells of
unfoldable pub filled : told.Called → ℕ → Values → Values → List ℕ → List ℕ
filled called n before after text = flat_map (piece called n before after) text

-- the sentence of the step that follows a state
abbrev pub said : SymbolTable → Scenario → State → List ℕ
said symbols scenario s =
    let step = next_step scenario s in
    let places = told.places_of s step in
    let before = told.values_before scenario.rope s places in
    filled (told.called symbols scenario.rope s step) places.channel before
    (told.values_after scenario.rope (next scenario s).0 places) (sentence s places before step)

-- its line: its number, what it is, as a trace has it, and its sentence
unfoldable pub said_line : SymbolTable → Scenario → ℕ → State → List ℕ
said_line symbols scenario number s =
    (field 8 (decimal number) ++ what_text symbols scenario.rope s (next_step scenario s)) ++ (said symbols scenario s ++ codes "\n")

-- ## Lines of each form

-- the line of a step: of a trace, of one that shows what each step reads, or with its sentence
abbrev pub told_line : LineForm → SymbolTable → Scenario → ℕ → State → List ℕ
told_line Steps symbols scenario number s = trace_line false symbols scenario number s
told_line StepsAndReads symbols scenario number s = trace_line true symbols scenario number s
told_line Sentences symbols scenario number s = said_line symbols scenario number s

-- the line of a step that follows a state, where lines are written from a first step on
abbrev pub told_from : LineForm → SymbolTable → Scenario → ℕ → ℕ → State → List ℕ
told_from form symbols scenario first number s = if nat_le first number then told_line form symbols scenario number s else []

-- the lines of the first n steps, from a first one on
unfoldable pub told_lines : LineForm → SymbolTable → Scenario → ℕ → ℕ → List ℕ
told_lines form symbols scenario first zero = []
told_lines form symbols scenario first (suc n) = told_lines form symbols scenario first n
    ++ told_from form symbols scenario first (suc n) (run scenario n)
