-- What a line of commands asks for.
use Rattle.std.specs.Prelude.{ℕ, ◌+◌, ◌==◌, nat_lt, nat_le, List, [], ◌∷◌, length, drop, Option, None, Some, Result, Ok, Err, codes}
use Rattle.std.specs.Prelude.{if◌then◌else◌, option_and_then}
use Rattle.std.specs.List.{before_first}
use Rattle.std.specs.Option.{option_map, option_or}
use Rattle.agc_text.specs.Digits.{number_of}
use Rattle.agc_text.specs.Fields.{Piece, fields, texts}
use Rattle.agc_text.specs.Tables.{same_name, value_in}
use Rattle.feed.specs.Statements.{passing, word_in, parsed}
use Rattle.feed.specs.declared.fault.LineFault.{LineFault}
use Rattle.feed.specs.declared.fault.LineFault.TheVariants as fault
use Rattle.feed.specs.declared.input.Input.{Input}
use Rattle.space.specs.declared.place.Linear.{Linear}
use Rattle.space.specs.declared.place.Linear.TheVariants.{Erasable, Fixed}
use Rattle.symbols.specs.Values.{place_of, SymbolTable}
use Rattle.symbols.specs.declared.values.Value.TheVariants.{Num}
use Rattle.commands.specs.Lines.{command_length}
use Rattle.commands.specs.declared.command.Breakpoint.{Breakpoint}
use Rattle.commands.specs.declared.command.Breakpoint.TheVariants as breakpoint
use Rattle.commands.specs.declared.command.Command.{Command}
use Rattle.commands.specs.declared.command.Command.TheVariants.{Step, Run, Back, Goto, Seek, Break, Clear, Registers, Memory, Channel, Last}
use Rattle.commands.specs.declared.command.Command.TheVariants.{Symbol, Changed, Tail, Add, Quit}
use Rattle.commands.specs.declared.command.ParsedLine.{ParsedLine}
use Rattle.commands.specs.declared.command.ParsedLine.TheVariants.{Nothing, TooLong, Unknown, WrongCounter, Known}

-- a step, or a number of steps: 1 to 15 decimal digits
abbrev pub count_in : List ℕ → Option ℕ
count_in text = number_of 10 15 text

-- a channel: 1 to 5 octal digits
abbrev pub channel_in : List ℕ → Option ℕ
channel_in text = passing (λ n. nat_le n 0o777) (number_of 8 5 text)

-- the place of a number: 1 to 5 octal digits
abbrev pub numbered_place : List ℕ → Option Linear
numbered_place text = option_and_then (λ n. place_of (Num n)) (number_of 8 5 text)

-- the place of a symbol
abbrev pub symbol_place : SymbolTable → List ℕ → Option Linear
symbol_place symbols text = option_and_then place_of (value_in symbols text)

-- the byte between a bank and an offset
abbrev pub comma : ℕ
comma = 0o54

-- the text before the first comma, and the text after it
abbrev pub before_comma : List ℕ → List ℕ
before_comma text = before_first (λ byte. byte == comma) text

abbrev pub after_comma : List ℕ → List ℕ
after_comma text = drop (length (before_comma text) + 1) text

-- a bank 0 to 047 and an offset 0 to 01777, of 1 to 5 octal digits each
abbrev pub bank_in : List ℕ → Option ℕ
bank_in text = passing (λ n. nat_le n 0o47) (number_of 8 5 text)

abbrev pub offset_in : List ℕ → Option ℕ
offset_in text = passing (λ n. nat_le n 0o1777) (number_of 8 5 text)

-- a bank, a comma and an offset
abbrev pub fixed_place_in : List ℕ → Option Linear
fixed_place_in text =
    option_and_then (λ bank. option_map (λ offset. Fixed bank offset) (offset_in (after_comma text))) (bank_in (before_comma text))

-- a place: a number's, else a symbol's, else a bank and an offset
abbrev pub place_in : SymbolTable → List ℕ → Option Linear
place_in symbols text = option_or (numbered_place text) (option_or (symbol_place symbols text) (fixed_place_in text))

-- the number of an erasable place
abbrev pub erasable_number : Linear → Option ℕ
erasable_number (Erasable p) = Some p
erasable_number (Fixed bank offset) = None

-- an erasable place
abbrev pub erasable_in : SymbolTable → List ℕ → Option ℕ
erasable_in symbols text = option_and_then erasable_number (place_in symbols text)

-- a form of command: what it makes of the fields after its name, where they have its form
abbrev pub Form : Type 0
Form = List (List ℕ) → Option Command

-- no field
abbrev pub alone : Command → Form
alone command [] = Some command
alone command (field ∷ more) = None

-- one field, in which something stands
abbrev pub with_one : {X : Type 0} → (List ℕ → Option X) → (X → Command) → Form
with_one read command [] = None
with_one read command (field ∷ []) = option_map command (read field)
with_one read command (field ∷ next ∷ more) = None

-- two things, where both stand
abbrev pub with_both : {X Y : Type 0} → (X → Y → Breakpoint) → Option X → Option Y → Option Command
with_both breakpoint None y = None
with_both breakpoint (Some x) None = None
with_both breakpoint (Some x) (Some y) = Some (Break (breakpoint x y))

-- two fields: `at` and a place
abbrev pub break_at : SymbolTable → List ℕ → List ℕ → Option Command
break_at symbols kind place =
    if same_name kind (codes "at") then option_map (λ p. Break (breakpoint.Place p)) (place_in symbols place) else None

-- three fields: `word`, an erasable place and a word, or `chan`, a channel and a word
abbrev pub break_word : SymbolTable → List ℕ → List ℕ → List ℕ → Option Command
break_word symbols kind watched word =
    if same_name kind (codes "word") then with_both (λ p w. breakpoint.Word p w) (erasable_in symbols watched) (word_in word)
    else (if same_name kind (codes "chan") then with_both (λ c w. breakpoint.Channel c w) (channel_in watched) (word_in word)
    else None)

-- what `break` takes
abbrev pub breaking : SymbolTable → Form
breaking symbols [] = None
breaking symbols (kind ∷ []) = None
breaking symbols (kind ∷ place ∷ []) = break_at symbols kind place
breaking symbols (kind ∷ watched ∷ word ∷ []) = break_word symbols kind watched word
breaking symbols (kind ∷ watched ∷ word ∷ next ∷ more) = None

-- each command by its name, but for `add`
unfoldable pub forms : SymbolTable → List (List ℕ × Form)
forms symbols =
    (codes "step", with_one count_in (λ k. Step k))
    ∷ (codes "run", with_one count_in (λ k. Run k))
    ∷ (codes "back", with_one count_in (λ k. Back k))
    ∷ (codes "goto", with_one count_in (λ t. Goto t))
    ∷ (codes "seek", alone Seek)
    ∷ (codes "break", breaking symbols)
    ∷ (codes "clear", alone Clear)
    ∷ (codes "regs", alone Registers)
    ∷ (codes "mem", with_one (place_in symbols) (λ p. Memory p))
    ∷ (codes "chan", with_one channel_in (λ c. Channel c))
    ∷ (codes "last", with_one (erasable_in symbols) (λ p. Last p))
    ∷ (codes "sym", with_one (λ name. Some (value_in symbols name)) (λ value. Symbol value))
    ∷ (codes "changed", with_one count_in (λ t. Changed t))
    ∷ (codes "tail", alone Tail)
    ∷ (codes "quit", alone Quit)
    ∷ []

-- a command, where there is one
abbrev pub known : Option Command → ParsedLine
known None = Unknown
known (Some command) = Known command

-- the input that `add` is followed by, as a line of a feed
abbrev pub adding : Result (ℕ × Input) LineFault → ParsedLine
adding (Ok timed) = Known (Add timed.0 timed.1)
adding (Err fault.BadLine) = Unknown
adding (Err fault.WrongCounter) = WrongCounter

-- what follows a field, whole
abbrev pub rest_after : Piece → List ℕ → List ℕ
rest_after field line = drop (field.start + length field.text) line

-- what a line asks for whose first field is `add`
abbrev pub added_by : List ℕ → List Piece → ParsedLine
added_by line [] = Nothing
added_by line (name ∷ more) = adding (parsed (rest_after name line))

-- what a line with these fields asks for
abbrev pub parsed_in : SymbolTable → List ℕ → List Piece → ParsedLine
parsed_in symbols line [] = Nothing
parsed_in symbols line (name ∷ more) =
    if same_name name.text (codes "add") then added_by line (name ∷ more)
    else known (option_and_then (λ form. form (texts more)) (value_in (forms symbols) name.text))

-- what a line asks for
unfoldable pub parsed_line : SymbolTable → List ℕ → ParsedLine
parsed_line symbols line = if nat_lt command_length (length line) then TooLong else parsed_in symbols line (fields line)
