-- What each command of an extended session takes, and what it does.
use Rattle.std.specs.Prelude.{ℕ, ◌≤◌, nat_le, ◌&&◌, Bool, List, [], ◌∷◌, ◌++◌, codes, length, map}
use Rattle.std.specs.Borrow.{Bor}
use Rattle.std.specs.List.{flat_map}

-- what a command takes, and what it does
pub record Usage : Type 0 where
  pub takes : List ℕ
  pub does : List ℕ

abbrev pub usage : List ℕ → List ℕ → Usage
usage takes does = record { takes = takes; does = does }

-- each command by its name
unfoldable pub usages : List (List ℕ × Usage)
usages =
    (codes "step", usage (codes "a number of steps") (codes "so many steps on from the position"))
    ∷ (codes "run", usage (codes "a number of steps") (codes "so many new steps, up to a breakpoint"))
    ∷ (codes "on", usage (codes "a number of steps, or nothing") (codes "on, up to a breakpoint"))
    ∷ (codes "until", usage (codes "a number of cycles") (codes "to the first step with so many cycles"))
    ∷ (codes "over", usage (codes "a number of steps, or nothing") (codes "past the TC at Z, or one step on"))
    ∷ (codes "out", usage (codes "a number of steps, or nothing") (codes "out of the routine or interrupt"))
    ∷ (codes "back", usage (codes "a number of steps") (codes "so many steps back"))
    ∷ (codes "goto", usage (codes "a step") (codes "to the step"))
    ∷ (codes "seek", usage (codes "nothing") (codes "back to a breakpoint"))
    ∷ (codes "break", usage (codes "at|exec|change PLACE, word PLACE W, chan C W [M]") (codes "a breakpoint"))
    ∷ (codes "breaks", usage (codes "nothing") (codes "the breakpoints"))
    ∷ (codes "clear", usage (codes "a breakpoint's number, or nothing") (codes "takes it away, or all"))
    ∷ (codes "regs", usage (codes "all, or nothing") (codes "all registers, or most and the next instruction"))
    ∷ (codes "mem", usage (codes "a place, or a place and a count") (codes "the word there, or so many"))
    ∷ (codes "chan", usage (codes "a channel") (codes "the word there"))
    ∷ (codes "chans", usage (codes "nothing") (codes "the channels whose words are not zero"))
    ∷ (codes "last", usage (codes "an erasable place") (codes "the step that changed the word there last"))
    ∷ (codes "why", usage (codes "[step|PLACE [k|control|inputs|interrupts|since]]") (codes "what made it so"))
    ∷ (codes "never", usage (codes "a place") (codes "the last choice that led away from there"))
    ∷ (codes "trace", usage (codes "a number of steps") (codes "the last so many steps, a line each"))
    ∷ (codes "say", usage (codes "a number of steps") (codes "the last so many steps, each in a sentence"))
    ∷ (codes "where", usage (codes "nothing") (codes "the next instruction's place, and the interrupt"))
    ∷ (codes "calls", usage (codes "nothing") (codes "the calls that are in progress, innermost first"))
    ∷ (codes "list", usage (codes "a place, or a place and a count") (codes "rows of the listing from there"))
    ∷ (codes "value", usage (codes "a place, or a place and a count") (codes "octal, decimal, fraction, bits"))
    ∷ (codes "sym", usage (codes "a name") (codes "the symbol's value"))
    ∷ (codes "find", usage (codes "the beginning of a name") (codes "the symbols whose names begin so"))
    ∷ (codes "changed", usage (codes "a step") (codes "the erasable places that differ since then"))
    ∷ (codes "differs", usage (codes "a step") (codes "the words that differ from those at the step"))
    ∷ (codes "survey", usage (codes "FROM TO, 1 to 4096 buckets, at most 8 places") (codes "a run by buckets"))
    ∷ (codes "whatif", usage (codes "RESTART|[notes] INPUT, [k [from A to B]]") (codes "what it would change"))
    ∷ (codes "tail", usage (codes "nothing, or [a count] steps") (codes "the last channel lines [and steps]"))
    ∷ (codes "quiet", usage (codes "on, or off") (codes "counts the outputs of new steps, or tells them"))
    ∷ (codes "add", usage (codes "a line of a feed") (codes "one input more"))
    ∷ (codes "inputs", usage (codes "nothing") (codes "the inputs that were added, as lines of a feed"))
    ∷ (codes "echo", usage (codes "any text") (codes "the text"))
    ∷ (codes "help", usage (codes "a command, or nothing") (codes "what it takes and does, or what each does"))
    ∷ (codes "quit", usage (codes "nothing") (codes "the end"))
    ∷ []

-- a table of texts, without where they lie in memory
abbrev pub usages_of : List (Bor (List ℕ) × Bor (List ℕ) × Bor (List ℕ)) → List (List ℕ × Usage)
usages_of table = map (λ row. (row.0.now, usage row.1.now row.2.now)) table

-- the line of a command in the help
abbrev pub help_line : List ℕ × Usage → List ℕ
help_line row = codes "HELP " ++ row.0 ++ codes " takes " ++ row.1.takes ++ codes ": " ++ row.1.does ++ codes "\n"

abbrev pub help_row : Bor (List ℕ) × Bor (List ℕ) × Bor (List ℕ) → List ℕ
help_row row = help_line (row.0.now, usage row.1.now row.2.now)

-- the lines of all
abbrev pub help_lines : List (List ℕ × Usage) → List ℕ
help_lines rows = flat_map help_line rows

-- its texts are short
abbrev pub IsShort : Usage → Type 0
IsShort usage = (length usage.takes ≤ 48) × (length usage.does ≤ 48)

-- so are those of a row
abbrev pub is_short_row : Bor (List ℕ) × Bor (List ℕ) × Bor (List ℕ) → Bool
is_short_row row = nat_le (length row.1.now) 48 && nat_le (length row.2.now) 48
