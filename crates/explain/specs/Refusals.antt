-- What the numbers of refusals mean.
use Rattle.std.specs.Prelude.{ℕ, ◌==◌, Bool, List, [], ◌∷◌, ◌++◌, codes, decimal, flat_map, if◌then◌else◌}
use Rattle.std.specs.List.{list_any}

-- the numbers
abbrev pub numbers : List ℕ
numbers = 2 ∷ 3 ∷ 4 ∷ 5 ∷ 6 ∷ 7 ∷ 10 ∷ 11 ∷ 12 ∷ 13 ∷ 14 ∷ 15 ∷ 16 ∷ 17 ∷ 18 ∷ 19 ∷ 20 ∷ 21 ∷ 22 ∷ 23 ∷ 24 ∷ 25 ∷ 26 ∷ 30 ∷ 31 ∷ 32 ∷ 33
    ∷ 34 ∷ 35 ∷ 36 ∷ 40 ∷ 41 ∷ 42 ∷ 50 ∷ 51 ∷ 52 ∷ []

abbrev pub is_told : ℕ → Bool
is_told number = list_any (λ n. n == number) numbers

-- what a number means, in a line
abbrev pub meaning : ℕ → List ℕ
meaning number =
    if number == 2 then codes "memory was refused"
    else if number == 3 then codes "the image ends before its 73,728 bytes"
    else if number == 4 then codes "bytes stand after the 73,728 of the image"
    else if number == 5 then
    codes "the lowest bit of two bytes of the image is wrong: in version 1 it is 1, in version 2 they have an even number of one bits"
    else if number == 6 then codes "a file could not be opened or read"
    else if number == 7 then codes "a file could not be made, or a write failed"
    else if number == 10 then codes "a byte stands here that a line may not hold"
    else if number == 11 then codes "the line has more than 120 bytes"
    else if number == 12 then codes "the source has more than 65536 lines"
    else if number == 13 then codes "the label has no label's form, or is missing, or is not taken"
    else if number == 14 then codes "an earlier line has this label"
    else if number == 15 then codes "this is no operator"
    else if number == 16 then codes "the operand is missing, or not taken, or has no operand's form"
    else if number == 17 then codes "no line defines this symbol"
    else if number == 18 then codes "no earlier line defines this symbol"
    else if number == 19 then codes "there is no such bank for this operator"
    else if number == 20 then codes "this stands past the end of its bank, or of erasable memory"
    else if number == 21 then codes "a word stands at this place already"
    else if number == 22 then codes "words stand in fixed memory, and the location is in erasable memory"
    else if number == 23 then codes "this is an extracode, and EXTEND does not stand before it"
    else if number == 24 then codes "this is no extracode, and EXTEND stands before it"
    else if number == 25 then codes "the operator takes another kind of place, or a channel"
    else if number == 26 then codes "the number is out of its range, or leads out of its bank"
    else if number == 30 then codes "a line of the feed is no input and no series"
    else if number == 31 then codes "the cycle of an input is below that of the input before it"
    else if number == 32 then codes "the feed has more than 65,536 inputs besides its series"
    else if number == 33 then codes "the counter does not take the sequence"
    else if number == 34 then codes "a source, a feed or a table of names has more than 8,388,608 bytes"
    else if number == 35 then codes "the feed has more than 16 series"
    else if number == 36 then codes "a line of the table of names is no name with its place"
    else if number == 40 then codes "a session makes no more steps than 1,099,511,627,774"
    else if number == 41 then codes "the session has not made this step yet"
    else if number == 42 then codes "the cycle of the input has passed already"
    else if number == 50 then codes "the line is no command of the session"
    else if number == 51 then codes "the command has more than 80 bytes"
    else if number == 52 then codes "16 breakpoints stand, and there are no more"
    else []

-- a number, and what it means
abbrev pub heading : ℕ → List ℕ
heading number = codes "E" ++ decimal number ++ codes ": " ++ meaning number ++ codes "\n"

-- the numbers of warnings
abbrev pub warning_numbers : List ℕ
warning_numbers = 1 ∷ 2 ∷ 3 ∷ 4 ∷ 5 ∷ 6 ∷ 7 ∷ 8 ∷ 9 ∷ 10 ∷ 11 ∷ 12 ∷ 13 ∷ 14 ∷ 15 ∷ 16 ∷ 17 ∷ []

abbrev pub is_warned : ℕ → Bool
is_warned number = list_any (λ n. n == number) warning_numbers

-- what the number of a warning means, in a line
abbrev pub warning_meaning : ℕ → List ℕ
warning_meaning number =
    if number == 1 then codes "an operator's name stands as a label"
    else if number == 2 then codes "a number is read as a register or a counter"
    else if number == 3 then codes "two words are taken of a name for one"
    else if number == 4 then codes "the program runs on to a constant, or where no word stands"
    else if number == 5 then codes "a vector's words run on into the next vector"
    else if number == 6 then codes "a switched erasable bank is reached, and no line sets EB"
    else if number == 7 then codes "a register's name stands for another place"
    else if number == 8 then codes "no operand names a label"
    else if number == 9 then codes "a switched bank of fixed memory is reached, and no line sets FB"
    else if number == 10 then codes "a word is written on a channel that is a register, and does not go out"
    else if number == 11 then codes "a constant or an address stands where a run starts"
    else if number == 12 then codes "an interrupt's routine changes A, L or Q and has not kept it"
    else if number == 13 then codes "an interrupt's routine stands, and no line is RESUME"
    else if number == 14 then codes "the program runs on over the vectors, while RELINT stands"
    else if number == 15 then codes "a word is reserved where an earlier line reserves one"
    else if number == 16 then codes "nothing leads to an instruction behind a jump"
    else if number == 17 then codes "a word of a flight source is not certain"
    else []

-- the number of a warning, and what it means
abbrev pub warning_heading : ℕ → List ℕ
warning_heading number = codes "W" ++ decimal number ++ codes ": " ++ warning_meaning number ++ codes "\n"

-- what each kind of `run --notes` means, in a line
abbrev pub note_meanings : List (List ℕ × List ℕ)
note_meanings =
    (codes "QUOTIENT", codes "the quotient of DV does not fit")
    ∷ (codes "SKIP", codes "TS has found overflow in A, and has left out the next instruction")
    ∷ (codes "NOWORD", codes "a word is executed in fixed memory where none stands")
    ∷ (codes "ERASABLE", codes "a word is executed in erasable memory")
    ∷ (codes "NOHANDLER", codes "an interrupt is entered where no word stands")
    ∷ (codes "OTHERBANK", codes "an erasable symbol is reached in another bank than its own")
    ∷ (codes "FIXEDBANK", codes "a symbol of a switched fixed bank is reached in another bank than its own")
    ∷ (codes "INSIDE", codes "the run ends within an interrupt")
    ∷ (codes "WAITING", codes "an interrupt is asked for, and is not entered for 853 cycles or more")
    ∷ (codes "NOTKEPT", codes "a handler ends, and a register is not what it was at its entry")
    ∷ (codes "MINUSZERO", codes "CCS has found -0, and has taken its fourth way")
    ∷ (codes "UNREAD", codes "an input comes on a channel that no instruction has read")
    ∷ (codes "OVERWRITTEN", codes "an input comes on a channel before the one before it was read")
    ∷ (codes "SHARED", codes "the program itself comes by a handler, or goes on into one")
    ∷ []

-- a kind, and what it means
abbrev pub note_heading : List ℕ × List ℕ → List ℕ
note_heading row = row.0 ++ codes ": " ++ row.1 ++ codes "\n"

-- what is listed of the kinds
abbrev pub note_headings : List ℕ
note_headings = flat_map note_heading note_meanings
