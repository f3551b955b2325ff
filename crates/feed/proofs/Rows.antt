-- Small feeds, read by the definitions alone.
use Rattle.std.proofs.Common.{◌≡◌, ℕ, zero, suc, List, [], ◌∷◌, ◌++◌, map, Some, Ok, Err, refl, rules}
use Rattle.std.specs.Prelude.{codes}
use Rattle.agc_text.specs.Fields.{runs}
use Rattle.agc_text.specs.Lines.{lines}
use Rattle.agc_text.specs.Tables.{value_in}
use Rattle.feed.specs.Added.{plain_on}
use Rattle.feed.specs.Counters.{row_of}
use Rattle.feed.specs.Feed.{inputs, first_fault, plain_from, series_from}
use Rattle.feed.specs.Merged.{merged, in_order, inserted, is_before, entries_from, entries_of}
use Rattle.feed.specs.Names.{counters, sequences}
use Rattle.feed.specs.Statements.{statement_of}
use Rattle.feed.specs.declared.fault.FeedFault.TheVariants.{BadLine, OutOfOrder, WrongCounter, TooManySeries}
use Rattle.feed.specs.declared.input.Counter.{Counter}
use Rattle.feed.specs.declared.input.Counter.TheVariants.{Time1, Time3, PipaX}
use Rattle.feed.specs.declared.input.Input.{Input}
use Rattle.feed.specs.declared.input.Input.TheVariants.{Count, Word, Interrupt}
use Rattle.feed.specs.declared.input.Sequence.TheVariants.{Pinc, Minc}
use Rattle.feed.specs.declared.entry.Entry.{Entry}

-- each counter is found by its name
found_by_name : (counter : Counter) → value_in counters (row_of counter).name ≡ Some counter
unfolding counters
found_by_name counter = search rules

-- some lines, each ended
abbrev feed : List (List ℕ) → List ℕ
feed [] = []
feed (line ∷ rest) = line ++ 10 ∷ feed rest

-- the plain input on a line
abbrev at : ℕ → ℕ → Input → Entry
at line cycle input = plain_on line cycle input

out_of_order : inputs (feed (codes "5 TIME1 PINC" ∷ codes "4 RUPT 1" ∷ [])) ≡ Err (OutOfOrder 2)
unfolding inputs first_fault plain_from series_from merged in_order inserted is_before entries_from statement_of runs lines counters
    sequences
out_of_order = refl

wrong_counter : inputs (feed (codes "0 TIME6 PINC" ∷ [])) ≡ Err (WrongCounter 1)
unfolding inputs first_fault plain_from series_from merged in_order inserted is_before entries_from statement_of runs lines counters
    sequences
wrong_counter = refl

no_input_channel : inputs (feed (codes "0 CHAN 1 5" ∷ [])) ≡ Err (BadLine 1)
unfolding inputs first_fault plain_from series_from merged in_order inserted is_before entries_from statement_of runs lines counters
    sequences
no_input_channel = refl

each_form : inputs (feed (codes "# a feed" ∷ codes " 0 CHAN 015 00021" ∷ [] ∷ codes "4 TIME1 PINC # twice" ∷ codes "4 PIPAX MINC"
    ∷ codes "7 RUPT 01" ∷ []))
    ≡ Ok (at 2 0 (Word 0o15 0o21) ∷ at 4 4 (Count Time1 Pinc) ∷ at 5 4 (Count PipaX Minc) ∷ at 6 7 (Interrupt 1) ∷ [])
unfolding inputs first_fault plain_from series_from merged in_order inserted is_before entries_from statement_of runs lines counters
    sequences
each_form = refl

no_sequence : inputs (codes "0 TIME6 PULSE") ≡ Err (BadLine 1)
unfolding inputs first_fault plain_from series_from merged in_order inserted is_before entries_from statement_of runs lines counters
    sequences
no_sequence = refl

no_counter : inputs (codes "0 TIME7 PINC") ≡ Err (BadLine 1)
unfolding inputs first_fault plain_from series_from merged in_order inserted is_before entries_from statement_of runs lines counters
    sequences
no_counter = refl

no_digits : inputs (codes "X TIME6 PINC") ≡ Err (BadLine 1)
unfolding inputs first_fault plain_from series_from merged in_order inserted is_before entries_from statement_of runs lines counters
    sequences
no_digits = refl

three_digits : inputs (codes "0 RUPT 001") ≡ Err (BadLine 1)
unfolding inputs first_fault plain_from series_from merged in_order inserted is_before entries_from statement_of runs lines counters
    sequences
three_digits = refl

bad_byte_in_comment : inputs (codes "#" ++ 0o177 ∷ []) ≡ Err (BadLine 1)
unfolding inputs first_fault plain_from series_from merged in_order inserted is_before entries_from statement_of runs lines counters
    sequences
bad_byte_in_comment = refl

no_lines : inputs [] ≡ Ok []
unfolding inputs first_fault plain_from series_from merged in_order inserted is_before entries_from statement_of runs lines counters
    sequences
no_lines = refl

-- entry `number` of the first series
abbrev entry : ℕ → ℕ → ℕ → Input → Entry
entry line number cycle input = record { cycle = cycle; line = line; number = number; input = input; series = Some 0 }

-- a line, so many times
abbrev times : ℕ → List ℕ → List (List ℕ)
times zero line = []
times (suc n) line = line ∷ times n line

-- entries stand at whole cycles, without a drift
thirds : inputs (feed (codes "EVERY 0 2560 3 4 TIME3 PINC" ∷ []))
    ≡ Ok (entry 1 0 0 (Count Time3 Pinc) ∷ entry 1 1 853 (Count Time3 Pinc) ∷ entry 1 2 1706 (Count Time3 Pinc)
    ∷ entry 1 3 2560 (Count Time3 Pinc) ∷ [])
unfolding inputs first_fault plain_from series_from merged in_order inserted is_before entries_from entries_of statement_of runs lines
    counters sequences
thirds = refl

-- on one cycle the input of the earlier line stands first
between : inputs (feed (codes "EVERY 3 5 2 4 TIME1 PINC" ∷ codes "5 CHAN 015 00021" ∷ []))
    ≡ Ok (entry 1 0 3 (Count Time1 Pinc) ∷ entry 1 1 5 (Count Time1 Pinc) ∷ at 2 5 (Word 0o15 0o21) ∷ entry 1 2 8 (Count Time1 Pinc)
    ∷ entry 1 3 10 (Count Time1 Pinc) ∷ [])
unfolding inputs first_fault plain_from series_from merged in_order inserted is_before entries_from entries_of statement_of runs lines
    counters sequences
between = refl

-- a series stands on any line, whatever its cycles
anywhere : inputs (feed (codes "5 RUPT 1" ∷ codes "EVERY 0 1 1 1 TIME3 PINC" ∷ codes "5 RUPT 2" ∷ []))
    ≡ Ok (entry 2 0 0 (Count Time3 Pinc) ∷ at 1 5 (Interrupt 1) ∷ at 3 5 (Interrupt 2) ∷ [])
unfolding inputs first_fault plain_from series_from merged in_order inserted is_before entries_from entries_of statement_of runs lines
    counters sequences
anywhere = refl

-- one series more than may stand
seventeen : map (λ n. inputs (feed (times n (codes "EVERY 0 1 1 1 TIME3 PINC")))) (17 ∷ 18 ∷ [])
    ≡ Err (TooManySeries 17) ∷ Err (TooManySeries 17) ∷ []
unfolding inputs first_fault plain_from series_from merged in_order inserted is_before entries_from entries_of statement_of runs lines
    counters sequences
seventeen = refl

-- what is wrong with a line by itself is told first
seventeenth_bad : inputs (feed (times 16 (codes "EVERY 0 1 1 1 TIME3 PINC") ++ codes "EVERY 0 1 0 1 TIME3 PINC" ∷ [])) ≡ Err (BadLine 17)
unfolding inputs first_fault plain_from series_from merged in_order inserted is_before entries_from entries_of statement_of runs lines
    counters sequences
seventeenth_bad = refl

seventeenth_counter : inputs (feed (times 16 (codes "EVERY 0 1 1 1 TIME3 PINC") ++ codes "EVERY 0 1 1 1 TIME3 MCDU" ∷ []))
    ≡ Err (WrongCounter 17)
unfolding inputs first_fault plain_from series_from merged in_order inserted is_before entries_from entries_of statement_of runs lines
    counters sequences
seventeenth_counter = refl

late_counter : inputs (feed (codes "5 TIME1 PINC" ∷ codes "4 TIME6 PINC" ∷ [])) ≡ Err (WrongCounter 2)
unfolding inputs first_fault plain_from series_from merged in_order inserted is_before entries_from entries_of statement_of runs lines
    counters sequences
late_counter = refl

-- lines that tell no series
abbrev no_rules : List (List ℕ)
no_rules =
    codes "EVERY" ∷ codes "EVERY 0 1 1 1" ∷ codes "EVERY 0 1 1 TIME3 PINC" ∷ codes "EVERY 0 1 1 1 0 TIME3 PINC"
    ∷ codes "EVERY 0 0 1 1 TIME3 PINC" ∷ codes "EVERY 0 1 0 1 TIME3 PINC" ∷ codes "EVERY 0 1 1 0 TIME3 PINC"
    ∷ codes "EVERY 1000000000000000 1 1 1 TIME3 PINC" ∷ codes "EVERY 0 1000000000 1 1 TIME3 PINC"
    ∷ codes "EVERY 0 1 1000000000 1 TIME3 PINC" ∷ codes "EVERY 0 1 1 1000000000 TIME3 PINC"
    ∷ codes "EVERY X 1 1 1 TIME3 PINC" ∷ codes "EVERY 0 1 1 1 TIME7 PINC" ∷ codes "every 0 1 1 1 TIME3 PINC" ∷ []

no_rule : map inputs no_rules ≡ map (λ line. Err (BadLine 1)) no_rules
unfolding inputs first_fault plain_from series_from merged in_order inserted is_before entries_from entries_of statement_of runs lines
    counters sequences
no_rule = refl
