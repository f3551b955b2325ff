-- What is wrong with a line of a feed in words, by why one of its fields is refused.
use Rattle.std.specs.Prelude.{ℕ, not, Bool, nat_le, List, [], length, is_some, unwrap_or, codes, if◌then◌else◌}
use Rattle.agc_text.specs.Digits.{digits_value}
use Rattle.feed.specs.Counters.{row_of, takes}
use Rattle.feed.specs.Names.{input_names}
use Rattle.feed.specs.declared.input.Counter.{Counter}
use Rattle.feed.specs.declared.input.Sequence.TheVariants.{Dinc, Minc, Pcdu, Shinc}
use Rattle.feed.specs.declared.slip.Why.{Why}
use Rattle.feed.specs.declared.slip.Why.TheVariants.{Taken, Cycle, First, Factor, MissingFactor, Name, Channel, Word, Request, NotTaken}
use Rattle.feed.specs.declared.slip.Why.TheVariants.{Missing, Surplus}
use Rattle.diagnostics.specs.Causes.{Cause, cured, cured_by, is_beyond_octal, said}
use Rattle.near_names.specs.Names.{is_in_capitals, near_name}
use Rattle.explain.specs.Refusals.{meaning}
use Rattle.near_names.specs.Names.{is_among}

-- decimal digits
abbrev pub is_decimal : List ℕ → Bool
is_decimal text = is_some (digits_value 10 text)

-- ## Why a field is wrong
-- what stands for a cycle
abbrev pub cycle_cause : List ℕ → Cause
cycle_cause text =
    if is_among input_names text then cured (codes "no cycle stands before ~") (codes "a line begins with its cycle, in decimal digits")
    else if is_in_capitals text (codes "EVERY") then cured (codes "~ is no cycle") (codes "did you mean EVERY?")
    else if is_decimal text then said (codes "a cycle has 15 digits at most")
    else said (codes "~ is no cycle, which is 1 to 15 decimal digits")

-- what stands for FIRST of a series
abbrev pub first_cause : List ℕ → Cause
first_cause text = if is_among input_names text then cured (codes "a number is missing before ~")
    (codes "EVERY FIRST NUM DEN COUNT, and an input without its cycle") else cycle_cause text

-- what stands for NUM, DEN or COUNT of a series
abbrev pub factor_cause : List ℕ → Cause
factor_cause text =
    if is_among input_names text then cured (codes "a number is missing before ~")
    (codes "EVERY FIRST NUM DEN COUNT, and an input without its cycle")
    else if not (is_decimal text) then said (codes "~ is no number, which is 1 to 9 decimal digits")
    else if nat_le (length text) 9 then said (codes "NUM, DEN and COUNT are 1 or more")
    else said (codes "NUM, DEN and COUNT have 9 digits at most")

-- what stands for CHAN, RUPT or a counter
abbrev pub name_cause : List ℕ → Cause
name_cause text =
    if is_decimal text then cured (codes "~ stands where CHAN, RUPT or a counter does")
    (codes "one cycle stands before an input, and none before that of a series")
    else if is_some (near_name input_names text) then cured_by (codes "~ is no counter, and neither CHAN nor RUPT")
    (codes "did you mean !?") (unwrap_or (near_name input_names text) [])
    else said (codes "~ is no counter, and neither CHAN nor RUPT")

abbrev pub channel_cause : List ℕ → Cause
channel_cause text =
    if is_beyond_octal text then said (codes "channels are octal, and ~ has a digit 8 or 9")
    else said (codes "~ is no channel of inputs, which are 0 and 3 to 777 in octal")

abbrev pub word_cause : List ℕ → Cause
word_cause text =
    if is_beyond_octal text then said (codes "words are octal, and ~ has a digit 8 or 9")
    else said (codes "~ is no word, which is 0 to 77777 in octal")

-- what a counter takes, in words; `!` stands for its name
abbrev pub taken_words : Counter → List ℕ
taken_words counter =
    if takes counter Pcdu then codes "! takes PCDU and MCDU"
    else if takes counter Shinc then codes "! takes SHINC and SHANC"
    else if takes counter Minc then codes "! takes PINC and MINC"
    else if takes counter Dinc then codes "! takes DINC"
    else codes "! takes PINC"

-- what is no sequence that a counter takes
abbrev pub not_taken : List ℕ → Counter → Cause
not_taken words counter = cured_by words (taken_words counter) (row_of counter).name

-- why a field is refused, in words; `~` stands for the field
abbrev pub slip_cause : Why → List ℕ → Cause
slip_cause Taken text = said (meaning 30)
slip_cause Cycle text = cycle_cause text
slip_cause First text = first_cause text
slip_cause Factor text = factor_cause text
slip_cause MissingFactor text = said (codes "EVERY is followed by FIRST NUM DEN COUNT, and an input without its cycle")
slip_cause Name text = name_cause text
slip_cause Channel text = channel_cause text
slip_cause Word text = word_cause text
slip_cause Request text = said (codes "~ is no interrupt, which are 1 to 10")
slip_cause (Why.Sequence counter) text = not_taken (codes "~ is no sequence") counter
slip_cause (NotTaken counter) text = not_taken (codes "the counter does not take ~") counter
slip_cause Missing text =
    cured (codes "nothing follows ~") (codes "CHAN with a channel and a word, RUPT with a number, or a counter with a sequence")
slip_cause Surplus text = cured (codes "~ follows the whole input") (codes "a comment begins with #")
