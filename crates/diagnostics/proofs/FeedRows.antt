-- What is said of faults of feeds, and of files of another kind, by the definitions alone.
use Rattle.std.proofs.Common.{◌≡◌, ℕ, List, [], ◌∷◌, ◌++◌, refl, map}
use Rattle.std.specs.Fmt.{digits}
use Rattle.std.specs.Prelude.{codes, ◌==◌, slice_get, if◌then◌else◌}
use Rattle.agc_text.specs.Fields.{fields, runs, texts}
use Rattle.agc_text.specs.Lines.{lines}
use Rattle.json_text.specs.declared.notation.Notation.TheVariants.{Text}
use Rattle.feed.specs.Feed.{first_fault, inputs, plain_from, series_from}
use Rattle.feed.specs.Names.{counters, sequences}
use Rattle.feed.specs.Slips.{line_slip}
use Rattle.feed.specs.Statements.{parsed, statement_of}
use Rattle.feed.specs.declared.slip.Slip.{Slip}
use Rattle.yayul.specs.Operators.{operators, operator_rows}
use Rattle.diagnostics.specs.Causes.{Cause}
use Rattle.warnings.specs.Fields.{text_of as bytes_of}
use Rattle.diagnostics.specs.FeedCauses.{slip_cause}
use Rattle.diagnostics.specs.FeedReport.{feed_report, line_of_input, wrong_at}
use Rattle.diagnostics.specs.Kinds.{kind_of_feed, kind_of_source}

-- a text of lines, each but the last followed by a semicolon here
abbrev text_of : List ℕ → List ℕ
text_of text = map (λ byte. if byte == 0o73 then 0o12 else byte) text

-- which field of a line is wrong, why, and its cure
abbrev told : List ℕ → ℕ × List ℕ × List ℕ
told line =
    let s : Slip = line_slip (texts (fields line)) in
    let c : Cause = slip_cause s.why (bytes_of (slice_get (fields line) s.field)) in
    (s.field, c.words, c.cure)

-- lines that are no input and no series, or whose counter does not take the sequence
abbrev slips : List (List ℕ × (ℕ × List ℕ × List ℕ))
slips =
    (codes "CHAN 15 21", (0, codes "no cycle stands before ~", codes "a line begins with its cycle, in decimal digits"))
    ∷ (codes "-1 TIME1 PINC", (0, codes "~ is no cycle, which is 1 to 15 decimal digits", []))
    ∷ (codes "1000000000000000 TIME1 PINC", (0, codes "a cycle has 15 digits at most", []))
    ∷ (codes "5, CHAN 15 21", (0, codes "~ is no cycle, which is 1 to 15 decimal digits", []))
    ∷ (codes "every 0 853 1 5 TIME1 PINC", (0, codes "~ is no cycle", codes "did you mean EVERY?"))
    ∷ (codes "5 KEYRUPT1", (1, codes "~ is no counter, and neither CHAN nor RUPT", []))
    ∷ (codes "5 time1 pinc", (1, codes "~ is no counter, and neither CHAN nor RUPT", codes "did you mean !?"))
    ∷ (codes "5", (0, codes "nothing follows ~", codes "CHAN with a channel and a word, RUPT with a number, or a counter with a sequence"))
    ∷ (
      codes "5 TIME1",
      (
        1,
        codes "nothing follows ~",
        codes "CHAN with a channel and a word, RUPT with a number, or a counter with a sequence",
      ),
    )
    ∷ (codes "5 TIME1 PINC 1", (3, codes "~ follows the whole input", codes "a comment begins with #"))
    ∷ (codes "5 TIME1 PNC", (2, codes "~ is no sequence", codes "! takes PINC"))
    ∷ (codes "0 CHAN 1 5", (2, codes "~ is no channel of inputs, which are 0 and 3 to 777 in octal", []))
    ∷ (codes "0 CHAN 1000 5", (2, codes "~ is no channel of inputs, which are 0 and 3 to 777 in octal", []))
    ∷ (codes "5 CHAN 18 0", (2, codes "channels are octal, and ~ has a digit 8 or 9", []))
    ∷ (codes "5 CHAN 15 9", (3, codes "words are octal, and ~ has a digit 8 or 9", []))
    ∷ (codes "5 CHAN 15 100000", (3, codes "~ is no word, which is 0 to 77777 in octal", []))
    ∷ (codes "5 CHAN 15 21 3", (4, codes "~ follows the whole input", codes "a comment begins with #"))
    ∷ (codes "0 RUPT 11", (2, codes "~ is no interrupt, which are 1 to 10", []))
    ∷ (
      codes "EVERY 0 853 5 TIME1 PINC",
      (
        4,
        codes "a number is missing before ~",
        codes "EVERY FIRST NUM DEN COUNT, and an input without its cycle",
      ),
    )
    ∷ (codes "EVERY 0 0 1 5 TIME1 PINC", (2, codes "NUM, DEN and COUNT are 1 or more", []))
    ∷ (codes "EVERY 0 1000000000 1 5 TIME1 PINC", (2, codes "NUM, DEN and COUNT have 9 digits at most", []))
    ∷ (
      codes "EVERY 0 853 1 5 0 TIME1 PINC",
      (
        5,
        codes "~ stands where CHAN, RUPT or a counter does",
        codes "one cycle stands before an input, and none before that of a series",
      ),
    )
    ∷ (
      codes "EVERY 0 853 1 5 CHAN 15",
      (
        6,
        codes "nothing follows ~",
        codes "CHAN with a channel and a word, RUPT with a number, or a counter with a sequence",
      ),
    )
    ∷ (codes "0 TIME6 PINC", (2, codes "the counter does not take ~", codes "! takes DINC"))
    ∷ []

each_told : map {B = ℕ × List ℕ × List ℕ} (λ r. told r.0) slips ≡ map {B = ℕ × List ℕ × List ℕ} (λ r. r.1) slips
unfolding runs counters sequences
each_told = refl

-- feeds with what is told of them
abbrev reports : List (List ℕ × List ℕ)
reports =
    (codes "5 TIME1 PINC;5 RUPT 1", [])
    ∷ (
      codes "# keys;9 TIME1 PINC;4 RUPT 1;3 RUPT 1",
      (codes "f:3:1: error E31: the cycle is below that of the input before it, on line 2;    3 | 4 RUPT 1;      | ^;      = inputs "
          ++ codes "stand in the order of their cycles, and EVERY anywhere;"),
    )
    ∷ (
      codes " 0 CDUX PINC # one",
      (codes "f:1:9: error E33: the counter does not take PINC;    1 |  0 CDUX PINC # one;      |         ^^^^;      = CDUX takes PCDU "
          ++ codes "and MCDU;"),
    )
    ∷ (
      codes "START CA FIVE",
      (codes "f:1:1: error E30: START is no cycle, which is 1 to 15 decimal digits;    1 | START CA FIVE;      | ^^^^^;f: this is a "
          ++ codes "source, and no feed: it stands first;"),
    )
    ∷ []

each_reported : map {B = List ℕ} (λ r. feed_report Text (codes "f") (text_of r.0)) reports ≡ map {B = List ℕ} (λ r. text_of r.1) reports
unfolding feed_report kind_of_feed wrong_at inputs first_fault plain_from series_from statement_of parsed counters sequences runs lines
    digits operators operator_rows
each_reported = refl

-- an input, or the beginning of a series, makes a feed of a file; lines without a field do not count
not_sources : map {B = List ℕ} (λ t. kind_of_source Text (codes "s") (text_of t))
    (codes "# keys;;5 TIME1 PINC" ∷ codes "EVERY 5 0" ∷ codes " OCT 1;5 TIME1 PINC" ∷ [])
    ≡ codes "s: this is a feed, and no source: it stands after the source\n"
    ∷ codes "s: this is a feed, and no source: it stands after the source\n" ∷ [] ∷ []
unfolding kind_of_source parsed counters sequences runs lines
not_sources = refl

-- the third line with an input
third : line_of_input 2 1 (codes "5 TIME1 PINC" ∷ codes "" ∷ codes "EVERY 0 853 1 5 TIME1 PINC" ∷ codes "5 RUPT 1" ∷ codes "5 RUPT 2"
    ∷ codes "5 RUPT 3" ∷ []) ≡ 5
unfolding parsed counters sequences runs
third = refl
