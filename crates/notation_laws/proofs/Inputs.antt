-- An input after its cycle, as a line of a feed.
use Rattle.std.proofs.Common.{◌≡◌, ◌<◌, ◌≤◌, ◌^◌, nat_le, ℕ, List, ◌∷◌, ◌++◌, length, true, refl, arith, ◌∙◌, ap}
use Rattle.std.proofs.Common.{length-append}
use Rattle.std.specs.Prelude.{codes, decimal}
use Rattle.std.proofs.lemmas.Fmt.{length-decimal-le}
use Rattle.std.proofs.lemmas.Bool.Decides.{nat_tests}
use Rattle.agc_text.specs.Digits.{is_digit}
use Rattle.feed.specs.Given.{CanBeGivenAt}
use Rattle.feed.specs.Statements.{parsed, statement_in, statement_of, timed_in}
use Rattle.feed.specs.declared.input.Input.{Input}
use Rattle.trace.specs.TraceLines.{input_text}
use Rattle.debugger.proofs.InputsRead.{AreFields, are_fields, decimal_all, decimal_field, input_fields, is_decimal, is_joined, joined}
use Rattle.debugger.proofs.InputsRead.{joined_open, no_every, short_input_text, told_as}
use Rattle.notation_laws.specs.Named.{IsField}
use Rattle.notation_laws.specs.ReadBack.{InputReadsBack}
use Rattle.notation_laws.proofs.Digits.{cycle_back}
use Rattle.notation_laws.proofs.Fields.{bytes_open, line_joined}

-- ## What a line of fields says
opens_line : (w : List ℕ) (ws : List (List ℕ)) → IsField w → AreFields ws → length (joined w ws) ≤ 120
    → (statement_of (joined w ws) ≡ statement_in (w ∷ ws)) × (parsed (joined w ws) ≡ timed_in (w ∷ ws))
unfolding statement_of parsed
opens_line w ws f fs short =
    let few : nat_le (length (joined w ws)) 120 ≡ true = grind (arith, nat_tests, short) in
    let bytes = bytes_open (joined w ws) (joined_open w ws f fs) in
    rw (few, bytes, line_joined w ws f fs) (refl, refl)

-- ## What an input after its cycle is read as
pub input_reads_back : (cycle : ℕ) (input : Input) → CanBeGivenAt cycle input → InputReadsBack cycle input
input_reads_back cycle input given =
    let small : cycle < 2 ^ 64 = omega (arith, given.0) in
    let few : length (decimal cycle) ≤ 15 = length-decimal-le 15 cycle (omega arith) given.0 small in
    let joins = is_joined cycle input in
    let short = short_input_text input given.1 in
    let long : length (joined (decimal cycle) (input_fields input)) ≤ 120 =
    (let same = ap length joins in omega (
      arith,
      same,
      few,
      short,
      length-append (decimal cycle ++ codes " ") (input_text input),
      length-append (decimal cycle) (codes " "),
    )) in
    let says = opens_line (decimal cycle) (input_fields input) (decimal_field cycle small) (are_fields input given.1) long in
    let none = no_every (decimal cycle) (decimal_all (is_digit 10) is_decimal cycle small) in
    record {
      fed = ap statement_of joins ∙ says.0 ∙ rw (none, cycle_back cycle given.0, told_as input given.1) refl;
      added = ap parsed joins ∙ says.1 ∙ rw (cycle_back cycle given.0, told_as input given.1) refl;
    }
