-- What is said of faults on single lines, by the definitions alone.
use Rattle.std.proofs.Common.{◌≡◌, ℕ, List, [], ◌∷◌, ◌++◌, true, Option, None, is_some, refl, map, unwrap_or}
use Rattle.std.specs.Fmt.{digits}
use Rattle.std.specs.Prelude.{codes}
use Rattle.agc_text.specs.Fields.{runs}
use Rattle.yayul.specs.Operators.{operators, operator_rows}
use Rattle.yayul.specs.declared.faults.FaultKind.{FaultKind}
use Rattle.yayul.specs.declared.faults.FaultKind.TheVariants.{BadBank, BadLabel, BadOperand, NeedsExtend, NotExtracode, OutOfRange}
use Rattle.yayul.specs.declared.faults.FaultKind.TheVariants.{Undefined, UnknownOperator, WrongKindOfAddress}
use Rattle.yayul.specs.declared.finding.Finding.{Finding}
use Rattle.yayul.specs.Readings.{parts_for}
use Rattle.yayul.specs.declared.language.Language.TheVariants.{Standard}
use Rattle.diagnostics.specs.Causes.{Cause, cause_of_kind, fault_cause, filled, near_label, without_colon}

-- a fault of a kind, where it begins
abbrev fault : FaultKind → ℕ → Finding
fault kind start = record { line = 1; kind = kind; span = record { start = start; width = 1 }; taken_by = None }

-- the labels of the sources
abbrev labels : List (List ℕ)
labels = codes "FIVE" ∷ codes "SIX" ∷ codes "LOOP" ∷ codes "DONE:" ∷ []

-- what is wrong and how it is mended, of a line, a kind and the place of the first byte
abbrev told : List ℕ × FaultKind × ℕ → List ℕ × List ℕ
told r =
    let near : Option (List ℕ) = near_label labels (parts_for Standard r.0) r.1 in
    let c : Cause = fault_cause (is_some near) r.0 (parts_for Standard r.0) (fault r.1 r.2) in
    let d : Cause = without_colon (unwrap_or near []) (parts_for Standard r.0) c in (
      filled (parts_for Standard r.0) d.other (unwrap_or near []) d.words,
      filled (parts_for Standard r.0) d.other (unwrap_or near [])
          d.cure,
    )

abbrev lines_with_causes : List ((List ℕ × FaultKind × ℕ) × (List ℕ × List ℕ))
lines_with_causes =
    ((codes " CA FIV", Undefined, 4), (codes "no line defines FIV", codes "did you mean FIVE?"))
    ∷ ((codes " AD SXI", Undefined, 4), (codes "no line defines SXI", codes "did you mean SIX?"))
    ∷ ((codes " TC loop", Undefined, 4), (codes "no line defines loop", codes "did you mean LOOP?"))
    ∷ (
      (codes " TC ELSE", Undefined, 4),
      (
        codes "no line defines ELSE",
        codes "ELSE in the first column of the line to which TC is to lead",
      ),
    )
    ∷ (
      (codes " TS SUM", Undefined, 4),
      (
        codes "no line defines SUM",
        codes "SUM ERASE, among lines after SETLOC 100, reserves a word of this name",
      ),
    )
    ∷ (
      (codes " CCS COUNT", Undefined, 5),
      (
        codes "no line defines COUNT",
        codes "COUNT ERASE, among lines after SETLOC 100, reserves a word of this name",
      ),
    )
    ∷ (
      (codes " AD TEN", Undefined, 4),
      (
        codes "no line defines TEN",
        codes "of a number: TEN DEC 5, behind the last jump, and of a word that changes: TEN ERASE, after SETLOC 100",
      ),
    )
    ∷ ((codes " WRITE OUT", Undefined, 7), (codes "no line defines OUT", codes "OUT EQUALS and an octal number give a channel this name"))
    ∷ ((codes " CADR THERE", Undefined, 6), (codes "no line defines THERE", []))
    ∷ ((codes " TC DONE", Undefined, 4), (codes "no line defines DONE", codes "DONE: is one name, its colon too; a label has no colon"))
    ∷ ((codes " TC LOOP:", Undefined, 4), (codes "no line defines LOOP:", codes "did you mean LOOP?"))
    ∷ ((codes " TC DON:", Undefined, 4), (codes "no line defines DON:", codes "did you mean DONE:?"))
    ∷ ((codes " TC ELSE:", Undefined, 4), (codes "no line defines ELSE:", codes "ELSE: is one name, its colon too; a label has no colon"))
    ∷ (
      (codes " CA A", Undefined, 4),
      (
        codes "no line defines A",
        codes "no register has a name beforehand; this line gives it one: A EQUALS 0",
      ),
    )
    ∷ (
      (codes " CA TAB,1", Undefined, 4),
      (
        codes "no line defines TAB,1",
        codes "TAB,1 is one name; INDEX on the line before adds to an address",
      ),
    )
    ∷ ((codes " CA =5", Undefined, 4), (codes "no line defines =5", codes "a constant has a line of its own, whose label is the operand"))
    ∷ ((codes " CA TAB+1", Undefined, 4), (codes "no line defines TAB+1", codes "TAB+1 is one name; a blank stands before an offset"))
    ∷ ((codes " TFC LOOP", UnknownOperator, 1), (codes "TFC is no operator", codes "did you mean TCF?"))
    ∷ ((codes " ca LOOP", UnknownOperator, 1), (codes "ca is no operator", codes "did you mean CA?"))
    ∷ ((codes " LDA LOOP", UnknownOperator, 1), (codes "LDA is no operator of this assembler", codes "CA loads A"))
    ∷ ((codes " XYZZY LOOP", UnknownOperator, 1), (codes "XYZZY is no operator", []))
    ∷ (
      (codes "CA FIVE", UnknownOperator, 3),
      (
        codes "CA stands in the first column, so it is a label, and FIVE is taken for the operator",
        codes "put a blank before CA",
      ),
    )
    ∷ (
      (codes " START CA FIVE", UnknownOperator, 1),
      (codes "START is no operator", codes "a label begins in the first column: no blank before START"),
    )
    ∷ ((codes " ; adds", UnknownOperator, 1), (codes "; is no operator", codes "a comment begins with #"))
    ∷ ((codes "LONGLABEL CA 0", BadLabel, 0), (codes "LONGLABEL has more than 8 characters, the most of a label", []))
    ∷ (
      (codes " EQUALS 5", BadLabel, 1),
      (
        codes "EQUALS gives a name its value, and no name stands in the first column",
        codes "NAME EQUALS 5",
      ),
    )
    ∷ ((codes "X BANK 5", BadLabel, 0), (codes "BANK takes no label", codes "put X on the next line"))
    ∷ ((codes " OCT 9", BadOperand, 5), (codes "OCT takes octal digits, 0 to 7, and 9 is no such number", codes "DEC takes decimal digits"))
    ∷ ((codes " DEC 10, 20, 30", BadOperand, 5), (codes "DEC takes one number, and nothing after it", codes "a line for each number"))
    ∷ ((codes " DEC 10,20", BadOperand, 5), (codes "DEC takes one number, and nothing after it", codes "a line for each number"))
    ∷ ((codes " OCT 5 6", BadOperand, 5), (codes "OCT takes one number, and nothing after it", codes "a line for each number"))
    ∷ ((codes " DEC 5 is it", BadOperand, 5), (codes "DEC takes one number, and nothing after it", codes "a comment begins with #"))
    ∷ ((codes " OCT -1", BadOperand, 5), (codes "OCT takes no sign", codes "DEC takes one; a minus complements the word"))
    ∷ ((codes " BANK 18", BadOperand, 6), (codes "banks are octal, and 18 has a digit 8 or 9", codes "BANK 18D takes it as decimal"))
    ∷ ((codes " BANK 36D", BadOperand, 6), (codes "BANK takes a bank's number, and 36D is none", []))
    ∷ ((codes " BANK 29", BadOperand, 6), (codes "banks are octal, and 29 has a digit 8 or 9", codes "BANK 29D takes it as decimal"))
    ∷ ((codes " BANK 38", BadOperand, 6), (codes "banks are octal, and 38 has a digit 8 or 9", []))
    ∷ ((codes " BLOCK 8", BadOperand, 7), (codes "banks are octal, and 8 has a digit 8 or 9", []))
    ∷ (
      (codes " CA FIVE // it", BadOperand, 4),
      (
        codes "the operand does not end where a comment was meant to begin",
        codes "a comment begins with #",
      ),
    )
    ∷ ((codes " RETURN X", BadOperand, 8), (codes "RETURN takes no operand", codes "a comment begins with #"))
    ∷ ((codes " CA", BadOperand, 1), (codes "CA needs an operand", []))
    ∷ ((codes " CA 18", BadOperand, 4), (codes "numbers are octal, and 18 has a digit 8 or 9", codes "18D is decimal"))
    ∷ (
      (codes " CA FIVE + 1", BadOperand, 4),
      (
        codes "after FIVE only an offset may stand, a sign and an octal number",
        codes "no blank stands between both",
      ),
    )
    ∷ ((codes " CA FIVE +1 +1", BadOperand, 4), (codes "after the operand only one offset may stand", codes "a comment begins with #"))
    ∷ (
      (codes " CA FIVE +", BadOperand, 4),
      (
        codes "after FIVE only an offset may stand, a sign and an octal number",
        codes "NAME +1; a comment begins with #",
      ),
    )
    ∷ ((codes " BLOCK 5", BadBank, 7), (codes "BLOCK takes 2 and 3, and 5 is neither", codes "BANK 5"))
    ∷ ((codes " BLOCK 44", BadBank, 7), (codes "BLOCK takes 2 and 3, and 44 is neither", []))
    ∷ ((codes "12D SETLOC 4000", BadLabel, 0), (codes "SETLOC takes no label", []))
    ∷ ((codes " DEC .99999", OutOfRange, 5), (codes "a fraction of a word comes to less than 1 in 14 bits, and .99999 does not", []))
    ∷ ((codes " DEC -16384", OutOfRange, 5), (codes "a word holds -16383 to 16383, and -16384 is beyond", []))
    ∷ (
      (codes " MP FIVE", NeedsExtend, 1),
      (
        codes "MP is an extracode, and EXTEND does not stand before it",
        codes "EXTEND on the line before, behind a blank",
      ),
    )
    ∷ ((codes " CA FIVE", NotExtracode, 1), (codes "EXTEND stands before CA, which is no extracode", codes "take EXTEND out"))
    ∷ (
      (codes " TS FIVE", WrongKindOfAddress, 4),
      (
        codes "TS writes to erasable memory, and FIVE is not there",
        codes "reserve the word there: SETLOC and a place below 4000, and ERASE",
      ),
    )
    ∷ (
      (codes " SU FIVE", WrongKindOfAddress, 4),
      (
        codes "SU takes a word of erasable memory, and FIVE is not there",
        codes "CS FIVE and AD subtract a constant: X less FIVE is CS FIVE, AD X, without EXTEND",
      ),
    )
    ∷ (
      (codes " CCS FIVE", WrongKindOfAddress, 5),
      (codes "CCS takes a word of erasable memory, and FIVE is not there", codes "copy the word to erasable memory first"),
    )
    ∷ ((codes " WRITE FIVE", WrongKindOfAddress, 7), (codes "WRITE takes a channel, 0 to 777, and FIVE is none", []))
    ∷ ((codes " DEC 1.5", OutOfRange, 5), (codes "a fraction of a word comes to less than 1 in 14 bits, and 1.5 does not", []))
    ∷ ((codes " OCT 100000", OutOfRange, 5), (codes "a word holds 77777 at most, and 100000 is more", []))
    ∷ []

each_told : map {B = List ℕ × List ℕ} (λ r. told r.0) lines_with_causes ≡ map {B = List ℕ × List ℕ} (λ r. r.1) lines_with_causes
unfolding cause_of_kind runs operators digits operator_rows
each_told = refl
