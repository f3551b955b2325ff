use Rattle.std.proofs.Common.{◌≡◌, ℕ, ◌+◌, ◌∷◌, ◌++◌, ◌∙◌, List, length, length-append, decimal, ap, arith}
use Rattle.words.specs.Numerals.{octal_text}
use Rattle.words.proofs.Digits.{length-octal_text, short_decimal}
use Rattle.cpu.proofs.channel_lines.channel_line.Goals as goal

-- how long a text is with a byte, or with some octal digits, before it
longer : (b : ℕ) (text new : List ℕ) → new ≡ b ∷ text → length new ≡ length text + 1
longer b text new e = ap length e ∙ omega arith

octal_longer : (k n : ℕ) (text new : List ℕ) → new ≡ octal_text k n ++ text → length new ≡ length text + k
octal_longer k n text new e = ap length e ∙ length-append (octal_text k n) text ∙ omega (arith, length-octal_text k n)

pub prepend-requires-2 : goal.prepend-requires-2
prepend-requires-2 c =
    omega (arith, ap length c.new-line.ensures, longer _ _ _ c.prepend.ensures, octal_longer 5 _ _ _ c.prepend_octal.ensures)

pub prepend_octal-requires-2 : goal.prepend_octal-requires-2
prepend_octal-requires-2 c =
    omega (
      arith,
      ap length c.new-line.ensures,
      longer _ _ _ c.prepend.ensures,
      octal_longer 5 _ _ _ c.prepend_octal.ensures,
      longer _ _ _
          c.prepend-2.ensures,
    )

pub prepend-requires-3 : goal.prepend-requires-3
prepend-requires-3 c =
    omega (
      arith,
      ap length c.new-line.ensures,
      longer _ _ _ c.prepend.ensures,
      octal_longer 5 _ _ _ c.prepend_octal.ensures,
      longer _ _ _
          c.prepend-2.ensures,
      octal_longer 3 _ _ _ c.prepend_octal-2.ensures,
    )

pub prepend-requires-4 : goal.prepend-requires-4
prepend-requires-4 c =
    omega (
      arith,
      ap length c.new-line.ensures,
      longer _ _ _ c.prepend.ensures,
      octal_longer 5 _ _ _ c.prepend_octal.ensures,
      longer _ _ _
          c.prepend-2.ensures,
      octal_longer 3 _ _ _ c.prepend_octal-2.ensures,
      longer _ _ _ c.prepend-3.ensures,
    )

pub prepend-requires-5 : goal.prepend-requires-5
prepend-requires-5 c =
    omega (
      arith,
      ap length c.new-line.ensures,
      longer _ _ _ c.prepend.ensures,
      octal_longer 5 _ _ _ c.prepend_octal.ensures,
      longer _ _ _
          c.prepend-2.ensures,
      octal_longer 3 _ _ _ c.prepend_octal-2.ensures,
      longer _ _ _ c.prepend-3.ensures,
      longer _ _ _
          c.prepend-4.ensures,
    )

pub prepend-requires-6 : goal.prepend-requires-6
prepend-requires-6 c =
    omega (
      arith,
      ap length c.new-line.ensures,
      longer _ _ _ c.prepend.ensures,
      octal_longer 5 _ _ _ c.prepend_octal.ensures,
      longer _ _ _
          c.prepend-2.ensures,
      octal_longer 3 _ _ _ c.prepend_octal-2.ensures,
      longer _ _ _ c.prepend-3.ensures,
      longer _ _ _
          c.prepend-4.ensures,
      longer _ _ _ c.prepend-5.ensures,
    )

pub prepend_decimal-requires : goal.prepend_decimal-requires
prepend_decimal-requires c =
    omega (
      arith,
      ap length c.new-line.ensures,
      longer _ _ _ c.prepend.ensures,
      octal_longer 5 _ _ _ c.prepend_octal.ensures,
      longer _ _ _
          c.prepend-2.ensures,
      octal_longer 3 _ _ _ c.prepend_octal-2.ensures,
      longer _ _ _ c.prepend-3.ensures,
      longer _ _ _
          c.prepend-4.ensures,
      longer _ _ _ c.prepend-5.ensures,
      longer _ _ _ c.prepend-6.ensures,
      short_decimal c.args.output.now.cycles
          (omega arith),
    )

pub returns-clause-short : goal.returns-clause-short
returns-clause-short c =
    let whole = ap length c.prepend_decimal.ensures ∙ length-append (decimal c.args.output.now.cycles) c.prepend-6.new.self in
    omega (
      arith,
      whole,
      ap length c.new-line.ensures,
      longer _ _ _ c.prepend.ensures,
      octal_longer 5 _ _ _ c.prepend_octal.ensures,
      longer
          _ _ _ c.prepend-2.ensures,
      octal_longer 3 _ _ _ c.prepend_octal-2.ensures,
      longer _ _ _ c.prepend-3.ensures,
      longer _ _ _
          c.prepend-4.ensures,
      longer _ _ _ c.prepend-5.ensures,
      longer _ _ _ c.prepend-6.ensures,
      short_decimal c.args.output.now.cycles
          (omega arith),
    )
