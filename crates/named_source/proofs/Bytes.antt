-- The bytes of instructions and places as text.
use Rattle.std.proofs.Common.{◌≡◌, ◌<◌, ◌≤◌, ◌+◌, ℕ, List, ◌++◌, length, Bool, true, false, cond, refl, arith, ◌∙◌, length-append}
use Rattle.std.specs.Prelude.{codes}
use Rattle.std.specs.List.{list_all}
use Rattle.std.proofs.lemmas.List.Folds.{list_all-append}
use Rattle.std.proofs.lemmas.Bool.Decides.{nat_tests}
use Rattle.words.specs.Numerals.{octal_text}
use Rattle.words.proofs.Digits.{length-octal_text}
use Rattle.agc_text.specs.Bytes.{is_text_byte}
use Rattle.cpu.specs.Codes.{Code, code_of, row_of}
use Rattle.cpu.specs.Texts.{address_text, channel_text, operand_text, operand_width, instruction_text, disassembly}
use Rattle.yayul.proofs.Octals.{octal_all}

-- two texts one after the other
pub text_append : (xs ys : List ℕ) → list_all is_text_byte xs ≡ true → list_all is_text_byte ys ≡ true
    → list_all is_text_byte (xs ++ ys) ≡ true
text_append xs ys all others = list_all-append is_text_byte xs ys ∙ rw (all, others) refl

digit_is_text : (d : ℕ) → d < 8 → is_text_byte (48 + d) ≡ true
digit_is_text d lt = grind (arith, nat_tests)

pub octal_is_text : (k n : ℕ) → list_all is_text_byte (octal_text k n) ≡ true
octal_is_text k n = octal_all is_text_byte digit_is_text k n

address_is_text : (k : ℕ) → list_all is_text_byte (address_text k) ≡ true
address_is_text k = text_append (codes " ") (octal_text 4 k) refl (octal_is_text 4 k)

channel_is_text : (k : ℕ) → list_all is_text_byte (channel_text k) ≡ true
channel_is_text k = text_append (codes " ") (octal_text 3 k) refl (octal_is_text 3 k)

zero_if : (b : Bool) → cond b 0 1 ≤ 0 → b ≡ true
zero_if true le = refl
zero_if false le = absurd (omega (arith, le))

name_is_text : (code : Code) → list_all is_text_byte (row_of code.instruction).name ≡ true
name_is_text code = zero_if (list_all is_text_byte (row_of code.instruction).name) (search (arith))

operand_is_text : (code : Code) → list_all is_text_byte (operand_text (row_of code.instruction).operand code.operand) ≡ true
operand_is_text code = zero_if (list_all is_text_byte (operand_text (row_of code.instruction).operand code.operand))
    (search (arith, address_is_text, channel_is_text))

operand_wide : (code : Code) → length (operand_text (row_of code.instruction).operand code.operand)
    ≡ operand_width (row_of code.instruction).operand
operand_wide code = search (arith, length-octal_text)

few_bytes : (code : Code) → length (row_of code.instruction).name + operand_width (row_of code.instruction).operand ≤ 10
few_bytes code = search (arith)

pub instruction_is_text : (extracode : Bool) (word : ℕ) → list_all is_text_byte (disassembly extracode word) ≡ true
unfolding instruction_text
instruction_is_text extracode word =
    let code = code_of extracode word in
    text_append (row_of code.instruction).name (operand_text (row_of code.instruction).operand code.operand) (name_is_text code)
    (operand_is_text code)

pub instruction_is_short : (extracode : Bool) (word : ℕ) → length (disassembly extracode word) ≤ 10
unfolding instruction_text
instruction_is_short extracode word =
    let code = code_of extracode word in
    let long = length-append (row_of code.instruction).name (operand_text (row_of code.instruction).operand code.operand) in
    omega (arith, long, operand_wide code, few_bytes code)
