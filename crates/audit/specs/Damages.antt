-- What is damaged in the banks of an image, and its text.
use Rattle.std.specs.Prelude.{ℕ, ◌+◌, ◌*◌, ◌/◌, ◌%◌, ◌==◌, ◌&&◌, ◌||◌, not, Bool, true, false, nat_lt, List, [], ◌++◌, codes, decimal}
use Rattle.std.specs.Prelude.{if◌then◌else◌}
use Rattle.std.specs.List.{range_with_len, flat_map}
use Rattle.words.specs.Numbers.{neg}
use Rattle.words.specs.Numerals.{octal_text}
use Rattle.rope.specs.Places.{banks, bank_words}
use Rattle.rope.specs.Dumps.{word_of}
use Rattle.audit.specs.declared.damages.Finding.{Finding}
use Rattle.audit.specs.declared.damages.Finding.TheVariants.{Sound, Uniform, DeadBit, WrongSum, CopyOf, SumOf, ExchangedWith, ParityBits}
use Rattle.audit.specs.declared.damages.Finding.TheVariants.{LostBits, WrongWords}
use Rattle.audit.specs.BankFacts.{all_before, count_before, is_turned, is_wrong, wrong_words, with_bit_turned, mended_sum, mends}
use Rattle.audit.specs.BankFacts.{is_uniform, is_blank, is_copy, is_always, is_lost, dead_bit, has_loops}
use Rattle.audit.specs.Differences.{count_line}
use Rattle.audit.specs.FormSums.{holds_sum}
use Rattle.audit.specs.Orders.{arrangement_of}
use Rattle.audit.specs.declared.orders.Arrangement.{Arrangement}
use Rattle.audit.specs.declared.orders.Order.{Order}
use Rattle.audit.specs.declared.orders.Order.TheVariants.{Written, Exchanged, Hardware, ExchangedHardware}
use Rattle.audit.specs.WordLines.{place_text}

-- ## Findings
-- the bank of which a sum is: its number, or the complement of it; none is 044
abbrev pub bank_of_sum : ℕ → ℕ
bank_of_sum total = if nat_lt total banks then total else (if nat_lt (neg total) banks then neg total else banks)

-- what the sum of another bank tells of a bank that has its own sum
abbrev pub by_its_sum : ℕ → ℕ → ℕ → Finding
by_its_sum bank other total = if holds_sum bank total then ExchangedWith other else
    (if holds_sum other total then WrongSum else SumOf other)

-- what a sum tells that is not the bank's own: it is that of a bank, or of none
abbrev pub by_other : List ℕ → Bool → ℕ → ℕ → Finding
by_other image turned bank other =
    if other == banks then WrongSum
    else (if is_copy image bank other then CopyOf other else by_its_sum bank other (mended_sum image turned other 0))

-- what a sum tells of a bank in which no parity is wrong
abbrev pub by_sum : List ℕ → Bool → ℕ → ℕ → Finding
by_sum image turned bank total = if holds_sum bank total then Sound else by_other image turned bank (bank_of_sum total)

-- what wrong parities tell, two or more of them
abbrev pub by_parities : List ℕ → Bool → ℕ → Finding
by_parities image turned bank =
    if mends image turned bank 0 then ParityBits
    else (if count_before (λ n. is_lost image turned bank (n + 1)) 15 == 0 then WrongWords else LostBits)

-- what so many words of wrong parity tell of a bank
abbrev pub by_count : List ℕ → Bool → ℕ → ℕ → Finding
by_count image turned bank wrongs =
    if wrongs == 0 then by_sum image turned bank (mended_sum image turned bank 0)
    else (if wrongs == 1 || is_blank image turned bank then WrongWords else by_parities image turned bank)

-- a bank in which all words are the same
abbrev pub of_uniform : List ℕ → Bool → ℕ → Finding
of_uniform image turned bank = if word_of image bank 0 == 0 && wrong_words image turned bank == 0 then Sound else Uniform

-- what is told of a bank
abbrev pub finding_of : List ℕ → Bool → ℕ → Finding
finding_of image turned bank =
    if is_uniform image bank then of_uniform image turned bank
    else (if dead_bit image bank == 0 then by_count image turned bank (wrong_words image turned bank) else DeadBit)

-- whether it is told of
abbrev pub is_damaged : Finding → Bool
is_damaged Sound = false
is_damaged _ = true

-- ## Texts
-- a bank's name
unfoldable pub bank_name : ℕ → List ℕ
bank_name bank = codes "BANK " ++ octal_text 2 bank

-- how many of a bank's words have a wrong parity, where some have
unfoldable pub of_wrong_parity : Bool → ℕ → List ℕ
of_wrong_parity true wrongs = codes ", " ++ decimal wrongs ++ codes " OF WRONG PARITY\n"
of_wrong_parity false wrongs = codes "\n"

-- all words of a bank are one
abbrev pub uniform_line : List ℕ → Bool → ℕ → List ℕ
uniform_line image turned bank = bank_name bank ++ codes " ALL " ++ octal_text 5 (word_of image bank 0)
    ++ of_wrong_parity (nat_lt 0 (wrong_words image turned bank)) (wrong_words image turned bank)

-- what a bit of the offset is by the words, if they are those where it is 0, or those where it is 1: nothing by neither or both
abbrev pub dead_text : Bool → Bool → List ℕ
dead_text true false = codes " ALWAYS 0"
dead_text false true = codes " ALWAYS 1"
dead_text true true = codes " MAKES NO DIFFERENCE"
dead_text false false = codes " MAKES NO DIFFERENCE"

-- the words of a bank are those of the places where a bit of the offset has a value, and not two words read as one: all parities are right
abbrev pub is_half : List ℕ → Bool → ℕ → ℕ → ℕ → Bool
is_half image turned bank bit value = wrong_words image turned bank == 0 && has_loops image bank bit value

-- a bit of the offset leads to the same words
abbrev pub dead_line : List ℕ → Bool → ℕ → ℕ → List ℕ
dead_line image turned bank bit =
    bank_name bank ++ codes " ADDRESS BIT " ++ decimal bit ++ dead_text (is_half image turned bank bit 0) (is_half image turned bank bit 1)
    ++ of_wrong_parity (nat_lt 0 (wrong_words image turned bank)) (wrong_words image turned bank)

-- a sum is wrong
abbrev pub wrong_sum_line : ℕ → ℕ → List ℕ
wrong_sum_line bank total = bank_name bank ++ codes " SUM " ++ octal_text 5 total ++ codes "\n"

-- a bank has the words of another
abbrev pub copy_line : ℕ → ℕ → List ℕ
copy_line bank other = bank_name bank ++ codes " HAS THE WORDS OF " ++ bank_name other ++ codes "\n"

-- a bank has the sum of another, which has another sum
abbrev pub sum_of_line : ℕ → ℕ → List ℕ
sum_of_line bank other = bank_name bank ++ codes " HAS THE SUM OF " ++ bank_name other ++ codes "\n"

-- and that one has its sum
abbrev pub exchanged_line : ℕ → ℕ → List ℕ
exchanged_line bank other = bank_name bank ++ codes " EXCHANGED WITH " ++ bank_name other ++ codes "\n"

-- the words are right by their sum, and parity bits are wrong
abbrev pub parity_bits_line : ℕ → ℕ → List ℕ
parity_bits_line bank wrongs = bank_name bank ++ codes " RIGHT BY THE SUM, " ++ decimal wrongs ++ codes " PARITY BITS WRONG\n"

-- what a bit is in all words
abbrev pub always_text : Bool → List ℕ
always_text true = codes " ALWAYS 0"
always_text false = codes " ALWAYS 1"

-- in how many words the sum wants the other bit, where it does
unfoldable pub of_sum : Bool → ℕ → List ℕ
of_sum true wrongs = codes ", WRONG IN " ++ decimal wrongs ++ codes " WORDS BY THE SUM\n"
of_sum false wrongs = codes "\n"

-- a bit that is the same in all words, and in how many the sum wants the other one
abbrev pub lost_line : List ℕ → Bool → ℕ → ℕ → List ℕ
lost_line image turned bank bit =
    bank_name bank ++ codes " BIT " ++ decimal bit ++ always_text (is_always image bank bit 0)
    ++ of_sum (mends image turned bank bit) (wrong_words image turned bank)

-- bit n + 1, where it is lost
unfoldable pub lost_text : List ℕ → Bool → ℕ → ℕ → List ℕ
lost_text image turned bank n = if is_lost image turned bank (n + 1) then lost_line image turned bank (n + 1) else []

-- the bits of a bank that are lost, by rising numbers
abbrev pub lost_lines : List ℕ → Bool → ℕ → List ℕ
lost_lines image turned bank = flat_map (lost_text image turned bank) (range_with_len 0 15)

-- what leads to the first word that may have been, and to each other
abbrev pub leading_text : Bool → List ℕ
leading_text true = codes " IS "
leading_text false = codes " OR "

-- a word with a bit turned, after so many others
abbrev pub candidate : ℕ → ℕ → ℕ → List ℕ
candidate word bit before = leading_text (before == 0) ++ octal_text 5 (with_bit_turned word bit)

-- the same, where that makes the sum of its bank right
unfoldable pub candidate_text : List ℕ → Bool → ℕ → ℕ → ℕ → List ℕ
candidate_text image turned bank word bit =
    if mends image turned bank bit then candidate word bit (count_before (mends image turned bank) bit) else []

-- the words that a bank's one word of wrong parity may have been, by the bit that is turned
abbrev pub candidates : List ℕ → Bool → ℕ → ℕ → List ℕ
candidates image turned bank word = flat_map (candidate_text image turned bank word) (range_with_len 0 16)

-- whether the sum tells what they may have been
abbrev pub is_told_by_sum : List ℕ → Bool → ℕ → Bool
is_told_by_sum image turned bank =
    wrong_words image turned bank == 1 && not (is_blank image turned bank) && not (count_before (mends image turned bank) 16 == 0)

-- what is told of a word of wrong parity
abbrev pub verdict : List ℕ → Bool → ℕ → ℕ → List ℕ
verdict image turned bank word =
    if is_told_by_sum image turned bank then candidates image turned bank word ++ codes " BY THE SUM\n" else codes " HAS WRONG PARITY\n"

-- the place of a word, and the word
abbrev pub wrong_head : List ℕ → ℕ → ℕ → List ℕ
wrong_head image bank offset = place_text bank offset ++ codes " " ++ octal_text 5 (word_of image bank offset)

-- the line of a word of wrong parity
unfoldable pub wrong_text : List ℕ → Bool → ℕ → ℕ → List ℕ
wrong_text image turned bank offset =
    if is_wrong image turned bank offset then wrong_head image bank offset ++ verdict image turned bank (word_of image bank offset) else []

-- those of a bank
unfoldable pub wrong_lines : List ℕ → Bool → ℕ → List ℕ
wrong_lines image turned bank = flat_map (wrong_text image turned bank) (range_with_len 0 bank_words)

-- the text of a finding
abbrev pub finding_text : List ℕ → Bool → ℕ → Finding → List ℕ
finding_text image turned bank Sound = []
finding_text image turned bank Uniform = uniform_line image turned bank
finding_text image turned bank DeadBit = dead_line image turned bank (dead_bit image bank)
finding_text image turned bank WrongSum = wrong_sum_line bank (mended_sum image turned bank 0)
finding_text image turned bank (CopyOf other) = copy_line bank other
finding_text image turned bank (SumOf other) = sum_of_line bank other
finding_text image turned bank (ExchangedWith other) = exchanged_line bank other
finding_text image turned bank ParityBits = parity_bits_line bank (wrong_words image turned bank)
finding_text image turned bank LostBits = lost_lines image turned bank
finding_text image turned bank WrongWords = wrong_lines image turned bank

-- the text of a bank
unfoldable pub bank_text : List ℕ → Bool → ℕ → List ℕ
bank_text image turned bank = finding_text image turned bank (finding_of image turned bank)

-- ## Modules
-- how many banks a module has, and how many modules there are
abbrev pub module_banks : ℕ
module_banks = 6

abbrev pub modules : ℕ
modules = 6

-- the first bank of a module
abbrev pub first_bank : ℕ → ℕ
first_bank nth = module_banks * nth

-- all words of a bank are this one, though it is not empty
abbrev pub is_lost_bank : List ℕ → Bool → ℕ → ℕ → Bool
is_lost_bank image turned word bank =
    is_uniform image bank && (word_of image bank 0 == word && is_damaged (of_uniform image turned bank))

-- all words of a module are one, though none of its banks is empty
abbrev pub is_lost_module : List ℕ → Bool → ℕ → Bool
is_lost_module image turned nth =
    all_before (λ n. is_lost_bank image turned (word_of image (first_bank nth) 0) (first_bank nth + n)) module_banks

-- how many words of a module have a wrong parity
abbrev pub wrong_in_module : List ℕ → Bool → ℕ → ℕ
wrong_in_module image turned nth =
    count_before (λ n. is_wrong image turned (first_bank nth + n / bank_words) (n % bank_words)) (module_banks * bank_words)

-- the line of a module whose words are all one
abbrev pub module_line : List ℕ → Bool → ℕ → List ℕ
module_line image turned nth =
    codes "BANKS " ++ octal_text 2 (first_bank nth) ++ codes " TO " ++ octal_text 2 (first_bank nth + 5)
    ++ codes " ALL " ++ octal_text 5 (word_of image (first_bank nth) 0)
    ++ of_wrong_parity (nat_lt 0 (wrong_in_module image turned nth)) (wrong_in_module image turned nth)

-- the texts of its banks
abbrev pub bank_in_module : List ℕ → Bool → ℕ → ℕ → List ℕ
bank_in_module image turned nth n = bank_text image turned (first_bank nth + n)

abbrev pub bank_texts : List ℕ → Bool → ℕ → List ℕ
bank_texts image turned nth = flat_map (bank_in_module image turned nth) (range_with_len 0 module_banks)

-- the text of a module
unfoldable pub module_text : List ℕ → Bool → ℕ → List ℕ
module_text image turned nth =
    if is_lost_module image turned nth then module_line image turned nth else bank_texts image turned nth

-- ## All
-- that all parities are the other way round
abbrev pub turned_text : Bool → List ℕ
turned_text true = codes "PARITY THE OTHER WAY ROUND\n"
turned_text false = []

-- how many banks are told of, and the parity where it is the other way round
abbrev pub findings : List ℕ → Bool → ℕ
findings image turned = count_before (λ bank. is_damaged (finding_of image turned bank)) banks + (if turned then 1 else 0)

-- what is damaged, module by module
abbrev pub report : List ℕ → Bool → List ℕ
report image turned = turned_text turned ++ flat_map (module_text image turned) (range_with_len 0 modules)

-- how an image stands otherwise than as written: the order of its bits and bytes
abbrev pub order_line : Order → List ℕ
order_line Written = []
order_line Exchanged = codes "BYTES EXCHANGED\n"
order_line Hardware = codes "BITS IN THE ORDER OF THE HARDWARE\n"
order_line ExchangedHardware = codes "BYTES EXCHANGED, BITS IN THE ORDER OF THE HARDWARE\n"

abbrev pub in_order : Order → ℕ
in_order Written = 0
in_order Exchanged = 1
in_order Hardware = 1
in_order ExchangedHardware = 1

-- what each bit is, and where the banks stand
abbrev pub complemented_line : Bool → List ℕ
complemented_line true = codes "ALL BITS COMPLEMENTED\n"
complemented_line false = []

abbrev pub numbered_line : Bool → List ℕ
numbered_line true = codes "BANKS BY THEIR NUMBERS\n"
numbered_line false = []

abbrev pub arrangement_text : Arrangement → List ℕ
arrangement_text a = order_line a.order ++ complemented_line a.is_complemented ++ numbered_line a.is_numbered

-- of how many ways the text tells
abbrev pub ways_of : Arrangement → ℕ
ways_of a = in_order a.order + (if a.is_complemented then 1 else 0) + (if a.is_numbered then 1 else 0)

-- what is told of an image that stands so: where it stands otherwise than as written that alone
abbrev pub report_in : Arrangement → List ℕ → List ℕ
report_in a image = if ways_of a == 0 then report image (is_turned image) else arrangement_text a

-- of how many
abbrev pub count_in : Arrangement → List ℕ → ℕ
count_in a image = if ways_of a == 0 then findings image (is_turned image) else ways_of a

abbrev pub count_of : List ℕ → ℕ
count_of image = count_in (arrangement_of image) image

-- what is told of an image, and then of how many
abbrev pub damages : List ℕ → List ℕ
damages image = report_in (arrangement_of image) image ++ count_line (count_of image)
