-- In which forms the sums of the banks are what a program wants of them.
use Rattle.std.specs.Prelude.{ℕ, ◌/◌, ◌%◌, ◌==◌, ◌||◌, ◌&&◌, not, nat_lt, Bool, true, false, List, [], ◌++◌, codes}
use Rattle.std.specs.List.{range_with_len, flat_map}
use Rattle.words.specs.Numerals.{octal_text}
use Rattle.rope.specs.Places.{banks, bank_words, fixed_places, Words, word_at}
use Rattle.rope.specs.declared.spelling.Version.{Version}
use Rattle.audit.specs.declared.orders.Order.{Order}
use Rattle.audit.specs.declared.orders.Order.TheVariants.{Written, Exchanged, Hardware, ExchangedHardware}
use Rattle.audit.specs.declared.form_names.Complements.{Complements}
use Rattle.audit.specs.BankFacts.{all_before, count_before}
use Rattle.audit.specs.FormSums.{form_sum, form_word, holds_sum, is_by_number}
use Rattle.audit.specs.Sums.{sum_before}
use Rattle.audit.specs.WordOrders.{by_extends, extend, no_extend}

-- ## Complements
-- the word that the bytes of a place are in an order
abbrev pub form_word_at : Order → Version → Words → ℕ → ℕ → ℕ
form_word_at order version words bank offset = form_word order version (word_at words bank offset)

-- how many words of fixed memory are this one in an order
abbrev pub form_words_of : Order → Version → Words → ℕ → ℕ
form_words_of order version words word =
    count_before (λ n. form_word_at order version words (n / bank_words) (n % bank_words) == word) fixed_places

-- all words of a bank are this one
abbrev pub form_is_all : Order → Version → Words → ℕ → ℕ → Bool
form_is_all order version words word bank = all_before (λ offset. form_word_at order version words bank offset == word) bank_words

-- some bank is 77777 throughout, and none 00000, as empty banks are
abbrev pub form_has_full_bank : Order → Version → Words → Bool
form_has_full_bank order version words =
    nat_lt 0 (count_before (form_is_all order version words 0o77777) banks)
    && count_before (form_is_all order version words 0) banks == 0

-- the words are complemented in an order: by what EXTEND is, and else by the empty banks
abbrev pub form_is_complemented : Order → Version → Words → Bool
form_is_complemented order version words =
    by_extends (form_words_of order version words extend) (form_words_of order version words no_extend)
    (form_has_full_bank order version words)

-- in which orders they are
abbrev pub complements_of : Version → Words → Complements
complements_of version words = record {
  written = form_is_complemented Written version words;
  hardware = form_is_complemented Hardware version words;
  swapped = form_is_complemented Exchanged version words;
  both = form_is_complemented ExchangedHardware version words;
}

-- ## Names
-- the name of a form as --form takes it, by the order, whether each bit is the other one, and whether the banks stand by their numbers
abbrev pub form_name : Order → Bool → Bool → List ℕ
form_name Written false false = codes " written"
form_name Written false true = codes " numbered"
form_name Written true false = codes " complemented"
form_name Written true true = codes " complemented,numbered"
form_name Hardware false false = codes " hardware"
form_name Hardware false true = codes " hardware,numbered"
form_name Hardware true false = codes " hardware,complemented"
form_name Hardware true true = codes " hardware,complemented,numbered"
form_name Exchanged false false = codes " swapped"
form_name Exchanged false true = codes " swapped,numbered"
form_name Exchanged true false = codes " swapped,complemented"
form_name Exchanged true true = codes " swapped,complemented,numbered"
form_name ExchangedHardware false false = codes " hardware,swapped"
form_name ExchangedHardware false true = codes " hardware,swapped,numbered"
form_name ExchangedHardware true false = codes " hardware,swapped,complemented"
form_name ExchangedHardware true true = codes " hardware,swapped,complemented,numbered"

-- a name, or nothing
abbrev pub name_if : Bool → List ℕ → List ℕ
name_if true name = name
name_if false name = []

-- the names of the forms of an order in which a sum holds: with the banks as they stand, and by their numbers
abbrev pub names_in : Order → ℕ → ℕ → Bool → List ℕ
names_in order bank total complemented =
    name_if (holds_sum bank total) (form_name order complemented false)
    ++ name_if (is_by_number bank total) (form_name order complemented true)

-- whether it holds in one
abbrev pub holds_so : ℕ → ℕ → Bool
holds_so bank total = holds_sum bank total || is_by_number bank total

-- the names of the forms in which the sums of a bank hold, or that there is none
abbrev pub names_of : ℕ → ℕ → ℕ → ℕ → ℕ → Complements → List ℕ
names_of bank written hardware swapped both complements =
    names_in Written bank written complements.written ++ names_in Hardware bank hardware complements.hardware
    ++ names_in Exchanged bank swapped complements.swapped ++ names_in ExchangedHardware bank both complements.both
    ++ name_if (not (holds_so bank written || (holds_so bank hardware || (holds_so bank swapped || holds_so bank both)))) (codes " -")

-- ## Lines
-- the line of the sums of a bank
abbrev pub line_of_sums : ℕ → ℕ → ℕ → ℕ → ℕ → Complements → List ℕ
line_of_sums bank written hardware swapped both complements =
    octal_text 2 bank ++ codes " " ++ octal_text 5 written ++ codes " " ++ octal_text 5 hardware
    ++ names_of bank written hardware swapped both complements ++ codes "\n"

-- the line of a bank: its number, the sum of its words as they stand and in the order of the hardware, and in which forms the sum holds
unfoldable pub form_line : Version → Words → Complements → ℕ → List ℕ
form_line version words complements bank =
    line_of_sums bank (sum_before words bank bank_words) (form_sum Hardware version words bank) (form_sum Exchanged version words bank)
    (form_sum ExchangedHardware version words bank) complements

-- the lines of all banks by their numbers
abbrev pub form_lines : Version → Words → List ℕ
form_lines version words = flat_map (form_line version words (complements_of version words)) (range_with_len 0 banks)
