-- The words that stand for requests, while some wait.
use Rattle.std.proofs.Common.{◌≡◌, ℕ, ◌+◌, Bool, true, false, ◌||◌, List, [], ◌∷◌, length, map, replicate, Option, Some, None, is_some}
use Rattle.std.proofs.Common.{Result, Ok, Err, cond, refl, ap, ◌∙◌}
use Rattle.std.specs.List.{list_any}
use Rattle.std.specs.Result.{result_unwrap_or}
use Rattle.rope.specs.Places.{Words, no_words, stands}
use Rattle.rope.proofs.PlaceLaws.{slot_at-no_words}
use Rattle.yayul.specs.Operators.{field_size, bits_under}
use Rattle.yayul.specs.Layout.{Request, and_then, width, stands_at, value_of}
use Rattle.words.specs.Numbers.{neg}
use Rattle.yayul.specs.Words.{addressed_word, bank_word, far_address, low_place, fixed_place, field_of, content_words, request_words}
use Rattle.yayul.specs.Language.{Addressed, BankWord, Complemented, Constant, Constants, Content, FarAddress, FarComplement, Fault}
use Rattle.yayul.specs.Language.{FaultKind, Fixed, Plain, Undefined, Value}
use Rattle.yayul.specs.Inside.Waiting.{is_waiting, standing_words, standing_rope, Holds}
use Rattle.yayul.proofs.TakenPlaces.{length-zeros, or-false, stands-with_words}

-- so many words, or none
abbrev HasWidth : ℕ → Result (List ℕ) FaultKind → Type 0
HasWidth count (Ok words) = length words ≡ count
HasWidth count (Err kind) = Unit {0}

width-content_words : (table : List (List ℕ × Value)) (here : Value) (extracode : Bool) (eb : ℕ) (content : Content)
    → HasWidth (width content) (content_words table here extracode eb content)
width-content_words table here extracode eb (Constant None) = tt
width-content_words table here extracode eb (Constant (Some word)) = refl
width-content_words table here extracode eb (Plain i) = refl
width-content_words table here extracode eb (Addressed i operand) = by_value (value_of Undefined table here operand)
  where
    by_field : (field : Result ℕ FaultKind) → HasWidth 1 (and_then (λ n. Ok ((i.least + n) ∷ [])) field)
    by_field (Ok n) = refl
    by_field (Err kind) = tt

    by_value : (value : Result Value FaultKind) → HasWidth 1 (and_then (addressed_word i extracode) value)
    by_value (Ok value) = by_field (field_of i.takes (field_size (bits_under i.extracode i.bits extracode)) value)
    by_value (Err kind) = tt
width-content_words table here extracode eb (FarAddress operand) = by_place (and_then fixed_place (value_of Undefined table here operand))
  where
    by_place : (place : Result (ℕ × ℕ) FaultKind) → HasWidth 2 (and_then (λ p. Ok (far_address eb p.0 p.1)) place)
    by_place (Ok place) = refl
    by_place (Err kind) = tt
width-content_words table here extracode eb (Constants None) = tt
width-content_words table here extracode eb (Constants (Some words)) = refl
width-content_words table here extracode eb (Complemented i operand) = by_value (value_of Undefined table here operand)
  where
    by_field : (field : Result ℕ FaultKind) → HasWidth 1
        (and_then (λ words. Ok (map neg words)) (and_then (λ n. Ok ((i.least + n) ∷ [])) field))
    by_field (Ok n) = refl
    by_field (Err kind) = tt

    by_value : (value : Result Value FaultKind) → HasWidth 1
        (and_then (λ words. Ok (map neg words)) (and_then (addressed_word i extracode) value))
    by_value (Ok value) = by_field (field_of i.takes (field_size (bits_under i.extracode i.bits extracode)) value)
    by_value (Err kind) = tt
width-content_words table here extracode eb (FarComplement operand) = by_place
    (and_then low_place (and_then fixed_place (value_of Undefined table here operand)))
  where
    by_place : (place : Result (ℕ × ℕ) FaultKind) → HasWidth 2 (and_then (λ p. Ok (map neg (far_address eb p.0 p.1))) place)
    by_place (Ok place) = refl
    by_place (Err kind) = tt
width-content_words table here extracode eb (BankWord operand) = by_place
    (and_then low_place (and_then fixed_place (value_of Undefined table here operand)))
  where
    by_place : (place : Result (ℕ × ℕ) FaultKind) → HasWidth 1 (and_then (λ p. Ok (bank_word eb p.0 p.1 ∷ [])) place)
    by_place (Ok place) = refl
    by_place (Err kind) = tt

has_width : (table : List (List ℕ × Value)) (r : Request) → HasWidth (width r.content) (request_words table r)
unfolding request_words
has_width table r = width-content_words table (Fixed r.bank r.offset) r.extracode r.eb r.content

-- the words of a request are as many as it asks for
pub width-words : (table : List (List ℕ × Value)) (r : Request) (words : List ℕ) → request_words table r ≡ Ok words
    → length words ≡ width r.content
width-words table r words is = rw is at (has_width table r)

unwrapped : (count : ℕ) (words : Result (List ℕ) FaultKind) → HasWidth count words
    → length (result_unwrap_or words (replicate count 0)) ≡ count
unwrapped count (Ok words) wide = wide
unwrapped count (Err kind) wide = length-zeros count

-- as many stand for it, whether it waits or has a fault
pub standing-width : (table : List (List ℕ × Value)) (waiting : List Request) (r : Request)
    → length (standing_words table waiting r) ≡ width r.content
unfolding standing_words
standing-width table waiting r = by_test (is_waiting waiting r)
  where
    by_test : (waits : Bool) → length (cond waits (replicate (width r.content) 0)
        (result_unwrap_or (request_words table r) (replicate (width r.content) 0))) ≡ width r.content
    by_test true = length-zeros (width r.content)
    by_test false = unwrapped (width r.content) (request_words table r) (has_width table r)

-- a word stands where a request asks for one
pub stands-held : (line : ℕ) (table : List (List ℕ × Value)) (rs waiting : List Request) (rope : Words) (told : Option Fault)
    (bank offset : ℕ) → Holds line table rs waiting rope told
    → stands rope bank offset ≡ list_any (stands_at bank offset) rs
unfolding standing_rope
stands-held line table rs waiting rope told bank offset h =
    ap (λ words. stands words bank offset) h.rope
    ∙ stands-with_words (standing_words table waiting) (standing-width table waiting) rs no_words bank offset h.within
    ∙ ap (λ slot. list_any (stands_at bank offset) rs || is_some slot) (slot_at-no_words bank offset)
    ∙ or-false (list_any (stands_at bank offset) rs)

-- as many are made, or zeros in their places
pub made-width : (table : List (List ℕ × Value)) (r : Request)
    → length (result_unwrap_or (request_words table r) (replicate (width r.content) 0)) ≡ width r.content
unfolding standing_words
made-width table r = standing-width table [] r
