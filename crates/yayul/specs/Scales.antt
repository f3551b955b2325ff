-- Decimal constants of flight programs: with a point and powers of ten and of two, in one word or two.
use Rattle.std.specs.Prelude.{ℕ, ◌+◌, ◌-◌, ◌*◌, ◌/◌, ◌%◌, ◌^◌, ◌==◌, ◌&&◌, ◌||◌, not, Bool, true, false, nat_le}
use Rattle.std.specs.Prelude.{nat_lt, List, [], ◌∷◌, length, take, drop, slice_get}
use Rattle.std.specs.Prelude.{Option, None, Some, is_some, option_map, option_and_then, if◌then◌else◌}
use Rattle.std.specs.Option.{option_map_or, option_or}
use Rattle.words.specs.Numbers.{neg}
use Rattle.agc_text.specs.Digits.{number_of}
use Rattle.yayul.specs.Forms.{first_is, before_point, greatest_magnitude, decimal_in, with_form}
use Rattle.yayul.specs.Language.{Constant, Constants, Content, One, Precision, Two}
use Rattle.yayul.specs.declared.scaled.Power.{Power}
use Rattle.yayul.specs.declared.scaled.Quantity.{Quantity}
use Rattle.yayul.specs.declared.scaled.Scales.{Scales}

-- ## Scales
abbrev pub raised : ℕ → Power
raised n = record { up = n; down = 0 }

abbrev pub lowered : ℕ → Power
lowered n = record { up = 0; down = n }

-- one or two decimal digits, at most so many
abbrev pub count_to : ℕ → List ℕ → Option ℕ
count_to most text = option_and_then (λ n. if nat_le n most then Some n else None) (number_of 10 2 text)

-- a power of at most so many up and so many down, with a sign or none
abbrev pub signed_power : ℕ → ℕ → List ℕ → Option Power
signed_power up down text =
    if first_is (λ byte. byte == 0o53) text then option_map raised (count_to up (drop 1 text))
    else if first_is (λ byte. byte == 0o55) text then option_map lowered (count_to down (drop 1 text))
    else option_map raised (count_to up text)

-- an `E` and a power of ten
abbrev pub power_of_ten_in : List ℕ → Option Power
power_of_ten_in text = if first_is (λ byte. byte == 0o105) text then signed_power 11 12 (drop 1 text) else None

-- a star stands last
abbrev pub ends_in_star : List ℕ → Bool
ends_in_star text = option_map_or (λ byte. byte == 0o52) (slice_get text (length text - 1)) false

-- a text without a star at its end
abbrev pub without_star : List ℕ → List ℕ
without_star text = if ends_in_star text then take (length text - 1) text else text

-- a `B` and a power of two, perhaps with a star behind it
abbrev pub power_of_two_in : List ℕ → Option Power
power_of_two_in text = if first_is (λ byte. byte == 0o102) text then signed_power 24 50 (without_star (drop 1 text)) else None

abbrev pub scaled_by : Power → Option Power → Scales
scaled_by ten two = record { ten = ten; two = two }

-- the scales of a constant: a power of ten or none, and then a power of two or none
abbrev pub scales_of : List (List ℕ) → Option Scales
scales_of [] = Some (scaled_by (raised 0) None)
scales_of (text ∷ []) =
    option_or (option_map (λ ten. scaled_by ten None) (power_of_ten_in text))
    (option_map (λ two. scaled_by (raised 0) (Some two)) (power_of_two_in text))
scales_of (first ∷ second ∷ []) = option_and_then (λ ten. option_map (λ two. scaled_by ten (Some two)) (power_of_two_in second))
    (power_of_ten_in first)
scales_of _ = None

-- the scales of a whole number in units of the lower of two words
abbrev pub lower_word : Scales
lower_word = scaled_by (raised 0) (Some (lowered 28))

-- ## Quantities
-- some digits in all, the last of which are decimals: below 10 ^ 11
abbrev pub quantity_of : ℕ → ℕ → Bool → Option Quantity
quantity_of digits decimals pointed = if nat_lt digits (10 ^ 11) then Some
    (record { digits = digits; decimals = decimals; pointed = pointed }) else None

-- up to ten digits, or none
abbrev pub whole_digits : List ℕ → Option ℕ
whole_digits text = if length text == 0 then Some 0 else number_of 10 10 text

-- digits, a point between them where they have decimals
abbrev pub pointed_in : List ℕ → List ℕ → Option Quantity
pointed_in whole decimals =
    option_and_then (λ w. option_and_then (λ d. quantity_of (w * 10 ^ length decimals + d) (length decimals) true)
    (number_of 10 10 decimals)) (whole_digits whole)

-- digits; or digits or none, a point and 1 to 10 digits
abbrev pub quantity_in : List ℕ → Option Quantity
quantity_in text =
    if length (before_point text) == length text then option_and_then (λ n. quantity_of n 0 false) (number_of 10 10 text)
    else pointed_in (before_point text) (drop (length (before_point text) + 1) text)

-- ## Words
-- a quotient to the nearest whole number, halves up
abbrev pub nearest : ℕ → ℕ → ℕ
nearest number unit = (2 * number + unit) / (2 * unit)

-- a power of two, where one stands
abbrev pub power_or_none : Option Power → Power
power_or_none None = raised 0
power_or_none (Some two) = two

-- a quantity times its scales and 2 ^ bits, to the nearest
abbrev pub magnitude_of : ℕ → Quantity → Power → Power → ℕ
magnitude_of bits q ten two = nearest (q.digits * 10 ^ ten.up * 2 ^ (bits + two.up)) (10 ^ (q.decimals + ten.down) * 2 ^ two.down)

-- a word of 14 bits and a sign
abbrev pub signed_word : Bool → ℕ → ℕ
signed_word minus magnitude = if minus then neg magnitude else magnitude

-- one word of a magnitude of 14 bits
abbrev pub one_word : Bool → ℕ → Content
one_word minus m = Constant (if nat_le m greatest_magnitude then Some (signed_word minus m) else None)

-- two words of a magnitude of 28 bits, each with the sign
abbrev pub two_words : Bool → ℕ → Content
two_words minus m = Constants (if nat_lt m (2 ^ 28) then Some
    (record { first = signed_word minus (m / 2 ^ 14); second = signed_word minus (m % 2 ^ 14) }) else None)

-- the words of a quantity in as many bits as they have
abbrev pub words_of : Precision → Bool → Quantity → Scales → Content
words_of One minus q scales = one_word minus (magnitude_of 14 q scales.ten (power_or_none scales.two))
words_of Two minus q scales = two_words minus (magnitude_of 28 q scales.ten (power_or_none scales.two))

-- a quantity that has a point or a power of two
abbrev pub quantity_content : Precision → Bool → Quantity → Scales → Option Content
quantity_content precision minus q scales = if q.pointed || is_some scales.two then Some (words_of precision minus q scales) else None

abbrev pub no_field : List (List ℕ) → Bool
no_field [] = true
no_field (text ∷ rest) = false

-- the scales beside a quantity: of one in two words that has no point, where none stand, those of a whole number
abbrev pub scales_beside : Precision → Bool → List (List ℕ) → Option Scales
scales_beside One pointed scales = scales_of scales
scales_beside Two pointed scales = if no_field scales && not pointed then Some lower_word else scales_of scales

abbrev pub magnitude_content : Precision → Bool → List ℕ → List (List ℕ) → Option Content
magnitude_content precision minus text scales =
    option_and_then
    (λ q. option_and_then (quantity_content precision minus q) (scales_beside precision q.pointed scales))
    (quantity_in text)

-- a sign or none, a quantity and its scales
abbrev pub scaled_content : Precision → List ℕ → List (List ℕ) → Option Content
scaled_content precision text scales =
    if first_is (λ byte. byte == 0o53) text then magnitude_content precision false (drop 1 text) scales
    else if first_is (λ byte. byte == 0o55) text then magnitude_content precision true (drop 1 text) scales
    else magnitude_content precision false text scales

-- a decimal constant of one word without scales, as in the standard language; else one with scales, or of two words
abbrev pub decimal_content : Precision → List ℕ → List (List ℕ) → Option Content
decimal_content One text scales = if no_field scales then with_form Constant (decimal_in text) else scaled_content One text scales
decimal_content Two text scales = scaled_content Two text scales
