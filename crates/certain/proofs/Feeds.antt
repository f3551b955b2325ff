-- The rows of a listing hold no line feed, and how long they are.
use Rattle.std.proofs.Common.{◌≡◌, ◌≢◌, ◌<◌, ◌≤◌, ◌+◌, ◌-◌, ◌/◌, ◌%◌, ◌^◌, ℕ, zero, suc, List, [], ◌∷◌, ◌++◌, length, decimal, nat_lt, eqb}
use Rattle.std.proofs.Common.{Option, Some, None, refl, ◌∙◌, arith, length-append, inl, inr}
use Rattle.std.specs.Prelude.{codes}
use Rattle.std.specs.List.{onto_first}
use Rattle.std.specs.Option.{option_map_or}
use Rattle.std.proofs.lemmas.Bool.{cases_Bool, eqb-false}
use Rattle.std.proofs.lemmas.Bool.Decides.{nat_tests}
use Rattle.std.proofs.lemmas.Fmt.{decimal_step, decimal_digit}
use Rattle.std.proofs.lemmas.List.{length-replicate}
use Rattle.words.specs.Numerals.{octal_text}
use Rattle.words.proofs.Digits.{length-octal_text}
use Rattle.agc_text.specs.Bytes.{line_feed}
use Rattle.agc_text.specs.Lines.{pieces, lines, without_empty_end, HasNoFeed}
use Rattle.rope.specs.Places.{Words, word_at}
use Rattle.space.specs.Places.{window}
use Rattle.space.specs.declared.place.Linear.{Linear}
use Rattle.space.specs.declared.place.Linear.TheVariants as linear
use Rattle.yayul.specs.Listing.{bank_text, blanks, number_column, place_text, word_columns}
use Rattle.yayul.specs.PlaceMargin.{place_margin}

-- ## Line feeds
pub feed_append : (xs ys : List ℕ) → HasNoFeed xs → HasNoFeed ys → HasNoFeed (xs ++ ys)
feed_append [] ys first second = second
feed_append (x ∷ xs) ys first second = (first.0, feed_append xs ys first.1 second)

pub other : (n : ℕ) → 10 < n → n ≢ line_feed
other n more = λ (e : n ≡ 10). omega (arith, more, e)

pub octal_feed : (k n : ℕ) → HasNoFeed (octal_text k n)
unfolding octal_text
octal_feed zero n = tt
octal_feed (suc k) n =
    feed_append (octal_text k (n / 8)) ((48 + n % 8) ∷ []) (octal_feed k (n / 8)) (other (48 + n % 8) (omega arith), tt)

decimal_feed : (fuel n : ℕ) → n ≤ fuel → n < 2 ^ 64 → HasNoFeed (decimal n)
decimal_feed zero n le lt = rw (decimal_digit n (omega (arith, le))) (other (48 + n) (omega arith), tt)
decimal_feed (suc fuel) n le lt = elim (cases_Bool (nat_lt n 10)) [
  | inl small ↦ (let few : n < 10 = grind (arith, nat_tests) in rw (decimal_digit n few) (other (48 + n) (omega arith), tt))
  | inr large ↦ (let many : 10 ≤ n = grind (arith, nat_tests) in rw (decimal_step n many lt)
      (feed_append (decimal (n / 10)) ((48 + n % 10) ∷ []) (decimal_feed fuel (n / 10) (omega (arith, le, many)) (omega (arith, lt)))
      (other (48 + n % 10) (omega arith), tt)))
]

blanks_feed : (n : ℕ) → HasNoFeed (blanks n)
blanks_feed zero = tt
blanks_feed (suc n) = (other 32 (omega arith), blanks_feed n)

pub number_feed : (n : ℕ) → n < 2 ^ 64 → HasNoFeed (number_column n)
unfolding number_column
number_feed n lt =
    feed_append (blanks (5 - length (decimal n)) ++ decimal n) (codes " ")
    (feed_append (blanks (5 - length (decimal n))) (decimal n) (blanks_feed (5 - length (decimal n))) (decimal_feed n n (omega arith) lt))
    (other 32 (omega arith), tt)

bank_feed : (place : Linear) → HasNoFeed (bank_text place)
bank_feed (linear.Erasable n) = feed_append (codes "E") (octal_text 1 (n / 0o400)) (other 69 (omega arith), tt) (octal_feed 1 (n / 0o400))
bank_feed (linear.Fixed bank offset) = octal_feed 2 bank

place_feed : (place : Linear) → HasNoFeed (place_text place)
unfolding place_text
place_feed place =
    feed_append (bank_text place ++ codes ",") (octal_text 4 (window place))
    (feed_append (bank_text place) (codes ",") (bank_feed place) (other 44 (omega arith), tt)) (octal_feed 4 (window place))

pub word_feed : (words : Words) (bank offset : ℕ) → HasNoFeed (word_columns words bank offset)
unfolding word_columns
word_feed words bank offset =
    feed_append (place_text (linear.Fixed bank offset) ++ codes " ") (octal_text 5 (word_at words bank offset))
    (feed_append (place_text (linear.Fixed bank offset)) (codes " ") (place_feed (linear.Fixed bank offset)) (other 32 (omega arith), tt))
    (octal_feed 5 (word_at words bank offset))

-- the columns of a place and a word
abbrev pub columns_of : Words → Option (ℕ × ℕ) → Option Linear → List ℕ
columns_of words first place =
    option_map_or (λ p. word_columns words p.0 p.1) first (option_map_or (λ place. place_text place ++ blanks 6) place (blanks 13))

pub columns_feed : (words : Words) (first : Option (ℕ × ℕ)) (place : Option Linear) → HasNoFeed (columns_of words first place)
columns_feed words (Some p) place = word_feed words p.0 p.1
columns_feed words None (Some place) = feed_append (place_text place) (blanks 6) (place_feed place) (blanks_feed 6)
columns_feed words None None = blanks_feed 13

pub margin_feed : (place : Option (ℕ × ℕ)) → HasNoFeed (place_margin place)
margin_feed None = (other 45 (omega arith), (other 45 (omega arith), (other 45 (omega arith), tt)))
margin_feed (Some p) =
    (other (64 + p.0) (omega arith), (other (64 + p.1 / 0o40) (omega arith), (other (64 + p.1 % 0o40) (omega arith), tt)))

-- ## Lengths
bank_long : (place : Linear) → length (bank_text place) ≡ 2
bank_long (linear.Erasable n) = length-append (codes "E") (octal_text 1 (n / 0o400)) ∙ omega (arith, length-octal_text 1 (n / 0o400))
bank_long (linear.Fixed bank offset) = length-octal_text 2 bank

place_long : (place : Linear) → length (place_text place) ≡ 7
unfolding place_text
place_long place =
    let first = bank_long place in
    let last = length-octal_text 4 (window place) in
    let front = length-append (bank_text place) (codes ",") in
    length-append (bank_text place ++ codes ",") (octal_text 4 (window place)) ∙ omega (arith, first, last, front)

pub word_long : (words : Words) (bank offset : ℕ) → length (word_columns words bank offset) ≡ 13
unfolding word_columns
word_long words bank offset =
    let place = place_long (linear.Fixed bank offset) in
    let word = length-octal_text 5 (word_at words bank offset) in
    let front = length-append (place_text (linear.Fixed bank offset)) (codes " ") in
    length-append (place_text (linear.Fixed bank offset) ++ codes " ") (octal_text 5 (word_at words bank offset))
    ∙ omega (arith, place, word, front)

pub columns_long : (words : Words) (first : Option (ℕ × ℕ)) (place : Option Linear) → length (columns_of words first place) ≡ 13
columns_long words (Some p) place = word_long words p.0 p.1
columns_long words None (Some place) =
    length-append (place_text place) (blanks 6) ∙ omega (arith, place_long place, length-replicate {A = ℕ} 6 0o40)
columns_long words None None = length-replicate {A = ℕ} 13 0o40

pub margin_long : (place : Option (ℕ × ℕ)) → length (place_margin place) ≡ 3
margin_long None = refl
margin_long (Some p) = refl

-- ## The lines of a text
abbrev pub AllFeedless : List (List ℕ) → Type 0
AllFeedless [] = Unit {0}
AllFeedless (line ∷ more) = HasNoFeed line × AllFeedless more

onto_feed : (byte : ℕ) (parts : List (List ℕ)) → byte ≢ line_feed → AllFeedless parts → AllFeedless (onto_first byte parts)
onto_feed byte [] differs all = ((differs, tt), tt)
onto_feed byte (part ∷ parts) differs all = ((differs, all.0), all.1)

pieces_feed : (text : List ℕ) → AllFeedless (pieces text)
pieces_feed [] = (tt, tt)
pieces_feed (byte ∷ text) = elim (cases_Bool (eqb byte line_feed)) [
  | inl is ↦ rw is (tt, pieces_feed text)
  | inr differs ↦ rw differs (onto_feed byte (pieces text) (eqb-false byte line_feed differs) (pieces_feed text))
]

without_feed : (parts : List (List ℕ)) → AllFeedless parts → AllFeedless (without_empty_end parts)
without_feed [] all = tt
without_feed ([] ∷ []) all = tt
without_feed ([] ∷ (part ∷ parts)) all = (all.0, without_feed (part ∷ parts) all.1)
without_feed ((byte ∷ line) ∷ parts) all = (all.0, without_feed parts all.1)

pub lines_feed : (text : List ℕ) → AllFeedless (lines text)
unfolding lines
lines_feed text = without_feed (pieces text) (pieces_feed text)
