-- Laws of the lines of a text.
use Rattle.std.proofs.Common.{◌≡◌, ◌≢◌, ℕ, ◌<◌, ◌≤◌, List, [], ◌∷◌, ◌++◌, length, refl, ap, ◌∙◌, arith, false, eqb}
use Rattle.std.specs.List.{position_or_len, before_first, after_first, All}
use Rattle.std.proofs.lemmas.List.Splits.{slice_split_first, slice_split_none, length-slice_split}
use Rattle.std.proofs.lemmas.List.Sums.{fails_before_first}
use Rattle.std.proofs.lemmas.Bool.{ne_eqb}
use Rattle.agc_text.specs.Bytes.{line_feed}
use Rattle.agc_text.specs.Lines.{pieces, lines, ended_lines, without_empty_end, without_end, HasNoFeed}

-- a line with more after it
with_more : (line : List ℕ) (rest : List (List ℕ)) → 0 < length rest → without_empty_end (line ∷ rest) ≡ line ∷ without_empty_end rest
with_more line [] some = absurd (omega arith)
with_more [] (next ∷ rest) some = refl
with_more (byte ∷ line) (next ∷ rest) some = refl

-- the first line of a text that has a line feed
pub first_line : (text : List ℕ) → position_or_len (λ b. eqb b line_feed) text < length text
    → lines text ≡ before_first (λ b. eqb b line_feed) text ∷ lines (after_first (λ b. eqb b line_feed) text)
unfolding lines
first_line text lt =
    ap without_empty_end (slice_split_first (λ b. eqb b line_feed) text 0 lt)
    ∙ with_more _ (pieces (after_first (λ b. eqb b line_feed) text))
    (omega (arith, length-slice_split (λ b. eqb b line_feed) (after_first (λ b. eqb b line_feed) text)))

-- the only line of one that has none
pub last_line : (text : List ℕ) → 0 < length text → length text ≤ position_or_len (λ b. eqb b line_feed) text → lines text ≡ text ∷ []
unfolding lines
last_line text some le =
    let none : All (λ b. eqb b line_feed ≡ false) text = λ k d hi. fails_before_first (λ b. eqb b line_feed) text k d (omega arith) in
    ap without_empty_end (slice_split_none (λ b. eqb b line_feed) text none) ∙ alone text some
  where
    alone : (line : List ℕ) → 0 < length line → without_empty_end (line ∷ []) ≡ line ∷ []
    alone [] some = absurd (omega arith)
    alone (byte ∷ line) some = refl

-- a text without a byte has no line
pub lines-none : (text : List ℕ) → length text ≡ 0 → lines text ≡ []
unfolding lines
lines-none [] none = refl
lines-none (byte ∷ text) none = absurd (omega arith)

-- the first piece of a text that begins with some bytes of a line and a line feed
pieces-ended : (line rest : List ℕ) → HasNoFeed line → pieces (line ++ line_feed ∷ rest) ≡ line ∷ pieces rest
pieces-ended [] rest none = refl
pieces-ended (byte ∷ line) rest none = rw (ne_eqb byte line_feed none.0, pieces-ended line rest none.1) refl

-- the only piece of a text without a line feed
pieces-last : (line : List ℕ) → HasNoFeed line → pieces line ≡ line ∷ []
pieces-last [] none = refl
pieces-last (byte ∷ line) none = rw (ne_eqb byte line_feed none.0, pieces-last line none.1) refl

-- there is always a piece
some_piece : (text : List ℕ) → 0 < length (pieces text)
some_piece text = omega (arith, length-slice_split (λ b. eqb b line_feed) text)

-- the first line, where a line feed ends it
pub lines-ended : (line rest : List ℕ) → HasNoFeed line → lines (line ++ line_feed ∷ rest) ≡ line ∷ lines rest
unfolding lines
lines-ended line rest none = ap without_empty_end (pieces-ended line rest none) ∙ with_more line (pieces rest) (some_piece rest)

-- the only line, where the end of the text ends it
pub lines-last : (line : List ℕ) → HasNoFeed line → line ≢ [] → lines line ≡ line ∷ []
unfolding lines
lines-last [] none some = absurd (some refl)
lines-last (byte ∷ line) none some = ap without_empty_end (pieces-last (byte ∷ line) none)

-- the same of the lines that a line feed ends
ended_with_more : (line : List ℕ) (rest : List (List ℕ)) → 0 < length rest → without_end (line ∷ rest) ≡ line ∷ without_end rest
ended_with_more line [] some = absurd (omega arith)
ended_with_more line (next ∷ rest) some = refl

-- the first line, which a line feed ends
pub ended_lines-ended : (line rest : List ℕ) → HasNoFeed line → ended_lines (line ++ line_feed ∷ rest) ≡ line ∷ ended_lines rest
unfolding ended_lines
ended_lines-ended line rest none = ap without_end (pieces-ended line rest none) ∙ ended_with_more line (pieces rest) (some_piece rest)

-- a part of a line is none that a line feed ends
pub ended_lines-part : (part : List ℕ) → HasNoFeed part → ended_lines part ≡ []
unfolding ended_lines
ended_lines-part part none = ap without_end (pieces-last part none)

-- one more byte of a line
pub HasNoFeed-push : (part : List ℕ) (byte : ℕ) → HasNoFeed part → byte ≢ line_feed → HasNoFeed (part ++ byte ∷ [])
HasNoFeed-push [] byte none other = (other, tt)
HasNoFeed-push (first ∷ part) byte none other = (none.0, HasNoFeed-push part byte none.1 other)
