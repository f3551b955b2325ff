-- Inputs that are told as lines, one after another.
use Rattle.std.proofs.Common.{◌≡◌, ℕ, ◌+◌, ◌<◌, ◌≤◌, List, ◌∷◌, ◌++◌, length, drop, map, max, true, false, refl, ap, arith, ◌∙◌}
use Rattle.std.specs.Prelude.{codes, decimal, nat_le, get_or}
use Rattle.std.proofs.lemmas.List.{drop_more, drop_all}
use Rattle.std.proofs.lemmas.Bool.Decides.{nat_tests}
use Rattle.feed.specs.Merged.{plain_entry}
use Rattle.feed.specs.declared.entry.Plain.{Plain}
use Rattle.debugger.specs.Additions.{line_after}
use Rattle.debugger.specs.Replies.{line}
use Rattle.debugger.specs.Inputs.{input_line, lines_from}

-- the inputs from one on
dropped : (plain : List Plain) (i : ℕ) (p : Plain) → i < length plain → get_or plain i p ≡ p → drop i plain ≡ p ∷ drop (i + 1) plain
dropped plain i p within is = drop_more plain i p within ∙ ap (λ (e : Plain). e ∷ drop (i + 1) plain) is

pub input_yes : (first : ℕ) (plain : List Plain) (n i : ℕ) (p : Plain) → i < length plain → get_or plain i p ≡ p
    → nat_le first p.line ≡ true
    → lines_from first n (map plain_entry (drop i plain))
    ≡ input_line (plain_entry p) ++ lines_from first (n + 1) (map plain_entry (drop (i + 1) plain))
input_yes first plain n i p within is there = ap (λ (l : List Plain). lines_from first n (map plain_entry l)) (dropped plain i p within is)
    ∙ rw there refl

pub input_no : (first : ℕ) (plain : List Plain) (n i : ℕ) (p : Plain) → i < length plain → get_or plain i p ≡ p
    → nat_le first p.line ≡ false
    → lines_from first n (map plain_entry (drop i plain)) ≡ lines_from first n (map plain_entry (drop (i + 1) plain))
input_no first plain n i p within is before = ap (λ (l : List Plain). lines_from first n (map plain_entry l)) (dropped plain i p within is)
    ∙ rw before refl

pub input_end : (first : ℕ) (plain : List Plain) (n i : ℕ) → length plain ≤ i
    → lines_from first n (map plain_entry (drop i plain)) ≡ line (codes "# COUNT " ++ decimal n)
input_end first plain n i past = ap (λ (l : List Plain). lines_from first n (map plain_entry l)) (drop_all i plain past)

-- a line after those of some, and of one more
pub line_more : (plain : List Plain) (i before : ℕ) (p : Plain) → i < length plain → get_or plain i p ≡ p
    → max before (line_after (map plain_entry (drop i plain)))
    ≡ max (max before (p.line + 1)) (line_after (map plain_entry (drop (i + 1) plain)))
line_more plain i before p within is =
    ap (λ (l : List Plain). max before (line_after (map plain_entry l))) (dropped plain i p within is)
    ∙ (let e : max before (max (p.line + 1) (line_after (map plain_entry (drop (i + 1) plain))))
    ≡ max (max before (p.line + 1)) (line_after (map plain_entry (drop (i + 1) plain))) = omega arith in e)

pub line_end : (plain : List Plain) (i before : ℕ) → length plain ≤ i → max before (line_after (map plain_entry (drop i plain))) ≡ before
line_end plain i before past = ap (λ (l : List Plain). max before (line_after (map plain_entry l))) (drop_all i plain past)
    ∙ (let e : max before 0 ≡ before = omega arith in e)

-- a line is told, or it is not
pub is_told : (first at : ℕ) → first ≤ at → nat_le first at ≡ true
is_told first at h = grind (arith, nat_tests)

pub is_passed : (first at : ℕ) → at < first → nat_le first at ≡ false
is_passed first at h = grind (arith, nat_tests)
