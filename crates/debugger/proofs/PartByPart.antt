-- Texts that are written part by part.
use Rattle.std.proofs.Common.{◌≡◌, ℕ, List, [], ◌++◌, Result, refl, sym, ap, ◌∙◌, append_assoc, append-nil}
use Rattle.words.specs.Devices.{Writes, WritesBeginning}
use Rattle.words.specs.declared.device.WriteFailed.{WriteFailed}
use Rattle.words.proofs.Texts.{Writes-after, append-then, beginning-after, beginning-longer}
use Rattle.debugger.specs.LeftToWrite.{LeftToWrite}

pub left_all : (whole old : List ℕ) → LeftToWrite whole old old whole
left_all whole old = record { text = []; split = refl; written = sym (append-nil old) }

-- one part more
pub left_less : (whole old now new part rest left : List ℕ) → LeftToWrite whole old now left → left ≡ part ++ rest → new ≡ now ++ part
    → LeftToWrite whole old new rest
left_less whole old now new part rest left l is w = record {
  text = l.text ++ part;
  split = l.split ∙ ap (λ (y : List ℕ). l.text ++ y) is ∙ sym (append_assoc l.text part rest);
  written = append-then old now new l.text part l.written w;
}

-- the last part
pub left_none : (whole old now new part left : List ℕ) (result : Result (Unit {0}) WriteFailed) → LeftToWrite whole old now left
    → left ≡ part → Writes now new part result → Writes old new whole result
left_none whole old now new part left result l is w = rw (l.split, is) (Writes-after old now new l.text part result l.written w)

-- a part that could not be written whole
pub left_broken : (whole old now new part rest left : List ℕ) → LeftToWrite whole old now left → left ≡ part ++ rest
    → WritesBeginning now new part → WritesBeginning old new whole
left_broken whole old now new part rest left l is w = rw (l.split, is)
    (beginning-after old now new l.text _ l.written (beginning-longer now new part rest w))

-- no part is left
pub left_ends : (whole old new left : List ℕ) → LeftToWrite whole old new left → left ≡ [] → new ≡ old ++ whole
left_ends whole old new left l none = l.written
    ∙ ap (λ (y : List ℕ). old ++ y) (sym (l.split ∙ ap (λ (y : List ℕ). l.text ++ y) none ∙ append-nil l.text))
