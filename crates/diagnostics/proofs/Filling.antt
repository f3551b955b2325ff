-- Texts with marks.
use Rattle.std.proofs.Common.{◌≡◌, ◌∙◌, ◌+◌, ℕ, false, cond, not, suc, arith, List, [], ◌∷◌, ◌++◌, take, drop, append_assoc, append-nil, ap}
use Rattle.std.proofs.Common.{refl, sym, inl, inr}
use Rattle.std.specs.List.{position_or_len}
use Rattle.std.proofs.lemmas.Bool.{cases_Bool}
use Rattle.yayul.specs.Readings.{Parts}
use Rattle.diagnostics.specs.Causes.{filled, filled_byte, is_mark}

-- a byte that is no mark stands for itself
plain_byte : (parts : Parts) (other beside : List ℕ) (byte : ℕ) → is_mark byte ≡ false → filled_byte parts other beside byte ≡ byte ∷ []
plain_byte parts other beside byte none = grind arith

-- what stands before the first mark stays as it is
pub plain_before : (parts : Parts) (other beside text : List ℕ)
    → filled parts other beside text ≡ take (position_or_len is_mark text) text
    ++ filled parts other beside (drop (position_or_len is_mark text) text)
plain_before parts other beside [] = refl
plain_before parts other beside (byte ∷ text) =
    elim (cases_Bool (is_mark byte)) [
      | inl mark ↦ rw mark refl
      | inr none ↦ (
          let count = position_or_len is_mark text in
          let next : position_or_len is_mark (byte ∷ text) ≡ suc count = ap (λ mark. cond (not mark) (1 + count) 0) none ∙ omega arith in
          ap (λ (front : List ℕ). front ++ filled parts other beside text) (plain_byte parts other beside byte none)
          ∙ ap (λ rest. byte ∷ rest) (plain_before parts other beside text)
          ∙ sym (ap (λ n. take n (byte ∷ text) ++ filled parts other beside (drop n (byte ∷ text))) next))
    ]

-- a text in which a mark stands: what stands before the mark, what the mark stands for, and what follows filled
pub filled_on :
    (parts : Parts) (other beside text before plain marked after grown now : List ℕ) (mark : ℕ)
    → plain ≡ take (position_or_len is_mark text) text
    → marked ≡ drop (position_or_len is_mark text) text → marked ≡ mark ∷ after → grown ≡ before ++ plain
    → now ≡ grown ++ filled_byte parts other beside mark
    → now ++ filled parts other beside after ≡ before ++ filled parts other beside text
filled_on parts other beside text before plain marked after grown now mark front back first grows goes =
    let rest : filled parts other beside marked ≡ filled_byte parts other beside mark
    ++ filled parts other beside after = ap (filled parts other beside) first in
    let whole : filled parts other beside text ≡ plain ++ (filled_byte parts other beside mark ++ filled parts other beside after) =
    plain_before parts other beside text ∙ ap (λ (front : List ℕ). front
    ++ filled parts other beside (drop (position_or_len is_mark text) text)) (sym front)
    ∙ ap (λ (back : List ℕ). plain ++ filled parts other beside back) (sym back) ∙ ap (λ back. plain ++ back) rest in
    ap (λ (t : List ℕ). t ++ filled parts other beside after) (goes ∙ ap (λ (t : List ℕ). t ++ filled_byte parts other beside mark) grows)
    ∙ append_assoc (before ++ plain) (filled_byte parts other beside mark) (filled parts other beside after)
    ∙ append_assoc before plain (filled_byte parts other beside mark ++ filled parts other beside after)
    ∙ ap (λ t. before ++ t) (sym whole)

-- a text in which none stands
pub filled_out :
    (parts : Parts) (other beside text before plain marked grown : List ℕ) → plain ≡ take (position_or_len is_mark text) text
    → marked ≡ drop (position_or_len is_mark text) text → marked ≡ [] → grown ≡ before ++ plain
    → grown ≡ before ++ filled parts other beside text
filled_out parts other beside text before plain marked grown front back none grows =
    grows ∙ ap (λ t. before ++ t) (sym (append-nil plain) ∙ ap (λ (t : List ℕ). plain ++ filled parts other beside t) (sym none ∙ back)
    ∙ ap (λ (t : List ℕ). t ++ filled parts other beside (drop (position_or_len is_mark text) text)) front
    ∙ sym (plain_before parts other beside text))
