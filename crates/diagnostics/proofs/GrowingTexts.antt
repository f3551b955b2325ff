-- Texts that grow.
use Rattle.std.proofs.Common.{◌≡◌, ℕ, ◌+◌, ◌<◌, true, false, List, [], ◌∷◌, ◌++◌, length, take, get_or, map}
use Rattle.std.proofs.Common.{refl, ap, sym, inl, inr, ◌∙◌, append_assoc}
use Rattle.std.specs.List.{list_all}
use Rattle.std.proofs.lemmas.Bool.{cases_Bool}
use Rattle.std.proofs.lemmas.List.{take_more, map-append}
use Rattle.agc_text.specs.Bytes.{is_text_byte}
use Rattle.diagnostics.specs.Shown.{shown_byte}

-- what is made of so many and one of some things
pub mapped_more : {A B : Type 0} (f : A → B) (d : A) (text : List A) (i : ℕ) → i < length text
    → map f (take (i + 1) text) ≡ map f (take i text) ++ f (get_or text i d) ∷ []
mapped_more f d text i lt = ap (map f) (take_more text i d lt) ∙ map-append f (take i text) (get_or text i d ∷ [])

-- a text that has so far grown by what is made of so many, and then of one more
pub grown : {A B : Type 0} (f : A → B) (d : A) (text : List A) (i : ℕ) (before so_far : List B) → i < length text
    → so_far ≡ before ++ map f (take i text)
    → so_far ++ f (get_or text i d) ∷ [] ≡ before ++ map f (take (i + 1) text)
grown f d text i before so_far lt e =
    ap (λ t. t ++ f (get_or text i d) ∷ []) e ∙ append_assoc before (map f (take i text)) (f (get_or text i d) ∷ [])
    ∙ ap (λ t. before ++ t) (sym (mapped_more f d text i lt))

-- a text that a line may hold is shown as it is
pub text_is_shown : (text : List ℕ) → list_all is_text_byte text ≡ true → map shown_byte text ≡ text
text_is_shown [] all = refl
text_is_shown (x ∷ xs) all =
    elim (cases_Bool (is_text_byte x)) [
      | inl passes ↦ (
          let rest : list_all is_text_byte xs ≡ true = rw passes at all in
          rw (passes, text_is_shown xs rest) refl)
      | inr fails ↦ absurd (let never : false ≡ true = rw fails at all in cc)
    ]
