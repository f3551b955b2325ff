-- Lines that hold text alone.
use Rattle.std.proofs.Common.{◌≡◌, not, ℕ, List, [], ◌∷◌, length, None, Bool, true, false, refl, arith, sym, inl, inr}
use Rattle.std.specs.List.{list_all, position_or_len}
use Rattle.std.proofs.lemmas.Bool.{cases_Bool}
use Rattle.std.proofs.lemmas.Option.{slice_get_past}
use Rattle.agc_text.specs.Bytes.{is_text_byte}
use Rattle.yayul.specs.Survey.{wrong_byte}

-- where all pass a test, none stands at the place of the first that does not
none_fails : (p : ℕ → Bool) (xs : List ℕ) → list_all p xs ≡ true → position_or_len (λ b. not (p b)) xs ≡ length xs
none_fails p [] all = refl
none_fails p (x ∷ xs) all =
    elim (cases_Bool (p x)) [
      | inl passes ↦ (
          let rest : list_all p xs ≡ true = rw passes at all in
          let more = none_fails p xs rest in
          rw passes (omega (arith, more)))
      | inr fails ↦ absurd (let never : false ≡ true = rw fails at all in cc)
    ]

-- a line that holds text alone has no byte that it may not hold
pub no_wrong_byte : (text : List ℕ) → list_all is_text_byte text ≡ true → None ≡ wrong_byte text
no_wrong_byte text all =
    let whole = none_fails is_text_byte text all in
    sym (slice_get_past text (position_or_len (λ b. not (is_text_byte b)) text) (omega (arith, whole)))
