-- What the entries of a list give, each by its number from one on, and what one entry more gives behind them.
use Rattle.std.proofs.Common.{◌≡◌, ℕ, ◌+◌, List, [], ◌∷◌, ◌++◌, length, sym, ap, ◌∙◌, arith, append_assoc, append-nil}

pub pushed : {A B : Type 0} (f : ℕ → A → List B) (from : ℕ → List A → List B) → ((n : ℕ) → from n [] ≡ [])
    → ((n : ℕ) (x : A) (xs : List A) → from n (x ∷ xs) ≡ f n x ++ from (n + 1) xs)
    → (line number : ℕ) (before : List A) (said : A) → line + length before ≡ number
    → from line (before ++ said ∷ []) ≡ from line before ++ f number said
pushed f from none more line number [] said at =
    let here : line ≡ number = omega (arith, at) in
    more line said [] ∙ ap (λ xs. f line said ++ xs) (none (line + 1)) ∙ append-nil (f line said) ∙ ap (λ n. f n said) here
    ∙ ap (λ xs. xs ++ f number said) (sym (none line))
pushed f from none more line number (first ∷ before) said at =
    more line first (before ++ said ∷ [])
    ∙ ap (λ xs. f line first ++ xs) (pushed f from none more (line + 1) number before said (omega (arith, at)))
    ∙ sym (append_assoc (f line first) (from (line + 1) before) (f number said))
    ∙ ap (λ xs. xs ++ f number said) (sym (more line first before))
