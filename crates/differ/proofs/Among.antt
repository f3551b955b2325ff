-- Cells one by one: the first that is not the same.
use Rattle.std.proofs.Common.{◌≡◌, ℕ, ◌+◌, ◌<◌, ◌≤◌, true, false, List, ◌∷◌, Some, None, drop, length, get_or, refl, ap, ◌∙◌}
use Rattle.std.proofs.lemmas.List.{drop_all, drop_more}
use Rattle.space.specs.Cells.{Cells}
use Rattle.differ.specs.Causes.{first_among, is_followed}

same_first : (h t : Cells) (c : ℕ) (cs : List ℕ) → is_followed h t c ≡ false → first_among h t (c ∷ cs) ≡ first_among h t cs
unfolding first_among
same_first h t c cs same = rw same refl

found_first : (h t : Cells) (c : ℕ) (cs : List ℕ) → is_followed h t c ≡ true → first_among h t (c ∷ cs) ≡ Some c
unfolding first_among
found_first h t c cs found = rw found refl

pub among_more : (h t : Cells) (cs : List ℕ) (i c : ℕ) → i < length cs → get_or cs i c ≡ c → is_followed h t c ≡ false
    → first_among h t (drop i cs) ≡ first_among h t (drop (i + 1) cs)
among_more h t cs i c within here same =
    let first : drop i cs ≡ c ∷ drop (i + 1) cs = drop_more cs i c within ∙ ap (λ w. w ∷ drop (i + 1) cs) here in
    rw first (same_first h t c (drop (i + 1) cs) same)

pub among_found : (h t : Cells) (cs : List ℕ) (i c : ℕ) → i < length cs → get_or cs i c ≡ c → is_followed h t c ≡ true
    → first_among h t (drop i cs) ≡ Some c
among_found h t cs i c within here found =
    let first : drop i cs ≡ c ∷ drop (i + 1) cs = drop_more cs i c within ∙ ap (λ w. w ∷ drop (i + 1) cs) here in
    rw first (found_first h t c (drop (i + 1) cs) found)

pub among_end : (h t : Cells) (cs : List ℕ) (i : ℕ) → length cs ≤ i → first_among h t (drop i cs) ≡ None
unfolding first_among
among_end h t cs i past = rw (drop_all i cs past) refl

pub ruleset among_steps = (among_found, among_more, among_end)
