-- Places and names, one after another.
use Rattle.std.proofs.Common.{◌≡◌, ℕ, ◌+◌, ◌≤◌, true, false, ◌&&◌, List, ◌∷◌, ◌++◌, length, drop, Option, Some, None, refl, ap, sym, ◌∙◌}
use Rattle.std.proofs.Common.{add-one, append_assoc, append-nil}
use Rattle.std.proofs.lemmas.List.{drop_more, drop_all}
use Rattle.std.proofs.lemmas.Option.{slice_get_within, get_or_from_slice_get}
use Rattle.std.specs.Prelude.{is_some, unwrap_or}
use Rattle.std.specs.List.{slice_get, flat_map}
use Rattle.rope.specs.Places.{Words, slot_at, bank_words}
use Rattle.symbols.specs.Values.{SymbolTable}
use Rattle.symbols.specs.declared.values.Value.{Value}
use Rattle.named_source.specs.NamedSources.{bank_given, banks_given, is_same, wanted, labels_after, with_label}

-- all is given before the first bank, and before the first word of one
pub banks_first : (words : Words) (asked : Option ℕ) (given : Words) → banks_given words asked given 0 ≡ true
unfolding banks_given
banks_first words asked given = refl

pub banks_next : (words : Words) (asked : Option ℕ) (given : Words) (n : ℕ)
    → banks_given words asked given (n + 1) ≡ (bank_given words asked given n bank_words && banks_given words asked given n)
unfolding banks_given
banks_next words asked given n = rw (add-one n) refl

pub bank_first : (words : Words) (asked : Option ℕ) (given : Words) (bank : ℕ) → bank_given words asked given bank 0 ≡ true
unfolding bank_given
bank_first words asked given bank = refl

pub bank_next : (words : Words) (asked : Option ℕ) (given : Words) (bank n : ℕ)
    → bank_given words asked given bank (n + 1) ≡
    (is_same (slot_at given bank n) (wanted words asked bank n) && bank_given words asked given bank n)
unfolding bank_given
bank_next words asked given bank n = rw (add-one n) refl

-- what is left of a list, from an entry on
pub left_from : {A : Type 0} (xs : List A) (i : ℕ) (x : A) → slice_get xs i ≡ Some x → drop i xs ≡ x ∷ drop (i + 1) xs
left_from xs i x e = drop_more xs i x (slice_get_within xs i x e) ∙ ap (λ y. y ∷ drop (i + 1) xs) (get_or_from_slice_get xs i x x e)

-- a name more
pub labels_next : (labels next all : SymbolTable) (names : List (List ℕ × Value)) (i : ℕ) (entry : List ℕ × Value)
    → labels_after labels (drop i names) ≡ all
    → slice_get names i ≡ Some entry → next ≡ with_label labels entry → labels_after next (drop (i + 1) names) ≡ all
unfolding labels_after
labels_next labels next all names i entry so_far here e =
    ap (λ known. labels_after known (drop (i + 1) names)) e ∙ (rw (left_from names i entry here) at so_far)

-- no name is left
pub labels_end : (labels all : SymbolTable) (names : List (List ℕ × Value)) (i : ℕ) → length names ≤ i
    → labels_after labels (drop i names) ≡ all → labels ≡ all
unfolding labels_after
labels_end labels all names i past so_far = rw (drop_all i names past) at so_far

-- the lines of a name more
pub texts_next : {A : Type 0} (f : A → List ℕ) (xs : List A) (i : ℕ) (x : A) (b c whole : List ℕ) → b ++ flat_map f (drop i xs) ≡ whole
    → slice_get xs i ≡ Some x
    → c ≡ b ++ f x → c ++ flat_map f (drop (i + 1) xs) ≡ whole
texts_next f xs i x b c whole so_far here e =
    ap (λ (t : List ℕ). t ++ flat_map f (drop (i + 1) xs)) e ∙ append_assoc b (f x) (flat_map f (drop (i + 1) xs))
    ∙ ap (λ (t : List ℕ). b ++ t) (sym (ap (flat_map f) (left_from xs i x here))) ∙ so_far

pub texts_end : {A : Type 0} (f : A → List ℕ) (xs : List A) (i : ℕ) (b whole : List ℕ) → length xs ≤ i → b ++ flat_map f (drop i xs) ≡ whole
    → b ≡ whole
texts_end f xs i b whole past so_far = sym (append-nil b) ∙ ap (λ (t : List ℕ). b ++ t) (sym (ap (flat_map f) (drop_all i xs past)))
    ∙ so_far

-- what is at a place, by whether something is and what
pub some_there : (slot : Option ℕ) → is_some slot ≡ true → Some (unwrap_or slot 0) ≡ slot
some_there (Some word) e = refl
some_there None e = absurd (let never : false ≡ true = e in cc)

pub none_there : (slot : Option ℕ) → is_some slot ≡ false → None ≡ slot
none_there None e = refl
none_there (Some word) e = absurd (let never : true ≡ false = e in cc)
