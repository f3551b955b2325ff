-- Texts that are written part by part, while what is left of them is known.
use Rattle.std.proofs.Common.{◌≡◌, ◌<◌, ◌+◌, List, ℕ, Some, [], ◌∷◌, ◌++◌, drop, get_or, length, refl, sym, ap, ◌∙◌, append_assoc, append-nil}
use Rattle.std.proofs.lemmas.List.{drop_more}
use Rattle.std.proofs.lemmas.Option.{slice_get_within, get_or_from_slice_get}
use Rattle.std.specs.List.{slice_get, flat_map}
use Rattle.std.specs.Prelude.{Result}
use Rattle.words.specs.Devices.{Writes, WritesBeginning}
use Rattle.words.proofs.Texts.{Writes-after, append-then, beginning-after, beginning-along, first_begins}

-- so far a part of a whole was written, and this is left
pub record SoFar (old new whole left : List ℕ) : Type 0 where
  pub part : List ℕ
  pub written : new ≡ old ++ part
  pub split : whole ≡ part ++ left

pub so_far_start : (old whole : List ℕ) → SoFar old old whole whole
so_far_start old whole = record { part = []; written = sym (append-nil old); split = refl }

-- a text more
pub so_far_more : (old new whole left text more then : List ℕ) → SoFar old new whole left → left ≡ text ++ more → then ≡ new ++ text
    → SoFar old then whole more
so_far_more old new whole left text more then so_far is made = record {
  part = so_far.part ++ text;
  written = append-then old new then so_far.part text so_far.written made;
  split = so_far.split ∙ ap (λ (t : List ℕ). so_far.part ++ t) is ∙ sym (append_assoc so_far.part text more);
}

-- nothing more
pub so_far_same : (old new whole left more : List ℕ) → SoFar old new whole left → left ≡ more → SoFar old new whole more
so_far_same old new whole left more so_far is = record {
  part = so_far.part;
  written = so_far.written;
  split = so_far.split ∙ ap (λ (t : List ℕ). so_far.part ++ t) is;
}

-- a beginning of a text more
pub so_far_breaks : (old new whole left text more then : List ℕ) → SoFar old new whole left → left ≡ text ++ more
    → WritesBeginning new then text
    → WritesBeginning old then whole
so_far_breaks old new whole left text more then so_far is made =
    let here : WritesBeginning old then (so_far.part ++ text) = beginning-after old new then so_far.part text so_far.written made in
    let all : whole ≡ (so_far.part ++ text) ++ more = so_far.split ∙ ap (λ (t : List ℕ). so_far.part ++ t) is
    ∙ sym (append_assoc so_far.part text more) in
    rw all (beginning-along old then (so_far.part ++ text) ((so_far.part ++ text) ++ more) here (first_begins (so_far.part ++ text) more))

-- all of it
pub so_far_ends : (old new whole left : List ℕ) → SoFar old new whole left → left ≡ [] → new ≡ old ++ whole
so_far_ends old new whole left so_far is =
    let all : whole ≡ so_far.part = so_far.split ∙ ap (λ (t : List ℕ). so_far.part ++ t) is ∙ append-nil so_far.part in
    rw all so_far.written

-- the last text, all of it or a beginning
pub so_far_last : {T E : Type 0} (old new whole left text then : List ℕ) (r : Result T E) → SoFar old new whole left → left ≡ text
    → Writes new then text r → Writes old then whole r
so_far_last old new whole left text then r so_far is made = rw (so_far.split ∙ ap (λ (t : List ℕ). so_far.part ++ t) is)
    (Writes-after old new then so_far.part text r so_far.written made)

-- ## The texts of the entries of a list
-- the entries from one on
pub from_entry : {A : Type 0} (xs : List A) (i : ℕ) (x : A) → slice_get xs i ≡ Some x → drop i xs ≡ x ∷ drop (i + 1) xs
from_entry xs i x e = drop_more xs i x (slice_get_within xs i x e) ∙ ap (λ y. y ∷ drop (i + 1) xs) (get_or_from_slice_get xs i x x e)

pub from_one : {A : Type 0} (xs : List A) (i : ℕ) (x : A) → i < length xs → x ≡ get_or xs i x → drop i xs ≡ x ∷ drop (i + 1) xs
from_one xs i x lt e = drop_more xs i x lt ∙ ap (λ y. y ∷ drop (i + 1) xs) (sym e)

-- their texts
pub texts_from_entry : {A : Type 0} (f : A → List ℕ) (xs : List A) (i : ℕ) (x : A) → slice_get xs i ≡ Some x
    → flat_map f (drop i xs) ≡ f x ++ flat_map f (drop (i + 1) xs)
texts_from_entry f xs i x e = ap (flat_map f) (from_entry xs i x e)

pub texts_from_one : {A : Type 0} (f : A → List ℕ) (xs : List A) (i : ℕ) (x : A) → i < length xs → x ≡ get_or xs i x
    → flat_map f (drop i xs) ≡ f x ++ flat_map f (drop (i + 1) xs)
texts_from_one f xs i x lt e = ap (flat_map f) (from_one xs i x lt e)
