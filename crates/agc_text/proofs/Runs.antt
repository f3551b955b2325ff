use Rattle.std.proofs.Common.{min, IfSome, ◌≡◌, ◌≢◌, ℕ, zero, suc, ◌+◌, ◌-◌, ◌<◌, ◌≤◌, Bool, true, false, not, ◌&&◌, nat_le, List, [], ◌∷◌}
use Rattle.std.proofs.Common.{length, Option, Some, None, get_or, drop, take, refl, ◌∙◌, ap, inl, inr, arith}
use Rattle.std.specs.List.{find, slice_get, position_or_len}
use Rattle.std.proofs.lemmas.Bool.{cases_lt, cases_Bool, le-leb, lt-leb, ne_eqb}
use Rattle.std.proofs.lemmas.List.{get_or-drop, length-take, drop-take, take-take}
use Rattle.std.proofs.lemmas.List.Sums.{fails_before_first, prefix_len-drop_yes}
use Rattle.std.proofs.lemmas.Grind.{common_steps}
use Rattle.agc_text.specs.Fields.{Piece, is_blank, is_run_start, run_at, runs, runs_within, runs_after, label_of, others_of}
use Rattle.agc_text.specs.Views.{piece, end_of, runs_from, IsSliceOf}
use Rattle.agc_text.specs.declared.fields.Field.{Field}
use Rattle.std.specs.Option.{option_map}
use Rattle.std.proofs.lemmas.List.Folds.{length-prefix_len}

-- all runs begin at 0 or later
pub runs_is : (text : List ℕ) → runs text ≡ runs_after text 0
unfolding runs runs_after
runs_is text = let e : length text - 0 ≡ length text = omega arith in rw e refl

-- one place at which no run begins
pub within_no : (text : List ℕ) (a n m : ℕ) → m ≡ suc n → is_run_start text a ≡ false → runs_within text a m ≡ runs_within text (a + 1) n
within_no text a n m e here = rw (e, here) refl

-- one place at which a run begins
pub within_yes : (text : List ℕ) (a n m : ℕ) → m ≡ suc n → is_run_start text a ≡ true
    → runs_within text a m ≡ run_at text a ∷ runs_within text (a + 1) n
within_yes text a n m e here = rw (e, here) refl

-- d places at which no run begins
within_skip : (text : List ℕ) (d a n m b : ℕ) → m ≡ d + n → b ≡ a + d → ((k : ℕ) → a ≤ k → k < b → is_run_start text k ≡ false)
    → runs_within text a m ≡ runs_within text b n
within_skip text zero a n m b e f none = let p : m ≡ n = omega arith in let q : b ≡ a = omega arith in rw (p, q) refl
within_skip text (suc d) a n m b e f none =
    within_no text a (d + n) m (omega arith) (none a (omega arith) (omega arith))
    ∙ within_skip text d (a + 1) n (d + n) b refl (omega arith) (λ k lo hi. none k (omega arith) hi)

-- no run begins from `from` up to `to`
pub runs_after_skip : (text : List ℕ) (from to : ℕ) → from ≤ to
    → ((k : ℕ) → from ≤ k → k < to → k < length text → is_run_start text k ≡ false) → runs_after text from ≡ runs_after text to
unfolding runs_after
runs_after_skip text from to le none =
    elim (cases_lt (length text) to) [
      | inl past ↦
          elim (cases_lt (length text) from) [
            | inl beyond ↦
                let e : length text - from ≡ 0 = omega arith in
                let f : length text - to ≡ 0 = omega arith in
                rw (e, f) refl
            | inr within ↦
                let f : length text - to ≡ 0 = omega arith in
                rw f (within_skip text (length text - from) from 0 (length text - from) (length text) (omega arith) (omega arith)
                (λ k lo hi. none k lo (omega arith) hi))
          ]
      | inr within ↦ within_skip text (to - from) from (length text - to) (length text - from) to (omega arith) (omega arith)
          (λ k lo hi. none k lo hi (omega arith))
    ]

-- no run begins inside the run at a place
inside : (text : List ℕ) (start k : ℕ) → start < k → k < start + position_or_len is_blank (drop start text) → is_run_start text k ≡ false
inside text start k above below =
    let before : is_blank (get_or (drop start text) (k - 1 - start) 0)
    ≡ false = fails_before_first is_blank (drop start text) (k - 1 - start) 0 (omega arith) in
    let e : start + (k - 1 - start) ≡ k - 1 = omega arith in
    let same : is_blank (get_or text (k - 1) 0) ≡ false = rw (get_or-drop, e) at before in
    grind (arith, common_steps, same)

and_left : (a b : Bool) → (a && b) ≡ true → a ≡ true
and_left true b h = refl
and_left false b h = h

-- the runs from a place at which one begins
pub runs_after_take : (text : List ℕ) (start : ℕ) → start < length text → is_run_start text start ≡ true
    → runs_after text start ≡ run_at text start ∷ runs_after text (start + position_or_len is_blank (drop start text))
unfolding runs_after
runs_after_take text start lt here =
    let e : length text - start ≡ suc (length text - (start + 1)) = omega arith in
    let full : 1 ≤ position_or_len is_blank (drop start text) = omega
    (arith, prefix_len-drop_yes (λ x. not (is_blank x)) text start 0 lt (and_left _ _ here)) in
    within_yes text start (length text - (start + 1)) (length text - start) e here
    ∙ ap (λ rest. run_at text start ∷ rest) (runs_after_skip text (start + 1) (start + position_or_len is_blank (drop start text))
    (omega arith) (λ k lo hi _. inside text start k (omega arith) hi))

-- there are none past the end
pub runs_after_end : (text : List ℕ) (from : ℕ) → length text ≤ from → runs_after text from ≡ []
unfolding runs_after
runs_after_end text from le = let e : length text - from ≡ 0 = omega arith in rw e refl

-- where all places are from `from` on, the first run is found
found_here : (text : List ℕ) (from n a m : ℕ) → m ≡ n → from ≤ a
    → find (λ f. nat_le from f.start) (runs_within text a m) ≡ slice_get (runs_within text a m) 0
found_here text from zero a m e le = rw e refl
found_here text from (suc n) a m e le =
    elim (cases_Bool (is_run_start text a)) [
      | inl here ↦ rw (within_yes text a n m e here, le-leb from a le) refl
      | inr gone ↦ rw (within_no text a n m e gone) (found_here text from n (a + 1) n refl (omega arith))
    ]

-- a run that begins before `from` is passed over
passed : (from : ℕ) (f : Piece) (fs : List Piece) → f.start < from
    → find (λ g. nat_le from g.start) (f ∷ fs) ≡ find (λ g. nat_le from g.start) fs
passed from f fs lt = rw (lt-leb from f.start lt) refl

-- where places before `from` come first, their runs are passed over
found_later : (text : List ℕ) (from n a m b : ℕ) → m ≡ n → a ≤ from → b ≡ a + n - from
    → find (λ f. nat_le from f.start) (runs_within text a m) ≡ slice_get (runs_within text from b) 0
found_later text from zero a m b e le f = let z : b ≡ 0 = omega arith in rw (e, z) refl
found_later text from (suc n) a m b e le f =
    elim (cases_lt a from) [
      | inr same ↦ let p : a ≡ from = omega arith in let q : b
          ≡ m = omega arith in rw (p, q) (found_here text from m from m refl (omega arith))
      | inl before ↦
          let rest : find (λ f. nat_le from f.start) (runs_within text (a + 1) n)
          ≡ slice_get (runs_within text from b) 0 = found_later text from n (a + 1) n b refl (omega arith) (omega arith) in
          elim (cases_Bool (is_run_start text a)) [
            | inl here ↦ rw (within_yes text a n m e here) (passed from (run_at text a) (runs_within text (a + 1) n) before ∙ rest)
            | inr gone ↦ rw (within_no text a n m e gone) rest
          ]
    ]

-- the first field from `from` on
pub find_run : (text : List ℕ) (from : ℕ) → find (λ f. nat_le from f.start) (runs text) ≡ slice_get (runs_after text from) 0
unfolding runs runs_after
find_run text from = found_later text from (length text) 0 (length text) (length text - from) refl (omega arith) (omega arith)

-- the runs from a place at which one begins, by the field that stands there
pub take_at : (text : List ℕ) (start : ℕ) (f : Field) → start < length text → is_run_start text start ≡ true → piece f ≡ run_at text start
    → runs_after text start ≡ piece f ∷ runs_after text (end_of f)
take_at text start f lt here is =
    let length_is : length f.text.now ≡ position_or_len is_blank (drop start text) =
    ap (λ s. length s.text) is ∙ length-prefix_len (λ x. not (is_blank x)) (drop start text) in
    let start_is : f.start ≡ start = ap (λ s. s.start) is in
    rw (is, length_is, start_is) (runs_after_take text start lt here)

-- the first of the runs from a field on is the field
pub head_of : (text : List ℕ) (f : Option Field) → slice_get (runs_from text f) 0 ≡ option_map piece f
head_of text None = refl
head_of text (Some f) = refl

-- a slice of a line's front is one of the line
pub slice_of_front : (line : List ℕ) (n : ℕ) (f : Field) → IsSliceOf (take n line) f → IsSliceOf line f
slice_of_front line n f is =
    let shorter : length (take n line) ≡ min n (length line) = length-take n line in
    let split : n ≡ f.start + (n - f.start) = omega (arith, shorter, is.within) in
    let same : drop f.start (take n line) ≡ take (n - f.start) (drop f.start line) =
    ap (λ m. drop f.start (take m line)) split ∙ drop-take f.start (n - f.start) line in
    record {
      within = omega (arith, shorter, is.within);
      slice = is.slice ∙ ap (take (end_of f - f.start)) same
          ∙ take-take (end_of f - f.start) (n - f.start) (drop f.start line) (omega (arith, shorter, is.within));
    }

-- the same of a field that may be there
pub slice_if : (line : List ℕ) (n : ℕ) (f : Option Field) → IfSome f (IsSliceOf (take n line)) → IfSome f (IsSliceOf line)
slice_if line n None is = is
slice_if line n (Some f) is = slice_of_front line n f is

-- a first run that begins at the first byte is the label
pub label_is : (text : List ℕ) (f : Field) → piece f ∷ runs_after text (end_of f) ≡ runs_after text 0 → f.start ≡ 0
    → (Some (piece f) ≡ label_of (runs text)) × (runs_after text (end_of f) ≡ others_of (runs text))
label_is text f first at_start = rw (runs_is text, ← first, at_start) (refl, refl)

-- any other is none
pub no_label : (text : List ℕ) (f : Option Field) → runs_from text f ≡ runs_after text 0 → IfSome f (λ g. g.start ≢ 0)
    → (None ≡ label_of (runs text)) × (runs_from text f ≡ others_of (runs text))
no_label text None first later = rw (runs_is text, ← first) (refl, refl)
no_label text (Some f) first later = rw (runs_is text, ← first, ne_eqb f.start 0 later) (refl, refl)
