-- The first field of a text, and what follows it.
use Rattle.std.proofs.Common.{◌≡◌, ℕ, zero, suc, ◌+◌, ◌-◌, ◌<◌, ◌≤◌, true, false, not, eqb, List, [], ◌∷◌, length, get_or, drop, take, refl}
use Rattle.std.proofs.Common.{sym, ◌∙◌, ap, inl, inr, ◌⊎◌, arith}
use Rattle.std.specs.List.{position_or_len}
use Rattle.std.proofs.lemmas.Bool.{cases_Bool, cases_lt, ne_eqb}
use Rattle.std.proofs.lemmas.Grind.{common_steps}
use Rattle.std.proofs.lemmas.List.{get_or-drop, drop-drop, length-drop}
use Rattle.std.proofs.lemmas.List.Sums.{fails_before_first, passes_at_first}
use Rattle.agc_text.specs.Fields.{is_blank, is_run_start, run_at, runs, runs_within, runs_after, texts}
use Rattle.agc_text.proofs.Runs.{runs_is, runs_after_skip, runs_after_take, runs_after_end, within_no, within_yes}

-- no run goes on across the place: it is the first, or a blank stands before it, or at it
abbrev pub IsBetween : List ℕ → ℕ → Type 0
IsBetween text place = (place ≡ 0) ⊎ (is_blank (get_or text (place - 1) 0) ≡ true) ⊎ (is_blank (get_or text place 0) ≡ true)

same-first : (text : List ℕ) (p : ℕ) → IsBetween text p → is_run_start text p ≡ is_run_start (drop p text) 0
same-first text p (inl first) = grind (arith, common_steps, first)
same-first text p (inr (inl before)) = grind (arith, common_steps, before)
same-first text p (inr (inr at)) = grind (arith, common_steps, at)

same-start : (text : List ℕ) (p a : ℕ) → IsBetween text p → is_run_start text (p + a) ≡ is_run_start (drop p text) a
same-start text p zero between = let at : p + 0 ≡ p = omega arith in ap (is_run_start text) at ∙ same-first text p between
same-start text p (suc b) between =
    let here : get_or (drop p text) (suc b) 0 ≡ get_or text (p + suc b) 0 = rw get_or-drop refl in
    let before : get_or (drop p text) (suc b - 1) 0 ≡ get_or text (p + suc b - 1) 0 = let at : p + (suc b - 1)
    ≡ p + suc b - 1 = omega arith in rw
    (get_or-drop, at) refl in
    let late : eqb (p + suc b) 0 ≡ false = ne_eqb (p + suc b) 0 (λ none. omega (arith, none)) in
    let some : eqb (suc b) 0 ≡ false = ne_eqb (suc b) 0 (λ none. omega (arith, none)) in
    rw (here, before, late, some) refl

-- the runs of what follows such a place have the same bytes
texts-within : (text : List ℕ) (p a m n : ℕ) → IsBetween text p → m ≡ p + a
    → texts (runs_within text m n) ≡ texts (runs_within (drop p text) a n)
texts-within text p a m zero between at = refl
texts-within text p a m (suc n) between at =
    let same : is_run_start text m ≡ is_run_start (drop p text) a = ap (is_run_start text) at ∙ same-start text p a between in
    let later = texts-within text p (a + 1) (m + 1) n between (omega (arith, at)) in
    let bytes : drop m text ≡ drop a (drop p text) = ap (λ k. drop k text) at ∙ sym (drop-drop a p text) in
    elim (cases_Bool (is_run_start (drop p text) a)) [
      | inl here ↦
          rw (within_yes text m n (suc n) refl (same ∙ here), within_yes (drop p text) a n (suc n) refl here)
          (ap (λ t. t ∷ texts (runs_within text (m + 1) n)) (ap (λ bs. (run_at bs 0).text) bytes)
          ∙ ap (λ ts. (run_at (drop p text) a).text ∷ ts) later)
      | inr none ↦ rw (within_no text m n (suc n) refl (same ∙ none), within_no (drop p text) a n (suc n) refl none) later
    ]

-- the runs of what follows a place
texts-after : (text : List ℕ) (p : ℕ) → IsBetween text p → texts (runs_after text p) ≡ texts (runs (drop p text))
unfolding runs runs_after
texts-after text p between =
    let long : length (drop p text) ≡ length text - p = length-drop p text in
    texts-within text p 0 p (length text - p) between (omega arith) ∙ ap (λ n. texts (runs_within (drop p text) 0 n)) (sym long)

blank-before : (text : List ℕ) (k : ℕ) → k < position_or_len (λ b. not (is_blank b)) text → is_blank (get_or text k 0) ≡ true
blank-before text k lt = let fails = fails_before_first (λ b. not (is_blank b)) text k 0 lt in grind (arith, common_steps, fails)

after-blanks : (text : List ℕ) (d : ℕ) → d ≡ position_or_len (λ b. not (is_blank b)) text → IsBetween text d
after-blanks text zero is = inl refl
after-blanks text (suc k) is = inr (inl (let same : suc k - 1 ≡ k = omega arith in rw same (blank-before text k (omega (arith, is)))))

-- blanks at the front have no run
pub texts-skip : (text : List ℕ) (d : ℕ) → d ≡ position_or_len (λ b. not (is_blank b)) text → texts (runs text) ≡ texts (runs (drop d text))
texts-skip text d is =
    ap texts (runs_is text)
    ∙ ap texts (runs_after_skip text 0 d (omega arith)
    (λ k lo hi _. let blank = blank-before text k (omega (arith, is, hi)) in grind (arith, common_steps, blank)))
    ∙ texts-after text d (after-blanks text d is)

no-bytes : texts (runs []) ≡ []
unfolding runs
no-bytes = refl

pub texts-none : (text : List ℕ) → length text ≡ 0 → texts (runs text) ≡ []
texts-none [] none = no-bytes
texts-none (b ∷ text) none = absurd (omega arith)

past-nil : (text : List ℕ) (n : ℕ) → length text ≤ n → drop n text ≡ []
past-nil [] zero h = refl
past-nil [] (suc n) h = refl
past-nil (b ∷ text) zero h = absurd (omega arith)
past-nil (b ∷ text) (suc n) h = past-nil text n (omega arith)

-- the run at the front, and what follows it
pub texts-take : (text : List ℕ) (n : ℕ) → 0 < length text → is_blank (get_or text 0 0) ≡ false → n ≡ position_or_len is_blank text
    → texts (runs text) ≡ take n text ∷ texts (runs (drop n text))
texts-take text n some first is =
    let start : is_run_start text 0 ≡ true = grind (arith, common_steps, first) in
    ap texts (runs_is text) ∙ ap texts (runs_after_take text 0 some start)
    ∙ ap (λ ts. (run_at text 0).text ∷ ts) (ap (λ k. texts (runs_after text k))
    (let at : 0 + position_or_len is_blank text ≡ n = omega (arith, is) in at) ∙ rest)
    ∙ ap (λ k. take k text ∷ texts (runs (drop n text))) (sym is)
  where
    rest : texts (runs_after text n) ≡ texts (runs (drop n text))
    rest = elim (cases_lt n (length text)) [
      | inl within ↦ texts-after text n (inr (inr (rw is (passes_at_first is_blank text 0 (omega (arith, is, within))))))
      | inr past ↦ ap texts (runs_after_end text n past) ∙ sym (ap (λ t. texts (runs t)) (past-nil text n past) ∙ no-bytes)
    ]

-- the byte after blanks is none
pub after-first : (text : List ℕ) (d : ℕ) → d ≡ position_or_len (λ b. not (is_blank b)) text → 0 < length (drop d text)
    → is_blank (get_or (drop d text) 0 0) ≡ false
after-first text d is some =
    let long = length-drop d text in
    let passes = passes_at_first (λ b. not (is_blank b)) text 0 (omega (arith, is, long)) in
    rw get_or-drop (let at : d + 0 ≡ d = omega arith in rw (at, is)
    (no-blank (get_or text (position_or_len (λ b. not (is_blank b)) text) 0) passes))
  where
    no-blank : (b : ℕ) → not (is_blank b) ≡ true → is_blank b ≡ false
    no-blank b h = grind (arith, common_steps, h)
