-- What is told is told of the run.
use Rattle.std.proofs.Common.{◌≡◌, ◌<◌, ◌≤◌, ◌-◌, ◌==◌, ℕ, Bool, true, false, if◌then◌else◌, nat_lt, List, [], length, get_or, None, ◌∙◌}
use Rattle.std.proofs.Common.{ap, refl, inl, inr, arith}
use Rattle.std.proofs.lemmas.Bool.{cases_Bool}
use Rattle.std.proofs.lemmas.Bool.Decides.{nat_tests}
use Rattle.std.proofs.lemmas.List.{get_or_past}
use Rattle.rope.specs.Places.{Words}
use Rattle.symbols.specs.Values.{SymbolTable}
use Rattle.cpu.specs.State.{Scenario}
use Rattle.delays.specs.declared.mark.Best.{Best}
use Rattle.delays.specs.DelayText.{best_row, delays_text, Figures, figures_in, figures_of, first_call, first_span, first_wait, part_text}
use Rattle.delays.specs.DelayText.{parts_text, waits_of}
use Rattle.delays.specs.Tallies.{Delayed, mark_in, Measures}
use Rattle.delays.specs.Spans.{mark, wait_rows}

waits_are : (scenario : Scenario) (n : ℕ) (d : Delayed) → Measures scenario n d → (k : ℕ) → get_or d.waits k None ≡ waits_of scenario n k
waits_are scenario n d m k =
    let long = m.places in
    elim (cases_Bool (nat_lt k wait_rows)) [
      | inl within ↦ rw within (m.waits k (below k within))
      | inr beyond ↦ rw beyond (get_or_past d.waits k None (past k (length d.waits) long beyond))
    ]
  where
    below : (k : ℕ) → nat_lt k wait_rows ≡ true → k < wait_rows
    below k e = grind (arith, nat_tests)

    past : (k long : ℕ) → long ≡ wait_rows → nat_lt k wait_rows ≡ false → long ≤ k
    past k long e h = grind (arith, nat_tests)

now_is : (scenario : Scenario) (n : ℕ) (d : Delayed) → Measures scenario n d → mark_in d d.cycles ≡ mark scenario n
now_is scenario n d m = λ i. record { step = m.steps i; cycles = m.cycles i; spent = m.spent i }

figures_are : (scenario : Scenario) (n : ℕ) (d : Delayed) → Measures scenario n d → figures_in d ≡ figures_of scenario n
figures_are scenario n d m = λ i. record {
  steps = m.steps i;
  spent = m.spent i;
  now = now_is scenario n d m i;
  waits = λ k. waits_are scenario n d m k i;
  closed = m.closed i;
  waited = λ row. m.waited.bests row i;
  spans = λ row. m.spans.bests row i;
  called = λ row. m.called.bests row i;
}

pub text_is : (symbols : SymbolTable) (scenario : Scenario) (n : ℕ) (d : Delayed) (words : Words)
    → Measures scenario n d → words ≡ scenario.rope → parts_text symbols words (figures_in d) ≡ delays_text symbols scenario n
text_is symbols scenario n d words measures e =
    ap (λ (f : Figures). parts_text symbols words f) (figures_are scenario n d measures)
    ∙ ap (λ w. parts_text symbols w (figures_of scenario n)) e

-- of no stretch there is no row
pub no_row : (word : List ℕ) (b : Best) (name to : List ℕ) → b.count ≡ 0 → best_row word b name to ≡ []
unfolding best_row
no_row word b name to e = rw e refl

-- a part of no stretch is empty
not_zero : (k : ℕ) → 1 ≤ k → (k == 0) ≡ false
not_zero k some = grind (arith, nat_tests)

not_below : (k n : ℕ) → n ≤ k → nat_lt k n ≡ false
not_below k n past = grind (arith, nat_tests)

is_below : (k n : ℕ) → k < n → nat_lt k n ≡ true
is_below k n within = grind (arith, nat_tests)

fourth : (a b c d : Bool) (v w x y z : List ℕ) → a ≡ false → b ≡ false → c ≡ false → d ≡ true
    → (if a then v else (if b then w else (if c then x else (if d then y else z)))) ≡ y
fourth a b c d v w x y z e f g h = rw (e, f, g, h) refl

fifth : (a b c d : Bool) (v w x y z : List ℕ) → a ≡ false → b ≡ false → c ≡ false → d ≡ false
    → (if a then v else (if b then w else (if c then x else (if d then y else z)))) ≡ z
fifth a b c d v w x y z e f g h = rw (e, f, g, h) refl

pub blank_span : (symbols : SymbolTable) (words : Words) (f : Figures) (part : ℕ) → first_span ≤ part → part < first_call
    → (f.spans (part - first_span)).count ≡ 0 → part_text symbols words f part ≡ []
unfolding part_text
blank_span symbols words f part low high none =
    fourth (part == 0) (nat_lt part first_wait) (nat_lt part first_span) (nat_lt part first_call) _ _ _ _ _
    (not_zero part (omega (arith, low))) (not_below part first_wait (omega (arith, low))) (not_below part first_span low)
    (is_below part first_call high)
    ∙ no_row _ (f.spans (part - first_span)) _ _ none

pub blank_call : (symbols : SymbolTable) (words : Words) (f : Figures) (part : ℕ) → first_call ≤ part
    → (f.called (part - first_call)).count ≡ 0 → part_text symbols words f part ≡ []
unfolding part_text
blank_call symbols words f part low none =
    fifth (part == 0) (nat_lt part first_wait) (nat_lt part first_span) (nat_lt part first_call) _ _ _ _ _
    (not_zero part (omega (arith, low))) (not_below part first_wait (omega (arith, low))) (not_below part first_span (omega (arith, low)))
    (not_below part first_call low)
    ∙ no_row _ (f.called (part - first_call)) _ _ none
