-- The last outputs with their steps, worked out by hand.
use Rattle.std.proofs.Common.{◌≡◌, ℕ, zero, suc, List, [], ◌∷◌, ◌++◌, Option, ap, ◌∙◌, refl}
use Rattle.std.specs.Prelude.{codes}
use Rattle.std.specs.Fmt.{digits}
use Rattle.words.specs.Numerals.{octal_text}
use Rattle.cpu.specs.State.{Scenario}
use Rattle.cpu.specs.Run.{out}
use Rattle.cpu.specs.declared.output.Output.{Output}
use Rattle.cpu.proofs.FiveRun.{five, ten}
use Rattle.debugger.specs.History.{History, history}
use Rattle.debugger.specs.Replies.{last_of}
use Rattle.debugger.specs.SteppedTail.{numbered, outputs_by_step, stepped_text, stepped_tail}
use Rattle.debugger.proofs.FiveRows.{history-five}

-- a program that adds five and five puts ten out as its step 4, after 7 cycles
entries : (ℕ → Option Output) → ℕ → List (ℕ × Output)
entries output zero = []
entries output (suc n) = entries output n ++ numbered (suc n) (output (suc n))

entries_are : (scenario : Scenario) (n : ℕ) → outputs_by_step scenario n ≡ entries (history scenario).output n
unfolding outputs_by_step entries history
entries_are scenario zero = refl
entries_are scenario (suc n) = ap (λ (xs : List (ℕ × Output)). xs ++ numbered (suc n) (out scenario (suc n))) (entries_are scenario n)

five_put_out : outputs_by_step five 8 ≡ (4, ten) ∷ []
unfolding entries
five_put_out = entries_are five 8 ∙ ap (λ (h : History). entries h.output 8) history-five ∙ refl

five_told : stepped_tail five 8 2 ≡ codes "STEP 4 7 CH 010 00012\nTAIL 1\n"
unfolding stepped_tail digits octal_text
five_told = ap (λ (xs : List (ℕ × Output)). stepped_text (last_of 2 xs)) five_put_out ∙ refl

five_told_none : stepped_tail five 8 0 ≡ codes "TAIL 0\n"
unfolding stepped_tail digits
five_told_none = ap (λ (xs : List (ℕ × Output)). stepped_text (last_of 0 xs)) five_put_out ∙ refl

-- the last of three, in the order of their steps
abbrev later : ℕ → Output
later cycles = record { cycles = cycles; channel = 8; word = 11 }

last_two : stepped_text (last_of 2 ((4, ten) ∷ (9, later 15) ∷ (14, later 23) ∷ []))
    ≡ codes "STEP 9 15 CH 010 00013\nSTEP 14 23 CH 010 00013\nTAIL 2\n"
unfolding digits octal_text
last_two = refl
