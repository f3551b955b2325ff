-- What steps put out, word by word.
use Rattle.std.proofs.Common.{◌≡◌, ℕ, zero, suc, ◌+◌, ◌-◌, ◌<◌, ◌≤◌, ◌++◌, [], Option, None, refl, sym, ap, ◌∙◌, add-one, arith, inl, inr}
use Rattle.std.proofs.Common.{◌⊎◌}
use Rattle.cpu.specs.Run.{out}
use Rattle.cpu.specs.Silent.{IsSilent}
use Rattle.cpu.specs.State.{Scenario}
use Rattle.cpu.specs.declared.output.Output.{Output}
use Rattle.differ.specs.Outputs.{put_of, puts}

pub puts_none : (scenario : Scenario) (n k : ℕ) → k ≡ 0 → puts scenario n k ≡ []
unfolding puts
puts_none scenario n k none = rw none refl

puts_suc : (scenario : Scenario) (n k : ℕ) → puts scenario n (suc k) ≡ put_of (n + 1) (out scenario (n + 1)) ++ puts scenario (n + 1) k
unfolding puts
puts_suc scenario n k = refl

pub puts_one : (scenario : Scenario) (n steps : ℕ) → n < steps
    → puts scenario n (steps - n) ≡ put_of (n + 1) (out scenario (n + 1)) ++ puts scenario (n + 1) (steps - (n + 1))
puts_one scenario n steps lt =
    let more : steps - n ≡ suc (steps - (n + 1)) = omega (arith, lt) in
    ap (puts scenario n) more ∙ puts_suc scenario n (steps - (n + 1))

earlier_or_last : (k n : ℕ) → k ≤ n + 1 → (k ≤ n) ⊎ (k ≡ n + 1)
earlier_or_last k n h = grind arith

-- steps that put nothing out
pub puts_silent : (scenario : Scenario) (m n steps : ℕ) → m ≤ n → n ≤ steps → IsSilent scenario m n
    → puts scenario m (steps - m) ≡ puts scenario n (steps - n)
puts_silent scenario m zero steps le within silent = let same : m ≡ 0 = omega (arith, le) in rw same refl
puts_silent scenario m (suc n) steps le within silent = elim (earlier_or_last m n (omega (arith, le))) [
  | inl less ↦
      let before = puts_silent scenario m n steps less (omega (arith, within)) (λ k low high. silent k low (omega (arith, high))) in
      let none : out scenario (n + 1) ≡ None = silent (n + 1) (omega (arith, less)) (omega arith) in
      let one = puts_one scenario n steps (omega (arith, within)) in
      before ∙ one ∙ ap (λ (o : Option Output). put_of (n + 1) o ++ puts scenario (n + 1) (steps - (n + 1))) none
      ∙ ap (λ (k : ℕ). puts scenario k (steps - k)) (add-one n)
  | inr same ↦ ap (λ (k : ℕ). puts scenario k (steps - k)) (same ∙ add-one n)
]

-- on to the step that puts something out
pub puts_on : (scenario : Scenario) (m n steps : ℕ) → m < n → n ≤ steps → IsSilent scenario m (n - 1)
    → puts scenario m (steps - m) ≡ put_of n (out scenario n) ++ puts scenario n (steps - n)
puts_on scenario m n steps lt within silent =
    let back : n - 1 + 1 ≡ n = omega (arith, lt) in
    puts_silent scenario m (n - 1) steps (omega (arith, lt)) (omega (arith, within)) silent
    ∙ puts_one scenario (n - 1) steps (omega (arith, lt, within))
    ∙ ap (λ (k : ℕ). put_of k (out scenario k) ++ puts scenario k (steps - k)) back
