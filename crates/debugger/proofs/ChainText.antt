-- The text of a chain link by link.
use Rattle.std.proofs.Common.{◌++◌, ◌≡◌, ℕ, suc, ◌==◌, false, true, List, length}
use Rattle.std.proofs.Common.{Some, None, Option, refl, ap, ◌∙◌, arith, append_assoc}
use Rattle.std.proofs.lemmas.Bool.Decides.{nat_tests}
use Rattle.symbols.specs.Values.{SymbolTable}
use Rattle.cpu.specs.State.{Scenario}
use Rattle.cpu.specs.Chains.{before_step}
use Rattle.cpu.specs.declared.spot.Spot.{Spot}
use Rattle.replay.specs.Whys.{and_then, last_writer, why_steps}
use Rattle.commands.specs.declared.extended.LinkLines.{LinkLines}
use Rattle.debugger.specs.Whys.{link_lines, chain_text, end_from, chained_text, why_text}

-- the text of a chain
module _ (symbols : SymbolTable) (scenario : Scenario) (lines : LinkLines) (p : ℕ) (xs : List Spot) where
  pub why_zero : why_text symbols scenario lines 0 p xs ≡ end_from symbols true xs
  unfolding why_text why_steps
  why_zero = refl

  pub why_none : (k : ℕ) → last_writer scenario xs p ≡ None → why_text symbols scenario lines (suc k) p xs ≡ end_from symbols false xs
  unfolding why_text why_steps
  why_none k none =
      let short : (0 == suc k) ≡ false = grind (arith, nat_tests) in
      ap (λ (o : Option ℕ). chained_text symbols scenario lines (suc k) xs
      (and_then o (λ t. why_steps scenario k t (before_step scenario t xs)))) none
      ∙ ap (λ b. end_from symbols b xs) short

  pub why_some : (k t : ℕ) → last_writer scenario xs p ≡ Some t
      → why_text symbols scenario lines (suc k) p xs
      ≡ link_lines symbols scenario lines t xs ++ why_text symbols scenario lines k t (before_step scenario t xs)
  unfolding why_text why_steps
  why_some k t some =
      let ts = why_steps scenario k t (before_step scenario t xs) in
      let one : (suc (length ts) == suc k) ≡ (length ts == k) = grind (arith, nat_tests) in
      rw (some, one) (append_assoc (link_lines symbols scenario lines t xs)
      (chain_text symbols scenario lines (before_step scenario t xs) ts) _)
