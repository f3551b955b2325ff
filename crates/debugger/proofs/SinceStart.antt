-- `why` since the first step is `why`.
use Rattle.std.proofs.Common.{◌≡◌, ℕ, zero, suc, ◌-◌, ◌≤◌, leb, true, false, cond, List, [], ◌∷◌, ◌++◌, Option, Some, None, refl}
use Rattle.std.proofs.Common.{sym, ap, ◌∙◌, arith}
use Rattle.std.proofs.lemmas.Bool.Decides.{nat_tests}
use Rattle.symbols.specs.Values.{SymbolTable}
use Rattle.cpu.specs.State.{Scenario}
use Rattle.cpu.specs.Run.{run}
use Rattle.cpu.specs.Links.{targets}
use Rattle.cpu.specs.Chains.{cells_among, link_at, before_step}
use Rattle.cpu.specs.NextStep.{next_step}
use Rattle.cpu.specs.declared.spot.Spot.{Spot}
use Rattle.replay.specs.Whys.{last_writer}
use Rattle.commands.specs.declared.extended.IndexLines.{IndexLines}
use Rattle.commands.specs.declared.extended.IndexLines.TheVariants.{Omitted, Told}
use Rattle.commands.specs.declared.extended.LinkLines.{LinkLines}
use Rattle.origins.specs.Following.{cells_of}
use Rattle.debugger.specs.Whys.{added_by, end_text, entered_mark, index_line, index_part, last_executed, last_outside}
use Rattle.origins.specs.Following.{those_in}
use Rattle.debugger.specs.Whys.{link_lines, mark_part, marked_line, moved_line, place_part, step_line, why_text}
use Rattle.debugger.specs.WhysSince.{end_since, entered_since, index_since, lines_since, mark_since, moved_since, since_step}
use Rattle.debugger.specs.WhysSince.{since_text}
use Rattle.debugger.proofs.ChainText.{why_zero, why_none, why_some}
use Rattle.debugger.proofs.SinceLines.{since_zero, since_none, since_some}

always : (t : ℕ) → leb 0 t ≡ true
always t = grind (arith, nat_tests)

module _ (symbols : SymbolTable) (scenario : Scenario) (lines : LinkLines) (since : ℕ) (none_before : since - 1 ≡ 0)
    (is_first : leb since 1 ≡ true) where
  step_same : (o : Option ℕ) → since_step since o ≡ o
  step_same None = refl
  step_same (Some t) = rw (none_before, always t) refl

  entered_same : (o : Option ℕ) → entered_since since o ≡ entered_mark o
  entered_same None = rw is_first refl
  entered_same (Some t) = refl

  mark_same : (t : ℕ) → mark_since scenario since t ≡ mark_part scenario t
  mark_same t = ap (λ (m : List ℕ). cond (run scenario t).inside m [])
      (entered_same (since_step since (last_outside scenario t)) ∙ ap entered_mark (step_same (last_outside scenario t)))

  moved_same : (t : ℕ) (o : Option ℕ) → moved_since symbols scenario since t o ≡ moved_line symbols scenario t o
  moved_same t None = refl
  moved_same t (Some sum) = ap (index_line symbols scenario sum) (step_same (last_executed scenario t))

  index_same : (index : IndexLines) (t : ℕ) → index_since symbols scenario index since t ≡ index_part symbols scenario index t
  index_same Omitted t = refl
  index_same Told t = moved_same t (added_by (next_step scenario (run scenario t)))

  lines_same : (t : ℕ) (xs : List Spot) → lines_since symbols scenario lines since t xs ≡ link_lines symbols scenario lines t xs
  unfolding step_line
  lines_same t xs =
      let cs = those_in (targets (link_at scenario t)) (cells_among xs) in
      ap (λ (m : List ℕ). marked_line symbols scenario t cs m ++ place_part scenario lines.places t
      ++ index_since symbols scenario lines.index since t) (mark_same t)
      ∙ ap (λ (y : List ℕ). marked_line symbols scenario t cs (mark_part scenario t) ++ place_part scenario lines.places t ++ y)
      (index_same lines.index t)

  end_same : (cs : List ℕ) → end_since symbols since cs ≡ end_text symbols false cs
  end_same [] = refl
  end_same (c ∷ cs) = rw is_first refl

  text_by : (k p : ℕ) (xs : List Spot) (o : Option ℕ) → last_writer scenario xs p ≡ o
      → ((t : ℕ) (ys : List Spot) → since_text symbols scenario lines since k t ys ≡ why_text symbols scenario lines k t ys)
      → since_text symbols scenario lines since (suc k) p xs ≡ why_text symbols scenario lines (suc k) p xs
  text_by k p xs None is rest =
      since_none symbols scenario lines since p xs k (step_same (last_writer scenario xs p) ∙ is) ∙ end_same (cells_of (cells_among xs))
      ∙ sym (why_none symbols scenario lines p xs k is)
  text_by k p xs (Some t) is rest =
      since_some symbols scenario lines since p xs k t (step_same (last_writer scenario xs p) ∙ is)
      ∙ ap (λ (y : List ℕ). y ++ since_text symbols scenario lines since k t (before_step scenario t xs)) (lines_same t xs)
      ∙ ap (λ (y : List ℕ). link_lines symbols scenario lines t xs ++ y) (rest t (before_step scenario t xs))
      ∙ sym (why_some symbols scenario lines p xs k t is)

  text_same : (k p : ℕ) (xs : List Spot) → since_text symbols scenario lines since k p xs ≡ why_text symbols scenario lines k p xs
  text_same zero p xs = since_zero symbols scenario lines since p xs ∙ sym (why_zero symbols scenario lines p xs)
  text_same (suc k) p xs = text_by k p xs (last_writer scenario xs p) refl (λ t ys. text_same k t ys)

pub since_start_is_why : (symbols : SymbolTable) (scenario : Scenario) (lines : LinkLines) (since k p : ℕ) (xs : List Spot) → since ≤ 1
    → since_text symbols scenario lines since k p xs ≡ why_text symbols scenario lines k p xs
since_start_is_why symbols scenario lines since k p xs first = text_same symbols scenario lines since (omega (arith, first))
    (grind (arith, nat_tests)) k p xs
