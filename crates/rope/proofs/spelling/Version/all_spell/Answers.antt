use Rattle.std.proofs.Common.{◌≡◌, ◌∙◌, ◌&&◌, Bool, true, false, refl, sym, inl, inr, arith}
use Rattle.std.proofs.lemmas.Bool.{cases_eq}
use Rattle.rope.proofs.spelling.Version.all_spell.Goals as goal

-- what is true with something else is true by itself
first : (a b : Bool) → (a && b) ≡ true → a ≡ true
first true b both = refl
first false b both = both

second : (a b : Bool) → (a && b) ≡ true → b ≡ true
second true b both = both
second false b both = absurd (cc)

pub loop-number-init : goal.loop-number-init
loop-number-init c = λ all position below. absurd (omega arith)

pub loop-number-preserved : goal.loop-number-preserved
loop-number-preserved c = λ all position below.
    elim (cases_eq position c.loop-number.number) [
      | inl same ↦ rw same (sym c.spells_word-all.ensures ∙ second c.loop-number.all c.spells_word-all.result all)
      | inr differ ↦ c.loop-number.invariant (first c.loop-number.all c.spells_word-all.result all) position (omega arith)
    ]

pub returns : goal.returns
returns c = λ all position below. c.loop-number.invariant all position (omega arith)
