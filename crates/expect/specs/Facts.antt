-- What is known of a run beside its steps, and which claims that does not bear out.
use Rattle.std.specs.Prelude.{ℕ, nat_lt, ◌==◌, ◌&&◌, not, Bool, true, false, List, [], ◌∷◌, Option, None, Some, is_some, unwrap_or}
use Rattle.std.specs.List.{list_any}
use Rattle.agc_text.specs.Lines.{lines}
use Rattle.expect.specs.Kinds.{first_other}
use Rattle.expect.specs.declared.claim.Claim.{Claim}
use Rattle.expect.specs.declared.claim.Claim.TheVariants.{Puts, PutsNoMore, Always, Never, AtEnd, At, Calls, CallsWithin, Notes, Check}
use Rattle.expect.specs.declared.claim.Claim.TheVariants.{Covered}
use Rattle.expect.specs.declared.claim.Stated.{Stated}
use Rattle.expect.specs.declared.known.Known.{Known}

-- the notes of the run, a line each; what `check` tells of the source, and how many errors and warnings; how many instructions
-- of the program
-- it has executed
pub record Facts : Type 0 where
  pub notes : List ℕ
  pub report : List ℕ
  pub errors : ℕ
  pub warnings : ℕ
  pub executed : ℕ

abbrev pub facts_of : Known → Facts
facts_of known =
    record {
      notes = known.notes.now;
      report = known.report.now;
      errors = known.errors;
      warnings = known.warnings;
      executed = known.executed;
    }

-- whether they do not bear a claim out; the steps decide on the others
abbrev pub misses : Facts → Claim → Bool
misses facts (Puts sought) = false
misses facts (PutsNoMore channel most) = false
misses facts (Always c) = false
misses facts (Never c) = false
misses facts (AtEnd c) = false
misses facts (At place c) = false
misses facts (Calls place times) = false
misses facts (CallsWithin place most) = false
misses facts (Notes allowed) = is_some (first_other allowed (lines facts.notes))
misses facts Check = not (facts.errors == 0 && facts.warnings == 0)
misses facts (Covered least) = nat_lt facts.executed least

-- the line that tells of a claim that is not borne out: the first other note, or what `check` tells first
abbrev pub first_of : List (List ℕ) → List ℕ
first_of [] = []
first_of (line ∷ more) = line

abbrev pub cited : Facts → Claim → List ℕ
cited facts (Notes allowed) = unwrap_or (first_other allowed (lines facts.notes)) []
cited facts Check = first_of (lines facts.report)
cited facts _ = []

-- ## What some claims ask for
abbrev pub is_of_notes : Claim → Bool
is_of_notes (Notes allowed) = true
is_of_notes _ = false

abbrev pub is_of_check : Claim → Bool
is_of_check Check = true
is_of_check _ = false

abbrev pub is_of_instructions : Claim → Bool
is_of_instructions (Covered least) = true
is_of_instructions _ = false

abbrev pub ask_for_notes : List Stated → Bool
ask_for_notes claims = list_any (λ stated. is_of_notes stated.claim) claims

abbrev pub ask_for_check : List Stated → Bool
ask_for_check claims = list_any (λ stated. is_of_check stated.claim) claims

abbrev pub ask_for_instructions : List Stated → Bool
ask_for_instructions claims = list_any (λ stated. is_of_instructions stated.claim) claims
