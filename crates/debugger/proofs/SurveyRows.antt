-- Surveys, told by the definitions alone.
use Rattle.std.proofs.Common.{◌≡◌, [], ◌∷◌, ◌++◌, map, refl}
use Rattle.std.specs.Prelude.{codes}
use Rattle.std.specs.Fmt.{digits}
use Rattle.words.specs.Numerals.{octal_text}
use Rattle.cpu.specs.State.{Scenario}
use Rattle.commands.specs.declared.subject.Subject.TheVariants as subject
use Rattle.debugger.specs.declared.watch.Watch.{Watch}
use Rattle.debugger.specs.Surveys.{rank, lesser, greater, begun_with, gone_on_with, bucket_line, width_of, survey_text}

-- -16383, -1, -0, +0, +1 and 16383, in their order
ranks : map rank (0o40000 ∷ 0o77776 ∷ 0o77777 ∷ 0 ∷ 1 ∷ 0o37777 ∷ []) ≡ 0 ∷ 16382 ∷ 16383 ∷ 16384 ∷ 16385 ∷ 32767 ∷ []
ranks = refl

compared : lesser 0o77777 0 ∷ greater 0o77777 0 ∷ lesser 1 0o77775 ∷ greater 1 0o77775 ∷ lesser 0o77776 0o77777 ∷ lesser 5 5 ∷ []
    ≡ 0o77777 ∷ 0 ∷ 0o77775 ∷ 1 ∷ 0o77776 ∷ 5 ∷ []
compared = refl

-- a word was 5, -1, +0 and -0
abbrev watch : Watch
watch = gone_on_with (gone_on_with (gone_on_with (begun_with (subject.Place 0o101) 5) 0o77776) 0) 0o77777

ranged : watch ≡ record { subject = subject.Place 0o101; least = 0o77776; greatest = 5; last = 0o77777 }
ranged = refl

-- 60 steps in 6 buckets have 10 each; in 7 they have 9, and the last one 6; 3 steps in 10 buckets have one each
widths : width_of 60 6 ∷ width_of 60 7 ∷ width_of 3 10 ∷ width_of 1 1 ∷ width_of 4097 4096 ∷ [] ≡ 9 ∷ 8 ∷ 0 ∷ 0 ∷ 1 ∷ []
widths = refl

lines_told : bucket_line 20 (record {
  cycles = 37;
  entries = 1;
  inputs = 2;
  outputs = 0;
  watches = watch
      ∷ begun_with (subject.Channel 0o12) 0o75 ∷ [];
})
    ++ bucket_line 1099511627776 (record { cycles = 5; entries = 0; inputs = 0; outputs = 12; watches = [] })
    ≡ (codes "BUCKET 20 37 ENTRIES 1 INPUTS 2 OUTPUTS 0 : 77776 00005 77777 : 00075 00075 00075\nBUCKET 1099511627776 5 ENTRIES 0 INPUTS 0 "
    ++ codes "OUTPUTS 12\n")
unfolding bucket_line octal_text digits
lines_told = refl

-- a step that was not made yet
late : (scenario : Scenario) → survey_text scenario 60 (record { first = 1; last = 61; buckets = 6; subjects = [] }) ≡ codes "E41 NOT YET\n"
late scenario = refl
