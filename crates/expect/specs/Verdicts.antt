-- The verdict on each test of a text, in a line.
use Rattle.std.specs.Prelude.{ℕ, ◌+◌, ◌^◌, ◌==◌, nat_lt, Bool, false, List, [], ◌∷◌, ◌++◌, codes, decimal, Option, None, Some, is_some, not}
use Rattle.std.specs.Prelude.{if◌then◌else◌}
use Rattle.std.specs.List.{flat_map, list_all}
use Rattle.std.specs.Option.{option_or}
use Rattle.words.specs.Numbers.{neg}
use Rattle.words.specs.Numerals.{octal_text}
use Rattle.expect.specs.Facts.{Facts, cited}
use Rattle.expect.specs.Statements.{Statement}
use Rattle.expect.specs.Texts.{name_of}
use Rattle.expect.specs.declared.claim.Claim.{Claim}
use Rattle.expect.specs.declared.claim.Claim.TheVariants.{Puts, PutsNoMore, Always, Never, AtEnd, At, Calls, CallsWithin}
use Rattle.expect.specs.declared.claim.Claim.TheVariants.{Notes, Check, Covered}
use Rattle.expect.specs.declared.claim.Condition.{Condition}
use Rattle.expect.specs.declared.claim.Relation.{Relation}
use Rattle.expect.specs.declared.claim.Relation.TheVariants.{Same, Other, Less, Greater, AtMost, AtLeast}
use Rattle.expect.specs.declared.claim.Sought.{Sought}
use Rattle.expect.specs.declared.claim.Stated.{Stated}
use Rattle.expect.specs.declared.watch.Failure.{Failure}
use Rattle.expect.specs.declared.watch.Watch.{Watch}

-- a claim that fails, and where it does
abbrev pub with_watch : Watch → Option Failure → Option (Watch × Failure)
with_watch watch None = None
with_watch watch (Some failure) = Some (watch, failure)

-- the same of a claim of a test; of another test none
abbrev pub failed_of : ℕ → Watch → Option (Watch × Failure)
failed_of test watch = if watch.stated.test == test then with_watch watch watch.failure else None

-- the first claim of a test that fails
unfoldable pub first_failing : ℕ → List Watch → Option (Watch × Failure)
first_failing test [] = None
first_failing test (watch ∷ more) = option_or (failed_of test watch) (first_failing test more)

-- whether no claim fails
abbrev pub is_met : Watch → Bool
is_met watch = not (is_some watch.failure)

abbrev pub are_all_met : List Watch → Bool
are_all_met watches = list_all is_met watches

-- a name, with one blank before each of its fields
abbrev pub name_text : List (List ℕ) → List ℕ
name_text name = flat_map (λ field. codes " " ++ field) name

-- the number that a word stands for, with its sign where that is minus
abbrev pub signed_text : ℕ → List ℕ
signed_text word = if nat_lt word (2 ^ 14) then decimal word else codes "-" ++ decimal (neg word)

-- a word in octal, and in decimal
abbrev pub word_text : ℕ → List ℕ
word_text word = octal_text 5 word ++ codes " (" ++ signed_text word ++ codes ")"

-- what came there
abbrev pub word_came_text : Option ℕ → List ℕ
word_came_text None = codes "nothing came"
word_came_text (Some word) = codes "it is " ++ word_text word

-- the same of a claim that has counted so many: of a routine how often it was called, or that a call was too long; and how much `check`
-- tells
abbrev pub came_text : Facts → Claim → ℕ → Option ℕ → List ℕ
came_text facts (Calls place times) seen word = codes "it is called " ++ decimal seen ++ codes " times"
came_text facts (CallsWithin place most) seen word = if seen == 0 then codes "it is not called" else codes "a call takes longer"
came_text facts (Notes allowed) seen word = []
came_text facts Check seen word =
    (codes "check: errors " ++ decimal facts.errors ++ codes ", warnings ") ++ (decimal facts.warnings ++ codes ": ")
came_text facts (Covered least) seen word = codes "it executes " ++ decimal facts.executed ++ codes " instructions"
came_text facts _ seen word = word_came_text word

-- how a word has to stand to another
abbrev pub relation_text : Relation → List ℕ
relation_text Same = codes "="
relation_text Other = codes "<>"
relation_text Less = codes "<"
relation_text Greater = codes ">"
relation_text AtMost = codes "<="
relation_text AtLeast = codes ">="

abbrev pub condition_text : Condition → List ℕ
condition_text c = relation_text c.relation ++ codes " " ++ word_text c.word

-- a word on a channel that is wanted; where it is what came, it came too late
abbrev pub is_that : ℕ → Option ℕ → Bool
is_that word None = false
is_that word (Some came) = came == word

abbrev pub sought_text : Sought → Option ℕ → List ℕ
sought_text sought came =
    if is_that sought.word came then codes "within " ++ decimal sought.within ++ codes " cycles" else word_text sought.word

-- what a claim wants in place of what came
abbrev pub wanted_text : Claim → Option ℕ → List ℕ
wanted_text (Puts sought) came = sought_text sought came
wanted_text (PutsNoMore channel most) came = codes "no word"
wanted_text (Always c) came = condition_text c
wanted_text (Never c) came = codes "not " ++ condition_text c
wanted_text (AtEnd c) came = condition_text c
wanted_text (At place c) came = condition_text c
wanted_text (Calls place times) came = decimal times
wanted_text (CallsWithin place most) came = codes "within " ++ decimal most ++ codes " cycles"
wanted_text (Notes allowed) came = codes "no other note"
wanted_text Check came = codes "none"
wanted_text (Covered least) came = decimal least ++ codes " or more"

-- whether a test is met, in a word
abbrev pub verdict_word : Option (Watch × Failure) → List ℕ
verdict_word None = codes "ok  "
verdict_word (Some failed) = codes "FAIL"

-- the line of the text where a test fails, the step, and the cycles after it
abbrev pub where_text : ℕ → Failure → List ℕ
where_text n failure =
    codes ": line " ++ decimal n ++ codes ", step " ++ decimal failure.step ++ codes ", cycle " ++ decimal failure.cycles ++ codes ": "

-- the same, and what came there; what is wanted in place of it
abbrev pub front_text : Facts → Watch → Failure → List ℕ
front_text facts watch failure = where_text watch.stated.line failure ++ came_text facts watch.stated.claim watch.seen failure.word

abbrev pub back_text : Watch → Failure → List ℕ
back_text watch failure = codes "; wanted " ++ wanted_text watch.stated.claim failure.word ++ codes "\n"

-- between them stands the line that tells of it
abbrev pub failed_text : Facts → Watch → Failure → List ℕ
failed_text facts watch failure = front_text facts watch failure ++ (cited facts watch.stated.claim ++ back_text watch failure)

-- what stands behind its name
abbrev pub failure_text : Facts → Option (Watch × Failure) → List ℕ
failure_text facts None = codes "\n"
failure_text facts (Some failed) = failed_text facts failed.0 failed.1

-- the line of a test
abbrev pub verdict_line : Facts → List (List ℕ) → Option (Watch × Failure) → List ℕ
verdict_line facts name failed = verdict_word failed ++ (name_text name ++ failure_text facts failed)

-- the lines of the tests that some statements begin, before which so many have begun
abbrev pub verdict_at : Facts → Option (List (List ℕ)) → ℕ → List Watch → (ℕ → List ℕ) → List ℕ
verdict_at facts None tests watches more = more tests
verdict_at facts (Some name) tests watches more = verdict_line facts name (first_failing (tests + 1) watches) ++ more (tests + 1)

unfoldable pub verdicts : Facts → ℕ → List Watch → List Statement → List ℕ
verdicts facts tests watches [] = []
verdicts facts tests watches (s ∷ more) = verdict_at facts (name_of s.fields) tests watches (λ k. verdicts facts k watches more)
