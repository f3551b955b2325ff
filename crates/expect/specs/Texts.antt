-- A text of tests: what it runs, and what each of its tests claims; or where it is refused.
use Rattle.std.specs.Prelude.{◌≡◌, ℕ, ◌+◌, ◌-◌, ◌^◌, ◌==◌, ◌&&◌, nat_le, Bool, true, false, List, [], ◌∷◌, ◌++◌}
use Rattle.std.specs.Prelude.{map, Option, None, Some, Result, Ok, Err, MatchResult, codes}
use Rattle.std.specs.Option.{option_map}
use Rattle.std.specs.Prelude.{if◌then◌else◌, ⊤}
use Rattle.agc_text.specs.Fields.{runs, texts}
use Rattle.agc_text.specs.Lines.{lines}
use Rattle.agc_text.specs.Tables.{same_name}
use Rattle.commands.specs.Commands.{count_in}
use Rattle.feed.specs.Statements.{passing}
use Rattle.symbols.specs.Values.{SymbolTable}
use Rattle.expect.specs.Lines.{Reading, claims_of, words_at}
use Rattle.expect.specs.Statements.{Statement, statements}
use Rattle.expect.specs.declared.claim.Claim.{Claim}
use Rattle.expect.specs.declared.claim.Stated.{Stated}
use Rattle.expect.specs.declared.heading.Expectation.{Expectation}
use Rattle.expect.specs.declared.line.Line.{Line}
use Rattle.expect.specs.declared.line.Line.TheVariants as line
use Rattle.expect.specs.declared.refusal.Asked.{Asked}
use Rattle.expect.specs.declared.refusal.Asked.TheVariants as asked
use Rattle.expect.specs.declared.refusal.ExpectFault.{ExpectFault}
use Rattle.expect.specs.declared.refusal.ExpectFault.TheVariants.{NoMemory, Refused}
use Rattle.expect.specs.declared.refusal.Refusal.{Refusal}
use Rattle.expect.specs.declared.refusal.Wrong.{Wrong}

-- what a line claims whose words are not read yet
abbrev pub listed : Result Line Wrong → Reading (List Claim)
listed (Ok (line.One claim)) = Ok (claim ∷ [])
listed (Ok (line.Words words)) = words_at words.channel words.within words.at 0 (texts (runs words.fields.now))
listed (Err wrong) = Err wrong

-- a refusal of a line, and at a field of it; line 0 is the end of the text
abbrev pub refused : {X : Type 0} → ℕ → Wrong → Result X Refusal
refused n wrong = Err (record { line = n; wrong = wrong })

abbrev pub refused_at : {X : Type 0} → ℕ → ℕ → Asked → Result X Refusal
refused_at n field what = refused n (record { field = field; asked = what })

-- ## What is run: SOURCE and a path; FEED and a path, or no feed; STEPS and a number, and UNTIL IDLE or nothing more; and then the tests
pub record Heading : Type 0 where
  pub source : List ℕ
  pub feed : Option (List ℕ)
  pub steps : ℕ
  pub until_idle : Bool
  pub tests : List Statement

-- the field after a word, where no other stands
abbrev pub setting : List ℕ → List (List ℕ) → Option (List ℕ)
setting word [] = None
setting word (name ∷ []) = None
setting word (name ∷ value ∷ []) = if same_name name word then Some value else None
setting word (name ∷ value ∷ next ∷ more) = None

-- the field after STEPS, whatever follows it
abbrev pub steps_field : List (List ℕ) → Option (List ℕ)
steps_field [] = None
steps_field (name ∷ []) = None
steps_field (name ∷ value ∷ more) = if same_name name (codes "STEPS") then Some value else None

-- a number of steps that a run may have
abbrev pub steps_of : Option (List ℕ) → Option ℕ
steps_of None = None
steps_of (Some text) = passing (λ n. nat_le n (2 ^ 40 - 2)) (count_in text)

-- whether UNTIL IDLE follows the number of steps, or nothing; none where something else does
abbrev pub until_in : List (List ℕ) → Option Bool
until_in [] = None
until_in (name ∷ []) = None
until_in (name ∷ steps ∷ []) = Some false
until_in (name ∷ steps ∷ until ∷ []) = None
until_in (name ∷ steps ∷ until ∷ idle ∷ []) =
    if same_name until (codes "UNTIL") && same_name idle (codes "IDLE") then Some true else None
until_in (name ∷ steps ∷ until ∷ idle ∷ next ∷ more) = None

abbrev pub with_until : List ℕ → Option (List ℕ) → Statement → ℕ → Option Bool → List Statement → Result Heading Refusal
with_until source feed s steps None more = refused_at s.line 2 asked.UntilIdle
with_until source feed s steps (Some until_idle) more =
    Ok (record { source = source; feed = feed; steps = steps; until_idle = until_idle; tests = more })

abbrev pub with_steps : List ℕ → Option (List ℕ) → Statement → Option ℕ → List Statement → Result Heading Refusal
with_steps source feed s None more = refused_at s.line 0 asked.Steps
with_steps source feed s (Some steps) more = with_until source feed s steps (until_in s.fields) more

abbrev pub after_feed : List ℕ → Option (List ℕ) → List Statement → Result Heading Refusal
after_feed source feed [] = refused_at 0 0 asked.Steps
after_feed source feed (s ∷ more) = with_steps source feed s (steps_of (steps_field s.fields)) more

abbrev pub with_feed : List ℕ → Statement → Option (List ℕ) → List Statement → Result Heading Refusal
with_feed source s None more = after_feed source None (s ∷ more)
with_feed source s (Some feed) more = after_feed source (Some feed) more

abbrev pub after_source : List ℕ → List Statement → Result Heading Refusal
after_source source [] = refused_at 0 0 asked.Steps
after_source source (s ∷ more) = with_feed source s (setting (codes "FEED") s.fields) more

abbrev pub with_source : Statement → Option (List ℕ) → List Statement → Result Heading Refusal
with_source s None more = refused_at s.line 0 asked.Source
with_source s (Some source) more = after_source source more

abbrev pub heading_of : List Statement → Result Heading Refusal
heading_of [] = refused_at 0 0 asked.Source
heading_of (s ∷ more) = with_source s (setting (codes "SOURCE") s.fields) more

-- the heading that an expectation is
abbrev pub heading_by : Expectation → Heading
heading_by e = record {
  source = e.source.now;
  feed = option_map (λ f. f.now) e.feed;
  steps = e.steps;
  until_idle = e.until_idle;
  tests = statements e.line (lines e.tests.now);
}

-- whether an expectation is a heading that is told, or the refusal is
abbrev pub IsTold : Result Heading Refusal → Result Expectation Refusal → Type 0
IsTold told result = MatchResult result (λ e. told ≡ Ok (heading_by e)) (λ refusal. told ≡ Err refusal)

-- ## What is claimed
-- a claim of a line of a test
abbrev pub in_test : ℕ → ℕ → Claim → Stated
in_test test n claim = record { test = test; line = n; claim = claim }

-- the claims of a line before those of the lines after it
abbrev pub and_lines : List Stated → Result (List Stated) Refusal → Result (List Stated) Refusal
and_lines claims (Ok more) = Ok (claims ++ more)
and_lines claims (Err refusal) = Err refusal

abbrev pub line_then : ℕ → ℕ → Reading (List Claim) → Result (List Stated) Refusal → Result (List Stated) Refusal
line_then test n (Ok claims) more = and_lines (map (in_test test n) claims) more
line_then test n (Err wrong) more = refused n wrong

-- the name of a test, where a statement begins one: the fields after TEST
abbrev pub name_of : List (List ℕ) → Option (List (List ℕ))
name_of [] = None
name_of (word ∷ more) = if same_name word (codes "TEST") then Some more else None

-- a line that begins a test, which has a name
abbrev pub begun : ℕ → List (List ℕ) → Result (List Stated) Refusal → Result (List Stated) Refusal
begun n [] more = refused_at n 1 asked.Name
begun n (word ∷ rest) more = more

-- what a statement claims, where so many tests have begun before it, and those after it
abbrev pub claims_at : SymbolTable → ℕ → Statement → Option (List (List ℕ)) → (ℕ → Result (List Stated) Refusal)
    → Result (List Stated) Refusal
claims_at symbols tests s (Some name) more = begun s.line name (more (tests + 1))
claims_at symbols tests s None more =
    if tests == 0 then refused_at s.line 0 asked.Test
    else line_then tests s.line (claims_of symbols s.fields) (more tests)

-- the claims of some statements, before which so many tests have begun
unfoldable pub claims_after : SymbolTable → ℕ → List Statement → Result (List Stated) Refusal
claims_after symbols tests [] = Ok []
claims_after symbols tests (s ∷ more) = claims_at symbols tests s (name_of s.fields) (λ k. claims_after symbols k more)

-- a text is refused where it says; that memory ran out says nothing of it
abbrev pub Refuses : Result (List Stated) Refusal → ExpectFault → Type 0
Refuses claims NoMemory = ⊤
Refuses claims (Refused refusal) = claims ≡ Err refusal

-- what a line claims is added to what the lines before it claim
abbrev pub Adds : Reading (List Claim) → ℕ → ℕ → List Stated → List Stated → Result (Unit {0}) ExpectFault → Type 0
Adds (Ok claims) test n old new (Ok x) = new ≡ old ++ map (in_test test n) claims
Adds (Err wrong) test n old new (Ok x) = ⊥
Adds reading test n old new (Err NoMemory) = ⊤
Adds (Ok claims) test n old new (Err (Refused refusal)) = ⊥
Adds (Err wrong) test n old new (Err (Refused refusal)) = refusal ≡ record { line = n; wrong = wrong }
