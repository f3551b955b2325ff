-- What one statement more makes of a text of tests.
use Rattle.std.proofs.Common.{◌≡◌, ◌≢◌, inl, inr, ℕ, ◌+◌, ◌==◌, List, [], ◌∷◌, ◌++◌, map, Option, Some, None, Result, Ok, Err, Bool, true}
use Rattle.std.proofs.Common.{false, refl, sym, ap, ◌∙◌, append_assoc, append-nil, subst}
use Rattle.std.proofs.lemmas.Bool.Decides.{eqb_tells}
use Rattle.std.specs.Prelude.{IfErr, OnOk, is_some}
use Rattle.std.specs.Option.{option_or}
use Rattle.agc_text.specs.Fields.{before_comment, fields, runs, texts}
use Rattle.words.proofs.Texts.{append-then}
use Rattle.symbols.specs.Values.{SymbolTable}
use Rattle.expect.specs.Facts.{Facts}
use Rattle.expect.specs.Lines.{Reading, alone, and_word, claims_of, is_then, nothing_at, word_of_line, word_then, words_at}
use Rattle.expect.specs.Statements.{Statement, before_return, has_field, stated, statements}
use Rattle.expect.specs.Texts.{Adds, Refuses, and_lines, claims_after, claims_at, in_test, line_then, name_of}
use Rattle.expect.specs.Verdicts.{failed_of, first_failing, verdict_at, verdict_line, verdicts}
use Rattle.expect.specs.declared.claim.Claim.{Claim}
use Rattle.expect.specs.declared.claim.Stated.{Stated}
use Rattle.expect.specs.declared.refusal.Asked.TheVariants as asked
use Rattle.expect.specs.declared.refusal.ExpectFault.{ExpectFault}
use Rattle.expect.specs.declared.refusal.ExpectFault.TheVariants.{NoMemory, Refused}
use Rattle.expect.specs.declared.refusal.Refusal.{Refusal}
use Rattle.expect.specs.declared.refusal.Wrong.{Wrong}
use Rattle.expect.specs.declared.watch.Failure.{Failure}
use Rattle.expect.specs.declared.watch.Watch.{Watch}

-- claims before others, and these before more
pub lines_before : (old claims : List Stated) (more : Result (List Stated) Refusal)
    → and_lines old (and_lines claims more) ≡ and_lines (old ++ claims) more
lines_before old claims (Ok more) = ap Ok (sym (append_assoc old claims more))
lines_before old claims (Err refusal) = refl

pub no_lines_before : (more : Result (List Stated) Refusal) → more ≡ and_lines [] more
no_lines_before (Ok more) = refl
no_lines_before (Err refusal) = refl

-- a line without a field, and one with
at_some : (n : ℕ) (f : List (List ℕ)) (more : List Statement) → has_field f ≡ true
    → stated n f more ≡ record { line = n; fields = f } ∷ more
at_some n [] more some = absurd (let e : false ≡ true = some in cc)
at_some n (name ∷ rest) more some = refl

past_none : (n : ℕ) (f : List (List ℕ)) (more : List Statement) → has_field f ≡ false → stated n f more ≡ more
past_none n [] more none = refl
past_none n (name ∷ rest) more none = absurd (let e : true ≡ false = none in cc)

pub past_blank : (n : ℕ) (line text : List ℕ) (more : List (List ℕ)) → text ≡ before_comment (before_return line)
    → has_field (texts (runs text)) ≡ false
    → statements n (line ∷ more) ≡ statements (n + 1) more
unfolding statements
past_blank n line text more is none = past_none (n + 1) (texts (fields (before_return line))) (statements (n + 1) more) (rw is at none)

pub at_field : (n : ℕ) (line text : List ℕ) (more : List (List ℕ)) → text ≡ before_comment (before_return line)
    → has_field (texts (runs text)) ≡ true
    → statements n (line ∷ more) ≡ record { line = n + 1; fields = texts (runs text) } ∷ statements (n + 1) more
unfolding statements
at_field n line text more is some = rw is (at_some (n + 1) (texts (fields (before_return line))) (statements (n + 1) more) (rw is at some))

-- ## Claims
-- a statement that begins a test
pub at_test : (symbols : SymbolTable) (tests : ℕ) (s : Statement) (more : List Statement) (name : List (List ℕ))
    → Some name ≡ name_of s.fields → has_field name ≡ true
    → claims_after symbols tests (s ∷ more) ≡ claims_after symbols (tests + 1) more
unfolding claims_after
at_test symbols tests s more [] is some = absurd (let e : false ≡ true = some in cc)
at_test symbols tests s more (word ∷ rest) is some = ap (λ n. claims_at symbols tests s n (λ k. claims_after symbols k more)) (sym is)

pub at_no_name : (symbols : SymbolTable) (tests : ℕ) (s : Statement) (more : List Statement) (name : List (List ℕ))
    → Some name ≡ name_of s.fields → has_field name ≡ false
    → claims_after symbols tests (s ∷ more) ≡ Err (record { line = s.line; wrong = record { field = 1; asked = asked.Name } })
unfolding claims_after
at_no_name symbols tests s more [] is none = ap (λ n. claims_at symbols tests s n (λ k. claims_after symbols k more)) (sym is)
at_no_name symbols tests s more (word ∷ rest) is none = absurd (let e : true ≡ false = none in cc)

-- a statement before any test
pub at_no_test : (symbols : SymbolTable) (tests : ℕ) (s : Statement) (more : List Statement) → None ≡ name_of s.fields → tests ≡ 0
    → claims_after symbols tests (s ∷ more) ≡ Err (record { line = s.line; wrong = record { field = 0; asked = asked.Test } })
unfolding claims_after
at_no_test symbols tests s more is none = ap (λ n. claims_at symbols tests s n (λ k. claims_after symbols k more)) (sym is) ∙ rw none refl

not_zero : (tests : ℕ) → tests ≢ 0 → (tests == 0) ≡ false
not_zero tests some =
    elim (eqb_tells tests 0) [
      | inl zero ↦ absurd (some zero.1)
      | inr apart ↦ apart.0
    ]

-- a statement of a test
pub at_line : (symbols : SymbolTable) (tests : ℕ) (s : Statement) (more : List Statement) → None ≡ name_of s.fields → tests ≢ 0
    → claims_after symbols tests (s ∷ more) ≡ line_then tests s.line (claims_of symbols s.fields) (claims_after symbols tests more)
unfolding claims_after
at_line symbols tests s more is some = ap (λ n. claims_at symbols tests s n (λ k. claims_after symbols k more)) (sym is)
    ∙ rw (not_zero tests some) refl

-- the claims of a line are added
pub line_adds : (reading : Reading (List Claim)) (test n : ℕ) (old new : List Stated) (result : Result (Unit {0}) ExpectFault)
    (x : Unit {0}) (more : Result (List Stated) Refusal)
    → result ≡ Ok x → Adds reading test n old new result → and_lines old (line_then test n reading more) ≡ and_lines new more
line_adds (Ok claims) test n old new result x more is adds =
    let made : new ≡ old ++ map (in_test test n) claims = rw is at adds in
    rw made (lines_before old (map (in_test test n) claims) more)
line_adds (Err wrong) test n old new result x more is adds = absurd (rw is at adds)

-- or it is refused
pub line_refuses : (reading : Reading (List Claim)) (test n : ℕ) (old new : List Stated) (result : Result (Unit {0}) ExpectFault)
    (fault : ExpectFault) (more : Result (List Stated) Refusal)
    → result ≡ Err fault → Adds reading test n old new result → Refuses (and_lines old (line_then test n reading more)) fault
line_refuses (Ok claims) test n old new result NoMemory more is adds = tt
line_refuses (Ok claims) test n old new result (Refused refusal) more is adds = absurd (rw is at adds)
line_refuses (Err wrong) test n old new result NoMemory more is adds = tt
line_refuses (Err wrong) test n old new result (Refused refusal) more is adds =
    let told : refusal ≡ record { line = n; wrong = wrong } = rw is at adds in
    ap Err (sym told)

-- ## Adding
-- one claim
pub adds_one : (claim : Claim) (test n : ℕ) (old new : List Stated) (result : Result (Unit {0}) ExpectFault)
    → OnOk result (new ≡ old ++ in_test test n claim ∷ []) → IfErr result (λ e. e ≡ NoMemory) → Adds (Ok (claim ∷ [])) test n old new result
adds_one claim test n old new (Ok x) ok err = ok
adds_one claim test n old new (Err e) ok err = rw err tt

-- one more before others
pub adds_more : (claim : Claim) (reading : Reading (List Claim)) (test n : ℕ) (old between new : List Stated)
    (result : Result (Unit {0}) ExpectFault)
    → between ≡ old ++ in_test test n claim ∷ [] → Adds reading test n between new result
    → Adds (and_word claim reading) test n old new result
adds_more claim (Ok claims) test n old between new (Ok x) one adds = adds ∙ ap (λ t. t ++ map (in_test test n) claims) one
    ∙ append_assoc old (in_test test n claim ∷ []) (map (in_test test n) claims)
adds_more claim (Ok claims) test n old between new (Err NoMemory) one adds = tt
adds_more claim (Ok claims) test n old between new (Err (Refused refusal)) one adds = adds
adds_more claim (Err wrong) test n old between new (Ok x) one adds = adds
adds_more claim (Err wrong) test n old between new (Err NoMemory) one adds = tt
adds_more claim (Err wrong) test n old between new (Err (Refused refusal)) one adds = adds

-- ## Verdicts
pub at_verdict : (facts : Facts) (tests : ℕ) (watches : List Watch) (s : Statement) (more : List Statement) (name : List (List ℕ))
    → Some name ≡ name_of s.fields
    → verdicts facts tests watches (s ∷ more)
    ≡ verdict_line facts name (first_failing (tests + 1) watches) ++ verdicts facts (tests + 1) watches more
unfolding verdicts
at_verdict facts tests watches s more name is = ap (λ n. verdict_at facts n tests watches (λ k. verdicts facts k watches more)) (sym is)

pub past_line : (facts : Facts) (tests : ℕ) (watches : List Watch) (s : Statement) (more : List Statement) → None ≡ name_of s.fields
    → verdicts facts tests watches (s ∷ more) ≡ verdicts facts tests watches more
unfolding verdicts
past_line facts tests watches s more is = ap (λ n. verdict_at facts n tests watches (λ k. verdicts facts k watches more)) (sym is)

-- the claim that stands first
pub at_failed : (test : ℕ) (watch : Watch) (more : List Watch) (failed : Option (Watch × Failure)) → failed ≡ failed_of test watch
    → is_some failed ≡ true
    → failed ≡ first_failing test (watch ∷ more)
unfolding first_failing
at_failed test watch more None is some = absurd (let e : false ≡ true = some in cc)
at_failed test watch more (Some x) is some = ap (λ f. option_or f (first_failing test more)) is

pub past_failed : (test : ℕ) (watch : Watch) (more : List Watch) (failed : Option (Watch × Failure)) → failed ≡ failed_of test watch
    → is_some failed ≡ false
    → first_failing test (watch ∷ more) ≡ first_failing test more
unfolding first_failing
past_failed test watch more None is none = ap (λ f. option_or f (first_failing test more)) (sym is)
past_failed test watch more (Some x) is none = absurd (let e : true ≡ false = none in cc)

-- words
pub words_end : (channel within at before test n : ℕ) (all : List (List ℕ)) (old : List Stated) → all ≡ []
    → Adds (words_at channel within at before all) test n old old (Ok tt)
unfolding words_at
words_end channel within at before test n all old none = rw none (sym (append-nil old))

pub words_then : (channel within at before : ℕ) (all : List (List ℕ)) (field : List ℕ) (more : List (List ℕ)) → all ≡ field ∷ more
    → is_then before field ≡ true
    → words_at channel within at before all ≡ alone (nothing_at channel before (at + before + 1) more)
unfolding words_at
words_then channel within at before all field more is stands = rw is (rw stands refl)

pub words_word : (channel within at before : ℕ) (all : List (List ℕ)) (field : List ℕ) (more : List (List ℕ)) → all ≡ field ∷ more
    → is_then before field ≡ false
    → words_at channel within at before all ≡ word_then (word_of_line channel within at before field)
    (words_at channel within at (before + 1) more)
unfolding words_at
words_word channel within at before all field more is stands = rw is (rw stands refl)

pub words_refuse : (channel within at before : ℕ) (all : List (List ℕ)) (field : List ℕ) (more : List (List ℕ)) (wrong : Wrong) (test n : ℕ)
    (old : List Stated) (fault : ExpectFault)
    → all ≡ field ∷ more → is_then before field ≡ false → Err wrong ≡ word_of_line channel within at before field
    → fault ≡ Refused (record { line = n; wrong = wrong })
    → Adds (words_at channel within at before all) test n old old (Err fault)
words_refuse channel within at before all field more wrong test n old fault is stands reads told =
    let refused : words_at channel within at before all ≡ Err wrong =
    words_word channel within at before all field more is stands
    ∙ ap (λ r. word_then r (words_at channel within at (before + 1) more)) (sym reads) in
    subst (λ (f : ExpectFault). Adds (words_at channel within at before all) test n old old (Err f)) (sym told)
    (subst (λ (r : Reading (List Claim)). Adds r test n old old (Err (Refused (record { line = n; wrong = wrong })))) (sym refused) refl)

pub words_add : (channel within at before : ℕ) (all : List (List ℕ)) (field : List ℕ) (more : List (List ℕ)) (claim : Claim) (test n : ℕ)
    (old between new : List Stated) (result : Result (Unit {0}) ExpectFault)
    → all ≡ field ∷ more → is_then before field ≡ false → Ok claim ≡ word_of_line channel within at before field
    → between ≡ old ++ in_test test n claim ∷ []
    → Adds (words_at channel within at (before + 1) more) test n between new result
    → Adds (words_at channel within at before all) test n old new result
words_add channel within at before all field more claim test n old between new result is stands reads one adds =
    rw (words_word channel within at before all field more is stands, sym reads)
    (adds_more claim (words_at channel within at (before + 1) more) test n old between new result one adds)

-- a text, a number and a text, one after another
pub pushed_three : (old front number back one two new : List ℕ) → one ≡ old ++ front → two ≡ one ++ number → new ≡ two ++ back
    → new ≡ old ++ (front ++ (number ++ back))
pushed_three old front number back one two new first second third = append-then old one new front (number ++ back) first
    (append-then one two new number back second third)
