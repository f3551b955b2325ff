-- What is told at the steps of a list is what is told of a run.
use Rattle.std.proofs.Common.{◌≡◌, ℕ, ◌+◌, ◌-◌, ◌≤◌, ◌==◌, ◌&&◌, Bool, true, false, List, [], refl, ap, ◌∙◌, arith}
use Rattle.std.proofs.Common.{if◌then◌else◌}
use Rattle.audit.proofs.PartTexts.{front}
use Rattle.json_text.specs.declared.notation.Notation.{Notation}
use Rattle.symbols.specs.Values.{SymbolTable}
use Rattle.yayul.specs.Named.{Named}
use Rattle.cpu.specs.Run.{run}
use Rattle.cpu.specs.State.{Scenario}
use Rattle.cover.specs.Tallies.{IsAccount, account_number}
use Rattle.notes.specs.declared.first_steps.FirstStep.{FirstStep}
use Rattle.notes.specs.declared.kind.Kind.{Kind}
use Rattle.notes.specs.Counted.{Book, Counted, counts_of, first_of, first_steps, firsts_by, happens_first, listed_text, some_first, taken}
use Rattle.notes.specs.Counted.{told_listed}
use Rattle.notes.specs.Notes.{happens}
use Rattle.notes.specs.Past.{seen}
use Rattle.notes.specs.RunNotes.{here, step_text, text_after, times, told}
use Rattle.notes.proofs.Counting.{at_least_one, front_rest, none_of_kinds, nothing_told, of_kinds, told_none}
use Rattle.notes.proofs.FirstSteps.{NextListed, none_listed}

-- where nothing happens for the first time nothing is told
before_here : (h : Bool) (t : ℕ) → (h && t == 0) ≡ false → h ≡ true → 1 ≤ t
before_here true t e hit = at_least_one t t refl e
before_here false t e hit = absurd (cc)

pub none_told : (notation : Notation) (symbols : SymbolTable) (named : Named) (scenario : Scenario) (n t : ℕ)
    → some_first (firsts_by (happens_first named scenario t)) ≡ false → step_text notation symbols named scenario n t ≡ []
unfolding step_text
none_told notation symbols named scenario n t none =
    nothing_told notation _ _ _ (told named scenario n t)
    (λ kind. told_none named scenario t n kind
    (before_here (happens named scenario kind (seen scenario t)) (times named scenario kind (here scenario (run scenario t)) t)
    (none_of_kinds (happens_first named scenario t) none kind)))

-- of each kind, and so as a text
told_as : (h : Bool) (times held all : ℕ) → held ≡ all
    → (if h && times == 0 then held else 0) ≡ (if h then (if times == 0 then all else 0) else 0)
told_as true times held all e = rw e refl
told_as false times held all e = refl

listed_each : (named : Named) (scenario : Scenario) (n t : ℕ) (book : Book) (f : FirstStep) → Counted named scenario n book
    → f.number - 1 ≡ t → f.kinds ≡ firsts_by (happens_first named scenario t) → IsAccount (here scenario (run scenario t))
    → (kind : Kind) → told_listed scenario book f kind ≡ told named scenario n t kind
unfolding told
listed_each named scenario n t book f counted at is known kind =
    let number = account_number (here scenario (run scenario t)) in
    let of_kind : first_of (firsts_by (happens_first named scenario t)) kind ≡ happens_first named scenario t kind =
    of_kinds (λ k. first_of (firsts_by (happens_first named scenario t)) k ≡ happens_first named scenario t k)
    refl refl refl refl refl refl refl refl refl refl refl kind in
    ap (λ k. taken (counts_of book kind) (account_number (here scenario (run scenario k))) (first_of f.kinds kind)) at
    ∙ ap (λ kinds. taken (counts_of book kind) number (first_of kinds kind)) is
    ∙ ap (λ b. taken (counts_of book kind) number b) of_kind
    ∙ told_as (happens named scenario kind (seen scenario t)) (times named scenario kind (here scenario (run scenario t)) t) _ _
    (counted.times kind (here scenario (run scenario t)) known)

pub listed_is : (notation : Notation) (symbols : SymbolTable) (named : Named) (scenario : Scenario) (n t : ℕ) (book : Book) (f : FirstStep)
    → Counted named scenario n book
    → f.number ≡ t + 1 → f.kinds ≡ firsts_by (happens_first named scenario t) → IsAccount (here scenario (run scenario t))
    → listed_text notation symbols scenario book f ≡ step_text notation symbols named scenario n t
unfolding step_text
listed_is notation symbols named scenario n t book f counted number is known =
    let at : f.number - 1 ≡ t = omega (arith, number) in
    let each : told_listed scenario book f ≡ told named scenario n t = λ i kind.
    listed_each named scenario n t book f counted at is known kind i in
    ap (λ k. text_after notation symbols scenario k (run scenario (f.number - 1)) (told_listed scenario book f)) number
    ∙ ap (λ k. text_after notation symbols scenario (t + 1) (run scenario k) (told_listed scenario book f)) at
    ∙ ap (λ count. text_after notation symbols scenario (t + 1) (run scenario t) count) each

-- up to a listed step nothing is told
pub up_to_listed : (notation : Notation) (symbols : SymbolTable) (named : Named) (scenario : Scenario) (n done m : ℕ) (f : FirstStep)
    (more : List FirstStep) → NextListed named scenario done m f more
    → front (step_text notation symbols named scenario n) done ≡ front (step_text notation symbols named scenario n) (f.number - 1)
up_to_listed notation symbols named scenario n done m f more next =
    front_rest (step_text notation symbols named scenario n) (f.number - 1 - done) done (f.number - 1) (omega (arith, next.later))
    (λ t from lt. none_told notation symbols named scenario n t (next.none t from lt))

-- and after the last nothing
pub behind_listed : (notation : Notation) (symbols : SymbolTable) (named : Named) (scenario : Scenario) (n done : ℕ) → done ≤ n
    → first_steps named scenario done (n - done) ≡ []
    → front (step_text notation symbols named scenario n) done ≡ front (step_text notation symbols named scenario n) n
behind_listed notation symbols named scenario n done within none =
    front_rest (step_text notation symbols named scenario n) (n - done) done n (omega (arith, within))
    (λ t from lt. none_told notation symbols named scenario n t
    (none_listed named scenario (n - done) done none t from (omega (arith, within, lt))))
