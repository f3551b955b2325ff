-- How often something happens, as a notebook holds it: for each kind a list, with a number for each account; and what waits.
use Rattle.std.specs.Prelude.{◌≡◌, ℕ, zero, suc, ◌+◌, ◌-◌, ◌<◌, ◌≤◌, ◌^◌, ◌==◌, ◌&&◌, ◌||◌, Bool, true, List, [], ◌∷◌, ◌++◌, length, get_or}
use Rattle.std.specs.Prelude.{set, if◌then◌else◌}
use Rattle.cpu.specs.declared.account.Account.{Account}
use Rattle.cpu.specs.NextStep.{next_step}
use Rattle.cpu.specs.Run.{run}
use Rattle.cpu.specs.State.{State, Scenario}
use Rattle.yayul.specs.Named.{Named}
use Rattle.cover.specs.Tallies.{account_count, account_number, IsAccount}
use Rattle.notes.specs.declared.kind.Kind.{Kind}
use Rattle.notes.specs.declared.kind.Kind.TheVariants.{Quotient, Skip, NoWord, InErasable, NoHandler, OtherBank, NotKept, MinusZero}
use Rattle.notes.specs.declared.kind.Kind.TheVariants.{Overwritten, Shared, FixedBank}
use Rattle.notes.specs.declared.first_steps.FirstStep.{FirstStep}
use Rattle.notes.specs.declared.first_steps.Firsts.{Firsts}
use Rattle.notes.specs.declared.notebook.Told.{Told}
use Rattle.notes.specs.declared.past.Past.{Past}
use Rattle.notes.specs.Past.{no_past, past, past_by, Seen, seen}
use Rattle.notes.specs.Notes.{happens}
use Rattle.json_text.specs.declared.notation.Notation.{Notation}
use Rattle.symbols.specs.Values.{SymbolTable}
use Rattle.notes.specs.RunNotes.{here, text_after, times, times_from}
use Rattle.notes.specs.Waits.{Keeps, Waits, waits_after}

-- the steps in which some kind has happened for the first time at its place, in order, and whether each is among them
pub record Listed : Type 0 where
  pub steps : List FirstStep
  pub complete : Bool

abbrev pub nothing_listed : Listed
nothing_listed = record { steps = []; complete = true }

-- the places that words name, the counts of each kind, since when each interrupt is asked for, what the steps before have left,
-- how many steps were noted, the last of them in which some kind has happened for the first time at its place, and all of these
pub record Book : Type 0 where
  pub named : Named
  pub counts : List (List ℕ)
  pub waits : Waits
  pub past : Past
  pub steps : ℕ
  pub last : ℕ
  pub firsts : Listed

abbrev pub counts_of : Book → Kind → List ℕ
counts_of book Quotient = get_or book.counts 0 []
counts_of book Skip = get_or book.counts 1 []
counts_of book NoWord = get_or book.counts 2 []
counts_of book InErasable = get_or book.counts 3 []
counts_of book NoHandler = get_or book.counts 4 []
counts_of book OtherBank = get_or book.counts 5 []
counts_of book NotKept = get_or book.counts 6 []
counts_of book MinusZero = get_or book.counts 7 []
counts_of book Overwritten = get_or book.counts 8 []
counts_of book Shared = get_or book.counts 9 []
counts_of book FixedBank = get_or book.counts 10 []

-- once more at a number, where something happens
abbrev pub counted_more : List ℕ → ℕ → Bool → List ℕ
counted_more counts number happens = if happens then set counts number (get_or counts number 0 + 1) else counts

-- whether that is the first time
abbrev pub is_first : List ℕ → ℕ → Bool → Bool
is_first counts number happens = happens && get_or counts number 0 == 0

-- whether something is so of some kind
abbrev pub some_kind : (Kind → Bool) → Bool
some_kind p = p Quotient || (p Skip || (p NoWord
    || (p InErasable || (p NoHandler || (p OtherBank || (p NotKept || (p MinusZero || (p Overwritten || (p Shared
    || p FixedBank)))))))))

-- of which kinds something is so, and which kinds are among some
abbrev pub firsts_by : (Kind → Bool) → Firsts
firsts_by p = record {
  quotient = p Quotient;
  skip = p Skip;
  no_word = p NoWord;
  in_erasable = p InErasable;
  no_handler = p NoHandler;
  other_bank = p OtherBank;
  not_kept = p NotKept;
  minus_zero = p MinusZero;
  overwritten = p Overwritten;
  shared = p Shared;
  fixed_bank = p FixedBank;
}

abbrev pub first_of : Firsts → Kind → Bool
first_of f Quotient = f.quotient
first_of f Skip = f.skip
first_of f NoWord = f.no_word
first_of f InErasable = f.in_erasable
first_of f NoHandler = f.no_handler
first_of f OtherBank = f.other_bank
first_of f NotKept = f.not_kept
first_of f MinusZero = f.minus_zero
first_of f Overwritten = f.overwritten
first_of f Shared = f.shared
first_of f FixedBank = f.fixed_bank

abbrev pub some_first : Firsts → Bool
some_first f = some_kind (first_of f)

-- a step is listed where something is so of some kind
abbrev pub listed_by : Firsts → ℕ → List FirstStep
listed_by kinds number = if some_first kinds then record { number = number; kinds = kinds } ∷ [] else []

-- a step is added behind all others, or not each is among them
pub record AddsFirst (step : FirstStep) (old new : Listed) : Type 0 where
  pub before : new.complete ≡ true → old.complete ≡ true
  pub added : new.complete ≡ true → new.steps ≡ old.steps ++ step ∷ []

-- a step of some kinds is listed, where there are any
pub record Lists (kinds : Firsts) (number : ℕ) (old new : Listed) : Type 0 where
  pub before : new.complete ≡ true → old.complete ≡ true
  pub added : new.complete ≡ true → new.steps ≡ old.steps ++ listed_by kinds number

-- what is held at a number, where something happens, and what is left after it is taken
abbrev pub taken : List ℕ → ℕ → Bool → ℕ
taken counts number happens = if happens then get_or counts number 0 else 0

abbrev pub left_after : List ℕ → ℕ → Bool → List ℕ
left_after counts number happens = if happens then set counts number 0 else counts

-- each count may grow, and so may the number of steps
pub record AreSmall (book : Book) : Type 0 where
  pub counts : (kind : Kind) (a : Account) → IsAccount a → get_or (counts_of book kind) (account_number a) 0 ≤ 2 ^ 62
  pub steps : book.steps ≤ 2 ^ 62

-- a state, after what a book holds of the steps before
abbrev pub seen_by : State → Book → Seen
seen_by s book = record { state = s; past = book.past }

-- what happens in the step that follows a state is counted
pub record Notes (scenario : Scenario) (s : State) (old new : Book) : Type 0 where
  pub known : IsAccount (here scenario s)
  pub each : (kind : Kind) → counts_of new kind ≡ counted_more (counts_of old kind) (account_number (here scenario s))
      (happens old.named scenario kind (seen_by s old))
  pub named : new.named ≡ old.named
  pub waits : new.waits ≡ waits_after s (next_step scenario s) (old.steps + 1) old.waits
  pub past : new.past ≡ past_by s old.past (next_step scenario s)
  pub steps : new.steps ≡ old.steps + 1
  pub last : new.last ≡ (if some_kind (λ kind. is_first (counts_of old kind) (account_number (here scenario s))
      (happens old.named scenario kind (seen_by s old))) then new.steps else old.last)
  pub listed : Lists (firsts_by (λ kind. is_first (counts_of old kind) (account_number (here scenario s))
      (happens old.named scenario kind (seen_by s old)))) new.steps old.firsts new.firsts

-- what is held of each kind that happens in the step that follows a state
abbrev pub taken_at : Scenario → State → Book → Kind → ℕ
taken_at scenario s book kind = taken (counts_of book kind) (account_number (here scenario s))
    (happens book.named scenario kind (seen_by s book))

-- what happens in the step that follows a state is taken
pub record Takes (scenario : Scenario) (s : State) (old new : Book) : Type 0 where
  pub known : IsAccount (here scenario s)
  pub each : (kind : Kind) → counts_of new kind ≡ left_after (counts_of old kind) (account_number (here scenario s))
      (happens old.named scenario kind (seen_by s old))
  pub named : new.named ≡ old.named
  pub waits : new.waits ≡ old.waits
  pub past : new.past ≡ past_by s old.past (next_step scenario s)

-- what is told of each kind
abbrev pub told_of : Told → Kind → ℕ
told_of t Quotient = t.quotients
told_of t Skip = t.skips
told_of t NoWord = t.no_words
told_of t InErasable = t.in_erasable
told_of t NoHandler = t.no_handlers
told_of t OtherBank = t.other_banks
told_of t NotKept = t.not_kept
told_of t MinusZero = t.minus_zeros
told_of t Overwritten = t.overwritten
told_of t Shared = t.shared
told_of t FixedBank = t.fixed_banks

-- something happens at the step after t others, and in none before at the same place
abbrev pub happens_first : Named → Scenario → ℕ → Kind → Bool
happens_first named scenario t kind =
    happens named scenario kind (seen scenario t) && times named scenario kind (here scenario (run scenario t)) t == 0

-- of m steps after t others those in which something does
unfoldable pub first_steps : Named → Scenario → ℕ → ℕ → List FirstStep
first_steps named scenario t zero = []
first_steps named scenario t (suc m) =
    listed_by (firsts_by (happens_first named scenario t)) (t + 1) ++ first_steps named scenario (t + 1) m

-- the counts are those of the first n steps of a run
pub record Counted (named : Named) (scenario : Scenario) (n : ℕ) (book : Book) : Type 0 where
  pub same : book.named ≡ named
  pub within : book.last ≤ n
  pub later : (t : ℕ) → book.last ≤ t → t < n → (kind : Kind) → happens named scenario kind (seen scenario t) ≡ true
      → 1 ≤ times named scenario kind (here scenario (run scenario t)) t
  pub each : (kind : Kind) → length (counts_of book kind) ≡ account_count
  pub times : (kind : Kind) (a : Account) → IsAccount a → get_or (counts_of book kind) (account_number a) 0 ≡ times named scenario kind a n
  pub waits : Keeps scenario n book.waits
  pub past : book.past ≡ past scenario n
  pub steps : book.steps ≡ n
  pub listed : book.firsts.complete ≡ true → book.firsts.steps ≡ first_steps named scenario 0 n

-- what is told at a listed step, by what is counted
abbrev pub told_listed : Scenario → Book → FirstStep → Kind → ℕ
told_listed scenario book f kind =
    taken (counts_of book kind) (account_number (here scenario (run scenario (f.number - 1)))) (first_of f.kinds kind)

abbrev pub listed_text : Notation → SymbolTable → Scenario → Book → FirstStep → List ℕ
listed_text notation symbols scenario book f =
    text_after notation symbols scenario f.number (run scenario (f.number - 1)) (told_listed scenario book f)

-- a book as it stands before the first step, but for what was counted
abbrev pub rewound : Book → Book
rewound book = record book { past = no_past }

-- of n steps what is left to be told after t of them
pub record Left (named : Named) (scenario : Scenario) (t n : ℕ) (book : Book) : Type 0 where
  pub same : book.named ≡ named
  pub each : (kind : Kind) → length (counts_of book kind) ≡ account_count
  pub times : (kind : Kind) (a : Account) → IsAccount a
      → get_or (counts_of book kind) (account_number a) 0 ≡ times_from named scenario kind a t n
  pub waits : Keeps scenario n book.waits
  pub past : book.past ≡ past scenario t
