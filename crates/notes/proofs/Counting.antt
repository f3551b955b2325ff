-- How often something happens, step by step.
use Rattle.std.proofs.Common.{◌≡◌, ℕ, zero, suc, ◌+◌, ◌-◌, ◌++◌, ◌||◌, ◌<◌, append-nil, ◌≤◌, ◌^◌, ◌==◌, ◌&&◌, Bool, true}
use Rattle.std.proofs.Common.{false, List, [], length, replicate, get_or, set, refl, sym, ap, ◌∙◌, inl, inr, None}
use Rattle.std.proofs.Common.{arith, add-one, subst, if◌then◌else◌}
use Rattle.std.proofs.lemmas.Bool.{cases_Bool, and_parts, eqb-true}
use Rattle.std.proofs.lemmas.Bool.Decides.{eqb_tells, nat_tests}
use Rattle.std.proofs.lemmas.List.{get_or-set_same, get_or-set_other, length-replicate, length-set}
use Rattle.words.proofs.Replicated.{get_replicated}
use Rattle.audit.proofs.PartTexts.{front, front_more}
use Rattle.cpu.specs.declared.account.Account.{Account}
use Rattle.cpu.specs.Profiles.{same_account}
use Rattle.cpu.specs.Run.{run}
use Rattle.cpu.specs.State.{State, Scenario}
use Rattle.json_text.specs.declared.notation.Notation.{Notation}
use Rattle.symbols.specs.Values.{SymbolTable}
use Rattle.yayul.specs.Named.{Named}
use Rattle.cover.specs.Tallies.{account_count, account_number, IsAccount}
use Rattle.cover.proofs.Accounts.{other_account, same_is_one}
use Rattle.cover.proofs.Counting.{number_within}
use Rattle.notes.specs.declared.kind.Kind.{Kind}
use Rattle.notes.specs.declared.kind.Kind.TheVariants.{Quotient, Skip, NoWord, InErasable, NoHandler, OtherBank, NotKept, MinusZero}
use Rattle.notes.specs.declared.kind.Kind.TheVariants.{Overwritten, Shared, FixedBank}
use Rattle.cpu.specs.NextStep.{next_step}
use Rattle.cpu.specs.declared.next_step.NextStep.{NextStep}
use Rattle.notes.specs.declared.past.Past.{Past}
use Rattle.notes.specs.Past.{no_past, past, past_by, seen}
use Rattle.notes.specs.Notes.{happens, happens_in}
use Rattle.notes.proofs.Divisions.{neither}
use Rattle.notes.specs.RunNotes.{here, happens_at, kinds_text, step_text, text_after, times, times_from, told, where_of}
use Rattle.notes.specs.declared.notebook.Told.{Told}
use Rattle.notes.specs.Counted.{told_of, is_first, rewound, seen_by, some_kind, AreSmall, Book, Counted, counts_of, Left, Notes, Takes}
use Rattle.notes.specs.Counted.{counted_more, left_after, taken, taken_at, Listed, Lists, first_steps, firsts_by, happens_first, listed_by}
use Rattle.notes.specs.Counted.{nothing_listed}
use Rattle.notes.specs.Waits.{Keeps, waits_after}
use Rattle.notes.proofs.FirstSteps.{first_more}
use Rattle.notes.proofs.LongWaits.{keeps_more, keeps_none}

-- what is so of each kind is so of all
pub of_kinds : (P : Kind → Type 0) → P Quotient → P Skip → P NoWord → P InErasable → P NoHandler → P OtherBank → P NotKept → P MinusZero
    → P Overwritten → P Shared → P FixedBank
    → (kind : Kind) → P kind
of_kinds P a b c d e f g h i j k Quotient = a
of_kinds P a b c d e f g h i j k Skip = b
of_kinds P a b c d e f g h i j k NoWord = c
of_kinds P a b c d e f g h i j k InErasable = d
of_kinds P a b c d e f g h i j k NoHandler = e
of_kinds P a b c d e f g h i j k OtherBank = f
of_kinds P a b c d e f g h i j k NotKept = g
of_kinds P a b c d e f g h i j k MinusZero = h
of_kinds P a b c d e f g h i j k Overwritten = i
of_kinds P a b c d e f g h i j k Shared = j
of_kinds P a b c d e f g h i j k FixedBank = k

abbrev no_count : ℕ
no_count = 0

none_held : (n k : ℕ) → get_or (replicate n no_count) k no_count ≡ no_count
none_held n k = get_replicated no_count n k

-- before the first step
pub none_counted : (named : Named) (scenario : Scenario) (book : Book) → book.named ≡ named
    → ((kind : Kind) → counts_of book kind ≡ replicate account_count 0) → book.waits ≡ replicate 11 None → book.past ≡ no_past
    → book.steps ≡ 0 → book.last ≡ 0 → book.firsts ≡ nothing_listed → Counted named scenario 0 book
unfolding times past first_steps
none_counted named scenario book words e waits before steps last firsts = record {
  same = words;
  each = λ kind. ap length (e kind) ∙ length-replicate account_count no_count;
  times = λ kind a known. rw (e kind) (none_held account_count (account_number a));
  waits = keeps_none scenario book.waits waits;
  past = before;
  steps = steps;
  within = omega (arith, last);
  later = λ t from lt kind hit. absurd (omega (arith, lt));
  listed = λ complete. ap (λ (f : Listed). f.steps) firsts;
}

and_nothing : (k : ℕ) → k + 0 ≡ k
and_nothing k = omega arith

-- a step more
times_more : (named : Named) (scenario : Scenario) (kind : Kind) (a : Account) (n : ℕ)
    → times named scenario kind a (n + 1) ≡ times named scenario kind a n
    + (if happens_at named scenario kind a (seen scenario n) then 1 else 0)
unfolding times
times_more named scenario kind a n = rw (add-one n) refl

as_before : (named : Named) (scenario : Scenario) (kind : Kind) (a : Account) (n : ℕ)
    → happens_at named scenario kind a (seen scenario n) ≡ false → times named scenario kind a (n + 1) ≡ times named scenario kind a n
as_before named scenario kind a n none = times_more named scenario kind a n
    ∙ ap (λ b. times named scenario kind a n + (if b then 1 else 0)) none ∙ and_nothing (times named scenario kind a n)

once_more : (named : Named) (scenario : Scenario) (kind : Kind) (a : Account) (n : ℕ)
    → happens_at named scenario kind a (seen scenario n) ≡ true → times named scenario kind a (n + 1) ≡ times named scenario kind a n + 1
once_more named scenario kind a n hit = times_more named scenario kind a n
    ∙ ap (λ b. times named scenario kind a n + (if b then 1 else 0)) hit

pub few_times : (named : Named) (scenario : Scenario) (kind : Kind) (a : Account) (n : ℕ) → times named scenario kind a n ≤ n
unfolding times
few_times named scenario kind a zero = omega arith
few_times named scenario kind a (suc n) =
    let before = few_times named scenario kind a n in
    elim (cases_Bool (happens_at named scenario kind a (seen scenario n))) [
      | inl hit ↦ rw hit (omega (arith, before))
      | inr miss ↦ rw miss (omega (arith, before))
    ]

pub small : (named : Named) (scenario : Scenario) (n : ℕ) (book : Book) → n < 2 ^ 40 → Counted named scenario n book → AreSmall book
small named scenario n book few counted = record {
  counts = λ kind a known. omega (arith, few, counted.times kind a known, few_times named scenario kind a n);
  steps = omega (arith, few, counted.steps);
}

-- what is held after a step is counted
held_more : (counts : List ℕ) (a b : Account) (h p : Bool) → length counts ≡ account_count → IsAccount a → IsAccount b
    → same_account a b ≡ p
    → get_or (counted_more counts (account_number b) h) (account_number a) 0
    ≡ get_or counts (account_number a) 0 + (if h && p then 1 else 0)
held_more counts a b false p each known there e = sym (and_nothing (get_or counts (account_number a) 0))
held_more counts a b true false each known there apart =
    get_or-set_other counts (account_number b) (account_number a) (get_or counts (account_number b) 0 + 1) 0
    (other_account a b known there apart)
    ∙ sym (and_nothing (get_or counts (account_number a) 0))
held_more counts a b true true each known there same =
    let one : a ≡ b = same_is_one a b same in
    ap (λ x. get_or (set counts (account_number b) (get_or counts (account_number b) 0 + 1)) (account_number x) 0) one
    ∙ get_or-set_same counts (account_number b) (get_or counts (account_number b) 0 + 1) 0 (omega (arith, each, number_within b there))
    ∙ ap (λ x. get_or counts (account_number x) 0 + 1) (sym one)

length_counted : (counts : List ℕ) (number : ℕ) (h : Bool) → length (counted_more counts number h) ≡ length counts
length_counted counts number true = length-set counts number (get_or counts number 0 + 1)
length_counted counts number false = refl

times_by : (named : Named) (scenario : Scenario) (kind : Kind) (a : Account) (n : ℕ) → times named scenario kind a (n + 1)
    ≡ times named scenario kind a n + (if happens named scenario kind (seen scenario n)
    && same_account a (here scenario (run scenario n)) then 1 else 0)
times_by named scenario kind a n = times_more named scenario kind a n

-- counts that are the same are so of each kind
pub counts_alike : (old new : Book) → new.counts ≡ old.counts → (kind : Kind) → counts_of new kind ≡ counts_of old kind
counts_alike old new e =
    of_kinds (λ kind. counts_of new kind ≡ counts_of old kind) (ap (λ cs. get_or cs 0 []) e) (ap (λ cs. get_or cs 1 []) e)
    (ap (λ cs. get_or cs 2 []) e) (ap (λ cs. get_or cs 3 []) e)
    (ap (λ cs. get_or cs 4 []) e) (ap (λ cs. get_or cs 5 []) e) (ap (λ cs. get_or cs 6 []) e) (ap (λ cs. get_or cs 7 []) e)
    (ap (λ cs. get_or cs 8 []) e) (ap (λ cs. get_or cs 9 []) e) (ap (λ cs. get_or cs 10 []) e)

-- what some kind is, of what each is
pub some_by : (p : Kind → Bool) (a b c d e f g h i j k : Bool) → p Quotient ≡ a → p Skip ≡ b → p NoWord ≡ c → p InErasable ≡ d
    → p NoHandler ≡ e → p OtherBank ≡ f → p NotKept ≡ g → p MinusZero ≡ h
    → p Overwritten ≡ i → p Shared ≡ j → p FixedBank ≡ k
    → some_kind p ≡ (a || (b || (c || (d || (e || (f || (g || (h || (i || (j || k))))))))))
some_by p a b c d e f g h i j k one two three four five six seven eight nine ten eleven = rw
    (one, two, three, four, five, six, seven, eight, nine, ten, eleven) refl

-- which kinds are first, of what each is
pub firsts_are : (p : Kind → Bool) (a b c d e f g h i j k : Bool) → p Quotient ≡ a → p Skip ≡ b → p NoWord ≡ c → p InErasable ≡ d
    → p NoHandler ≡ e → p OtherBank ≡ f → p NotKept ≡ g → p MinusZero ≡ h
    → p Overwritten ≡ i → p Shared ≡ j → p FixedBank ≡ k
    → firsts_by p ≡ record {
      quotient = a;
      skip = b;
      no_word = c;
      in_erasable = d;
      no_handler = e;
      other_bank = f;
      not_kept = g;
      minus_zero = h;
      overwritten = i;
      shared = j;
      fixed_bank = k;
    }
firsts_are p a b c d e f g h i j k one two three four five six seven eight nine ten eleven = rw
    (one, two, three, four, five, six, seven, eight, nine, ten, eleven) refl

-- where none is nothing is listed
pub none_lists : (p : Kind → Bool) (number : ℕ) (listed : Listed) → some_kind p ≡ false → Lists (firsts_by p) number listed listed
none_lists p number listed none = record {
  before = λ complete. complete;
  added = λ complete. rw none (sym (append-nil listed.steps));
}

pub none_is : (p : Kind → Bool) → ((kind : Kind) → p kind ≡ false) → some_kind p ≡ false
none_is p none = some_by p false false false false false false false false false false false (none Quotient) (none Skip) (none NoWord)
    (none InErasable) (none NoHandler) (none OtherBank) (none NotKept) (none MinusZero)
    (none Overwritten) (none Shared) (none FixedBank)

-- what is so of none
pub none_of_kinds : (p : Kind → Bool) → some_kind p ≡ false → (kind : Kind) → p kind ≡ false
none_of_kinds p e =
    let one = neither (p Quotient) _ e in
    let two = neither (p Skip) _ one.1 in
    let three = neither (p NoWord) _ two.1 in
    let four = neither (p InErasable) _ three.1 in
    let five = neither (p NoHandler) _ four.1 in
    let six = neither (p OtherBank) _ five.1 in
    let seven = neither (p NotKept) _ six.1 in
    let eight = neither (p MinusZero) _ seven.1 in
    let nine = neither (p Overwritten) _ eight.1 in
    let ten = neither (p Shared) (p FixedBank) nine.1 in
    of_kinds (λ kind. p kind ≡ false) one.0 two.0 three.0 four.0 five.0 six.0 seven.0 eight.0 nine.0 ten.0 ten.1

-- what happens after what a book holds happens in the run
happens_is : (named : Named) (scenario : Scenario) (kind : Kind) (n : ℕ) (book : Book) → book.named ≡ named → book.past ≡ past scenario n
    → happens book.named scenario kind (seen_by (run scenario n) book) ≡ happens named scenario kind (seen scenario n)
happens_is named scenario kind n book same before = rw (same, before) refl

past_more : (scenario : Scenario) (n : ℕ) (p : Past) → p ≡ past scenario n
    → past_by (run scenario n) p (next_step scenario (run scenario n)) ≡ past scenario (n + 1)
unfolding past
past_more scenario n p e = rw (add-one n, e) refl

pub at_least_one : (held t : ℕ) → held ≡ t → (held == 0) ≡ false → 1 ≤ t
at_least_one zero t e z = absurd (cc)
at_least_one (suc k) t e z = omega (arith, e)

-- what happens in a step that is not the last in which something does for the first time has happened there before
before_last : (named : Named) (scenario : Scenario) (n : ℕ) (old new : Book) → Counted named scenario n old
    → Notes scenario (run scenario n) old new → new.last ≤ n → (kind : Kind)
    → happens named scenario kind (seen scenario n) ≡ true → 1 ≤ times named scenario kind (here scenario (run scenario n)) n
before_last named scenario n old new before step within kind hit =
    let s = run scenario n in
    let number = account_number (here scenario s) in
    let p : Kind → Bool = λ k. is_first (counts_of old k) number (happens old.named scenario k (seen_by s old)) in
    elim (cases_Bool (some_kind p)) [
      | inl some ↦
          let last : new.last ≡ new.steps = step.last ∙ ap (λ b. if b then new.steps else old.last) some in
          absurd (omega (arith, last, step.steps, before.steps, within))
      | inr none ↦
          let happened : happens old.named scenario kind (seen_by s old)
          ≡ true = happens_is named scenario kind n old before.same before.past ∙ hit in
          let not_first : is_first (counts_of old kind) number (happens old.named scenario kind (seen_by s old))
          ≡ false = none_of_kinds p none kind in
          let held : (get_or (counts_of old kind) number 0 == 0) ≡ false = rw happened at not_first in
          at_least_one (get_or (counts_of old kind) number 0) _ (before.times kind (here scenario s) step.known) held
    ]

-- the last of all is no later than the last step, and no earlier than before
last_between : (b : Bool) (last more steps : ℕ) → more ≡ (if b then steps + 1 else last) → last ≤ steps → (last ≤ more) × (more ≤ steps + 1)
last_between true last more steps e h = (omega (arith, e, h), omega (arith, e))
last_between false last more steps e h = (omega (arith, e), omega (arith, e, h))

-- what is told of a step is what happens in it for the first time
first_is : (named : Named) (scenario : Scenario) (n : ℕ) (old : Book) → Counted named scenario n old
    → IsAccount (here scenario (run scenario n)) → (kind : Kind)
    → is_first (counts_of old kind) (account_number (here scenario (run scenario n)))
    (happens old.named scenario kind (seen_by (run scenario n) old)) ≡ happens_first named scenario n kind
first_is named scenario n old before known kind =
    ap (λ b. is_first (counts_of old kind) (account_number (here scenario (run scenario n))) b)
    (happens_is named scenario kind n old before.same before.past)
    ∙ ap (λ k. happens named scenario kind (seen scenario n) && k == 0) (before.times kind (here scenario (run scenario n)) known)

firsts_is : (named : Named) (scenario : Scenario) (n : ℕ) (old : Book) → Counted named scenario n old
    → IsAccount (here scenario (run scenario n))
    → firsts_by (λ kind. is_first (counts_of old kind) (account_number (here scenario (run scenario n)))
    (happens old.named scenario kind (seen_by (run scenario n) old))) ≡ firsts_by (happens_first named scenario n)
firsts_is named scenario n old before known =
    let p : Kind → Bool = happens_first named scenario n in
    let is = first_is named scenario n old before known in
    firsts_are (λ kind. is_first (counts_of old kind) (account_number (here scenario (run scenario n)))
    (happens old.named scenario kind (seen_by (run scenario n) old)))
    (p Quotient) (p Skip) (p NoWord) (p InErasable) (p NoHandler) (p OtherBank) (p NotKept) (p MinusZero) (p Overwritten)
    (p Shared) (p FixedBank)
    (is Quotient) (is Skip) (is NoWord) (is InErasable) (is NoHandler) (is OtherBank) (is NotKept) (is MinusZero) (is Overwritten)
    (is Shared) (is FixedBank)

listed_after : (named : Named) (scenario : Scenario) (n : ℕ) (old new : Book) → Counted named scenario n old
    → Notes scenario (run scenario n) old new → new.steps ≡ n + 1 → new.firsts.complete ≡ true
    → new.firsts.steps ≡ first_steps named scenario 0 (n + 1)
listed_after named scenario n old new before step steps complete =
    let at : n ≡ 0 + n = omega arith in
    step.listed.added complete
    ∙ ap (λ items. items ++ listed_by (firsts_by (λ kind. is_first (counts_of old kind) (account_number (here scenario (run scenario n)))
    (happens old.named scenario kind (seen_by (run scenario n) old)))) new.steps) (before.listed (step.listed.before complete))
    ∙ ap (λ kinds. first_steps named scenario 0 n ++ listed_by kinds new.steps) (firsts_is named scenario n old before step.known)
    ∙ ap (λ k. first_steps named scenario 0 n ++ listed_by (firsts_by (happens_first named scenario n)) k) steps
    ∙ ap (λ k. first_steps named scenario 0 n ++ listed_by (firsts_by (happens_first named scenario k)) (k + 1)) at
    ∙ sym (first_more named scenario 0 n)

pub counted_after : (named : Named) (scenario : Scenario) (n : ℕ) (old new : Book) → Counted named scenario n old
    → Notes scenario (run scenario n) old new → Counted named scenario (n + 1) new
counted_after named scenario n old new before step =
    let s = run scenario n in
    let some = some_kind (λ kind. is_first (counts_of old kind) (account_number (here scenario s))
    (happens old.named scenario kind (seen_by s old))) in
    let steps : new.steps ≡ n + 1 = step.steps ∙ ap (λ m. m + 1) before.steps in
    let between = last_between some old.last new.last n (step.last ∙ ap (λ m. if some then m else old.last) steps) before.within in
    record {
      same = step.named ∙ before.same;
      each = λ kind. ap length (step.each kind) ∙ length_counted (counts_of old kind) _ _ ∙ before.each kind;
      times = λ kind a known.
          ap (λ counts. get_or counts (account_number a) 0)
          (step.each kind ∙ ap (λ b. counted_more (counts_of old kind) (account_number (here scenario s)) b)
          (happens_is named scenario kind n old before.same before.past))
          ∙ held_more (counts_of old kind) a (here scenario s) (happens named scenario kind (seen scenario n))
          (same_account a (here scenario s)) (before.each kind) known step.known refl
          ∙ ap (λ k. k + (if happens named scenario kind (seen scenario n) && same_account a (here scenario s) then 1 else 0))
          (before.times kind a known)
          ∙ sym (times_by named scenario kind a n);
      waits = keeps_more scenario n old.waits new.waits before.waits
          (step.waits ∙ ap (λ m. waits_after (run scenario n) (next_step scenario (run scenario n)) (m + 1) old.waits) before.steps);
      past = step.past ∙ past_more scenario n old.past before.past;
      steps = steps;
      listed = λ complete. listed_after named scenario n old new before step steps complete;
      within = between.1;
      later = λ t from lt kind hit.
          elim (eqb_tells t n) [
            | inl now ↦
                let there : happens named scenario kind (seen scenario n) ≡ true = rw now.1 at hit in
                rw now.1 (before_last named scenario n old new before step (omega (arith, from, now.1)) kind there)
            | inr apart ↦ before.later t (omega (arith, from, between.0)) (omega (arith, lt, apart.1)) kind hit
          ];
    }

pub counted_next : (named : Named) (scenario now : Scenario) (n : ℕ) (s : State) (old new : Book) → now ≡ scenario → s ≡ run scenario n
    → Counted named scenario n old → Notes now s old new → Counted named scenario (n + 1) new
counted_next named scenario now n s old new same at before step =
    counted_after named scenario n old new before
    (subst (λ u. Notes u (run scenario n) old new) same (subst (λ t. Notes now t old new) at step))

-- what is noted of the next step, kind by kind
pub small_at : (counts : List ℕ) (book : Book) (number : ℕ) (a : Account) (kind : Kind) → counts ≡ counts_of book kind → AreSmall book
    → IsAccount a → number ≡ account_number a
    → get_or counts number 0 ≤ 2 ^ 62
small_at counts book number a kind is small known e = rw (is, e) (small.counts kind a known)

same_here : (scenario : Scenario) (s : State) (step : NextStep) (a : Account) → step ≡ next_step scenario s → a ≡ where_of step
    → a ≡ here scenario s
same_here scenario s step a at is = is ∙ ap (λ t. where_of t) at

pub noted : (scenario : Scenario) (s : State) (step : NextStep) (a : Account) (number : ℕ) (old new : Book) → step ≡ next_step scenario s
    → a ≡ where_of step → number ≡ account_number a → IsAccount a
    → ((kind : Kind) → counts_of new kind ≡ counted_more (counts_of old kind) number
    (happens_in old.named scenario.rope s old.past kind step))
    → new.named ≡ old.named → new.waits ≡ waits_after s step new.steps old.waits → new.past ≡ past_by s old.past step
    → new.steps ≡ old.steps + 1
    → new.last ≡ (if some_kind (λ kind. is_first (counts_of old kind) number (happens_in old.named scenario.rope s old.past kind step)) then
    new.steps else old.last)
    → Lists (firsts_by (λ kind. is_first (counts_of old kind) number (happens_in old.named scenario.rope s old.past kind step))) new.steps
    old.firsts new.firsts
    → Notes scenario s old new
unfolding happens
noted scenario s step a number old new at is e known each words waits past steps last listed = record {
  known = subst (λ x. IsAccount x) (same_here scenario s step a at is) known;
  each = λ kind.
      each kind ∙ ap (λ m. counted_more (counts_of old kind) m (happens_in old.named scenario.rope s old.past kind step))
      (e ∙ ap (λ x. account_number x) (same_here scenario s step a at is))
      ∙ ap (λ t. counted_more (counts_of old kind) (account_number (here scenario s))
      (happens_in old.named scenario.rope s old.past kind t)) at;
  named = words;
  waits = waits ∙ ap (λ t. waits_after s t new.steps old.waits) at ∙ ap (λ m. waits_after s (next_step scenario s) m old.waits) steps;
  past = past ∙ ap (λ t. past_by s old.past t) at;
  steps = steps;
  last =
      last ∙ ap (λ m. if some_kind (λ kind. is_first (counts_of old kind) m (happens_in old.named scenario.rope s old.past kind step)) then
      new.steps else old.last)
      (e ∙ ap (λ x. account_number x) (same_here scenario s step a at is))
      ∙ ap (λ t. if some_kind (λ kind. is_first (counts_of old kind) (account_number (here scenario s))
      (happens_in old.named scenario.rope s old.past kind t)) then new.steps else old.last) at;
  listed =
      subst (λ (t : NextStep). Lists (firsts_by (λ kind. is_first (counts_of old kind) (account_number (here scenario s))
      (happens_in old.named scenario.rope s old.past kind t))) new.steps old.firsts new.firsts) at
      (subst (λ (m : ℕ). Lists (firsts_by (λ kind. is_first (counts_of old kind) m
      (happens_in old.named scenario.rope s old.past kind step))) new.steps old.firsts new.firsts)
      (e ∙ ap (λ x. account_number x) (same_here scenario s step a at is)) listed);
}

pub takes : (scenario : Scenario) (s : State) (step : NextStep) (a : Account) (number : ℕ) (old new : Book) → step ≡ next_step scenario s
    → a ≡ where_of step → number ≡ account_number a → IsAccount a
    → ((kind : Kind) → counts_of new kind ≡ left_after (counts_of old kind) number
    (happens_in old.named scenario.rope s old.past kind step)) → new.named ≡ old.named → new.waits ≡ old.waits
    → new.past ≡ past_by s old.past step → Takes scenario s old new
unfolding happens
takes scenario s step a number old new at is e known each words waits past = record {
  known = subst (λ x. IsAccount x) (same_here scenario s step a at is) known;
  each = λ kind.
      each kind ∙ ap (λ m. left_after (counts_of old kind) m (happens_in old.named scenario.rope s old.past kind step))
      (e ∙ ap (λ x. account_number x) (same_here scenario s step a at is))
      ∙ ap (λ t. left_after (counts_of old kind) (account_number (here scenario s)) (happens_in old.named scenario.rope s old.past kind t))
      at;
  named = words;
  waits = waits;
  past = past ∙ ap (λ t. past_by s old.past t) at;
}

pub told_at : (scenario : Scenario) (s : State) (step : NextStep) (a : Account) (number : ℕ) (old : Book) (out : Kind → ℕ)
    → step ≡ next_step scenario s → a ≡ where_of step → number ≡ account_number a
    → ((kind : Kind) → out kind ≡ taken (counts_of old kind) number (happens_in old.named scenario.rope s old.past kind step))
    → (kind : Kind) → out kind ≡ taken_at scenario s old kind
unfolding happens
told_at scenario s step a number old out at is e each = λ kind.
    each kind ∙ ap (λ m. taken (counts_of old kind) m (happens_in old.named scenario.rope s old.past kind step))
    (e ∙ ap (λ x. account_number x) (same_here scenario s step a at is))
    ∙ ap (λ t. taken (counts_of old kind) (account_number (here scenario s)) (happens_in old.named scenario.rope s old.past kind t)) at

-- where nothing is told no line is written
pub nothing_told : (notation : Notation) (what : List ℕ) (number cycles : ℕ) (count : Kind → ℕ) → ((kind : Kind) → count kind ≡ 0)
    → kinds_text notation what number cycles count ≡ []
nothing_told notation what number cycles count none = rw (
  none Quotient,
  none Skip,
  none NoWord,
  none InErasable,
  none NoHandler,
  none OtherBank,
  none NotKept,
  none MinusZero,
  none Overwritten,
  none Shared,
  none FixedBank,
) refl

-- all eleven are 0
pub all_zero : (t : Told)
    → (t.quotients == 0 && (t.skips == 0 && (t.no_words == 0
    && (t.in_erasable == 0 && (t.no_handlers == 0
    && (t.other_banks == 0 && (t.not_kept == 0 && (t.minus_zeros == 0 && (t.overwritten == 0
    && (t.shared == 0 && t.fixed_banks == 0)))))))))) ≡ true
    → (kind : Kind) → told_of t kind ≡ 0
all_zero t e =
    let one = and_parts (t.quotients == 0) _ e in
    let two = and_parts (t.skips == 0) _ one.1 in
    let three = and_parts (t.no_words == 0) _ two.1 in
    let four = and_parts (t.in_erasable == 0) _ three.1 in
    let five = and_parts (t.no_handlers == 0) _ four.1 in
    let six = and_parts (t.other_banks == 0) _ five.1 in
    let seven = and_parts (t.not_kept == 0) _ six.1 in
    let eight = and_parts (t.minus_zeros == 0) _ seven.1 in
    let nine = and_parts (t.overwritten == 0) _ eight.1 in
    let ten = and_parts (t.shared == 0) (t.fixed_banks == 0) nine.1 in
    of_kinds (λ kind. told_of t kind ≡ 0) (eqb-true t.quotients 0 one.0) (eqb-true t.skips 0 two.0) (eqb-true t.no_words 0 three.0)
    (eqb-true t.in_erasable 0 four.0) (eqb-true t.no_handlers 0 five.0)
    (eqb-true t.other_banks 0 six.0) (eqb-true t.not_kept 0 seven.0) (eqb-true t.minus_zeros 0 eight.0) (eqb-true t.overwritten 0 nine.0)
    (eqb-true t.shared 0 ten.0) (eqb-true t.fixed_banks 0 ten.1)

-- ## What is told
pub left_start : (named : Named) (scenario : Scenario) (n : ℕ) (book : Book) → Counted named scenario n book
    → Left named scenario 0 n (rewound book)
unfolding times past
left_start named scenario n book counted = record {
  same = counted.same;
  each = λ kind. ap length (counts_alike book (rewound book) refl kind) ∙ counted.each kind;
  times = λ kind a known. ap (λ counts. get_or counts (account_number a) 0) (counts_alike book (rewound book) refl kind)
      ∙ counted.times kind a known;
  waits = counted.waits;
  past = refl;
}

-- what is left after a step
held_left : (counts : List ℕ) (a b : Account) (h p : Bool) → length counts ≡ account_count → IsAccount a → IsAccount b
    → same_account a b ≡ p
    → get_or (left_after counts (account_number b) h) (account_number a) 0 ≡ (if h && p then 0 else get_or counts (account_number a) 0)
held_left counts a b false p each known there e = refl
held_left counts a b true false each known there apart = get_or-set_other counts (account_number b) (account_number a) 0 0
    (other_account a b known there apart)
held_left counts a b true true each known there same =
    let one : a ≡ b = same_is_one a b same in
    ap (λ x. get_or (set counts (account_number b) 0) (account_number x) 0) one
    ∙ get_or-set_same counts (account_number b) 0 0 (omega (arith, each, number_within b there))

length_left : (counts : List ℕ) (number : ℕ) (h : Bool) → length (left_after counts number h) ≡ length counts
length_left counts number true = length-set counts number 0
length_left counts number false = refl

not_none : (k : ℕ) → (k + 1 == 0) ≡ false
not_none k = grind (arith, nat_tests)

from_more : (named : Named) (scenario : Scenario) (kind : Kind) (a : Account) (t n : ℕ) (b : Bool)
    → happens_at named scenario kind a (seen scenario t) ≡ b
    → (if b then 0 else times_from named scenario kind a t n) ≡ times_from named scenario kind a (t + 1) n
from_more named scenario kind a t n true hit = rw (once_more named scenario kind a t hit, not_none (times named scenario kind a t)) refl
from_more named scenario kind a t n false miss = rw (as_before named scenario kind a t miss) refl

pub left_more : (named : Named) (scenario : Scenario) (t n : ℕ) (old new : Book) → Left named scenario t n old
    → Takes scenario (run scenario t) old new → Left named scenario (t + 1) n new
left_more named scenario t n old new before step = record {
  same = step.named ∙ before.same;
  each = λ kind. ap length (step.each kind) ∙ length_left (counts_of old kind) _ _ ∙ before.each kind;
  times = λ kind a known.
      let s = run scenario t in
      ap (λ counts. get_or counts (account_number a) 0)
      (step.each kind ∙ ap (λ b. left_after (counts_of old kind) (account_number (here scenario s)) b)
      (happens_is named scenario kind t old before.same before.past))
      ∙ held_left (counts_of old kind) a (here scenario s) (happens named scenario kind (seen scenario t))
      (same_account a (here scenario s)) (before.each kind) known step.known refl
      ∙ ap (λ k. if happens named scenario kind (seen scenario t) && same_account a (here scenario s) then 0 else k)
      (before.times kind a known)
      ∙ from_more named scenario kind a t n (happens_at named scenario kind a (seen scenario t)) refl;
  waits = subst (λ w. Keeps scenario n w) (sym step.waits) before.waits;
  past = step.past ∙ past_more scenario t old.past before.past;
}

pub left_next : (named : Named) (scenario now : Scenario) (t n : ℕ) (s : State) (old new : Book) → now ≡ scenario → s ≡ run scenario t
    → Left named scenario t n old → Takes now s old new → Left named scenario (t + 1) n new
left_next named scenario now t n s old new same at before step =
    left_more named scenario t n old new before (subst (λ u. Takes u (run scenario t) old new) same
    (subst (λ r. Takes now r old new) at step))

-- what is taken at a step is what is told there
told_by : (h : Bool) (held from : ℕ) → held ≡ from → (if h then held else 0) ≡ (if h then from else 0)
told_by h held from e = rw e refl

told_each : (named : Named) (scenario : Scenario) (t n : ℕ) (book : Book) → Left named scenario t n book
    → IsAccount (here scenario (run scenario t)) → (kind : Kind)
    → taken_at scenario (run scenario t) book kind ≡ told named scenario n t kind
unfolding told
told_each named scenario t n book left known kind =
    ap (λ b. taken (counts_of book kind) (account_number (here scenario (run scenario t))) b)
    (happens_is named scenario kind t book left.same left.past)
    ∙ told_by (happens named scenario kind (seen scenario t)) _ _ (left.times kind (here scenario (run scenario t)) known)

pub told_is : (named : Named) (scenario : Scenario) (t n : ℕ) (book : Book) → Left named scenario t n book
    → IsAccount (here scenario (run scenario t)) → taken_at scenario (run scenario t) book ≡ told named scenario n t
told_is named scenario t n book left known = λ i kind. told_each named scenario t n book left known kind i

text_at : (notation : Notation) (symbols : SymbolTable) (named : Named) (scenario : Scenario) (t n : ℕ) (book : Book)
    → Left named scenario t n book → IsAccount (here scenario (run scenario t))
    → text_after notation symbols scenario (t + 1) (run scenario t) (taken_at scenario (run scenario t) book)
    ≡ step_text notation symbols named scenario n t
unfolding step_text
text_at notation symbols named scenario t n book left known = ap (λ f. text_after notation symbols scenario (t + 1) (run scenario t) f)
    (told_is named scenario t n book left known)

pub text_is : (notation : Notation) (symbols : SymbolTable) (named : Named) (scenario now : Scenario) (t n : ℕ) (s : State) (book : Book)
    → now ≡ scenario → s ≡ run scenario t → Left named scenario t n book → IsAccount (here now s)
    → text_after notation symbols now (t + 1) s (taken_at now s book) ≡ step_text notation symbols named scenario n t
text_is notation symbols named scenario now t n s book same at left known =
    let there : IsAccount (here scenario (run scenario t)) = subst (λ u. IsAccount (here u (run scenario t))) same
    (subst (λ r. IsAccount (here now r)) at known) in
    ap (λ r. text_after notation symbols now (t + 1) r (taken_at now r book)) at
    ∙ ap (λ u. text_after notation symbols u (t + 1) (run scenario t) (taken_at u (run scenario t) book)) same
    ∙ text_at notation symbols named scenario t n book left there

-- ## After the last step in which something happens for the first time nothing is told
pub told_none : (named : Named) (scenario : Scenario) (t n : ℕ) (kind : Kind)
    → (happens named scenario kind (seen scenario t) ≡ true → 1 ≤ times named scenario kind (here scenario (run scenario t)) t)
    → told named scenario n t kind ≡ 0
unfolding told
told_none named scenario t n kind before =
    elim (cases_Bool (happens named scenario kind (seen scenario t))) [
      | inl hit ↦
          let some = before hit in
          let test : (times named scenario kind (here scenario (run scenario t)) t == 0) ≡ false = grind (arith, nat_tests, some) in
          rw (hit, test) refl
      | inr miss ↦ rw miss refl
    ]

none_later : (notation : Notation) (symbols : SymbolTable) (named : Named) (scenario : Scenario) (t n : ℕ) (book : Book)
    → Counted named scenario n book → book.last ≤ t → t < n
    → step_text notation symbols named scenario n t ≡ []
unfolding step_text
none_later notation symbols named scenario t n book counted from lt =
    nothing_told notation _ _ _ (told named scenario n t) (λ kind. told_none named scenario t n kind (counted.later t from lt kind))

pub front_rest : (f : ℕ → List ℕ) (m k whole : ℕ) → whole ≡ k + m → ((t : ℕ) → k ≤ t → t < whole → f t ≡ []) → front f k ≡ front f whole
front_rest f zero k whole e none = ap (λ x. front f x) (omega (arith, e))
front_rest f (suc m) k whole e none =
    let last : f (k + m) ≡ [] = none (k + m) (omega arith) (omega (arith, e)) in
    front_rest f m k (k + m) refl (λ t from lt. none t from (omega (arith, e, lt))) ∙ sym (append-nil (front f (k + m)))
    ∙ ap (λ items. front f (k + m) ++ items) (sym last)
    ∙ sym (front_more f (k + m)) ∙ ap (λ x. front f x) (omega (arith, e))

-- so the texts of all steps are those up to that one
pub texts_up_to_last : (notation : Notation) (symbols : SymbolTable) (named : Named) (scenario : Scenario) (n : ℕ) (book : Book)
    → Counted named scenario n book
    → front (step_text notation symbols named scenario n) book.last ≡ front (step_text notation symbols named scenario n) n
texts_up_to_last notation symbols named scenario n book counted =
    front_rest (step_text notation symbols named scenario n) (n - book.last) book.last n (omega (arith, counted.within))
    (λ t from lt. none_later notation symbols named scenario t n book counted from lt)
