-- What is so of the book that a notebook's ledgers make is so of the notebook.
use Rattle.std.proofs.Common.{◌≡◌, ℕ, ◌+◌, ◌∙◌, Bool, true, false, ap, subst, sym, if◌then◌else◌}
use Rattle.space.specs.declared.place.Linear.{Linear}
use Rattle.cpu.specs.declared.account.Account.{Account}
use Rattle.cpu.specs.declared.account.Account.TheVariants.{Place}
use Rattle.cpu.specs.declared.next_step.NextStep.{NextStep}
use Rattle.cpu.specs.NextStep.{next_step}
use Rattle.cpu.specs.State.{Scenario, State}
use Rattle.cover.specs.Tallies.{IsAccount, account_number}
use Rattle.notes.specs.declared.first_steps.Firsts.{Firsts}
use Rattle.notes.specs.declared.kind.Kind.{Kind}
use Rattle.notes.specs.declared.kind.Kind.TheVariants.{Quotient, Skip, NoWord, InErasable, NoHandler, OtherBank, NotKept, MinusZero}
use Rattle.notes.specs.declared.kind.Kind.TheVariants.{Overwritten, Shared, FixedBank}
use Rattle.notes.specs.Counted.{Book, Lists, Notes, Takes, counted_more, counts_of, first_of, firsts_by, is_first, left_after, some_first, taken, taken_at}
use Rattle.notes.specs.Notes.{happens_in, is_erasable, is_plain_step, names_erasable_in, place_named, reaches_in}
use Rattle.notes.specs.Past.{past_by}
use Rattle.notes.specs.Reached.{CountsPlain, only_bank}
use Rattle.notes.specs.RunNotes.{where_of}
use Rattle.notes.specs.Waits.{waits_after}
use Rattle.notes.proofs.Counting.{firsts_are, noted, takes, told_at}
use Rattle.notes.proofs.Plain.{plain_past, quiet_counts, quiet_takes, quiet_told, step_plain}

-- which kinds are first, kind by kind
all_firsts : (p : Kind → Bool) (kinds : Firsts) → ((kind : Kind) → p kind ≡ first_of kinds kind) → firsts_by p ≡ kinds
all_firsts p kinds each = firsts_are p _ _ _ _ _ _ _ _ _ _ _ (each Quotient) (each Skip) (each NoWord) (each InErasable) (each NoHandler)
    (each OtherBank) (each NotKept) (each MinusZero) (each Overwritten) (each Shared) (each FixedBank)

-- ## A step at a place
pub counts_nothing : (old now : Book) (place : Linear) → old ≡ now
    → CountsPlain (account_number (Place place)) false (is_erasable (place_named now.named place)) now (record old { steps = old.steps + 1 })
counts_nothing old now place same =
    subst (λ (book : Book). CountsPlain (account_number (Place place)) false (is_erasable (place_named book.named place)) book
    (record old { steps = old.steps + 1 })) same (quiet_counts (account_number (Place place)) (is_erasable (place_named old.named place)) old)

pub counts_reached : (old now new : Book) (number : ℕ) (erasable : Bool) (kinds : Firsts) (some : Bool) → old ≡ now
    → ((kind : Kind) → counts_of new kind ≡ counted_more (counts_of old kind) number (only_bank true erasable kind))
    → new.named ≡ old.named → new.waits ≡ old.waits → new.past ≡ old.past → new.steps ≡ old.steps + 1
    → Lists kinds new.steps old.firsts new.firsts → some ≡ some_first kinds → new.last ≡ (if some then new.steps else old.last)
    → ((kind : Kind) → is_first (counts_of old kind) number (only_bank true erasable kind) ≡ first_of kinds kind)
    → CountsPlain number true erasable now new
counts_reached old now new number erasable kinds some same each named waits past steps listed is last first =
    let firsts = all_firsts (λ kind. is_first (counts_of old kind) number (only_bank true erasable kind)) kinds first in
    let counted : CountsPlain number true erasable old new = record {
      each = each;
      named = named;
      waits = waits;
      past = past;
      steps = steps;
      last = last ∙ ap (λ b. if b then new.steps else old.last) (is ∙ sym (ap some_first firsts));
      listed = subst (λ (ks : Firsts). Lists ks new.steps old.firsts new.firsts) (sym firsts) listed;
    } in
    subst (λ (book : Book). CountsPlain number true erasable book new) same counted

-- ## A step that is taken
module _ (scenario : Scenario) (s : State) (step : NextStep) (old now : Book) (same : old ≡ now) (next : step ≡ next_step scenario s) where
  plain_here : is_plain_step scenario.rope s now.past step ≡ true → is_plain_step scenario.rope s old.past step ≡ true
  plain_here plain = subst (λ (book : Book). is_plain_step scenario.rope s book.past step ≡ true) (sym same) plain

  pub takes_nothing : is_plain_step scenario.rope s now.past step ≡ true → reaches_in old.named s step ≡ false → Takes scenario s now now
  takes_nothing plain unreached = subst (λ (book : Book). Takes scenario s book book) same
      (quiet_takes scenario s step old next (plain_here plain) unreached)

  pub tells_nothing : is_plain_step scenario.rope s now.past step ≡ true → reaches_in old.named s step ≡ false → (kind : Kind)
      → taken_at scenario s now kind ≡ 0
  tells_nothing plain unreached kind = subst (λ (book : Book). taken_at scenario s book kind ≡ 0) same
      (quiet_told scenario s step old next (plain_here plain) unreached kind)

  module _ (a : Account) (number : ℕ) (is : a ≡ where_of step) (at : number ≡ account_number a) where
    pub takes_from : (new : Book) → IsAccount a
        → ((kind : Kind) → counts_of new kind
        ≡ left_after (counts_of old kind) number (happens_in old.named scenario.rope s old.past kind step))
        → new.named ≡ old.named → new.waits ≡ old.waits → new.past ≡ past_by s old.past step → Takes scenario s now new
    takes_from new known each named waits past = subst (λ (book : Book). Takes scenario s book new) same
        (takes scenario s step a number old new next is at known each named waits past)

    pub tells_from : (out : Kind → ℕ)
        → ((kind : Kind) → out kind ≡ taken (counts_of old kind) number (happens_in old.named scenario.rope s old.past kind step))
        → (kind : Kind) → out kind ≡ taken_at scenario s now kind
    tells_from out each kind = subst (λ (book : Book). out kind ≡ taken_at scenario s book kind) same
        (told_at scenario s step a number old out next is at each kind)

    -- what happens in a plain step that reaches another bank
    reached : is_plain_step scenario.rope s now.past step ≡ true → reaches_in now.named s step ≡ true → (kind : Kind)
        → happens_in old.named scenario.rope s old.past kind step ≡ only_bank true (names_erasable_in old.named step) kind
    reached plain reaches kind =
        step_plain old.named scenario.rope s step old.past (plain_here plain) kind
        ∙ ap (λ b. only_bank b (names_erasable_in old.named step) kind)
        (subst (λ (book : Book). reaches_in book.named s step ≡ true) (sym same) reaches)

    pub takes_reach : (new : Book) → IsAccount a → is_plain_step scenario.rope s now.past step ≡ true
        → reaches_in now.named s step ≡ true
        → ((kind : Kind) → counts_of new kind
        ≡ left_after (counts_of old kind) number (only_bank true (names_erasable_in old.named step) kind))
        → new.named ≡ old.named → new.waits ≡ old.waits → new.past ≡ old.past → Takes scenario s now new
    takes_reach new known plain reaches each named waits past = takes_from new known
        (λ kind. each kind ∙ ap (λ b. left_after (counts_of old kind) number b) (sym (reached plain reaches kind))) named waits
        (past ∙ plain_past scenario.rope s step old.past (plain_here plain))

    pub tells_reach : (out : Kind → ℕ) → is_plain_step scenario.rope s now.past step ≡ true → reaches_in now.named s step ≡ true
        → ((kind : Kind) → out kind ≡ taken (counts_of old kind) number (only_bank true (names_erasable_in old.named step) kind))
        → (kind : Kind) → out kind ≡ taken_at scenario s now kind
    tells_reach out plain reaches each = tells_from out
        (λ kind. each kind ∙ ap (λ b. taken (counts_of old kind) number b) (sym (reached plain reaches kind)))

    -- and one that is noted
    pub notes_from : (new : Book) (kinds : Firsts) (some : Bool) → IsAccount a
        → ((kind : Kind) → counts_of new kind
        ≡ counted_more (counts_of old kind) number (happens_in old.named scenario.rope s old.past kind step))
        → new.named ≡ old.named → new.waits ≡ waits_after s step new.steps old.waits → new.past ≡ past_by s old.past step
        → new.steps ≡ old.steps + 1
        → Lists kinds new.steps old.firsts new.firsts → some ≡ some_first kinds → new.last ≡ (if some then new.steps else old.last)
        → ((kind : Kind) → is_first (counts_of old kind) number (happens_in old.named scenario.rope s old.past kind step)
        ≡ first_of kinds kind)
        → Notes scenario s now new
    notes_from new kinds some known each named waits past steps listed has last first =
        let firsts = all_firsts
        (λ kind. is_first (counts_of old kind) number (happens_in old.named scenario.rope s old.past kind step)) kinds first in
        subst (λ (book : Book). Notes scenario s book new) same
        (noted scenario s step a number old new next is at known each named waits past steps
        (last ∙ ap (λ b. if b then new.steps else old.last) (has ∙ sym (ap some_first firsts)))
        (subst (λ (ks : Firsts). Lists ks new.steps old.firsts new.firsts) (sym firsts) listed))
