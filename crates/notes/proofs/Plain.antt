-- Steps of which nothing is told but that they reach another bank, and those of which nothing is.
use Rattle.std.proofs.Common.{◌≡◌, ℕ, ◌+◌, ◌∙◌, ◌==◌, ◌&&◌, Bool, true, false, not, nat_lt, get_or, set, refl, sym, ap, subst}
use Rattle.std.proofs.Common.{inl, inr, Option, Some, None, arith, if◌then◌else◌, ◌<◌, ◌||◌, nat_le}
use Rattle.std.specs.Prelude.{codes, is_some}
use Rattle.std.proofs.lemmas.Bool.{cases_Bool, and_parts, ltb-true}
use Rattle.std.proofs.lemmas.Bool.Decides.{nat_tests}
use Rattle.space.specs.Cells.{return_address}
use Rattle.std.proofs.lemmas.List.{set-get_or}
use Rattle.space.specs.declared.place.Linear.{Linear}
use Rattle.space.specs.declared.place.Linear.TheVariants.{Erasable, Fixed}
use Rattle.rope.specs.Places.{Words, bank_words, banks, slot_at, stands}
use Rattle.cpu.specs.declared.account.Account.TheVariants.{Place}
use Rattle.cpu.specs.NextStep.{next_step}
use Rattle.cpu.specs.State.{State, Scenario}
use Rattle.cpu.specs.declared.next_step.Fetched.{Fetched}
use Rattle.cpu.specs.declared.next_step.NextStep.{NextStep}
use Rattle.cpu.specs.declared.next_step.NextStep.TheVariants as made
use Rattle.yayul.specs.Named.{Named}
use Rattle.cover.specs.Tallies.{account_number, IsAccount}
use Rattle.notes.specs.declared.kind.Kind.{Kind}
use Rattle.notes.specs.declared.past.Past.{Past}
use Rattle.notes.specs.Past.{comes_by, is_lost, is_marked, is_passed, marked, past_by, reads_channel}
use Rattle.notes.specs.Notes.{counts_minus_zero, divides, happens, happens_in, has_word, is_at_word, is_code_in_erasable, is_erasable}
use Rattle.notes.specs.Notes.{is_plain, is_plain_code, is_plain_step, is_quiet_step, names_erasable_in, place_named, reaches_in}
use Rattle.notes.specs.Notes.{is_named, is_way_back, reaches_other, skips}
use Rattle.notes.proofs.Divisions.{basic_never, extracode_never, store_never_elsewhere}
use Rattle.notes.specs.RunNotes.{here, where_of}
use Rattle.notes.specs.Counted.{Book, counted_more, counts_of, firsts_by, is_first, left_after, Lists, Notes, some_kind}
use Rattle.notes.specs.Counted.{taken, taken_at, Takes}
use Rattle.notes.specs.Reached.{CountsPlain, only_bank}
use Rattle.notes.specs.Waits.{Waits, waits_after}
use Rattle.notes.proofs.Counting.{counts_alike, none_is, none_lists, noted, of_kinds}

not_so : (b : Bool) → not b ≡ true → b ≡ false
not_so true e = absurd (cc)
not_so false e = refl

not_entered : (p : Past) (k : Option ℕ) → is_passed p k ≡ true → is_marked p.entered k ≡ false
not_entered p None e = refl
not_entered p (Some k) e = not_so (get_or p.entered k false) (and_parts (get_or p.passed k false) (not (get_or p.entered k false)) e).1

passed_before : (p : Past) (k : Option ℕ) → is_passed p k ≡ true → p.passed ≡ marked p.passed k
passed_before p None e = refl
passed_before p (Some k) e =
    let before : get_or p.passed k false ≡ true = (and_parts (get_or p.passed k false) (not (get_or p.entered k false)) e).0 in
    subst (λ b. p.passed ≡ set p.passed k b) before (sym (set-get_or p.passed k false))

has_a_word : (rope : Words) (place : Linear) → is_at_word rope place ≡ true → has_word rope place ≡ true
has_a_word rope (Erasable p) e = refl
has_a_word rope (Fixed bank offset) e = e

not_in_erasable : (rope : Words) (place : Linear) → is_at_word rope place ≡ true → is_code_in_erasable place ≡ false
not_in_erasable rope (Erasable p) e = absurd (cc)
not_in_erasable rope (Fixed bank offset) e = refl

within_banks : (rope : Words) (bank offset : ℕ) → stands rope bank offset ≡ true → IsAccount (Place (Fixed bank offset))
unfolding slot_at
within_banks rope bank offset e =
    elim (cases_Bool (nat_lt bank banks && nat_lt offset bank_words)) [
      | inl within ↦
          let parts = and_parts (nat_lt bank banks) (nat_lt offset bank_words) within in
          let one = ltb-true bank banks parts.0 in
          let two = ltb-true offset bank_words parts.1 in
          (omega (arith, one), omega (arith, two))
      | inr out ↦ let wrong : false ≡ true = rw out at e in cc
    ]

is_account : (rope : Words) (place : Linear) → is_at_word rope place ≡ true → IsAccount (Place place)
is_account rope (Erasable p) e = absurd (cc)
is_account rope (Fixed bank offset) e = within_banks rope bank offset e

-- what a plain instruction is
record Plain (rope : Words) (s : State) (p : Past) (f : Fetched) : Type 0 where
  waited : f.waited ≡ false
  has_word : has_word rope f.place ≡ true
  elsewhere : is_code_in_erasable f.place ≡ false
  account : IsAccount (Place f.place)
  unshared : is_marked p.entered (comes_by s f) ≡ false
  passed : p.passed ≡ marked p.passed (comes_by s f)
  resumes : (not f.extra && f.word == 0o50017) ≡ false
  reads : reads_channel f ≡ false
  skips : skips s f ≡ false
  divides : divides rope s f ≡ false
  zeros : counts_minus_zero rope s f ≡ false

never_divides : (rope : Words) (s : State) (f : Fetched) → f.extra ≡ false → divides rope s f ≡ false
never_divides rope s f e =
    let never : is_named f (codes "DV") ≡ false = rw e (basic_never f.word) in
    rw never refl

never_skips : (s : State) (f : Fetched) → f.extra ≡ true → skips s f ≡ false
never_skips s f e =
    let never : is_named f (codes "TS") ≡ false = rw e (extracode_never f.word) in
    rw never refl

plain_extracode : (rope : Words) (s : State) (p : Past) (f : Fetched) → f.extra ≡ true → f.waited ≡ false
    → is_at_word rope f.place ≡ true → is_passed p (comes_by s f) ≡ true
    → (not (reads_channel f) && not (divides rope s f)) ≡ true → Plain rope s p f
plain_extracode rope s p f extra waited placed passes e =
    let one = and_parts (not (reads_channel f)) (not (divides rope s f)) e in
    record {
      waited = waited;
      has_word = has_a_word rope f.place placed;
      elsewhere = not_in_erasable rope f.place placed;
      account = is_account rope f.place placed;
      unshared = not_entered p (comes_by s f) passes;
      passed = passed_before p (comes_by s f) passes;
      resumes = rw extra refl;
      reads = not_so (reads_channel f) one.0;
      skips = never_skips s f extra;
      divides = not_so (divides rope s f) one.1;
      zeros = rw extra refl;
    }

plain_basic : (rope : Words) (s : State) (p : Past) (f : Fetched) → f.extra ≡ false → f.waited ≡ false
    → is_at_word rope f.place ≡ true → is_passed p (comes_by s f) ≡ true
    → (not (f.word == 0o50017) && (not (skips s f) && not (counts_minus_zero rope s f))) ≡ true → Plain rope s p f
plain_basic rope s p f extra waited placed passes e =
    let one = and_parts (not (f.word == 0o50017)) _ e in
    let two = and_parts (not (skips s f)) (not (counts_minus_zero rope s f)) one.1 in
    record {
      waited = waited;
      has_word = has_a_word rope f.place placed;
      elsewhere = not_in_erasable rope f.place placed;
      account = is_account rope f.place placed;
      unshared = not_entered p (comes_by s f) passes;
      passed = passed_before p (comes_by s f) passes;
      resumes = rw extra (not_so (f.word == 0o50017) one.0);
      reads = rw extra refl;
      skips = not_so (skips s f) two.0;
      divides = never_divides rope s f extra;
      zeros = not_so (counts_minus_zero rope s f) two.1;
    }

-- which of two it is
first_of_two : (b x y : Bool) → b ≡ true → (if b then x else y) ≡ true → x ≡ true
first_of_two true x y e held = held
first_of_two false x y e held = absurd (cc)

second_of_two : (b x y : Bool) → b ≡ false → (if b then x else y) ≡ true → y ≡ true
second_of_two true x y e held = absurd (cc)
second_of_two false x y e held = held

plain_parts : (rope : Words) (s : State) (p : Past) (f : Fetched) → is_plain rope s p f ≡ true → Plain rope s p f
plain_parts rope s p f e =
    let one = and_parts (not f.waited) _ e in
    let two = and_parts (is_at_word rope f.place) _ one.1 in
    let three = and_parts (is_passed p (comes_by s f)) (is_plain_code rope s f) two.1 in
    let waited = not_so f.waited one.0 in
    elim (cases_Bool f.extra) [
      | inl extra ↦ plain_extracode rope s p f extra waited two.0 three.0 (first_of_two f.extra _ _ extra three.1)
      | inr basic ↦ plain_basic rope s p f basic waited two.0 three.0 (second_of_two f.extra _ _ basic three.1)
    ]

-- where two are not so, nor are three or four
not_three : (a b c : Bool) → (a && b) ≡ false → (a && b && c) ≡ false
not_three true b c e = rw e refl
not_three false b c e = refl

not_four : (a b c d : Bool) → (a && b) ≡ false → (a && b && c && d) ≡ false
not_four true b c d e = rw e refl
not_four false b c d e = refl

plain_each : (named : Named) (rope : Words) (s : State) (f : Fetched) (p : Past) → Plain rope s p f → (kind : Kind)
    → happens_in named rope s p kind (made.Executes f)
    ≡ only_bank (reaches_other named s f) (is_erasable (place_named named f.place)) kind
plain_each named rope s f p q =
    of_kinds (λ kind. happens_in named rope s p kind (made.Executes f)
    ≡ only_bank (reaches_other named s f) (is_erasable (place_named named f.place)) kind)
    q.divides q.skips
    (rw (q.waited, q.has_word) refl)
    (rw (q.waited, q.elsewhere) refl) refl refl
    (not_four (not f.extra) (f.word == 0o50017) s.inside (is_lost s p.entry) q.resumes)
    (rw (q.waited, q.zeros) refl) refl
    (rw (not_three (not f.extra) (f.word == 0o50017) (not s.inside) q.resumes, q.unshared) refl) refl

-- so it is of a plain step
pub step_plain : (named : Named) (rope : Words) (s : State) (step : NextStep) (p : Past) → is_plain_step rope s p step ≡ true
    → (kind : Kind) → happens_in named rope s p kind step ≡ only_bank (reaches_in named s step) (names_erasable_in named step) kind
step_plain named rope s (made.Takes input) p e = absurd (cc)
step_plain named rope s (made.Enters k) p e = absurd (cc)
step_plain named rope s (made.Executes f) p e = plain_each named rope s f p (plain_parts rope s p f e)

only_none : (erasable : Bool) (kind : Kind) → only_bank false erasable kind ≡ false
only_none erasable =
    of_kinds (λ kind. only_bank false erasable kind ≡ false) refl refl refl refl refl refl refl refl refl refl refl

-- of a quiet step nothing happens
none_reached : (named : Named) (rope : Words) (s : State) (step : NextStep) (p : Past) → is_plain_step rope s p step ≡ true
    → reaches_in named s step ≡ false → (kind : Kind) → happens_in named rope s p kind step ≡ false
none_reached named rope s step p plain none kind =
    step_plain named rope s step p plain kind ∙ ap (λ b. only_bank b (names_erasable_in named step) kind) none
    ∙ only_none (names_erasable_in named step) kind

pub step_none : (named : Named) (rope : Words) (s : State) (step : NextStep) (p : Past) → is_quiet_step named rope s p step ≡ true
    → (kind : Kind)
    → happens_in named rope s p kind step ≡ false
step_none named rope s step p e =
    let parts = and_parts (is_plain_step rope s p step) (not (reaches_in named s step)) e in
    none_reached named rope s step p parts.0 (not_so (reaches_in named s step) parts.1)

pub plain_waits : (rope : Words) (s : State) (p : Past) (step : NextStep) (number : ℕ) (waits : Waits)
    → is_plain_step rope s p step ≡ true → waits ≡ waits_after s step number waits
plain_waits rope s p (made.Takes input) number waits e = absurd (cc)
plain_waits rope s p (made.Enters k) number waits e = absurd (cc)
plain_waits rope s p (made.Executes f) number waits e = refl

still_so : (b : Bool) → b ≡ (b && true)
still_so true = refl
still_so false = refl

past_stays : (rope : Words) (s : State) (f : Fetched) (p : Past) → Plain rope s p f → p ≡ past_by s p (made.Executes f)
past_stays rope s f p q =
    let unread : (b : Bool) → b ≡ b && not false = λ b. still_so b in
    rw q.reads (λ i. record p { first_key = unread p.first_key i; second_key = unread p.second_key i; passed = q.passed i })

pub plain_past : (rope : Words) (s : State) (step : NextStep) (p : Past) → is_plain_step rope s p step ≡ true
    → p ≡ past_by s p step
plain_past rope s (made.Takes input) p e = absurd (cc)
plain_past rope s (made.Enters k) p e = absurd (cc)
plain_past rope s (made.Executes f) p e = past_stays rope s f p (plain_parts rope s p f e)

pub quiet_past : (named : Named) (rope : Words) (s : State) (step : NextStep) (p : Past) → is_quiet_step named rope s p step ≡ true
    → p ≡ past_by s p step
quiet_past named rope s step p e =
    plain_past rope s step p (and_parts (is_plain_step rope s p step) (not (reaches_in named s step)) e).0

plain_account : (rope : Words) (s : State) (p : Past) (step : NextStep) → is_plain_step rope s p step ≡ true
    → IsAccount (where_of step)
plain_account rope s p (made.Takes input) e = absurd (cc)
plain_account rope s p (made.Enters k) e = absurd (cc)
plain_account rope s p (made.Executes f) e =
    let q = plain_parts rope s p f e in
    rw q.waited q.account

-- a plain step is noted where it is counted, and a quiet one is counted by its number alone
counted_noted : (scenario : Scenario) (s : State) (f : Fetched) (number : ℕ) (reaches erasable : Bool) (old new : Book)
    → made.Executes f ≡ next_step scenario s → Plain scenario.rope s old.past f → number ≡ account_number (Place f.place)
    → reaches ≡ reaches_other old.named s f → erasable ≡ is_erasable (place_named old.named f.place)
    → CountsPlain number reaches erasable old new → Notes scenario s old new
counted_noted scenario s f number reaches erasable old new was p at reach is q =
    let step : NextStep = made.Executes f in
    let same : only_bank reaches erasable ≡ (λ kind. happens_in old.named scenario.rope s old.past kind step) = λ i kind.
    (ap (λ b. only_bank b erasable kind) reach ∙ ap (λ b. only_bank (reaches_other old.named s f) b kind) is
    ∙ sym (plain_each old.named scenario.rope s f old.past p kind)) i in
    let here : Place f.place ≡ where_of step = rw p.waited refl in
    noted scenario s step (Place f.place) number old new was here at p.account
    (subst (λ (h : Kind → Bool). (kind : Kind) → counts_of new kind ≡ counted_more (counts_of old kind) number (h kind)) same q.each)
    q.named q.waits (q.past ∙ past_stays scenario.rope s f old.past p) q.steps
    (subst (λ (h : Kind → Bool). new.last ≡ (if some_kind (λ kind. is_first (counts_of old kind) number (h kind)) then new.steps
    else old.last)) same q.last)
    (subst (λ (h : Kind → Bool). Lists (firsts_by (λ kind. is_first (counts_of old kind) number (h kind))) new.steps old.firsts new.firsts)
    same q.listed)

pub plain_noted : (scenario : Scenario) (s : State) (f : Fetched) (number : ℕ) (reaches erasable : Bool) (old new : Book)
    → made.Executes f ≡ next_step scenario s → is_plain scenario.rope s old.past f ≡ true → number ≡ account_number (Place f.place)
    → reaches ≡ reaches_other old.named s f → erasable ≡ is_erasable (place_named old.named f.place)
    → CountsPlain number reaches erasable old new → Notes scenario s old new
plain_noted scenario s f number reaches erasable old new was plain =
    counted_noted scenario s f number reaches erasable old new was (plain_parts scenario.rope s old.past f plain)

-- and so is a way back that stands at Q
none_either : (b : Bool) (o : Option ℕ) → o ≡ None → (if b then None else o) ≡ None
none_either true o e = refl
none_either false o e = e

comes_by_none : (s : State) (f : Fetched) (place : ℕ) → f.place ≡ Erasable place → comes_by s f ≡ None
comes_by_none s f place at = rw at (none_either (s.inside || f.waited) None refl)

return_parts : (rope : Words) (s : State) (p : Past) (f : Fetched) → f.waited ≡ false → f.place ≡ Erasable return_address
    → is_way_back f ≡ true → Plain rope s p f
return_parts rope s p f waited at way =
    let one = and_parts (not f.extra && nat_le 0o2000 f.word) (nat_lt f.word 0o10000) way in
    let two = and_parts (not f.extra) (nat_le 0o2000 f.word) one.0 in
    let basic = not_so f.extra two.0 in
    let below : f.word < 0o10000 = ltb-true f.word 0o10000 one.1 in
    let apart : (f.word == 0o50017) ≡ false = grind (arith, nat_tests, below) in
    let low : nat_le 0o10000 f.word ≡ false = grind (arith, nat_tests, below) in
    let lower : nat_le 0o54000 f.word ≡ false = grind (arith, nat_tests, below) in
    let none = comes_by_none s f return_address at in
    let store : is_named f (codes "TS") ≡ false = rw basic (store_never_elsewhere f.word (rw lower refl)) in
    record {
      waited = waited;
      has_word = rw at refl;
      elsewhere = rw at refl;
      account = rw at (omega arith);
      unshared = rw none refl;
      passed = rw none refl;
      resumes = rw (basic, apart) refl;
      reads = rw basic refl;
      skips = rw store refl;
      divides = never_divides rope s f basic;
      zeros = rw (basic, low) refl;
    }

never_both : (b : Bool) → false ≡ (b && false)
never_both true = refl
never_both false = refl

pub return_noted : (scenario : Scenario) (s : State) (f : Fetched) (number : ℕ) (erasable : Bool) (old new : Book)
    → made.Executes f ≡ next_step scenario s → f.waited ≡ false → f.place ≡ Erasable return_address → is_way_back f ≡ true
    → number ≡ account_number (Place f.place) → erasable ≡ is_erasable (place_named old.named f.place)
    → CountsPlain number false erasable old new → Notes scenario s old new
return_noted scenario s f number erasable old new was waited at way is named =
    let none : false ≡ reaches_other old.named s f = rw (at, waited) (never_both (not (is_some f.added))) in
    counted_noted scenario s f number false erasable old new was (return_parts scenario.rope s old.past f waited at way) is none named

pub quiet_counts : (number : ℕ) (erasable : Bool) (old : Book)
    → CountsPlain number false erasable old (record old { steps = old.steps + 1 })
quiet_counts number erasable old =
    let none = only_none erasable in
    let no_first = none_is (λ kind. is_first (counts_of old kind) number (only_bank false erasable kind))
    (λ kind. ap (λ b. is_first (counts_of old kind) number b) (none kind)) in
    let new : Book = record old { steps = old.steps + 1 } in
    record {
      each = λ kind. counts_alike old new refl kind ∙ sym (ap (λ b. counted_more (counts_of old kind) number b) (none kind));
      named = refl;
      waits = refl;
      past = refl;
      steps = refl;
      last = sym (ap (λ b. if b then old.steps + 1 else old.last) no_first);
      listed = none_lists (λ kind. is_first (counts_of old kind) number (only_bank false erasable kind)) (old.steps + 1) old.firsts
          no_first;
    }

pub quiet_takes : (scenario : Scenario) (s : State) (step : NextStep) (old : Book) → step ≡ next_step scenario s
    → is_plain_step scenario.rope s old.past step ≡ true → reaches_in old.named s step ≡ false → Takes scenario s old old
unfolding happens
quiet_takes scenario s step old was plain unreached =
    let e : is_plain_step scenario.rope s old.past (next_step scenario s) ≡ true = rw was at plain in
    let e2 : reaches_in old.named s (next_step scenario s) ≡ false = rw was at unreached in
    let none = none_reached old.named scenario.rope s (next_step scenario s) old.past e e2 in
    record {
      known = plain_account scenario.rope s old.past (next_step scenario s) e;
      each = λ kind. sym (ap (λ b. left_after (counts_of old kind) (account_number (here scenario s)) b) (none kind));
      named = refl;
      waits = refl;
      past = plain_past scenario.rope s (next_step scenario s) old.past e;
    }

pub quiet_told : (scenario : Scenario) (s : State) (step : NextStep) (old : Book) → step ≡ next_step scenario s
    → is_plain_step scenario.rope s old.past step ≡ true → reaches_in old.named s step ≡ false → (kind : Kind)
    → taken_at scenario s old kind ≡ 0
unfolding happens
quiet_told scenario s step old was plain unreached kind =
    let e : is_plain_step scenario.rope s old.past (next_step scenario s) ≡ true = rw was at plain in
    let e2 : reaches_in old.named s (next_step scenario s) ≡ false = rw was at unreached in
    ap (λ b. taken (counts_of old kind) (account_number (here scenario s)) b)
    (none_reached old.named scenario.rope s (next_step scenario s) old.past e e2 kind)
