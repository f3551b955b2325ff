-- What is told of channels says what the steps did.
use Rattle.std.proofs.Common.{◌≡◌, ◌≢◌, ℕ, zero, suc, ◌%◌, ◌<◌, ◌&&◌, ◌||◌, ◌==◌, ◌⊎◌, Bool, true, false, not, List, length, get_or}
use Rattle.std.proofs.Common.{set, replicate, Option, Some, None, is_some, refl, sym, ap, ◌∙◌, subst, inl, inr, arith, if◌then◌else◌}
use Rattle.std.proofs.lemmas.Bool.{cases_Bool, cases_order}
use Rattle.std.proofs.lemmas.Bool.Decides.{eqb_tells, nat_tests}
use Rattle.std.proofs.lemmas.List.{get_or-set_same, get_or-set_other, length-set, length-replicate}
use Rattle.words.proofs.Replicated.{get_replicated}
use Rattle.feed.specs.declared.input.Input.TheVariants.{Count, Word, Interrupt}
use Rattle.cpu.specs.declared.next_step.NextStep.{NextStep}
use Rattle.cpu.specs.declared.next_step.NextStep.TheVariants.{Takes, Enters, Executes}
use Rattle.cpu.specs.NextStep.{next_step}
use Rattle.cpu.specs.Run.{run}
use Rattle.cpu.specs.State.{Scenario, State}
use Rattle.notes.specs.Past.{came_by, came_first, channels, is_used_otherwise, past, read_by, reads_channel}
use Rattle.notes.specs.Unread.{FirstWord, SomeReads, UnreadIsExact, comes, is_read_in}

-- ## How long the lists are
length_first : (came : List (Option ℕ)) (n cycles : ℕ) → length (came_first came n cycles) ≡ length came
length_first came n cycles =
    elim (cases_Bool (is_some (get_or came n None))) [
      | inl there ↦ rw there refl
      | inr none ↦ rw none (length-set came n (Some cycles))
    ]

length_came : (s : State) (came : List (Option ℕ)) (step : NextStep) → length (came_by s came step) ≡ length came
length_came s came (Takes (Count counter sequence)) = refl
length_came s came (Takes (Word n w)) =
    elim (cases_Bool (is_used_otherwise n)) [
      | inl used ↦ rw used refl
      | inr not_used ↦ rw not_used (length_first came n s.cycles)
    ]
length_came s came (Takes (Interrupt k)) = refl
length_came s came (Enters k) = refl
length_came s came (Executes f) = refl

length_read : (read : List Bool) (step : NextStep) → length (read_by read step) ≡ length read
length_read read (Takes input) = refl
length_read read (Enters k) = refl
length_read read (Executes f) =
    elim (cases_Bool (reads_channel f)) [
      | inl reads ↦ rw reads (length-set read _ true)
      | inr none ↦ rw none refl
    ]

abbrev no_cycles : Option ℕ
no_cycles = None

lengths : (scenario : Scenario) (n : ℕ) → (length (past scenario n).came ≡ channels) × (length (past scenario n).read ≡ channels)
unfolding past
lengths scenario zero = (length-replicate channels no_cycles, length-replicate channels false)
lengths scenario (suc n) =
    let before = lengths scenario n in (
      length_came (run scenario n) (past scenario n).came (next_step scenario (run scenario n)) ∙ before.0,
      length_read (past scenario n).read (next_step scenario (run scenario n)) ∙ before.1,
    )

-- ## What a step does to one channel
same_number : (n : ℕ) → (n == n) ≡ true
same_number n = grind (arith, nat_tests)

other_number : (n c : ℕ) → c ≢ n → (n == c) ≡ false
other_number n c apart = grind (arith, nat_tests)

-- the first word is kept
abbrev kept_cycles : ℕ → Bool → Option ℕ → Option ℕ
kept_cycles cycles b None = if b then Some cycles else None
kept_cycles cycles b (Some since) = Some since

kept_still : (cycles : ℕ) (old : Option ℕ) → old ≡ kept_cycles cycles false old
kept_still cycles None = refl
kept_still cycles (Some since) = refl

first_here : (came : List (Option ℕ)) (n cycles : ℕ) (old : Option ℕ) → n < length came → get_or came n None ≡ old
    → get_or (came_first came n cycles) n None ≡ kept_cycles cycles true old
first_here came n cycles None within e = rw e (get_or-set_same came n (Some cycles) None within)
first_here came n cycles (Some since) within e = rw e e

first_other : (came : List (Option ℕ)) (n c cycles : ℕ) → c ≢ n → get_or (came_first came n cycles) c None ≡ get_or came c None
first_other came n c cycles apart =
    elim (cases_Bool (is_some (get_or came n None))) [
      | inl there ↦ rw there refl
      | inr none ↦ rw none (get_or-set_other came n c (Some cycles) None apart)
    ]

word_here : (came : List (Option ℕ)) (c cycles : ℕ) → c < length came
    → get_or (if is_used_otherwise c then came else came_first came c cycles) c None
    ≡ kept_cycles cycles ((c == c) && not (is_used_otherwise c)) (get_or came c None)
word_here came c cycles within =
    elim (cases_Bool (is_used_otherwise c)) [
      | inl used ↦ rw (used, same_number c) (kept_still cycles (get_or came c None))
      | inr not_used ↦ rw (not_used, same_number c) (first_here came c cycles (get_or came c None) within refl)
    ]

word_comes : (came : List (Option ℕ)) (n c cycles : ℕ) → c < length came
    → get_or (if is_used_otherwise n then came else came_first came n cycles) c None
    ≡ kept_cycles cycles ((n == c) && not (is_used_otherwise c)) (get_or came c None)
word_comes came n c cycles within =
    elim (eqb_tells c n) [
      | inl one ↦
          subst (λ m. get_or (if is_used_otherwise m then came else came_first came m cycles) c None
          ≡ kept_cycles cycles ((m == c) && not (is_used_otherwise c)) (get_or came c None))
          one.1 (word_here came c cycles within)
      | inr apart ↦
          elim (cases_Bool (is_used_otherwise n)) [
            | inl used ↦ rw (used, other_number n c apart.1) (kept_still cycles (get_or came c None))
            | inr not_used ↦ rw (not_used, other_number n c apart.1)
                (first_other came n c cycles apart.1 ∙ kept_still cycles (get_or came c None))
          ]
    ]

came_at : (s : State) (came : List (Option ℕ)) (step : NextStep) (c : ℕ) → c < length came
    → get_or (came_by s came step) c None ≡ kept_cycles s.cycles (comes c step) (get_or came c None)
came_at s came (Takes (Count counter sequence)) c within = kept_still s.cycles (get_or came c None)
came_at s came (Takes (Word n w)) c within = word_comes came n c s.cycles within
came_at s came (Takes (Interrupt k)) c within = kept_still s.cycles (get_or came c None)
came_at s came (Enters k) c within = kept_still s.cycles (get_or came c None)
came_at s came (Executes f) c within = kept_still s.cycles (get_or came c None)

or_true : (b : Bool) → true ≡ (b || true)
or_true true = refl
or_true false = refl

or_false : (b : Bool) → b ≡ (b || false)
or_false true = refl
or_false false = refl

read_here : (read : List Bool) (c : ℕ) → c < length read → get_or (set read c true) c false ≡ (get_or read c false || (c == c))
read_here read c within = rw (same_number c) (get_or-set_same read c true false within ∙ or_true (get_or read c false))

read_one : (read : List Bool) (n c : ℕ) → c < length read → get_or (set read n true) c false ≡ (get_or read c false || (n == c))
read_one read n c within =
    elim (eqb_tells c n) [
      | inl one ↦ subst (λ m. get_or (set read m true) c false ≡ (get_or read c false || (m == c))) one.1 (read_here read c within)
      | inr apart ↦ rw (other_number n c apart.1) (get_or-set_other read n c true false apart.1 ∙ or_false (get_or read c false))
    ]

read_at : (read : List Bool) (step : NextStep) (c : ℕ) → c < length read
    → get_or (read_by read step) c false ≡ (get_or read c false || is_read_in c step)
read_at read (Takes input) c within = or_false (get_or read c false)
read_at read (Enters k) c within = or_false (get_or read c false)
read_at read (Executes f) c within =
    elim (cases_Bool (reads_channel f)) [
      | inl reads ↦ rw reads (read_one read (f.word % channels) c within)
      | inr none ↦ rw none (or_false (get_or read c false))
    ]

-- ## The first word
came_next : (scenario : Scenario) (c n : ℕ) → c < channels
    → get_or (past scenario (suc n)).came c None ≡ kept_cycles (run scenario n).cycles (comes c (next_step scenario (run scenario n)))
    (get_or (past scenario n).came c None)
unfolding past
came_next scenario c n known = came_at (run scenario n) (past scenario n).came (next_step scenario (run scenario n)) c
    (omega (arith, known, (lengths scenario n).0))

kept_none : (cycles : ℕ) (b : Bool) (old : Option ℕ) → kept_cycles cycles b old ≡ None → (old ≡ None) × (b ≡ false)
kept_none cycles true None e = absurd (let no : Some cycles ≡ None = e in cc)
kept_none cycles false None e = (refl, refl)
kept_none cycles b (Some since) e = absurd (let no : Some since ≡ None = e in cc)

none_of : (n c : ℕ) → get_or (replicate n no_cycles) c None ≡ None
none_of n c = get_replicated no_cycles n c

none_read : (n c : ℕ) → get_or (replicate n false) c false ≡ false
none_read n c = get_replicated false n c

some_same : (a b : ℕ) → Some a ≡ Some b → a ≡ b
some_same a b e = cc

none_at_first : (c : ℕ) → get_or (replicate channels no_cycles) c None ≡ None
none_at_first c = none_of channels c

none_word : (scenario : Scenario) (c n : ℕ) → c < channels → get_or (past scenario n).came c None ≡ None → (u : ℕ) → u < n
    → comes c (next_step scenario (run scenario u)) ≡ false
none_word scenario c zero known e u lt = absurd (omega (arith, lt))
none_word scenario c (suc n) known e u lt =
    let parts = kept_none (run scenario n).cycles (comes c (next_step scenario (run scenario n))) (get_or (past scenario n).came c None)
    (sym (came_next scenario c n known) ∙ e) in
    elim (eqb_tells u n) [
      | inl last ↦ ap (λ t. comes c (next_step scenario (run scenario t))) last.1 ∙ parts.1
      | inr apart ↦ none_word scenario c n known parts.0 u (omega (arith, lt, apart.1))
    ]

-- what is kept was kept before, or is of the step
kept_some : (cycles since : ℕ) (b : Bool) (old : Option ℕ) → kept_cycles cycles b old ≡ Some since
    → (old ≡ Some since) ⊎ ((old ≡ None) × ((b ≡ true) × (cycles ≡ since)))
kept_some cycles since true None e = inr (refl, (refl, some_same cycles since e))
kept_some cycles since false None e = absurd (let no : None ≡ Some since = e in cc)
kept_some cycles since b (Some before) e = inl e

first_word : (scenario : Scenario) (c n since : ℕ) → c < channels → get_or (past scenario n).came c None ≡ Some since
    → FirstWord scenario c n since
unfolding past
first_word scenario c zero since known e = absurd (let no : None ≡ Some since = sym (none_at_first c) ∙ e in cc)
first_word scenario c (suc n) since known e =
    elim (kept_some (run scenario n).cycles since (comes c (next_step scenario (run scenario n))) (get_or (past scenario n).came c None)
    (sym (came_next scenario c n known) ∙ e)) [
      | inl before ↦
          let first = first_word scenario c n since known before in
          record { step = first.step; within = omega (arith, first.within); hit = first.hit; first = first.first; cycles = first.cycles }
      | inr here ↦ record { step = n; within = omega arith; hit = here.1.0; first = none_word scenario c n known here.0; cycles = here.1.1 }
    ]

one_first : (scenario : Scenario) (c n one other : ℕ) → FirstWord scenario c n one → FirstWord scenario c n other → one ≡ other
one_first scenario c n one other a b =
    elim (cases_order a.step b.step) [
      | inl same ↦ sym a.cycles ∙ ap (λ t. (run scenario t).cycles) same ∙ b.cycles
      | inr apart ↦
          elim apart [
            | inl before ↦ absurd (let wrong : true ≡ false = sym a.hit ∙ b.first a.step before in cc)
            | inr after ↦ absurd (let wrong : true ≡ false = sym b.hit ∙ a.first b.step after in cc)
          ]
    ]

word_first : (scenario : Scenario) (c n since : ℕ) (kept : Option ℕ) → c < channels → get_or (past scenario n).came c None ≡ kept
    → FirstWord scenario c n since → kept ≡ Some since
word_first scenario c n since None known e w = absurd
    (let wrong : true ≡ false = sym w.hit ∙ none_word scenario c n known e w.step w.within in cc)
word_first scenario c n since (Some other) known e w = ap (λ cycles. Some cycles)
    (one_first scenario c n other since (first_word scenario c n other known e) w)

-- ## What is read
read_next : (scenario : Scenario) (c n : ℕ) → c < channels
    → get_or (past scenario (suc n)).read c false
    ≡ (get_or (past scenario n).read c false || is_read_in c (next_step scenario (run scenario n)))
unfolding past
read_next scenario c n known = read_at (past scenario n).read (next_step scenario (run scenario n)) c
    (omega (arith, known, (lengths scenario n).1))

either : (a b : Bool) → (a || b) ≡ true → (a ≡ true) ⊎ (b ≡ true)
either true b e = inl refl
either false b e = inr e

some_reads : (scenario : Scenario) (c n : ℕ) → c < channels → get_or (past scenario n).read c false ≡ true → SomeReads scenario c n
unfolding past
some_reads scenario c zero known e = absurd (let no : false ≡ true = sym (none_read channels c) ∙ e in cc)
some_reads scenario c (suc n) known e =
    elim (either (get_or (past scenario n).read c false) (is_read_in c (next_step scenario (run scenario n)))
    (sym (read_next scenario c n known) ∙ e)) [
      | inl before ↦ let some = some_reads scenario c n known before in record
          { step = some.step; within = omega (arith, some.within); reads = some.reads }
      | inr here ↦ record { step = n; within = omega arith; reads = here }
    ]

or_second : (a b : Bool) → b ≡ true → (a || b) ≡ true
or_second true b e = refl
or_second false b e = e

or_first : (a b : Bool) → a ≡ true → (a || b) ≡ true
or_first a b e = rw e refl

reads_some : (scenario : Scenario) (c n t : ℕ) → c < channels → t < n → is_read_in c (next_step scenario (run scenario t)) ≡ true
    → get_or (past scenario n).read c false ≡ true
reads_some scenario c zero t known lt e = absurd (omega (arith, lt))
reads_some scenario c (suc n) t known lt e =
    elim (eqb_tells t n) [
      | inl last ↦ read_next scenario c n known ∙ or_second (get_or (past scenario n).read c false) _
          (ap (λ u. is_read_in c (next_step scenario (run scenario u))) (sym last.1) ∙ e)
      | inr apart ↦ read_next scenario c n known ∙ or_first _ (is_read_in c (next_step scenario (run scenario n)))
          (reads_some scenario c n t known (omega (arith, lt, apart.1)) e)
    ]

pub is_exact : UnreadIsExact
is_exact = λ scenario c n known.
    record {
      first = λ since. (
        first_word scenario c n since known,
        word_first scenario c n since (get_or (past scenario n).came c None) known
            refl,
      );
      read = (some_reads scenario c n known, λ s. reads_some scenario c n s.step known s.within s.reads);
    }
