-- Steps that repeat: what the word at a place of fixed memory reads and writes is the same whenever the bank registers, extracode and the
-- level are. So it is worked out once, kept at its account, and only counted again; what is kept is added to the counts later.
use Rattle.std.specs.Prelude.{◌≡◌, ℕ, ◌+◌, ◌-◌, ◌*◌, ◌/◌, ◌%◌, ◌<◌, ◌≤◌, ◌&&◌, Bool, true, false, not, is_some, List, [], ◌∷◌, ◌++◌}
use Rattle.std.specs.Prelude.{length, get_or}
use Rattle.std.specs.List.{flat_map}
use Rattle.words.specs.Numbers.{correct, extend}
use Rattle.words.specs.Signs.{over}
use Rattle.words.specs.declared.wide.Overflow.TheVariants.{No}
use Rattle.space.specs.Cells.{at, erasable_bank, erasable_count, fixed_bank, superbank}
use Rattle.space.specs.Places.{place}
use Rattle.space.specs.declared.place.Linear.TheVariants.{Erasable, Fixed}
use Rattle.rope.specs.Places.{Words, bank_words, word_at}
use Rattle.cpu.specs.declared.account.Account.{Account}
use Rattle.cpu.specs.declared.account.Account.TheVariants.{Input, Entry, Waiting, Place}
use Rattle.cpu.specs.Codes.{Code, code_of}
use Rattle.cpu.specs.Effects.{accumulator_of, has_overflow}
use Rattle.cpu.specs.Links.{fetch_flows, flows_of, targets_by}
use Rattle.cpu.specs.Profiles.{account_of}
use Rattle.cpu.specs.Reads.{reads_of}
use Rattle.cpu.specs.State.{State, Scenario}
use Rattle.access.specs.declared.kept.Kind.{Kind}
use Rattle.access.specs.declared.view.View.{View}
use Rattle.access.specs.Accesses.{cell_in, slot_count, slots_by, times_in}
use Rattle.access.specs.Levels.{level_executed, levels}
use Rattle.access.specs.Below.{AreBelow}

-- the bank registers, extracode, and the level of a step that executes an instruction, where an interrupt was entered last
abbrev pub kind_of : State → ℕ → Kind
kind_of s last = record {
  eb = at s.cells erasable_bank;
  fb = at s.cells fixed_bank;
  sup = superbank s.cells;
  extra = s.extra;
  level = level_executed s last;
}

-- a step repeats: it executes the word at a place of fixed memory, to which nothing is added, and A does not overflow
abbrev pub is_fixed : Account → Bool
is_fixed Input = false
is_fixed Entry = false
is_fixed Waiting = false
is_fixed (Place (Erasable p)) = false
is_fixed (Place (Fixed bank offset)) = true

abbrev pub repeats : Scenario → State → Bool
repeats scenario s =
    is_fixed (account_of scenario s) && (not (is_some s.waiting_sum) && not (has_overflow (over (accumulator_of s))))

-- the word at an account of fixed memory, and what it reads and writes in a step of a kind
abbrev pub code_at : Words → ℕ → Bool → Code
code_at rope number extra =
    let k = number - (3 + erasable_count) in code_of extra (correct (extend (word_at rope (k / bank_words) (k % bank_words))))

abbrev pub kind_reads : Kind → Code → List ℕ
kind_reads kind code = flat_map cell_in (reads_of (λ k. place k kind.eb kind.fb kind.sup) code.instruction code.operand)

abbrev pub kind_writes : Kind → Code → List ℕ
kind_writes kind code =
    targets_by (fetch_flows false ++ flows_of (λ k. place k kind.eb kind.fb kind.sup) No code.instruction code.operand)

abbrev pub slots_by_code : View → ℕ → Kind → Code → List ℕ
slots_by_code view number kind code = slots_by view number kind.level (kind_reads kind code) (kind_writes kind code)

unfoldable pub slots_of_kind : View → Words → ℕ → Kind → List ℕ
slots_of_kind view rope number kind = slots_by_code view number kind (code_at rope number kind.extra)

-- what is kept at an account: the kind of its last step that repeats, what each such step counts, and how many were not counted yet
pub record Kept : Type 0 where
  pub kind : Kind
  pub slots : List ℕ
  pub count : ℕ

abbrev pub no_kind : Kind
no_kind = record { eb = 0; fb = 0; sup = false; extra = false; level = levels }

abbrev pub no_kept : Kept
no_kept = record { kind = no_kind; slots = []; count = 0 }

-- how often a number was not counted yet
abbrev pub owed_by : Kept → ℕ → ℕ
owed_by k i = k.count * times_in i k.slots

abbrev pub owed : List Kept → ℕ → ℕ
owed [] i = 0
owed (k ∷ ks) i = owed_by k i + owed ks i

-- what is kept at an account is what the word there counts
pub record IsKept (view : View) (rope : Words) (number : ℕ) (k : Kept) : Type 0 where
  pub below : AreBelow (slot_count view) k.slots
  pub short : length k.slots ≤ 18
  pub same : k.kind.level < levels → k.slots ≡ slots_of_kind view rope number k.kind

abbrev pub AreKept : View → Words → List Kept → Type 0
AreKept view rope kept = (j : ℕ) → IsKept view rope j (get_or kept j no_kept)

-- of no account more was kept
abbrev pub AreFewKept : List Kept → ℕ → Type 0
AreFewKept kept most = (j : ℕ) → (get_or kept j no_kept).count ≤ most
