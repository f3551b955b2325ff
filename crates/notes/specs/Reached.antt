-- What is counted of a step of which nothing is told but that it reaches another bank.
use Rattle.std.specs.Prelude.{◌≡◌, ℕ, ◌+◌, ◌&&◌, Bool, false, not, if◌then◌else◌}
use Rattle.notes.specs.declared.kind.Kind.{Kind}
use Rattle.notes.specs.declared.kind.Kind.TheVariants.{OtherBank, FixedBank}
use Rattle.notes.specs.Counted.{Book, counted_more, counts_of, firsts_by, is_first, Lists, some_kind}

-- what happens in it: whether it reaches another bank, and whether its source names a place of erasable memory
abbrev pub only_bank : Bool → Bool → Kind → Bool
only_bank reaches erasable OtherBank = reaches && erasable
only_bank reaches erasable FixedBank = reaches && not erasable
only_bank reaches erasable kind = false

-- it is counted at a number; what waits, and what the steps before have left, stays
pub record CountsPlain (number : ℕ) (reaches erasable : Bool) (old new : Book) : Type 0 where
  pub each : (kind : Kind) → counts_of new kind ≡ counted_more (counts_of old kind) number (only_bank reaches erasable kind)
  pub named : new.named ≡ old.named
  pub waits : new.waits ≡ old.waits
  pub past : new.past ≡ old.past
  pub steps : new.steps ≡ old.steps + 1
  pub last : new.last ≡ (if some_kind (λ kind. is_first (counts_of old kind) number (only_bank reaches erasable kind)) then new.steps
      else old.last)
  pub listed : Lists (firsts_by (λ kind. is_first (counts_of old kind) number (only_bank reaches erasable kind))) new.steps
      old.firsts new.firsts
