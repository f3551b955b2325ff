-- What a source gives that fixed memory was written as.
use Rattle.std.specs.Prelude.{◌≡◌, ◌<◌, ◌^◌, ◌==◌, ℕ, Bool, true, List, Option, None, Some, Ok, if◌then◌else◌}
use Rattle.rope.specs.declared.spelling.Version.{Version}
use Rattle.rope.specs.Image.{image}
use Rattle.rope.specs.Places.{banks, bank_words, Words, slot_at, word_at}
use Rattle.yayul.specs.declared.language.Language.TheVariants.{Standard}
use Rattle.yayul.specs.Program.{Program, program}
use Rattle.audit.specs.SourceLines.{source_text}

-- every place holds a number of 15 bits, as each that is read
abbrev pub AreWords : Words → Type 0
AreWords words = (bank offset : ℕ) → word_at words bank offset < 2 ^ 15

-- one bank that there is, or all
abbrev pub IsBank : Option ℕ → Type 0
IsBank None = Unit {0}
IsBank (Some bank) = bank < banks

-- whether a bank is written, where one is asked for or all are
abbrev pub is_written : Option ℕ → ℕ → Bool
is_written None bank = true
is_written (Some one) bank = bank == one

-- a source assembles in the standard language; then at the places of the banks that are written the words stand which stood there, 0 where
-- none did, and no other word stands
pub record GivesBack (words : Words) (bank : Option ℕ) (source : List ℕ) : Type 0 where
  pub given : Program
  pub assembles : program Standard source ≡ Ok given
  pub same : (b offset : ℕ) → b < banks → offset < bank_words
      → slot_at given.rope b offset ≡ (if is_written bank b then Some (word_at words b offset) else None)

-- the source of all banks assembles, and the image is the one of the words
pub record GivesImage (version : Version) (words : Words) : Type 0 where
  pub given : Program
  pub assembles : program Standard (source_text words None) ≡ Ok given
  pub same : image version given.rope ≡ image version words
