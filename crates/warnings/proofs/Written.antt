-- The target of a line that writes no word is of no account to what the lines say of banks.
use Rattle.std.proofs.Common.{◌≡◌, ◌∙◌, Bool, false, ◌&&◌, ◌||◌, ap, ap₂, sym}
use Rattle.yayul.specs.Readings.{Parts}
use Rattle.warnings.specs.Roles.{sets_bank, takes_pair, writes_erasable}
use Rattle.warnings.specs.Warnings.{banks_after, indexed_after, is_instruction, may_set, may_write}
use Rattle.warnings.specs.declared.switched.BankRegister.{BankRegister}
use Rattle.warnings.specs.declared.switched.BankRegister.TheVariants.{Eb, Fb}
use Rattle.warnings.specs.declared.switched.Banks.{Banks}
use Rattle.warnings.specs.declared.switched.Target.{Target}
use Rattle.warnings.specs.declared.switched.Target.TheVariants.{Unknown}

-- a line that writes no word sets a register or does not, whatever its target
no_write : (register : BankRegister) (indexed : Bool) (target : Target) (parts : Parts) → writes_erasable parts.role ≡ false
    → may_set register indexed target parts ≡ (sets_bank parts.role || false)
no_write register indexed target parts none =
    ap (λ writes. sets_bank parts.role || (writes && may_write register indexed (takes_pair parts.role) target)) none

pub written_apart : (target : Target) (parts : Parts) → writes_erasable parts.role ≡ false → (banks : Banks)
    → banks_after banks Unknown parts ≡ banks_after banks target parts
written_apart target parts none banks =
    let same : (register : BankRegister) → may_set register banks.indexed Unknown parts ≡ may_set register banks.indexed target parts
    = λ register. no_write register banks.indexed Unknown parts none ∙ sym (no_write register banks.indexed target parts none) in
    ap₂ {C = Banks} (λ erasable fixed. record {
      indexed = indexed_after banks.indexed parts;
      sets_erasable = banks.sets_erasable || erasable;
      sets_fixed = banks.sets_fixed || fixed;
      instructs = banks.instructs || is_instruction parts;
    }) (same Eb) (same Fb)
