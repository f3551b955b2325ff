-- What address words name, worked out by hand.
use Rattle.std.proofs.Common.{◌≡◌, [], ◌∷◌, refl, None, Some, false}
use Rattle.std.specs.Prelude.{codes}
use Rattle.space.specs.Places.{fb_of, place, sup_of}
use Rattle.space.specs.declared.place.Linear.TheVariants as linear
use Rattle.symbols.specs.declared.values.Value.TheVariants as value
use Rattle.yayul.specs.declared.role.Role.{Role}
use Rattle.yayul.specs.Readings.{Parts}
use Rattle.addressed.specs.Words.{named_by, told_by, uncomplemented}

-- ADRES: an address from 02000 to 03777 is one of the bank where the word stands
address_of_own_bank : told_by Role.Address (linear.Fixed 0o43 0) 0o2345 0 ≡ Some (0o43, 0o345)
unfolding place fb_of sup_of
address_of_own_bank = refl

-- one from 04000 on is one of bank 2 or 3
address_of_bank_three : told_by Role.Address (linear.Fixed 0o43 0) 0o6345 0 ≡ Some (3, 0o345)
unfolding place fb_of sup_of
address_of_bank_three = refl

-- one below is erasable
address_of_a_cell : told_by Role.Address (linear.Fixed 0o43 0) 0o1400 0 ≡ None
unfolding place fb_of sup_of
address_of_a_cell = refl

-- CADR of bank 5: five times 02000, and the offset
fixed_address : told_by Role.FixedAddress (linear.Fixed 2 0) 0o12345 0 ≡ Some (5, 0o345)
unfolding place
fixed_address = refl

-- 2CADR: FB 033 is bank 033, and with the superbank bit bank 043
far_address : told_by Role.FarAddress (linear.Fixed 2 0) 0o2345 0o66000 ≡ Some (0o33, 0o345)
unfolding place
far_address = refl

far_address_of_superbank : told_by Role.FarAddress (linear.Fixed 2 0) 0o2345 0o66103 ≡ Some (0o43, 0o345)
unfolding place
far_address_of_superbank = refl

-- the superbank bit counts from FB 030 on
far_address_of_low_bank : told_by Role.FarAddress (linear.Fixed 2 0) 0o2345 0o12100 ≡ Some (5, 0o345)
unfolding place
far_address_of_low_bank = refl

-- a constant names nothing, nor does BBCON, whose word is a bank alone
constant : told_by Role.Octal (linear.Fixed 2 0) 0o4000 0 ≡ None
constant = refl

bank_constant : told_by Role.BankConstant (linear.Fixed 2 0) 0o12000 0 ≡ None
bank_constant = refl

-- a complement names what its word does
complement : uncomplemented (codes "-CADR") 0o65432 ≡ 0o12345
complement = refl

no_complement : uncomplemented (codes "CADR") 0o12345 ≡ 0o12345
no_complement = refl

-- CADR TASK, where TASK stands in bank 043, whose FB is that of bank 033
parts : Parts
parts = record {
  label = None;
  operator = Some (record { start = 8; text = codes "CADR" });
  operand = Some (record { start = 16; text = codes "TASK" });
  offset = None;
  more = false;
  role = Some Role.FixedAddress;
}

symbol_of_superbank : named_by ((codes "TASK", value.Fixed 0o43 0o345) ∷ []) parts (linear.Fixed 2 0) 0o66346 0 ≡ Some (0o43, 0o346)
unfolding place parts
symbol_of_superbank = refl

-- of a number the word alone tells
no_symbol : named_by [] parts (linear.Fixed 2 0) 0o66346 0 ≡ Some (0o33, 0o346)
unfolding place parts
no_symbol = refl
